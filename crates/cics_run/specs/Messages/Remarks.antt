-- The remarks of a run: a line for each event that a person is told of at its end.
use Rattle.std.specs.Prelude.{ℕ, ◌+◌, ◌-◌, ◌^◌, ◌==◌, nat_lt, if◌then◌else◌, Option, None, List, [], ◌∷◌, ◌++◌, length, codes}
use Rattle.std.specs.Borrow.{Bor}
use Rattle.std.specs.Fmt.{decimal}
use Rattle.std.specs.List.{flat_map, fold}
use Rattle.cics_script.specs.Advice.Places.{place_text}
use Rattle.cics_run.specs.Stage.Journal.{line}
use Rattle.cics_run.specs.Stage.Notices.{notices_of}
use Rattle.cics_run.specs.Stage.Stages.{Step}
use Rattle.cics_run.specs.Messages.Noted.{notice_text}
use Rattle.cics_run.specs.declared.stage.notices.Notice.{Notice}
use Rattle.cics_run.specs.declared.stage.notices.Scope.{Scope}
use Rattle.cics_run.specs.declared.stage.stage.Stage.{Stage}
use Rattle.cics_run.specs.declared.messages.remarks.Remark.{Remark}
use Rattle.cics_run.specs.declared.messages.remarks.Remarks.{Remarks}
use Rattle.cics_run.specs.declared.messages.remarks.TheConstants.{MOST_REMARKS}

-- before the first line
abbrev pub no_remarks : Scope → Remarks
no_remarks scope = record { scope = scope; kept = []; more = 0 }

-- one that is not kept is counted
abbrev pub counted : Remarks → Remarks
counted r = record { scope = r.scope; kept = r.kept; more = if nat_lt r.more (2 ^ 64 - 1) then r.more + 1 else r.more }

-- the first 64 remarks are kept
abbrev pub with_remark : Remarks → Remark → Remarks
with_remark r remark =
    if nat_lt (length r.kept) MOST_REMARKS then record { scope = r.scope; kept = r.kept ++ remark ∷ []; more = r.more } else counted r

-- the remark on a notice of the line with this number
abbrev pub with_notice : Stage → ℕ → List ℕ → Remarks → Notice → Remarks
with_notice stage number bytes r notice = with_remark r (record { number = number; text = notice_text stage bytes notice })

-- the remarks on what a line with this number led to
abbrev pub remarked : Remarks → ℕ → List ℕ → Step → Remarks
remarked r number bytes s = fold (with_notice s.stage number bytes) r (notices_of r.scope s.events)

-- the line of a remark
abbrev pub remark_line : Option (Bor (List ℕ)) → Remark → List ℕ
remark_line file r = line (place_text (record { file = file; line = r.number }) None ++ r.text)

-- the line on those that are not kept, if there are any
abbrev pub more_line : ℕ → List ℕ
more_line more = if more == 0 then [] else codes "cicsrun: and " ++ (decimal more ++ codes " more\n")

-- all lines
abbrev pub remark_lines : Option (Bor (List ℕ)) → Remarks → List ℕ
remark_lines file r = flat_map (remark_line file) r.kept ++ more_line r.more
