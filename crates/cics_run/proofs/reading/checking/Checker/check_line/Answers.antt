use Rattle.std.proofs.Common.{◌+◌, ap, sym, ◌∙◌, refl, arith}
use Rattle.std.specs.Prelude.{◌&&◌}
use Rattle.cics_run.specs.Reading.Checks.{told_notice, with_found}
use Rattle.cics_run.proofs.OfReading.Checking.{behind-told, behind-kept, kept-text, kept-faulty, tried-fault, tells-fault, tells-nothing}
use Rattle.cics_run.proofs.reading.checking.Checker.check_line.Goals as goal

pub returns-clause-behind : goal.returns-clause-behind
returns-clause-behind c k at =
    behind-told k c.args.self.now _ c.args.line.now c.in_ok-found.found c.in-Some.fault c.push_told.result at c.in_ok-found.ensures (sym c.told_fault.ensures ∙ c.in-Some.is) refl refl (ap (λ b. c.args.self.now.sure && b) c.adds_nothing.ensures) refl

pub returns-clause-tells : goal.returns-clause-tells
returns-clause-tells c k at =
    let old = c.args.self.now in
    let same = tried-fault k old c.try_line.new.stage c.args.line.now c.in_ok-found.found at c.in_ok-found.ensures in
    tells-fault c.args.file old k c.args.line.now old.text.items c.push_told.new.out.items c.in_ok-found.found.fault c.in-Some.fault c.push_told.result at same
    (sym c.told_fault.ensures ∙ c.in-Some.is) c.push_told.ensures

pub returns-in_default-clause-behind : goal.returns-in_default-clause-behind
returns-in_default-clause-behind c k at =
    let old = c.args.self.now in
    let mid = record old { stage = c.try_line.new.stage; number = old.number + 1 } in
    behind-kept k old mid c.keep.new.self c.args.line.now c.in_ok-found.found c.keep.result at c.in_ok-found.ensures (sym c.told_fault.ensures ∙ c.in_default.is) refl refl refl refl c.keep.ensures

pub returns-in_default-clause-tells : goal.returns-in_default-clause-tells
returns-in_default-clause-tells c k at =
    let old = c.args.self.now in
    let mid = record old { stage = c.try_line.new.stage; number = old.number + 1 } in
    let kept = with_found mid.stage mid.number c.args.line.now mid.remarks (told_notice mid.sure c.in_ok-found.found.notice) in
    let same = tried-fault k old c.try_line.new.stage c.args.line.now c.in_ok-found.found at c.in_ok-found.ensures in
    tells-nothing c.args.file old k c.args.line.now old.text.items c.keep.new.self.text.items c.in_ok-found.found.fault c.keep.result at same (sym c.told_fault.ensures ∙ c.in_default.is)
    (kept-text mid c.keep.new.self kept c.keep.result c.keep.ensures)

pub returns-in_default-clause-faulty : goal.returns-in_default-clause-faulty
returns-in_default-clause-faulty c =
    let old = c.args.self.now in
    let mid = record old { stage = c.try_line.new.stage; number = old.number + 1 } in
    let kept = with_found mid.stage mid.number c.args.line.now mid.remarks (told_notice mid.sure c.in_ok-found.found.notice) in
    kept-faulty mid c.keep.new.self kept c.keep.result (omega (arith, c.requires.faulty)) c.keep.ensures
