use Rattle.std.proofs.Common.{◌≡◌, true, None, ◌∷◌, [], ◌∙◌, ap, sym, rules, map}
use Rattle.std.specs.Map.Iter.{deref_pair}
use Rattle.std.proofs.lemmas.List.{map-append}
use Rattle.std.proofs.lemmas.Map.Iter.{iter_end}
use Rattle.cics_run.specs.Messages.Nearest.{is_near, first_near}
use Rattle.cics_run.proofs.OfMessages.Nearest.{near-found}
use Rattle.cics_run.proofs.messages.nearest.first_near_file.Goals as goal

pub loop-other-preserved-then-is_near : goal.loop-other-preserved-then-is_near
loop-other-preserved-then-is_near c =
    let name = c.args.name.now in
    let none : c.loop-other.found ≡ None = search rules in
    let near : is_near c.args.places name c.in-Some.other.now ≡ true = search rules in
    near-found c.args.places name (map deref_pair c.loop-other.yielded) (c.in-Some.other.now, c.in-Some.field-0-1.now) c.loop-other.found c.loop-other.invariant none near
    ∙ ap (first_near c.args.places name) (sym (map-append deref_pair c.loop-other.yielded ((c.in-Some.other, c.in-Some.field-0-1) ∷ [])))

pub returns : goal.returns
returns c =
    let all : map deref_pair c.loop-other.yielded ≡ c.files.result.now = search (rules, iter_end) in
    c.loop-other.invariant ∙ ap (first_near c.args.places c.args.name.now) (all ∙ c.files.ensures.files)
