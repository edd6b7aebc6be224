use Rattle.std.proofs.Common.{arith, ◌<◌, ◌∙◌, refl, sym, ap, subst, length}
use Rattle.std.proofs.lemmas.List.{length-map}
use Rattle.std.proofs.lemmas.Result.{err_from_is_err_and}
use Rattle.cics_script.specs.Options.{Entry, reads, at_option, behind_option}
use Rattle.cics_script.specs.Views.{content, entries}
use Rattle.cics_script.proofs.OptionSteps.{refuses_behind, behind_option-open, reads-entered, reads-refused, reads-past, ended}
use Rattle.cics_script.proofs.OptionRoom.{AreOnce, once-none, once-more, once-room}
use Rattle.cics_script.proofs.options.read_options.Goals as goal

pub returns-in_err-kind : goal.returns-in_err-kind
returns-in_err-kind c =
    let first = rw c.in-Ok-Some.field-0-is at c.in-Ok-Some.ensures.some in
    let found = entries c.options.found.items in
    let p = err_from_is_err_and c.from_residual.result c.from_residual.ensures.1 in
    rw (p.1, p.2) (refuses_behind _ _ _
    (sym c.options.invariant.read ∙ ap (λ ts. reads c.args.form (at_option c.options.last) found ts) first.2.0)
    (λ remembered. reads-refused c.args.form c.options.last found first.0 _ _ _ first.1 (rw c.deref.ensures.0 at c.in_err-kind.ensures)))

pub read_option-requires : goal.read_option-requires
read_option-requires c =
    let found = c.options.found.items in
    let room = once-room c.args.form (entries found) _ c.in_ok-kind.kind c.options.invariant.once (sym (rw c.deref.ensures.0 at c.in_ok-kind.ensures)) in
    omega (arith, room, length-map {B = Entry} found (λ one. (one.option, content one.value)))

pub returns-in_err-rest : goal.returns-in_err-rest
returns-in_err-rest c =
    let first = rw c.in-Ok-Some.field-0-is at c.in-Ok-Some.ensures.some in
    let found = entries c.options.found.items in
    let p = err_from_is_err_and c.from_residual-in_err-rest.result c.from_residual-in_err-rest.ensures.1 in
    rw (p.1, p.2) (refuses_behind _ _ _
    (sym c.options.invariant.read ∙ ap (λ ts. reads c.args.form (at_option c.options.last) found ts) first.2.0
    ∙ reads-entered c.args.form c.options.last found first.0 _ c.in_ok-kind.kind _ first.1 (rw c.deref.ensures.0 at c.in_ok-kind.ensures))
    (c.in_err-rest.ensures.reading c.args.form))

pub options-smaller : goal.options-smaller
options-smaller c =
    let first = rw c.in-Ok-Some.field-0-is at c.in-Ok-Some.ensures.some in
    let shorter = (c.in_ok-rest.ensures.reading c.args.form).1 in
    let goes : length c.in_ok-rest.rest.now < length c.options.rest.now = omega (arith, first.2.1, shorter) in
    goes

pub options-preserved : goal.options-preserved
options-preserved c =
    let first = rw c.in-Ok-Some.field-0-is at c.in-Ok-Some.ensures.some in
    let found = entries c.options.found.items in
    let kind = c.in_ok-kind.kind in
    let may = rw c.deref.ensures.0 at c.in_ok-kind.ensures in
    let put = c.in_ok-rest.ensures.put in
    record {
      read = reads-past c.args.form c.options.last found _ c.options.rest.now first.0 _ _ kind c.in_ok-rest.rest _ _ c.options.invariant.read first.2.0 first.1 may c.in_ok-rest.ensures.reading (behind_option-open kind c.in_default.not-Last);
      once = subst (AreOnce c.args.form) (sym put.1) (once-more c.args.form found _ put.0 kind c.options.invariant.once (sym may));
    }

pub returns-in-Last : goal.returns-in-Last
returns-in-Last c =
    let first = rw c.in-Ok-Some.field-0-is at c.in-Ok-Some.ensures.some in
    let kind = c.in_ok-kind.kind in
    ended c.args.form c.in_ok-rest.rest.now _ _ _
    (reads-past c.args.form c.options.last (entries c.options.found.items) _ c.options.rest.now first.0 _ _ kind c.in_ok-rest.rest _ _ c.options.invariant.read first.2.0 first.1 (rw c.deref.ensures.0 at c.in_ok-kind.ensures) c.in_ok-rest.ensures.reading (ap behind_option c.in-Last.is))
    c.read_end.ensures

pub options-init : goal.options-init
options-init c = rw c.requires record { read = refl; once = once-none c.args.form }
