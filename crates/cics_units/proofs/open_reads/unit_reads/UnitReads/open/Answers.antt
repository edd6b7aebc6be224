use Rattle.std.proofs.Common.{◌≡◌, T, ◌∙◌, ap, sym, subst, insert, arith}
use Rattle.cics_names.specs.Keyed.{is_rising}
use Rattle.cics_names.specs.RisingLaws.{rising-with_value}
use Rattle.cics_units.specs.OpenReads.{place_of}
use Rattle.cics_units.proofs.UnitReads.{within, goes_in}
use Rattle.cics_units.proofs.open_reads.unit_reads.UnitReads.open.Goals as goal

pub insert-requires : goal.insert-requires
insert-requires c =
    let at : c.place-at.result ≡ place_of c.args.file c.self.inside.entries.items = c.place-at.ensures ∙ ap (place_of c.args.file) (sym c.self.view_is) in
    omega (arith, at, within c.args.file c.self.inside.entries.items)

pub invariant_of-self-2 : goal.invariant_of-self-2
invariant_of-self-2 c =
    subst (λ es. T (is_rising es)) (sym (c.in_ok-insert.ensures.items
    ∙ (λ i. insert (c.self.view_is i) (c.place-at.ensures i) (c.args.file, c.args.key)) ∙ goes_in c.args.file c.args.key c.args.self.now c.requires))
    (rising-with_value c.args.file c.args.key c.args.self.now (subst (λ es. T (is_rising es)) c.self.view_is c.self.invariant))

pub returns-clause-reads : goal.returns-clause-reads
returns-clause-reads c =
    c.in_ok-insert.ensures.items
    ∙ (λ i. insert (c.self.view_is i) (c.place-at.ensures i) (c.args.file, c.args.key)) ∙ goes_in c.args.file c.args.key c.args.self.now c.requires
