use Rattle.std.proofs.Common.{◌∙◌, ap, sym, subst}
use Rattle.cics_history.specs.Openings.{IsOpeningInOrder, HasLawfulKeys}
use Rattle.cics_units.specs.Opening.RegionFiles.{opened_files}
use Rattle.cics_units.proofs.OfOpening.Opened.{opened_files-openings_of, IsOpeningInOrder-with, HasLawfulKeys-with}
use Rattle.cics_units.proofs.opening.opening.Opening.files.Goals as goal

pub returns-clause-files : goal.returns-clause-files
returns-clause-files c = sym (opened_files-openings_of c.self.inside.files c.self.invariant.0.loaded) ∙ ap (λ o. opened_files o.files) c.self.view_is

pub returns-clause-in_order : goal.returns-clause-in_order
returns-clause-in_order c = subst IsOpeningInOrder c.self.view_is
    (IsOpeningInOrder-with c.self.inside.files c.self.invariant.0 c.self.inside.prefixes c.self.inside.queues c.self.invariant.1.rising)

pub returns-clause-lawful_keys : goal.returns-clause-lawful_keys
returns-clause-lawful_keys c = subst HasLawfulKeys c.self.view_is
    (HasLawfulKeys-with c.self.inside.files c.self.invariant.0 c.self.inside.prefixes c.self.inside.queues)
