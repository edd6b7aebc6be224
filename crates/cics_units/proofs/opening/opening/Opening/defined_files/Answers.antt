use Rattle.std.proofs.Common.{◌≡◌, ◌∙◌, ap, refl, rules, List, [], ◌∷◌, map}
use Rattle.std.specs.Map.Iter.{deref_pair}
use Rattle.std.proofs.lemmas.Map.Iter.{iter_end}
use Rattle.cics_names.specs.Keyed.{Bytes, Map}
use Rattle.cics_ksds.specs.Files.{FileValue, records_of}
use Rattle.cics_ksds.specs.declared.definition.FileDef.{FileDef}
use Rattle.cics_history.specs.State.{FileOpening}
use Rattle.cics_units.specs.Opening.RegionFiles.{opened_files}
use Rattle.cics_units.proofs.opening.opening.Opening.defined_files.Goals as goal

-- files as they are listed
abbrev listed : Map FileValue → List (Bytes × FileDef × List Bytes)
listed files = map (λ e. (e.0, e.1.definition, records_of e.1.records)) files

-- the files that an opening gives are listed as it defines them
listed-opened : (files : Map FileOpening) → listed (opened_files files) ≡ map (λ e. (e.0, e.1.definition, records_of e.1.records)) files
listed-opened [] = refl
listed-opened (e ∷ files) = ap (λ rest. (e.0, e.1.definition, records_of e.1.records) ∷ rest) (listed-opened files)

pub returns : goal.returns
returns c =
    let all : map deref_pair c.loop-name.yielded ≡ c.files.result.now = search (rules, iter_end) in
    c.loop-name.invariant ∙ ap listed (all ∙ c.files.ensures.files) ∙ listed-opened c.args.self.now.files
