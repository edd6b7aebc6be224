use Rattle.std.proofs.Common.{◌≡◌, Bool, true, false, ◌&&◌, Option, Some, None, refl, ap, sym, ◌∙◌}
use Rattle.std.specs.Prelude.{option_map}
use Rattle.cics_names.specs.Keyed.{Bytes, is_same, value_at}
use Rattle.cics_names.specs.KeyedLaws.{pointwise-is_same}
use Rattle.cics_ksds.specs.Files.{fits_file, key_of}
use Rattle.cics_ksds.specs.declared.definition.FileDef.{FileDef}
use Rattle.cics_history.specs.State.{FileOpening}
use Rattle.cics_history.specs.Execution.{is_fit_for}
use Rattle.refusals.proofs.guards.is_fit.Goals as goal

-- a record fits a definition, and the key is the one that lies in it
abbrev fits_by : Option FileDef → Bytes → Bytes → Bool
fits_by None k r = false
fits_by (Some d) k r = fits_file d r && is_same (key_of d r) k

fit_by : (file : Option FileOpening) (k r : Bytes) → fits_by (option_map (λ f. f.definition) file) k r ≡ is_fit_for file k r
fit_by None k r = refl
fit_by (Some f) k r = refl

pub returns-then-fits : goal.returns-then-fits
returns-then-fits c =
    let key = c.args.key.now in
    let from = c.args.from.now in
    let file = value_at c.args.file.now c.args.units.now.state.opening.files in
    let definition = c.definition-definition.result in
    let fits : fits_file definition from ≡ true = ap (fits_file definition) (sym c.bytes.ensures) ∙ sym c.fits.ensures ∙ c.if-fits.true in
    let same : c.eq.result ≡ is_same (key_of definition from) key =
    c.eq.ensures ∙ pointwise-is_same c.key_in.result.now c.bytes-then-fits-2.result.now
    ∙ ap (λ k. is_same k c.bytes-then-fits-2.result.now) (c.key_in.ensures ∙ ap (key_of definition) c.bytes-then-fits.ensures)
    ∙ ap (is_same (key_of definition from)) c.bytes-then-fits-2.ensures in
    same ∙ ap (λ b. b && is_same (key_of definition from) key) (sym fits)
    ∙ ap (λ d. fits_by d key from) (ap Some c.definition-definition.ensures.definition ∙ sym c.in-Some.ensures.definition)
    ∙ fit_by file key from
