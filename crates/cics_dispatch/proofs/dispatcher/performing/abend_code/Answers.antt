use Rattle.std.proofs.Common.{◌≡◌, ◌∙◌, sym, ap, ℕ, List, [], ◌∷◌, Result, Ok, Err, refl}
use Rattle.cics_names.specs.Ebcdic.{code_of}
use Rattle.cics_names.specs.Names.{name_of}
use Rattle.cics_names.specs.declared.names.NameFault.{NameFault}
use Rattle.cics_dispatch.specs.Machine.Machine.{no_code}
use Rattle.cics_dispatch.specs.Machine.Steps.{code_of as abend_code_of}
use Rattle.cics_dispatch.proofs.dispatcher.performing.abend_code.Goals as goal

-- four question marks name the code
named : name_of 4 (63 ∷ 63 ∷ 63 ∷ 63 ∷ []) ≡ Ok no_code.0
unfolding code_of
named = refl

-- what they name is the code
is_code : (r : Result (List ℕ) NameFault) (name : List ℕ) → r ≡ Ok no_code.0 → r ≡ Ok name → name ≡ no_code.0
is_code r name is e = cc

pub unreachable-requires : goal.unreachable-requires
unreachable-requires c =
    let e : Ok no_code.0 ≡ Err c.in-Err.field-0 = sym named ∙ sym c.new.ensures ∙ c.in-Err.is in
    cc

pub returns-in-Ok : goal.returns-in-Ok
returns-in-Ok c =
    let same = is_code c.new.result c.in-Ok.code (c.new.ensures ∙ named) c.in-Ok.is in
    (λ i. record { 0 = same i }) ∙ sym (ap abend_code_of c.in-None.is)
