use Rattle.std.proofs.Common.{◌≡◌, ◌∙◌, sym, ℕ, List, [], ◌∷◌, Result, Ok, Err, refl}
use Rattle.cics_names.specs.Ebcdic.{code_of}
use Rattle.cics_names.specs.Names.{name_of}
use Rattle.cics_names.specs.declared.names.NameFault.{NameFault}
use Rattle.cics_dispatch.specs.Machine.Machine.{timed_out}
use Rattle.cics_dispatch.proofs.dispatcher.waking.time_out_code.Goals as goal

-- the letters AKCS name the code
named : name_of 4 (65 ∷ 75 ∷ 67 ∷ 83 ∷ []) ≡ Ok timed_out.0
unfolding code_of
named = refl

-- what they name is the code
is_code : (r : Result (List ℕ) NameFault) (name : List ℕ) → r ≡ Ok timed_out.0 → r ≡ Ok name → name ≡ timed_out.0
is_code r name is e = cc

pub unreachable-requires : goal.unreachable-requires
unreachable-requires c =
    let e : Ok timed_out.0 ≡ Err c.in-Err.field-0 = sym named ∙ sym c.new.ensures ∙ c.in-Err.is in
    cc

pub returns : goal.returns
returns c = let same = is_code c.new.result c.in-Ok.name (c.new.ensures ∙ named) c.in-Ok.is in λ i. record { 0 = same i }
