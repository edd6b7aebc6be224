-- The entries of a history one after the other.
use Rattle.std.specs.Prelude.{◌≡◌, ℕ, ◌+◌, ◌<◌, Bool, cond, List, [], ◌∷◌, ◌++◌, length, take, filter}
use Rattle.std.proofs.Common.{sym, ap, ◌∙◌, get_or}
use Rattle.std.proofs.lemmas.List.{take_more}
use Rattle.cics_history.specs.Headline.{replay}
use Rattle.cics_history.specs.State.{Store}
use Rattle.cics_history.specs.Store.{apply}
use Rattle.cics_history.specs.declared.ops.Entry.{Entry}
use Rattle.cics_history.proofs.Replays.{replay-push}

-- one more entry, which is kept or not
pub replayed_more : (p : Entry → Bool) (s : Store) (trace : List Entry) (i : ℕ) (e : Entry) → i < length trace → e ≡ get_or trace i e →
    replay s (filter p (take (i + 1) trace)) ≡ cond (p e) (apply (replay s (filter p (take i trace))) e.op).store (replay s (filter p (take i trace)))
replayed_more p s trace i e low is =
    ap (λ es. replay s (filter p es)) (take_more trace i e low ∙ ap (λ x. take i trace ++ x ∷ []) (sym is)) ∙ replay-push p e s (take i trace)
