-- What no event changes of lanes, and what a lane's line leaves.
use Rattle.std.proofs.Common.{◌≡◌, ℕ, Bool, true, false, ◌⊎◌, List, [], ◌∷◌, map, Option, None, Some, refl, ap, sym, ◌∙◌, subst, inl, inr}
use Rattle.std.proofs.lemmas.Bool.{and_parts}
use Rattle.std.specs.Prelude.{if◌then◌else◌, is_some, slice_get}
use Rattle.cics_names.specs.Keyed.{Bytes}
use Rattle.cics_dispatch.specs.Machine.Events.{Happened}
use Rattle.cics_dispatch.specs.declared.machine.events.Request.{Request}
use Rattle.cics_dispatch.specs.declared.machine.events.Event.{Event}
use Rattle.cics_dispatch.specs.declared.machine.events.Event.TheVariants as event
use Rattle.cics_dispatch.specs.declared.machine.outcomes.Outcome.{Outcome}
use Rattle.cics_dispatch.specs.declared.machine.outcomes.Outcome.TheVariants.{Waiting, Abended}
use Rattle.cics_script.specs.Lines.{line}
use Rattle.cics_orders.specs.Plans.Taking.{NumberedLine}
use Rattle.cics_orders.specs.Giving.{State, is_of, told_more, with_told, hearing, told_by, told_all, asked, happening, after_asked, may_give, is_ready, counted, given_line, given_by, given}
use Rattle.cics_orders.specs.declared.lanes.Lane.{Lane}

-- ---- Events

-- the gist of a lane: what no event changes of it
abbrev pub gist : Lane → Lane
gist x = record x { told = [] }

-- a state after events: the same plan, and the same gists of lanes
pub record Stays (s t : State) : Type 0 where
  pub plan : t.plan ≡ s.plan
  pub gists : map gist t.lanes ≡ map gist s.lanes

gists_told : (xs : List Lane) (label : Bytes) (o : Outcome) → map gist (with_told xs label o) ≡ map gist xs
gists_told [] label o = refl
gists_told (x ∷ xs) label o = by (gists_told xs label o) (is_of x label)
  where
    by : map gist (with_told xs label o) ≡ map gist xs → (b : Bool) → map gist (if b then told_more x o ∷ xs else x ∷ with_told xs label o) ≡ map gist (x ∷ xs)
    by rest true = refl
    by rest false = ap (λ gs. gist x ∷ gs) rest

gists_hearing : (xs : List Lane) (label : Bytes) (o : Outcome) → map gist (hearing xs label o) ≡ map gist xs
gists_hearing xs label (Waiting blocker) = refl
gists_hearing xs label o = gists_told xs label o

gists_by : (xs : List Lane) (e : Event) → map gist (told_by xs e) ≡ map gist xs
gists_by xs (event.Issued label o reason) = gists_hearing xs label o
gists_by xs (event.Woken w) = gists_hearing xs w.label w.outcome
gists_by xs (event.Expired e) = gists_hearing xs e.label (Abended e.code None)
gists_by xs _ = refl

-- what happens leaves the gists of lanes as they are
pub gists_all : (xs : List Lane) (hs : List Happened) → map gist (told_all xs hs) ≡ map gist xs
gists_all xs [] = refl
gists_all xs (h ∷ hs) = gists_all (told_by xs h.event) hs ∙ gists_by xs h.event

-- what a line asks leaves these as they are
pub stays_asked : (s : State) (o : Option Request) → Stays s (after_asked s o)
stays_asked s None = record { plan = refl; gists = refl }
stays_asked s (Some r) = record { plan = refl; gists = gists_all s.lanes (happening s.machine r).turns }

-- ---- A lane gives a line

-- a lane gave this line
pub record Gave (s : State) (l : ℕ) (x : Lane) (next : NumberedLine) : Type 0 where
  pub at : slice_get s.lanes l ≡ Some x
  pub line_at : slice_get x.lines x.given ≡ Some next
  pub is : given s l ≡ after_asked (counted s l x) (asked (line next.1))

given_is : (s : State) (l : ℕ) (o : Option Lane) → slice_get s.lanes l ≡ o → given s l ≡ given_by s l o
unfolding given
given_is s l o at = ap (given_by s l) at

-- a lane with a line left gives it
pub gave_at : (s : State) (l : ℕ) (x : Lane) (next : NumberedLine) → slice_get s.lanes l ≡ Some x → slice_get x.lines x.given ≡ Some next → Gave s l x next
gave_at s l x next at line_at = record { at = at; line_at = line_at; is = given_is s l (Some x) at ∙ ap (given_line s l x) line_at }

-- a lane gave a line, or it had none left and nothing changed
pub gave : (s : State) (l : ℕ) → (given s l ≡ s) ⊎ ((x : Lane) × (next : NumberedLine) × Gave s l x next)
gave s l = by (slice_get s.lanes l) refl
  where
    more : (x : Lane) → slice_get s.lanes l ≡ Some x → (o : Option NumberedLine) → slice_get x.lines x.given ≡ o → (given s l ≡ s) ⊎ ((x : Lane) × (next : NumberedLine) × Gave s l x next)
    more x at None none = inl (given_is s l (Some x) at ∙ ap (given_line s l x) none)
    more x at (Some next) found = inr (x, next, gave_at s l x next at found)

    by : (o : Option Lane) → slice_get s.lanes l ≡ o → (given s l ≡ s) ⊎ ((x : Lane) × (next : NumberedLine) × Gave s l x next)
    by None at = inl (given_is s l None at)
    by (Some x) at = more x at (slice_get x.lines x.given) refl

-- a lane that may give has a line left
pub gives_line : (s : State) (l : ℕ) (x : Lane) → slice_get s.lanes l ≡ Some x → may_give s.machine x ≡ true → (next : NumberedLine) × Gave s l x next
gives_line s l x at may = by (slice_get x.lines x.given) refl (and_parts (is_some (slice_get x.lines x.given)) (is_ready s.machine x.label) may).0
  where
    by : (o : Option NumberedLine) → slice_get x.lines x.given ≡ o → is_some o ≡ true → (next : NumberedLine) × Gave s l x next
    by None line_at is = cc
    by (Some next) line_at is = (next, gave_at s l x next at line_at)

-- after a line counts as given, its events leave these as they are
pub stays_given : (s : State) (l : ℕ) (x : Lane) (next : NumberedLine) → Gave s l x next → Stays (counted s l x) (given s l)
stays_given s l x next gave = subst (Stays (counted s l x)) (sym gave.is) (stays_asked (counted s l x) (asked (line next.1)))
