-- States that are the same have the same ending.
use Rattle.std.proofs.Common.{◌≡◌, ℕ, zero, suc, ◌-◌, Bool, true, false, List, [], ◌∷◌, ◌++◌, map, length, Option, None, Some, option_map, refl, ap, sym, ◌∙◌}
use Rattle.std.proofs.lemmas.List.{length-map}
use Rattle.std.specs.Prelude.{if◌then◌else◌, nat_lt, slice_get, unwrap_or, codes}
use Rattle.std.specs.List.{flat_map, filter_map}
use Rattle.cics_names.specs.Keyed.{Bytes, is_same}
use Rattle.cics_names.specs.declared.commands.Command.{Command}
use Rattle.cics_units.specs.Replay.Listings.{listing_of}
use Rattle.cics_dispatch.specs.Machine.Machine.{Machine, Task}
use Rattle.cics_dispatch.specs.Machine.Events.{task_ended}
use Rattle.cics_dispatch.specs.Machine.Blockers.{waiting_command, label_at, number_of}
use Rattle.cics_dispatch.specs.declared.machine.outcomes.Outcome.{Outcome}
use Rattle.cics_dispatch.specs.declared.machine.outcomes.Outcome.TheVariants.{Replied, Waiting, Abended, Ended}
use Rattle.cics_dispatch.specs.Future.Futures.{HaveSameFuture, unnumbered}
use Rattle.cics_dispatch.proofs.OfFuture.Acting.{same_store_now}
use Rattle.cics_dispatch.proofs.OfFuture.Events.{command_same}
use Rattle.cics_dispatch.specs.Deadlocks.Searches.{circles}
use Rattle.cics_dispatch.specs.Deadlocks.Deadlocks.{blockers_at, waits_below, deadlocks}
use Rattle.cics_script.specs.Texts.{bare}
use Rattle.cics_run.specs.Listing.Listings.{file_text, storage_text, transient_text}
use Rattle.cics_orders.specs.Plans.Taking.{NumberedLine}
use Rattle.cics_orders.specs.Report.Parts.{mark}
use Rattle.cics_orders.specs.Giving.{State}
use Rattle.cics_orders.specs.Stamps.{end_told, seen}
use Rattle.cics_orders.specs.Same.{SameState}
use Rattle.cics_orders.proofs.Seen.{ended_same, units_same}
use Rattle.cics_orders.proofs.OfEndings.Blocked.{blockers_same}
use Rattle.cics_orders.specs.declared.lanes.Lane.{Lane}
use Rattle.cics_orders.specs.Endings.Telling.{blocks, end_text, blocker_text, number_text, stand_text, state_text, told_parts, lane_parts, parts_at}

-- ---- Tasks, by their labels

number_bare : (ts : List Task) (x : Bytes) → number_of (map unnumbered ts) x ≡ number_of ts x
number_bare [] x = refl
number_bare (t ∷ ts) x = ap (λ o. if is_same t.label x then Some 0 else option_map suc o) (number_bare ts x)

label_bare : (ts : List Task) (k : ℕ) → label_at (map unnumbered ts) k ≡ label_at ts k
label_bare [] k = refl
label_bare (t ∷ ts) zero = refl
label_bare (t ∷ ts) (suc k) = label_bare ts k

-- ---- Regions that have the same future

module _ (m n : Machine) (same : HaveSameFuture m n) where
  numbers : (x : Bytes) → number_of m.tasks x ≡ number_of n.tasks x
  numbers x = sym (number_bare m.tasks x) ∙ ap (λ ts. number_of ts x) same.alike.tasks ∙ number_bare n.tasks x

  labels : (k : ℕ) → label_at m.tasks k ≡ label_at n.tasks k
  labels k = sym (label_bare m.tasks k) ∙ ap (λ ts. label_at ts k) same.alike.tasks ∙ label_bare n.tasks k

  long : length m.tasks ≡ length n.tasks
  long = sym (length-map m.tasks unnumbered) ∙ ap length same.alike.tasks ∙ length-map n.tasks unnumbered

  blockers : (k : ℕ) → blockers_at m k ≡ blockers_at n k
  blockers k = λ i. filter_map (λ x. numbers x i) (unwrap_or (option_map (λ l. blockers_same m n same l i) (labels k i)) [])

  waits : (k : ℕ) → waits_below m k ≡ waits_below n k
  waits zero = refl
  waits (suc k) = λ i. waits k i ++ blockers k i ∷ []

  deadlocks_same : deadlocks m ≡ deadlocks n
  deadlocks_same =
      let all = waits (length m.tasks) ∙ ap (waits_below n) long in
      λ i. map (λ ks. filter_map (λ k. labels k i) ks) (circles (all i))

  blocks_same : blocks m ≡ blocks n
  blocks_same = λ i.
      let l = listing_of (same.alike.opening i) (same_store_now m n same i) in
      map file_text l.files ++ (map storage_text l.ts ++ map transient_text l.td)

  -- ---- Lanes

  stands : (label : Bytes) (last : Option NumberedLine) (o : Option Command) → stand_text m label last o ≡ stand_text n label last o
  stands label last (Some command) = ap (λ ls. codes " WAITING" ++ (flat_map blocker_text ls ++ (codes " LINE " ++ number_text last))) (blockers_same m n same label)
  stands label last None = ap (λ b. if b then codes " OPEN" else codes " IDLE") (units_same m n same label)

  states : (label : Bytes) (x : Lane) → state_text m label x ≡ state_text n label x
  states label x =
      let last = slice_get x.lines (x.given - 1) in
      let stand = ap (stand_text m label last) (command_same m n same label) ∙ stands label last (waiting_command n label) in
      λ i. if ended_same m n same label i then end_text (slice_get x.told (length x.told - 1)) else stand i

  lane_by : (told : Bool) (l : Option Bytes) (x : Lane) → lane_parts m told (record x { label = l }) ≡ lane_parts n told (record x { label = l })
  lane_by told None x = refl
  lane_by told (Some label) x =
      ap (λ t. (codes "TASK " ++ (bare label ++ (t ++ codes "\n"))) ∷ (if told then told_parts label x.lines x.told else [])) (states label (record x { label = Some label }))

  lane_same : (told : Bool) (x : Lane) → lane_parts m told x ≡ lane_parts n told x
  lane_same told x = lane_by told x.label x

-- ---- What is seen of lanes

-- the last outcome tells the same end
end_seen : (o : Option Outcome) → end_text (slice_get (end_told o) (length (end_told o) - 1)) ≡ end_text o
end_seen None = refl
end_seen (Some (Replied reply)) = refl
end_seen (Some (Waiting holder)) = refl
end_seen (Some (Abended code reply)) = refl
end_seen (Some Ended) = refl

module _ (m : Machine) where
  seen_by : (told : Bool) (l : Option Bytes) (x : Lane) → lane_parts m told (record (seen told x) { label = l }) ≡ lane_parts m told (record x { label = l })
  seen_by told None x = refl
  seen_by true (Some label) x = refl
  seen_by false (Some label) x =
      ap (λ t. (codes "TASK " ++ (bare label ++ ((if task_ended m label then t else stand_text m label (slice_get x.lines (x.given - 1)) (waiting_command m label)) ++ codes "\n"))) ∷ [])
      (end_seen (slice_get x.told (length x.told - 1)))

  lane_seen : (told : Bool) (x : Lane) → lane_parts m told (seen told x) ≡ lane_parts m told x
  lane_seen told x = seen_by told x.label x

  lanes_seen : (told : Bool) (xs : List Lane) → flat_map (lane_parts m told) (map (seen told) xs) ≡ flat_map (lane_parts m told) xs
  lanes_seen told [] = refl
  lanes_seen told (x ∷ xs) = λ i. lane_seen told x i ++ lanes_seen told xs i

-- ---- Endings

-- the endings of two states that are the same have the same parts
pub parts_alike : (told : Bool) (s t : State) → SameState told s t → parts_at told s ≡ parts_at told t
parts_alike told s t same =
    let lanes : flat_map (lane_parts s.machine told) s.lanes ≡ flat_map (lane_parts t.machine told) t.lanes
    = sym (lanes_seen s.machine told s.lanes)
    ∙ (λ i. flat_map (λ x. lane_same s.machine t.machine same.machine told x i) (same.lanes i))
    ∙ lanes_seen t.machine told t.lanes in
    λ i. mark (nat_lt 0 (length (deadlocks_same s.machine t.machine same.machine i))) ∷ (blocks_same s.machine t.machine same.machine i ++ lanes i)
