-- What the stamp of a state tells: after two ways from one initial state, states of one stamp are the same.
use Rattle.std.proofs.Common.{◌≡◌, ℕ, ◌==◌, Bool, true, List, [], ◌∷◌, ◌++◌, map, Option, None, Some, refl, ap, sym, ◌∙◌}
use Rattle.std.proofs.lemmas.List.Folds.{flat_map-map}
use Rattle.std.specs.Prelude.{if◌then◌else◌}
use Rattle.cics_names.specs.Keyed.{Bytes}
use Rattle.cics_names.specs.Conditions.{number_of}
use Rattle.cics_names.specs.Stamps.{Splits, number_stamp, text_stamp, option_stamp, item_stamp, list_stamp}
use Rattle.cics_names.specs.declared.conditions.Condition.{Condition}
use Rattle.cics_names.specs.declared.conditions.Condition.TheVariants.{Normal, Dsiderr, Notfnd, Duprec, Invreq, Endfile, Lengerr, Qzero, Qbusy, Itemerr, Qiderr, Enqbusy}
use Rattle.cics_names.proofs.Stamps.{splits_number, splits_text, splits_option, splits_list, splits_both}
use Rattle.cics_dispatch.specs.Machine.Machine.{Machine, Suspended}
use Rattle.cics_dispatch.specs.Machine.Stamps.{region_stamp}
use Rattle.cics_dispatch.specs.declared.machine.outcomes.Number.{Number}
use Rattle.cics_dispatch.specs.declared.machine.outcomes.Number.TheVariants.{Item, Numrec}
use Rattle.cics_dispatch.specs.declared.machine.outcomes.Reply.{Reply}
use Rattle.cics_dispatch.specs.declared.machine.outcomes.Outcome.{Outcome}
use Rattle.cics_dispatch.specs.declared.machine.outcomes.Outcome.TheVariants.{Replied, Waiting, Abended, Ended}
use Rattle.cics_dispatch.proofs.OfFuture.Told.{ToldWait, bare_wait, Parts, parts_same}
use Rattle.cics_dispatch.proofs.OfFuture.Stamped.{same_future}
use Rattle.cics_orders.specs.Space.Orders.{Order, after, IsWay}
use Rattle.cics_orders.specs.Plans.Proper.{is_proper}
use Rattle.cics_orders.specs.declared.plans.plans.Plan.{Plan}
use Rattle.cics_orders.specs.Giving.{State, lanes, frame, initial_state}
use Rattle.cics_orders.specs.declared.lanes.Lane.{Lane}
use Rattle.cics_orders.specs.Stamps.{count_stamp, reply_stamp, told_kind, told_name, told_reply, outcome_stamp, seen, lane_stamp, state_stamp}
use Rattle.cics_orders.specs.Same.{SameState}
use Rattle.cics_orders.proofs.GivenLanes.{seen_gave}
use Rattle.cics_orders.proofs.GivenWaits.{commands_same}
use Rattle.cics_orders.proofs.Ways.{Holds, holds_along}

-- ---- Values in parts

-- a value that is told by its parts has a stamp that tells it
splits_as : {X Y : Type 0} (h : X → List ℕ) (f : Y → List ℕ) (g : X → Y) (back : Y → X) → ((x : X) → h x ≡ f (g x)) → ((x : X) → back (g x) ≡ x) → Splits f → Splits h
splits_as h f g back stamp whole sf x y r s e =
    let both = sf (g x) (g y) r s (ap (λ t. t ++ r) (sym (stamp x)) ∙ e ∙ ap (λ t. t ++ s) (stamp y)) in (sym (whole x) ∙ ap back both.0 ∙ whole y, both.1)

-- ---- Outcomes

abbrev count_parts : Number → ℕ × ℕ
count_parts (Item n) = (0, n)
count_parts (Numrec n) = (1, n)

abbrev numbers_stamp : ℕ × ℕ → List ℕ
numbers_stamp p = number_stamp p.0 ++ number_stamp p.1

splits_count : Splits count_stamp
splits_count = splits_as count_stamp numbers_stamp count_parts (λ p. if p.0 == 0 then Item p.1 else Numrec p.1) stamp whole (splits_both number_stamp number_stamp splits_number splits_number)
  where
    stamp : (n : Number) → count_stamp n ≡ numbers_stamp (count_parts n)
    stamp (Item n) = refl
    stamp (Numrec n) = refl

    whole : (n : Number) → (if (count_parts n).0 == 0 then Item (count_parts n).1 else Numrec (count_parts n).1) ≡ n
    whole (Item n) = refl
    whole (Numrec n) = refl

-- the condition of a number
abbrev condition_at : ℕ → Condition
condition_at n =
    if n == 0 then Normal
    else if n == 12 then Dsiderr
    else if n == 13 then Notfnd
    else if n == 14 then Duprec
    else if n == 16 then Invreq
    else if n == 20 then Endfile
    else if n == 22 then Lengerr
    else if n == 23 then Qzero
    else if n == 25 then Qbusy
    else if n == 26 then Itemerr
    else if n == 44 then Qiderr
    else Enqbusy

condition_whole : (c : Condition) → condition_at (number_of c) ≡ c
condition_whole Normal = refl
condition_whole Dsiderr = refl
condition_whole Notfnd = refl
condition_whole Duprec = refl
condition_whole Invreq = refl
condition_whole Endfile = refl
condition_whole Lengerr = refl
condition_whole Qzero = refl
condition_whole Qbusy = refl
condition_whole Itemerr = refl
condition_whole Qiderr = refl
condition_whole Enqbusy = refl

abbrev ReplyParts : Type 0
ReplyParts = ℕ × (Option Bytes × (Option Bytes × Option Number))

abbrev reply_parts_stamp : ReplyParts → List ℕ
reply_parts_stamp p = number_stamp p.0 ++ (option_stamp text_stamp p.1.0 ++ (option_stamp text_stamp p.1.1.0 ++ option_stamp count_stamp p.1.1.1))

splits_reply : Splits reply_stamp
splits_reply =
    splits_as reply_stamp reply_parts_stamp (λ r. (number_of r.condition, (r.key, (r.content, r.number))))
    (λ p. record { condition = condition_at p.0; key = p.1.0; content = p.1.1.0; number = p.1.1.1 }) (λ r. refl) (λ r. λ i. record r { condition = condition_whole r.condition i })
    (splits_both number_stamp (λ (p : Option Bytes × (Option Bytes × Option Number)). option_stamp text_stamp p.0 ++ (option_stamp text_stamp p.1.0 ++ option_stamp count_stamp p.1.1)) splits_number
    (splits_both (option_stamp text_stamp) (λ (p : Option Bytes × Option Number). option_stamp text_stamp p.0 ++ option_stamp count_stamp p.1) (splits_option text_stamp splits_text)
    (splits_both (option_stamp text_stamp) (option_stamp count_stamp) (splits_option text_stamp splits_text) (splits_option count_stamp splits_count))))

abbrev OutcomeParts : Type 0
OutcomeParts = ℕ × (Bytes × Option Reply)

abbrev outcome_parts : Outcome → OutcomeParts
outcome_parts o = (told_kind o, (told_name o, told_reply o))

abbrev outcome_parts_stamp : OutcomeParts → List ℕ
outcome_parts_stamp p = number_stamp p.0 ++ (text_stamp p.1.0 ++ option_stamp reply_stamp p.1.1)

abbrev replied : Option Reply → Outcome
replied None = Ended
replied (Some reply) = Replied reply

abbrev outcome_of : OutcomeParts → Outcome
outcome_of p =
    if p.0 == 0 then replied p.1.1
    else if p.0 == 1 then Waiting p.1.0
    else if p.0 == 2 then Abended (record { 0 = p.1.0 }) p.1.1
    else Ended

outcome_whole : (o : Outcome) → outcome_of (outcome_parts o) ≡ o
outcome_whole (Replied reply) = refl
outcome_whole (Waiting label) = refl
outcome_whole (Abended code reply) = refl
outcome_whole Ended = refl

splits_outcome : Splits outcome_stamp
splits_outcome =
    splits_as outcome_stamp outcome_parts_stamp outcome_parts outcome_of (λ o. refl) outcome_whole
    (splits_both number_stamp (λ (p : Bytes × Option Reply). text_stamp p.0 ++ option_stamp reply_stamp p.1) splits_number
    (splits_both text_stamp (option_stamp reply_stamp) splits_text (splits_option reply_stamp splits_reply)))

-- ---- Lanes

-- a lane, but for its label and its lines
abbrev LaneParts : Type 0
LaneParts = ℕ × List Outcome

abbrev lane_parts : Lane → LaneParts
lane_parts x = (x.given, x.told)

abbrev lane_parts_stamp : LaneParts → List ℕ
lane_parts_stamp p = number_stamp p.0 ++ list_stamp outcome_stamp p.1

splits_lane : Splits lane_parts_stamp
splits_lane = splits_both number_stamp (list_stamp outcome_stamp) splits_number (splits_list outcome_stamp splits_outcome)

lanes_in_parts : (xs : List Lane) → list_stamp lane_stamp xs ≡ list_stamp lane_parts_stamp (map lane_parts xs)
lanes_in_parts xs = ap (λ bs. bs ++ number_stamp 0) (sym (flat_map-map (item_stamp lane_parts_stamp) lane_parts xs))

-- labels, lines and the other parts tell a lane
lanes_whole : (xs ys : List Lane) → map frame xs ≡ map frame ys → map lane_parts xs ≡ map lane_parts ys → xs ≡ ys
lanes_whole [] [] frames parts = refl
lanes_whole (x ∷ xs) (y ∷ ys) frames parts =
    let label : frame x ≡ frame y = cc in
    let part : lane_parts x ≡ lane_parts y = cc in
    let more : map frame xs ≡ map frame ys = cc in
    let others : map lane_parts xs ≡ map lane_parts ys = cc in
    λ i. record { label = (label i).label; lines = (label i).lines; given = (part i).0; told = (part i).1 } ∷ lanes_whole xs ys more others i
lanes_whole [] (y ∷ ys) frames parts = cc
lanes_whole (x ∷ xs) [] frames parts = cc

lanes_split : (xs ys : List Lane) (r s : List ℕ) → map frame xs ≡ map frame ys → list_stamp lane_stamp xs ++ r ≡ list_stamp lane_stamp ys ++ s → (xs ≡ ys) × (r ≡ s)
lanes_split xs ys r s frames e =
    let both = splits_list lane_parts_stamp splits_lane (map lane_parts xs) (map lane_parts ys) r s (ap (λ t. t ++ r) (sym (lanes_in_parts xs)) ∙ e ∙ ap (λ t. t ++ s) (lanes_in_parts ys)) in
    (lanes_whole xs ys frames both.0, both.1)

frames_seen : (told : Bool) (xs : List Lane) → map frame (map (seen told) xs) ≡ map frame xs
frames_seen told [] = refl
frames_seen told (x ∷ xs) = ap (λ ys. frame x ∷ ys) (frames_seen told xs)

-- ---- States

-- two states with one stamp: what is seen of their lanes, and the stamps of their regions
states_split : (told : Bool) (s t : State) → map frame s.lanes ≡ map frame t.lanes → state_stamp told s ≡ state_stamp told t →
    (map (seen told) s.lanes ≡ map (seen told) t.lanes) × (region_stamp s.machine ≡ region_stamp t.machine)
unfolding state_stamp
states_split told s t frames e =
    lanes_split (map (seen told) s.lanes) (map (seen told) t.lanes) (region_stamp s.machine) (region_stamp t.machine)
    (frames_seen told s.lanes ∙ frames ∙ sym (frames_seen told t.lanes)) e

-- the stamp of a region tells which tasks wait
labels_bare : (ws : List Suspended) → map (λ w. w.label) ws ≡ map (λ (w : ToldWait). w.0) (map bare_wait ws)
labels_bare [] = refl
labels_bare (w ∷ ws) = ap (λ ls. w.label ∷ ls) (labels_bare ws)

labels_told : (m n : Machine) → region_stamp m ≡ region_stamp n → map (λ w. w.label) m.waiting ≡ map (λ w. w.label) n.waiting
labels_told m n e = labels_bare m.waiting ∙ ap (λ (p : Parts). map (λ (w : ToldWait). w.0) p.1.0) (parts_same m n e) ∙ sym (labels_bare n.waiting)

module _ (told : Bool) (p : Plan) where
  same_by_stamp : (s t : State) → Holds p s → Holds p t → state_stamp told s ≡ state_stamp told t → SameState told s t
  same_by_stamp s t first second e =
      let (seen_alike, region) = states_split told s t (first.frames ∙ sym second.frames) e in
      let commands = commands_same s.lanes t.lanes (seen_gave told s.lanes t.lanes seen_alike) s.machine.waiting t.machine.waiting first.keeps.waits second.keeps.waits
      (labels_told s.machine t.machine region) in
      record {
        plan = first.plan ∙ sym second.plan;
        machine = same_future s.machine t.machine first.steady second.steady (first.keeps.opening ∙ sym second.keeps.opening) commands region;
        lanes = seen_alike;
      }

  pub same_after : is_proper p ≡ true → (o q : Order) → IsWay lanes (initial_state p) o → IsWay lanes (initial_state p) q →
      state_stamp told (after lanes (initial_state p) o) ≡ state_stamp told (after lanes (initial_state p) q) →
      SameState told (after lanes (initial_state p) o) (after lanes (initial_state p) q)
  same_after proper o q way_o way_q e =
      same_by_stamp (after lanes (initial_state p) o) (after lanes (initial_state p) q) (holds_along p proper o way_o) (holds_along p proper q way_q) e
