use Rattle.std.proofs.Common.{◌≡◌, not, refl, ◌<◌, ◌+◌, ◌++◌, ◌||◌, true, List, [], ◌∷◌, length, get_or, set, map, drop, Option, is_some, sym, ◌∙◌, ap, subst, arith}
use Rattle.std.proofs.lemmas.List.{drop_more, take_all, drop_all, append-nil, length-map}
use Rattle.cics_names.specs.Keyed.{Bytes, Map, value_at, has_key, is_key_in}
use Rattle.cics_images.specs.Cells.{AreOf}
use Rattle.cics_ksds.specs.Files.{FileValue, IsContent, deleted}
use Rattle.cics_ksds.specs.Undo.{ImageValue, undone, key_of_image, KeepsKeys}
use Rattle.cics_ksds.specs.Slots.{slots_in}
use Rattle.cics_ksds.specs.Prefixes.{has_prefix, under, all_deleted, removed_entry, added_entry, prefix_images, AreFileImages}
use Rattle.cics_ksds.specs.PrefixLaws.{AreThere, under_there, others_there, emptied_there, same_deleted, prefix_made, prefix_named, prefix_keeps}
use Rattle.cics_ksds.specs.PrefixRecords.{without_prefix_records}
use Rattle.cics_ksds.proofs.Bounds.{content_of}
use Rattle.cics_ksds.proofs.UnderPrefix.{read_half, set_half}
use Rattle.cics_ksds.proofs.files.File.empty_under.Goals as goal
use Rattle.cics_ksds.proofs.files.File.empty_under.Goals.{After-len-at-end, After-index_mut}

-- what the records of the file always are
content : (c : After-len-at-end) → IsContent c.args.self.now.definition c.args.self.now.records
content c = subst (λ (f : FileValue). IsContent f.definition f.records) c.self.view_is (content_of c.self.inside.definition (slots_in c.self.inside.slots) c.self.invariant)

-- the images as they are made, over the file that is seen
made : (c : After-len-at-end) → c.in_ok-images.images.items ≡ map (added_entry c.args.self.now.definition) (under c.args.prefix.now c.args.self.now.records)
made c = c.in_ok-images.ensures ∙ ap (λ (f : FileValue). map (added_entry f.definition) (under c.args.prefix.now f.records)) c.self.view_is

pub loop-at-init : goal.loop-at-init
loop-at-init c =
    let here = (goal.at.loop-at-init c).After-len-at-end in
    record {
      images = made here;
      there = under_there c.args.self.now c.args.prefix.now (content here);
      same_file = refl;
      whole = refl;
      long = omega (arith, c.len-at-end.ensures, ap length (made here), length-map (under c.args.prefix.now c.args.self.now.records) (added_entry c.args.self.now.definition));
    }

-- ---- the record whose turn it is
module _ (c : After-index_mut) where
  -- the records that are deleted
  abbrev entries : Map Bytes
  entries = under c.args.prefix.now c.args.self.now.records

  -- the one whose turn it is
  abbrev entry : Bytes × Bytes
  entry = get_or entries c.loop-at.at ([], [])

  -- there is one
  lt : c.loop-at.at < length entries
  lt = omega (arith, c.loop-at-test.true, c.loop-at.invariant.long)

  -- those that are left are it and the ones behind it
  rest : drop c.loop-at.at entries ≡ entry ∷ drop (c.loop-at.at + 1) entries
  rest = drop_more entries c.loop-at.at ([], []) lt

  -- all of them are in the file as it is
  there : AreThere c.loop-at.self (entry ∷ drop (c.loop-at.at + 1) entries)
  there = subst (λ es. AreThere c.loop-at.self es) rest c.loop-at.invariant.there

  -- its image has its key alone yet
  read : c.index_mut.result.now ≡ added_entry c.args.self.now.definition entry
  read = c.index_mut.ensures.value ∙ ap (λ l. get_or l c.loop-at.at c.index_mut.result.now) c.loop-at.invariant.images
      ∙ read_half (removed_entry c.args.self.now.definition) (added_entry c.args.self.now.definition) entries c.loop-at.at ([], []) c.index_mut.result.now lt

  -- so the file has a record of its key
  has : has_key entry.0 c.loop-at.self.records ≡ true
  has = ap (λ (o : Option Bytes). is_some o) there.0

pub exchange-requires-clause-same_file : goal.exchange-requires-clause-same_file
exchange-requires-clause-same_file c =
    let here = (goal.at.exchange-requires-clause-same_file c).After-index_mut in
    ap (λ (i : ImageValue). i.definition) (read here) ∙ sym c.loop-at.invariant.same_file

pub exchange-requires-clause-there : goal.exchange-requires-clause-there
exchange-requires-clause-there c =
    let here = (goal.at.exchange-requires-clause-there c).After-index_mut in
    ap (λ (i : ImageValue). has_key (key_of_image i) c.loop-at.self.records || is_key_in (key_of_image i) c.loop-at.self.empties) (read here)
    ∙ ap (λ b. b || is_key_in (entry here).0 c.loop-at.self.empties) (has here)

pub loop-at-preserved : goal.loop-at-preserved
loop-at-preserved c =
    let here = (goal.at.loop-at-preserved c).After-index_mut in
    let d = c.args.self.now.definition in
    let e = entry here in
    let deleted_one : c.exchange.new.self ≡ deleted true c.loop-at.self e.0 =
    c.exchange.ensures.value ∙ ap (undone c.loop-at.self) (read here) ∙ sym (emptied_there c.loop-at.self e.0 e.1 (there here).0) in
    let taken : c.exchange.new.image ≡ removed_entry d e =
    c.exchange.ensures.taken e.1 (ap (λ (i : ImageValue). value_at (key_of_image i) c.loop-at.self.records) (read here) ∙ (there here).0)
    ∙ ap (λ d. removed_entry d e) c.loop-at.invariant.same_file in
    record {
      images = (λ i. set (c.loop-at.invariant.images i) c.loop-at.at (taken i)) ∙ set_half (removed_entry d) (added_entry d) (entries here) c.loop-at.at ([], []) (lt here);
      there = subst (λ f. AreThere f (drop (c.loop-at.at + 1) (entries here))) (sym deleted_one) (others_there true c.loop-at.self e (drop (c.loop-at.at + 1) (entries here)) (there here));
      same_file = ap (λ (f : FileValue). f.definition) deleted_one ∙ same_deleted true c.loop-at.self e.0 ∙ c.loop-at.invariant.same_file;
      whole = ap (λ f. all_deleted true f (map (λ e. e.0) (drop (c.loop-at.at + 1) (entries here)))) deleted_one
          ∙ ap (λ (es : Map Bytes). all_deleted true c.loop-at.self (map (λ e. e.0) es)) (sym (rest here))
          ∙ c.loop-at.invariant.whole;
      long = c.loop-at.invariant.long;
    }

pub returns-clause-value : goal.returns-clause-value
returns-clause-value c =
    let es = under c.args.prefix.now c.args.self.now.records in
    ap (λ (es : Map Bytes). all_deleted true c.loop-at.self (map (λ e. e.0) es)) (sym (drop_all c.loop-at.at es (omega (arith, c.loop-at-test.false, c.loop-at.invariant.long))))
    ∙ c.loop-at.invariant.whole

pub returns-clause-plain : goal.returns-clause-plain
returns-clause-plain c =
    ap (λ (f : FileValue). f.records) (returns-clause-value c)
    ∙ without_prefix_records true c.args.self.now c.args.prefix.now (content (goal.at.returns-clause-plain c).After-len-at-end)

pub returns-clause-images : goal.returns-clause-images
returns-clause-images c =
    let es = under c.args.prefix.now c.args.self.now.records in
    let d = c.args.self.now.definition in
    c.loop-at.invariant.images
    ∙ (λ i. map (removed_entry d) (take_all c.loop-at.at es (omega (arith, c.loop-at-test.false, c.loop-at.invariant.long)) i) ++ map (added_entry d) (drop_all c.loop-at.at es (omega (arith, c.loop-at-test.false, c.loop-at.invariant.long)) i))
    ∙ append-nil (map (removed_entry d) es)

pub returns-clause-undoable : goal.returns-clause-undoable
returns-clause-undoable c =
    let old = c.args.self.now in
    let p = c.args.prefix.now in
    subst (λ (is : List ImageValue). AreFileImages old c.loop-at.self is) (sym (returns-clause-images c))
    (subst (λ (f : FileValue). AreFileImages old f (prefix_images true old p)) (sym (returns-clause-value c)) (prefix_made old p (content (goal.at.returns-clause-undoable c).After-len-at-end)))

pub returns-clause-named : goal.returns-clause-named
returns-clause-named c =
    subst (λ (is : List ImageValue). AreOf key_of_image (has_prefix c.args.prefix.now) is) (sym (returns-clause-images c)) (prefix_named true c.args.self.now c.args.prefix.now (content (goal.at.returns-clause-named c).After-len-at-end))

pub returns-clause-others : goal.returns-clause-others
returns-clause-others c =
    subst (λ (f : FileValue). KeepsKeys (λ key. not (has_prefix c.args.prefix.now key)) c.args.self.now f) (sym (returns-clause-value c)) (prefix_keeps true c.args.self.now c.args.prefix.now)
