-- A word is written into a slot of an object.
use Rattle.std.proofs.Common.{◌≡◌, ◌≢◌, ℕ, ◌+◌, ◌<◌, ◌≤◌, ◌/◌, Bool, true, false, not, cond, List}
use Rattle.std.proofs.Common.{[], take, length, Option, Some, Ok, refl, sym, ap, ◌∙◌, subst}
use Rattle.std.proofs.Common.{arith}
use Rattle.std.proofs.lemmas.Bool.Decides.{nat_tests}
use Rattle.std.proofs.lemmas.List.{take-set-le}
use Rattle.std.proofs.lemmas.Option.{slice_get-get_or}
use Rattle.std.specs.Prelude.{IsTrue, ◌==◌, ◌&&◌, ◌||◌, if◌then◌else◌, nat_lt, slice_get, slice_set, slice_index}
use Rattle.std.specs.List.{count_by}
use Rattle.std.specs.Option.{option_map}
use Rattle.mm_model.specs.declared.refusal.Refusal.TheVariants as refusals
use Rattle.mm_model.specs.declared.reply.Put.{Put}
use Rattle.mm_model.specs.declared.reply.Put.TheVariants.{Tight, Loose}
use Rattle.mm_model.specs.declared.reply.Reply.TheVariants as replies
use Rattle.mm_model.specs.Object.{is_counted, is_scanned}
use Rattle.mm_model.specs.Words.{SlotKind, CountedSlot, WordSlot, RawSlot, slot_kind_at}
use Rattle.mm_model.specs.Store.{is_counted_slot}
use Rattle.mm_model.specs.Views.ByBase.{Begins, with_entry}
use Rattle.mm_model.specs.Views.ObjectView.{ObjectView, ObjectsByBase, counted_words_of, references_in, slot_kind_of}
use Rattle.mm_model.specs.Views.View.{View}
use Rattle.mm_model.specs.Views.ViewWords.{begins_counted_in, falls_in_counted_of, view_refuses_word}
use Rattle.mm_model.specs.Views.ViewStore.{view_recounted, view_with_word, view_with_sticky, view_store_reply}
use Rattle.mm_model.specs.Views.GoodView.{HoldTight}
use Rattle.mm_model.proofs.Good.Living.{each_get}
use Rattle.mm_model.proofs.Lists.Replaced.{map-set, map-set_alike}
use Rattle.mm_model.proofs.View.ByBase.Entries.{begins_same}
use Rattle.mm_model.proofs.View.GoodWords.{begins_counted_from}
use Rattle.mm_model.proofs.View.ByBase.ReplacedEntries.{begins_get}
use Rattle.mm_model.proofs.View.ByBase.MappedEntries.{begins_mapped, mapped_begins}
use Rattle.mm_model.proofs.Lists.Fronts.{get-take}
use Rattle.mm_object.specs.declared.slot.Slot.TheVariants as slots
use Rattle.mm_object.specs.Object.{StoredObject, StoredObjects, view_of_stored, views_of, slot_with}
use Rattle.mm_object.specs.Heap.{Heap, with_object}
use Rattle.mm_count.specs.declared.composite.Composite.{Composite}
use Rattle.mm_count.specs.Table.{Table, with_entries, composite_of, IsSameTable}
use Rattle.mm_count.specs.Counts.{IsCountedBy, NamesCounted, HasCountedSlot, HasReference, KeepsObjects}
use Rattle.mm_count.specs.Counts.{composite_told, composite_at, written_at}
use Rattle.mm_count.specs.Counts.{with_word}
use Rattle.mm_count.proofs.Composites.{refutes, decides}
use Rattle.mm_count.proofs.Entries.{entry_at-begins}
use Rattle.mm_count.proofs.References.{references_of, references-with_entry}
use Rattle.mm_count.proofs.Stores.Stored.{all-references, counted-slot, one_if}
use Rattle.mm_weak.specs.Links.{IsLinked}
use Rattle.mm_gc.specs.Replies.{put_reply}
use Rattle.mm_gc.specs.Counts.{HasCounts}
use Rattle.mm_gc.specs.Stores.{Store, IsStored, IsNotCounted}
use Rattle.mm_gc.proofs.Colours.Outlines.{framed, HaveOneOutline, alike-listed, alike-unpinned, alike-counted}
use Rattle.mm_gc.proofs.Colours.Outlines.{alike-right}
use Rattle.mm_gc.proofs.Colours.Outlines.{alike-links, keeps-links, linked-kept}

pub slot_word : (kind : SlotKind) (word found : ℕ) → slots.Word found ≡ slot_with kind word
    → is_counted_slot kind ≡ false
slot_word CountedSlot word found e = cc
slot_word WordSlot word found e = refl
slot_word RawSlot word found e = refl

pub slot_raw : (kind : SlotKind) (word found : ℕ) → slots.Raw found ≡ slot_with kind word
    → is_counted_slot kind ≡ false
slot_raw CountedSlot word found e = cc
slot_raw WordSlot word found e = refl
slot_raw RawSlot word found e = refl

-- a counted object begins at a word that a counted slot takes
pub named-tight : (objects : StoredObjects) (word : ℕ)
    → (word == 0 || begins_counted_in (views_of objects) word) ≡ true → NamesCounted objects word
named-tight objects word tight some =
    let one = begins_counted_from (views_of objects) word
    (sym (ap (λ b. b || begins_counted_in (views_of objects) word) (refutes word 0 some)) ∙ tight) in
    let m = mapped_begins view_of_stored objects word one.object one.begins in
    record {
      object = m.value;
      begins = m.begins;
      counted = ap (λ (v : ObjectView). is_counted v.kind) m.is ∙ one.counted;
    }

-- what a view has at a base is what is stored there
pub viewed : (objects : StoredObjects) (base : ℕ) (object : StoredObject) → Begins objects base object
    → (view : View) (seen : ObjectView) → view.objects ≡ views_of objects → Begins view.objects base seen
    → seen ≡ view_of_stored object
viewed objects base object begins view seen shows there =
    begins_same (views_of objects) base seen (view_of_stored object)
    (subst (λ (vs : ObjectsByBase). Begins vs base seen) shows there)
    (begins_mapped view_of_stored objects base object begins)

-- A counted slot names a counted object, which has a reference.
module _ (h : Heap) (base s : ℕ) (slot : HasCountedSlot h.objects base s) where
  abbrev holder : StoredObject
  holder = slot.object

  abbrev old : ℕ
  old = slice_index holder.words s

  in_counted_words : slice_get (counted_words_of (view_of_stored holder)) s ≡ Some old
  in_counted_words =
      let at = counted-slot (is_scanned holder.kind) holder.counted s slot.kind in
      ap (λ b. slice_get (cond b (take holder.counted holder.words) []) s) at.0
      ∙ get-take holder.counted s holder.words at.1
      ∙ slice_get-get_or holder.words s 0 slot.within

  pub slot-named : HoldTight (views_of h.objects) → NamesCounted h.objects old
  slot-named tight =
      named-tight h.objects old
      (each_get (λ word. IsTrue (word == 0 || begins_counted_in (views_of h.objects) word))
      (counted_words_of (view_of_stored holder)) s old
      (tight base (view_of_stored holder) (begins_mapped view_of_stored h.objects base holder slot.begins))
      in_counted_words)

  held : 1 ≤ references_in (views_of h.objects) old
  held =
      let at = counted-slot (is_scanned holder.kind) holder.counted s slot.kind in
      let sums = all-references h base holder slot.begins s (old + 1) at.0 at.1 slot.within old in
      let one : one_if (old == old) ≡ 1 = ap one_if (decides old old refl) in
      let none : one_if (old + 1 == old) ≡ 0 = ap one_if (refutes (old + 1) old (λ e. omega arith)) in
      omega arith

  pub slot-reference : (outside : ℕ → ℕ) → IsCountedBy h.objects outside → NamesCounted h.objects old → old ≢ 0
      → HasReference h.objects old
  slot-reference outside right named some sticky none =
      let k = named some in
      let told : composite_at h.objects old ≡ composite_of k.object =
      ap composite_told (entry_at-begins h.objects old k.object k.begins) in
      let exact = right.exact old (view_of_stored k.object)
      (begins_mapped view_of_stored h.objects old k.object k.begins) k.counted
      (sym (ap (λ (c : Composite). c.sticky) told) ∙ sticky) in
      let some = held in
      omega arith

pub same-then : (a b c : Table) → IsSameTable a b → IsSameTable b c → IsSameTable a c
same-then a b c one two = two ∙ ap (λ (t : Table). with_entries t c.entries) one

-- the heap once one word is written
module _ (h : Heap) (base s word : ℕ) (object : StoredObject) (begins : Begins h.objects base object)
    (within : s < length object.words) where
  blank-set : (framed (with_word s word object)).words ≡ (framed object).words
  blank-set =
      map-set_alike {P = ℕ} (λ (w : ℕ). 0) object.words s (slice_index object.words s) word
      (slice_get-get_or object.words s 0 within) refl

  pub written-alike : HaveOneOutline h.objects (with_entry base (Some (with_word s word object)) h.objects)
  written-alike =
      map-set_alike (option_map framed) h.objects (base / 16) (Some object) (Some (with_word s word object))
      (begins_get h.objects base object begins)
      (ap (λ (ws : List ℕ). Some (record (framed object) { words = ws })) blank-set)

  pub written_at-is : (written_at base s word h).objects ≡ with_entry base (Some (with_word s word object)) h.objects
  written_at-is =
      ap (λ (e : Option StoredObject). with_entry base (option_map (with_word s word) e) h.objects)
      (entry_at-begins h.objects base object begins)

  -- partners stay where the word is written and composites change
  pub stored-linked : (after : Heap) → KeepsObjects (written_at base s word h).objects after.objects
      → IsLinked h → IsLinked after
  stored-linked after keeps linked =
      let middle = written_at base s word h in
      linked-kept middle after (keeps-links middle.objects after.objects keeps)
      (linked-kept h middle
      (alike-links h.objects middle.objects (subst (HaveOneOutline h.objects) (sym written_at-is) written-alike))
      linked)

  -- Where the slot isn't counted.
  module _ (plain : is_counted_slot (slot_kind_of (view_of_stored object) s) ≡ false) where
    abbrev after : Heap
    after = with_object h base (Some (with_word s word object))

    counted_words-plain : counted_words_of (view_of_stored (with_word s word object))
        ≡ counted_words_of (view_of_stored object)
    counted_words-plain = split (is_scanned object.kind) plain
      where
        split : (b : Bool) → is_counted_slot (slot_kind_at b object.counted s) ≡ false
            → (if b then take object.counted (slice_set object.words s word) else [])
            ≡ (if b then take object.counted object.words else [])
        split false e = refl
        split true e = take-set-le object.counted object.words s word (past (nat_lt s object.counted) refl e)
          where
            past : (b : Bool) → nat_lt s object.counted ≡ b
                → is_counted_slot (if b then CountedSlot else WordSlot) ≡ false → object.counted ≤ s
            past true t e = cc
            past false t e = grind (arith, nat_tests)

    views-plain : views_of after.objects
        ≡ with_entry base (Some (record (view_of_stored object) { words = slice_set object.words s word }))
        (views_of h.objects)
    views-plain = map-set (option_map view_of_stored) h.objects (base / 16) (Some (with_word s word object))

    references-plain : (b : ℕ) → references_in (views_of after.objects) b ≡ references_in (views_of h.objects) b
    references-plain b =
        let sums = references-with_entry (views_of h.objects) base (view_of_stored object)
        (view_of_stored (with_word s word object)) (begins_mapped view_of_stored h.objects base object begins) b in
        let own : references_of (view_of_stored (with_word s word object)) b ≡ references_of (view_of_stored object) b =
        ap (count_by (λ w. w == b)) counted_words-plain in
        let is = ap (λ (vs : ObjectsByBase). references_in vs b) views-plain in
        omega arith

    pub plain-counts : (table : Table) (outside : ℕ → ℕ) → HasCounts table h outside
        → HasCounts table after outside
    plain-counts table outside counts =
        record {
          right = alike-right h after written-alike table refl counts.right;
          counted = alike-counted h.objects after.objects written-alike outside outside
              (λ b. ap (λ (n : ℕ). n + outside b) (references-plain b)) counts.counted;
          listed = alike-listed h.objects after.objects written-alike counts.listed;
          unpinned = alike-unpinned h.objects after.objects written-alike counts.unpinned;
          linked = linked-kept h after (alike-links h.objects after.objects written-alike) counts.linked;
        }

    pub plain-stored : (put : Put) → put ≡ (if falls_in_counted_of (views_of h.objects) word then Loose else Tight)
        → (view : View) (seen : ObjectView) → view.objects ≡ views_of h.objects → Begins view.objects base seen
        → IsStored view (record { holder = record { base = base; value = seen }; slot = s; word = word })
        (views_of after.objects) put
    plain-stored put answer view seen shows there =
        let own = viewed h.objects base object begins view seen shows there in
        let kind : is_counted_slot (slot_kind_of seen s) ≡ false =
        ap (λ (v : ObjectView). is_counted_slot (slot_kind_of v s)) own ∙ plain in
        record {
          taken = ap (λ b. b && not (word == 0) && not (begins_counted_in view.objects word)) kind;
          objects = views-plain
              ∙ sym (ap (λ b. (if b && not (slice_index seen.words s == word)
              then view_with_sticky word (view_with_word (record { base = base; value = seen }) s word view)
              else view_with_word (record { base = base; value = seen }) s word view).objects) kind
              ∙ ap (λ (v : ObjectView). with_entry base (Some (record v { words = slice_set v.words s word }))
              view.objects) own
              ∙ ap (with_entry base (Some (record (view_of_stored object) { words = slice_set object.words s word })))
              shows);
          reply = ap (λ (put : Put). put_reply (Ok put)) answer
              ∙ told (falls_in_counted_of (views_of h.objects) word)
              ∙ sym (ap
              (λ b. if not b && falls_in_counted_of view.objects word then replies.Loose else replies.Done) kind
              ∙ ap (λ (vs : ObjectsByBase). if falls_in_counted_of vs word then replies.Loose else replies.Done) shows);
        }
      where
        told : (b : Bool) → put_reply (Ok (if b then Loose else Tight)) ≡ (if b then replies.Loose else replies.Done)
        told true = refl
        told false = refl

-- Where the slot is counted.
module _ (h : Heap) (base s word : ℕ) (slot : HasCountedSlot h.objects base s) (view : View) (seen : ObjectView)
    (shows : view.objects ≡ views_of h.objects) (there : Begins view.objects base seen) where
  abbrev store : Store
  store = record { holder = record { base = base; value = seen }; slot = s; word = word }

  kind-is : slot_kind_of seen s ≡ CountedSlot
  kind-is =
      ap (λ (v : ObjectView). slot_kind_of v s) (viewed h.objects base slot.object slot.begins view seen shows there)
      ∙ slot.kind

  pub counted-refused : (word == 0 || begins_counted_in (views_of h.objects) word) ≡ false
      → IsNotCounted view store refusals.NotCounted
  counted-refused loose =
      record {
        because_is = refl;
        refused = ap (λ kind. view_refuses_word view kind word) kind-is
            ∙ ap (λ (vs : ObjectsByBase). not (word == 0) && not (begins_counted_in vs word)) shows
            ∙ neither (word == 0) (begins_counted_in (views_of h.objects) word) loose;
      }
    where
      neither : (a b : Bool) → (a || b) ≡ false → (not a && not b) ≡ true
      neither true b e = cc
      neither false true e = cc
      neither false false e = refl

  pub counted-stored : (word == 0 || begins_counted_in (views_of h.objects) word) ≡ true → (after : ObjectsByBase)
      → after ≡ (view_recounted CountedSlot (slice_index seen.words s) word
      (view_with_word (record { base = base; value = seen }) s word view)).objects
      → IsStored view store after Tight
  counted-stored tight after is =
      record {
        taken = ap (λ kind. view_refuses_word view kind word) kind-is
            ∙ ap (λ (vs : ObjectsByBase). not (word == 0) && not (begins_counted_in vs word)) shows
            ∙ either (word == 0) (begins_counted_in (views_of h.objects) word) tight;
        objects = is ∙ sym (ap (λ kind. (view_recounted kind (slice_index seen.words s) word
            (view_with_word (record { base = base; value = seen }) s word view)).objects) kind-is);
        reply = sym (ap (λ kind. view_store_reply view kind word) kind-is);
      }
    where
      either : (a b : Bool) → (a || b) ≡ true → (not a && not b) ≡ false
      either true b e = refl
      either false true e = refl
      either false false e = cc
