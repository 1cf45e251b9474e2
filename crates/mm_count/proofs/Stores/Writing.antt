-- What the objects and their views are once one counted slot is written.
use Rattle.std.proofs.Common.{◌≡◌, ◌≢◌, ⊎_elim, ℕ, ◌/◌, Bool, not, cond, List, Option, Some, refl, sym, ap, ◌∙◌}
use Rattle.std.proofs.Common.{subst, arith}
use Rattle.std.specs.Prelude.{slice_set, slice_index, ◌==◌, IsTrue}
use Rattle.std.specs.Option.{option_map}
use Rattle.std.proofs.lemmas.Option.{slice_get-get_or}
use Rattle.mm_model.specs.Object.{is_scanned, is_counted}
use Rattle.mm_model.specs.Words.{CountedSlot}
use Rattle.mm_model.specs.Views.ByBase.{Begins, with_entry, changed}
use Rattle.mm_model.specs.Views.ObjectView.{ObjectView, ObjectsByBase, references_in}
use Rattle.mm_model.specs.Views.SetsByBase.{count_at}
use Rattle.mm_model.specs.Views.View.{View}
use Rattle.mm_model.specs.Views.ViewWords.{outside_references}
use Rattle.mm_model.specs.Views.ViewStore.{view_recounted, view_with_word, view_with_sticky}
use Rattle.mm_model.proofs.Lists.Replaced.{map-set}
use Rattle.mm_model.proofs.View.ByBase.Entries.{begins_same}
use Rattle.mm_model.proofs.View.ByBase.ReplacedEntries.{begins_get, begins_here, begins_there, begins_cases}
use Rattle.mm_model.proofs.View.ByBase.MappedEntries.{begins_mapped}
use Rattle.mm_model.proofs.View.ByBase.ChangedEntries.{changed-alike, changed-with_entry, changed_value}
use Rattle.mm_object.specs.Object.{StoredObject, StoredObjects, view_of_stored, views_of}
use Rattle.mm_object.specs.Heap.{Heap, with_object}
use Rattle.mm_count.specs.declared.composite.Composite.{Composite}
use Rattle.mm_count.specs.Table.{composite_of}
use Rattle.mm_count.specs.Counts.{one_more, raised, changed_at, with_word, written_at, without_places, KeepsObjects}
use Rattle.mm_count.specs.Counts.{HasCountedSlot}
use Rattle.mm_count.specs.Sticky.{made_sticky, with_sticky}
use Rattle.mm_count.specs.Listed.{AllListed, NonePinned}
use Rattle.mm_count.proofs.Entries.{entry_at-begins}
use Rattle.mm_count.proofs.Composites.{decides, refutes}
use Rattle.mm_count.proofs.Places.{set_same}
use Rattle.mm_count.proofs.Counted.{one_more-here}
use Rattle.mm_count.proofs.Null.{keeps-same}
use Rattle.mm_count.proofs.Sticky.{made_sticky-alike}
use Rattle.mm_count.proofs.Stores.Stored.{stored, counted-slot, all-references, one_if, is, first, object-now}

pub keeps-then : (a b c : StoredObjects) → KeepsObjects a b → KeepsObjects b c → KeepsObjects a c
keeps-then a b c one two =
    record {
      to = λ base o begins.
          let first = one.to base o begins in
          let next = two.to base (record o { composite = first.0 }) first.1 in
          (next.0, next.1);
      back = λ base o begins.
          let first = two.back base o begins in
          let next = one.back base (record o { composite = first.0 }) first.1 in
          (next.0, next.1);
    }

abbrev view_with : View → ℕ → ℕ → ℕ → ObjectView → View
view_with view base s word x = view_with_word (record { base = base; value = x }) s word view

-- where the word is the one that is there
module _ (h : Heap) (base s word : ℕ) (slot : HasCountedSlot h.objects base s)
    (same : word ≡ slice_index slot.object.words s) where
  abbrev o : StoredObject
  o = slot.object

  words-same : slice_set o.words s word ≡ o.words
  words-same =
      set_same o.words s word
      (slice_get-get_or o.words s 0 slot.within ∙ ap (λ (w : ℕ). Some w) (sym same))

  written-is : (written_at base s word h).objects ≡ h.objects
  written-is =
      ap (λ (e : Option StoredObject). with_entry base (option_map (with_word s word) e) h.objects)
      (entry_at-begins h.objects base o slot.begins)
      ∙ ap (λ ws. with_entry base (Some (record o { words = ws })) h.objects) words-same
      ∙ set_same h.objects (base / 16) (Some o) (begins_get h.objects base o slot.begins)

  pub keeps-unwritten : KeepsObjects (written_at base s word h).objects h.objects
  keeps-unwritten = subst (λ objects. KeepsObjects objects h.objects) (sym written-is) (keeps-same h.objects)

  pub views-unwritten : (view : View) (object : ObjectView) → view.objects ≡ views_of h.objects
      → Begins view.objects base object
      → views_of h.objects
      ≡ (view_recounted CountedSlot (slice_index object.words s) word
      (view_with_word (record { base = base; value = object }) s word view)).objects
  views-unwritten view object shows begins =
      let v = view_of_stored o in
      let mapped = begins_mapped view_of_stored h.objects base o slot.begins in
      let is_own : object ≡ v =
      begins_same (views_of h.objects) base object v (subst (λ vs. Begins vs base object) shows begins) mapped in
      sym
      (ap (λ (x : ObjectView). (view_recounted CountedSlot (slice_index x.words s) word
      (view_with_word (record { base = base; value = x }) s word view)).objects) is_own
      ∙ ap (λ (b : Bool). (cond (not b) (view_with_sticky word (view_with view base s word v)) (view_with view base s
      word v)).objects)
      (decides (slice_index o.words s) word (sym same))
      ∙ ap (λ (ws : List ℕ). with_entry base (Some (record v { words = ws })) view.objects) words-same
      ∙ ap (with_entry base (Some v)) shows
      ∙ set_same (views_of h.objects) (base / 16) (Some v) (begins_get (views_of h.objects) base v mapped))

-- The heap between the raise and the lowering.
module _ (h raised_heap written : Heap) (base s word : ℕ) (slot : HasCountedSlot h.objects base s)
    (keeps : KeepsObjects h.objects raised_heap.objects)
    (raises : without_places raised_heap ≡ changed_at raised word (without_places h))
    (writes : (object : StoredObject) → Begins raised_heap.objects base object
    → written ≡ with_object raised_heap base (Some (record object { words = slice_set object.words s word }))) where
  abbrev own : StoredObject
  own = slot.object

  abbrev between : StoredObject
  between = object-now h raised_heap written base s word slot keeps raises writes

  there : Begins raised_heap.objects base between
  there = (first h raised_heap written base s word slot keeps raises writes).1

  objects-is : written.objects ≡ with_entry base (Some (with_word s word between)) raised_heap.objects
  objects-is = ap (λ (g : Heap). g.objects) (is h raised_heap written base s word slot keeps raises writes)

  pub between-rest : raised_heap ≡ record h { objects = raised_heap.objects }
      → written ≡ record h { objects = written.objects }
  between-rest rest =
      ap (λ (g : Heap). record g { objects = written.objects })
      (is h raised_heap written base s word slot keeps raises writes)
      ∙ ap (λ (g : Heap). record g { objects = written.objects }) rest

  -- each object has the composite and the kind of one that was there
  record Was (b : ℕ) (x : StoredObject) : Type 0 where
    object : StoredObject
    begins : Begins raised_heap.objects b object
    kind : x.kind ≡ object.kind
    composite : x.composite ≡ object.composite

  was : (b : ℕ) (x : StoredObject) → Begins written.objects b x → Was b x
  was b x begins =
      ⊎_elim
      (λ (e : (b ≡ base) × (x ≡ with_word s word between)).
      record {
        object = between;
        begins = subst (λ n. Begins raised_heap.objects n between) (sym e.0) there;
        kind = ap (λ (z : StoredObject). z.kind) e.1;
        composite = ap (λ (z : StoredObject). z.composite) e.1;
      })
      (λ (n : (b ≢ base) × Begins raised_heap.objects b x).
      record { object = x; begins = n.1; kind = refl; composite = refl })
      (begins_cases raised_heap.objects base between (with_word s word between) there b x
      (subst (λ objects. Begins objects b x) objects-is begins))

  pub between-unpinned : NonePinned raised_heap.objects → NonePinned written.objects
  between-unpinned none =
      record {
        unpinned = λ b x begins.
            let w = was b x begins in
            ap (λ n. (composite_of (record x { composite = n })).pinned) w.composite
            ∙ none.unpinned b w.object w.begins;
      }

  pub between-listed : AllListed raised_heap.objects → AllListed written.objects
  between-listed all =
      record {
        listed = λ b x begins.
            let w = was b x begins in
            let same = ap (λ n. composite_of (record x { composite = n })) w.composite in
            λ counted exact none.
            ap (λ (c : Composite). c.listed) same
            ∙ all.listed b w.object w.begins (subst (λ k. IsTrue (is_counted k)) w.kind counted)
            (sym (ap (λ (c : Composite). c.sticky) same) ∙ exact) (sym (ap (λ c. c.count) same) ∙ none);
      }

  -- the same objects as with the word written, but for composites
  pub between-objects : KeepsObjects (written_at base s word h).objects written.objects
  between-objects =
      subst (λ objects. KeepsObjects objects written.objects)
      (sym (ap (λ (e : Option StoredObject). with_entry base (option_map (with_word s word) e) h.objects)
      (entry_at-begins h.objects base own slot.begins)))
      (subst (KeepsObjects (with_entry base (Some (with_word s word own)) h.objects)) (sym objects-is) kept)
    where
      before : StoredObject
      before = with_word s word own

      now : StoredObject
      now = with_word s word between

      kept : KeepsObjects (with_entry base (Some (with_word s word own)) h.objects)
          (with_entry base (Some (with_word s word between)) raised_heap.objects)
      kept =
          record {
            to = λ b x begins.
                ⊎_elim
                (λ (e : (b ≡ base) × (x ≡ with_word s word own)). (
                  between.composite,
                  subst (λ n. Begins (with_entry base (Some (with_word s word between)) raised_heap.objects) n
                      (record x { composite = between.composite })) (sym e.0)
                      (subst (Begins (with_entry base (Some (with_word s word between)) raised_heap.objects) base)
                      (ap (λ (z : StoredObject). record z { composite = between.composite }) (sym e.1))
                      (begins_here raised_heap.objects base between (with_word s word between) there)),
                ))
                (λ (n : (b ≢ base) × Begins h.objects b x).
                let k = keeps.to b x n.1 in (
                  k.0,
                  begins_there raised_heap.objects base between (with_word s word between) there b
                      (record x { composite = k.0 }) n.0 k.1,
                ))
                (begins_cases h.objects base own (with_word s word own) slot.begins b x begins);
            back = λ b x begins.
                ⊎_elim
                (λ (e : (b ≡ base) × (x ≡ with_word s word between)). (
                  own.composite,
                  subst (λ n. Begins (with_entry base (Some (with_word s word own)) h.objects) n
                      (record x { composite = own.composite })) (sym e.0)
                      (subst (Begins (with_entry base (Some (with_word s word own)) h.objects) base)
                      (ap (λ (z : StoredObject). record z { composite = own.composite }) (sym e.1))
                      (begins_here h.objects base own (with_word s word own) slot.begins)),
                ))
                (λ (n : (b ≢ base) × Begins raised_heap.objects b x).
                let k = keeps.back b x n.1 in (
                  k.0,
                  begins_there h.objects base own (with_word s word own) slot.begins b
                      (record x { composite = k.0 }) n.0 k.1,
                ))
                (begins_cases raised_heap.objects base between (with_word s word between) there b x begins);
          }

  -- the views, where the new word is another one
  module _ (outside : ℕ → ℕ) (other : slice_index slot.object.words s ≢ word)
      (up : views_of raised_heap.objects ≡ with_sticky (one_more outside word) word (views_of h.objects)) where
    abbrev V : ObjectsByBase
    V = views_of h.objects

    abbrev v : ObjectView
    v = view_of_stored own

    abbrev set : ObjectView → ObjectView
    set x = record x { words = slice_set own.words s word }

    abbrev W : ObjectsByBase
    W = with_entry base (Some (set v)) V

    begun : Begins V base v
    begun = begins_mapped view_of_stored h.objects base own slot.begins

    count-more : count_at W outside word ≡ count_at V (one_more outside word) word
    count-more =
        let at = counted-slot (is_scanned own.kind) own.counted s slot.kind in
        let sums = all-references h base own slot.begins s word at.0 at.1 slot.within word in
        let seen : references_in (views_of (stored h base own slot.begins s word).objects) word ≡ references_in W word =
        ap (λ (vs : ObjectsByBase). references_in vs word)
        (map-set (option_map view_of_stored) h.objects (base / 16) (Some (with_word s word own))) in
        let none : one_if (slice_index own.words s == word) ≡ 0 =
        ap one_if (refutes (slice_index own.words s) word other) in
        let one : one_if (word == word) ≡ 1 = ap one_if (decides word word refl) in
        let more = one_more-here outside word in
        omega arith

    alike : (b : ℕ) (x : ObjectView)
        → made_sticky W outside word b x ≡ made_sticky V (one_more outside word) word b x
    alike b x = made_sticky-alike W V outside (one_more outside word) word b x count-more

    own-sticky : made_sticky V (one_more outside word) word base v ≡ Some (view_of_stored between)
    own-sticky =
        changed_value (made_sticky V (one_more outside word) word) V base v (view_of_stored between) begun
        (subst (λ vs. Begins vs base (view_of_stored between)) up
        (begins_mapped view_of_stored raised_heap.objects base between there))

    own-set : made_sticky W outside word base (set v) ≡ Some (set (view_of_stored between))
    own-set = ap (option_map set) (alike base v ∙ own-sticky)

    pub between-views : views_of written.objects ≡ with_sticky outside word W
    between-views =
        ap views_of objects-is
        ∙ map-set (option_map view_of_stored) raised_heap.objects (base / 16) (Some (with_word s word between))
        ∙ ap (with_entry base (Some (set (view_of_stored between)))) up
        ∙ sym
        (changed-with_entry (made_sticky W outside word) V base v (set v) begun
        ∙ ap (λ (e : Option ObjectView). with_entry base e (changed (made_sticky W outside word) V)) own-set
        ∙ ap (with_entry base (Some (set (view_of_stored between))))
        (changed-alike (made_sticky W outside word) (made_sticky V (one_more outside word) word) V
        (λ b x begins. alike b x)))

-- what a view with these objects says of the store
pub views-written : (h : Heap) (base s word : ℕ) (slot : HasCountedSlot h.objects base s)
    → slice_index slot.object.words s ≢ word → (view : View) (object : ObjectView) → view.objects ≡ views_of h.objects
    → Begins view.objects base object
    → with_sticky (outside_references view) word
    (with_entry base (Some (record (view_of_stored slot.object) { words = slice_set slot.object.words s word }))
    (views_of h.objects))
    ≡ (view_recounted CountedSlot (slice_index object.words s) word
    (view_with_word (record { base = base; value = object }) s word view)).objects
views-written h base s word slot other view object shows begins =
    let v = view_of_stored slot.object in
    let is_own : object ≡ v =
    begins_same (views_of h.objects) base object v (subst (λ vs. Begins vs base object) shows begins)
    (begins_mapped view_of_stored h.objects base slot.object slot.begins) in
    sym
    (ap (λ (x : ObjectView). (view_recounted CountedSlot (slice_index x.words s) word
    (view_with_word (record { base = base; value = x }) s word view)).objects) is_own
    ∙ ap (λ (b : Bool). (cond (not b) (view_with_sticky word (view_with view base s word v)) (view_with view base s
    word v)).objects)
    (refutes (slice_index slot.object.words s) word other)
    ∙ ap (λ (vs : ObjectsByBase). with_sticky (outside_references view) word
    (with_entry base (Some (record v { words = slice_set slot.object.words s word })) vs)) shows)
