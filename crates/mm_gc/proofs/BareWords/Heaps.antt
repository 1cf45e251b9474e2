-- A heap in which words were written into raw slots.
use Rattle.std.proofs.Common.{◌≡◌, ℕ, ◌+◌, ◌/◌, false, List, [], map, length, Some, refl, sym, ap}
use Rattle.std.proofs.Common.{◌∙◌, subst, arith, take}
use Rattle.std.proofs.lemmas.List.{length-map}
use Rattle.std.specs.Prelude.{if◌then◌else◌, ◌==◌}
use Rattle.std.specs.List.{count_by}
use Rattle.std.specs.Option.{option_map}
use Rattle.mm_model.specs.Value.{Value, words_of}
use Rattle.mm_model.specs.Object.{is_scanned}
use Rattle.mm_model.specs.State.{State}
use Rattle.mm_model.specs.Good.{IsGood}
use Rattle.mm_model.specs.Views.ByBase.{Begins, Based, with_entry}
use Rattle.mm_model.specs.Views.ObjectView.{ObjectView, ObjectsByBase, counted_words_of, references_in}
use Rattle.mm_model.specs.Views.View.{View, Shows}
use Rattle.mm_model.specs.Views.ViewWords.{outside_references}
use Rattle.mm_model.proofs.Lists.Replaced.{map-set, map-set_alike}
use Rattle.mm_model.proofs.View.ByBase.MappedEntries.{begins_mapped}
use Rattle.mm_model.proofs.View.ByBase.ReplacedEntries.{begins_get}
use Rattle.mm_model.proofs.View.ByBase.Seen.{seen_based}
use Rattle.mm_model.proofs.View.Shown.{shown-is, view_of-shows}
use Rattle.mm_object.specs.Object.{StoredObject, view_of_stored, views_of}
use Rattle.mm_object.specs.Heap.{Heap, IsSound, with_object}
use Rattle.mm_count.proofs.References.{references_of, references-with_entry}
use Rattle.mm_gc.specs.BareWords.{WordsStore, IsBare, IsBareAt, IsStateWithWords, AreWritten, overwritten}
use Rattle.mm_gc.specs.BareWords.{view_with_words, with_integers}
use Rattle.mm_gc.specs.Counts.{HasCounts}
use Rattle.mm_gc.specs.Gc.{Gc, view_of_gc}
use Rattle.mm_gc.specs.Kept.{KeepsGc}
use Rattle.mm_gc.proofs.BareWords.Lists.{length-overwritten}
use Rattle.mm_gc.proofs.BareWords.Meant.{meant-shown}
use Rattle.mm_gc.proofs.BareWords.States.{each-written}
use Rattle.mm_gc.proofs.Colours.Outlines.{framed, HaveOneOutline, alike-listed, alike-unpinned, alike-counted}
use Rattle.mm_gc.proofs.Colours.Outlines.{alike-right, alike-links, linked-kept}
use Rattle.mm_gc.proofs.Colours.Outlined.{outlined, extents_of, pieces-same, known-outlined, few-outlined, blank-length}
use Rattle.mm_gc.proofs.Keeping.Changed.{with_parts, keeps-objects}
use Rattle.mm_gc.proofs.Keeping.KeptParts.{counts-kept}

-- What the cell means in a state that is shown, and the words in its slots then.
state-with : (old : View) (store : WordsStore) (o : Based ObjectView)
    → IsBare old store.cell store.slot (length store.words) o → (a : State) → IsGood a → Shows old a
    → IsStateWithWords (view_with_words o store.slot store.words old) store a
state-with old store o bare a good shows =
    let m = meant-shown old store.cell o bare.meant a good shows in
    let raw : is_scanned m.object.kind ≡ false =
    sym (ap (λ (x : Based ObjectView). is_scanned x.value.kind) m.is) ∙ bare.raw in
    let size = length-map m.object.slots (λ (v : Value). v.word) in
    let words : length o.value.words ≡ length (words_of m.object.slots) =
    ap (λ (x : Based ObjectView). length x.value.words) m.is in
    let fits = bare.within in
    let each = each-written store.words a good m.birth m.object m.lives raw store.slot (omega arith) in
    let after = with_integers m.birth m.object store.slot store.words a in
    record {
      birth = m.birth;
      object = m.object;
      meant = m.meant;
      lives = m.lives;
      good = each.good;
      shows = subst (λ (view : View). Shows view after)
          (sym (ap (λ (x : Based ObjectView). view_with_words x store.slot store.words old) m.is
          ∙ ap (view_with_words (seen_based a m.birth m.object) store.slot store.words) (shown-is old a shows)
          ∙ each.view)) (view_of-shows after);
      puts = each.puts;
    }

module _ (gc : Gc) (store : WordsStore) (base : ℕ)
    (at : IsBareAt gc store.cell store.slot (length store.words) base) where
  abbrev object : StoredObject
  object = at.slots.object

  abbrev holder : Based ObjectView
  holder = record { base = base; value = view_of_stored object }

  abbrev stored : StoredObject
  stored = record object { words = overwritten object.words store.slot store.words }

  abbrev pub heap-with : Heap
  heap-with = with_object gc.region.heap base (Some stored)

  abbrev pub gc-with : Gc
  gc-with = with_parts gc heap-with gc.table gc.marker

  abbrev objects : ObjectsByBase
  objects = views_of gc.region.heap.objects

  begins : Begins objects base (view_of_stored object)
  begins = begins_mapped view_of_stored gc.region.heap.objects base object at.slots.begins

  size : length stored.words ≡ length object.words
  size = length-overwritten object.words store.slot store.words at.slots.within

  views-with : views_of heap-with.objects ≡ with_entry base (Some (view_of_stored stored)) objects
  views-with = map-set (option_map view_of_stored) gc.region.heap.objects (base / 16) (Some stored)

  view-with : view_of_gc gc-with ≡ view_with_words holder store.slot store.words (view_of_gc gc)
  view-with = ap (λ (vs : ObjectsByBase). record (view_of_gc gc) { objects = vs }) views-with

  pub are-written : AreWritten (view_of_gc gc) (view_of_gc gc-with) store
  are-written =
      record {
        object = holder;
        bare = at.bare;
        view = view-with;
        states = λ a good shows.
            subst (λ (view : View). IsStateWithWords view store a) (sym view-with)
            (state-with (view_of_gc gc) store holder at.bare a good shows);
      }

  -- what stays of the heap
  framed-with : HaveOneOutline gc.region.heap.objects heap-with.objects
  framed-with =
      map-set_alike (option_map framed) gc.region.heap.objects (base / 16) (Some object) (Some stored)
      (begins_get gc.region.heap.objects base object at.slots.begins)
      (ap (λ (ws : List ℕ). Some (record (framed object) { words = ws }))
      (blank-length stored.words object.words size))

  outlined-with : map (option_map outlined) (views_of heap-with.objects) ≡ map (option_map outlined) objects
  outlined-with =
      ap (map (option_map outlined)) views-with
      ∙ map-set_alike (option_map outlined) objects (base / 16) (Some (view_of_stored object))
      (Some (view_of_stored stored)) (begins_get objects base (view_of_stored object) begins)
      (ap (λ (ws : List ℕ). Some (record (outlined (view_of_stored object)) { words = ws }))
      (blank-length stored.words object.words size))

  extents-with : extents_of (views_of heap-with.objects) ≡ extents_of objects
  extents-with =
      ap extents_of views-with
      ∙ map-set_alike (option_map (λ (v : ObjectView). v.extent)) objects (base / 16) (Some (view_of_stored object))
      (Some (view_of_stored stored)) (begins_get objects base (view_of_stored object) begins) refl

  uncounted : (words : List ℕ) → counted_words_of (record (view_of_stored object) { words = words }) ≡ []
  uncounted words =
      ap (λ scanned. if scanned then take object.counted words else []) at.bare.raw

  references-with : (b : ℕ) → references_in (views_of heap-with.objects) b ≡ references_in objects b
  references-with b =
      let sums = references-with_entry objects base (view_of_stored object) (view_of_stored stored) begins b in
      let own : references_of (view_of_stored stored) b ≡ references_of (view_of_stored object) b =
      ap (count_by (λ w. w == b)) (uncounted stored.words ∙ sym (uncounted object.words)) in
      let is = ap (λ (vs : ObjectsByBase). references_in vs b) views-with in
      omega arith

  counts-with : (outside : ℕ → ℕ) → HasCounts gc.table gc.region.heap outside → HasCounts gc.table heap-with outside
  counts-with outside counts =
      record {
        right = alike-right gc.region.heap heap-with framed-with gc.table refl counts.right;
        counted = alike-counted gc.region.heap.objects heap-with.objects framed-with outside outside
            (λ b. ap (λ (n : ℕ). n + outside b) (references-with b)) counts.counted;
        listed = alike-listed gc.region.heap.objects heap-with.objects framed-with counts.listed;
        unpinned = alike-unpinned gc.region.heap.objects heap-with.objects framed-with counts.unpinned;
        linked = linked-kept gc.region.heap heap-with
            (alike-links gc.region.heap.objects heap-with.objects framed-with) counts.linked;
      }

  pub keeps-with : KeepsGc gc → IsSound heap-with → KeepsGc gc-with
  keeps-with keeps sound =
      let shown = keeps.shown in
      let state = are-written.states shown.state shown.good shown.shows in
      keeps-objects gc keeps heap-with gc.table gc.marker refl refl refl
      (pieces-same objects (views_of heap-with.objects) extents-with) sound
      (counts-with (outside_references (view_of_gc gc)) (counts-kept gc keeps))
      (known-outlined objects (views_of heap-with.objects) outlined-with gc.marker keeps.marking.known)
      (λ stale few. few-outlined objects (views_of heap-with.objects) outlined-with gc.marker stale few)
      (record {
        state = with_integers state.birth state.object store.slot store.words shown.state;
        good = state.good;
        shows = state.shows;
      })
