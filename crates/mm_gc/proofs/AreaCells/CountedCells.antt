-- A word is written into a counted cell of an area.
use Rattle.std.proofs.Common.{◌≡◌, ◌≢◌, ℕ, ◌<◌, Bool, true, false, not, cond, List, [], map, take}
use Rattle.std.proofs.Common.{Option}
use Rattle.std.proofs.Common.{refl, sym, ap, ◌∙◌, subst, arith}
use Rattle.std.proofs.lemmas.List.Folds.{find_at}
use Rattle.std.proofs.lemmas.Option.{slice_get-get_or}
use Rattle.std.specs.Prelude.{◌==◌, ◌&&◌, ◌||◌, IsTrue, if◌then◌else◌, slice_get, slice_index}
use Rattle.std.specs.List.{position_or_len}
use Rattle.mm_model.specs.declared.reply.Put.TheVariants.{Tight}
use Rattle.mm_model.specs.Words.{CountedSlot}
use Rattle.mm_model.specs.Store.{is_counted_slot}
use Rattle.mm_model.specs.Views.ObjectView.{ObjectsByBase}
use Rattle.mm_model.specs.Views.View.{View, AreaView}
use Rattle.mm_model.specs.Views.ViewStore.{view_recounted, view_with_sticky, view_store_reply}
use Rattle.mm_model.specs.Views.ViewWords.{begins_counted_in, cell_kind_of, counted_cells_of, outside_references}
use Rattle.mm_model.specs.Views.ViewWords.{view_refuses_word}
use Rattle.mm_model.proofs.Good.Living.{each_get}
use Rattle.mm_model.proofs.Lists.Fronts.{get-take}
use Rattle.mm_object.specs.Object.{views_of}
use Rattle.mm_object.specs.Heap.{Heap}
use Rattle.mm_count.specs.Counts.{NamesCounted}
use Rattle.mm_count.specs.Sticky.{with_sticky}
use Rattle.mm_count.specs.Table.{Table}
use Rattle.mm_count.proofs.Composites.{refutes, decides}
use Rattle.mm_count.proofs.Stores.Stored.{counted-slot, one_if}
use Rattle.mm_roots.specs.Areas.{Areas}
use Rattle.mm_roots.specs.Views.{views_of_areas, with_cell}
use Rattle.mm_gc.specs.AreaCells.{CellParts, AreaStore, ShowsCell, IsCellStored, IsReplaced}
use Rattle.mm_gc.specs.AreaCells.{CanReplace}
use Rattle.mm_gc.specs.AreaCells.{area_stored}
use Rattle.mm_gc.specs.Counts.{HasCounts}
use Rattle.mm_gc.proofs.AreaCells.AreaStores.{written, areas-written}
use Rattle.mm_gc.proofs.AreaCells.OutsideWords.{all_holding, all-holding, cells-replaced}
use Rattle.mm_gc.proofs.AreaCells.Replaced.{counts-raw, counts-outside}
use Rattle.mm_gc.proofs.Writing.Written.{named-tight}

module _ (number : ℕ) (store : AreaStore) (parts : CellParts) (shows : ShowsCell parts number store)
    (kind : cell_kind_of store.area store.cell ≡ CountedSlot) where
  abbrev before : ℕ
  before = slice_index store.area.words store.cell

  abbrev after : View
  after = written number store parts shows

  at : (store.area.scanned ≡ true) × (store.cell < store.area.counted)
  at = counted-slot store.area.scanned store.area.counted store.cell kind

  areas-are : map (with_cell number store.cell store.word) store.view.areas ≡ after.areas
  areas-are =
      ap (map (with_cell number store.cell store.word)) shows.areas
      ∙ areas-written number store parts shows
      (map (with_cell number store.cell store.word) (views_of_areas parts.areas parts.heap.raw)) refl

  -- what the cell held names a counted object, or is 0
  old-named : NamesCounted parts.heap.objects before
  old-named =
      named-tight parts.heap.objects before
      (subst (λ (vs : ObjectsByBase). IsTrue (before == 0 || begins_counted_in vs before)) shows.objects
      (each_get (λ word. IsTrue (word == 0 || begins_counted_in store.view.objects word)) (counted_cells_of store.area)
      store.cell before
      (shows.good.cells_tight (position_or_len (λ (area : AreaView). area.number == number) store.view.areas) store.area
      (sym (find_at (λ (area : AreaView). area.number == number) store.view.areas) ∙ shows.lives))
      (ap (λ b. slice_get (cond b (take store.area.counted store.area.words) []) store.cell) at.0
      ∙ get-take store.area.counted store.cell store.area.words at.1
      ∙ slice_get-get_or store.area.words store.cell 0 shows.within)))

  module _ (tight : (store.word == 0 || begins_counted_in (views_of parts.heap.objects) store.word) ≡ true) where
    taken : view_refuses_word store.view (cell_kind_of store.area store.cell) store.word ≡ false
    taken =
        ap (λ kind. view_refuses_word store.view kind store.word) kind
        ∙ ap (λ (vs : ObjectsByBase). not (store.word == 0) && not (begins_counted_in vs store.word)) shows.objects
        ∙ either (store.word == 0) (begins_counted_in (views_of parts.heap.objects) store.word) tight
      where
        either : (a b : Bool) → (a || b) ≡ true → (not a && not b) ≡ false
        either true b e = refl
        either false true e = refl
        either false false e = cc

    -- where it held the word already
    module _ (same : before ≡ store.word) where
      recounted-same : area_stored store ≡ after
      recounted-same =
          ap (λ b. if is_counted_slot (cell_kind_of store.area store.cell) && not b
          then view_with_sticky store.word after else after) (decides before store.word same)
          ∙ no (is_counted_slot (cell_kind_of store.area store.cell))
        where
          no : (b : Bool) → ◌≡◌ {A = View} (if b && false then view_with_sticky store.word after else after) after
          no true = refl
          no false = refl

      outside-same : (b : ℕ) → outside_references after b ≡ outside_references store.view b
      outside-same b =
          let sums = all-holding number store.cell store.word b store.area at.0 at.1 shows.within store.view.areas
          shows.good.numbered.ascending shows.lives in
          let ones = ap (λ (n : ℕ). one_if (n == b)) same in
          let is = ap (all_holding b) areas-are in
          omega arith

      pub same-stored : (heap : Heap) (areas : Areas) (raw : List (Option ℕ)) → heap ≡ record parts.heap { raw = raw }
          → views_of_areas areas heap.raw
          ≡ map (with_cell number store.cell store.word) (views_of_areas parts.areas parts.heap.raw)
          → IsCellStored store (record { table = parts.table; heap = heap; areas = areas }) Tight
      same-stored heap areas raw writes cells =
          record {
            taken = taken;
            objects = ap (λ (h : Heap). views_of h.objects) writes ∙ sym shows.objects
                ∙ sym (ap (λ (v : View). v.objects) recounted-same);
            areas = areas-written number store parts shows (views_of_areas areas heap.raw) cells
                ∙ sym (ap (λ (v : View). v.areas) recounted-same);
            counts = subst (λ (v : View). HasCounts parts.table heap (outside_references v)) (sym recounted-same)
                (subst (λ (h : Heap). HasCounts parts.table h (outside_references after)) (sym writes)
                (counts-raw parts.table parts.heap raw (outside_references after)
                (counts-outside parts.table parts.heap (outside_references store.view) (outside_references after)
                outside-same shows.counts)));
            reply = sym (ap (λ kind. view_store_reply store.view kind store.word) kind);
          }

    -- where it held another
    module _ (other : before ≢ store.word) where
      pub replaced : IsReplaced before store.word (outside_references store.view) (outside_references after)
      replaced =
          subst (λ (areas : List AreaView). IsReplaced before store.word (outside_references store.view)
          (outside_references (record store.view { areas = areas }))) areas-are
          (cells-replaced store.view number store.cell store.word store.area at.0 at.1 shows.within
          shows.good.numbered.ascending shows.lives other)

      pub can_replace : CanReplace parts.table parts.heap before store.word
      can_replace =
          record {
            before = outside_references store.view;
            after = outside_references after;
            replaced = replaced;
            counts = shows.counts;
            old_named = old-named;
            new_named = named-tight parts.heap.objects store.word tight;
          }

      recounted-other : area_stored store ≡ view_with_sticky store.word after
      recounted-other =
          ap (λ kind. view_recounted kind before store.word after) kind
          ∙ ap (λ b. if not b then view_with_sticky store.word after else after) (refutes before store.word other)

      pub other-stored : (heap : Heap) (areas : Areas) (table : Table)
          → views_of heap.objects
          ≡ with_sticky (outside_references after) store.word (views_of parts.heap.objects)
          → views_of_areas areas heap.raw
          ≡ map (with_cell number store.cell store.word) (views_of_areas parts.areas parts.heap.raw)
          → HasCounts table heap (outside_references after)
          → IsCellStored store (record { table = table; heap = heap; areas = areas }) Tight
      other-stored heap areas table objects cells counts =
          record {
            taken = taken;
            objects = objects
                ∙ ap (with_sticky (outside_references after) store.word) (sym shows.objects)
                ∙ sym (ap (λ (v : View). v.objects) recounted-other);
            areas = areas-written number store parts shows (views_of_areas areas heap.raw) cells
                ∙ sym (ap (λ (v : View). v.areas) recounted-other);
            counts = subst (λ (v : View). HasCounts table heap (outside_references v)) (sym recounted-other)
                counts;
            reply = sym (ap (λ kind. view_store_reply store.view kind store.word) kind);
          }
