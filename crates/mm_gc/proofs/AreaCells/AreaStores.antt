-- A word is written into a cell of an area.
use Rattle.std.proofs.Common.{◌≡◌, ℕ, ◌≤◌, Bool, true, false, not, List, [], map, take, Option, Ok}
use Rattle.std.proofs.Common.{refl, sym, ap, ◌∙◌, subst, arith}
use Rattle.std.proofs.lemmas.Bool.Decides.{nat_tests}
use Rattle.std.proofs.lemmas.List.{take-set-le}
use Rattle.std.specs.Prelude.{◌==◌, ◌&&◌, if◌then◌else◌, nat_lt, slice_set, slice_index}
use Rattle.std.specs.List.{count_by, flat_map}
use Rattle.mm_model.specs.declared.reply.Put.{Put}
use Rattle.mm_model.specs.declared.reply.Put.TheVariants.{Tight, Loose}
use Rattle.mm_model.specs.declared.reply.Reply.TheVariants as replies
use Rattle.mm_model.specs.Words.{CountedSlot, WordSlot, slot_kind_at}
use Rattle.mm_model.specs.Store.{is_counted_slot}
use Rattle.mm_model.specs.Views.ObjectView.{ObjectsByBase}
use Rattle.mm_model.specs.Views.View.{View, AreaView}
use Rattle.mm_model.specs.Views.ViewStore.{view_with_area, view_with_sticky}
use Rattle.mm_model.specs.Views.ViewWords.{begins_counted_in, cell_kind_of, counted_cells_of, falls_in_counted_of}
use Rattle.mm_model.specs.Views.ViewWords.{outside_references}
use Rattle.mm_object.specs.Object.{views_of}
use Rattle.mm_object.specs.Heap.{Heap}
use Rattle.mm_roots.specs.Areas.{Areas}
use Rattle.mm_roots.specs.Views.{views_of_areas, with_cell}
use Rattle.mm_gc.specs.AreaCells.{CellParts, AreaStore, ShowsCell, IsCellStored, area_stored}
use Rattle.mm_gc.specs.Replies.{put_reply}
use Rattle.mm_gc.specs.Counts.{HasCounts}
use Rattle.mm_gc.proofs.AreaCells.OutsideWords.{view_with_area-cell, number-is, cells-same}
use Rattle.mm_gc.proofs.AreaCells.Replaced.{counts-raw, counts-outside}

module _ (number : ℕ) (store : AreaStore) (parts : CellParts) (shows : ShowsCell parts number store) where
  abbrev pub written : View
  written =
      view_with_area (record store.area { words = slice_set store.area.words store.cell store.word }) store.view

  -- the areas then, where the cell has the word
  pub areas-written : (after : List AreaView)
      → after ≡ map (with_cell number store.cell store.word) (views_of_areas parts.areas parts.heap.raw)
      → after ≡ written.areas
  areas-written after is =
      is ∙ ap (map (with_cell number store.cell store.word)) (sym shows.areas)
      ∙ sym (ap (λ n. map (λ (a : AreaView). if a.number == n
      then record store.area { words = slice_set store.area.words store.cell store.word } else a) store.view.areas) at
      ∙ view_with_area-cell number store.cell store.word store.area store.view.areas at
      shows.good.numbered.ascending shows.lives)
    where
      at : store.area.number ≡ number
      at = number-is number store.area store.view.areas shows.lives

  module _ (plain : is_counted_slot (cell_kind_of store.area store.cell) ≡ false) where
    cells-plain : counted_cells_of (record store.area { words = slice_set store.area.words store.cell store.word })
        ≡ counted_cells_of store.area
    cells-plain = split store.area.scanned plain
      where
        split : (b : Bool) → is_counted_slot (slot_kind_at b store.area.counted store.cell) ≡ false
            → (if b then take store.area.counted (slice_set store.area.words store.cell store.word) else [])
            ≡ (if b then take store.area.counted store.area.words else [])
        split false e = refl
        split true e =
            take-set-le store.area.counted store.area.words store.cell store.word
            (past (nat_lt store.cell store.area.counted) refl e)
          where
            past : (b : Bool) → nat_lt store.cell store.area.counted ≡ b
                → is_counted_slot (if b then CountedSlot else WordSlot) ≡ false → store.area.counted ≤ store.cell
            past true t e = cc
            past false t e = grind (arith, nat_tests)

    outside-plain : (b : ℕ) → outside_references written b ≡ outside_references store.view b
    outside-plain b =
        ap (λ (areas : List AreaView). count_by (λ word. word == b) (flat_map counted_cells_of areas))
        (sym (areas-written (map (with_cell number store.cell store.word) (views_of_areas parts.areas parts.heap.raw))
        refl)
        ∙ ap (map (with_cell number store.cell store.word)) (sym shows.areas))
        ∙ ap (count_by (λ word. word == b))
        (cells-same number store.cell store.word store.area cells-plain store.view.areas
        shows.good.numbered.ascending shows.lives)

    -- the parts once the word is in an uncounted cell
    pub uncounted-stored : (heap : Heap) (areas : Areas) (put : Put) (raw : List (Option ℕ))
        → heap ≡ record parts.heap { raw = raw }
        → views_of_areas areas heap.raw
        ≡ map (with_cell number store.cell store.word) (views_of_areas parts.areas parts.heap.raw)
        → put ≡ (if falls_in_counted_of (views_of parts.heap.objects) store.word then Loose else Tight)
        → IsCellStored store (record { table = parts.table; heap = heap; areas = areas }) put
    uncounted-stored heap areas put raw writes cells answer =
        record {
          taken = ap (λ b. b && not (store.word == 0) && not (begins_counted_in store.view.objects store.word)) plain;
          objects = ap (λ (h : Heap). views_of h.objects) writes ∙ sym shows.objects
              ∙ sym (ap (λ (v : View). v.objects) recounted);
          areas = areas-written (views_of_areas areas heap.raw) cells ∙ sym (ap (λ (v : View). v.areas) recounted);
          counts = subst (λ (v : View). HasCounts parts.table heap (outside_references v)) (sym recounted)
              (subst (λ (h : Heap). HasCounts parts.table h (outside_references written)) (sym writes)
              (counts-raw parts.table parts.heap raw (outside_references written)
              (counts-outside parts.table parts.heap (outside_references store.view) (outside_references written)
              outside-plain shows.counts)));
          reply = ap (λ (put : Put). put_reply (Ok put)) answer
              ∙ told (falls_in_counted_of (views_of parts.heap.objects) store.word)
              ∙ sym (ap (λ b. if not b && falls_in_counted_of store.view.objects store.word
              then replies.Loose else replies.Done) plain
              ∙ ap (λ (vs : ObjectsByBase). if falls_in_counted_of vs store.word then replies.Loose else replies.Done)
              shows.objects);
        }
      where
        recounted : area_stored store ≡ written
        recounted =
            ap (λ b. if b && not (slice_index store.area.words store.cell == store.word)
            then view_with_sticky store.word written else written) plain

        told : (b : Bool) → put_reply (Ok (if b then Loose else Tight)) ≡ (if b then replies.Loose else replies.Done)
        told true = refl
        told false = refl
