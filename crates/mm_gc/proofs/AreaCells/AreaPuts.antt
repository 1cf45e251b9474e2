-- `area_put`: its refusals, and what it leaves.
use Rattle.std.proofs.Common.{◌≡◌, ℕ, ◌/◌, Bool, true, false, not, List, [], map, length, Option, Some, None}
use Rattle.std.proofs.Common.{Result, Ok}
use Rattle.std.proofs.Common.{Err, refl, sym, ap, ◌∙◌, subst, arith}
use Rattle.std.specs.Prelude.{◌==◌, ◌&&◌, if◌then◌else◌, OnErr, slice_get, slice_index, slice_set}
use Rattle.std.specs.Option.{option_map}
use Rattle.mm_model.specs.declared.command.Command.TheVariants as commands
use Rattle.mm_model.specs.declared.refusal.Refusal.{Refusal}
use Rattle.mm_model.specs.declared.refusal.Refusal.TheVariants as refusals
use Rattle.mm_model.specs.declared.reply.Put.{Put}
use Rattle.mm_model.specs.declared.reply.Reply.{Reply}
use Rattle.mm_model.specs.declared.reply.Reply.TheVariants as replies
use Rattle.mm_model.specs.Store.{is_counted_slot}
use Rattle.mm_model.specs.Views.ByBase.{changed}
use Rattle.mm_model.specs.Views.ObjectView.{ObjectView, ObjectsByBase}
use Rattle.mm_model.specs.Views.View.{View, AreaView}
use Rattle.mm_model.specs.Views.ViewStore.{view_made_sticky, view_with_area}
use Rattle.mm_model.specs.Views.ViewStep.{IsViewRow}
use Rattle.mm_model.specs.Views.ViewWords.{cell_kind_of, outside_references}
use Rattle.mm_object.specs.declared.slot.Slot.{Slot}
use Rattle.mm_object.specs.Object.{views_of}
use Rattle.mm_object.specs.Heap.{Heap, IsSound}
use Rattle.mm_count.specs.Table.{Table, IsSameTable}
use Rattle.mm_roots.specs.declared.area_shape.AreaShape.{AreaShape}
use Rattle.mm_roots.specs.Areas.{Areas, area_at, HasCell}
use Rattle.mm_roots.specs.Views.{view_of_area, views_of_areas}
use Rattle.mm_roots.proofs.Words.{length-words_from}
use Rattle.mm_gc.specs.AreaCells.{IsAreaCell, CellParts, AreaStore, IsStoreAt, HasSlotAt, IsCellRefused, IsCellStored}
use Rattle.mm_gc.specs.AreaCells.{CellStoreAnswer, area_stored}
use Rattle.mm_gc.specs.Gc.{Region, Gc, view_of_gc}
use Rattle.mm_gc.specs.Kept.{IsSettled, KeepsGc}
use Rattle.mm_gc.specs.Regions.{IsSameRegion}
use Rattle.mm_gc.specs.Replies.{put_reply}
use Rattle.mm_gc.specs.Rows.{Answers}
use Rattle.mm_gc.specs.Counts.{HasCounts}
use Rattle.mm_gc.proofs.AreaCells.AreaReads.{area_in-is}
use Rattle.mm_gc.proofs.Keeping.KeptParts.{counts-kept, with_region, keeps-region, same_region-rewritten}
use Rattle.mm_gc.proofs.Colours.Outlined.{outlined, extents_of, mapped-changed, pieces-same, known-outlined}
use Rattle.mm_gc.proofs.Colours.Outlined.{few-outlined}
use Rattle.mm_gc.proofs.Pushing.{refused-answers}
use Rattle.mm_gc.proofs.Regions.Rewritten.{settled-rewritten}
use Rattle.mm_gc.proofs.Rows.Areas.{area_put-refused, area_put-row}
use Rattle.mm_gc.proofs.Shown.{row-of, row-shows, showing-good}

abbrev words_found : Option AreaView → List ℕ
words_found None = []
words_found (Some area) = area.words

-- a cell that a view has is one of the areas
pub has-cell : (gc : Gc) (number s : ℕ) (slot : Slot) → IsAreaCell (view_of_gc gc) number s slot
    → HasCell gc.region.areas number s
has-cell gc number s slot cell = split (area_at gc.region.areas number) refl
  where
    split : (found : Option AreaShape) → area_at gc.region.areas number ≡ found → HasCell gc.region.areas number s
    split None e = let none = area_in-is gc number None e in let some = cell.lives in cc
    split (Some shape) e =
        let raw = gc.region.heap.raw in
        let same : length (view_of_area raw number shape).words ≡ length cell.area.words =
        ap (λ (found : Option AreaView). length (words_found found))
        (sym (area_in-is gc number (Some shape) e) ∙ cell.lives) in
        let size = length-words_from raw (shape.base / 4) shape.cells in
        let within = cell.within in
        record { area = shape; lives = e; within = omega arith }

module _ (gc : Gc) (keeps : KeepsGc gc) (number s j word : ℕ) (slot : Slot)
    (cell : IsAreaCell (view_of_gc gc) number s slot) (stack : slice_get gc.stack.words j ≡ Some word) where
  abbrev view : View
  view = view_of_gc gc

  abbrev pub store : AreaStore
  store = record { view = view; area = cell.area; cell = s; word = word }

  abbrev parts : CellParts
  parts = record { table = gc.table; heap = gc.region.heap; areas = gc.region.areas }

  pub store-at : IsStoreAt parts number s word store
  store-at =
      record {
        shows = record {
          good = showing-good view keeps.shown;
          objects = refl;
          areas = refl;
          lives = cell.lives;
          within = cell.within;
          counts = counts-kept gc keeps;
        };
        cell_is = refl;
        word_is = refl;
      }

  pub slot-at : HasSlotAt parts number s word slot
  slot-at = record { store = store; at = store-at; slot_is = cell.slot_is }

  abbrev recounted : Bool
  recounted = is_counted_slot (cell_kind_of cell.area s) && not (slice_index cell.area.words s == word)

  abbrev now : View
  now = view_with_area (record cell.area { words = slice_set cell.area.words s word }) view

  -- what a store leaves alone
  mapped-put : {Y : Type 0} (of : ObjectView → Y) → ((v : ObjectView) (b : Bool) → of (record v { sticky = b }) ≡ of v)
      → map (option_map of) (area_stored store).objects ≡ map (option_map of) view.objects
  mapped-put {Y} of sticky = split recounted
    where
      split : (b : Bool)
          → map (option_map of) (if b then record now { objects = changed (view_made_sticky now word) view.objects }
          else now).objects ≡ map (option_map of) view.objects
      split true =
          mapped-changed of (view_made_sticky now word) (λ base x. ap (λ (y : Y). Some y) (sticky x _)) view.objects
      split false = refl

  put-rest : area_stored store
      ≡ record view { objects = (area_stored store).objects; areas = (area_stored store).areas }
  put-rest = split recounted
    where
      sticky : View
      sticky = record now { objects = changed (view_made_sticky now word) view.objects }

      split : (b : Bool) → ◌≡◌ {A = View} (if b then sticky else now)
          (record view { objects = (if b then sticky else now).objects; areas = (if b then sticky else now).areas })
      split true = refl
      split false = refl

  module _ (heap : Heap) (areas : Areas) (table : Table) where
    abbrev pub changed_region : Region
    changed_region = record gc.region { heap = heap; areas = areas }

    module _ (put : Put) (stored : IsCellStored store (record { table = table; heap = heap; areas = areas }) put)
        (same_areas : areas ≡ gc.region.areas)
        (rest : heap ≡ record gc.region.heap { objects = heap.objects; raw = heap.raw })
        (entries : IsSameTable gc.table table) (sound : IsSound heap) where
      view-put : view_of_gc (with_region gc changed_region table) ≡ area_stored store
      view-put =
          ap (λ (vs : ObjectsByBase). record view { objects = vs; areas = views_of_areas areas heap.raw })
          stored.objects
          ∙ ap (λ (seen : List AreaView). record view { objects = (area_stored store).objects; areas = seen })
          stored.areas
          ∙ sym put-rest

      row : IsViewRow view (commands.AreaPut number s j) []
          (record { view = view_of_gc (with_region gc changed_region table); reply = put_reply (Ok put) })
      row =
          subst (λ (v : View). IsViewRow view (commands.AreaPut number s j) []
          (record { view = v; reply = put_reply (Ok put) })) (sym view-put)
          (subst (λ (reply : Reply). IsViewRow view (commands.AreaPut number s j) []
          (record { view = area_stored store; reply = reply })) (sym stored.reply)
          (area_put-row view number s j word cell.area stack cell.lives cell.within stored.taken))

      put-answers : Answers gc (with_region gc changed_region table) (commands.AreaPut number s j) (put_reply (Ok put))
      put-answers =
          row-of view (view_of_gc (with_region gc changed_region table)) (commands.AreaPut number s j) []
          (put_reply (Ok put)) row

      same : IsSameRegion gc.region changed_region
      same =
          subst (λ (a : Areas). IsSameRegion gc.region (record gc.region { heap = heap; areas = a })) (sym same_areas)
          (same_region-rewritten gc.region heap rest)

      settled : IsSettled changed_region
      settled =
          subst (λ (a : Areas). IsSettled (record gc.region { heap = heap; areas = a })) (sym same_areas)
          (settled-rewritten gc.region heap rest
          (pieces-same view.objects (views_of heap.objects)
          (ap extents_of stored.objects ∙ mapped-put (λ (v : ObjectView). v.extent) (λ v b. refl))) sound keeps.settled)

      put-keeps : KeepsGc (with_region gc changed_region table)
      put-keeps =
          keeps-region gc keeps changed_region same settled table entries
          (row-shows view (view_of_gc (with_region gc changed_region table)) (commands.AreaPut number s j) []
          (put_reply (Ok put)) keeps.shown row)
          (subst (λ (v : View). HasCounts table heap (outside_references v)) (sym view-put) stored.counts)
          (known-outlined view.objects (views_of heap.objects)
          (ap (λ (vs : ObjectsByBase). map (option_map outlined) vs) stored.objects
          ∙ mapped-put outlined (λ v b. refl)) gc.marker keeps.marking.known)
          (few-outlined view.objects (views_of heap.objects)
          (ap (λ (vs : ObjectsByBase). map (option_map outlined) vs) stored.objects
          ∙ mapped-put outlined (λ v b. refl)) gc.marker)

    -- where nothing changed
    module _ (same_heap : heap ≡ gc.region.heap) (same_areas : areas ≡ gc.region.areas) (same_table : table ≡ gc.table)
      where
        unchanged : gc ≡ with_region gc changed_region table
        unchanged =
            sym (ap (λ (h : Heap). with_region gc (record gc.region { heap = h; areas = areas }) table) same_heap
            ∙ ap (λ (a : Areas). with_region gc (record gc.region { areas = a }) table) same_areas
            ∙ ap (λ (t : Table). record gc { table = t }) same_table)

        refused-put : (because : Refusal) → IsCellRefused store because
            → Answers gc (with_region gc changed_region table) (commands.AreaPut number s j) (replies.Refused because)
        refused-put because refused =
            subst (λ (new : Gc). Answers gc new (commands.AreaPut number s j) (replies.Refused because)) unchanged
            (subst (λ (why : Refusal). Answers gc gc (commands.AreaPut number s j) (replies.Refused why))
            (sym refused.because_is)
            (refused-answers gc (commands.AreaPut number s j) refusals.NotCounted
            (area_put-refused view number s j word cell.area stack cell.lives cell.within refused.refused)))

    module _ (same_areas : areas ≡ gc.region.areas)
        (rest : heap ≡ record gc.region.heap { objects = heap.objects; raw = heap.raw })
        (entries : IsSameTable gc.table table) (sound : IsSound heap) where
      pub area_put-answers : (result : Result Put Refusal)
          → CellStoreAnswer store (record { table = table; heap = heap; areas = areas }) result
          → OnErr result (heap ≡ gc.region.heap) → OnErr result (table ≡ gc.table)
          → Answers gc (with_region gc changed_region table) (commands.AreaPut number s j) (put_reply result)
      area_put-answers (Ok put) stored h t = put-answers put stored same_areas rest entries sound
      area_put-answers (Err because) refused h t = refused-put h same_areas t because refused

      pub area_put-keeps : (result : Result Put Refusal)
          → CellStoreAnswer store (record { table = table; heap = heap; areas = areas }) result
          → OnErr result (heap ≡ gc.region.heap) → OnErr result (table ≡ gc.table)
          → KeepsGc (with_region gc changed_region table)
      area_put-keeps (Ok put) stored h t = put-keeps put stored same_areas rest entries sound
      area_put-keeps (Err because) refused h t = subst KeepsGc (unchanged h same_areas t) keeps
