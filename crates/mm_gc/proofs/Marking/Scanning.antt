-- A heap in which colours alone have changed, and the marker: a cycle has begun, or a part was scanned.
use Rattle.std.proofs.Common.{◌≡◌, ℕ, ◌+◌, ◌-◌, ◌≤◌, Bool, true, false, [], ◌∷◌, length, Option, Some, None, refl, List}
use Rattle.std.proofs.Common.{sym, ap, ◌∙◌, subst, arith}
use Rattle.std.specs.Prelude.{◌==◌, if◌then◌else◌}
use Rattle.std.specs.Option.{option_map}
use Rattle.mm_model.specs.declared.command.Command.TheVariants as commands
use Rattle.mm_model.specs.declared.object.Colour.TheVariants.{Black}
use Rattle.mm_model.specs.declared.object.Part.{Part}
use Rattle.mm_model.specs.declared.reply.Reply.TheVariants as replies
use Rattle.mm_model.specs.Views.ByBase.{Based, with_entry}
use Rattle.mm_model.specs.Views.ObjectView.{ObjectView, ObjectsByBase, scanned_words_of}
use Rattle.mm_model.specs.Views.SetsByBase.{with_grayed_objects}
use Rattle.mm_model.specs.Views.View.{View, CycleView, PartlyScannedView}
use Rattle.mm_model.specs.Views.ViewEffect.{view_begun}
use Rattle.mm_model.specs.Views.ViewStep.{view_part_slots, slots_done_in, view_part_done, with_partly}
use Rattle.mm_model.specs.declared.line.Line.TheVariants as lines
use Rattle.mm_model.specs.Views.ViewWords.{marking_words}
use Rattle.mm_object.specs.Object.{views_of}
use Rattle.mm_object.specs.Heap.{Heap, IsSound}
use Rattle.mm_mark.specs.Colours.{IsSameButColours, IsGrayed, root_words}
use Rattle.mm_mark.specs.Marker.{Marker, marking, AreKnown, ShowsMarking, HasBegun, IsPartDone, HasNoGray}
use Rattle.mm_mark.specs.Parts.{IsSameCycle}
use Rattle.mm_mark.specs.Stale.{HasFewStale, KeepsFewStale}
use Rattle.mm_count.specs.Counts.{IsCountedBy}
use Rattle.mm_gc.specs.Gc.{Gc, objects_in, areas_in, cycle_in, freed_since, HasRoomForAll, view_of_gc}
use Rattle.mm_gc.specs.Kept.{KeepsGc}
use Rattle.mm_gc.specs.Phases.{IsPartScanned, HasNoneToScan, ScanAnswer}
use Rattle.mm_sweep.specs.Told.{Told, Scan}
use Rattle.mm_gc.specs.Rows.{Answers, IsRowOf}
use Rattle.mm_gc.specs.Showing.{IsShowing}
use Rattle.mm_gc.proofs.Colours.Alike.{all_white, all_white-white}
use Rattle.mm_gc.proofs.Colours.AlikeHeaps.{rest-alike}
use Rattle.mm_gc.proofs.Marking.Begun.{white-idle, settled-recoloured, counts-recoloured, idle-told, room-for_all}
use Rattle.mm_gc.proofs.Frees.Freed.{same-parts, outside-kept}
use Rattle.mm_gc.proofs.Keeping.Rooms.{HasSameRooms, rooms-kept, pieces-kept}
use Rattle.mm_gc.proofs.Rows.Phases.{Runs, begin-row, step-row}
use Rattle.mm_gc.proofs.Marking.Scanned.{enough-reached}
use Rattle.mm_gc.proofs.Writing.Settling.{same_region-objects, areas-objects}
use Rattle.mm_gc.proofs.Shown.{row-of, row-shows}

module _ (old : Gc) (keeps : KeepsGc old) (heap : Heap) (same : IsSameButColours old.region.heap heap) (marker : Marker)
    (gone : ℕ) where
  abbrev pub remarked : Gc
  remarked = record old { region = record old.region { heap = heap }; marker = marker; gone_before = gone }

  areas-remarked : areas_in remarked.region ≡ areas_in old.region
  areas-remarked = areas-objects old.region heap (rest-alike old.region.heap heap same)

  -- its view differs in the objects and the cycle alone
  pub view-remarked : (objects : ObjectsByBase) (cycle : Option CycleView) → views_of heap.objects ≡ objects
      → cycle_in remarked ≡ cycle
      → view_of_gc remarked ≡ record (view_of_gc old) { objects = objects; cycle = cycle }
  view-remarked objects cycle seen told =
      same-parts (view_of_gc old) (views_of heap.objects) objects (areas_in remarked.region) (areas_in old.region)
      (cycle_in remarked) cycle old.threshold old.threshold old.freed old.freed (old.born - old.freed)
      (old.born - old.freed) seen areas-remarked told refl refl refl

  pub keeps-remarked : IsSound heap → marker.location ≡ old.marker.location → marker.room ≡ old.marker.room
      → AreKnown marker (views_of heap.objects) → (marker.running ≡ false → marker.partly ≡ None) → gone ≤ old.freed
      → (HasRoomForAll old → HasFewStale (marking marker heap) (old.freed - gone))
      → IsShowing (view_of_gc remarked) → KeepsGc remarked
  keeps-remarked sound location room known idle since few shown =
      let cells : HasSameRooms old remarked = record {
        region = same_region-objects old.region heap (rest-alike old.region.heap heap same);
        stack = refl;
        table = refl;
        queue = location;
        room = room;
        dead = refl;
        settings = refl;
      } in
      let counts = counts-recoloured old keeps heap same in
      record {
        shown = shown;
        settled = settled-recoloured old keeps heap same sound;
        counts = record {
          right = counts.right;
          counted = subst (λ (outside : ℕ → ℕ). IsCountedBy heap.objects outside)
              (sym (outside-kept (view_of_gc old) (view_of_gc remarked) areas-remarked)) counts.counted;
          listed = counts.listed;
          unpinned = counts.unpinned;
        };
        linked = counts.linked;
        marking = record { known = known; idle = idle; since = since; few = λ runs room. few room };
        rooms = rooms-kept old remarked cells keeps.rooms;
        pieces = pieces-kept old remarked cells keeps.pieces;
      }

module _ (old : Gc) (keeps : KeepsGc old) (heap : Heap) (marker : Marker) (idle : old.marker.running ≡ false)
    (grayed : IsGrayed old.region.heap heap (root_words old.stack old.region.areas old.region.heap))
    (begun : HasBegun old.marker marker) where
  abbrev pub cycle_begun : Gc
  cycle_begun = record old { region = record old.region { heap = heap }; marker = marker; gone_before = old.freed }

  pub view-begun : view_of_gc cycle_begun ≡ view_begun (view_of_gc old)
  view-begun =
      let view = view_of_gc old in
      let cycle : cycle_in cycle_begun ≡ Some (record { gone_before = old.freed; partly_scanned = None }) =
      ap (λ (m : Marker). if m.running then Some (record { gone_before = old.freed; partly_scanned = m.partly })
      else None) begun in
      view-remarked old keeps heap grayed.rest marker old.freed
      (with_grayed_objects (marking_words view) (all_white view.objects))
      (Some (record { gone_before = old.freed; partly_scanned = None }))
      (grayed.grayed
      ∙ ap (λ (os : ObjectsByBase). with_grayed_objects (marking_words view) os)
      (sym (all_white-white view.objects (white-idle old keeps idle))))
      cycle

  pub keeps-begun : IsSound heap → AreKnown marker (views_of heap.objects)
      → (length old.region.heap.objects ≤ old.marker.room + 256 → HasFewStale (marking marker heap) 0)
      → KeepsGc cycle_begun
  keeps-begun sound known few =
      let view = view_of_gc old in
      let none : 0 ≡ old.freed - old.freed = omega arith in
      keeps-remarked old keeps heap grayed.rest marker old.freed sound (ap (λ (m : Marker). m.location) begun)
      (ap (λ (m : Marker). m.room) begun) known (λ e. ap (λ (m : Marker). m.partly) begun) (omega arith)
      (λ room. subst (HasFewStale (marking marker heap)) none (few (room-for_all old keeps room)))
      (subst IsShowing (sym view-begun)
      (row-shows view (view_begun view) commands.Begin [] replies.Done keeps.shown
      (begin-row view (idle-told old idle))))

  pub answers-begun : Answers old cycle_begun commands.Begin replies.Done
  answers-begun =
      let view = view_of_gc old in
      subst (λ (v : View). IsRowOf view v commands.Begin [] replies.Done) (sym view-begun)
      (row-of view (view_begun view) commands.Begin [] replies.Done (begin-row view (idle-told old idle)))

-- a part that is done changes objects and the cycle alone, and of the cycle what is scanned in part
abbrev advanced : Bool → Based ObjectView → ℕ → View → View
advanced b o slots_done view =
    if b
    then record view {
      objects = with_entry o.base (Some (record o.value { colour = Black })) view.objects;
      cycle = option_map (with_partly None) view.cycle;
    }
    else record view {
      cycle = option_map (with_partly (Some (record { base = o.base; slots_done = slots_done }))) view.cycle;
    }

advanced-rest : (b : Bool) (o : Based ObjectView) (slots_done : ℕ) (view : View)
    → record view { objects = (advanced b o slots_done view).objects; cycle = (advanced b o slots_done view).cycle }
    ≡ advanced b o slots_done view
advanced-rest true o slots_done view = refl
advanced-rest false o slots_done view = refl

gone-kept : (partly : Option PartlyScannedView) (cycle : Option CycleView) (before after : CycleView)
    → cycle ≡ Some before → option_map (with_partly partly) cycle ≡ Some after → after.gone_before ≡ before.gone_before
gone-kept partly cycle before after is e =
    inner (sym (ap (option_map (with_partly partly)) is) ∙ e)
  where
    inner : ◌≡◌ {A = Option CycleView} (Some (record before { partly_scanned = partly })) (Some after)
        → after.gone_before ≡ before.gone_before
    inner e =
        let same : record before { partly_scanned = partly } ≡ after = cc in
        ap (λ (c : CycleView). c.gone_before) (sym same)

advanced-gone : (b : Bool) (o : Based ObjectView) (slots_done : ℕ) (view : View) (before after : CycleView)
    → view.cycle ≡ Some before → (advanced b o slots_done view).cycle ≡ Some after
    → after.gone_before ≡ before.gone_before
advanced-gone true o slots_done view before after is e = gone-kept None view.cycle before after is e
advanced-gone false o slots_done view before after is e =
    gone-kept (Some (record { base = o.base; slots_done = slots_done })) view.cycle before after is e

part_done-rest : (view : View) (o : Based ObjectView)
    → record view { objects = (view_part_done view o).objects; cycle = (view_part_done view o).cycle }
    ≡ view_part_done view o
part_done-rest view o =
    let slots = view_part_slots view o in
    let done = slots_done_in view.cycle o.base + length slots in
    advanced-rest (done == length (scanned_words_of o.value)) o done
    (record view { objects = with_grayed_objects slots view.objects })

part_done-gone : (view : View) (o : Based ObjectView) (before after : CycleView) → view.cycle ≡ Some before
    → (view_part_done view o).cycle ≡ Some after → after.gone_before ≡ before.gone_before
part_done-gone view o before after is e =
    let slots = view_part_slots view o in
    let done = slots_done_in view.cycle o.base + length slots in
    advanced-gone (done == length (scanned_words_of o.value)) o done
    (record view { objects = with_grayed_objects slots view.objects }) before after is e

module _ (old : Gc) (keeps : KeepsGc old) (heap : Heap) (marker : Marker) (runs : old.marker.running ≡ true)
    (same : IsSameButColours old.region.heap heap) (cycle_same : IsSameCycle old.marker marker) where
  abbrev pub scanned : Gc
  scanned = record old { region = record old.region { heap = heap }; marker = marker }

  abbrev pub cycle_with : Option PartlyScannedView → CycleView
  cycle_with partly = record { gone_before = old.gone_before; partly_scanned = partly }

  abbrev told : Bool → Option PartlyScannedView → Option CycleView
  told b p = if b then Some (cycle_with p) else None

  still-runs : marker.running ≡ true
  still-runs = ap (λ (m : Marker). m.running) cycle_same ∙ runs

  pub shows-marking : ShowsMarking (marking old.marker old.region.heap) (view_of_gc old)
  shows-marking =
      record {
        shown = refl;
        cycle = cycle_with old.marker.partly;
        runs = ap (λ (b : Bool). told b old.marker.partly) runs;
        partly = refl;
      }

  pub part-scanned : (part : Part)
      → IsPartDone (marking old.marker old.region.heap) (marking marker heap) part → (heard : List Told → Type 0)
      → heard (Scan part.base part.slots ∷ []) → IsPartScanned (view_of_gc old) (view_of_gc scanned) part.slots heard
  unfolding shows-marking
  part-scanned part done heard tells =
      let view = view_of_gc old in
      let of = done view shows-marking in
      let o : Based ObjectView = record { base = part.base; value = of.object } in
      let left = view_part_done view o in
      let gone = part_done-gone view o (cycle_with old.marker.partly) of.done.cycle shows-marking.runs of.done.runs in
      let cycle : cycle_in scanned ≡ left.cycle =
      ap (λ (b : Bool). told b marker.partly) still-runs
      ∙ ap (λ (n : ℕ). Some (record { gone_before = n; partly_scanned = marker.partly })) (sym gone)
      ∙ ap (λ (p : Option PartlyScannedView).
      Some (record { gone_before = of.done.cycle.gone_before; partly_scanned = p })) (sym of.done.partly)
      ∙ sym of.done.runs in
      record {
        object = o;
        may = of.may;
        slots_are = of.slots;
        done = view-remarked old keeps heap same marker old.gone_before left.objects left.cycle (sym of.done.shown)
            cycle
            ∙ part_done-rest view o;
        told = tells;
      }

  -- nothing was scanned, and nothing has changed
  pub none-scanned : HasNoGray (marking old.marker old.region.heap) → heap ≡ old.region.heap
      → marker.partly ≡ old.marker.partly → (heard : List Told → Type 0) → heard []
      → HasNoneToScan (view_of_gc old) (view_of_gc scanned) heard
  none-scanned none heap_same partly heard nothing =
      let cycle : cycle_in scanned ≡ cycle_in old =
      ap (λ (b : Bool). told b marker.partly) still-runs ∙ ap (told true) partly
      ∙ ap (λ (b : Bool). told b old.marker.partly) (sym runs) in
      record {
        none = none (view_of_gc old) shows-marking;
        same = view-remarked old keeps heap same marker old.gone_before (objects_in old.region) (cycle_in old)
            (ap (λ (h : Heap). views_of h.objects) heap_same) cycle;
        told = nothing;
      }

  pub keeps-scanned : IsSound heap → AreKnown marker (views_of heap.objects)
      → KeepsFewStale (marking old.marker old.region.heap) (marking marker heap) → IsShowing (view_of_gc scanned)
      → KeepsGc scanned
  keeps-scanned sound known few shown =
      keeps-remarked old keeps heap same marker old.gone_before sound (ap (λ (m : Marker). m.location) cycle_same)
      (ap (λ (m : Marker). m.room) cycle_same) known (λ e. clash (sym still-runs ∙ e)) keeps.marking.since
      (λ room. few (freed_since old) (keeps.marking.few runs room)) shown
    where
      clash : {A : Type 0} → true ≡ false → A
      clash e = cc

-- One part is a step of cost 1, after which a good state is shown again.
pub part-shows : (view left : View) → IsShowing view → Runs view → (slots : ℕ)
    (heard : List Told → Type 0) → IsPartScanned view left slots heard → IsShowing left
part-shows view left showing runs slots heard p =
    let line = lines.Scan p.object.base (length (view_part_slots view p.object)) in
    row-shows view left (commands.Step 1) (line ∷ []) replies.Done showing
    (step-row view 1 (line ∷ []) left runs (record {
      objects = p.object ∷ [];
      scanned = ([], p.may, refl, (refl, p.done));
      enough = enough-reached 1 [] p.object.base (length (view_part_slots view p.object)) left (omega arith)
          (omega arith);
    }))

pub answer-shows : (view left : View) → IsShowing view → Runs view → (result : Option ℕ)
    (heard : List Told → Type 0) → ScanAnswer view left heard result → IsShowing left
answer-shows view left showing runs None heard n = subst IsShowing (sym n.same) showing
answer-shows view left showing runs (Some slots) heard p = part-shows view left showing runs slots heard p
