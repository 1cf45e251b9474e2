-- What holds of a heap between its calls, as phases need it, also once colours have changed.
use Rattle.std.proofs.Common.{◌≡◌, ◌+◌, ◌≤◌, Bool, true, false, length, Option, Some, None, refl, sym, ap}
use Rattle.std.proofs.Common.{subst, arith}
use Rattle.std.specs.Prelude.{if◌then◌else◌, IfSome, take, is_some}
use Rattle.mm_model.specs.Views.GoodView.{AreWhite, HoldTight, IsColouredView, IsPartlyScannedAt, NamesNoWhiteAt}
use Rattle.mm_model.specs.Views.ObjectView.{ObjectView, scanned_words_of}
use Rattle.mm_model.specs.Views.View.{CycleView, PartlyScannedView}
use Rattle.mm_model.specs.Views.ViewWords.{outside_references}
use Rattle.mm_object.specs.Object.{views_of}
use Rattle.mm_object.specs.Heap.{Heap, IsSound}
use Rattle.mm_mark.specs.Colours.{IsSameButColours}
use Rattle.mm_mark.specs.Draining.{NamesNoWhiteDone}
use Rattle.mm_mark.specs.Marker.{KeepsGray, IsUnderScan}
use Rattle.mm_mark.proofs.Known.{under-told}
use Rattle.mm_model.proofs.View.ByBase.Entries.{begins_same}
use Rattle.mm_gc.specs.Gc.{Gc, objects_in, HasRoomForAll, view_of_gc}
use Rattle.mm_gc.specs.Kept.{IsSettled, KeepsGc}
use Rattle.mm_gc.specs.Counts.{HasCounts}
use Rattle.mm_gc.proofs.Colours.Alike.{tight-alike, pieces-alike}
use Rattle.mm_gc.proofs.Colours.AlikeHeaps.{views-alike, rest-alike, counts-alike}
use Rattle.mm_gc.proofs.Rows.Phases.{Runs, RunsNot}
use Rattle.mm_gc.proofs.Writing.Settling.{settled-objects}
use Rattle.mm_gc.proofs.Shown.{showing-good}

-- whether a cycle runs
pub runs-told : (gc : Gc) → gc.marker.running ≡ true → Runs (view_of_gc gc)
runs-told gc runs =
    ap (λ (b : Bool). is_some {T = CycleView}
    (if b then Some (record { gone_before = gc.gone_before; partly_scanned = gc.marker.partly }) else None)) runs

pub idle-told : (gc : Gc) → gc.marker.running ≡ false → RunsNot (view_of_gc gc)
idle-told gc idle =
    ap (λ (b : Bool). is_some {T = CycleView}
    (if b then Some (record { gone_before = gc.gone_before; partly_scanned = gc.marker.partly }) else None)) idle

module _ (gc : Gc) (keeps : KeepsGc gc) where
  pub has_counts : HasCounts gc.table gc.region.heap (outside_references (view_of_gc gc))
  has_counts =
      record {
        right = keeps.counts.right;
        counted = keeps.counts.counted;
        listed = keeps.counts.listed;
        unpinned = keeps.counts.unpinned;
        linked = keeps.linked;
      }

  -- room for every object is room for each entry of the list by base but those of the first page
  pub room-for_all : HasRoomForAll gc → length gc.region.heap.objects ≤ gc.marker.room + 256
  room-for_all room =
      let entries = keeps.settled.keeps.sound.heap.entries in
      let pages = keeps.settled.keeps.tables.heap in
      let most = keeps.rooms.most in
      let queue = keeps.rooms.queue in
      omega (arith, room, entries, pages, most, queue)

  pub holds_tight : HoldTight (objects_in gc.region)
  holds_tight = (showing-good (view_of_gc gc) keeps.shown).tight

  coloured : (running : Bool) → gc.marker.running ≡ running
      → IsColouredView (objects_in gc.region)
      (if running then Some (record { gone_before = gc.gone_before; partly_scanned = gc.marker.partly }) else None)
  coloured running e =
      subst (λ (b : Bool). IsColouredView (objects_in gc.region)
      (if b then Some (record { gone_before = gc.gone_before; partly_scanned = gc.marker.partly }) else None)) e
      (showing-good (view_of_gc gc) keeps.shown).coloured

  -- outside a cycle all is white
  pub white-idle : gc.marker.running ≡ false → AreWhite (objects_in gc.region)
  white-idle idle = coloured false idle

  pub partly-scanned : IfSome gc.marker.partly (IsPartlyScannedAt (objects_in gc.region))
  partly-scanned = split gc.marker.running refl
    where
      split : (b : Bool) → gc.marker.running ≡ b → IfSome gc.marker.partly (IsPartlyScannedAt (objects_in gc.region))
      split true e = (coloured true e).partly
      split false e =
          subst (λ (p : Option PartlyScannedView). IfSome p (IsPartlyScannedAt (objects_in gc.region)))
          (sym (keeps.marking.idle e)) tt

  pub keeps-gray : KeepsGray gc.marker (objects_in gc.region)
  keeps-gray = record { known = keeps.marking.known; partly = each gc.marker.partly partly-scanned }
    where
      each : (p : Option PartlyScannedView) → IfSome p (IsPartlyScannedAt (objects_in gc.region))
          → IfSome p (IsUnderScan (objects_in gc.region))
      each None h = h
      each (Some p) h =
          under-told (objects_in gc.region) p
          (record {
            object = h.object;
            begins = h.begins;
            gray = h.gray;
            some_done = h.some_done;
            some_left = h.some_left;
          })

  pub done-names : IfSome gc.marker.partly (NamesNoWhiteDone (objects_in gc.region))
  done-names = each gc.marker.partly partly-scanned
    where
      each : (p : Option PartlyScannedView) → IfSome p (IsPartlyScannedAt (objects_in gc.region))
          → IfSome p (NamesNoWhiteDone (objects_in gc.region))
      each None h = h
      each (Some p) h = λ object begins.
          subst (λ (o : ObjectView). NamesNoWhiteAt (objects_in gc.region) (take p.slots_done (scanned_words_of o)))
          (begins_same (objects_in gc.region) p.base h.object object h.begins begins) h.names

  module _ (heap : Heap) (same : IsSameButColours gc.region.heap heap) where
    pub settled-recoloured : IsSound heap → IsSettled (record gc.region { heap = heap })
    settled-recoloured sound =
        settled-objects gc.region heap (rest-alike gc.region.heap heap same) keeps.settled
        (pieces-alike (views_of heap.objects) (objects_in gc.region) (sym (views-alike gc.region.heap heap same))) sound

    pub tight-recoloured : HoldTight (views_of heap.objects)
    tight-recoloured =
        tight-alike (objects_in gc.region) (views_of heap.objects) (views-alike gc.region.heap heap same) holds_tight

    pub counts-recoloured : HasCounts gc.table heap (outside_references (view_of_gc gc))
    counts-recoloured = counts-alike gc.region.heap heap same gc.table (outside_references (view_of_gc gc)) has_counts
