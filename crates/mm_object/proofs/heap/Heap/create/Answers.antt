use Rattle.std.proofs.Common.{◌≡◌, ℕ, ◌/◌, false, List, Some, None, refl, sym, ap, subst, ◌∙◌}
use Rattle.std.specs.Prelude.{slice_set}
use Rattle.mm_model.specs.Places.SizeClass.{size_of, extent_of, object_bytes}
use Rattle.mm_model.specs.Views.ByBase as bases
use Rattle.mm_pages.specs.Pages as heaps
use Rattle.mm_pages.specs.Parked.{AreParked, AreAllParked}
use Rattle.mm_cells.specs.Cells.{Cells, newly_taken}
use Rattle.mm_cells.specs.Placing.{run_length}
use Rattle.mm_object.specs.Object.{newly_stored, flags_with}
use Rattle.mm_object.specs.Heap.{Heap, IsSound}
use Rattle.mm_object.specs.Kept.{heap_of}
use Rattle.mm_object.proofs.Sound.{IsSound-kept}
use Rattle.mm_object.proofs.Created.{place-shown, found-none, made, made-begins, made-within, made-cells}
use Rattle.mm_object.proofs.Created.{created-kept, created-heap, created-begins, created-raw, created-none}
use Rattle.mm_object.proofs.Created.{created-fits}
use Rattle.mm_object.proofs.heap.Heap.create.Goals as goal

pub returns-in_err-base-clause-place : goal.returns-in_err-base-clause-place
returns-in_err-base-clause-place g c =
    place-shown c.self.inside.memory c.self.inside.cells c.self.invariant c.args.self.now c.self.view_is
    c.args.pages.now c.object_bytes.result (object_bytes c.args.shape.slots) c.object_bytes.ensures None _
    (found-none c.from_residual.result c.from_residual.ensures.0) c.in_err-base.ensures.place

pub returns-in_err-base-clause-sound : goal.returns-in_err-base-clause-sound
returns-in_err-base-clause-sound g c =
    subst (λ (v : Cells). IsSound (heap_of c.self.inside.memory v)) (sym c.in_err-base.ensures.unchanged.0)
    (IsSound-kept c.self.inside.memory c.self.inside.cells c.self.invariant)

pub tell_finalizer-requires-clause-taken : goal.tell_finalizer-requires-clause-taken
tell_finalizer-requires-clause-taken g c =
    let m = made c.self.inside.memory c.self.inside.cells c.self.invariant c.args.self.now c.self.view_is
    c.args.pages.now c.requires.fits c.args.shape c.args.colour c.object_bytes.result c.object_bytes.ensures
    c.in_ok-base.base c.place.new.self c.in_ok-base.ensures.place c.in_ok-base.ensures.taken
    c.in_ok-base.ensures.enough in (
      newly_taken (extent_of (object_bytes c.args.shape.slots)) c.args.colour,
      made-begins c.self.inside.memory c.self.inside.cells c.place.new.self c.args.shape c.args.colour
          c.in_ok-base.base m,
      refl,
    )

pub write_newborn-requires-clause-within : goal.write_newborn-requires-clause-within
write_newborn-requires-clause-within g c =
    let m = made c.self.inside.memory c.self.inside.cells c.self.invariant c.args.self.now c.self.view_is
    c.args.pages.now c.requires.fits c.args.shape c.args.colour c.object_bytes.result c.object_bytes.ensures
    c.in_ok-base.base c.place.new.self c.in_ok-base.ensures.place c.in_ok-base.ensures.taken
    c.in_ok-base.ensures.enough in
    made-within c.self.inside.memory c.self.inside.cells c.place.new.self c.args.shape c.args.colour
    c.in_ok-base.base m

pub invariant_of-self-2 : goal.invariant_of-self-2
invariant_of-self-2 g c =
    let m = made c.self.inside.memory c.self.inside.cells c.self.invariant c.args.self.now c.self.view_is
    c.args.pages.now c.requires.fits c.args.shape c.args.colour c.object_bytes.result c.object_bytes.ensures
    c.in_ok-base.base c.place.new.self c.in_ok-base.ensures.place c.in_ok-base.ensures.taken
    c.in_ok-base.ensures.enough in
    created-kept c.self.inside.memory c.self.inside.cells c.self.invariant c.args.self.now c.self.view_is
    c.args.shape c.args.colour c.requires.shape c.write_newborn.ensures.means m.enough c.in_ok-base.base m.vacant
    (slice_set c.self.inside.cells.runs (c.in_ok-base.base / 4096)
    (run_length (size_of (object_bytes c.args.shape.slots)))) c.tell_finalizer.new.cells
    (made-cells c.self.inside.memory c.self.inside.cells c.place.new.self c.tell_finalizer.new.cells c.args.shape
    c.args.colour
    c.in_ok-base.base (flags_with c.args.shape.finalize false) m refl c.tell_finalizer.ensures.flags)
    c.tell_finalizer.ensures.sound c.write_newborn.new.memory c.write_newborn.ensures.words

pub returns-clause-place : goal.returns-clause-place
returns-clause-place g c =
    place-shown c.self.inside.memory c.self.inside.cells c.self.invariant c.args.self.now c.self.view_is
    c.args.pages.now c.object_bytes.result (object_bytes c.args.shape.slots) c.object_bytes.ensures
    (Some c.in_ok-base.base) (Some c.in_ok-base.base) refl c.in_ok-base.ensures.place

pub returns-clause-created : goal.returns-clause-created
returns-clause-created g c =
    let m = made c.self.inside.memory c.self.inside.cells c.self.invariant c.args.self.now c.self.view_is
    c.args.pages.now c.requires.fits c.args.shape c.args.colour c.object_bytes.result c.object_bytes.ensures
    c.in_ok-base.base c.place.new.self c.in_ok-base.ensures.place c.in_ok-base.ensures.taken
    c.in_ok-base.ensures.enough in
    created-heap c.self.inside.memory c.self.inside.cells c.self.invariant c.args.self.now c.self.view_is
    c.args.shape c.args.colour c.requires.shape c.write_newborn.ensures.means m.enough c.in_ok-base.base m.vacant
    (slice_set c.self.inside.cells.runs (c.in_ok-base.base / 4096)
    (run_length (size_of (object_bytes c.args.shape.slots)))) c.tell_finalizer.new.cells
    (made-cells c.self.inside.memory c.self.inside.cells c.place.new.self c.tell_finalizer.new.cells c.args.shape
    c.args.colour
    c.in_ok-base.base (flags_with c.args.shape.finalize false) m refl c.tell_finalizer.ensures.flags)
    c.tell_finalizer.ensures.sound c.write_newborn.new.memory c.write_newborn.ensures.words
    ∙ ap (λ (v : Heap). record c.args.self.now {
      objects = bases.with_entry c.in_ok-base.base (Some (newly_stored c.args.shape c.args.colour))
          c.args.self.now.objects;
      runs = slice_set v.runs (c.in_ok-base.base / 4096) (run_length (size_of (object_bytes c.args.shape.slots)));
      raw = (heap_of c.write_newborn.new.memory c.tell_finalizer.new.cells).raw;
    }) c.self.view_is

pub returns-clause-begins : goal.returns-clause-begins
returns-clause-begins g c =
    let m = made c.self.inside.memory c.self.inside.cells c.self.invariant c.args.self.now c.self.view_is
    c.args.pages.now c.requires.fits c.args.shape c.args.colour c.object_bytes.result c.object_bytes.ensures
    c.in_ok-base.base c.place.new.self c.in_ok-base.ensures.place c.in_ok-base.ensures.taken
    c.in_ok-base.ensures.enough in
    created-begins c.self.inside.memory c.self.inside.cells c.self.invariant c.args.self.now c.self.view_is
    c.args.shape c.args.colour c.requires.shape c.write_newborn.ensures.means m.enough c.in_ok-base.base m.vacant
    (slice_set c.self.inside.cells.runs (c.in_ok-base.base / 4096)
    (run_length (size_of (object_bytes c.args.shape.slots)))) c.tell_finalizer.new.cells
    (made-cells c.self.inside.memory c.self.inside.cells c.place.new.self c.tell_finalizer.new.cells c.args.shape
    c.args.colour
    c.in_ok-base.base (flags_with c.args.shape.finalize false) m refl c.tell_finalizer.ensures.flags)
    c.tell_finalizer.ensures.sound c.write_newborn.new.memory c.write_newborn.ensures.words

pub returns-clause-was_none : goal.returns-clause-was_none
returns-clause-was_none g c =
    let m = made c.self.inside.memory c.self.inside.cells c.self.invariant c.args.self.now c.self.view_is
    c.args.pages.now c.requires.fits c.args.shape c.args.colour c.object_bytes.result c.object_bytes.ensures
    c.in_ok-base.base c.place.new.self c.in_ok-base.ensures.place c.in_ok-base.ensures.taken
    c.in_ok-base.ensures.enough in
    created-none c.self.inside.memory c.self.inside.cells c.self.invariant c.args.self.now c.self.view_is
    c.args.shape c.args.colour c.requires.shape c.write_newborn.ensures.means m.enough c.in_ok-base.base m.vacant
    (slice_set c.self.inside.cells.runs (c.in_ok-base.base / 4096)
    (run_length (size_of (object_bytes c.args.shape.slots)))) c.tell_finalizer.new.cells
    (made-cells c.self.inside.memory c.self.inside.cells c.place.new.self c.tell_finalizer.new.cells c.args.shape
    c.args.colour
    c.in_ok-base.base (flags_with c.args.shape.finalize false) m refl c.tell_finalizer.ensures.flags)
    c.tell_finalizer.ensures.sound c.write_newborn.new.memory c.write_newborn.ensures.words

pub returns-clause-raw : goal.returns-clause-raw
returns-clause-raw g c =
    let m = made c.self.inside.memory c.self.inside.cells c.self.invariant c.args.self.now c.self.view_is
    c.args.pages.now c.requires.fits c.args.shape c.args.colour c.object_bytes.result c.object_bytes.ensures
    c.in_ok-base.base c.place.new.self c.in_ok-base.ensures.place c.in_ok-base.ensures.taken
    c.in_ok-base.ensures.enough in
    created-raw c.self.inside.memory c.self.inside.cells c.self.invariant c.args.self.now c.self.view_is
    c.args.shape c.args.colour c.requires.shape c.write_newborn.ensures.means m.enough c.in_ok-base.base m.vacant
    (slice_set c.self.inside.cells.runs (c.in_ok-base.base / 4096)
    (run_length (size_of (object_bytes c.args.shape.slots)))) c.tell_finalizer.new.cells
    (made-cells c.self.inside.memory c.self.inside.cells c.place.new.self c.tell_finalizer.new.cells c.args.shape
    c.args.colour
    c.in_ok-base.base (flags_with c.args.shape.finalize false) m refl c.tell_finalizer.ensures.flags)
    c.tell_finalizer.ensures.sound c.write_newborn.new.memory c.write_newborn.ensures.words

pub returns-clause-fits : goal.returns-clause-fits
returns-clause-fits g c =
    let m = made c.self.inside.memory c.self.inside.cells c.self.invariant c.args.self.now c.self.view_is
    c.args.pages.now c.requires.fits c.args.shape c.args.colour c.object_bytes.result c.object_bytes.ensures
    c.in_ok-base.base c.place.new.self c.in_ok-base.ensures.place c.in_ok-base.ensures.taken
    c.in_ok-base.ensures.enough in
    let runs : c.place.new.self.runs ≡ c.tell_finalizer.new.cells.runs =
    sym (ap (λ (v : Cells). v.runs) (c.tell_finalizer.ensures.flags
    (newly_taken (extent_of (object_bytes c.args.shape.slots)) c.args.colour)
    (made-begins c.self.inside.memory c.self.inside.cells c.place.new.self c.args.shape c.args.colour
    c.in_ok-base.base m))) in
    created-fits c.self.inside.memory c.self.inside.cells c.self.invariant c.args.self.now c.self.view_is
    c.args.shape c.args.colour c.requires.shape c.write_newborn.ensures.means m.enough c.in_ok-base.base m.vacant
    (slice_set c.self.inside.cells.runs (c.in_ok-base.base / 4096)
    (run_length (size_of (object_bytes c.args.shape.slots)))) c.tell_finalizer.new.cells
    (made-cells c.self.inside.memory c.self.inside.cells c.place.new.self c.tell_finalizer.new.cells c.args.shape
    c.args.colour
    c.in_ok-base.base (flags_with c.args.shape.finalize false) m refl c.tell_finalizer.ensures.flags)
    c.tell_finalizer.ensures.sound c.write_newborn.new.memory c.write_newborn.ensures.words
    c.args.pages.now c.place.new.pages c.requires.fits
    (ap (λ (v : heaps.Pages). v.limit) c.in_ok-base.ensures.heap)
    (subst (λ (rs : List ℕ). AreParked rs c.place.new.pages) runs c.in_ok-base.ensures.parked)

pub returns-clause-all_parked : goal.returns-clause-all_parked
returns-clause-all_parked g c = λ others all.
    let m = made c.self.inside.memory c.self.inside.cells c.self.invariant c.args.self.now c.self.view_is
    c.args.pages.now c.requires.fits c.args.shape c.args.colour c.object_bytes.result c.object_bytes.ensures
    c.in_ok-base.base c.place.new.self c.in_ok-base.ensures.place c.in_ok-base.ensures.taken
    c.in_ok-base.ensures.enough in
    let runs : c.place.new.self.runs ≡ c.tell_finalizer.new.cells.runs =
    sym (ap (λ (v : Cells). v.runs) (c.tell_finalizer.ensures.flags
    (newly_taken (extent_of (object_bytes c.args.shape.slots)) c.args.colour)
    (made-begins c.self.inside.memory c.self.inside.cells c.place.new.self c.args.shape c.args.colour
    c.in_ok-base.base m))) in
    subst (λ (rs : List ℕ). AreAllParked rs others c.place.new.pages) runs
    (c.in_ok-base.ensures.all_parked others
    (subst (λ (v : Heap). AreAllParked v.runs others c.args.pages.now) (sym c.self.view_is) all))

pub returns-clause-sound : goal.returns-clause-sound
returns-clause-sound g c =
    IsSound-kept c.write_newborn.new.memory c.tell_finalizer.new.cells (invariant_of-self-2 g c)
