-- What is kept of a region is a region with its pieces.
use Rattle.std.proofs.Common.{◌≡◌, ◌<◌, List, map, inl, inr, refl, sym, ap, ◌∙◌, subst, arith}
use Rattle.std.specs.Option.{option_map}
use Rattle.std.proofs.lemmas.List.{length-map}
use Rattle.std.specs.List.{Contains}
use Rattle.mm_model.specs.Places.Place.{Objects, Areas, Piece}
use Rattle.mm_model.specs.Views.ObjectView.{pieces_of_objects}
use Rattle.mm_model.specs.Views.ViewWords.{piece_of_area}
use Rattle.mm_model.specs.Good.{IsInside}
use Rattle.mm_model.proofs.Places.SizeClasses.{class_bounds}
use Rattle.mm_cells.specs.Cells as cells
use Rattle.mm_cells.specs.Cells.{Taken, IsSoundCells}
use Rattle.mm_cells.specs.Marks.{IsFlags}
use Rattle.mm_object.specs.Heap.{cells_in}
use Rattle.mm_fixed.specs.Fixed.{Fixed, piece_at, IsSoundFixed}
use Rattle.mm_fixed.specs.Cells.{cell_of, cells_of}
use Rattle.mm_fixed.proofs.Shown.{begins-cell, begins-block}
use Rattle.mm_gc.specs.declared.region.Region.{Region}
use Rattle.mm_gc.specs.Gc.{objects_in, areas_in, pieces_in}
use Rattle.mm_gc.specs.Kept.{KeepsRegion}
use Rattle.mm_gc.specs.Pieces.{IsRegion}
use Rattle.mm_gc.proofs.Placing.Pieces.{objects_are-heap, areas_are-fixed, objects_family, areas_family}
use Rattle.mm_gc.proofs.Placing.Placed.{IsElsewhere, StandOnce, once-append, once-objects, inside-like, apart-like}
use Rattle.mm_gc.proofs.Placing.Placed.{is_region}
use Rattle.mm_gc.proofs.Regions.AreaPieces.{once-areas, are_blocks-areas}

-- the cells of blocks are sound as the blocks are
pub cells-sound : (v : Fixed) → IsSoundFixed v → IsSoundCells (cells_of v)
cells-sound v sound = record {
  two = sound.two;
  most = sound.most;
  size = length-map v.blocks (option_map cell_of) ∙ sound.size;
  runs_size = sound.runs_size;
  inside = λ base cell begins.
      let of = begins-block v base cell begins in
      let block = sound.inside base of.block of.begins in
      subst (λ (c : Taken). IsInside v.pages (cells.piece_at base c)) (sym of.is)
      (inside-like v.pages v.pages base of.block.extent Areas Objects block.to block);
  apart = λ base other_base cell other begins other_begins different.
      let of = begins-block v base cell begins in
      let other_of = begins-block v other_base other other_begins in
      apart-like (piece_at base of.block) (piece_at other_base other_of.block) (cells.piece_at base cell)
      (cells.piece_at other_base other) refl (sym (ap (λ (c : Taken). c.extent) of.is)) refl
      (sym (ap (λ (c : Taken). c.extent) other_of.is)) refl
      (sound.apart base other_base of.block other_of.block of.begins other_of.begins different);
  flags = λ base cell begins.
      let of = begins-block v base cell begins in
      subst (λ (c : Taken). IsFlags c.flags) (sym of.is) (omega arith);
  has_run = λ base cell begins.
      let of = begins-block v base cell begins in
      let some : 0 < of.block.extent = elim (sound.inside base of.block of.begins).placed [
        | inl small ↦ omega (arith, (class_bounds of.block.extent small.class).least)
        | inr whole ↦ whole.some
      ] in
      omega (arith, sound.in_run base of.block of.begins, some);
  in_run = λ base cell begins.
      let of = begins-block v base cell begins in
      omega (arith, sound.in_run base of.block of.begins, ap (λ (c : Taken). c.extent) of.is);
  runs = λ page some.
      let run = sound.runs page some in
      record {
        base = run.base;
        cell = cell_of run.block;
        begins = begins-cell v run.base run.block run.begins;
        inside = run.inside;
        needed = run.needed;
      };
}

module _ (r : Region) (keeps : KeepsRegion r) where
  abbrev areas : List Piece
  areas = map piece_of_area (areas_in r)

  abbrev objects : List Piece
  objects = pieces_of_objects (objects_in r)

  elsewhere : (p q : Piece) → Contains areas p → Contains objects q → IsElsewhere p q
  elsewhere p q within other_within same family =
      let other : Areas ≡ Objects =
      sym (areas_family (areas_in r) p within) ∙ family ∙ objects_family (objects_in r) q other_within in
      absurd (cc)

  once : StandOnce (pieces_in r)
  once =
      once-append areas objects (once-areas r.heap.raw r.areas keeps.sound.areas) (once-objects (objects_in r))
      elsewhere

  pub region-shown : IsRegion r.pages (cells_in r.heap) (cells_of r.areas.fixed) (pieces_in r)
  region-shown =
      is_region r.pages (cells_in r.heap) (cells_of r.areas.fixed) (pieces_in r) keeps.sound.pages keeps.placed.none_out
      keeps.sound.heap.cells (cells-sound r.areas.fixed keeps.sound.areas.fixed) keeps.placed.heap.parked
      keeps.placed.areas keeps.placed.all_parked (objects_are-heap r.heap areas (areas_family (areas_in r)))
      (areas_are-fixed r.areas.fixed areas objects
      (are_blocks-areas r.heap.raw r.areas keeps.sound.areas keeps.placed.owns) (objects_family (objects_in r))) once
