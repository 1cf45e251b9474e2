-- Blocks lie as their cells do.
use Rattle.std.proofs.Common.{◌≡◌, ℕ, inl, inr, refl, arith, sym, ◌∙◌, ap}
use Rattle.std.specs.Option.{option_map}
use Rattle.std.proofs.lemmas.List.{length-map}
use Rattle.mm_model.specs.Good.{IsInside, AreApart}
use Rattle.mm_cells.specs.Cells as cells
use Rattle.mm_cells.specs.Cells.{Taken, IsSoundCells}
use Rattle.mm_fixed.specs.Fixed.{Block, Fixed, piece_at, IsSoundFixed}
use Rattle.mm_fixed.specs.Cells.{cell_of, cells_of}
use Rattle.mm_fixed.proofs.Shown.{begins-cell, begins-block}

-- a block lies where its cell would lie as an object
inside-block : (pages base : ℕ) (block : Block) → IsInside pages (cells.piece_at base (cell_of block)) →
    IsInside pages (piece_at base block)
inside-block pages base block inside = record {
  from = inside.from;
  to = inside.to;
  placed = elim inside.placed [
    | inl cell ↦ inl (record { class = cell.class; grid = cell.grid; whole = cell.whole })
    | inr whole ↦ inr (record { page = whole.page; pages = whole.pages; some = whole.some })
  ];
}

apart-block : (base other_base : ℕ) (block other : Block) →
    AreApart (cells.piece_at base (cell_of block)) (cells.piece_at other_base (cell_of other)) →
    AreApart (piece_at base block) (piece_at other_base other)
apart-block base other_base block other apart = record {
  disjoint = apart.disjoint;
  alike = λ page first second. ((apart.alike page first second).0, refl);
}

pub IsSoundFixed-cells : (v : Fixed) → IsSoundCells (cells_of v) → IsSoundFixed v
IsSoundFixed-cells v sound = record {
  two = sound.two;
  most = sound.most;
  size = sym (length-map v.blocks (option_map cell_of)) ∙ sound.size;
  runs_size = sound.runs_size;
  inside = λ base block begins.
      inside-block v.pages base block (sound.inside base (cell_of block) (begins-cell v base block begins));
  apart = λ base other_base block other begins other_begins different.
      apart-block base other_base block other
      (sound.apart base other_base (cell_of block) (cell_of other) (begins-cell v base block begins)
      (begins-cell v other_base other other_begins) different);
  in_run = λ base block begins. sound.in_run base (cell_of block) (begins-cell v base block begins);
  runs = λ page some.
      let run = sound.runs page some in
      let there = begins-block v run.base run.cell run.begins in
      let bytes : run.cell.extent ≡ there.block.extent = ap (λ (cell : Taken). cell.extent) there.is in
      record {
        base = run.base;
        block = there.block;
        begins = there.begins;
        inside = run.inside;
        needed = omega (arith, run.needed, bytes);
      };
}
