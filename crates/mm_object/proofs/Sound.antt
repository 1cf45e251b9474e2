-- What holds of every heap.
use Rattle.std.proofs.Common.{◌≡◌, ℕ, ◌+◌, ◌*◌, ◌/◌, ◌<◌, ◌≤◌, List, length, drop, get_or, Option, Some, refl, sym}
use Rattle.std.proofs.Common.{ap, subst, ◌∙◌, arith}
use Rattle.std.specs.Prelude.{slice_get}
use Rattle.std.proofs.lemmas.Bool.{false_from_ne_true}
use Rattle.std.proofs.lemmas.List.{length-take, length-drop}
use Rattle.std.proofs.lemmas.Option.{slice_get-get_or}
use Rattle.mm_model.specs.Places.SizeClass.{extent_of, object_bytes}
use Rattle.mm_words.specs.Piece.{Piece}
use Rattle.mm_model.specs.Good.{IsInside, AreApart}
use Rattle.mm_cells.specs.Cells as cells_specs
use Rattle.mm_cells.specs.Cells.{Taken, Cells, Begins, IsSoundCells}
use Rattle.mm_object.specs.Object.{StoredObject, shape_of, flags_with, has_weak_object}
use Rattle.mm_object.specs.Header.{IsShape}
use Rattle.mm_object.specs.Heap.{cells_in, piece_at, Covers, IsSound}
use Rattle.mm_object.specs.Kept.{shape_told, extent_words, object_at, heap_of, is_covered, KeepsHeap}
use Rattle.mm_object.proofs.Extents.{length-extent_words}
use Rattle.mm_object.proofs.Objects.{object-begins, begins-object, length-objects_from, cells-objects_from}
use Rattle.mm_object.proofs.RawWords.{IsCovering, covered_by, is_covered_at, length-raw_from, raw_at-some, raw_at-none}

module _ (memory : Piece) (cells : Cells) (kept : KeepsHeap memory cells) where
  -- the words of a cell are all in memory
  pub length-extent : (base : ℕ) (cell : Taken) → Begins cells base cell
      → length (extent_words memory.words base cell.extent) ≡ cell.extent / 4
  length-extent base cell h =
      omega (arith, length-extent_words memory.words base cell.extent, kept.within base cell h, h.aligned)

  pub length-slots : (base : ℕ) (cell : Taken) → Begins cells base cell
      → length (object_at memory.words base cell).words
      ≡ (shape_told (extent_words memory.words base cell.extent)).slots
  length-slots base cell h =
      let words : List ℕ = extent_words memory.words base cell.extent in
      let slots : ℕ = (shape_told words).slots in
      omega (
        arith,
        length-take slots (drop 4 words),
        length-drop 4 words,
        length-extent base cell h,
        (kept.headed base cell h).room,
      )

  pub shape-object : (base : ℕ) (cell : Taken) → Begins cells base cell
      → shape_of (object_at memory.words base cell) ≡ shape_told (extent_words memory.words base cell.extent)
  shape-object base cell h =
      ap (λ (n : ℕ). record (shape_told (extent_words memory.words base cell.extent)) { slots = n })
      (length-slots base cell h)

  pub cells-heap : cells_in (heap_of memory cells) ≡ cells
  cells-heap =
      ap (λ (taken : List (Option Taken)). record cells { taken = taken })
      (cells-objects_from memory.words 0 cells.taken (λ k cell e.
      let same : 16 * k ≡ 0 + 16 * k = omega arith in
      (kept.headed (16 * k) cell (record { grain = k; aligned = refl; is = e })).flags
      ∙ ap (λ (n : ℕ). flags_with (shape_told (extent_words memory.words n cell.extent)).finalize
      (has_weak_object cell.flags)) same))

  pub covers-cell : (word base : ℕ) (object : StoredObject) → Covers (heap_of memory cells) word base object
      → IsCovering cells word
  covers-cell word base object h =
      let one = object-begins memory.words cells base object h.begins in
      record {
        base = base;
        cell = one.cell;
        begins = one.begins;
        from = h.from;
        to = subst (λ (o : StoredObject). word < base + o.extent) one.is h.to;
      }

  pub cell-covers : (word : ℕ) (h : IsCovering cells word)
      → Covers (heap_of memory cells) word h.base (object_at memory.words h.base h.cell)
  cell-covers word h =
      record { begins = begins-object memory.words cells h.base h.cell h.begins; from = h.from; to = h.to }

  get-memory : (place : ℕ) → place < length memory.words
      → slice_get memory.words place ≡ Some (get_or memory.words place 0)
  get-memory place h = slice_get-get_or memory.words place 0 h

  pub IsSound-kept : IsSound (heap_of memory cells)
  IsSound-kept = record {
    cells = subst IsSoundCells (sym cells-heap) kept.sound;
    entries = length-objects_from memory.words 0 cells.taken ∙ kept.sound.size;
    two = kept.two;
    size = kept.most;
    most = kept.sound.most;
    words = kept.whole;
    raw_size = length-raw_from cells.taken 0 memory.words ∙ kept.whole;
    extent = λ base object begins.
        let one = object-begins memory.words cells base object begins in
        subst (λ (o : StoredObject). o.extent ≡ extent_of (object_bytes (length o.words))) (sym one.is)
        ((kept.headed base one.cell one.begins).extent
        ∙ ap (λ (n : ℕ). extent_of (object_bytes n)) (sym (length-slots base one.cell one.begins)));
    room = λ base object begins.
        let one = object-begins memory.words cells base object begins in
        let fits : object_bytes (length (object_at memory.words base one.cell).words) ≤ one.cell.extent =
        omega (arith, (kept.headed base one.cell one.begins).room, length-slots base one.cell one.begins) in
        subst (λ (o : StoredObject). object_bytes (length o.words) ≤ o.extent) (sym one.is) fits;
    shape = λ base object begins.
        let one = object-begins memory.words cells base object begins in
        subst (λ (o : StoredObject). IsShape (shape_of o)) (sym one.is)
        (subst IsShape (sym (shape-object base one.cell one.begins)) (kept.headed base one.cell one.begins).shape);
    inside = λ base object begins.
        let one = object-begins memory.words cells base object begins in
        let old : IsInside cells.pages (cells_specs.piece_at base one.cell) =
        kept.sound.inside base one.cell one.begins in
        let end : base + one.cell.extent ≤ 4096 * (length memory.words / 1024) =
        omega (arith, kept.within base one.cell one.begins, kept.whole) in
        subst (λ (o : StoredObject). IsInside (length memory.words / 1024) (piece_at base o)) (sym one.is)
        (record { from = old.from; to = end; placed = old.placed });
    apart = λ base other_base object other begins others d.
        let one = object-begins memory.words cells base object begins in
        let two = object-begins memory.words cells other_base other others in
        subst (λ (o : StoredObject). AreApart (piece_at base o) (piece_at other_base other)) (sym one.is)
        (subst (λ (o : StoredObject). AreApart (piece_at base (object_at memory.words base one.cell))
        (piece_at other_base o))
        (sym two.is) (kept.sound.apart base other_base one.cell two.cell one.begins two.begins d));
    covered = λ place base object h.
        let one = covers-cell (4 * place) base object h in
        let short : place < length memory.words =
        omega (arith, kept.within one.base one.cell one.begins, one.to) in
        raw_at-none cells.taken memory.words place (get_or memory.words place 0) (get-memory place short)
        (is_covered_at cells (4 * place) one);
    outside = λ place within none.
        let short : place < length memory.words = omega (arith, kept.whole) in (
          get_or memory.words place 0,
          raw_at-some cells.taken memory.words place (get_or memory.words place 0)
              (get-memory place short) (false_from_ne_true (is_covered cells.taken (4 * place)) (λ h.
              let one = covered_by cells (4 * place) h in
              none one.base (object_at memory.words one.base one.cell) (cell-covers (4 * place) one))),
        );
  }
