-- A cell is given back: its object is gone, and its words lie in no object.
use Rattle.std.proofs.Common.{◌≡◌, ◌≢◌, ℕ, ◌+◌, ◌*◌, ◌/◌, ◌<◌, ◌≤◌, List, length, get_or, Option, Some, None, inl}
use Rattle.std.proofs.Common.{inr, refl, sym, ap, subst, ◌∙◌, arith}
use Rattle.std.specs.Prelude.{slice_set}
use Rattle.std.proofs.lemmas.Bool.{false_from_ne_true}
use Rattle.std.proofs.lemmas.Option.{slice_get_within, slice_get-get_or}
use Rattle.mm_model.specs.Views.ByBase as bases
use Rattle.mm_words.specs.Piece.{Piece}
use Rattle.mm_cells.specs.Cells.{Taken, Cells, Begins, IsSoundCells}
use Rattle.mm_object.specs.Object.{StoredObject}
use Rattle.mm_object.specs.Heap.{LeavesWords}
use Rattle.mm_object.specs.Kept.{objects_from, heap_of, raw_from, is_covered, KeepsHeap}
use Rattle.mm_object.proofs.Objects.{objects-changed}
use Rattle.mm_object.proofs.RawWords.{IsCovering, covered_by, length-raw_from, raw_at-some}
use Rattle.mm_object.proofs.Born.{changed_cells, raw-alike}
use Rattle.mm_object.proofs.Writes.{one-cell}
use Rattle.mm_object.proofs.Recolouring.{is_here, is_other, begun, begins-still}

module _ (memory : Piece) (cells : Cells) (kept : KeepsHeap memory cells) (base : ℕ) (cell : Taken)
    (begins : Begins cells base cell) (runs : List ℕ) where
  short : begins.grain < length cells.taken
  short = slice_get_within cells.taken begins.grain (Some cell) begins.is

  -- what begins still began before, elsewhere
  split : (other : ℕ) (one : Taken) → Begins (changed_cells cells base None runs) other one
      → (other ≢ base) × Begins cells other one
  split other one h =
      elim (begun cells begins.grain base None other one begins.aligned short
      (record { grain = h.grain; aligned = h.aligned; is = h.is })) [
        | is_here e f ↦ absurd (cc)
        | is_other d old ↦ (d, old)
      ]

  still : (other : ℕ) (one : Taken) → other ≢ base → Begins cells other one
      → Begins (changed_cells cells base None runs) other one
  still other one d h =
      let two = begins-still cells begins.grain base None other one begins.aligned d h in
      record { grain = two.grain; aligned = two.aligned; is = two.is }

  pub gone-heap : heap_of memory (changed_cells cells base None runs)
      ≡ record (heap_of memory cells) {
        objects = bases.with_entry base None (objects_from memory.words 0 cells.taken);
        runs = runs;
        raw = raw_from (slice_set cells.taken (base / 16) None) 0 memory.words;
      }
  gone-heap =
      let grain : base / 16 ≡ begins.grain = let a = begins.aligned in omega arith in
      let objects : List (Option StoredObject) = objects_from memory.words 0 cells.taken in
      ap (λ (os : List (Option StoredObject)). record (heap_of memory cells) {
        objects = os;
        runs = runs;
        raw = raw_from (slice_set cells.taken (base / 16) None) 0 memory.words;
      })
      (ap (λ (n : ℕ). objects_from memory.words 0 (slice_set cells.taken n None)) grain
      ∙ objects-changed memory.words memory.words cells.taken begins.grain None short (λ k one d e. refl)
      ∙ ap (λ (n : ℕ). slice_set objects n None) (sym grain))

  pub gone-kept : IsSoundCells (changed_cells cells base None runs)
      → KeepsHeap memory (changed_cells cells base None runs)
  gone-kept sound = record {
    sound = sound;
    whole = kept.whole;
    two = kept.two;
    most = kept.most;
    within = λ other one h. kept.within other one (split other one h).1;
    headed = λ other one h. kept.headed other one (split other one h).1;
  }

  pub gone-raw : LeavesWords (raw_from cells.taken 0 memory.words)
      (raw_from (slice_set cells.taken (base / 16) None) 0 memory.words) base cell.extent
  gone-raw =
      record {
        size =
            length-raw_from (slice_set cells.taken (base / 16) None) 0 memory.words
            ∙ sym (length-raw_from cells.taken 0 memory.words);
        inside = λ i from to.
            let within : i < length memory.words = omega (arith, kept.within base cell begins) in (
              get_or memory.words i 0,
              raw_at-some (slice_set cells.taken (base / 16) None) memory.words i
                  (get_or memory.words i 0) (slice_get-get_or memory.words i 0 within)
                  (false_from_ne_true (is_covered (slice_set cells.taken (base / 16) None) (4 * i)) (λ h.
                  alone (4 * i) from to (covered_by (changed_cells cells base None runs) (4 * i) h))),
            );
        below = λ i low.
            raw-alike cells (changed_cells cells base None runs) memory.words memory.words i
            (to (4 * i) (λ from to. omega arith)) (back (4 * i)) refl;
        above = λ i high.
            raw-alike cells (changed_cells cells base None runs) memory.words memory.words i
            (to (4 * i) (λ from to. omega arith)) (back (4 * i)) refl;
      }
    where
      back : (address : ℕ) → IsCovering (changed_cells cells base None runs) address → IsCovering cells address
      back address h =
          record {
            base = h.base;
            cell = h.cell;
            begins = (split h.base h.cell h.begins).1;
            from = h.from;
            to = h.to;
          }

      to : (address : ℕ) → (base ≤ address → address < base + cell.extent → ⊥) → IsCovering cells address
          → IsCovering (changed_cells cells base None runs) address
      to address out h =
          record {
            base = h.base;
            cell = h.cell;
            begins = still h.base h.cell (λ e.
                let same : cell ≡ h.cell =
                one-cell cells base cell h.cell begins (subst (λ (n : ℕ). Begins cells n h.cell) e h.begins) in
                let size : cell.extent ≡ h.cell.extent = ap (λ (x : Taken). x.extent) same in
                out (let from = h.from in omega arith) (let end = h.to in omega arith)) h.begins;
            from = h.from;
            to = h.to;
          }

      -- no other cell has an address of it
      alone : (address : ℕ) → base ≤ address → address < base + cell.extent
          → IsCovering (changed_cells cells base None runs) address → ⊥
      alone address from to h =
          let old = split h.base h.cell h.begins in
          let low = h.from in
          let high = h.to in
          elim ((kept.sound.apart base h.base cell h.cell begins old.1 (λ e. old.0 (sym e))).disjoint) [
            | inl below ↦ omega arith
            | inr above ↦ omega arith
          ]
