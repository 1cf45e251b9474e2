-- A heap without objects.
use Rattle.std.proofs.Common.{◌≡◌, ℕ, suc, ◌+◌, ◌*◌, ◌/◌, ◌≤◌, false, List, [], ◌∷◌, map, length, Option, Some, None}
use Rattle.std.proofs.Common.{refl, ap, ◌∙◌}
use Rattle.std.specs.Prelude.{slice_get, replicate}
use Rattle.std.proofs.lemmas.Bool.{false_from_ne_true}
use Rattle.mm_words.specs.Piece.{Piece}
use Rattle.mm_cells.specs.Cells.{Taken, Cells, HasNoCell, IsSoundCells}
use Rattle.mm_object.specs.Object.{StoredObject}
use Rattle.mm_object.specs.Heap.{fresh}
use Rattle.mm_object.specs.Kept.{objects_from, raw_from, is_covered, heap_of, KeepsHeap}
use Rattle.mm_object.proofs.RawWords.{covered_by, kept_raw-some}

-- no entry is taken
pub objects-none : (words : List ℕ) (low : ℕ) (taken : List (Option Taken))
    → ((k : ℕ) (cell : Taken) → slice_get taken k ≡ Some (Some cell) → ⊥)
    → objects_from words low taken ≡ replicate (length taken) None
objects-none words low [] none = refl
objects-none words low (None ∷ taken) none =
    ap (λ (os : List (Option StoredObject)). None ∷ os)
    (objects-none words (low + 16) taken (λ k cell e. none (suc k) cell e))
objects-none words low (Some cell ∷ taken) none = absurd (none 0 cell refl)

pub raw-none : (taken : List (Option Taken)) (low : ℕ) (words : List ℕ)
    → ((i : ℕ) → is_covered taken (4 * i) ≡ false) → raw_from taken low words ≡ map Some words
raw-none taken low [] none = refl
raw-none taken low (word ∷ words) none =
    ap (λ (w : Option ℕ). w ∷ raw_from taken (low + 1) words) (kept_raw-some taken low word (none low))
    ∙ ap (λ (ws : List (Option ℕ)). Some word ∷ ws) (raw-none taken (low + 1) words none)

module _ (memory : Piece) (cells : Cells) (sound : IsSoundCells cells) (empty : HasNoCell cells) where
  uncovered : (i : ℕ) → is_covered cells.taken (4 * i) ≡ false
  uncovered i = false_from_ne_true (is_covered cells.taken (4 * i)) (λ h.
      let one = covered_by cells (4 * i) h in empty one.base one.cell one.begins)

  pub heap-fresh : heap_of memory cells ≡ fresh memory cells
  heap-fresh =
      ap (λ (os : List (Option StoredObject)). record (heap_of memory cells) { objects = os })
      (objects-none memory.words 0 cells.taken
      (λ k cell e. empty (16 * k) cell (record { grain = k; aligned = refl; is = e }))
      ∙ ap (λ (n : ℕ). replicate n None) sound.size)
      ∙ ap (λ (ws : List (Option ℕ)). record (fresh memory cells) { raw = ws })
      (raw-none cells.taken 0 memory.words uncovered)

  pub kept-fresh : length memory.words ≡ 1024 * (length memory.words / 1024) → 2 ≤ length memory.words / 1024
      → length memory.words / 1024 ≤ cells.pages → KeepsHeap memory cells
  kept-fresh whole two most = record {
    sound = sound;
    whole = whole;
    two = two;
    most = most;
    within = λ base cell h. absurd (empty base cell h);
    headed = λ base cell h. absurd (empty base cell h);
  }
