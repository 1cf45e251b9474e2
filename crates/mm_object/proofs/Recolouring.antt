-- What is told of a cell changes, and its extent and finalizer stay.
use Rattle.std.proofs.Common.{◌≡◌, ◌≢◌, ℕ, ◌*◌, ◌/◌, ◌<◌, List, length, get_or, Option, Some, None, inl, inr, refl}
use Rattle.std.proofs.Common.{sym, ap, subst, ◌∙◌, arith}
use Rattle.std.specs.Prelude.{slice_get, slice_set}
use Rattle.std.proofs.lemmas.Bool.{cases_eq}
use Rattle.std.proofs.lemmas.Option.{slice_get_within, slice_get-get_or}
use Rattle.mm_model.proofs.Lists.Replaced.{get-set_same, get-set_other}
use Rattle.mm_words.specs.Piece.{Piece}
use Rattle.mm_cells.specs.Cells.{Taken, Cells, with_cell, Begins, IsSoundCells}
use Rattle.mm_object.specs.Object.{StoredObject}
use Rattle.mm_object.specs.Heap.{with_object}
use Rattle.mm_object.specs.Kept.{extent_words, object_at, objects_from, heap_of, raw_from, IsHeaded, KeepsHeap}
use Rattle.mm_object.proofs.Objects.{objects-changed}
use Rattle.mm_object.proofs.RawWords.{IsCovering, covered-alike, raw-same}
use Rattle.mm_object.proofs.Writes.{one-cell}

-- a cell that begins now, where another one may begin at the base
pub data IsBegun (cells : Cells) (base : ℕ) (entry : Option Taken) (other : ℕ) (one : Taken) : Type 0 where
  is_here : other ≡ base → entry ≡ Some one → IsBegun cells base entry other one
  is_other : other ≢ base → Begins cells other one → IsBegun cells base entry other one

pub begun : (cells : Cells) (grain base : ℕ) (entry : Option Taken) (other : ℕ) (one : Taken) → base ≡ 16 * grain
    → grain < length cells.taken → Begins (with_cell cells base entry) other one → IsBegun cells base entry other one
begun cells grain base entry other one aligned within h =
    let place : base / 16 ≡ grain = omega arith in
    let there : slice_get (slice_set cells.taken grain entry) h.grain ≡ Some (Some one) =
    ap (λ (n : ℕ). slice_get (slice_set cells.taken n entry) h.grain) (sym place) ∙ h.is in
    let at = h.aligned in
    elim (cases_eq h.grain grain) [
      | inl e ↦
          let old = slice_get-within cells.taken grain within in
          let now : ◌≡◌ {A = Option (Option Taken)} (Some entry) (Some (Some one)) =
          sym (get-set_same cells.taken grain old.0 entry old.1)
          ∙ ap (slice_get (slice_set cells.taken grain entry)) (sym e) ∙ there in
          is_here (omega arith) (let same : entry ≡ Some one = cc in same)
      | inr d ↦
          is_other (λ e. d (omega arith))
          (record {
            grain = h.grain;
            aligned = h.aligned;
            is = sym (get-set_other cells.taken grain h.grain entry d)
                ∙ there;
          })
    ]
  where
    slice_get-within : (xs : List (Option Taken)) (i : ℕ) → i < length xs
        → (x : Option Taken) × (slice_get xs i ≡ Some x)
    slice_get-within xs i h = (get_or xs i None, slice_get-get_or xs i None h)

-- and those that begun before at other bases begin still
pub begins-still : (cells : Cells) (grain base : ℕ) (entry : Option Taken) (other : ℕ) (one : Taken)
    → base ≡ 16 * grain → other ≢ base → Begins cells other one → Begins (with_cell cells base entry) other one
begins-still cells grain base entry other one aligned d h =
    let place : grain ≡ base / 16 = omega arith in
    let at = h.aligned in
    record {
      grain = h.grain;
      aligned = h.aligned;
      is =
          ap (λ (n : ℕ). slice_get (slice_set cells.taken n entry) h.grain) (sym place)
          ∙ get-set_other cells.taken grain h.grain entry (λ e. d (omega arith)) ∙ h.is;
    }

pub begins-here : (cells : Cells) (grain base : ℕ) (cell : Taken) → base ≡ 16 * grain → grain < length cells.taken
    → Begins (with_cell cells base (Some cell)) base cell
begins-here cells grain base cell aligned within =
    let place : grain ≡ base / 16 = omega arith in
    record {
      grain = grain;
      aligned = aligned;
      is =
          ap (λ (n : ℕ). slice_get (slice_set cells.taken n (Some cell)) grain) (sym place)
          ∙ get-set_same cells.taken grain (get_or cells.taken grain None) (Some cell)
          (slice_get-get_or cells.taken grain None within);
    }

module _ (memory : Piece) (cells : Cells) (kept : KeepsHeap memory cells) (base : ℕ) (cell now : Taken)
    (begins : Begins cells base cell) (extent : now.extent ≡ cell.extent) where
  short : begins.grain < length cells.taken
  short = slice_get_within cells.taken begins.grain (Some cell) begins.is

  to : (address : ℕ) → IsCovering cells address → IsCovering (with_cell cells base (Some now)) address
  to address h = elim (cases_eq h.base base) [
    | inl e ↦
        let same : cell ≡ h.cell =
        one-cell cells base cell h.cell begins (subst (λ (n : ℕ). Begins cells n h.cell) e h.begins) in
        let size : now.extent ≡ h.cell.extent = extent ∙ ap (λ (x : Taken). x.extent) same in
        let from = h.from in
        let end = h.to in
        record {
          base = base;
          cell = now;
          begins = begins-here cells begins.grain base now begins.aligned short;
          from = omega arith;
          to = omega arith;
        }
    | inr d ↦
        record {
          base = h.base;
          cell = h.cell;
          begins = begins-still cells begins.grain base (Some now) h.base h.cell begins.aligned d h.begins;
          from = h.from;
          to = h.to;
        }
  ]

  back : (address : ℕ) → IsCovering (with_cell cells base (Some now)) address → IsCovering cells address
  back address h = elim (begun cells begins.grain base (Some now) h.base h.cell begins.aligned short h.begins) [
    | is_here e f ↦
        let same : now ≡ h.cell = cc in
        let size : cell.extent ≡ h.cell.extent = sym extent ∙ ap (λ (x : Taken). x.extent) same in
        let from = h.from in
        let end = h.to in
        record { base = base; cell = cell; begins = begins; from = omega arith; to = omega arith }
    | is_other d old ↦ record { base = h.base; cell = h.cell; begins = old; from = h.from; to = h.to }
  ]

  pub heap-recoloured : heap_of memory (with_cell cells base (Some now))
      ≡ with_object (heap_of memory cells) base (Some (object_at memory.words base now))
  heap-recoloured =
      let at : 16 * begins.grain ≡ base = sym begins.aligned in
      let place : base / 16 ≡ begins.grain = omega arith in
      let objects : List (Option StoredObject) = objects_from memory.words 0 cells.taken in
      let changed : objects_from memory.words 0 (slice_set cells.taken (base / 16) (Some now))
      ≡ slice_set objects (base / 16) (Some (object_at memory.words base now)) =
      ap (λ (n : ℕ). objects_from memory.words 0 (slice_set cells.taken n (Some now))) place
      ∙ objects-changed memory.words memory.words cells.taken begins.grain (Some now) short (λ k one d e. refl)
      ∙ ap (λ (n : ℕ). slice_set objects begins.grain (Some (object_at memory.words n now))) at
      ∙ ap (λ (n : ℕ). slice_set objects n (Some (object_at memory.words base now))) (sym place) in
      let raw : raw_from (slice_set cells.taken (base / 16) (Some now)) 0 memory.words
      ≡ raw_from cells.taken 0 memory.words =
      raw-same cells (with_cell cells base (Some now)) memory.words memory.words
      (λ i. covered-alike cells (with_cell cells base (Some now)) (4 * i) (to (4 * i)) (back (4 * i)))
      (λ i h. refl) refl in
      ap (λ (os : List (Option StoredObject)). record (heap_of memory cells) {
        objects = os;
        raw = raw_from (slice_set cells.taken (base / 16) (Some now)) 0 memory.words;
      }) changed
      ∙ ap (λ (ws : List (Option ℕ)). record (heap_of memory cells) {
        objects = slice_set objects (base / 16) (Some (object_at memory.words base now));
        raw = ws;
      }) raw

  pub kept-recoloured : IsSoundCells (with_cell cells base (Some now))
      → IsHeaded now (extent_words memory.words base now.extent) → KeepsHeap memory (with_cell cells base (Some now))
  kept-recoloured sound headed = record {
    sound = sound;
    whole = kept.whole;
    two = kept.two;
    most = kept.most;
    within = λ other one h. elim (begun cells begins.grain base (Some now) other one begins.aligned short h) [
      | is_here e f ↦
          let same : now ≡ one = cc in
          let size : one.extent ≡ cell.extent = ap (λ (x : Taken). x.extent) (sym same) ∙ extent in
          omega (arith, kept.within base cell begins)
      | is_other d old ↦ kept.within other one old
    ];
    headed = λ other one h. elim (begun cells begins.grain base (Some now) other one begins.aligned short h) [
      | is_here e f ↦
          let same : now ≡ one = cc in
          subst (λ (n : ℕ). IsHeaded one (extent_words memory.words n one.extent)) (sym e)
          (subst (λ (x : Taken). IsHeaded x (extent_words memory.words base x.extent)) same headed)
      | is_other d old ↦ kept.headed other one old
    ];
  }
