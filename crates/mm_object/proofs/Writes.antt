-- A write into an object: what its words tell then, and that all else is as it was.
use Rattle.std.proofs.Common.{◌≡◌, ◌≢◌, ℕ, ◌+◌, ◌*◌, ◌/◌, ◌<◌, ◌≤◌, ◌⊎◌, true, false, List, length, get_or, Option}
use Rattle.std.proofs.Common.{Some, inl, inr, refl, sym, ap, subst, ◌∙◌, arith}
use Rattle.std.specs.Prelude.{slice_get, slice_set, set}
use Rattle.std.proofs.lemmas.List.{length-set, get_or-set_other, set-get_or}
use Rattle.std.proofs.lemmas.Bool.{cases_lt, cases_eq}
use Rattle.std.proofs.lemmas.Option.{slice_get_within, slice_get_past, slice_get-get_or, get_or_from_slice_get}
use Rattle.mm_model.proofs.View.ByBase.Entries.{begins_same}
use Rattle.mm_words.specs.Location.{location_of}
use Rattle.mm_model.specs.Views.ByBase as bases
use Rattle.mm_words.specs.Piece.{Piece, with_words}
use Rattle.mm_cells.specs.Cells.{Taken, Cells, Begins}
use Rattle.mm_object.specs.Object.{StoredObject}
use Rattle.mm_object.specs.Heap.{with_object}
use Rattle.mm_object.specs.Kept.{extent_words, object_told, object_at, objects_from, heap_of, raw_from, is_covered}
use Rattle.mm_object.specs.Kept.{IsHeaded, KeepsHeap}
use Rattle.mm_object.proofs.Extents.{extent_words-same, extent_words-set}
use Rattle.mm_object.proofs.Objects.{objects-changed}
use Rattle.mm_object.proofs.RawWords.{IsCovering, is_covered_at, raw-same}

-- one thing is put where it was
pub set-same : {X : Type 0} (xs : List X) (i : ℕ) (x : X) → slice_get xs i ≡ Some x → slice_set xs i x ≡ xs
set-same xs i x e = ap (slice_set xs i) (sym (get_or_from_slice_get xs i x x e)) ∙ set-get_or xs i x

-- one cell begins at a base
pub one-cell : (cells : Cells) (base : ℕ) (cell other : Taken) → Begins cells base cell → Begins cells base other
    → cell ≡ other
one-cell cells base cell other h k =
    begins_same cells.taken base cell other (record { grain = h.grain; aligned = h.aligned; is = h.is })
    (record { grain = k.grain; aligned = k.aligned; is = k.is })

pub get-same : (xs ys : List ℕ) (i : ℕ) → length ys ≡ length xs → get_or ys i 0 ≡ get_or xs i 0
    → slice_get ys i ≡ slice_get xs i
get-same xs ys i size e = elim (cases_lt i (length xs)) [
  | inl h ↦ slice_get-get_or ys i 0 (omega arith) ∙ ap Some e ∙ sym (slice_get-get_or xs i 0 h)
  | inr h ↦ slice_get_past ys i (omega arith) ∙ sym (slice_get_past xs i h)
]

-- outside an extent the words are the same
pub record ChangesWithin (words news : List ℕ) (base extent : ℕ) : Type 0 where
  pub size : length news ≡ length words
  pub below : (i : ℕ) → i < base / 4 → get_or news i 0 ≡ get_or words i 0
  pub above : (i : ℕ) → base / 4 + extent / 4 ≤ i → get_or news i 0 ≡ get_or words i 0

-- so those of a cell apart from it are
pub extent-apart : (words news : List ℕ) (base extent other more : ℕ) → ChangesWithin words news base extent
    → (g h : ℕ) → base ≡ 16 * g → other ≡ 16 * h
    → (base + extent ≤ other) ⊎ (other + more ≤ base)
    → extent_words news other more ≡ extent_words words other more
extent-apart words news base extent other more changes g h aligned aligned' apart =
    extent_words-same words news other more changes.size (λ i from to. elim apart [
      | inl below ↦ changes.above i (omega arith)
      | inr above ↦ changes.below i (omega arith)
    ])

module _ (memory : Piece) (cells : Cells) (kept : KeepsHeap memory cells) (base : ℕ) (cell : Taken)
    (begins : Begins cells base cell) where
  -- other objects are as they were
  pub others-same : (news : List ℕ) → ChangesWithin memory.words news base cell.extent → (other : ℕ) (one : Taken)
      → base ≢ other → Begins cells other one
      → extent_words news other one.extent ≡ extent_words memory.words other one.extent
  others-same news changes other one d h =
      extent-apart memory.words news base cell.extent other one.extent changes begins.grain h.grain begins.aligned
      h.aligned (kept.sound.apart base other cell one begins h d).disjoint

  -- the words of no object are
  pub raw-within : (news : List ℕ) → ChangesWithin memory.words news base cell.extent
      → raw_from cells.taken 0 news ≡ raw_from cells.taken 0 memory.words
  raw-within news changes = raw-same cells cells memory.words news (λ i. refl) same changes.size
    where
      covering : (i : ℕ) → base / 4 ≤ i → i < base / 4 + cell.extent / 4 → IsCovering cells (4 * i)
      covering i from to =
          let at = begins.aligned in
          record { base = base; cell = cell; begins = begins; from = omega arith; to = omega arith }

      same : (i : ℕ) → is_covered cells.taken (4 * i) ≡ false → slice_get news i ≡ slice_get memory.words i
      same i free = elim (cases_lt i (base / 4)) [
        | inl low ↦ get-same memory.words news i changes.size (changes.below i low)
        | inr from ↦ elim (cases_lt i (base / 4 + cell.extent / 4)) [
          | inl to ↦
              let covered : is_covered cells.taken (4 * i) ≡ true =
              is_covered_at cells (4 * i) (covering i from to) in
              absurd (cc)
          | inr high ↦ get-same memory.words news i changes.size (changes.above i high)
        ]
      ]

  -- one entry changes
  pub objects-within : (news : List ℕ) → ChangesWithin memory.words news base cell.extent
      → objects_from news 0 cells.taken
      ≡ bases.with_entry base (Some (object_told cell (extent_words news base cell.extent)))
      (objects_from memory.words 0 cells.taken)
  objects-within news changes =
      let at : 16 * begins.grain ≡ base = sym begins.aligned in
      let place : begins.grain ≡ base / 16 = omega arith in
      let objects : List (Option StoredObject) = objects_from memory.words 0 cells.taken in
      ap (objects_from news 0) (sym (set-same cells.taken begins.grain (Some cell) begins.is))
      ∙ objects-changed memory.words news cells.taken begins.grain (Some cell)
      (slice_get_within cells.taken begins.grain (Some cell) begins.is)
      (λ k one d e. ap (object_told one) (others-same news changes (16 * k) one (λ same. d (omega arith))
      (record { grain = k; aligned = refl; is = e })))
      ∙ ap (λ (n : ℕ). slice_set objects begins.grain (Some (object_at news n cell))) at
      ∙ ap (λ (n : ℕ). slice_set objects n (Some (object_at news base cell))) place

  -- the heap has another object there
  pub heap-within : (news : List ℕ) → ChangesWithin memory.words news base cell.extent
      → heap_of (with_words memory news) cells
      ≡ with_object (heap_of memory cells) base (Some (object_told cell (extent_words news base cell.extent)))
  heap-within news changes =
      ap (λ (n : ℕ). record (heap_of memory cells) {
        memory = record (location_of memory) { size = n };
        size = n / 1024;
        objects = objects_from news 0 cells.taken;
        raw = raw_from cells.taken 0 news;
      }) changes.size
      ∙ ap (λ (objects : List (Option StoredObject)). record (heap_of memory cells) {
        objects = objects;
        raw = raw_from cells.taken 0 news;
      }) (objects-within news changes)
      ∙ ap (λ (raw : List (Option ℕ)). record (heap_of memory cells) {
        objects =
            bases.with_entry base (Some (object_told cell (extent_words news base cell.extent)))
            (objects_from memory.words 0 cells.taken);
        raw = raw;
      }) (raw-within news changes)

  -- the header may not change
  pub kept-within : (news : List ℕ) → ChangesWithin memory.words news base cell.extent
      → IsHeaded cell (extent_words news base cell.extent) → KeepsHeap (with_words memory news) cells
  kept-within news changes headed = record {
    sound = kept.sound;
    whole = subst (λ (n : ℕ). n ≡ 1024 * (n / 1024)) (sym changes.size) kept.whole;
    two = subst (λ (n : ℕ). 2 ≤ n / 1024) (sym changes.size) kept.two;
    most = subst (λ (n : ℕ). n / 1024 ≤ cells.pages) (sym changes.size) kept.most;
    within = λ other one h. subst (λ (n : ℕ). other + one.extent ≤ 4 * n) (sym changes.size) (kept.within other one h);
    headed = λ other one h. elim (cases_eq other base) [
      | inl e ↦
          let same : cell ≡ one = one-cell cells base cell one begins (subst (λ (n : ℕ). Begins cells n one) e h) in
          subst (λ (n : ℕ). IsHeaded one (extent_words news n one.extent)) (sym e)
          (subst (λ (x : Taken). IsHeaded x (extent_words news base x.extent)) same headed)
      | inr d ↦
          subst (IsHeaded one) (sym (others-same news changes other one (λ e. d (sym e)) h)) (kept.headed other one h)
    ];
  }

  pub changes-set : (i word : ℕ) → i < cell.extent / 4
      → ChangesWithin memory.words (set memory.words (base / 4 + i) word) base cell.extent
  changes-set i word within = record {
    size = length-set memory.words (base / 4 + i) word;
    below = λ j h. get_or-set_other memory.words (base / 4 + i) j word 0 (λ e. omega arith);
    above = λ j h. get_or-set_other memory.words (base / 4 + i) j word 0 (λ e. omega arith);
  }

  pub heap-set : (i word : ℕ) → i < cell.extent / 4
      → heap_of (with_words memory (set memory.words (base / 4 + i) word)) cells
      ≡ with_object (heap_of memory cells) base
      (Some (object_told cell (set (extent_words memory.words base cell.extent) i word)))
  heap-set i word within =
      heap-within (set memory.words (base / 4 + i) word) (changes-set i word within)
      ∙ ap (λ (ws : List ℕ). with_object (heap_of memory cells) base (Some (object_told cell ws)))
      (extent_words-set memory.words base cell.extent i word within)

  pub kept-set : (i word : ℕ) → i < cell.extent / 4
      → IsHeaded cell (set (extent_words memory.words base cell.extent) i word)
      → KeepsHeap (with_words memory (set memory.words (base / 4 + i) word)) cells
  kept-set i word within headed =
      kept-within (set memory.words (base / 4 + i) word) (changes-set i word within)
      (subst (IsHeaded cell) (sym (extent_words-set memory.words base cell.extent i word within)) headed)
