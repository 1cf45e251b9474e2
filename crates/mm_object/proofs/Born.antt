-- A cell is taken for an object, or given back.
use Rattle.std.proofs.Common.{◌≡◌, ◌≢◌, ℕ, ◌+◌, ◌*◌, ◌/◌, ◌<◌, ◌≤◌, List, length, get_or, Option, Some, None, refl}
use Rattle.std.proofs.Common.{sym, ap, subst, ◌∙◌, arith}
use Rattle.std.specs.Prelude.{Bool, if◌then◌else◌, slice_get, slice_set}
use Rattle.std.specs.Option.{option_map}
use Rattle.std.proofs.lemmas.Option.{slice_get-get_or}
use Rattle.mm_model.specs.Views.ByBase as bases
use Rattle.mm_words.specs.Piece.{Piece, with_words}
use Rattle.mm_words.specs.Location.{location_of}
use Rattle.mm_cells.specs.Cells.{Taken, Cells, with_cell, Begins, IsSoundCells}
use Rattle.mm_object.specs.Object.{StoredObject}
use Rattle.mm_object.specs.Heap.{TakesWords}
use Rattle.mm_object.specs.Kept.{extent_words, object_at, object_told, objects_from, heap_of, raw_from, IsHeaded}
use Rattle.mm_object.specs.Kept.{KeepsHeap}
use Rattle.mm_object.proofs.Objects.{objects-changed, get-objects}
use Rattle.mm_object.proofs.RawWords.{IsCovering, covered-alike, is_covered_at, length-raw_from, get-raw, kept_raw}
use Rattle.mm_object.proofs.RawWords.{raw_at-none}
use Rattle.mm_object.proofs.Writes.{ChangesWithin, extent-apart, get-same}
use Rattle.mm_object.proofs.Recolouring.{IsBegun, is_here, is_other, begun, begins-still, begins-here}
use Rattle.mm_object.proofs.Vacant.{IsVacant}

-- the cells once an entry changed, and runs
abbrev pub changed_cells : Cells → ℕ → Option Taken → List ℕ → Cells
changed_cells cells base entry runs = record (with_cell cells base entry) { runs = runs }

-- the same word is told of a place that the change doesn't reach
pub raw-alike : (cells others : Cells) (words news : List ℕ) (i : ℕ)
    → (IsCovering cells (4 * i) → IsCovering others (4 * i)) → (IsCovering others (4 * i) → IsCovering cells (4 * i))
    → slice_get news i ≡ slice_get words i
    → slice_get (raw_from others.taken 0 news) i ≡ slice_get (raw_from cells.taken 0 words) i
raw-alike cells others words news i to back same =
    get-raw others.taken news i ∙ ap (option_map (kept_raw others.taken i)) same
    ∙ ap (λ (b : Bool). option_map (λ (word : ℕ). if b then None else Some word) (slice_get words i))
    (covered-alike cells others (4 * i) to back)
    ∙ sym (get-raw cells.taken words i)

module _ (memory : Piece) (cells : Cells) (kept : KeepsHeap memory cells) (base : ℕ) (now : Taken) (runs : List ℕ)
    (place : IsVacant memory cells now.extent base)
    (sound : IsSoundCells (record (with_cell cells base (Some now)) { runs = runs })) where
  here : Begins (changed_cells cells base (Some now) runs) base now
  here =
      let one = begins-here cells place.grain base now place.aligned place.within in
      record { grain = one.grain; aligned = one.aligned; is = one.is }

  still : (other : ℕ) (one : Taken) → other ≢ base → Begins cells other one
      → Begins (changed_cells cells base (Some now) runs) other one
  still other one d h =
      let two = begins-still cells place.grain base (Some now) other one place.aligned d h in
      record { grain = two.grain; aligned = two.aligned; is = two.is }

  split : (other : ℕ) (one : Taken) → Begins (changed_cells cells base (Some now) runs) other one
      → IsBegun cells base (Some now) other one
  split other one h =
      begun cells place.grain base (Some now) other one place.aligned place.within
      (record { grain = h.grain; aligned = h.aligned; is = h.is })

  other_base : (other : ℕ) (one : Taken) → Begins cells other one → other ≢ base
  other_base other one h e = place.free one (subst (λ (n : ℕ). Begins cells n one) e h)

  module _ (news : List ℕ) (changes : ChangesWithin memory.words news base now.extent) where
    others-same : (other : ℕ) (one : Taken) → Begins cells other one
        → extent_words news other one.extent ≡ extent_words memory.words other one.extent
    others-same other one h =
        let d = other_base other one h in
        extent-apart memory.words news base now.extent other one.extent changes place.grain h.grain place.aligned
        h.aligned (sound.apart base other now one here (still other one d h) (λ e. d (sym e))).disjoint

    pub born-objects : objects_from news 0 (slice_set cells.taken (base / 16) (Some now))
        ≡ bases.with_entry base (Some (object_told now (extent_words news base now.extent)))
        (objects_from memory.words 0 cells.taken)
    born-objects =
        let at : 16 * place.grain ≡ base = sym place.aligned in
        let grain : base / 16 ≡ place.grain = let a = place.aligned in omega arith in
        let objects : List (Option StoredObject) = objects_from memory.words 0 cells.taken in
        ap (λ (n : ℕ). objects_from news 0 (slice_set cells.taken n (Some now))) grain
        ∙ objects-changed memory.words news cells.taken place.grain (Some now) place.within
        (λ k one d e. ap (object_told one)
        (others-same (16 * k) one (record { grain = k; aligned = refl; is = e })))
        ∙ ap (λ (n : ℕ). slice_set objects place.grain (Some (object_at news n now))) at
        ∙ ap (λ (n : ℕ). slice_set objects n (Some (object_at news base now))) (sym grain)

    pub born-heap : heap_of (with_words memory news) (changed_cells cells base (Some now) runs)
        ≡ record (heap_of memory cells) {
          objects = bases.with_entry base (Some (object_told now (extent_words news base now.extent)))
              (objects_from memory.words 0 cells.taken);
          runs = runs;
          raw = raw_from (slice_set cells.taken (base / 16) (Some now)) 0 news;
        }
    born-heap =
        ap (λ (n : ℕ). record (heap_of memory cells) {
          memory = record (location_of memory) { size = n };
          size = n / 1024;
          objects = objects_from news 0 (slice_set cells.taken (base / 16) (Some now));
          runs = runs;
          raw = raw_from (slice_set cells.taken (base / 16) (Some now)) 0 news;
        }) changes.size
        ∙ ap (λ (os : List (Option StoredObject)). record (heap_of memory cells) {
          objects = os;
          runs = runs;
          raw = raw_from (slice_set cells.taken (base / 16) (Some now)) 0 news;
        }) born-objects

    pub born-kept : IsHeaded now (extent_words news base now.extent)
        → KeepsHeap (with_words memory news) (changed_cells cells base (Some now) runs)
    born-kept headed = record {
      sound = sound;
      whole = subst (λ (n : ℕ). n ≡ 1024 * (n / 1024)) (sym changes.size) kept.whole;
      two = subst (λ (n : ℕ). 2 ≤ n / 1024) (sym changes.size) kept.two;
      most = subst (λ (n : ℕ). n / 1024 ≤ cells.pages) (sym changes.size) kept.most;
      within = λ other one h. elim (split other one h) [
        | is_here e f ↦
            let same : now ≡ one = cc in
            let size : one.extent ≡ now.extent = ap (λ (x : Taken). x.extent) (sym same) in
            omega (arith, place.end, changes.size)
        | is_other d old ↦ omega (arith, kept.within other one old, changes.size)
      ];
      headed = λ other one h. elim (split other one h) [
        | is_here e f ↦
            let same : now ≡ one = cc in
            subst (λ (n : ℕ). IsHeaded one (extent_words news n one.extent)) (sym e)
            (subst (λ (x : Taken). IsHeaded x (extent_words news base x.extent)) same headed)
        | is_other d old ↦ subst (IsHeaded one) (sym (others-same other one old)) (kept.headed other one old)
      ];
    }

    pub born-raw : TakesWords (raw_from cells.taken 0 memory.words)
        (raw_from (slice_set cells.taken (base / 16) (Some now)) 0 news) base now.extent
    born-raw =
        let after : Cells = changed_cells cells base (Some now) runs in
        record {
          size =
              length-raw_from (slice_set cells.taken (base / 16) (Some now)) 0 news ∙ changes.size
              ∙ sym (length-raw_from cells.taken 0 memory.words);
          inside = λ i from to.
              let short : i < length news = omega (arith, place.end, changes.size) in
              raw_at-none (slice_set cells.taken (base / 16) (Some now)) news i (get_or news i 0)
              (slice_get-get_or news i 0 short)
              (is_covered_at (changed_cells cells base (Some now) runs) (4 * i)
              (record { base = base; cell = now; begins = here; from = from; to = to }));
          below = λ i low.
              raw-alike cells (changed_cells cells base (Some now) runs) memory.words news i (to (4 * i))
              (back (4 * i) (λ from to. omega arith))
              (get-same memory.words news i changes.size (changes.below i (omega (arith, place.aligned))));
          above = λ i high.
              raw-alike cells (changed_cells cells base (Some now) runs) memory.words news i (to (4 * i))
              (back (4 * i) (λ from to. omega arith))
              (get-same memory.words news i changes.size (changes.above i (omega (arith, place.aligned))));
        }
      where
        to : (address : ℕ) → IsCovering cells address → IsCovering (changed_cells cells base (Some now) runs) address
        to address h =
            record {
              base = h.base;
              cell = h.cell;
              begins = still h.base h.cell (other_base h.base h.cell h.begins) h.begins;
              from = h.from;
              to = h.to;
            }

        back : (address : ℕ) → (base ≤ address → address < base + now.extent → ⊥)
            → IsCovering (changed_cells cells base (Some now) runs) address → IsCovering cells address
        back address out h = elim (split h.base h.cell h.begins) [
          | is_here e f ↦
              let same : now ≡ h.cell = cc in
              let size : now.extent ≡ h.cell.extent = ap (λ (x : Taken). x.extent) same in
              absurd (out (let from = h.from in omega arith) (let to = h.to in omega arith))
          | is_other d old ↦ record { base = h.base; cell = h.cell; begins = old; from = h.from; to = h.to }
        ]

  -- nothing began there
  pub born-none : slice_get (objects_from memory.words 0 cells.taken) (base / 16) ≡ Some None
  born-none =
      let grain : base / 16 ≡ place.grain = let a = place.aligned in omega arith in
      ap (slice_get (objects_from memory.words 0 cells.taken)) grain
      ∙ get-objects memory.words cells.taken place.grain
      ∙ ap (option_map (option_map (object_at memory.words (16 * place.grain))))
      (none (get_or cells.taken place.grain None) (slice_get-get_or cells.taken place.grain None place.within))
    where
      none : (x : Option Taken) → slice_get cells.taken place.grain ≡ Some x
          → slice_get cells.taken place.grain ≡ Some None
      none None e = e
      none (Some cell) e =
          absurd (place.free cell (record { grain = place.grain; aligned = place.aligned; is = e }))
