-- The words of memory that lie in no object: what is read there, and a write there.
use Rattle.std.proofs.Common.{◌≡◌, ◌≢◌, ℕ, ◌+◌, ◌*◌, ◌/◌, ◌<◌, ◌≤◌, true, false, List, length, get_or, Option, Some}
use Rattle.std.proofs.Common.{inl, inr, refl, sym, ap, subst, ◌∙◌, arith}
use Rattle.std.specs.Prelude.{slice_get, slice_set, set}
use Rattle.std.specs.Option.{option_map}
use Rattle.std.proofs.lemmas.Bool.{cases_eq}
use Rattle.std.proofs.lemmas.List.{length-set, get_or-set_other}
use Rattle.std.proofs.lemmas.Option.{slice_get_within, get_or_from_slice_get}
use Rattle.mm_model.proofs.View.ByBase.Entries.{same_entries}
use Rattle.mm_model.proofs.Lists.Replaced.{get-set_same, get-set_other}
use Rattle.mm_words.specs.Piece.{Piece, with_words}
use Rattle.mm_words.specs.Location.{location_of}
use Rattle.mm_cells.specs.Cells.{Taken, Cells, Begins}
use Rattle.mm_object.specs.Object.{StoredObject}
use Rattle.mm_object.specs.Heap.{Heap, IsRaw, with_raw}
use Rattle.mm_object.specs.Kept.{extent_words, object_told, objects_from, heap_of, raw_from, is_covered, IsHeaded}
use Rattle.mm_object.specs.Kept.{KeepsHeap}
use Rattle.mm_object.proofs.Extents.{extent_words-same}
use Rattle.mm_object.proofs.Objects.{objects-alike}
use Rattle.mm_object.proofs.RawWords.{is_covered_at, raw_at-bare, raw_at-some, get-raw, kept_raw}

-- where such a word stands
pub record IsBareAt (memory : Piece) (cells : Cells) (address word : ℕ) : Type 0 where
  pub within : address / 4 < length memory.words
  pub aligned : 4 * (address / 4) ≡ address
  pub free : is_covered cells.taken (4 * (address / 4)) ≡ false
  pub is : slice_get memory.words (address / 4) ≡ Some word

module _ (memory : Piece) (cells : Cells) (kept : KeepsHeap memory cells) (h : Heap) (is : heap_of memory cells ≡ h)
    (address word : ℕ) (raw : IsRaw h address word) where
  pub raw-bare : IsBareAt memory cells address word
  raw-bare =
      let at = raw.aligned in
      let place : raw.place ≡ address / 4 = omega arith in
      let one = raw_at-bare cells.taken memory.words (address / 4) word
      (ap (λ (v : Heap). slice_get v.raw (address / 4)) is ∙ ap (slice_get h.raw) (sym place) ∙ raw.is) in
      record {
        within = slice_get_within memory.words (address / 4) word one.is;
        aligned = omega arith;
        free = one.free;
        is = one.is;
      }

  pub read-raw : (result : ℕ) → result ≡ get_or memory.words (address / 4) 0 → IsRaw h address result
  read-raw result e =
      let one = raw-bare in
      let same : result ≡ word = e ∙ get_or_from_slice_get memory.words (address / 4) word 0 one.is in
      record { place = raw.place; aligned = raw.aligned; is = raw.is ∙ ap (λ (n : ℕ). Some (Some n)) (sym same) }

  module _ (w : ℕ) where
    news : List ℕ
    news = set memory.words (address / 4) w

    -- no object has the word
    apart : (base : ℕ) (cell : Taken) → Begins cells base cell → (i : ℕ) → base / 4 ≤ i
        → i < base / 4 + cell.extent / 4 → i ≢ address / 4
    apart base cell begins i from to e =
        let at = begins.aligned in
        let free : is_covered cells.taken (4 * i) ≡ false =
        ap (λ (n : ℕ). is_covered cells.taken (4 * n)) e ∙ raw-bare.free in
        let covered : is_covered cells.taken (4 * i) ≡ true =
        is_covered_at cells (4 * i)
        (record { base = base; cell = cell; begins = begins; from = omega arith; to = omega arith }) in
        absurd (cc)

    extent-same : (base : ℕ) (cell : Taken) → Begins cells base cell
        → extent_words (set memory.words (address / 4) w) base cell.extent ≡ extent_words memory.words base cell.extent
    extent-same base cell begins =
        extent_words-same memory.words (set memory.words (address / 4) w) base cell.extent
        (length-set memory.words (address / 4) w)
        (λ i from to. get_or-set_other memory.words (address / 4) i w 0 (apart base cell begins i from to))

    raw-set : raw_from cells.taken 0 (set memory.words (address / 4) w)
        ≡ slice_set (raw_from cells.taken 0 memory.words) (address / 4) (Some w)
    raw-set = same_entries _ _ each
      where
        here : slice_get (raw_from cells.taken 0 (set memory.words (address / 4) w)) (address / 4)
            ≡ slice_get (slice_set (raw_from cells.taken 0 memory.words) (address / 4) (Some w)) (address / 4)
        here =
            let one = raw-bare in
            raw_at-some cells.taken (set memory.words (address / 4) w) (address / 4) w
            (get-set_same memory.words (address / 4) word w one.is) one.free
            ∙ sym (get-set_same (raw_from cells.taken 0 memory.words) (address / 4) (Some word) (Some w)
            (raw_at-some cells.taken memory.words (address / 4) word one.is one.free))

        each : (i : ℕ) → slice_get (raw_from cells.taken 0 (set memory.words (address / 4) w)) i
            ≡ slice_get (slice_set (raw_from cells.taken 0 memory.words) (address / 4) (Some w)) i
        each i = elim (cases_eq i (address / 4)) [
          | inl e ↦
              ap (slice_get (raw_from cells.taken 0 (set memory.words (address / 4) w))) e ∙ here
              ∙ ap (slice_get (slice_set (raw_from cells.taken 0 memory.words) (address / 4) (Some w))) (sym e)
          | inr d ↦
              get-raw cells.taken (set memory.words (address / 4) w) i
              ∙ ap (λ (x : Option ℕ). option_map (kept_raw cells.taken i) x)
              (get-set_other memory.words (address / 4) i w d)
              ∙ sym (get-raw cells.taken memory.words i)
              ∙ sym (get-set_other (raw_from cells.taken 0 memory.words) (address / 4) i (Some w) d)
        ]

    pub set-raw : heap_of (with_words memory (set memory.words (address / 4) w)) cells ≡ with_raw h address w
    set-raw =
        ap (λ (n : ℕ). record (heap_of memory cells) {
          memory = record (location_of memory) { size = n };
          size = n / 1024;
          objects = objects_from (set memory.words (address / 4) w) 0 cells.taken;
          raw = raw_from cells.taken 0 (set memory.words (address / 4) w);
        }) (length-set memory.words (address / 4) w)
        ∙ ap (λ (os : List (Option StoredObject)). record (heap_of memory cells) {
          objects = os;
          raw = raw_from cells.taken 0 (set memory.words (address / 4) w);
        }) (objects-alike memory.words (set memory.words (address / 4) w) cells.taken (λ k cell e.
        ap (object_told cell) (extent-same (16 * k) cell (record { grain = k; aligned = refl; is = e }))))
        ∙ ap (λ (ws : List (Option ℕ)). record (heap_of memory cells) { raw = ws }) raw-set
        ∙ ap (λ (v : Heap). with_raw v address w) is

    pub keep-raw : KeepsHeap (with_words memory (set memory.words (address / 4) w)) cells
    keep-raw =
        let size : length memory.words ≡ length (set memory.words (address / 4) w) =
        sym (length-set memory.words (address / 4) w) in
        record {
          sound = kept.sound;
          whole = subst (λ (n : ℕ). n ≡ 1024 * (n / 1024)) size kept.whole;
          two = subst (λ (n : ℕ). 2 ≤ n / 1024) size kept.two;
          most = subst (λ (n : ℕ). n / 1024 ≤ cells.pages) size kept.most;
          within = λ other one b. subst (λ (n : ℕ). other + one.extent ≤ 4 * n) size (kept.within other one b);
          headed = λ other one b. subst (IsHeaded one) (sym (extent-same other one b)) (kept.headed other one b);
        }
