-- The words of memory that lie in no cell.
use Rattle.std.proofs.Common.{◌≡◌, ℕ, zero, suc, ◌+◌, ◌*◌, ◌<◌, ◌≤◌, Bool, true, false, List, [], ◌∷◌, length, Option}
use Rattle.std.proofs.Common.{Some, None, inl, inr, refl, sym, ap, ◌∙◌, arith}
use Rattle.std.specs.Prelude.{slice_get, if◌then◌else◌}
use Rattle.std.specs.Option.{option_map}
use Rattle.std.proofs.lemmas.Bool.{cases_Bool, and_parts, and_from, ltb-true, lt-ltb, leb-true, le-leb}
use Rattle.std.proofs.lemmas.Bool.{false_from_ne_true}
use Rattle.std.proofs.lemmas.Option.{slice_get_within}
use Rattle.mm_model.proofs.View.ByBase.Entries.{same_entries, any_begins, begins_any}
use Rattle.mm_cells.specs.Cells.{Taken, Cells, Begins}
use Rattle.mm_object.specs.Kept.{is_covered, raw_from}

abbrev pub kept_raw : List (Option Taken) → ℕ → ℕ → Option ℕ
kept_raw taken place word = if is_covered taken (4 * place) then None else Some word

pub get-raw_from : (taken : List (Option Taken)) (low : ℕ) (words : List ℕ) (i : ℕ)
    → slice_get (raw_from taken low words) i ≡ option_map (kept_raw taken (low + i)) (slice_get words i)
get-raw_from taken low [] i = refl
get-raw_from taken low (word ∷ words) zero =
    let here : low ≡ low + 0 = omega arith in ap (λ (n : ℕ). Some (kept_raw taken n word)) here
get-raw_from taken low (word ∷ words) (suc i) =
    let next : low + 1 + i ≡ low + suc i = omega arith in
    get-raw_from taken (low + 1) words i
    ∙ ap (λ (n : ℕ). option_map (kept_raw taken n) (slice_get words i)) next

pub get-raw : (taken : List (Option Taken)) (words : List ℕ) (i : ℕ)
    → slice_get (raw_from taken 0 words) i ≡ option_map (kept_raw taken i) (slice_get words i)
get-raw taken words i =
    let same : 0 + i ≡ i = omega arith in
    get-raw_from taken 0 words i ∙ ap (λ (n : ℕ). option_map (kept_raw taken n) (slice_get words i)) same

pub length-raw_from : (taken : List (Option Taken)) (low : ℕ) (words : List ℕ)
    → length (raw_from taken low words) ≡ length words
length-raw_from taken low [] = refl
length-raw_from taken low (word ∷ words) = ap suc (length-raw_from taken (low + 1) words)

-- a cell has the address
pub record IsCovering (cells : Cells) (address : ℕ) : Type 0 where
  pub base : ℕ
  pub cell : Taken
  pub begins : Begins cells base cell
  pub from : base ≤ address
  pub to : address < base + cell.extent

pub covered_by : (cells : Cells) (address : ℕ) → is_covered cells.taken address ≡ true → IsCovering cells address
covered_by cells address e =
    let one = any_begins _ cells.taken e in
    let parts = and_parts _ _ one.passes in
    record {
      base = one.base;
      cell = one.value;
      begins = record { grain = one.begins.grain; aligned = one.begins.aligned; is = one.begins.is };
      from = leb-true _ _ parts.0;
      to = ltb-true _ _ parts.1;
    }

pub is_covered_at : (cells : Cells) (address : ℕ) → IsCovering cells address → is_covered cells.taken address ≡ true
is_covered_at cells address h =
    begins_any _ cells.taken h.base h.cell
    (record { grain = h.begins.grain; aligned = h.begins.aligned; is = h.begins.is })
    (and_from _ _ (le-leb _ _ h.from) (lt-ltb _ _ h.to))

-- the same addresses are covered where the same extents begin at the same bases
pub covered-alike : (cells others : Cells) (address : ℕ)
    → (IsCovering cells address → IsCovering others address) → (IsCovering others address → IsCovering cells address)
    → is_covered others.taken address ≡ is_covered cells.taken address
covered-alike cells others address to back = elim (cases_Bool (is_covered cells.taken address)) [
  | inl e ↦ is_covered_at others address (to (covered_by cells address e)) ∙ sym e
  | inr e ↦
      false_from_ne_true (is_covered others.taken address) (λ h.
      let f : is_covered cells.taken address ≡ true = is_covered_at cells address (back (covered_by others address h))
      in
      absurd (cc))
      ∙ sym e
]

pub kept_raw-none : (taken : List (Option Taken)) (place word : ℕ) → is_covered taken (4 * place) ≡ true
    → kept_raw taken place word ≡ None
kept_raw-none taken place word e = ap (λ (b : Bool). if b then None else Some word) e

pub kept_raw-some : (taken : List (Option Taken)) (place word : ℕ) → is_covered taken (4 * place) ≡ false
    → kept_raw taken place word ≡ Some word
kept_raw-some taken place word e = ap (λ (b : Bool). if b then None else Some word) e

get-none : {X : Type 0} (xs : List X) (i : ℕ) → slice_get xs i ≡ None → length xs ≤ i
get-none [] i e = omega arith
get-none (x ∷ xs) zero e = absurd (cc)
get-none (x ∷ xs) (suc i) e = let rest = get-none xs i e in omega arith

-- the word of a place in memory, where no cell has it, and none where one has
pub raw_at-some : (taken : List (Option Taken)) (words : List ℕ) (i word : ℕ) → slice_get words i ≡ Some word
    → is_covered taken (4 * i) ≡ false → slice_get (raw_from taken 0 words) i ≡ Some (Some word)
raw_at-some taken words i word e h =
    get-raw taken words i ∙ ap (option_map (kept_raw taken i)) e ∙ ap Some (kept_raw-some taken i word h)

pub raw_at-none : (taken : List (Option Taken)) (words : List ℕ) (i word : ℕ) → slice_get words i ≡ Some word
    → is_covered taken (4 * i) ≡ true → slice_get (raw_from taken 0 words) i ≡ Some None
raw_at-none taken words i word e h =
    get-raw taken words i ∙ ap (option_map (kept_raw taken i)) e ∙ ap Some (kept_raw-none taken i word h)

-- what stands there tells whether a cell has the place
pub record IsBare (taken : List (Option Taken)) (words : List ℕ) (i word : ℕ) : Type 0 where
  pub free : is_covered taken (4 * i) ≡ false
  pub is : slice_get words i ≡ Some word

pub raw_at-bare : (taken : List (Option Taken)) (words : List ℕ) (i word : ℕ)
    → slice_get (raw_from taken 0 words) i ≡ Some (Some word) → IsBare taken words i word
raw_at-bare taken words i word e = split (slice_get words i) refl (is_covered taken (4 * i)) refl
  where
    split : (x : Option ℕ) → slice_get words i ≡ x → (b : Bool) → is_covered taken (4 * i) ≡ b
        → IsBare taken words i word
    split None f b g =
        let none = sym e ∙ get-raw taken words i ∙ ap (option_map (kept_raw taken i)) f in absurd (cc)
    split (Some a) f true g = let none = sym e ∙ raw_at-none taken words i a f g in absurd (cc)
    split (Some a) f false g =
        let some : ◌≡◌ {A = Option (Option ℕ)} (Some (Some word)) (Some (Some a)) =
        sym e ∙ raw_at-some taken words i a f g in
        let same : a ≡ word = cc in
        record { free = g; is = f ∙ ap Some same }

-- the words of memory are the same in all places but those of cells
pub raw-same : (cells others : Cells) (words news : List ℕ)
    → ((i : ℕ) → is_covered others.taken (4 * i) ≡ is_covered cells.taken (4 * i))
    → ((i : ℕ) → is_covered cells.taken (4 * i) ≡ false → slice_get news i ≡ slice_get words i)
    → length news ≡ length words
    → raw_from others.taken 0 news ≡ raw_from cells.taken 0 words
raw-same cells others words news covers same size = same_entries _ _ each
  where
    both : (i : ℕ) → is_covered cells.taken (4 * i) ≡ true → (x y : Option ℕ) → slice_get words i ≡ x
        → slice_get news i ≡ y
        → option_map (kept_raw others.taken i) y ≡ option_map (kept_raw cells.taken i) x
    both i t None None e f = refl
    both i t None (Some b) e f = absurd (omega (arith, slice_get_within news i b f, get-none words i e))
    both i t (Some a) None e f = absurd (omega (arith, slice_get_within words i a e, get-none news i f))
    both i t (Some a) (Some b) e f =
        ap Some (kept_raw-none others.taken i b (covers i ∙ t) ∙ sym (kept_raw-none cells.taken i a t))

    here : (i : ℕ) → (b : Bool) → is_covered cells.taken (4 * i) ≡ b
        → option_map (kept_raw others.taken i) (slice_get news i) ≡ option_map (kept_raw cells.taken i)
        (slice_get words i)
    here i true t = both i t (slice_get words i) (slice_get news i) refl refl
    here i false n =
        ap (option_map (kept_raw others.taken i)) (same i n)
        ∙ ap (λ (b : Bool). option_map (λ (word : ℕ). if b then None else Some word) (slice_get words i)) (covers i)

    each : (i : ℕ) → slice_get (raw_from others.taken 0 news) i ≡ slice_get (raw_from cells.taken 0 words) i
    each i =
        get-raw others.taken news i ∙ here i (is_covered cells.taken (4 * i)) refl ∙ sym (get-raw cells.taken words i)
