-- What parking a run and freeing it leave of a page heap, and of the runs of each family.
use Rattle.std.proofs.Common.{◌≡◌, ℕ, ◌+◌, ◌<◌, ◌≤◌, List, length, slice_index, slice_set, arith, sym, ◌∙◌, ap}
use Rattle.std.proofs.Common.{inl, inr}
use Rattle.std.proofs.lemmas.Bool.{cases_eq, cases_lt}
use Rattle.std.proofs.lemmas.List.{ext_get_or, length-set, get_or-set_same, get_or-set_other, get_or_past}
use Rattle.mm_pages.specs.Pages.{Pages, Covers, with_out, with_parked, IsFreeRun, IsFreePage, IsSoundHeap}
use Rattle.mm_pages.specs.Parked.{AreParked}
use Rattle.mm_pages.proofs.Kept.{IsFreeRun-within}

-- a number written where it stood before another was written there
set-back : (xs : List ℕ) (i x : ℕ) → slice_index xs i ≡ 0 → slice_set (slice_set xs i x) i 0 ≡ xs
set-back xs i x zero =
    let once : length (slice_set xs i x) ≡ length xs = length-set xs i x in
    let twice : length (slice_set (slice_set xs i x) i 0) ≡ length (slice_set xs i x) =
    length-set (slice_set xs i x) i 0 in
    ext_get_or 0 (slice_set (slice_set xs i x) i 0) xs (omega arith) (λ j within. elim (cases_eq j i) [
      | inl e ↦ ap (λ (k : ℕ). slice_index (slice_set (slice_set xs i x) i 0) k) e
          ∙ get_or-set_same (slice_set xs i x) i 0 0 (omega arith) ∙ sym zero ∙ ap (λ (k : ℕ). slice_index xs k) (sym e)
      | inr ne ↦ get_or-set_other (slice_set xs i x) i j 0 0 ne ∙ get_or-set_other xs i j x 0 ne
    ])

-- no run begins at a free page
pub out-free : (v : Pages) (page : ℕ) → IsFreePage v page → slice_index v.out page ≡ 0
out-free v page free = elim (cases_eq (slice_index v.out page) 0) [
  | inl e ↦ e
  | inr ne ↦ absurd (free.not_out (record { first = page; begins = omega arith; reaches = omega arith }))
]

pub parked-free : (v : Pages) (page : ℕ) → IsFreePage v page → slice_index v.parked page ≡ 0
parked-free v page free = elim (cases_eq (slice_index v.parked page) 0) [
  | inl e ↦ e
  | inr ne ↦ absurd (free.not_parked (record { first = page; begins = omega arith; reaches = omega arith }))
]

-- none is out where one is parked
pub out-parked : (v : Pages) (page : ℕ) → IsSoundHeap v → 0 < slice_index v.parked page → slice_index v.out page ≡ 0
out-parked v page sound some = elim (cases_eq (slice_index v.out page) 0) [
  | inl e ↦ e
  | inr ne ↦ absurd (omega (arith, sound.one_kind page (omega arith)))
]

-- a run was taken out of the free pages and parked
pub parked-taken : (v : Pages) (page count : ℕ) → 0 < count → IsFreeRun v page count →
    with_parked (with_out (with_out v page count) page 0) page count ≡ with_parked v page count
parked-taken v page count some free =
    ap (λ (out : List ℕ). with_parked (record v { out = out }) page count)
    (set-back v.out page count (out-free v page (free page (omega arith) (omega arith))))

-- a run was no longer parked and given back
pub given-unparked : (v : Pages) (page count : ℕ) → slice_index v.out page ≡ 0 →
    with_out (with_out (with_parked v page 0) page count) page 0 ≡ with_parked v page 0
given-unparked v page count none =
    ap (λ (out : List ℕ). record (with_parked v page 0) { out = out }) (set-back v.out page count none)

-- how long the lists of a page heap are
pub record IsSized (v : Pages) : Type 0 where
  pub limit : v.limit ≤ v.pages
  pub parked : length v.parked ≡ v.pages

pub IsSized-taken : (v : Pages) (page count : ℕ) → IsSoundHeap (with_out v page count) → IsSized v
IsSized-taken v page count sound = record { limit = sound.limit; parked = sound.parked_size }

pub IsSized-unparked : (v : Pages) (page count : ℕ) → IsSoundHeap (with_out (with_parked v page 0) page count) →
    IsSized v
IsSized-unparked v page count sound =
    record { limit = sound.limit; parked = sym (length-set v.parked page 0) ∙ sound.parked_size }

-- a run of free pages ends with the page heap
pub free-within : (v : Pages) (first count : ℕ) → IsSized v → 0 < count → IsFreeRun v first count →
    first + count ≤ v.pages
free-within v first count sized some free =
    omega (arith, IsFreeRun-within v first count some free, sized.limit)

-- no run of a family lies in a free page
pub AreParked-vacant : (v : Pages) (runs : List ℕ) (page : ℕ) → AreParked runs v → IsFreePage v page →
    Covers runs page → ⊥
AreParked-vacant v runs page parked free covers =
    let same : slice_index v.parked covers.first ≡ slice_index runs covers.first =
    parked.parked covers.first (omega (arith, covers.begins, covers.reaches)) in
    free.not_parked (record {
      first = covers.first;
      begins = covers.begins;
      reaches = omega (arith, covers.reaches, same);
    })

-- a run is taken and parked: it is one of the family's
pub AreParked-taken : (v : Pages) (runs : List ℕ) (first count : ℕ) → IsSized v → 0 < count →
    IsFreeRun v first count → AreParked runs v → AreParked (slice_set runs first count) (with_parked v first count)
AreParked-taken v runs first count sized some free parked =
    let within : first + count ≤ v.pages = free-within v first count sized some free in
    let wide = parked.pages in
    record {
      pages = omega (arith, length-set runs first count);
      parked = λ page there. elim (cases_eq page first) [
        | inl e ↦
            ap (λ (p : ℕ). slice_index (slice_set v.parked first count) p) e
            ∙ get_or-set_same v.parked first count 0 (omega (arith, sized.parked))
            ∙ sym (get_or-set_same runs first count 0 (omega arith))
            ∙ ap (λ (p : ℕ). slice_index (slice_set runs first count) p) (sym e)
        | inr ne ↦
            let same : slice_index (slice_set runs first count) page ≡ slice_index runs page =
            get_or-set_other runs first page count 0 ne in
            get_or-set_other v.parked first page count 0 ne ∙ parked.parked page (omega arith) ∙ sym same
      ];
    }

-- the runs of another family stay
pub AreParked-others : (v : Pages) (runs : List ℕ) (first count : ℕ) → slice_index runs first ≡ 0 → AreParked runs v →
    AreParked runs (with_parked v first count)
AreParked-others v runs first count none parked = record {
  pages = parked.pages;
  parked = λ page there. elim (cases_eq page first) [
    | inl e ↦ absurd (omega (arith, ap (slice_index runs) e))
    | inr ne ↦ get_or-set_other v.parked first page count 0 ne ∙ parked.parked page there
  ];
}

-- no run of a family begins at a free page
pub AreParked-none : (v : Pages) (runs : List ℕ) (page : ℕ) → AreParked runs v → IsFreePage v page →
    slice_index runs page ≡ 0
AreParked-none v runs page parked free = elim (cases_eq (slice_index runs page) 0) [
  | inl e ↦ e
  | inr ne ↦ absurd (AreParked-vacant v runs page parked free
      (record { first = page; begins = omega arith; reaches = omega arith }))
]

-- a run is freed: the family has it no longer
pub AreParked-freed : (v : Pages) (runs : List ℕ) (first : ℕ) → IsSized v → 0 < slice_index v.parked first →
    AreParked runs v → AreParked (slice_set runs first 0) (with_parked v first 0)
AreParked-freed v runs first sized some parked =
    let wide = parked.pages in
    let within : first < length v.parked = elim (cases_lt first (length v.parked)) [
      | inl h ↦ h
      | inr h ↦ absurd (omega (arith, get_or_past v.parked first 0 h))
    ] in
    record {
      pages = omega (arith, length-set runs first 0);
      parked = λ page there. elim (cases_eq page first) [
        | inl e ↦
            let none : slice_index (slice_set runs first 0) page ≡ 0 =
            ap (slice_index (slice_set runs first 0)) e
            ∙ get_or-set_same runs first 0 0 (omega (arith, sized.parked)) in
            absurd (omega arith)
        | inr ne ↦
            let same : slice_index (slice_set runs first 0) page ≡ slice_index runs page =
            get_or-set_other runs first page 0 0 ne in
            get_or-set_other v.parked first page 0 0 ne ∙ parked.parked page (omega arith) ∙ sym same
      ];
    }
