-- Blocks, their runs of pages, and the words in them.
use Rattle.std.proofs.Common.{◌≡◌, ◌≢◌, ℕ, ◌+◌, ◌*◌, ◌/◌, ◌<◌, ◌≤◌, inl, inr, List, length, Option, Some, None, refl}
use Rattle.std.proofs.Common.{set, sym, ap, ◌∙◌, subst, arith}
use Rattle.std.specs.Prelude.{slice_get, slice_index, slice_set}
use Rattle.std.proofs.lemmas.Bool.{cases_eq, cases_lt}
use Rattle.std.proofs.lemmas.List.{get_or-set_same, get_or-set_other, get_or_past, length-set}
use Rattle.std.specs.Option.{option_map}
use Rattle.std.proofs.lemmas.Option.{slice_get-map}
use Rattle.mm_model.specs.Views.ByBase.{Begins, with_entry}
use Rattle.mm_model.proofs.Lists.Replaced.{get-set_same, get-set_other}
use Rattle.mm_pages.specs.Pages.{Pages, IsSoundHeap}
use Rattle.mm_pages.specs.Parked.{AreParked, HaveNoCommonRun}
use Rattle.mm_cells.specs.Cells.{Cells}
use Rattle.mm_cells.specs.Placing.{LeavesPage, Page_stays, Page_goes}
use Rattle.mm_object.specs.Object.{StoredObject}
use Rattle.mm_object.specs.Heap as heaps
use Rattle.mm_object.specs.Heap.{Heap, FitsHeap, Covers, FallsInNone, cell_of, cells_in}
use Rattle.mm_fixed.specs.Fixed.{Fixed, Block, IsSoundFixed}
use Rattle.mm_roots.specs.Areas.{Areas, IsBeside, ShareNoPage}

-- what begins at a base once the entry there is another
pub begins-same : {X : Type 0} (entries : List (Option X)) (base : ℕ) (x y : X) → Begins entries base x →
    Begins (with_entry base (Some y) entries) base y
begins-same entries base x y begins =
    let grain : base / 16 ≡ begins.grain = omega (arith, begins.aligned) in
    record {
      grain = begins.grain;
      aligned = begins.aligned;
      is = ap (λ g. slice_get (slice_set entries g (Some y)) begins.grain) grain
          ∙ get-set_same entries begins.grain (Some x) (Some y) begins.is;
    }

module _ {X : Type 0} (entries : List (Option X)) (base other : ℕ) (entry : Option X) (x : X)
    (aligned : base ≡ 16 * (base / 16)) (apart : other ≢ base) where
  pub begins-other : Begins entries other x → Begins (with_entry base entry entries) other x
  begins-other begins = record {
    grain = begins.grain;
    aligned = begins.aligned;
    is = get-set_other entries (base / 16) begins.grain entry (λ e. apart (omega (arith, aligned, begins.aligned, e)))
        ∙ begins.is;
  }

  pub other-begins : Begins (with_entry base entry entries) other x → Begins entries other x
  other-begins begins = record {
    grain = begins.grain;
    aligned = begins.aligned;
    is = sym (get-set_other entries (base / 16) begins.grain entry
        (λ e. apart (omega (arith, aligned, begins.aligned, e)))) ∙ begins.is;
  }

-- one thing begins at a base, and none where the entry was taken out
pub begins-one : {X : Type 0} (entries : List (Option X)) (base : ℕ) (x y : X) → Begins entries base x →
    Begins entries base y → x ≡ y
begins-one entries base x y one other =
    let same : one.grain ≡ other.grain = omega (arith, one.aligned, other.aligned) in
    let both = sym one.is ∙ ap (slice_get entries) same ∙ other.is in
    cc

pub begins-none : {X : Type 0} (entries : List (Option X)) (base : ℕ) (x y : X) → Begins entries base x →
    Begins (with_entry base None entries) base y → ⊥
begins-none entries base x y there begins =
    let same : base / 16 ≡ there.grain = omega (arith, there.aligned) in
    let grain : begins.grain ≡ there.grain = omega (arith, there.aligned, begins.aligned) in
    let none = ap (λ g. slice_get (slice_set entries g None) there.grain) same
    ∙ get-set_same entries there.grain (Some x) None there.is in
    let some = sym (ap (slice_get (with_entry base None entries)) grain) ∙ begins.is in
    absurd (cc)

-- a run begins at the page of a block
pub run-some : (v : Fixed) (base : ℕ) (block : Block) → IsSoundFixed v → Begins v.blocks base block →
    0 < block.extent → 0 < slice_index v.runs (base / 4096)
run-some v base block sound begins some = omega (arith, sound.in_run base block begins)

-- a parked run ends by the limit
pub parked-within : (heap : Pages) (runs : List ℕ) (page : ℕ) → IsSoundHeap heap → AreParked runs heap →
    0 < slice_index runs page → page + slice_index runs page ≤ heap.limit
parked-within heap runs page sound parked some =
    let is = parked.parked page some in
    omega (arith, sound.within page (omega arith))

-- two families whose runs are parked in one page heap share no page, if they have no run in common
pub ShareNoPage-parked : (heap : Pages) (runs others : List ℕ) → IsSoundHeap heap → AreParked runs heap →
    AreParked others heap → HaveNoCommonRun runs others → ShareNoPage runs others
ShareNoPage-parked heap runs others sound parked other_parked clear page other some other_some =
    let is = parked.parked page some in
    let other_is = other_parked.parked other other_some in
    elim (cases_lt page other) [
      | inl before ↦ inl (omega (arith, sound.apart page other before (omega arith) (omega arith)))
      | inr later ↦ elim (cases_eq page other) [
        | inl same ↦
            let none : slice_index others other ≡ 0 = ap (slice_index others) (sym same) ∙ clear page some in
            absurd (omega arith)
        | inr apart ↦
            inr (omega (arith, sound.apart other page (omega (arith, later, apart)) (omega arith) (omega arith)))
      ]
    ]

pub HaveNoCommonRun-beside : (runs others : List ℕ) → ShareNoPage runs others → HaveNoCommonRun runs others
HaveNoCommonRun-beside runs others apart page some = elim (cases_lt 0 (slice_index others page)) [
  | inl other ↦ elim (apart page page some other) [
    | inl before ↦ absurd (omega arith)
    | inr later ↦ absurd (omega arith)
  ]
  | inr none ↦ omega arith
]

-- A page is left: the runs are as they were, or one of them is gone.
pub leaves-limit : (before after : Cells) (heap now : Pages) (page : ℕ) → LeavesPage before after heap page now →
    now.limit ≡ heap.limit
leaves-limit before after heap now page (Page_stays base cell begins inside same) = refl
leaves-limit before after heap now page (Page_goes none same) = refl

pub leaves-from : (before other after : Cells) (heap now : Pages) (page : ℕ) → other.runs ≡ before.runs →
    LeavesPage other after heap page now → LeavesPage before after heap page now
leaves-from before other after heap now page is (Page_stays base cell begins inside same) =
    Page_stays base cell begins inside (same ∙ is)
leaves-from before other after heap now page is (Page_goes none same) =
    Page_goes none (same ∙ ap (λ (runs : List ℕ). set runs page 0) is)

-- an entry that is 0 is that of the list without it, or another one
unset : (runs : List ℕ) (page at : ℕ) → 0 < slice_index (slice_set runs page 0) at →
    slice_index (slice_set runs page 0) at ≡ slice_index runs at
unset runs page at some = elim (cases_eq at page) [
  | inl same ↦ elim (cases_lt page (length runs)) [
    | inl within ↦
        let zero : slice_index (slice_set runs page 0) at ≡ 0 =
        ap (slice_index (slice_set runs page 0)) same ∙ get_or-set_same runs page 0 0 within in
        absurd (omega arith)
    | inr past ↦
        let zero : slice_index (slice_set runs page 0) at ≡ 0 =
        get_or_past (slice_set runs page 0) at 0 (omega (arith, length-set runs page 0)) in
        absurd (omega arith)
  ]
  | inr apart ↦ get_or-set_other runs page at 0 0 apart
]

pub leaves-run : (before after : Cells) (heap now : Pages) (page : ℕ) → LeavesPage before after heap page now →
    (at : ℕ) → 0 < slice_index after.runs at → slice_index after.runs at ≡ slice_index before.runs at
leaves-run before after heap now page (Page_stays base cell begins inside same) at some =
    ap (λ (runs : List ℕ). slice_index runs at) same
leaves-run before after heap now page (Page_goes none same) at some =
    let is = ap (λ (runs : List ℕ). slice_index runs at) same in
    is ∙ unset before.runs page at (omega (arith, some, is))

pub beside-left : (a b : Areas) (heap : Heap) →
    ((at : ℕ) → 0 < slice_index b.fixed.runs at → slice_index b.fixed.runs at ≡ slice_index a.fixed.runs at) →
    IsBeside a heap → IsBeside b heap
beside-left a b heap kept beside = record {
  apart = λ page other some other_some.
      let is = kept page some in
      elim (beside.apart page other (omega arith) other_some) [
        | inl before ↦ inl (omega arith)
        | inr later ↦ inr later
      ];
  within = λ page some. let is = kept page some in omega (arith, beside.within page (omega arith));
}

-- a heap with other words outside objects
pub beside-raw : (a : Areas) (heap other : Heap) → other ≡ record heap { raw = other.raw } → IsBeside a heap →
    IsBeside a other
beside-raw a heap other same beside =
    subst (IsBeside a) (sym same) (record { apart = beside.apart; within = beside.within })

pub FitsHeap-raw : (heap other : Heap) (pages : Pages) → other ≡ record heap { raw = other.raw } →
    FitsHeap heap pages → FitsHeap other pages
FitsHeap-raw heap other pages same fits =
    subst (λ (h : Heap). FitsHeap h pages) (sym same) (record { parked = fits.parked; memory = fits.memory })

-- A cell of a heap lies in its run.
object-in_run : (heap : Heap) (base : ℕ) (object : StoredObject) → heaps.IsSound heap →
    Begins heap.objects base object → base + object.extent ≤ 4096 * (base / 4096 + slice_index heap.runs (base / 4096))
object-in_run heap base object sound begins =
    sound.cells.in_run base (cell_of object) (record {
      grain = begins.grain;
      aligned = begins.aligned;
      is = slice_get-map (option_map cell_of) heap.objects begins.grain
          ∙ ap (option_map (option_map cell_of)) begins.is;
    })

-- each word in a block lies in no object
pub raw-block : (a : Areas) (heap : Heap) → IsSoundFixed a.fixed → heaps.IsSound heap → IsBeside a heap →
    (base : ℕ) (block : Block) → Begins a.fixed.blocks base block → (place : ℕ) → base ≤ 4 * place →
    4 * place < base + block.extent → (word : ℕ) × (slice_get heap.raw place ≡ Some (Some word))
raw-block a heap sound heap_sound beside base block begins place from to =
    let run = sound.in_run base block begins in
    let some : 0 < slice_index a.fixed.runs (base / 4096) = omega arith in
    let within = beside.within (base / 4096) some in
    heap_sound.outside place (omega arith) (λ at object covers.
    let other = object-in_run heap at object heap_sound covers.begins in
    let other_from = covers.from in
    let other_to = covers.to in
    let other_some : 0 < slice_index heap.runs (at / 4096) = omega arith in
    elim (beside.apart (base / 4096) (at / 4096) some other_some) [
      | inl before ↦ absurd (omega arith)
      | inr later ↦ absurd (omega arith)
    ])

pub FitsHeap-left : (before after : Cells) (heap now : Pages) (page : ℕ) (h : Heap) →
    LeavesPage before after heap page now → AreParked h.runs now → FitsHeap h heap → FitsHeap h now
FitsHeap-left before after heap now page h leaves parked fits = record {
  parked = parked;
  memory = omega (arith, leaves-limit before after heap now page leaves, fits.memory);
}
