-- What taking an object away makes of a heap whose runs are parked in a page heap.
use Rattle.std.proofs.Common.{◌≡◌, ◌≢◌, ℕ, zero, suc, ◌+◌, ◌*◌, ◌/◌, ◌<◌, Bool, List, []}
use Rattle.std.proofs.Common.{◌∷◌, Option, Some, None, inl, inr, refl, sym, ap, subst, ◌∙◌, arith}
use Rattle.std.specs.Prelude.{slice_get, slice_index, slice_set, IfSome, if◌then◌else◌}
use Rattle.std.specs.Option.{option_map}
use Rattle.std.proofs.lemmas.Bool.{cases_eq, eq-eqb, cases_lt}
use Rattle.std.proofs.lemmas.List.{get_or-set_other}
use Rattle.std.proofs.lemmas.Option.{slice_get-map}
use Rattle.mm_model.specs.Views.ByBase.{Begins, with_entry}
use Rattle.mm_model.specs.Views.ObjectView.{ObjectView, ObjectsByBase}
use Rattle.mm_model.specs.Views.GoodView.{ArePaired, IsPairedAt}
use Rattle.mm_model.proofs.Lists.Replaced.{get-set_same, get-set_other, map-set}
use Rattle.mm_model.proofs.View.ByBase.Entries.{begins_same}
use Rattle.mm_model.proofs.View.ByBase.MappedEntries.{begins_mapped}
use Rattle.mm_pages.specs.Pages.{Pages, with_parked, IsSoundHeap}
use Rattle.mm_pages.specs.Parked.{AreParked, HaveNoCommonRun, AreAllParked}
use Rattle.mm_cells.specs.Cells as cells
use Rattle.mm_cells.specs.Cells.{Cells}
use Rattle.mm_cells.specs.Placing.{LeavesPage, Page_stays, Page_goes}
use Rattle.mm_object.specs.Object.{StoredObject, StoredObjects, view_of_stored, views_of}
use Rattle.mm_object.specs.Heap.{Heap, IsSound, LeavesWords, Covers, cell_of, cells_in}
use Rattle.mm_weak.specs.Links.{IsLinked}
use Rattle.mm_sweep.specs.Release.{KeepsRaw, Frees}
use Rattle.mm_sweep.proofs.Parted.{IsUnlinked}
use Rattle.mm_sweep.proofs.Cuts.{grain_of}

-- what is written as 0 reads as 0, in the list and beyond its end
index-set_zero : (xs : List ℕ) (i : ℕ) → slice_index (slice_set xs i 0) i ≡ 0
index-set_zero [] i = refl
index-set_zero (x ∷ xs) zero = refl
index-set_zero (x ∷ xs) (suc i) = index-set_zero xs i

index-set_other : (xs : List ℕ) (i j x : ℕ) → j ≢ i → slice_index (slice_set xs i x) j ≡ slice_index xs j
index-set_other xs i j x other = get_or-set_other xs i j x 0 other

-- the run of a page goes, or it stays
pub record KeepsRuns (runs runs_after : List ℕ) (heap after : Pages) : Type 0 where
  pub rest : after ≡ record heap { parked = after.parked }
  pub apart : (others : List ℕ) → HaveNoCommonRun runs others → HaveNoCommonRun runs_after others

runs-stay : (runs runs_after : List ℕ) (heap : Pages) → runs_after ≡ runs → KeepsRuns runs runs_after heap heap
runs-stay runs runs_after heap same =
    record {
      rest = refl;
      apart = λ others apart. subst (λ (rs : List ℕ). HaveNoCommonRun rs others) (sym same) apart;
    }

runs-go : (runs runs_after : List ℕ) (heap : Pages) (page : ℕ) → runs_after ≡ slice_set runs page 0
    → KeepsRuns runs runs_after heap (with_parked heap page 0)
runs-go runs runs_after heap page same =
    record {
      rest = refl;
      apart = λ others apart. subst (λ (rs : List ℕ). HaveNoCommonRun rs others) (sym same)
          (λ q more. clear others apart q more);
    }
  where
    clear : (others : List ℕ) → HaveNoCommonRun runs others → (q : ℕ) → 0 < slice_index (slice_set runs page 0) q
        → slice_index others q ≡ 0
    clear others apart q more =
        elim (cases_eq q page) [
          | inl e ↦
              let none = ap (slice_index (slice_set runs page 0)) e ∙ index-set_zero runs page in absurd (omega arith)
          | inr other ↦ let was = index-set_other runs page q 0 other in apart q (omega arith)
        ]

runs-left : (before after : Cells) (heap heap_after : Pages) (page : ℕ) → LeavesPage before after heap page heap_after
    → KeepsRuns before.runs after.runs heap heap_after
runs-left before after heap heap_after page (Page_stays base cell begins inside same) =
    runs-stay before.runs after.runs heap same
runs-left before after heap heap_after page (Page_goes none same) = runs-go before.runs after.runs heap page same

-- an object lies in a run
pub run-object : (h : Heap) (base : ℕ) (object : StoredObject) → IsSound h → Begins h.objects base object
    → 0 < slice_index h.runs (base / 4096)
run-object h base object sound begins =
    let cell = begins_cell in
    let within = sound.cells.in_run base (cell_of object) cell in
    let room = sound.room base object begins in
    omega arith
  where
    begins_cell : cells.Begins (cells_in h) base (cell_of object)
    begins_cell =
        record {
          grain = begins.grain;
          aligned = begins.aligned;
          is = slice_get-map (option_map cell_of) h.objects begins.grain
              ∙ ap (option_map (option_map cell_of)) begins.is;
        }

-- the words of an object's extent were told as the object's
raw-left : (h : Heap) (after : List (Option ℕ)) (base : ℕ) (object : StoredObject) → IsSound h
    → Begins h.objects base object → LeavesWords h.raw after base object.extent → KeepsRaw h.raw after
raw-left h after base object sound begins leaves place word is =
    elim (cases_lt (4 * place) base) [
      | inl below ↦ leaves.below place below ∙ is
      | inr from ↦ elim (cases_lt (4 * place) (base + object.extent)) [
        | inl to ↦
            let covers : Covers h (4 * place) base object = record { begins = begins; from = from; to = to } in
            let none = sound.covered place base object covers in
            absurd (clash (sym none ∙ is))
        | inr above ↦ leaves.above place above ∙ is
      ]
    ]
  where
    clash : ◌≡◌ {A = Option (Option ℕ)} (Some None) (Some (Some word)) → ⊥
    clash e = cc

-- what begins in a list without one entry
module _ {X : Type 0} (entries : List (Option X)) (base : ℕ) (x : X) (begins : Begins entries base x) where
  pub record IsLeft (at : ℕ) (y : X) : Type 0 where
    pub was : Begins entries at y
    pub apart : at ≡ base → ⊥

  pub left-begins : (at : ℕ) (y : X) → Begins (with_entry base None entries) at y → IsLeft at y
  left-begins at y h =
      let aligned = begins.aligned in
      let there = h.aligned in
      let whole = grain_of base begins.grain begins.aligned in
      let is : slice_get (slice_set entries begins.grain None) h.grain ≡ Some (Some y) =
      ap (λ (n : ℕ). slice_get (slice_set entries n None) h.grain) (sym whole) ∙ h.is in
      elim (cases_eq h.grain begins.grain) [
        | inl same ↦
            let none = get-set_same entries begins.grain (Some x) None begins.is in
            absurd (clash (sym none ∙ ap (slice_get (slice_set entries begins.grain None)) (sym same) ∙ is))
        | inr other ↦
            record {
              was =
                  record {
                    grain = h.grain;
                    aligned = h.aligned;
                    is = sym (get-set_other entries begins.grain h.grain None other) ∙ is;
                  };
              apart = λ same. other (omega arith);
            }
      ]
    where
      clash : ◌≡◌ {A = Option (Option X)} (Some None) (Some (Some y)) → ⊥
      clash e = cc

  pub begins-left : (at : ℕ) (y : X) → Begins entries at y → (at ≡ base → ⊥)
      → Begins (with_entry base None entries) at y
  begins-left at y h apart =
      let aligned = begins.aligned in
      let there = h.aligned in
      record {
        grain = h.grain;
        aligned = h.aligned;
        is =
            ap (λ (n : ℕ). slice_get (slice_set entries n None) h.grain) (grain_of base begins.grain begins.aligned)
            ∙ get-set_other entries begins.grain h.grain None (λ same. apart (omega arith)) ∙ h.is;
      }

-- partners stay partners where an object without one goes
paired-left : (views : ObjectsByBase) (base : ℕ) (x : ObjectView) → Begins views base x → x.partner ≡ None
    → ArePaired views → ArePaired (with_entry base None views)
paired-left views base x begins alone paired at o h = split o.partner refl
  where
    left : IsLeft views base x begins at o
    left = left-begins views base x begins at o h

    split : (partner : Option ℕ) → o.partner ≡ partner → IfSome partner (IsPairedAt (with_entry base None views) at o)
    split None e = tt
    split (Some other) e =
        let p : IsPairedAt views at o other =
        subst (λ (partner : Option ℕ). IfSome partner (IsPairedAt views at o)) e (paired at o left.was) in
        record {
          partner = p.partner;
          begins = begins-left views base x begins other p.partner p.begins (λ same. named p same);
          back = p.back;
          one_weak = p.one_weak;
        }
      where
        named : IsPairedAt views at o other → other ≡ base → ⊥
        named p same =
            let one = begins_same views base p.partner x
            (subst (λ (n : ℕ). Begins views n p.partner) same p.begins) begins in
            clash (sym alone ∙ ap (λ (v : ObjectView). v.partner) (sym one) ∙ p.back)
          where
            clash : ◌≡◌ {A = Option ℕ} None (Some at) → ⊥
            clash e = cc

pub linked-left : (h after : Heap) (base : ℕ) (object : StoredObject) → Begins h.objects base object → object.link ≡ 0
    → IsLinked h → after.objects ≡ with_entry base None h.objects → IsLinked after
linked-left h after base object begins alone linked e =
    record {
      paired =
          subst ArePaired (sym (ap views_of e ∙ map-set (option_map view_of_stored) h.objects (base / 16) None))
          (paired-left (views_of h.objects) base (view_of_stored object)
          (begins_mapped view_of_stored h.objects base object begins) (no_partner object alone) linked.paired);
      flagged = λ at o there.
          linked.flagged at o
          (left-begins h.objects base object begins at o (subst (λ (os : StoredObjects). Begins os at o) e there)).was;
    }
  where
    no_partner : (o : StoredObject) → o.link ≡ 0 → (view_of_stored o).partner ≡ None
    no_partner o none = ap (λ (b : Bool). if b then None else Some o.link) (eq-eqb o.link 0 none)

module _ (h m f : Heap) (base : ℕ) (heap heap_after : Pages) (unlinked : IsUnlinked h m base) (sound : IsSound m)
    (page : LeavesPage (cells_in m) (cells_in f) heap (base / 4096) heap_after) where
  runs_same : m.runs ≡ h.runs
  runs_same = ap (λ (x : Heap). x.runs) unlinked.rest

  some_run : 0 < slice_index m.runs (base / 4096)
  some_run = run-object m base unlinked.object sound unlinked.begins

  runs_kept : KeepsRuns m.runs f.runs heap heap_after
  runs_kept = runs-left (cells_in m) (cells_in f) heap heap_after (base / 4096) page

  pub erased-frees : f ≡ record m { objects = with_entry base None m.objects; runs = f.runs; raw = f.raw }
      → ((object : StoredObject) → Begins m.objects base object → LeavesWords m.raw f.raw base object.extent)
      → ((runs : List ℕ) → slice_index runs (base / 4096) ≡ 0 → AreParked runs heap → AreParked runs heap_after)
      → ((others : List ℕ) → AreAllParked m.runs others heap → AreAllParked f.runs others heap_after)
      → IsSoundHeap heap_after
      → Frees (base ∷ []) h f heap heap_after
  erased-frees erased leaves others all_parked pages_sound =
      record {
        objects = ap (λ (x : Heap). x.objects) erased ∙ unlinked.objects;
        rest =
            erased
            ∙ ap (λ (x : Heap). record x { objects = with_entry base None m.objects; runs = f.runs; raw = f.raw })
            unlinked.rest
            ∙ ap (λ (os : StoredObjects). record h { objects = os; runs = f.runs; raw = f.raw })
            (sym (ap (λ (x : Heap). x.objects) erased));
        raw =
            subst (λ (words : List (Option ℕ)). KeepsRaw words f.raw) (ap (λ (x : Heap). x.raw) unlinked.rest)
            (raw-left m f.raw base unlinked.object sound unlinked.begins (leaves unlinked.object unlinked.begins));
        pages_rest = runs_kept.rest;
        apart = λ runs apart.
            runs_kept.apart runs (subst (λ (rs : List ℕ). HaveNoCommonRun rs runs) (sym runs_same) apart);
        others = λ runs apart are.
            others runs (apart (base / 4096) (subst (λ (rs : List ℕ). 0 < slice_index rs
            (base / 4096)) runs_same some_run)) are;
        all_parked = λ runs all.
            all_parked runs (subst (λ (rs : List ℕ). AreAllParked rs runs heap) (sym runs_same) all);
        pages_sound = λ _. pages_sound;
      }
