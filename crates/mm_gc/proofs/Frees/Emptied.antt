-- A region that is emptied, and what is parked in its page heap then.
use Rattle.std.proofs.Common.{◌≡◌, ℕ, zero, suc, ◌/◌, ◌<◌, inl, inr, List, Option, Some, None}
use Rattle.std.proofs.Common.{refl, sym, ap, ◌∙◌, subst, arith}
use Rattle.std.proofs.lemmas.Bool.{cases_eq, cases_lt}
use Rattle.std.proofs.lemmas.List.{get_or_past}
use Rattle.std.specs.Prelude.{Result, Ok, Err, IfOk, OnErr, slice_index}
use Rattle.mm_model.specs.Views.ByBase as entries
use Rattle.mm_model.specs.Views.ByBase.{with_entry}
use Rattle.mm_pages.specs.Pages.{Pages, HasNoRun}
use Rattle.mm_pages.specs.Parked.{AreParked, AreAllParked}
use Rattle.mm_cells.specs.Cells.{Cells, IsNextTaken, NoneTakenFrom, HasNoCell}
use Rattle.mm_object.specs.Object.{StoredObject, StoredObjects}
use Rattle.mm_object.specs.Heap.{Heap, IsSound, FitsHeap, cell_of, cells_in}
use Rattle.mm_sweep.proofs.Erased.{IsLeft, left-begins}
use Rattle.mm_fixed.specs.Fixed.{Fixed, HasNoBlock, IsSoundFixed, with_block}
use Rattle.mm_roots.specs.declared.area_shape.AreaShape.{AreaShape}
use Rattle.mm_roots.specs.declared.area_shape.AreaRefusal.{AreaRefusal}
use Rattle.mm_roots.specs.Areas.{Areas, HasNoArea, OwnsAll, IsSoundAreas, RemoveCause, area_at, over, with_area}
use Rattle.mm_gc.specs.Emptied.{HasNoneBelow, HasPassed, AreParkedBeside, IsUnparked, AreInPlace}
use Rattle.mm_gc.proofs.Placing.Pieces.{object-cell, cell-object}
use Rattle.mm_gc.proofs.Placing.Empty.{no_run}

pub unparked-again : (before now after : Pages) → IsUnparked before now → IsUnparked now after
    → IsUnparked before after
unparked-again before now after first second =
    second ∙ ap (λ (v : Pages). record v { parked = after.parked }) first

-- a cell from an address on is past all that lies below
pub none-below : (heap : Heap) (from : ℕ) → HasNoneBelow heap.objects from → NoneTakenFrom (cells_in heap) from
    → HasNoCell (cells_in heap)
none-below heap from below none = λ base cell begins.
    let object = cell-object heap base cell begins in
    absurd (omega (arith, none base cell begins, below base object.thing object.begins))

-- the lowest object that begins at an address or above it
pub record IsNextObject (heap : Heap) (from base : ℕ) : Type 0 where
  pub object : StoredObject
  pub begins : entries.Begins heap.objects base object
  pub next : IsNextTaken (cells_in heap) from base

pub next-object : (heap : Heap) (cells : Cells) (from base : ℕ) → cells ≡ cells_in heap → IsNextTaken cells from base
    → IsNextObject heap from base
next-object heap cells from base same found =
    let next = subst (λ (v : Cells). IsNextTaken v from base) same found in
    let object = cell-object heap base next.cell next.begins in
    record { object = object.thing; begins = object.begins; next = next }

-- It is erased.
module _ (before after : Heap) (from base : ℕ) (found : IsNextObject before from base) (sound : IsSound before) where
  pub passed : HasNoneBelow before.objects from
      → after ≡ record before {
        objects = with_entry base None before.objects;
        runs = after.runs;
        raw = after.raw;
      } → HasPassed from base after
  passed below gone =
      let inside = sound.inside base found.object found.begins in
      let pages = ap (λ (h : Heap). h.pages) gone in
      record {
        reached = found.next.reached;
        within = omega (
          arith,
          inside.to,
          sound.room base found.object found.begins,
          sound.size,
          pages,
        );
        none = λ at other there.
            let left : IsLeft before.objects base found.object found.begins at other =
            left-begins before.objects base found.object found.begins at other
            (subst (λ (os : StoredObjects). entries.Begins os at other) (ap (λ (h : Heap). h.objects) gone) there) in
            let low = found.next.least at (cell_of other) (object-cell before at other left.was)
            (below at other left.was) in
            elim (cases_eq at base) [
              | inl same ↦ absurd (left.apart same)
              | inr apart ↦ omega (arith, low, apart)
            ];
      }

  -- no run of others begins at the page of an object
  pub parked-still : (pages left : Pages) (others : List ℕ)
      → ((runs : List ℕ) → slice_index runs (base / 4096) ≡ 0 → AreParked runs pages → AreParked runs left)
      → ((runs : List ℕ) → AreAllParked before.runs runs pages → AreAllParked after.runs runs left)
      → FitsHeap after left → AreParkedBeside others before pages → AreParkedBeside others after left
  parked-still pages left others stays all fits was =
      let run = sound.cells.has_run base (cell_of found.object) (object-cell before base found.object found.begins) in
      record {
        fits = fits;
        others_parked = stays others
            (omega (arith, was.fits.parked.parked (base / 4096) run, was.all_parked (base / 4096)))
            was.others_parked;
        all_parked = all others was.all_parked;
      }

-- An area is removed, if there is one: tables stay where they are.
module _ (old new : Areas) (a : ℕ) where
  removed-area : (area : AreaShape) → new ≡ with_area (over new.fixed old) a None
      → new.fixed ≡ record (with_block old.fixed area.base None) { runs = new.fixed.runs }
      → AreInPlace old new
  removed-area area is block =
      record {
        table = ap (λ (v : Areas). v.table) is;
        fixed = ap (λ (v : Fixed). v.table) block;
      }

  pub in-place-removed : (pages left : Pages) (result : Result Unit AreaRefusal) → RemoveCause old a result
      → IfOk result (λ _. new ≡ with_area (over new.fixed old) a None)
      → IfOk result (λ _. (area : AreaShape) → area_at old a ≡ Some area
      → new.fixed ≡ record (with_block old.fixed area.base None) { runs = new.fixed.runs })
      → OnErr result ((new ≡ old) × (left ≡ pages)) → AreInPlace old new
  in-place-removed pages left (Ok done) lives is block same = split (area_at old a) refl
    where
      split : (found : Option AreaShape) → area_at old a ≡ found → AreInPlace old new
      split None none = absurd (lives none)
      split (Some area) found = removed-area area is (block area found)
  in-place-removed pages left (Err refused) cause is block same =
      record {
        table = ap (λ (v : Areas). v.table) same.0;
        fixed = ap (λ (v : Areas). v.fixed.table) same.0;
      }

pub in-place-again : (old now new : Areas) → AreInPlace old now → AreInPlace now new → AreInPlace old new
in-place-again old now new first second =
    record { table = second.table ∙ first.table; fixed = second.fixed ∙ first.fixed }

-- there are no numbers past those that areas may have
pub no-area : (a : Areas) → IsSoundAreas a → ((number : ℕ) → number < 1024 → area_at a number ≡ None) → HasNoArea a
no-area a sound none number =
    elim (cases_lt number 1024) [
      | inl below ↦ none number below
      | inr past ↦ get_or_past a.areas number None (omega (arith, sound.entries, past))
    ]

-- no block is left where no area is, and then no run
pub no-block : (a : Areas) → OwnsAll a → HasNoArea a → HasNoBlock a.fixed
no-block a owns none = λ base block begins.
    let of = owns base block begins in
    some-none of.area (sym of.lives ∙ none of.number)
  where
    some-none : (area : AreaShape) → ◌≡◌ {A = Option AreaShape} (Some area) None → ⊥
    some-none area e = cc

pub no_run-block : (v : Fixed) (page : ℕ) → IsSoundFixed v → HasNoBlock v → slice_index v.runs page ≡ 0
no_run-block v page sound none = zero_unless (slice_index v.runs page)
    (λ some. let run = sound.runs page some in none run.base run.block run.begins)
  where
    zero_unless : (n : ℕ) → (0 < n → ⊥) → n ≡ 0
    zero_unless zero h = refl
    zero_unless (suc n) h = absurd (h (omega arith))

-- nothing is parked or out any more
pub no-run : (pages : Pages) (heap : Heap) (a : Areas) → IsSound heap → HasNoCell (cells_in heap) → IsSoundAreas a
    → HasNoBlock a.fixed → AreAllParked a.fixed.runs heap.runs pages
    → ((page : ℕ) → slice_index pages.out page ≡ 0) → HasNoRun pages
no-run pages heap a sound none areas_sound none_fixed all out =
    record {
      none_out = out;
      none_parked = λ page. omega (
        arith,
        all page,
        no_run (cells_in heap) page sound.cells none,
        no_run-block a.fixed page areas_sound.fixed none_fixed,
      );
    }
