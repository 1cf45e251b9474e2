-- A region that has another number of pages keeps its objects and areas.
use Rattle.std.proofs.Common.{◌≡◌, ℕ, ◌*◌, ◌≤◌, inl, inr, List, Some, slice_index, sym, ap, ◌∙◌, subst, arith}
use Rattle.std.proofs.lemmas.Bool.{cases_lt}
use Rattle.std.proofs.lemmas.Option.{slice_get_within}
use Rattle.mm_words.specs.Arena.{Arena}
use Rattle.mm_pages.specs.Pages.{Pages, IsSoundHeap}
use Rattle.mm_pages.specs.Parked.{AreParked, AreAllParked}
use Rattle.mm_object.specs.Heap.{Heap, IsSound, FitsHeap, IsAtEnd, IsResized, resized}
use Rattle.mm_roots.specs.Areas as areas
use Rattle.mm_roots.specs.Areas.{OwnsAll, IsBeside}
use Rattle.mm_roots.specs.Views.{views_of_areas}
use Rattle.mm_roots.proofs.Kept.{views-kept}
use Rattle.mm_gc.specs.declared.region.Region.{Region}
use Rattle.mm_gc.specs.Kept.{IsSoundRegion, KeepsRegion}
use Rattle.mm_gc.specs.Regions.{IsSameInside}
use Rattle.mm_gc.proofs.Regions.Changed.{beside-parked}

-- memory and limit have other ends, and nothing else changed
pub record Resizes (before after : Region) (size : ℕ) : Type 0 where
  pub heap : IsResized before.heap after.heap size
  pub last : IsAtEnd after.heap after.arena
  pub arena : after.arena ≡ resized before.arena (1024 * before.heap.size) (1024 * size)
  pub pages : after.pages ≡ record before.pages { limit = size }
  pub areas : after.areas ≡ before.areas
  pub least : after.least ≡ before.least
  pub most : after.most ≡ before.most
  pub pages_sound : IsSoundHeap after.pages
  pub heap_sound : IsSound after.heap

module _ (before after : Region) (size : ℕ) (keeps : KeepsRegion before) (resizes : Resizes before after size) where
  runs-same : after.heap.runs ≡ before.heap.runs
  runs-same = ap (λ (h : Heap). h.runs) resizes.heap.same

  size-is : after.heap.size ≡ size
  size-is = ap (λ (h : Heap). h.size) resizes.heap.same

  parked-resized : (runs : List ℕ) → AreParked runs before.pages → AreParked runs after.pages
  parked-resized runs parked = subst (AreParked runs) (sym resizes.pages) (record {
    pages = parked.pages;
    parked = parked.parked;
  })

  sound-resized : IsSoundRegion after
  sound-resized = record {
    pages = resizes.pages_sound;
    heap = resizes.heap_sound;
    areas = subst areas.IsSoundAreas (sym resizes.areas) keeps.sound.areas;
  }

  fits-resized : FitsHeap after.heap after.pages
  fits-resized = record {
    parked = subst (λ (runs : List ℕ). AreParked runs after.pages) (sym runs-same)
        (parked-resized before.heap.runs keeps.placed.heap.parked);
    memory = omega (arith, ap (λ (p : Pages). p.limit) resizes.pages, size-is);
  }

  areas-resized : AreParked after.areas.fixed.runs after.pages
  areas-resized =
      subst (λ (a : areas.Areas). AreParked a.fixed.runs after.pages) (sym resizes.areas)
      (parked-resized before.areas.fixed.runs keeps.placed.areas)

  all_parked-resized : AreAllParked after.heap.runs after.areas.fixed.runs after.pages
  all_parked-resized page =
      ap (λ (p : Pages). slice_index p.parked page) resizes.pages ∙ omega (
        arith,
        keeps.placed.all_parked page,
        ap (λ (runs : List ℕ). slice_index runs page) runs-same,
        ap (λ (a : areas.Areas). slice_index a.fixed.runs page) resizes.areas,
      )

  beside-resized : IsBeside after.areas after.heap
  beside-resized = beside-parked after sound-resized fits-resized areas-resized all_parked-resized

  pub keeps-resized : size ≤ before.most → KeepsRegion after
  keeps-resized most = record {
    sound = sound-resized;
    placed = record {
      heap = fits-resized;
      areas = areas-resized;
      all_parked = all_parked-resized;
      none_out = λ page.
          ap (λ (p : Pages). slice_index p.out page) resizes.pages ∙ keeps.placed.none_out page;
      beside = beside-resized;
      owns = subst OwnsAll (sym resizes.areas) keeps.placed.owns;
    };
    tables = record {
      two = omega (arith, keeps.tables.two, resizes.least);
      growing = omega (arith, keeps.tables.growing, resizes.least, resizes.most);
      most = omega (arith, keeps.tables.most, resizes.most);
      pages = ap (λ (p : Pages). p.pages) resizes.pages ∙ keeps.tables.pages ∙ sym resizes.most;
      heap = ap (λ (h : Heap). h.pages) resizes.heap.same ∙ keeps.tables.heap ∙ sym resizes.most;
      areas = ap (λ (a : areas.Areas). a.fixed.pages) resizes.areas ∙ keeps.tables.areas ∙ sym resizes.most;
      last = resizes.last;
      room = omega (
        arith,
        keeps.tables.room,
        resizes.most,
        size-is,
        ap (λ (a : Arena). a.spare) resizes.arena,
        most,
      );
      out = omega (arith, keeps.tables.out, size-is, ap (λ (a : Arena). a.out) resizes.arena);
    };
    limit = ap (λ (p : Pages). p.limit) resizes.pages ∙ sym size-is;
  }

  -- the words outside objects are those of the smaller memory
  views-resized : views_of_areas before.areas after.heap.raw ≡ views_of_areas before.areas before.heap.raw
  views-resized = elim (cases_lt before.heap.size size) [
    | inl grows ↦
        views-kept before.areas keeps.sound.areas before.heap keeps.sound.heap keeps.placed.beside after.heap.raw
        (λ place word is.
        let within = slice_get_within before.heap.raw place (Some word) is in
        resizes.heap.kept place (omega (arith, within, keeps.sound.heap.raw_size))
        (omega (arith, within, keeps.sound.heap.raw_size, grows)) ∙ is)
    | inr shrinks ↦
        sym (views-kept before.areas keeps.sound.areas after.heap resizes.heap_sound
        (subst (λ (a : areas.Areas). IsBeside a after.heap) resizes.areas beside-resized) before.heap.raw
        (λ place word is.
        let within = slice_get_within after.heap.raw place (Some word) is in
        sym (resizes.heap.kept place (omega (arith, within, resizes.heap_sound.raw_size, size-is, shrinks))
        (omega (arith, within, resizes.heap_sound.raw_size, size-is))) ∙ is))
  ]

  pub inside-resized : IsSameInside before after
  inside-resized = record {
    objects = ap (λ (h : Heap). h.objects) resizes.heap.same;
    runs = runs-same;
    blocks = resizes.areas;
    areas = ap (λ (a : areas.Areas). views_of_areas a after.heap.raw) resizes.areas ∙ views-resized;
    pages = resizes.pages ∙ ap (λ (n : ℕ). record before.pages { limit = n })
        (sym (ap (λ (p : Pages). p.limit) resizes.pages));
  }
