-- A heap as it is made: it has no objects and no areas, and shows the empty state.
use Rattle.std.proofs.Common.{◌≡◌, ℕ, zero, suc, ◌+◌, ◌-◌, ◌*◌, ◌≤◌, Bool, false, List, [], ◌∷◌, ◌++◌, map}
use Rattle.std.proofs.Common.{length, replicate, Option, Some, None, refl, sym, ap, ◌∙◌, subst, arith}
use Rattle.std.proofs.lemmas.List.{length-map, length-replicate}
use Rattle.std.proofs.lemmas.List.FromFn.{length-range_with_len}
use Rattle.std.specs.Prelude.{slice_get, if◌then◌else◌}
use Rattle.std.specs.List.{fold, range_with_len}
use Rattle.mm_model.specs.declared.settings.Settings.{Settings}
use Rattle.mm_model.specs.Places.Limits.{IsWithinLimits}
use Rattle.mm_model.specs.Areas.{most_areas}
use Rattle.mm_model.specs.Views.ByBase.{Begins, Based, based_from}
use Rattle.mm_model.specs.Places.Place.{page_end}
use Rattle.mm_model.specs.State.{empty_state, totals_of}
use Rattle.mm_model.specs.Views.ObjectView.{ObjectView, ObjectsByBase, piece_of_object, pieces_of_objects}
use Rattle.mm_model.specs.Views.View.{CycleView, Shows, seen_at, seen_objects}
use Rattle.mm_model.specs.Views.ViewWords.{piece_of_area}
use Rattle.mm_model.proofs.Good.Starting.{empty_is_good}
use Rattle.mm_words.specs.Piece as pieces
use Rattle.mm_words.specs.Arena.{Arena, blank_piece, with_cut}
use Rattle.mm_words.specs.Location.{Location, location_of}
use Rattle.mm_pages.specs.Pages.{Covers}
use Rattle.mm_fixed.proofs.Left.{index-zeros}
use Rattle.mm_object.specs.Object.{StoredObject, StoredObjects, views_of}
use Rattle.mm_object.specs.Heap.{Heap}
use Rattle.mm_roots.specs.Views.{views_from}
use Rattle.mm_count.specs.Table.{Table, IsRight}
use Rattle.mm_count.specs.Counts.{IsCountedBy}
use Rattle.mm_count.specs.Listed.{AllListed, NonePinned}
use Rattle.mm_weak.specs.Links.{IsLinked}
use Rattle.mm_mark.specs.Marker.{Marker, AreKnown}
use Rattle.mm_gc.specs.Showing.{IsShowing}
use Rattle.mm_gc.specs.Gc.{Region, Gc, areas_in, objects_in, pages_needed, view_of_gc, totals_in}

-- nothing begins in a list without entries
pub nothing-begins : {X : Type 0} (n base : ℕ) (x : X) → Begins (replicate n None) base x → ⊥
nothing-begins n base x begins = none n begins.grain begins.is
  where
    none : (n k : ℕ) → slice_get (replicate n None) k ≡ Some (Some x) → ⊥
    none zero k is = cc
    none (suc n) zero is = cc
    none (suc n) (suc k) is = none n k is

-- no run of the length 0 reaches a page
pub zeros-cover : (n page : ℕ) → Covers (replicate n 0) page → ⊥
zeros-cover n page covers = omega (arith, covers.begins, covers.reaches, index-zeros n covers.first)

-- what stays of an arena whose next words are cut
pub record IsCut (before after : Arena) (n : ℕ) : Type 0 where
  pub name : after.name ≡ before.name
  pub total : after.total ≡ before.total
  pub spare : after.spare ≡ before.spare - n
  pub out : after.out ≡ before.out + n

pub cut : (before after : Arena) (n : ℕ) → after ≡ with_cut before n → IsCut before after n
cut before after n is =
    record {
      name = ap (λ (a : Arena). a.name) is;
      total = ap (λ (a : Arena). a.total) is;
      spare = ap (λ (a : Arena). a.spare) is;
      out = ap (λ (a : Arena). a.out) is;
    }

-- where a piece lies that was cut from an arena
pub record IsCutFrom (before : Arena) (n : ℕ) (location : Location) : Type 0 where
  pub arena : location.arena ≡ before.name
  pub size : location.size ≡ n

pub cut-from : (before : Arena) (n : ℕ) (location : Location) (piece : pieces.Piece) → location ≡ location_of piece
    → piece ≡ blank_piece before n → IsCutFrom before n location
cut-from before n location piece at is =
    record {
      arena = ap (λ (l : Location). l.arena) at ∙ ap (λ (p : pieces.Piece). p.arena) is;
      size = ap (λ (l : Location). l.size) at ∙ ap (λ (p : pieces.Piece). length p.words) is ∙ length-replicate n 0;
    }

views-none : (n : ℕ) → views_of (replicate n None) ≡ replicate n None
views-none zero = refl
views-none (suc n) = ap (λ entries. None ∷ entries) (views-none n)

areas-none : (raw : List (Option ℕ)) (number n : ℕ) → views_from raw number (replicate n None) ≡ []
areas-none raw number zero = refl
areas-none raw number (suc n) = areas-none raw (number + 1) n

based-none : {X : Type 0} (base n : ℕ) → based_from {X = X} base (replicate n None) ≡ []
based-none base zero = refl
based-none base (suc n) = based-none (base + 16) n

map-none : {X Y : Type 0} (f : X → Option Y) (xs : List X) → ((x : X) → f x ≡ None)
    → map f xs ≡ replicate (length xs) None
map-none f [] none = refl
map-none f (x ∷ xs) none = (λ k. none x k ∷ map-none f xs none k)

seen-none : (settings : Settings) → seen_objects (empty_state settings) ≡ replicate (256 * settings.max) None
seen-none settings =
    let grains = range_with_len 0 (256 * settings.max) in
    map-none (seen_at (empty_state settings)) (map (λ grain. 16 * grain) grains) (λ base. refl)
    ∙ ap (λ (n : ℕ). replicate n None)
    (length-map grains (λ grain. 16 * grain) ∙ length-range_with_len 0 (256 * settings.max))

module _ (r : Region) (n m : ℕ) (objects : r.heap.objects ≡ replicate n None) (areas : r.areas.areas ≡ replicate m None)
  where
    pub objects_in-none : objects_in r ≡ replicate n None
    objects_in-none = ap views_of objects ∙ views-none n

    pub areas_in-none : areas_in r ≡ []
    areas_in-none = ap (views_from r.heap.raw 0) areas ∙ areas-none r.heap.raw 0 m

    -- a region in which nothing lies needs the least number of pages
    pub pages_needed-none : pages_needed r ≡ r.least
    pages_needed-none =
        (λ k. fold page_end r.least (map piece_of_area (areas_in-none k) ++ pieces_of_objects (objects_in-none k)))
        ∙ ap (λ (found : List (Based ObjectView)). fold page_end r.least (map piece_of_object found)) (based-none 0 n)

-- a heap of these settings that no command was given to
pub record IsNew (settings : Settings) (gc : Gc) : Type 0 where
  pub objects : gc.region.heap.objects ≡ replicate (256 * settings.max) None
  pub areas : gc.region.areas.areas ≡ replicate most_areas None
  pub stack : gc.stack.words ≡ []
  pub idle : gc.marker.running ≡ false
  pub threshold : gc.threshold ≡ settings.zct
  pub totals : totals_in gc ≡ totals_of (empty_state settings)
  pub settings_are : gc.settings ≡ settings

pub new-shows : (settings : Settings) (gc : Gc) → IsNew settings gc → Shows (view_of_gc gc) (empty_state settings)
new-shows settings gc new =
    let n = 256 * settings.max in
    record {
      objects = objects_in-none gc.region n most_areas new.objects new.areas ∙ sym (seen-none settings);
      stack = new.stack;
      areas = areas_in-none gc.region n most_areas new.objects new.areas;
      cycle = ap (λ (running : Bool). if running then Some (cycle_of gc) else None) new.idle;
      threshold = new.threshold;
      totals = new.totals;
      settings = new.settings_are;
    }
  where
    cycle_of : Gc → CycleView
    cycle_of g = record { gone_before = g.gone_before; partly_scanned = g.marker.partly }

pub new-showing : (settings : Settings) (gc : Gc) → IsWithinLimits settings → IsNew settings gc
    → IsShowing (view_of_gc gc)
new-showing settings gc within new =
    record {
      state = empty_state settings;
      good = empty_is_good settings within.growing;
      shows = new-shows settings gc new;
    }

-- nothing is told of objects where there are none
module _ (objects : StoredObjects) (n : ℕ) (none : objects ≡ replicate n None) where
  nothing : (base : ℕ) (object : StoredObject) → Begins objects base object → ⊥
  nothing base object begins =
      nothing-begins n base object (subst (λ (os : StoredObjects). Begins os base object) none begins)

  nothing-seen : (base : ℕ) (object : ObjectView) → Begins (views_of objects) base object → ⊥
  nothing-seen base object begins =
      nothing-begins n base object
      (subst (λ (os : ObjectsByBase). Begins os base object) (ap views_of none ∙ views-none n) begins)

  pub counts-none : (outside : ℕ → ℕ) → IsCountedBy objects outside
  counts-none outside =
      record {
        exact = λ base object begins counted exact. absurd (nothing-seen base object begins);
        few = λ base object begins counted exact. absurd (nothing-seen base object begins);
      }

  pub listed-none : AllListed objects
  listed-none = record { listed = λ base object begins. absurd (nothing base object begins) }

  pub unpinned-none : NonePinned objects
  unpinned-none = record { unpinned = λ base object begins. absurd (nothing base object begins) }

  pub known-none : (marker : Marker) → AreKnown marker (views_of objects)
  known-none marker = λ base object begins gray. absurd (nothing-seen base object begins)

  pub right-none : (table : Table) (heap : Heap) → heap.objects ≡ objects → heap.pages ≤ table.pages
      → table.entries ≡ [] → IsRight table heap
  right-none table heap same pages entries =
      let still : (base : ℕ) (object : StoredObject) → Begins heap.objects base object → ⊥ =
      λ base object begins. nothing base object (subst (λ (os : StoredObjects). Begins os base object) same begins) in
      record {
        pages = pages;
        spelled = λ base object begins. absurd (still base object begins);
        entered = λ base object begins listed. absurd (still base object begins);
        entries = λ place base is. absurd (no_entry table.entries place base entries is);
      }
    where
      no_entry : (xs : List ℕ) (place base : ℕ) → xs ≡ [] → slice_get xs place ≡ Some base → ⊥
      no_entry [] place base none is = cc
      no_entry (x ∷ xs) place base none is = cc

  pub linked-none : (heap : Heap) → heap.objects ≡ objects → IsLinked heap
  linked-none heap same =
      record {
        paired = λ base object begins. absurd (nothing-seen base object
            (subst (λ (os : StoredObjects). Begins (views_of os) base object) same begins));
        flagged = λ base object begins. absurd (nothing base object
            (subst (λ (os : StoredObjects). Begins os base object) same begins));
      }
