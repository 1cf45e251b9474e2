-- What holds of the view of each good state, and of the counts that a heap keeps: in words alone, by base.
use Rattle.std.specs.Prelude.{◌≡◌, ◌≢◌, ℕ, ◌*◌, ◌≤◌, ◌<◌, ◌==◌, ◌||◌, false, IsTrue, List, map, take, length, Option}
use Rattle.std.specs.Prelude.{Some, None, IfSome, slice_get}
use Rattle.std.specs.List.{AllByRecursion}
use Rattle.mm_model.specs.declared.object.Colour.TheVariants.{White, Gray, Black}
use Rattle.mm_model.specs.Places.SizeClass.{extent_of, object_bytes, area_bytes}
use Rattle.mm_model.specs.Refusing.{most_slots}
use Rattle.mm_model.specs.Object.{is_counted, is_leaf, is_weak}
use Rattle.mm_model.specs.Areas.{most_areas}
use Rattle.mm_model.specs.Phase.{IsAscending}
use Rattle.mm_model.specs.Good.{IsPlaced}
use Rattle.mm_model.specs.Views.ByBase.{Begins}
use Rattle.mm_model.specs.Views.ObjectView.{ObjectView, ObjectsByBase, counted_words_of, scanned_words_of, names_at}
use Rattle.mm_model.specs.Views.SetsByBase.{count_at}
use Rattle.mm_model.specs.Views.View.{View, AreaView, CycleView, PartlyScannedView}
use Rattle.mm_model.specs.Views.ViewWords.{begins_counted_in, view_pieces, outside_references, counted_cells_of}

-- An object takes the room of its slots, and its shape is one that `new` accepts, or that of a weak reference.
pub record IsShapedView (object : ObjectView) : Type 0 where
  pub extent : object.extent ≡ extent_of (object_bytes (length object.words))
  pub most : length object.words ≤ most_slots
  pub counted : object.counted ≤ length object.words
  -- a leaf has no counted slot
  pub leaf : IsTrue (is_leaf object.kind) → object.counted ≡ 0
  -- a weak reference has no slot and no finalizer
  pub no_slot : IsTrue (is_weak object.kind) → length object.words ≡ 0
  pub no_finalizer : IsTrue (is_weak object.kind) → object.finalize ≡ false

-- An area takes the room of its cells, and its shape is one that `root` or `fixed` accepts.
pub record IsAreaShapedView (area : AreaView) : Type 0 where
  pub extent : area.extent ≡ extent_of (area_bytes (length area.words))
  pub some : 1 ≤ length area.words
  pub most : length area.words ≤ most_slots
  pub counted : area.counted ≤ length area.words
  -- only a scanned area has counted cells
  pub raw : area.scanned ≡ false → area.counted ≡ 0

-- each counted slot holds 0 or the base of a counted object
abbrev pub AreTight : ObjectsByBase → List ℕ → Type 0
AreTight objects words = AllByRecursion (λ word. IsTrue (word == 0 || begins_counted_in objects word)) words

abbrev pub HoldTight : ObjectsByBase → Type 0
HoldTight objects =
    (base : ℕ) (holder : ObjectView) → Begins objects base holder → AreTight objects (counted_words_of holder)

-- The counts are right: each counted object that isn't sticky has as its count how many counted slots hold its base,
-- and as many more as the number for the base says. Of one that is sticky a count says nothing.
pub record AreCounts (objects : ObjectsByBase) (counts outside : ℕ → ℕ) : Type 0 where
  pub exact : (base : ℕ) (object : ObjectView) → Begins objects base object → IsTrue (is_counted object.kind)
      → object.sticky ≡ false → counts base ≡ count_at objects outside base
  pub few : (base : ℕ) (object : ObjectView) → Begins objects base object → IsTrue (is_counted object.kind)
      → object.sticky ≡ false → counts base ≤ 254

-- The partner of an object has it as its partner, and exactly one of the two is a weak reference.
pub record IsPairedAt (objects : ObjectsByBase) (base : ℕ) (object : ObjectView) (other : ℕ) : Type 0 where
  pub partner : ObjectView
  pub begins : Begins objects other partner
  pub back : partner.partner ≡ Some base
  pub one_weak : is_weak partner.kind ≢ is_weak object.kind

abbrev pub ArePaired : ObjectsByBase → Type 0
ArePaired objects =
    (base : ℕ) (object : ObjectView) → Begins objects base object
    → IfSome object.partner (IsPairedAt objects base object)

-- none of the words falls in a white object
abbrev pub NamesNoWhiteAt : ObjectsByBase → List ℕ → Type 0
NamesNoWhiteAt objects words =
    (base : ℕ) (object : ObjectView) → Begins objects base object → object.colour ≡ White
    → IsTrue (names_at words base object) → ⊥

-- The partly scanned object is gray, some of its slots are done and some aren't, and no word of those that are falls in
-- a white object.
pub record IsPartlyScannedAt (objects : ObjectsByBase) (partly_scanned : PartlyScannedView) : Type 0 where
  pub object : ObjectView
  pub begins : Begins objects partly_scanned.base object
  pub gray : object.colour ≡ Gray
  pub some_done : 1 ≤ partly_scanned.slots_done
  pub some_left : partly_scanned.slots_done < length (scanned_words_of object)
  pub names : NamesNoWhiteAt objects (take partly_scanned.slots_done (scanned_words_of object))

-- the tri-colour rule: no word of a scanned slot of a black object falls in a white one
pub record IsColouredAt (objects : ObjectsByBase) (partly_scanned : Option PartlyScannedView) : Type 0 where
  pub black : (base : ℕ) (object : ObjectView) → Begins objects base object → object.colour ≡ Black
      → NamesNoWhiteAt objects (scanned_words_of object)
  pub partly : IfSome partly_scanned (IsPartlyScannedAt objects)

-- outside a cycle every object is white
abbrev pub AreWhite : ObjectsByBase → Type 0
AreWhite objects = (base : ℕ) (object : ObjectView) → Begins objects base object → object.colour ≡ White

abbrev pub IsColouredView : ObjectsByBase → Option CycleView → Type 0
IsColouredView objects None = AreWhite objects
IsColouredView objects (Some cycle) = IsColouredAt objects cycle.partly_scanned

-- areas stand by ascending number, each below the greatest number of areas
pub record AreNumberedViews (areas : List AreaView) : Type 0 where
  pub ascending : IsAscending (map (λ area. area.number) areas)
  pub below : AllByRecursion (λ area. area.number < most_areas) areas

pub record IsGoodView (view : View) : Type 0 where
  pub growing : view.settings.pages ≤ view.settings.max
  -- an entry for each multiple of 16 bytes
  pub size : length view.objects ≡ 256 * view.settings.max
  -- blocks never overlap
  pub placed : IsPlaced view.settings.max (view_pieces view)
  pub shaped : (base : ℕ) (object : ObjectView) → Begins view.objects base object → IsShapedView object
  pub areas_shaped : (n : ℕ) (area : AreaView) → slice_get view.areas n ≡ Some area → IsAreaShapedView area
  pub numbered : AreNumberedViews view.areas
  -- counted slots and counted cells hold 0 or the base of a counted object
  pub tight : HoldTight view.objects
  pub cells_tight : (n : ℕ) (area : AreaView) → slice_get view.areas n ≡ Some area
      → AreTight view.objects (counted_cells_of area)
  -- what 255 counted places hold is sticky
  pub counted : (base : ℕ) (object : ObjectView) → Begins view.objects base object → IsTrue (is_counted object.kind)
      → object.sticky ≡ false → count_at view.objects (outside_references view) base ≤ 254
  -- weak references and their targets name each other
  pub paired : ArePaired view.objects
  -- what marking has passed names nothing white
  pub coloured : IsColouredView view.objects view.cycle
