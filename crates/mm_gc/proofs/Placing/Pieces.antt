-- The pieces of a heap of objects and of an allocator of blocks are those of their cells.
use Rattle.std.proofs.Common.{◌≡◌, ℕ, inl, inr, List, ◌++◌, map, refl, sym, ap, ◌∙◌, subst}
use Rattle.std.specs.Prelude.{Option, Some, None, slice_get, slice_index_or}
use Rattle.std.specs.Option.{option_map}
use Rattle.std.specs.List.{Contains}
use Rattle.std.proofs.lemmas.List.Elements.{Contains-append_left, Contains-append_right, Contains-append_cases}
use Rattle.std.proofs.lemmas.Option.{slice_get-map, slice_get-get_or, slice_get_within}
use Rattle.mm_model.specs.Places.Place.{Objects, Areas, Piece}
use Rattle.mm_model.specs.Views.ByBase as entries
use Rattle.mm_model.specs.Views.ByBase.{Based, based}
use Rattle.mm_model.specs.Views.ObjectView.{ObjectView, ObjectsByBase, piece_of_object, pieces_of_objects}
use Rattle.mm_model.specs.Views.View.{AreaView}
use Rattle.mm_model.specs.Views.ViewWords.{piece_of_area}
use Rattle.mm_model.proofs.View.ByBase.Entries.{based_at, begins_at}
use Rattle.mm_cells.specs.Cells.{Taken, Begins}
use Rattle.mm_object.specs.Object.{StoredObject, view_of_stored, views_of}
use Rattle.mm_object.specs.Heap.{Heap, cell_of, cells_in}
use Rattle.mm_fixed.specs.Fixed.{Fixed}
use Rattle.mm_fixed.specs.Cells as fixed
use Rattle.mm_fixed.specs.Cells.{cells_of}
use Rattle.mm_fixed.proofs.Shown.{begins-cell, begins-block}
use Rattle.mm_gc.specs.Pieces.{piece_in, HasCell, ArePieces, AreBlocks}

-- what a list reads, it contains
pub contains-get : {X : Type 0} (xs : List X) (i : ℕ) (x : X) → slice_get xs i ≡ Some x → Contains xs x
contains-get {X} xs i x e =
    let within = slice_get_within xs i x e in
    let same : ◌≡◌ {A = Option X} (Some (slice_index_or xs i x)) (Some x) = sym (slice_get-get_or xs i x within) ∙ e in
    (i, within, cc)

pub get-contains : {X : Type 0} (xs : List X) (x : X) → Contains xs x → (i : ℕ) × (slice_get xs i ≡ Some x)
get-contains xs x (i, within, is) = (i, slice_get-get_or xs i x within ∙ ap Some is)

-- an element that a list of changed elements reads
pub get-map : {X Y : Type 0} (f : X → Y) (xs : List X) (i : ℕ) (y : Y) → slice_get (map f xs) i ≡ Some y
    → (x : X) × (slice_get xs i ≡ Some x) × (y ≡ f x)
get-map {X} {Y} f xs i y e = split (slice_get xs i) refl
  where
    split : (o : Option X) → slice_get xs i ≡ o → (x : X) × (slice_get xs i ≡ Some x) × (y ≡ f x)
    split None h = let none = sym e ∙ slice_get-map f xs i ∙ ap (option_map f) h in absurd (cc)
    split (Some x) h =
        let same : ◌≡◌ {A = Option Y} (Some y) (Some (f x)) = sym e ∙ slice_get-map f xs i ∙ ap (option_map f) h in
        (x, h, cc)

-- a thing that a changed thing by base comes from
pub record IsFrom {X Y : Type 0} (f : X → Y) (things : List (Option X)) (base : ℕ) (y : Y) : Type 0 where
  pub thing : X
  pub begins : entries.Begins things base thing
  pub is : y ≡ f thing

pub begins-from : {X Y : Type 0} (f : X → Y) (things : List (Option X)) (base : ℕ) (y : Y)
    → entries.Begins (map (option_map f) things) base y → IsFrom f things base y
begins-from {X} {Y} f things base y h =
    let found = get-map (option_map f) things h.grain (Some y) h.is in
    split found.0 found.1 found.2
  where
    split : (o : Option X) → slice_get things h.grain ≡ Some o → Some y ≡ option_map f o → IsFrom f things base y
    split None e same = absurd (cc)
    split (Some x) e same =
        record { thing = x; begins = record { grain = h.grain; aligned = h.aligned; is = e }; is = cc }

pub begins-mapped : {X Y : Type 0} (f : X → Y) (things : List (Option X)) (base : ℕ) (x : X)
    → entries.Begins things base x → entries.Begins (map (option_map f) things) base (f x)
begins-mapped f things base x h = record {
  grain = h.grain;
  aligned = h.aligned;
  is = slice_get-map (option_map f) things h.grain ∙ ap (option_map (option_map f)) h.is;
}

-- an object begins where its cell does
pub object-cell : (h : Heap) (base : ℕ) (object : StoredObject) → entries.Begins h.objects base object
    → Begins (cells_in h) base (cell_of object)
object-cell h base object begins =
    let cell = begins-mapped cell_of h.objects base object begins in
    record { grain = cell.grain; aligned = cell.aligned; is = cell.is }

pub cell-object : (h : Heap) (base : ℕ) (cell : Taken) → Begins (cells_in h) base cell
    → IsFrom cell_of h.objects base cell
cell-object h base cell begins =
    begins-from cell_of h.objects base cell
    (record { grain = begins.grain; aligned = begins.aligned; is = begins.is })

module _ (h : Heap) where
  object-contained : (base : ℕ) (object : StoredObject) → entries.Begins h.objects base object
      → Contains (pieces_of_objects (views_of h.objects)) (piece_in Objects base (cell_of object))
  object-contained base object begins =
      let view : ObjectView = view_of_stored object in
      let at = based_at (views_of h.objects) base view
      (begins-mapped view_of_stored h.objects base object begins) in
      contains-get (pieces_of_objects (views_of h.objects)) at.0 (piece_in Objects base (cell_of object))
      (slice_get-map piece_of_object (based (views_of h.objects)) at.0 ∙ ap (option_map piece_of_object) at.1)

  contained-object : (piece : Piece) → Contains (pieces_of_objects (views_of h.objects)) piece
      → HasCell (cells_in h) piece.base piece.extent
  contained-object piece within =
      let at = get-contains (pieces_of_objects (views_of h.objects)) piece within in
      let one = get-map piece_of_object (based (views_of h.objects)) at.0 piece at.1 in
      let o : Based ObjectView = one.0 in
      let from = begins-from view_of_stored h.objects o.base o.value
      (begins_at (views_of h.objects) at.0 o one.1) in
      let cell : HasCell (cells_in h) o.base o.value.extent =
      record {
        cell = cell_of from.thing;
        begins = object-cell h o.base from.thing from.begins;
        same = sym (ap (λ (v : ObjectView). v.extent) from.is);
      } in
      subst (λ (p : Piece). HasCell (cells_in h) p.base p.extent) (sym one.2) cell

  -- the pieces of a heap's objects, beside those of areas
  pub objects_are-heap : (areas : List Piece) → ((piece : Piece) → Contains areas piece → piece.family ≡ Areas)
      → ArePieces Objects (cells_in h) (areas ++ pieces_of_objects (views_of h.objects))
  objects_are-heap areas family = record {
    own = λ base cell begins.
        let from = cell-object h base cell begins in
        Contains-append_right areas (pieces_of_objects (views_of h.objects)) (piece_in Objects base cell)
        (subst (λ (c : Taken). Contains (pieces_of_objects (views_of h.objects)) (piece_in Objects base c))
        (sym from.is) (object-contained base from.thing from.begins));
    back = λ piece within same.
        elim (Contains-append_cases areas (pieces_of_objects (views_of h.objects)) piece within) [
          | inl a ↦ let other : Objects ≡ Areas = sym same ∙ family piece a in absurd (cc)
          | inr b ↦ contained-object piece b
        ];
  }

-- of which family they are
pub objects_family : (objects : ObjectsByBase) (piece : Piece) → Contains (pieces_of_objects objects) piece
    → piece.family ≡ Objects
objects_family objects piece within =
    let at = get-contains (pieces_of_objects objects) piece within in
    ap (λ (p : Piece). p.family) (get-map piece_of_object (based objects) at.0 piece at.1).2

pub areas_family : (areas : List AreaView) (piece : Piece) → Contains (map piece_of_area areas) piece
    → piece.family ≡ Areas
areas_family areas piece within =
    let at = get-contains (map piece_of_area areas) piece within in
    ap (λ (p : Piece). p.family) (get-map piece_of_area areas at.0 piece at.1).2

-- the pieces of blocks, beside those of objects
pub areas_are-fixed : (v : Fixed) (areas objects : List Piece) → AreBlocks v areas
    → ((piece : Piece) → Contains objects piece → piece.family ≡ Objects)
    → ArePieces Areas (cells_of v) (areas ++ objects)
areas_are-fixed v areas objects are family = record {
  own = λ base cell begins.
      let from = begins-block v base cell begins in
      Contains-append_left areas objects (piece_in Areas base cell)
      (subst (λ (c : Taken). Contains areas (piece_in Areas base c)) (sym from.is)
      (are.own base from.block from.begins));
  back = λ piece within same.
      elim (Contains-append_cases areas objects piece within) [
        | inl a ↦
            let has = are.back piece a in
            record {
              cell = fixed.cell_of has.block;
              begins = begins-cell v piece.base has.block has.begins;
              same = has.same;
            }
        | inr b ↦ let other : Areas ≡ Objects = sym same ∙ family piece b in absurd (cc)
      ];
}
