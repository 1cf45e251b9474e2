-- What callers of a heap are told of its objects: by their cells, and entry by entry by the model's view of them.
use Rattle.std.proofs.Common.{◌≡◌, ℕ, Option, Some, None, inl, inr, refl, sym, ap, subst, ◌∙◌, arith}
use Rattle.std.specs.Prelude.{slice_get}
use Rattle.std.specs.Option.{option_map}
use Rattle.std.proofs.lemmas.Bool.{cases_eq}
use Rattle.std.proofs.lemmas.Option.{slice_get-map}
use Rattle.mm_model.specs.declared.object.Colour.{Colour}
use Rattle.mm_model.specs.Views.ByBase.{Begins}
use Rattle.mm_model.specs.Views.ObjectView.{ObjectView}
use Rattle.mm_model.proofs.View.ByBase.Entries.{begins_same}
use Rattle.mm_cells.specs.Cells as cells
use Rattle.mm_object.specs.Object.{StoredObject, StoredObjects, view_of_stored, views_of}
use Rattle.mm_object.specs.Heap.{Heap, cell_of, cells_in, Covers, IsSound}
use Rattle.mm_mark.specs.Colours.{HasColour}

-- what begins at a base
pub record IsStored (objects : StoredObjects) (base : ℕ) (view : ObjectView) : Type 0 where
  pub object : StoredObject
  pub begins : Begins objects base object
  pub is : view_of_stored object ≡ view

pub viewed-stored : (objects : StoredObjects) (base : ℕ) (view : ObjectView) → Begins (views_of objects) base view
    → IsStored objects base view
viewed-stored objects base view h =
    from (slice_get objects h.grain) refl (sym (slice_get-map (option_map view_of_stored) objects h.grain) ∙ h.is)
  where
    from : (e : Option (Option StoredObject)) → slice_get objects h.grain ≡ e
        → option_map (option_map view_of_stored) (slice_get objects h.grain) ≡ Some (Some view)
        → IsStored objects base view
    from None f g = let no : ◌≡◌ {A = Option (Option ObjectView)} None (Some (Some view)) =
        sym (ap (option_map (option_map view_of_stored)) f) ∙ g in cc
    from (Some None) f g =
        let no : ◌≡◌ {A = Option (Option ObjectView)} (Some None) (Some (Some view)) =
        sym (ap (option_map (option_map view_of_stored)) f) ∙ g in cc
    from (Some (Some object)) f g =
        let is : ◌≡◌ {A = Option (Option ObjectView)} (Some (Some (view_of_stored object))) (Some (Some view)) =
        sym (ap (option_map (option_map view_of_stored)) f) ∙ g in
        record { object = object; begins = record { grain = h.grain; aligned = h.aligned; is = f }; is = cc }

pub stored-viewed : (objects : StoredObjects) (base : ℕ) (object : StoredObject) → Begins objects base object
    → Begins (views_of objects) base (view_of_stored object)
stored-viewed objects base object h = record {
  grain = h.grain;
  aligned = h.aligned;
  is = slice_get-map (option_map view_of_stored) objects h.grain ∙ ap (option_map (option_map view_of_stored)) h.is;
}

-- the object of a cell
pub record IsInCell (h : Heap) (base : ℕ) (cell : cells.Taken) : Type 0 where
  pub object : StoredObject
  pub begins : Begins h.objects base object
  pub is : cell_of object ≡ cell

pub cell-object : (h : Heap) (base : ℕ) (cell : cells.Taken) → cells.Begins (cells_in h) base cell
    → IsInCell h base cell
cell-object h base cell b =
    from (slice_get h.objects b.grain) refl (sym (slice_get-map (option_map cell_of) h.objects b.grain) ∙ b.is)
  where
    from : (e : Option (Option StoredObject)) → slice_get h.objects b.grain ≡ e
        → option_map (option_map cell_of) (slice_get h.objects b.grain) ≡ Some (Some cell) → IsInCell h base cell
    from None f g = let no : ◌≡◌ {A = Option (Option cells.Taken)} None (Some (Some cell)) =
        sym (ap (option_map (option_map cell_of)) f) ∙ g in cc
    from (Some None) f g =
        let no : ◌≡◌ {A = Option (Option cells.Taken)} (Some None) (Some (Some cell)) =
        sym (ap (option_map (option_map cell_of)) f) ∙ g in cc
    from (Some (Some object)) f g =
        let is : ◌≡◌ {A = Option (Option cells.Taken)} (Some (Some (cell_of object))) (Some (Some cell)) =
        sym (ap (option_map (option_map cell_of)) f) ∙ g in
        record { object = object; begins = record { grain = b.grain; aligned = b.aligned; is = f }; is = cc }

pub object-cell : (h : Heap) (base : ℕ) (object : StoredObject) → Begins h.objects base object
    → cells.Begins (cells_in h) base (cell_of object)
object-cell h base object b = record {
  grain = b.grain;
  aligned = b.aligned;
  is = slice_get-map (option_map cell_of) h.objects b.grain ∙ ap (option_map (option_map cell_of)) b.is;
}

module _ (h : Heap) (sound : IsSound h) where
  -- a word falls in one object at most
  pub one_covering : (word x y : ℕ) (object other : StoredObject) → Covers h word x object → Covers h word y other
      → x ≡ y
  one_covering word x y object other a b = elim (cases_eq x y) [
    | inl e ↦ e
    | inr d ↦ elim (sound.apart x y object other a.begins b.begins d).disjoint [
      | inl before ↦ absurd (omega (arith, a.to, b.from))
      | inr after ↦ absurd (omega (arith, b.to, a.from))
    ]
  ]

  -- and a base in its own
  pub covers_at_base : (base : ℕ) (object : StoredObject) → Begins h.objects base object → Covers h base base object
  covers_at_base base object begins =
      let room = sound.room base object begins in
      record { begins = begins; from = omega arith; to = omega arith }

  pub cell-covers_at_base : (base : ℕ) (object : StoredObject) → Begins h.objects base object
      → cells.Covers (cells_in h) base base (cell_of object)
  cell-covers_at_base base object begins =
      let at = covers_at_base base object begins in
      record { begins = object-cell h base object begins; from = at.from; to = at.to }

  -- a base at which an object begins falls in no other cell
  pub cell_at_base : (base other : ℕ) (object : StoredObject) (cell : cells.Taken) → Begins h.objects base object
      → cells.Covers (cells_in h) base other cell → other ≡ base
  cell_at_base base other object cell begins covers =
      let in_cell = cell-object h other cell covers.begins in
      let extent : in_cell.object.extent ≡ cell.extent = ap (λ (c : cells.Taken). c.extent) in_cell.is in
      let to = covers.to in
      sym (one_covering base base other object in_cell.object (covers_at_base base object begins)
      (record { begins = in_cell.begins; from = covers.from; to = omega arith }))

-- the colour of a cell is that of the object there
pub coloured-cell : (h : Heap) (base other : ℕ) (cell : cells.Taken) → other ≡ base
    → cells.Covers (cells_in h) base other cell → HasColour h base cell.colour
coloured-cell h base other cell e covers =
    let in_cell = cell-object h other cell covers.begins in
    record {
      object = in_cell.object;
      begins = subst (λ (n : ℕ). Begins h.objects n in_cell.object) e in_cell.begins;
      is = ap (λ (c : cells.Taken). c.colour) in_cell.is;
    }

-- and the only one
pub one_colour : (h : Heap) (base : ℕ) (colour : Colour) (object : StoredObject) → HasColour h base colour
    → Begins h.objects base object → colour ≡ object.colour
one_colour h base colour object has begins =
    sym has.is ∙ ap (λ (o : StoredObject). o.colour) (begins_same h.objects base has.object object has.begins begins)
