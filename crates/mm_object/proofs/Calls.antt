-- What the calls on one object read and write.
use Rattle.std.proofs.Common.{◌≡◌, ℕ, suc, ◌+◌, ◌-◌, ◌*◌, ◌/◌, ◌<◌, ◌≤◌, Bool, true, false, List, [], length, take}
use Rattle.std.proofs.Common.{drop, get_or, Some, refl, sym, ap, subst, ◌∙◌, arith}
use Rattle.std.specs.Prelude.{if◌then◌else◌, slice_set, slice_index, slice_range, set}
use Rattle.std.proofs.lemmas.List.{get_or-take, get_or-drop, take-take, take_all, drop-take, drop-drop}
use Rattle.mm_model.specs.declared.object.Colour.{Colour}
use Rattle.mm_model.specs.declared.object.Shape.{Shape}
use Rattle.mm_model.specs.Object.{is_scanned}
use Rattle.mm_cells.specs.declared.marks.CellBits.{CellBits}
use Rattle.mm_cells.specs.Marks.{IsFlags}
use Rattle.mm_model.specs.Views.ByBase as bases
use Rattle.mm_words.specs.Piece.{Piece, with_words}
use Rattle.mm_model.proofs.View.ByBase.Entries.{begins_same}
use Rattle.mm_cells.specs.Cells as cells_specs
use Rattle.mm_cells.specs.Cells.{Taken, Cells, with_cell, Begins, IsTaken, IsSoundCells}
use Rattle.mm_object.specs.Object.{StoredObject, shape_of, flags_with, has_finalizer, has_weak_object}
use Rattle.mm_object.specs.Heap.{Heap, with_object, Covers, FallsInNone, HasSlot, IsSound}
use Rattle.mm_object.specs.Header.{shape_in}
use Rattle.mm_object.specs.Kept.{shape_told, extent_words, object_told, object_at, heap_of, KeepsHeap}
use Rattle.mm_object.proofs.Extents.{extent_words-get}
use Rattle.mm_object.proofs.Objects.{object-begins}
use Rattle.mm_object.proofs.Sound.{length-extent, length-slots, shape-object, covers-cell, cell-covers, IsSound-kept}
use Rattle.mm_object.proofs.Told.{headed-set, told-link, told-composite, told-slot}
use Rattle.mm_object.proofs.Flags.{flags-parts}
use Rattle.mm_object.proofs.Recolouring.{heap-recoloured, kept-recoloured}
use Rattle.mm_object.proofs.Writes.{heap-set, kept-set}

-- a slot of the object at a base is one of every object there
pub slot-within : (h : Heap) (base s : ℕ) → HasSlot h base s → (object : StoredObject)
    → bases.Begins h.objects base object → s < length object.words
slot-within h base s slot object begins =
    subst (λ (o : StoredObject). s < length o.words) (begins_same h.objects base slot.object object slot.begins begins)
    slot.within

-- all words or none
pub chosen : (b : Bool) (ws : List ℕ) → take (if b then length ws else 0) ws ≡ (if b then ws else [])
chosen true ws = let all : length ws ≤ length ws = omega arith in take_all (length ws) ws all
chosen false ws = refl

pub length-chosen : (b : Bool) (ws : List ℕ) → length (if b then ws else []) ≡ (if b then length ws else 0)
length-chosen true ws = refl
length-chosen false ws = refl

-- how many slots the shape of an object says are scanned
pub count-shape : (count : ℕ) (shape : Shape) (object : StoredObject) → shape ≡ shape_of object
    → count ≡ (if is_scanned shape.kind then shape.slots else 0)
    → count ≡ (if is_scanned object.kind then length object.words else 0)
count-shape count shape object same e = e ∙ ap (λ (s : Shape). if is_scanned s.kind then s.slots else 0) same

pub chosen-most : (b : Bool) (n : ℕ) → (if b then n else 0) ≤ n
chosen-most true n = omega arith
chosen-most false n = omega arith

-- where an object lies
pub record IsAt (memory : Piece) (cells : Cells) (base : ℕ) (object : StoredObject) : Type 0 where
  pub cell : Taken
  pub begins : Begins cells base cell
  pub is : object ≡ object_at memory.words base cell
  pub header : 4 ≤ cell.extent / 4
  pub slots : 4 + length object.words ≤ cell.extent / 4
  pub end : base / 4 + cell.extent / 4 ≤ length memory.words
  pub aligned : 4 * (base / 4) ≡ base
  pub small : length object.words ≤ 1048575

module _ (memory : Piece) (cells : Cells) (kept : KeepsHeap memory cells) (h : Heap) (is : heap_of memory cells ≡ h)
  where
    pub sound : IsSound h
    sound = subst IsSound is (IsSound-kept memory cells kept)

    pub at-object : (base : ℕ) (object : StoredObject) → bases.Begins h.objects base object
        → IsAt memory cells base object
    at-object base object begins =
        let one = object-begins memory.words cells base object
        (subst (λ (v : Heap). bases.Begins v.objects base object) (sym is) begins) in
        let headed = kept.headed base one.cell one.begins in
        let slots : length object.words ≡ (shape_told (extent_words memory.words base one.cell.extent)).slots =
        ap (λ (o : StoredObject). length o.words) one.is ∙ length-slots memory cells kept base one.cell one.begins in
        let place = one.begins.aligned in
        record {
          cell = one.cell;
          begins = one.begins;
          is = one.is;
          header = omega (arith, headed.room);
          slots = omega (arith, headed.room);
          end = omega (arith, kept.within base one.cell one.begins);
          aligned = omega arith;
          small = omega (arith, headed.shape.slots);
        }

    -- the object in which a word falls, and that there is none
    pub covers : (word base : ℕ) (cell : Taken) → cells_specs.Covers cells word base cell
        → (object : StoredObject) × Covers h word base object
    covers word base cell covering =
        let one = cell-covers memory cells kept word
        (record { base = base; cell = cell; begins = covering.begins; from = covering.from; to = covering.to }) in (
          object_at memory.words base cell,
          subst (λ (v : Heap). Covers v word base (object_at memory.words base cell))
              is one,
        )

    pub none-covers : (word : ℕ) → ((base : ℕ) (cell : Taken) → cells_specs.Covers cells word base cell → ⊥)
        → FallsInNone h word
    none-covers word none base object covering =
        let one = covers-cell memory cells kept word base object
        (subst (λ (v : Heap). Covers v word base object) (sym is) covering) in
        none one.base one.cell (record { begins = one.begins; from = one.from; to = one.to })

    module _ (base : ℕ) (object : StoredObject) (begins : bases.Begins h.objects base object) where
      pub taken : IsTaken cells base
      taken = ((at-object base object begins).cell, (at-object base object begins).begins)

      -- a word of the object
      pub read : (i : ℕ) → i < (at-object base object begins).cell.extent / 4
          → get_or (extent_words memory.words base (at-object base object begins).cell.extent) i 0
          ≡ get_or memory.words (base / 4 + i) 0
      read i within = extent_words-get memory.words base (at-object base object begins).cell.extent i within

      pub read-link : get_or memory.words (base / 4 + 2) 0 ≡ object.link
      read-link =
          let at = at-object base object begins in
          sym (read 2 (omega (arith, at.header))) ∙ ap (λ (o : StoredObject). o.link) (sym at.is)

      pub read-composite : get_or memory.words (base / 4 + 3) 0 ≡ object.composite
      read-composite =
          let at = at-object base object begins in
          sym (read 3 (omega (arith, at.header))) ∙ ap (λ (o : StoredObject). o.composite) (sym at.is)

      -- the shape that the header says
      pub read-shape : shape_told (drop (base / 4) memory.words) ≡ shape_of object
      read-shape =
          let at = at-object base object begins in
          let rest : List ℕ = drop (base / 4) memory.words in
          let own : List ℕ = extent_words memory.words base at.cell.extent in
          let first : get_or rest 0 0 ≡ get_or own 0 0 =
          sym (get_or-take (at.cell.extent / 4) rest 0 0 (omega (arith, at.header))) in
          let second : get_or rest 1 0 ≡ get_or own 1 0 =
          sym (get_or-take (at.cell.extent / 4) rest 1 0 (omega (arith, at.header))) in
          ap (λ (n : ℕ). shape_in n (get_or rest 1 0)) first ∙ ap (λ (n : ℕ). shape_in (get_or own 0 0) n) second
          ∙ sym (shape-object memory cells kept base at.cell at.begins) ∙ ap shape_of (sym at.is)

      pub slots-told : length object.words
          ≡ (shape_told (extent_words memory.words base (at-object base object begins).cell.extent)).slots
      slots-told =
          let at = at-object base object begins in
          ap (λ (o : StoredObject). length o.words) at.is ∙ length-slots memory cells kept base at.cell at.begins

      -- so many of the words of its slots, from the first on
      pub read-slots : (count : ℕ) → count ≤ length object.words
          → take count object.words ≡ take count (drop (base / 4 + 4) memory.words)
      read-slots count most =
          let at = at-object base object begins in
          let more : ℕ = at.cell.extent / 4 - 4 in
          let whole : at.cell.extent / 4 ≡ 4 + more = omega (arith, at.header) in
          let slots : ℕ = (shape_told (extent_words memory.words base at.cell.extent)).slots in
          let rest : List ℕ = drop (base / 4) memory.words in
          ap (λ (o : StoredObject). take count o.words) at.is
          ∙ take-take count slots (drop 4 (extent_words memory.words base at.cell.extent)) (omega (arith, slots-told))
          ∙ ap (λ (n : ℕ). take count (drop 4 (take n rest))) whole
          ∙ ap (take count) (drop-take 4 more rest)
          ∙ take-take count more (drop 4 rest) (omega (arith, at.slots))
          ∙ ap (take count) (drop-drop 4 (base / 4) memory.words)

      -- so many of its slots as they are lent
      pub read-range : (count : ℕ) → count ≤ length object.words
          → slice_range memory.words (base / 4 + 4) (base / 4 + 4 + count) ≡ take count object.words
      read-range count most =
          let size : base / 4 + 4 + count - (base / 4 + 4) ≡ count = omega arith in
          ap (λ (n : ℕ). take n (drop (base / 4 + 4) memory.words)) size ∙ sym (read-slots count most)

      pub read-slot : (s : ℕ) → s < length object.words
          → slice_index object.words s ≡ get_or memory.words (base / 4 + 4 + s) 0
      read-slot s within =
          let all : object.words ≡ take (length object.words) (drop (base / 4 + 4) memory.words) =
          let none : length object.words ≤ length object.words = omega arith in
          sym (take_all (length object.words) object.words none) ∙ read-slots (length object.words) none in
          ap (λ (ws : List ℕ). get_or ws s 0) all
          ∙ get_or-take (length object.words) (drop (base / 4 + 4) memory.words) s 0 within
          ∙ get_or-drop (base / 4 + 4) memory.words s 0

      length-own : length (extent_words memory.words base (at-object base object begins).cell.extent)
          ≡ (at-object base object begins).cell.extent / 4
      length-own =
          let at = at-object base object begins in length-extent memory cells kept base at.cell at.begins

      -- another word of the object
      set-with : (i word : ℕ) → i < (at-object base object begins).cell.extent / 4
          → (f : StoredObject → StoredObject)
          → object_told (at-object base object begins).cell
          (set (extent_words memory.words base (at-object base object begins).cell.extent) i word)
          ≡ f (object_at memory.words base (at-object base object begins).cell)
          → heap_of (with_words memory (set memory.words (base / 4 + i) word)) cells ≡ with_object h base
          (Some (f object))
      set-with i word within f told =
          let at = at-object base object begins in
          heap-set memory cells kept base at.cell at.begins i word within
          ∙ ap (λ (o : StoredObject). with_object (heap_of memory cells) base (Some o)) told
          ∙ ap (λ (o : StoredObject). with_object (heap_of memory cells) base (Some (f o))) (sym at.is)
          ∙ ap (λ (v : Heap). with_object v base (Some (f object))) is

      keep-at : (i word : ℕ) → suc (suc i) < (at-object base object begins).cell.extent / 4
          → KeepsHeap (with_words memory (set memory.words (base / 4 + suc (suc i)) word)) cells
      keep-at i word within =
          let at = at-object base object begins in
          kept-set memory cells kept base at.cell at.begins (suc (suc i)) word within
          (headed-set at.cell (extent_words memory.words base at.cell.extent) i word
          (kept.headed base at.cell at.begins))

      pub set-link : (word : ℕ) → heap_of (with_words memory (set memory.words (base / 4 + 2) word)) cells
          ≡ with_object h base (Some (record object { link = word }))
      set-link word =
          let at = at-object base object begins in
          set-with 2 word (omega (arith, at.header)) (λ o. record o { link = word })
          (told-link at.cell (extent_words memory.words base at.cell.extent) word
          (omega (arith, length-own, at.header)))

      pub keep-link : (word : ℕ) → KeepsHeap (with_words memory (set memory.words (base / 4 + 2) word)) cells
      keep-link word = let at = at-object base object begins in keep-at 0 word (omega (arith, at.header))

      pub set-composite : (word : ℕ) → heap_of (with_words memory (set memory.words (base / 4 + 3) word)) cells
          ≡ with_object h base (Some (record object { composite = word }))
      set-composite word =
          let at = at-object base object begins in
          set-with 3 word (omega (arith, at.header)) (λ o. record o { composite = word })
          (told-composite at.cell (extent_words memory.words base at.cell.extent) word
          (omega (arith, length-own, at.header)))

      pub keep-composite : (word : ℕ) → KeepsHeap (with_words memory (set memory.words (base / 4 + 3) word)) cells
      keep-composite word = let at = at-object base object begins in keep-at 1 word (omega (arith, at.header))

      pub set-slot : (s word : ℕ) → s < length object.words
          → heap_of (with_words memory (set memory.words (base / 4 + 4 + s) word)) cells
          ≡ with_object h base (Some (record object { words = slice_set object.words s word }))
      set-slot s word within =
          let at = at-object base object begins in
          let place : base / 4 + 4 + s ≡ base / 4 + (4 + s) = omega arith in
          ap (λ (n : ℕ). heap_of (with_words memory (set memory.words n word)) cells) place
          ∙ set-with (4 + s) word (omega (arith, at.slots)) (λ o. record o { words = slice_set o.words s word })
          (told-slot at.cell (extent_words memory.words base at.cell.extent) s word
          (omega (arith, length-own, at.header)) (omega (arith, slots-told)))

      pub keep-slot : (s word : ℕ) → s < length object.words
          → KeepsHeap (with_words memory (set memory.words (base / 4 + 4 + s) word)) cells
      keep-slot s word within =
          let at = at-object base object begins in
          let place : base / 4 + suc (suc (2 + s)) ≡ base / 4 + 4 + s = omega arith in
          subst (λ (n : ℕ). KeepsHeap (with_words memory (set memory.words n word)) cells) place
          (keep-at (2 + s) word (omega (arith, at.slots)))

      -- another colour
      pub recolour : (after : Cells) (colour : Colour)
          → ((cell : Taken) → Begins cells base cell
          → after ≡ with_cell cells base (Some (record cell { colour = colour })))
          → heap_of memory after ≡ with_object h base (Some (record object { colour = colour }))
      recolour after colour told =
          let at = at-object base object begins in
          ap (λ (v : Cells). heap_of memory v) (told at.cell at.begins)
          ∙ heap-recoloured memory cells kept base at.cell (record at.cell { colour = colour }) at.begins refl
          ∙ ap (λ (o : StoredObject). with_object (heap_of memory cells) base (Some (record o { colour = colour })))
          (sym at.is)
          ∙ ap (λ (v : Heap). with_object v base (Some (record object { colour = colour }))) is

      pub keep-recoloured : (after : Cells) (colour : Colour)
          → ((cell : Taken) → Begins cells base cell
          → after ≡ with_cell cells base (Some (record cell { colour = colour })))
          → IsSoundCells after → KeepsHeap memory after
      keep-recoloured after colour told sound_cells =
          let at = at-object base object begins in
          let is_now = told at.cell at.begins in
          let headed = kept.headed base at.cell at.begins in
          subst (λ (v : Cells). KeepsHeap memory v) (sym is_now)
          (kept-recoloured memory cells kept base at.cell (record at.cell { colour = colour }) at.begins refl
          (subst IsSoundCells is_now sound_cells)
          (record {
            shape = headed.shape;
            first = headed.first;
            second = headed.second;
            extent = headed.extent;
            room = headed.room;
            flags = headed.flags;
          }))

      -- other flags
      pub reflag : (after : Cells) (flags : CellBits)
          → ((cell : Taken) → Begins cells base cell
          → after ≡ with_cell cells base (Some (record cell { flags = flags })))
          → heap_of memory after ≡ with_object h base (Some (record object { has_weak = has_weak_object flags }))
      reflag after flags told =
          let at = at-object base object begins in
          ap (λ (v : Cells). heap_of memory v) (told at.cell at.begins)
          ∙ heap-recoloured memory cells kept base at.cell (record at.cell { flags = flags }) at.begins refl
          ∙ ap (λ (o : StoredObject).
          with_object (heap_of memory cells) base (Some (record o { has_weak = has_weak_object flags }))) (sym at.is)
          ∙ ap (λ (v : Heap). with_object v base (Some (record object { has_weak = has_weak_object flags }))) is

      pub keep-reflagged : (after : Cells) (flags : CellBits) → IsFlags flags → has_finalizer flags ≡ object.finalize
          → ((cell : Taken) → Begins cells base cell
          → after ≡ with_cell cells base (Some (record cell { flags = flags })))
          → IsSoundCells after → KeepsHeap memory after
      keep-reflagged after flags known finalize told sound_cells =
          let at = at-object base object begins in
          let is_now = told at.cell at.begins in
          let headed = kept.headed base at.cell at.begins in
          subst (λ (v : Cells). KeepsHeap memory v) (sym is_now)
          (kept-recoloured memory cells kept base at.cell (record at.cell { flags = flags }) at.begins refl
          (subst IsSoundCells is_now sound_cells)
          (record {
            shape = headed.shape;
            first = headed.first;
            second = headed.second;
            extent = headed.extent;
            room = headed.room;
            flags =
                flags-parts flags known
                ∙ ap (λ (f : Bool). flags_with f (has_weak_object flags))
                (finalize ∙ ap (λ (o : StoredObject). o.finalize) at.is);
          }))
