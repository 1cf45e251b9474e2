-- Objects by their colours: one becomes gray, the next of a colour, and all become white.
use Rattle.std.proofs.Common.{◌≡◌, ℕ, ◌+◌, ◌*◌, ◌<◌, ◌≤◌, List, [], ◌∷◌, map, length, Option, Some, None, refl, sym}
use Rattle.std.proofs.Common.{ap, subst, ◌∙◌}
use Rattle.std.specs.Prelude.{slice_get}
use Rattle.std.specs.Option.{option_map}
use Rattle.std.proofs.lemmas.Option.{slice_get-map}
use Rattle.mm_model.specs.declared.object.Colour.{Colour}
use Rattle.mm_model.specs.declared.object.Colour.TheVariants.{White, Gray}
use Rattle.mm_model.specs.Views.ByBase as bases
use Rattle.mm_words.specs.Piece.{Piece}
use Rattle.mm_cells.specs.Cells.{Taken, Cells, with_cell, Begins, IsSoundCells}
use Rattle.mm_cells.specs.Looking as cells_looking
use Rattle.mm_cells.specs.Looking.{whitened, all_white}
use Rattle.mm_object.specs.Object.{StoredObject}
use Rattle.mm_object.specs.Heap.{Heap, Covers}
use Rattle.mm_object.specs.Colours.{NoWhite, Shades, IsNextOf, NoneOfFrom, all_whitened, white_object}
use Rattle.mm_object.specs.Kept.{extent_words, object_at, objects_from, raw_from, heap_of, IsHeaded, KeepsHeap}
use Rattle.mm_object.proofs.Calls.{at-object, recolour, keep-recoloured}
use Rattle.mm_object.proofs.Objects.{begins-object}
use Rattle.mm_object.proofs.RawWords.{covered-alike, raw-same}
use Rattle.mm_object.proofs.Sound.{covers-cell}
use Rattle.mm_object.proofs.Writes.{one-cell}

module _ (memory : Piece) (cells : Cells) (kept : KeepsHeap memory cells) (h : Heap) (is : heap_of memory cells ≡ h)
  where
    object-in : (base : ℕ) (cell : Taken) → Begins cells base cell
        → bases.Begins h.objects base (object_at memory.words base cell)
    object-in base cell begins =
        subst (λ (v : Heap). bases.Begins v.objects base (object_at memory.words base cell)) is
        (begins-object memory.words cells base cell begins)

    told : (after : Cells) (base : ℕ) (cell : Taken) → Begins cells base cell
        → after ≡ with_cell cells base (Some (record cell { colour = Gray })) → (one : Taken) → Begins cells base one
        → after ≡ with_cell cells base (Some (record one { colour = Gray }))
    told after base cell begins now one begins' =
        now ∙ ap (λ (x : Taken). with_cell cells base (Some (record x { colour = Gray })))
        (one-cell cells base cell one begins begins')

    pub shaded : (after : Cells) (word base : ℕ) → cells_looking.Shades cells after word base
        → Shades h (heap_of memory after) word base
    shaded after word base s =
        let begins = object-in base s.cell s.covers.begins in
        record {
          object = object_at memory.words base s.cell;
          covers = record { begins = begins; from = s.covers.from; to = s.covers.to };
          white = s.white;
          now =
              recolour memory cells kept h is base (object_at memory.words base s.cell) begins after Gray
              (told after base s.cell s.covers.begins s.now);
        }

    pub shaded-kept : (after : Cells) (word base : ℕ) → cells_looking.Shades cells after word base → IsSoundCells after
        → KeepsHeap memory after
    shaded-kept after word base s sound =
        keep-recoloured memory cells kept h is base (object_at memory.words base s.cell)
        (object-in base s.cell s.covers.begins) after Gray (told after base s.cell s.covers.begins s.now) sound

    pub none-white : (word : ℕ) → cells_looking.NoWhite cells word → NoWhite h word
    none-white word none base object covering white =
        let one = covers-cell memory cells kept word base object
        (subst (λ (v : Heap). Covers v word base object) (sym is) covering) in
        let at = at-object memory cells kept h is base object covering.begins in
        let colour : at.cell.colour ≡ White = sym (ap (λ (o : StoredObject). o.colour) at.is) ∙ white in
        let to : word < base + at.cell.extent = subst (λ (o : StoredObject). word < base + o.extent) at.is covering.to
        in
        none base at.cell (record { begins = at.begins; from = covering.from; to = to }) colour

    pub next-of : (colour : Colour) (from base : ℕ) → cells_looking.IsNextOf cells colour from base
        → IsNextOf h colour from base
    next-of colour from base n =
        record {
          object = object_at memory.words base n.cell;
          begins = object-in base n.cell n.begins;
          is = n.is;
          reached = n.reached;
          least = λ lower other begins colour' reached.
              let at = at-object memory cells kept h is lower other begins in
              n.least lower at.cell at.begins (sym (ap (λ (o : StoredObject). o.colour) at.is) ∙ colour') reached;
        }

    pub none-of : (colour : Colour) (from : ℕ) → cells_looking.NoneOfFrom cells colour from → NoneOfFrom h colour from
    none-of colour from none base object begins colour' =
        let at = at-object memory cells kept h is base object begins in
        none base at.cell at.begins (sym (ap (λ (o : StoredObject). o.colour) at.is) ∙ colour')

    objects-white : (words : List ℕ) (low : ℕ) (taken : List (Option Taken))
        → objects_from words low (map whitened taken) ≡ map (option_map white_object) (objects_from words low taken)
    objects-white words low [] = refl
    objects-white words low (None ∷ taken) =
        ap (λ (os : List (Option StoredObject)). None ∷ os) (objects-white words (low + 16) taken)
    objects-white words low (Some cell ∷ taken) =
        ap (λ (os : List (Option StoredObject)). Some (white_object (object_at words low cell)) ∷ os)
        (objects-white words (low + 16) taken)

    to-white : (base : ℕ) (cell : Taken) → Begins cells base cell
        → Begins (all_white cells) base (record cell { colour = White })
    to-white base cell b =
        record {
          grain = b.grain;
          aligned = b.aligned;
          is = slice_get-map whitened cells.taken b.grain
              ∙ ap (option_map whitened) b.is;
        }

    from-white : (base : ℕ) (cell : Taken) → Begins (all_white cells) base cell
        → (one : Taken) × Begins cells base one × (cell ≡ record one { colour = White })
    from-white base cell b = split (slice_get cells.taken b.grain) refl
      where
        now : option_map whitened (slice_get cells.taken b.grain) ≡ Some (Some cell)
        now = sym (slice_get-map whitened cells.taken b.grain) ∙ b.is

        split : (x : Option (Option Taken)) → slice_get cells.taken b.grain ≡ x
            → (one : Taken) × Begins cells base one × (cell ≡ record one { colour = White })
        split None e = let f = sym (ap (option_map whitened) e) ∙ now in absurd (cc)
        split (Some None) e = let f = sym (ap (option_map whitened) e) ∙ now in absurd (cc)
        split (Some (Some one)) e =
            let f : ◌≡◌ {A = Option (Option Taken)} (Some (Some (record one { colour = White }))) (Some (Some cell)) =
            sym (ap (option_map whitened) e) ∙ now in
            let same : record one { colour = White } ≡ cell = cc in
            (one, record { grain = b.grain; aligned = b.aligned; is = e }, sym same)

    pub whitened-heap : heap_of memory (all_white cells) ≡ all_whitened h
    whitened-heap =
        ap (λ (os : List (Option StoredObject)). record (heap_of memory cells) {
          objects = os;
          raw = raw_from (map whitened cells.taken) 0 memory.words;
        }) (objects-white memory.words 0 cells.taken)
        ∙ ap (λ (ws : List (Option ℕ)). record (all_whitened (heap_of memory cells)) { raw = ws })
        (raw-same cells (all_white cells) memory.words memory.words
        (λ i. covered-alike cells (all_white cells) (4 * i)
        (λ c. record {
          base = c.base;
          cell = record c.cell { colour = White };
          begins = to-white c.base c.cell c.begins;
          from = c.from;
          to = c.to;
        })
        (λ c.
        let one = from-white c.base c.cell c.begins in
        record {
          base = c.base;
          cell = one.0;
          begins = one.1;
          from = c.from;
          to = subst (λ (x : Taken). 4 * i < c.base + x.extent) one.2 c.to;
        }))
        (λ i n. refl) refl)
        ∙ ap (λ (v : Heap). all_whitened v) is

    pub whitened-kept : IsSoundCells (all_white cells) → KeepsHeap memory (all_white cells)
    whitened-kept sound = record {
      sound = sound;
      whole = kept.whole;
      two = kept.two;
      most = kept.most;
      within = λ base cell b.
          let one = from-white base cell b in
          subst (λ (x : Taken). base + x.extent ≤ 4 * length memory.words) (sym one.2) (kept.within base one.0 one.1);
      headed = λ base cell b.
          let one = from-white base cell b in
          let old = kept.headed base one.0 one.1 in
          subst (λ (x : Taken). IsHeaded x (extent_words memory.words base x.extent)) (sym one.2)
          (record {
            shape = old.shape;
            first = old.first;
            second = old.second;
            extent = old.extent;
            room = old.room;
            flags = old.flags;
          });
    }
