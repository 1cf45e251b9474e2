-- `aput` keeps a state good.
use Rattle.std.proofs.Common.{◌≡◌, ℕ, zero, suc, ◌+◌, ◌<◌, false, eqb-true, List, [], ◌∷◌, ◌++◌, map, length, Some}
use Rattle.std.proofs.Common.{refl, sym, ap, ◌∙◌, subst, ⊎_elim, arith}
use Rattle.std.proofs.lemmas.Bool.{eq-eqb}
use Rattle.std.proofs.lemmas.List.{length-set}
use Rattle.std.specs.Prelude.{IsTrue, slice_get, slice_set, slice_index, ◌==◌, if◌then◌else◌}
use Rattle.std.specs.List.{AllByRecursion}
use Rattle.mm_model.specs.Value.{Value, words_of}
use Rattle.mm_model.specs.Object.{live_objects}
use Rattle.mm_model.specs.State.{State, Area}
use Rattle.mm_model.specs.Words.{SlotKind, cell_kind}
use Rattle.mm_model.specs.Count.{refs}
use Rattle.mm_model.specs.Meaning.{stored}
use Rattle.mm_model.specs.Areas.{most_areas, area_at}
use Rattle.mm_model.specs.Phase.{IsAscending}
use Rattle.mm_model.specs.Places.Place.{object_piece, area_piece, live_pieces}
use Rattle.mm_model.specs.Store.{refuses_word, recounted, with_cell, put_in_cell}
use Rattle.mm_model.specs.Good.{IsPlaced, IsReferring, IsStored, is_tight, AreNumbered, IsGood}
use Rattle.mm_model.proofs.Good.Writing.CountedWords.{adds, old_value, count_in-set, each_counted-set}
use Rattle.mm_model.proofs.Good.Writing.CountedWords.{each_counted_cell}
use Rattle.mm_model.proofs.Good.Writing.CountedWords.{refs-set_area}
use Rattle.mm_model.proofs.Lists.Keyed.{refuted}
use Rattle.mm_model.proofs.Lists.Growing.{find-Some}
use Rattle.mm_model.proofs.Good.Living.{each_get}
use Rattle.mm_model.proofs.Good.OtherAreas.{numbers, IsFit, good_areas_fit, with_areas, sound-areas, few-areas}
use Rattle.mm_model.proofs.Good.References.{stored-stored, referring-stored}
use Rattle.mm_model.proofs.Good.Making.Shapes.{area_shaped-cells}
use Rattle.mm_model.proofs.Lists.Replaced.{get-set_cases, map-set_alike}
use Rattle.mm_model.proofs.Good.Writing.Sticking.{recounted_is_good}
use Rattle.mm_model.proofs.Good.Writing.Stores.{accepted_is_tight}

-- the area with a number stands in the list
pub area_stands : (a : State) (number : ℕ) (area : Area) → area_at a number ≡ Some area
    → (n : ℕ) × (slice_get a.areas n ≡ Some area)
area_stands a number area e =
    let found = find-Some (λ (x : Area). x.number == number) a.areas area e in
    (found.place, found.is)

each-set : {X : Type 0} (P : X → Type 0) (xs : List X) (i : ℕ) (y : X) → AllByRecursion P xs → P y
    → AllByRecursion P (slice_set xs i y)
each-set P [] i y h p = tt
each-set P (x ∷ xs) zero y h p = (p, h.1)
each-set P (x ∷ xs) (suc i) y h p = (h.0, each-set P xs i y h.1 p)

abbrev change : Area → Area → Area
change new area = if area.number == new.number then new else area

change-same : (new area : Area) → area.number ≡ new.number → change new area ≡ new
change-same new area e = ap (λ b. if b then new else area) (eq-eqb area.number new.number e)

change-other : (new area : Area) → (area.number ≡ new.number → ⊥) → change new area ≡ area
change-other new area other =
    ap (λ b. if b then new else area) (refuted (area.number == new.number) (λ e. other (eqb-true _ _ e)))

map-unchanged : (new : Area) (areas : List Area) → AllByRecursion (λ next. new.number < next) (numbers areas)
    → map (change new) areas ≡ areas
map-unchanged new [] h = refl
map-unchanged new (area ∷ areas) h =
    let above = h.0 in
    ap (λ x. x ∷ map (change new) areas) (change-other new area (λ e. omega arith))
    ∙ ap (λ xs. area ∷ xs) (map-unchanged new areas h.1)

-- each number stands once, so the area that changes is the one in its place
map-changed : (new : Area) (areas : List Area) (n : ℕ) (area : Area) → IsAscending (numbers areas)
    → slice_get areas n ≡ Some area → area.number ≡ new.number → map (change new) areas ≡ slice_set areas n new
map-changed new [] n area up is e = cc
map-changed new (x ∷ xs) zero area up is e =
    let same : x ≡ area = cc in
    let number : x.number ≡ new.number = ap (λ (y : Area). y.number) same ∙ e in
    ap (λ y. y ∷ map (change new) xs) (change-same new x number)
    ∙ ap (λ ys. new ∷ ys)
    (map-unchanged new xs (subst (λ k. AllByRecursion (λ next. k < next) (numbers xs)) number up.0))
map-changed new (x ∷ xs) (suc n) area up is e =
    let above = each_numbers xs n up.0 is in
    ap (λ y. y ∷ map (change new) xs) (change-other new x (λ same. omega arith))
    ∙ ap (λ ys. x ∷ ys) (map-changed new xs n area up.1 is e)
  where
    each_numbers : (areas : List Area) (n : ℕ) → AllByRecursion (λ next. x.number < next) (numbers areas)
        → slice_get areas n ≡ Some area → x.number < area.number
    each_numbers [] n h is = cc
    each_numbers (y ∷ ys) zero h is =
        let same : y ≡ area = cc in subst (λ (z : Area). x.number < z.number) same h.0
    each_numbers (y ∷ ys) (suc n) h is = each_numbers ys n h.1 is

module _ (a : State) (good : IsGood a) (n : ℕ) (area : Area) (is : slice_get a.areas n ≡ Some area) (s : ℕ)
    (value : Value) (refers : IsReferring a value) (within : s < length area.cells)
    (accepted : refuses_word a (cell_kind area s) value.word ≡ false) where
  abbrev kind : SlotKind
  kind = cell_kind area s

  abbrev old : ℕ
  old = slice_index (words_of area.cells) s

  abbrev changed : Area
  changed = with_cell a area s value

  abbrev areas : List Area
  areas = slice_set a.areas n changed

  abbrev after : State
  after = with_areas a areas

  changed_fits : IsFit a changed
  changed_fits =
      record {
        shaped = area_shaped-cells area changed refl refl refl (length-set area.cells s (stored a kind value))
            (good.areas_shaped n area is);
        cells = λ t w e.
            ⊎_elim
            (λ (l : (t ≡ s) × (stored a kind value ≡ w)).
            subst (λ x. IsStored a (cell_kind area t) x) l.1
            (subst (λ m. IsStored a (cell_kind area m) (stored a kind value)) (sym l.0)
            (record { refers = referring-stored a kind value refers; kept = stored-stored a kind value })))
            (λ (r : slice_get area.cells t ≡ Some w). good.referred.cells n area is t w r)
            (get-set_cases area.cells s t (stored a kind value) w e);
        tight = each_counted-set (λ word. IsTrue (is_tight a word)) area.scanned area.counted s area.cells
            (stored a kind value) (each_counted_cell (λ word. IsTrue (is_tight a word)) a good.tight n area is)
            (λ counted. accepted_is_tight a kind value.word counted accepted);
      }

  areas_fit : (m : ℕ) (x : Area) → slice_get areas m ≡ Some x → IsFit a x
  areas_fit m x e =
      ⊎_elim (λ (l : (m ≡ n) × (changed ≡ x)). subst (IsFit a) l.1 changed_fits)
      (λ (r : slice_get a.areas m ≡ Some x). good_areas_fit a good m x r)
      (get-set_cases a.areas n m changed x e)

  placed : IsPlaced a.settings.max (live_pieces after)
  placed =
      subst (IsPlaced a.settings.max)
      (ap (λ ps. ps ++ map object_piece (live_objects a.objects))
      (sym (map-set_alike area_piece a.areas n area changed is refl))) good.placed

  numbered : AreNumbered areas
  numbered =
      record {
        ascending = subst IsAscending
            (sym (map-set_alike (λ (x : Area). x.number) a.areas n area changed is refl)) good.numbered.ascending;
        below = each-set (λ (x : Area). x.number < most_areas) a.areas n changed good.numbered.below
            (each_get (λ (x : Area). x.number < most_areas) a.areas n area good.numbered.below is);
      }

  refs-area_store : (base : ℕ) → refs after base + adds kind base old ≡ refs a base + adds kind base value.word
  refs-area_store base =
      let before = old_value area.cells s within in
      let whole = refs-set_area a after n area changed is refl refl base in
      let own = count_in-set base area.scanned area.counted s area.cells before.0 (stored a kind value) before.1 in
      subst (λ word. refs after base + adds kind base word ≡ refs a base + adds kind base value.word) before.2
      (omega (arith, whole, own))

  -- `aput` keeps a state good
  pub area_put_is_good : IsGood (put_in_cell a area s value)
  area_put_is_good =
      subst (λ xs. IsGood (recounted kind old value.word (with_areas a xs)))
      (sym (map-changed changed a.areas n area good.numbered.ascending is refl))
      (recounted_is_good a after kind old value.word (sound-areas a areas good placed numbered areas_fit)
      (few-areas a areas good) refs-area_store)
