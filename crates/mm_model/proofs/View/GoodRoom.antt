-- What the room of a good view tells of its objects: where they begin, what words fall in them, how many there are.
use Rattle.std.proofs.Common.{◌≡◌, ℕ, zero, suc, ◌+◌, ◌-◌, ◌*◌, ◌<◌, ◌≤◌, true, List, [], ◌∷◌, map, length, Option}
use Rattle.std.proofs.Common.{Some, refl, sym, ap, ◌∙◌, subst, ⊎_elim, eqb-true, arith}
use Rattle.std.proofs.lemmas.Bool.{eq-eqb}
use Rattle.std.proofs.lemmas.List.{length-map}
use Rattle.std.proofs.lemmas.Option.{slice_get-map}
use Rattle.std.specs.Prelude.{slice_get, ◌==◌}
use Rattle.std.specs.Option.{option_map}
use Rattle.mm_model.specs.Words.{falls}
use Rattle.mm_model.specs.Places.Place.{Piece}
use Rattle.mm_model.specs.Good.{IsInside, AreApart, AreAllApart, IsPlaced}
use Rattle.mm_model.specs.Views.ByBase.{Begins, Based, based}
use Rattle.mm_model.specs.Views.ObjectView.{ObjectView, piece_of_object, pieces_of_objects}
use Rattle.mm_model.specs.Views.View.{View}
use Rattle.mm_model.specs.Views.ViewWords.{resolved_in, object_at, piece_of_area, view_pieces}
use Rattle.mm_model.proofs.Good.Living.{each_after, each_get, all_apart-after, some_extent}
use Rattle.mm_model.proofs.Lists.Growing.{find-Some, find-only}
use Rattle.mm_model.proofs.Places.Falling.{falls_from, falls_at_base}
use Rattle.mm_model.proofs.Places.Room.{room_for_pieces}
use Rattle.mm_model.proofs.View.ByBase.Entries.{based_at, begins_at, begins_same}

apart-get : (ps : List Piece) (i j : ℕ) (p q : Piece) → AreAllApart ps → slice_get ps i ≡ Some p
    → slice_get ps j ≡ Some q → i < j → AreApart p q
apart-get [] i j p q h e f less = cc
apart-get (o ∷ ps) i zero p q h e f less = absurd (omega arith)
apart-get (o ∷ ps) zero (suc j) p q h e f less =
    let same : o ≡ p = cc in subst (λ x. AreApart x q) same (each_get (AreApart o) ps j q h.0 f)
apart-get (o ∷ ps) (suc i) (suc j) p q h e f less = apart-get ps i j p q h.1 e f (omega arith)

-- a word falls in one piece alone
once-get : (ps : List Piece) (i j : ℕ) (p q : Piece) → AreAllApart ps → slice_get ps i ≡ Some p
    → slice_get ps j ≡ Some q → (word : ℕ) → falls word p.base p.extent ≡ true → falls word q.base q.extent ≡ true
    → i ≡ j
once-get ps i j p q h e f word here there =
    let low = falls_from word p.base p.extent here in
    let high = falls_from word q.base q.extent there in
    let before : i < j → ⊥ = λ less.
    ⊎_elim (λ (l : p.base + p.extent ≤ q.base). omega arith) (λ (r : q.base + q.extent ≤ p.base). omega arith)
    (apart-get ps i j p q h e f less).disjoint in
    let behind : j < i → ⊥ = λ less.
    ⊎_elim (λ (l : q.base + q.extent ≤ p.base). omega arith) (λ (r : p.base + p.extent ≤ q.base). omega arith)
    (apart-get ps j i q p h f e less).disjoint in
    equal i j before behind
  where
    equal : (m n : ℕ) → (m < n → ⊥) → (n < m → ⊥) → m ≡ n
    equal m n f g = omega arith

inside_same : {X : Type 0} (x y : X) → ◌≡◌ {A = Option X} (Some x) (Some y) → x ≡ y
inside_same x y e = cc

-- one object alone begins at a base
same_based : (view : View) (base : ℕ) (object : ObjectView) → Begins view.objects base object
    → (other : Based ObjectView) → Begins view.objects other.base other.value → other.base ≡ base
    → other ≡ record { base = base; value = object }
same_based view base object begins other own same =
    let value : other.value ≡ object =
    begins_same view.objects base other.value object (subst (λ b. Begins view.objects b other.value) same own) begins in
    λ t. record { base = same t; value = value t }

module _ (view : View) (placed : IsPlaced view.settings.max (view_pieces view)) where
  objects_placed : IsPlaced view.settings.max (pieces_of_objects view.objects)
  objects_placed =
      record {
        inside = each_after (IsInside view.settings.max) (map piece_of_area view.areas) (pieces_of_objects view.objects)
            placed.inside;
        apart = all_apart-after (map piece_of_area view.areas) (pieces_of_objects view.objects) placed.apart;
      }

  piece_at : (n : ℕ) (o : Based ObjectView) → slice_get (based view.objects) n ≡ Some o
      → slice_get (pieces_of_objects view.objects) n ≡ Some (piece_of_object o)
  piece_at n o is = slice_get-map piece_of_object (based view.objects) n ∙ ap (option_map piece_of_object) is

  pub object_inside : (base : ℕ) (object : ObjectView) → Begins view.objects base object
      → IsInside view.settings.max (piece_of_object (record { base = base; value = object }))
  object_inside base object begins =
      let at = based_at view.objects base object begins in
      each_get (IsInside view.settings.max) (pieces_of_objects view.objects) at.0
      (piece_of_object (record { base = base; value = object })) objects_placed.inside
      (piece_at at.0 (record { base = base; value = object }) at.1)

  -- an object begins in the pages from 1 to below the limit, and has some bytes
  pub begins_from_page_1 : (base : ℕ) (object : ObjectView) → Begins view.objects base object → 4096 ≤ base
  begins_from_page_1 base object begins = (object_inside base object begins).from

  pub extent_some : (base : ℕ) (object : ObjectView) → Begins view.objects base object → 0 < object.extent
  extent_some base object begins =
      some_extent view.settings.max (piece_of_object (record { base = base; value = object }))
      (object_inside base object begins)

  pub begins_below_limit : (base : ℕ) (object : ObjectView) → Begins view.objects base object
      → base < 4096 * view.settings.max
  begins_below_limit base object begins =
      let some = extent_some base object begins in
      let to = (object_inside base object begins).to in
      omega arith

  -- a word falls in one object alone
  pub falls_once : (word x y : ℕ) (o p : ObjectView) → Begins view.objects x o → Begins view.objects y p
      → falls word x o.extent ≡ true → falls word y p.extent ≡ true → x ≡ y
  falls_once word x y o p h k here there =
      let first = based_at view.objects x o h in
      let second = based_at view.objects y p k in
      let same : first.0 ≡ second.0 =
      once-get (pieces_of_objects view.objects) first.0 second.0
      (piece_of_object (record { base = x; value = o })) (piece_of_object (record { base = y; value = p }))
      objects_placed.apart (piece_at first.0 (record { base = x; value = o }) first.1)
      (piece_at second.0 (record { base = y; value = p }) second.1) word here there in
      ap (λ (q : Based ObjectView). q.base)
      (inside_same (record { base = x; value = o }) (record { base = y; value = p })
      (sym first.1 ∙ ap (slice_get (based view.objects)) same ∙ second.1))

  -- it resolves to that object, and so does the object's base
  pub resolved_in-falls : (word base : ℕ) (object : ObjectView) → Begins view.objects base object
      → falls word base object.extent ≡ true
      → resolved_in view.objects word ≡ Some (record { base = base; value = object })
  resolved_in-falls word base object begins here =
      let at = based_at view.objects base object begins in
      find-only (λ o. falls word o.base o.value.extent) (based view.objects) at.0
      (record { base = base; value = object }) at.1 here
      (λ i other is there.
      let own = begins_at view.objects i other is in
      same_based view base object begins other own
      (falls_once word other.base base other.value object own begins there here))

  pub resolved_in-base : (base : ℕ) (object : ObjectView) → Begins view.objects base object
      → resolved_in view.objects base ≡ Some (record { base = base; value = object })
  resolved_in-base base object begins =
      resolved_in-falls base base object begins (falls_at_base base object.extent (extent_some base object begins))

  -- at most 256 objects in each page
  pub few_objects : length (based view.objects) ≤ 256 * (view.settings.max - 1)
  few_objects =
      subst (λ n. n ≤ 256 * (view.settings.max - 1)) (length-map (based view.objects) piece_of_object)
      (room_for_pieces view.settings.max (pieces_of_objects view.objects) objects_placed)

-- what a word resolves to begins at its base, and the word falls in it
pub resolved_in-begins : (view : View) (word : ℕ) (o : Based ObjectView) → resolved_in view.objects word ≡ Some o
    → Begins view.objects o.base o.value × (falls word o.base o.value.extent ≡ true)
resolved_in-begins view word o e =
    let found = find-Some (λ (o : Based ObjectView). falls word o.base o.value.extent) (based view.objects) o e in
    (begins_at view.objects found.place o found.is, found.passes)

-- what begins at a base
pub object_at-begins : (view : View) (base : ℕ) (object : ObjectView) → Begins view.objects base object
    → object_at view.objects base ≡ Some (record { base = base; value = object })
object_at-begins view base object begins =
    let at = based_at view.objects base object begins in
    find-only (λ o. o.base == base) (based view.objects) at.0 (record { base = base; value = object }) at.1
    (eq-eqb base base refl)
    (λ i other is there.
    same_based view base object begins other (begins_at view.objects i other is) (eqb-true other.base base there))
