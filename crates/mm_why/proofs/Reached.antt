-- Paths lead to what is reached, and to nothing else.
use Rattle.std.proofs.Common.{◌≡◌, ℕ, zero, suc, ◌+◌, ◌-◌, ◌≤◌, ◌⊎◌, true, List, [], ◌∷◌, ◌++◌, length}
use Rattle.std.proofs.Common.{Some, inl, inr, refl, sym, ap, subst, ◌∙◌, arith}
use Rattle.std.specs.Prelude.{slice_get, ◌↔◌}
use Rattle.std.specs.List.{list_any, flat_map}
use Rattle.mm_model.specs.Object.{Object}
use Rattle.mm_model.specs.State.{State, Lives}
use Rattle.mm_model.specs.Words.{falls}
use Rattle.mm_model.specs.Sets.Reached.{IsReached}
use Rattle.mm_model.specs.Good.{IsGood}
use Rattle.mm_model.specs.Views.ObjectView.{scanned_words_of}
use Rattle.mm_model.specs.Views.SetsByBase.{IsReachedAt}
use Rattle.mm_model.specs.Views.View.{View, AreaView, Shows, view_of}
use Rattle.mm_model.specs.Views.ViewWords.{scanned_cells_of}
use Rattle.mm_model.proofs.Lists.Growing.{get-front, any_get, any_from_get}
use Rattle.mm_model.proofs.View.Marking.Sets.{reached_same}
use Rattle.mm_model.proofs.View.Words.{marking_words-seen}
use Rattle.mm_why.specs.declared.hop.Via.TheVariants.{Stack, Area, Slot}
use Rattle.mm_why.specs.declared.hop.Hop.{Hop}
use Rattle.mm_why.specs.Path.{Shown, shown_in, FallsIn, IsAreaWord, IsPath, hop_by, root_words_of}
use Rattle.mm_why.proofs.Searched.{get-behind, get-flat}

-- which list an element of two joined ones is of
get-either : (xs ys : List ℕ) (i word : ℕ) → slice_get (xs ++ ys) i ≡ Some word
    → (slice_get xs i ≡ Some word) ⊎ ((length xs ≤ i) × (slice_get ys (i - length xs) ≡ Some word))
get-either [] ys i word h = let same : i - 0 ≡ i = omega arith in inr (omega arith, ap (slice_get ys) same ∙ h)
get-either (x ∷ xs) ys zero word h = inl h
get-either (x ∷ xs) ys (suc i) word h = elim (get-either xs ys i word h) [
  | inl front ↦ inl front
  | inr rest ↦
      let high = rest.0 in
      let same : suc i - suc (length xs) ≡ i - length xs = omega arith in
      inr (omega arith, ap (slice_get ys) same ∙ rest.1)
]

-- a word of a scanned area is one of its cells
area-of : (areas : List AreaView) (i word : ℕ) → slice_get (flat_map scanned_cells_of areas) i ≡ Some word
    → (number : ℕ) × (cell : ℕ) × IsAreaWord areas number cell word
area-of [] i word h = cc
area-of (area ∷ areas) i word h =
    elim (get-either (scanned_cells_of area) (flat_map scanned_cells_of areas) i word h) [
      | inl own ↦
          (area.number, i, record { place = 0; area = area; is = refl; numbered = refl; holds = own })
      | inr rest ↦
          let at = area-of areas (i - length (scanned_cells_of area)) word rest.1 in (
            at.0,
            at.1,
            record {
              place = suc at.2.place;
              area = at.2.area;
              is = at.2.is;
              numbered = at.2.numbered;
              holds = at.2.holds;
            },
          )
    ]

module _ (shown : Shown) where
  named : (words : List ℕ) (i word base : ℕ) (f : FallsIn shown.objects word base) → slice_get words i ≡ Some word
      → list_any (λ w. falls w base f.object.extent) words ≡ true
  named words i word base f h = any_from_get (λ w. falls w base f.object.extent) words i word h f.within

  root-reached : (i word base : ℕ) → slice_get (root_words_of shown) i ≡ Some word → FallsIn shown.objects word base
      → IsReachedAt shown.objects (root_words_of shown) base
  root-reached i word base h f =
      IsReachedAt.By_root base f.object f.begins (named (root_words_of shown) i word base f h)

  path-reached : (hops : List Hop) (base : ℕ) → IsPath shown hops base
      → IsReachedAt shown.objects (root_words_of shown) base
  path-reached hops base (IsPath.From_stack cell word _ h f) =
      root-reached cell word base (get-front shown.stack (flat_map scanned_cells_of shown.areas) cell word h) f
  path-reached hops base (IsPath.From_area number cell word _ a f) =
      let at = get-flat scanned_cells_of shown.areas a.place a.area cell word a.is a.holds in
      root-reached (length shown.stack + at.0) word base
      (get-behind shown.stack (flat_map scanned_cells_of shown.areas) at.0 word at.1) f
  path-reached hops base (IsPath.By_slot front by holder slot word _ path begins holds f) =
      IsReachedAt.By_slot base f.object by holder f.begins begins
      (named (scanned_words_of holder) slot word base f holds) (path-reached front by path)

  root-path : (i word base : ℕ) → slice_get (root_words_of shown) i ≡ Some word → FallsIn shown.objects word base
      → (hops : List Hop) × IsPath shown hops base
  root-path i word base h f = elim (get-either shown.stack (flat_map scanned_cells_of shown.areas) i word h) [
    | inl own ↦ (hop_by (Stack i) base ∷ [], IsPath.From_stack i word base own f)
    | inr rest ↦
        let at = area-of shown.areas (i - length shown.stack) word rest.1 in
        (hop_by (Area at.0 at.1) base ∷ [], IsPath.From_area at.0 at.1 word base at.2 f)
  ]

  reached-path : (base : ℕ) → IsReachedAt shown.objects (root_words_of shown) base
      → (hops : List Hop) × IsPath shown hops base
  reached-path base (IsReachedAt.By_root _ object begins names) =
      let at = any_get (λ w. falls w base object.extent) (root_words_of shown) names in
      root-path at.0 at.1 base at.2 (record { object = object; begins = begins; within = at.3 })
  reached-path base (IsReachedAt.By_slot _ object by holder begins held names reached) =
      let at = any_get (λ w. falls w base object.extent) (scanned_words_of holder) names in
      let front = reached-path by reached in (
        front.0 ++ hop_by (Slot at.0) base ∷ [],
        IsPath.By_slot front.0 by holder at.0 at.1 base front.1 held at.2
            (record { object = object; begins = begins; within = at.3 }),
      )

  pub paths-reach : (base : ℕ)
      → ((hops : List Hop) × IsPath shown hops base) ↔ IsReachedAt shown.objects (root_words_of shown) base
  paths-reach base = (λ p. path-reached p.0 base p.1, λ r. reached-path base r)

-- a good state has one view
shown-one : (view : View) (a : State) → Shows view a → shown_in view ≡ shown_in (view_of a)
shown-one view a shows =
    let make : Shown → Shown = λ s. s in
    ap (λ os. record { objects = os; stack = view.stack; areas = view.areas }) shows.objects
    ∙ ap (λ ws. record { objects = (view_of a).objects; stack = ws; areas = view.areas }) shows.stack
    ∙ ap (λ areas. record { objects = (view_of a).objects; stack = (view_of a).stack; areas = areas }) shows.areas

pub paths-reach_state : (view : View) (a : State) (birth : ℕ) (object : Object) → IsGood a → Shows view a
    → Lives a birth object
    → ((hops : List Hop) × IsPath (shown_in view) hops object.base) ↔ IsReached a birth
paths-reach_state view a birth object good shows lives =
    subst (λ (s : Shown). ((hops : List Hop) × IsPath s hops object.base) ↔ IsReached a birth)
    (sym (shown-one view a shows)) (λ p. there (both.0 p), λ r. both.1 (back r))
  where
    both : ((hops : List Hop) × IsPath (shown_in (view_of a)) hops object.base)
        ↔ IsReachedAt (view_of a).objects (root_words_of (shown_in (view_of a))) object.base
    both = paths-reach (shown_in (view_of a)) object.base

    there : IsReachedAt (view_of a).objects (root_words_of (shown_in (view_of a))) object.base → IsReached a birth
    there r =
        (reached_same a good.placed).back birth object lives
        (subst (λ ws. IsReachedAt (view_of a).objects ws object.base) (marking_words-seen a) r)

    back : IsReached a birth → IsReachedAt (view_of a).objects (root_words_of (shown_in (view_of a))) object.base
    back r =
        subst (λ ws. IsReachedAt (view_of a).objects ws object.base) (sym (marking_words-seen a))
        ((reached_same a good.placed).there birth object lives r)
