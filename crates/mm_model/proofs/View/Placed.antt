-- Blocks don't overlap in the view of a state in which they don't.
use Rattle.std.proofs.Common.{◌≡◌, ℕ, suc, ◌<◌, ◌≤◌, List, [], ◌∷◌, ◌++◌, map, Some, refl, sym, ap, subst, ⊎_elim}
use Rattle.std.proofs.Common.{arith}
use Rattle.std.proofs.lemmas.Bool.{cases_lt}
use Rattle.std.specs.Prelude.{slice_get}
use Rattle.std.specs.List.{AllByRecursion}
use Rattle.mm_model.specs.Object.{Object, live_objects}
use Rattle.mm_model.specs.State.{State, Lives}
use Rattle.mm_model.specs.Places.Place.{Piece, object_piece, area_piece, live_pieces}
use Rattle.mm_model.specs.Phase.{IsAscending}
use Rattle.mm_model.specs.Good.{IsInside, AreApart, AreAllApart, IsPlaced}
use Rattle.mm_model.specs.Views.ByBase.{Based, based}
use Rattle.mm_model.specs.Views.ObjectView.{ObjectView, piece_of_object, pieces_of_objects}
use Rattle.mm_model.specs.Views.View.{seen_objects, view_of}
use Rattle.mm_model.specs.Views.ViewWords.{view_pieces}
use Rattle.mm_model.proofs.Good.Making.AreaBirths.{apart-sym}
use Rattle.mm_model.proofs.Good.Living.{each_after, each_before, each_append, all_apart-after, live_piece, live_apart}
use Rattle.mm_model.proofs.Good.Living.{lives_inside, lives_same}
use Rattle.mm_model.proofs.View.ByBase.Entries.{ascending-based}
use Rattle.mm_model.proofs.View.Room.{area_pieces-seen}
use Rattle.mm_model.proofs.View.ByBase.Seen.{seen_based, seen-based}

-- pieces are still apart where the last ones give way to others from which each is apart that was apart from those
all_apart-behind : (ps qs rs : List Piece) → AreAllApart (ps ++ qs)
    → ((p : Piece) → AllByRecursion (AreApart p) qs → AllByRecursion (AreApart p) rs) → AreAllApart rs
    → AreAllApart (ps ++ rs)
all_apart-behind [] qs rs h others own = own
all_apart-behind (p ∷ ps) qs rs h others own = (
  each_append (AreApart p) ps rs (each_before (AreApart p) ps qs h.0)
      (others p (each_after (AreApart p) ps qs h.0)),
  all_apart-behind ps qs rs h.1 others own,
)

module _ (a : State) where
  -- a live object, as it stands in the view
  LivesSeen : Based ObjectView → Type 0
  LivesSeen o = (birth : ℕ) × (object : Object) × Lives a birth object × (o ≡ seen_based a birth object)

  each_piece : (P : Piece → Type 0) (os : List (Based ObjectView))
      → ((n : ℕ) (o : Based ObjectView) → slice_get os n ≡ Some o → LivesSeen o)
      → ((birth : ℕ) (object : Object) → Lives a birth object → P (object_piece object))
      → AllByRecursion P (map piece_of_object os)
  unfolding LivesSeen
  each_piece P [] live each = tt
  each_piece P (o ∷ os) live each =
      let one = live 0 o refl in (
        subst (λ x. P (piece_of_object x)) (sym one.3) (each one.0 one.1 one.2),
        each_piece P os (λ n. live (suc n)) each,
      )

module _ (a : State) (placed : IsPlaced a.settings.max (live_pieces a)) where
  objects_apart : AreAllApart (map object_piece (live_objects a.objects))
  objects_apart = all_apart-after (map area_piece a.areas) _ placed.apart

  -- of two live objects the one that begins before the other is apart from it
  two_apart : (i j : ℕ) (x y : Object) → Lives a i x → Lives a j y → x.base < y.base
      → AreApart (object_piece x) (object_piece y)
  two_apart i j x y h k less =
      let other : i ≡ j → ⊥ = λ same.
      let one : x ≡ y = lives_same a j x y (subst (λ n. Lives a n x) same h) k in
      let base : x.base ≡ y.base = ap (λ (o : Object). o.base) one in
      omega arith in
      ⊎_elim (λ (l : i < j). live_apart a.objects i j x y objects_apart h.is h.live k.is k.live l)
      (λ (r : j ≤ i).
      let behind : j < i = later i j other r in
      apart-sym (object_piece y) (object_piece x)
      (live_apart a.objects j i y x objects_apart k.is k.live h.is h.live behind))
      (cases_lt i j)
    where
      later : (m n : ℕ) → (m ≡ n → ⊥) → n ≤ m → n < m
      later m n other h = omega arith

  others_apart : (o : Based ObjectView) (os : List (Based ObjectView)) → LivesSeen a o
      → AllByRecursion (λ next. o.base < next) (map (λ q. q.base) os)
      → ((n : ℕ) (q : Based ObjectView) → slice_get os n ≡ Some q → LivesSeen a q)
      → AllByRecursion (AreApart (piece_of_object o)) (map piece_of_object os)
  unfolding LivesSeen
  others_apart o [] one past live = tt
  others_apart o (q ∷ os) one past live =
      let next = live 0 q refl in
      let own : o.base ≡ one.1.base = ap (λ (x : Based ObjectView). x.base) one.3 in
      let there : q.base ≡ next.1.base = ap (λ (x : Based ObjectView). x.base) next.3 in
      let less : one.1.base < next.1.base = let before = past.0 in omega arith in
      let apart = two_apart one.0 next.0 one.1 next.1 one.2 next.2 less in (
        subst (λ x. AreApart (piece_of_object x) (piece_of_object q)) (sym one.3)
            (subst (λ x. AreApart (object_piece one.1) (piece_of_object x)) (sym next.3) apart),
        others_apart o os one past.1 (λ n. live (suc n)),
      )

  each_apart : (os : List (Based ObjectView)) → IsAscending (map (λ o. o.base) os)
      → ((n : ℕ) (o : Based ObjectView) → slice_get os n ≡ Some o → LivesSeen a o)
      → AreAllApart (map piece_of_object os)
  each_apart [] past live = tt
  each_apart (o ∷ os) past live =
      (others_apart o os (live 0 o refl) past.0 (λ n. live (suc n)), each_apart os past.1 (λ n. live (suc n)))

  live_seen : (n : ℕ) (o : Based ObjectView) → slice_get (based (seen_objects a)) n ≡ Some o → LivesSeen a o
  unfolding LivesSeen
  live_seen n o is = seen-based a placed n o is

  -- what holds of the piece of each live object holds of each piece of the view's objects
  each_object : (P : Piece → Type 0) → ((birth : ℕ) (object : Object) → Lives a birth object → P (object_piece object))
      → AllByRecursion P (pieces_of_objects (seen_objects a))
  each_object P each = each_piece a P (based (seen_objects a)) live_seen each

  pub placed-seen : IsPlaced a.settings.max (view_pieces (view_of a))
  placed-seen =
      let areas = map area_piece a.areas in
      let objects = pieces_of_objects (seen_objects a) in
      let own : IsPlaced a.settings.max (areas ++ objects) =
      record {
        inside = each_append (IsInside a.settings.max) areas objects
            (each_before (IsInside a.settings.max) areas _ placed.inside)
            (each_object (IsInside a.settings.max) (λ birth object lives. lives_inside a placed birth object lives));
        apart = all_apart-behind areas (map object_piece (live_objects a.objects)) objects placed.apart
            (λ p h.
            each_object (AreApart p)
            (λ birth object lives. live_piece (AreApart p) a.objects birth object h lives.is lives.live))
            (each_apart (based (seen_objects a)) (ascending-based (seen_objects a)) live_seen);
      } in
      subst (λ ps. IsPlaced a.settings.max (ps ++ objects)) (sym (area_pieces-seen a.areas)) own
