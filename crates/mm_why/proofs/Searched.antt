-- Once all is followed that matters, what was found first has the shortest paths.
use Rattle.std.proofs.Common.{◌≡◌, ℕ, ◌+◌, ◌<◌, ◌≤◌, List, [], ◌∷◌, ◌++◌, length, Option, Some, None, inl, inr}
use Rattle.std.proofs.Common.{refl, sym, ap, subst, ◌∙◌, arith, length-append, zero, suc}
use Rattle.std.specs.Prelude.{slice_get, MatchOption, IfSome}
use Rattle.std.specs.List.{flat_map}
use Rattle.std.proofs.lemmas.Bool.{cases_lt}
use Rattle.std.proofs.lemmas.Option.{slice_get_within}
use Rattle.mm_model.specs.Views.ByBase.{Begins}
use Rattle.mm_model.specs.Views.View.{AreaView}
use Rattle.mm_model.specs.Views.ViewWords.{scanned_cells_of}
use Rattle.mm_model.proofs.Lists.Growing.{get-front}
use Rattle.mm_why.specs.declared.hop.Via.TheVariants.{Slot}
use Rattle.mm_why.specs.declared.hop.Hop.{Hop}
use Rattle.mm_why.specs.declared.found.Found.{Found}
use Rattle.mm_why.specs.Path.{Shown, FallsIn, IsAreaWord, IsPath, HasNoPath, IsPathOf, IsLeastLength, hop_by}
use Rattle.mm_why.specs.Path.{root_words_of}
use Rattle.mm_why.specs.Queue.{Queue, IsFound, IsSoundQueue}
use Rattle.mm_why.specs.Search.{AreWordsFound, IsFoundWithin, HaveReasons, AreFollowed, IsSearched, IsEntry}

past-end : {X : Type 0} (xs : List X) (i : ℕ) → slice_get xs i ≡ None → length xs ≤ i
past-end [] i e = omega arith
past-end (x ∷ xs) zero e = cc
past-end (x ∷ xs) (suc i) e = let rest = past-end xs i e in omega arith

-- an element of a joined list
pub get-behind : (xs ys : List ℕ) (i : ℕ) (word : ℕ) → slice_get ys i ≡ Some word
    → slice_get (xs ++ ys) (length xs + i) ≡ Some word
get-behind [] ys i word h = let same : 0 + i ≡ i = omega arith in ap (slice_get ys) same ∙ h
get-behind (x ∷ xs) ys i word h =
    let same : suc (length xs) + i ≡ suc (length xs + i) = omega arith in
    ap (slice_get (x ∷ xs ++ ys)) same ∙ get-behind xs ys i word h

pub get-flat : (f : AreaView → List ℕ) (areas : List AreaView) (place : ℕ) (area : AreaView) (cell word : ℕ)
    → slice_get areas place ≡ Some area → slice_get (f area) cell ≡ Some word
    → (k : ℕ) × (slice_get (flat_map f areas) k ≡ Some word)
get-flat f [] place area cell word e h = cc
get-flat f (own ∷ areas) zero area cell word e h =
    let same : area ≡ own = cc in
    (cell, get-front (f own) (flat_map f areas) cell word (sym (ap (λ (a : AreaView). slice_get (f a) cell) same) ∙ h))
get-flat f (own ∷ areas) (suc place) area cell word e h =
    let rest = get-flat f areas place area cell word e h in
    (length (f own) + rest.0, get-behind (f own) (flat_map f areas) rest.0 word rest.1)

module _ (shown : Shown) (found : List Found) (roots : AreWordsFound shown.objects found (root_words_of shown) 1)
    (next : ℕ) (followed : AreFollowed shown.objects found next) where
  root-stack : (cell word base : ℕ) → slice_get shown.stack cell ≡ Some word → FallsIn shown.objects word base
      → IsFoundWithin found base 1
  root-stack cell word base h falls =
      roots cell word base (get-front shown.stack (flat_map scanned_cells_of shown.areas) cell word h) falls

  root-area : (number cell word base : ℕ) → IsAreaWord shown.areas number cell word → FallsIn shown.objects word base
      → IsFoundWithin found base 1
  root-area number cell word base a falls =
      let at = get-flat scanned_cells_of shown.areas a.place a.area cell word a.is a.holds in
      roots (length shown.stack + at.0) word base
      (get-behind shown.stack (flat_map scanned_cells_of shown.areas) at.0 word at.1) falls

  -- so far all objects with shorter paths are followed
  abbrev AreFollowedBelow : ℕ → Type 0
  AreFollowedBelow bound =
      (i : ℕ) (entry : Found) → slice_get found i ≡ Some entry → entry.lead.length < bound → i < next

  path-within : (bound : ℕ) → AreFollowedBelow bound → (hops : List Hop) (base : ℕ) → IsPath shown hops base
      → length hops ≤ bound → IsFoundWithin found base (length hops)
  path-within bound below hops base (IsPath.From_stack cell word _ h falls) short = root-stack cell word base h falls
  path-within bound below hops base (IsPath.From_area number cell word _ a falls) short =
      root-area number cell word base a falls
  path-within bound below hops base (IsPath.By_slot front by holder slot word _ path begins holds falls) short =
      let size = length-append front (hop_by (Slot slot) base ∷ []) in
      let before = path-within bound below front by path (omega arith) in
      let there = subst (λ (n : ℕ). Begins shown.objects n holder) (sym before.at) begins in
      let bound_before = before.short in
      let place = below before.place before.entry before.is (omega arith) in
      let at = followed.slots before.place before.entry holder place before.is there slot word base holds falls in
      let bound_at = at.short in
      record { place = at.place; entry = at.entry; is = at.is; at = at.at; short = omega arith }

module _ (shown : Shown) (q : Queue) (sound : IsSoundQueue q)
    (roots : AreWordsFound shown.objects q.found (root_words_of shown) 1) (target : ℕ)
    (searched : IsSearched shown.objects q.found target) where
  within : (bound : ℕ) → AreFollowedBelow shown q.found roots searched.next searched.followed bound
      → (hops : List Hop) → IsPath shown hops target → length hops ≤ bound → IsFoundWithin q.found target (length hops)
  within bound below hops path short =
      path-within shown q.found roots searched.next searched.followed bound below hops target path short

  all-below : length q.found ≤ searched.next → (bound : ℕ)
      → AreFollowedBelow shown q.found roots searched.next searched.followed bound
  all-below past bound i entry h short = let inside = slice_get_within q.found i entry h in omega arith

  some-below : (last : Found) → slice_get q.found searched.next ≡ Some last
      → AreFollowedBelow shown q.found roots searched.next searched.followed last.lead.length
  some-below last is i entry h short = elim (cases_lt i searched.next) [
    | inl low ↦ low
    | inr high ↦ let order = sound.ordered searched.next i last entry high is h in absurd (omega arith)
  ]

  -- the entry of the target is the one
  found-least : (place : ℕ) (entry : Found) → slice_get q.found place ≡ Some entry → entry.base ≡ target → (most : ℕ)
      → IsFoundWithin q.found target most → entry.lead.length ≤ most
  found-least place entry is at most f =
      let one = sound.apart place f.place entry f.entry is f.is (at ∙ sym f.at) in
      let same : ◌≡◌ {A = Option Found} (Some entry) (Some f.entry) =
      sym is ∙ ap (slice_get q.found) one ∙ f.is in
      let entries : entry ≡ f.entry = cc in
      let lengths = ap (λ (e : Found). e.lead.length) entries in
      let short = f.short in
      omega arith

  least : (place : ℕ) (entry : Found) → slice_get q.found place ≡ Some entry → entry.base ≡ target
      → (hops : List Hop) → IsPath shown hops target → entry.lead.length ≤ length hops
  least place entry is at hops path = split (slice_get q.found searched.next) refl
    where
      split : (e : Option Found) → slice_get q.found searched.next ≡ e → entry.lead.length ≤ length hops
      split None none =
          let past = past-end q.found searched.next none in
          found-least place entry is at (length hops) (within (length hops) (all-below past (length hops)) hops path
          (omega arith))
      split (Some last) there = elim (cases_lt last.lead.length (length hops)) [
        | inl longer ↦ let level = searched.followed.level last there place entry is in omega arith
        | inr short ↦
            found-least place entry is at (length hops)
            (within last.lead.length (some-below last there) hops path short)
      ]

  -- and what wasn't found has no path
  absent : (IsFound q.found target → ⊥) → HasNoPath shown target
  absent none hops path = elim searched.enough [
    | inl found ↦ none found
    | inr past ↦
        let f = within (length hops) (all-below past (length hops)) hops path (omega arith) in
        none (record { place = f.place; entry = f.entry; is = f.is; at = f.at })
  ]

  pub answered : (result : Option ℕ) (hops : List Hop)
      → MatchOption result (IsFound q.found target → ⊥) (λ count. (entry : Found)
      × IsEntry q.found target entry × (entry.lead.length ≡ count))
      → IfSome result (λ count. IsPathOf shown target count hops)
      → MatchOption result (HasNoPath shown target) (IsLeastLength shown target)
  answered None hops none h = absent none
  answered (Some count) hops some path =
      record {
        hops = hops;
        path = path;
        least = λ others other.
            let is = some.2 in
            let short = least some.1.place some.0 some.1.is some.1.at others other in
            omega arith;
      }

-- the hops that are traced are a path over what is shown
pub told : (shown : Shown) (found : List Found) (target : ℕ) (hops : List Hop) (result : Option ℕ)
    → HaveReasons shown found → IfSome result (λ count. (other : Shown) → HaveReasons other found
    → IsPathOf other target count hops)
    → IfSome result (λ count. IsPathOf shown target count hops)
told shown found target hops None reasons path = tt
told shown found target hops (Some count) reasons path = path shown reasons
