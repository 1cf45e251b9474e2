-- The greatest end of pieces, as tests see it.
use Rattle.std.proofs.Common.{◌≡◌, ℕ, ◌+◌, ◌/◌, ◌<◌, max, Bool, true, false, ◌||◌, List, [], ◌∷◌, refl, sym, ap, ◌∙◌}
use Rattle.std.proofs.Common.{arith}
use Rattle.std.proofs.lemmas.Bool.Decides.{nat_tests}
use Rattle.std.specs.Prelude.{nat_lt}
use Rattle.std.specs.List.{list_any, fold}
use Rattle.mm_model.specs.Places.Place.{Piece, page_end}
use Rattle.mm_model.proofs.Lists.Tests.{same_tests}
use Rattle.mm_model.proofs.Places.SeenAlike.{AreSeenAlike}

-- a piece ends past so many pages
unfoldable pub ends : ℕ → Piece → Bool
ends n piece = nat_lt n ((piece.base + piece.extent + 4095) / 4096)

pub fold-ends : (least n : ℕ) (pieces : List Piece)
    → nat_lt n (fold page_end least pieces) ≡ (nat_lt n least || list_any (ends n) pieces)
unfolding ends
fold-ends least n [] = or_false (nat_lt n least)
  where
    or_false : (b : Bool) → b ≡ (b || false)
    or_false true = refl
    or_false false = refl
fold-ends least n (p ∷ ps) =
    fold-ends (page_end least p) n ps
    ∙ ap (λ b. b || list_any (ends n) ps) (past_max n least ((p.base + p.extent + 4095) / 4096))
    ∙ regroup (nat_lt n least) (ends n p) (list_any (ends n) ps)
  where
    past_max : (n k m : ℕ) → nat_lt n (max k m) ≡ (nat_lt n k || nat_lt n m)
    past_max n k m =
        same_tests (nat_lt n (max k m)) (nat_lt n k || nat_lt n m) (λ e. grind (arith, nat_tests))
        (λ e. grind (arith, nat_tests))

    regroup : (b c d : Bool) → ((b || c) || d) ≡ (b || (c || d))
    regroup true c d = refl
    regroup false c d = refl

same_bounds : (m n : ℕ) → ((k : ℕ) → nat_lt k m ≡ nat_lt k n) → m ≡ n
same_bounds m n same =
    let below : (k : ℕ) → nat_lt k m ≡ nat_lt k n → k < m → k < n = λ k e l. grind (arith, nat_tests) in
    let above : (k : ℕ) → nat_lt k m ≡ nat_lt k n → k < n → k < m = λ k e l. grind (arith, nat_tests) in
    let one : n < m → ⊥ = λ l. let more = below n (same n) l in omega arith in
    let other : m < n → ⊥ = λ l. let more = above m (same m) l in omega arith in
    equal m n one other
  where
    equal : (m n : ℕ) → (n < m → ⊥) → (m < n → ⊥) → m ≡ n
    equal m n f g = omega arith

pub fold-alike : (least : ℕ) (ps qs : List Piece) → AreSeenAlike ps qs
    → fold page_end least ps ≡ fold page_end least qs
fold-alike least ps qs alike =
    same_bounds _ _ (λ k.
    fold-ends least k ps ∙ ap (λ b. nat_lt k least || b) (alike (ends k)) ∙ sym (fold-ends least k qs))
