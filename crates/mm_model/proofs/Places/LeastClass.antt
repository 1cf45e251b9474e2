-- The class that is taken is the least that is large enough.
use Rattle.std.proofs.Common.{◌≡◌, ℕ, zero, suc, ◌+◌, ◌*◌, ◌/◌, ◌<◌, ◌≤◌, Bool, true, false, not, cond, List, [], ◌∷◌}
use Rattle.std.proofs.Common.{length, get_or, refl, sym, ap, subst, arith}
use Rattle.std.proofs.lemmas.Bool.Decides.{nat_tests}
use Rattle.std.proofs.lemmas.List.Elements.{All-from_recursion}
use Rattle.std.specs.Prelude.{◌&&◌, nat_lt, nat_le}
use Rattle.std.specs.List.{AllByRecursion, Contains, prefix_len, position_or_len}
use Rattle.mm_model.specs.Places.SizeClass.{class_sizes, class_index, extent_of, extent_of_size}
use Rattle.mm_model.proofs.Places.Placing.{both, each_weaker}
use Rattle.mm_model.proofs.Places.Choosing.{size_of-small, size_of-large}

-- each element is above the one before it
rises : ℕ → List ℕ → Bool
rises low [] = true
rises low (x ∷ xs) = nat_lt low x && rises x xs

each_above : (low : ℕ) (xs : List ℕ) → rises low xs ≡ true → AllByRecursion (λ y. low < y) xs
unfolding rises
each_above low [] e = tt
each_above low (x ∷ xs) e =
    let parts = both (nat_lt low x) (rises x xs) e in
    let first : low < x = grind (arith, nat_tests) in
    (first, each_weaker _ _ (λ y l. omega (arith, first, l)) xs (each_above x xs parts.1))

-- the first that is large enough is the least
first-least : (bytes low : ℕ) (xs : List ℕ) → rises low xs ≡ true → (k d : ℕ) → k < length xs
    → bytes ≤ get_or xs k d → get_or xs (position_or_len (λ size. nat_le bytes size) xs) 0 ≤ get_or xs k d
unfolding rises
first-least bytes low [] e k d l h = absurd (omega arith)
first-least bytes low (x ∷ xs) e zero d l h =
    let fits : not (nat_le bytes x) ≡ false = grind (arith, nat_tests) in
    let here : get_or (x ∷ xs) (prefix_len (λ size. not (nat_le bytes size)) (x ∷ xs)) 0 ≡ x =
    ap (λ b. get_or (x ∷ xs) (cond b (1 + prefix_len (λ size. not (nat_le bytes size)) xs) 0) 0) fits in
    omega (arith, here)
first-least bytes low (x ∷ xs) e (suc k) d l h =
    let above = All-from_recursion (λ y. x < y) xs (each_above x xs (both (nat_lt low x) (rises x xs) e).1) in
    let within : k < length xs = omega arith in
    let rest = first-least bytes x xs (both (nat_lt low x) (rises x xs) e).1 k d within h in
    let next : 1 + prefix_len (λ size. not (nat_le bytes size)) xs
    ≡ suc (prefix_len (λ size. not (nat_le bytes size)) xs) = omega arith in
    let split : (b : Bool)
    → get_or (x ∷ xs) (cond b (1 + prefix_len (λ size. not (nat_le bytes size)) xs) 0) 0 ≤ get_or xs k d =
    elim [
      | true ↦ subst (λ n. get_or (x ∷ xs) n 0 ≤ get_or xs k d) (sym next) rest
      | false ↦ let over : x < get_or xs k d = above k d within in omega arith
    ] in
    split (not (nat_le bytes x))

classes_rise : rises 0 class_sizes ≡ true
unfolding rises class_sizes
classes_rise = refl

pub class-least : (bytes size : ℕ) → bytes ≤ 2048 → Contains class_sizes size → bytes ≤ size → extent_of bytes ≤ size
class-least bytes size small has fits =
    let at : get_or class_sizes has.0 size ≡ size = has.2 in
    let least = first-least bytes 0 class_sizes classes_rise has.0 size has.1 (omega (arith, at)) in
    let own : extent_of bytes ≡ get_or class_sizes (class_index bytes) 0 =
    ap extent_of_size (size_of-small bytes small) in
    omega (arith, own, at, least)

pub pages-least : (bytes count : ℕ) → 2048 < bytes → bytes ≤ 4096 * count → extent_of bytes ≤ 4096 * count
pages-least bytes count large fits =
    let own : extent_of bytes ≡ 4096 * ((bytes + 4095) / 4096) = ap extent_of_size (size_of-large bytes large) in
    omega (arith, own)
