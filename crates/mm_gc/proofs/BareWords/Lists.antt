-- Lists in which entries are overwritten, at once or one after the other.
use Rattle.std.proofs.Common.{◌≡◌, ℕ, zero, suc, ◌+◌, ◌<◌, ◌≤◌, List, [], ◌∷◌, ◌++◌, take, drop, length, sym, ap, ◌∙◌}
use Rattle.std.proofs.Common.{◌-◌, Some, refl, get_or, drop-cons, arith, append-nil, take-append-drop}
use Rattle.std.proofs.Common.{length-append, length-take-le, length-drop}
use Rattle.std.proofs.lemmas.List.{length-set}
use Rattle.std.proofs.lemmas.Option.{slice_get-get_or}
use Rattle.std.specs.Prelude.{slice_get, slice_set, slice_index, slice_range}
use Rattle.mm_gc.specs.BareWords.{overwritten}

pub overwritten-none : {X : Type 0} (xs : List X) (s : ℕ) → overwritten xs s [] ≡ xs
overwritten-none xs s =
    let at : s + 0 ≡ s = omega arith in
    ap (λ front. front ++ drop (s + 0) xs) (append-nil (take s xs))
    ∙ ap (λ n. take s xs ++ drop n xs) at ∙ take-append-drop s xs

overwritten-suc : {X : Type 0} (x : X) (xs : List X) (s : ℕ) (ys : List X)
    → overwritten (x ∷ xs) (suc s) ys ≡ x ∷ overwritten xs s ys
overwritten-suc x xs s ys =
    let more : suc s + length ys ≡ suc (s + length ys) = omega arith in
    ap (λ n. take (suc s) (x ∷ xs) ++ ys ++ drop n (x ∷ xs)) more

overwritten-first : {X : Type 0} (x y : X) (xs ys : List X)
    → overwritten (x ∷ xs) 0 (y ∷ ys) ≡ overwritten (y ∷ xs) 1 ys
overwritten-first x y xs ys =
    let all : 0 + length (y ∷ ys) ≡ suc (length ys) = omega arith in
    let rest : 1 + length ys ≡ suc (length ys) = omega arith in
    ap (λ n. (y ∷ ys) ++ drop n (x ∷ xs)) all
    ∙ sym (ap (λ n. (y ∷ []) ++ ys ++ drop n (y ∷ xs)) rest)

-- the first entry is written first
pub overwritten-more : {X : Type 0} (xs : List X) (s : ℕ) (y : X) (ys : List X) → s < length xs
    → overwritten xs s (y ∷ ys) ≡ overwritten (slice_set xs s y) (s + 1) ys
overwritten-more [] s y ys within = absurd (omega arith)
overwritten-more (x ∷ xs) zero y ys within = overwritten-first x y xs ys
overwritten-more (x ∷ xs) (suc s) y ys within =
    let more : suc s + 1 ≡ suc (s + 1) = omega arith in
    overwritten-suc x xs s (y ∷ ys) ∙ ap (λ zs. x ∷ zs) (overwritten-more xs s y ys (omega arith))
    ∙ sym (overwritten-suc x (slice_set xs s y) (s + 1) ys)
    ∙ ap (λ n. overwritten (x ∷ slice_set xs s y) n ys) (sym more)

-- the next entry is written last
pub overwritten-next : (xs : List ℕ) (s : ℕ) (words : List ℕ) (k : ℕ) → k < length words
    → s + length words ≤ length xs
    → slice_set (overwritten xs s (take k words)) (s + k) (slice_index words k) ≡ overwritten xs s (take (k + 1) words)
overwritten-next xs s [] k below fits = absurd (omega arith)
overwritten-next xs s (w ∷ ws) zero below fits =
    let here : s + 0 ≡ s = omega arith in
    ap (λ n. slice_set (overwritten xs s []) n w) here
    ∙ ap (λ zs. slice_set zs s w) (overwritten-none xs s)
    ∙ sym (overwritten-more xs s w [] (omega arith) ∙ overwritten-none (slice_set xs s w) (s + 1))
overwritten-next xs s (w ∷ ws) (suc k) below fits =
    let more : suc k + 1 ≡ suc (k + 1) = omega arith in
    let shift : s + suc k ≡ s + 1 + k = omega arith in
    let size = length-set xs s w in
    ap (λ n. slice_set (overwritten xs s (w ∷ take k ws)) n (slice_index ws k)) shift
    ∙ ap (λ zs. slice_set zs (s + 1 + k) (slice_index ws k)) (overwritten-more xs s w (take k ws) (omega arith))
    ∙ overwritten-next (slice_set xs s w) (s + 1) ws k (omega arith) (omega arith)
    ∙ sym (overwritten-more xs s w (take (k + 1) ws) (omega arith))
    ∙ ap (λ n. overwritten xs s (take n (w ∷ ws))) (sym more)

pub length-overwritten : {X : Type 0} (xs : List X) (s : ℕ) (ys : List X) → s + length ys ≤ length xs
    → length (overwritten xs s ys) ≡ length xs
length-overwritten xs s ys fits =
    let whole = length-append (take s xs ++ ys) (drop (s + length ys) xs) in
    let front = length-append (take s xs) ys in
    let begin = length-take-le s xs (omega arith) in
    let rest = length-drop (s + length ys) xs in
    omega arith

-- a list whose entries are those of another from one on
pub range-is : (xs : List ℕ) (s : ℕ) (ys : List ℕ) → s + length ys ≤ length xs
    → ((k : ℕ) → k < length ys → slice_get ys k ≡ slice_get xs (s + k)) → ys ≡ slice_range xs s (s + length ys)
range-is xs s ys fits same =
    let size : s + length ys - s ≡ length ys = omega arith in
    at s ys fits same ∙ ap (λ n. take n (drop s xs)) (sym size)
  where
    at : (s : ℕ) (ys : List ℕ) → s + length ys ≤ length xs
        → ((k : ℕ) → k < length ys → slice_get ys k ≡ slice_get xs (s + k)) → ys ≡ take (length ys) (drop s xs)
    at s [] fits same = refl
    at s (y ∷ ys) fits same =
        let here : s + 0 ≡ s = omega arith in
        let first : Some y ≡ Some (get_or xs s 0) =
        same 0 (omega arith) ∙ ap (slice_get xs) here ∙ slice_get-get_or xs s 0 (omega arith) in
        let own : y ≡ get_or xs s 0 = cc in
        let rest = at (suc s) ys (omega arith)
        (λ k below.
        let more : suc s + k ≡ s + suc k = omega arith in
        same (suc k) (omega arith) ∙ ap (slice_get xs) (sym more)) in
        ap (λ z. z ∷ ys) own ∙ ap (λ zs. get_or xs s 0 ∷ zs) rest
        ∙ ap (take (suc (length ys))) (sym (drop-cons xs s 0 (omega arith)))
