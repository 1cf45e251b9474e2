-- Words that are taken from the top of a stack.
use Rattle.std.proofs.Common.{◌≡◌, ℕ, ◌-◌, ◌≤◌, List, ◌++◌, reverse, length, take, drop, sym, ap, ◌∙◌, arith}
use Rattle.std.proofs.lemmas.List.{reverse-append, length-reverse, take-append-drop, length-drop, drop-append-le}
use Rattle.std.proofs.lemmas.List.{drop_all}

pub popped : (cells : List ℕ) (count : ℕ) → count ≤ length cells
    → reverse (take (length cells - count) cells) ≡ drop count (reverse cells)
popped cells count within =
    let rest = length cells - count in
    let front = take rest cells in
    let back = drop rest cells in
    let whole : reverse cells ≡ reverse back ++ reverse front =
    ap reverse (sym (take-append-drop rest cells)) ∙ reverse-append front back in
    let long : length (reverse back) ≡ count = omega (arith, length-reverse back, length-drop rest cells) in
    sym
    (ap (drop count) whole
    ∙ drop-append-le count (reverse back) (reverse front) (omega (arith, long))
    ∙ ap (λ (xs : List ℕ). xs ++ reverse front) (drop_all count (reverse back) (omega (arith, long))))
