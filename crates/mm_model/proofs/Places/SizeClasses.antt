-- The size of a piece is a cell of the table that is large enough, or whole pages.
use Rattle.std.proofs.Common.{◌≡◌, ℕ, suc, not, ◌+◌, ◌%◌, ◌<◌, ◌≤◌, Bool, true, false, cond, List, [], ◌∷◌, ◌++◌}
use Rattle.std.proofs.Common.{length, refl, ap, arith}
use Rattle.std.proofs.lemmas.Bool.Decides.{nat_tests}
use Rattle.std.proofs.lemmas.List.Elements.{All-contains, All-from_recursion, Contains-get_or}
use Rattle.std.proofs.lemmas.List.Sums.{passes_at_first}
use Rattle.std.specs.Prelude.{slice_index, nat_le}
use Rattle.std.specs.List.{Contains, AllByRecursion, prefix_len}
use Rattle.mm_model.specs.Places.SizeClass.{class_sizes, class_index}

-- what holds of the cells of each class
pub record IsCellSize (extent : ℕ) : Type 0 where
  pub least : 16 ≤ extent
  pub most : extent ≤ 2048
  pub even : extent % 16 ≡ 0

cell_size : (extent : ℕ) → nat_le 16 extent ≡ true → nat_le extent 2048 ≡ true → extent % 16 ≡ 0 → IsCellSize extent
cell_size extent a b c = record { least = grind (arith, nat_tests); most = grind (arith, nat_tests); even = c }

each_cell_size : AllByRecursion IsCellSize class_sizes
unfolding class_sizes
each_cell_size = (
  cell_size 16 refl refl refl,
  (
    cell_size 32 refl refl refl,
    (
      cell_size 48 refl refl refl,
      (
        cell_size 64 refl refl refl,
        (
          cell_size 80 refl refl refl,
          (
            cell_size 96 refl refl refl,
            (
              cell_size 112 refl refl refl,
              (
                cell_size 128 refl refl refl,
                (
                  cell_size 160 refl refl refl,
                  (
                    cell_size 192 refl refl refl,
                    (
                      cell_size 256 refl refl refl,
                      (
                        cell_size 336 refl refl refl,
                        (
                          cell_size 448 refl refl refl,
                          (
                            cell_size 512 refl refl refl,
                            (
                              cell_size 672 refl refl refl,
                              (
                                cell_size 816 refl refl refl,
                                (
                                  cell_size 1024 refl refl refl,
                                  (
                                    cell_size 1360 refl refl refl,
                                    (cell_size 2048 refl refl refl, tt),
                                  ),
                                ),
                              ),
                            ),
                          ),
                        ),
                      ),
                    ),
                  ),
                ),
              ),
            ),
          ),
        ),
      ),
    ),
  ),
)

pub class_bounds : (extent : ℕ) → Contains class_sizes extent → IsCellSize extent
class_bounds extent h =
    All-contains IsCellSize class_sizes extent (All-from_recursion IsCellSize class_sizes each_cell_size) h

-- how many pass from the front on, where the last element doesn't
prefix_len-le : (p : ℕ → Bool) (xs : List ℕ) (y : ℕ) → p y ≡ false → prefix_len p (xs ++ y ∷ []) ≤ length xs
prefix_len-le p [] y h = let none : prefix_len p (y ∷ []) ≡ 0 = ap (λ b. cond b (1 + 0) 0) h in omega (arith, none)
prefix_len-le p (x ∷ xs) y h =
    let rest = prefix_len-le p xs y h in
    let split : (b : Bool) → cond b (1 + prefix_len p (xs ++ y ∷ [])) 0 ≤ suc (length xs) =
    elim [ true ↦ omega arith | false ↦ omega arith ] in
    split (p x)

smaller_classes : List ℕ
smaller_classes =
    16 ∷ 32 ∷ 48 ∷ 64 ∷ 80 ∷ 96 ∷ 112 ∷ 128 ∷ 160 ∷ 192 ∷
    256 ∷ 336 ∷ 448 ∷ 512 ∷ 672 ∷ 816 ∷ 1024 ∷ 1360 ∷ []

pub class_index-below : (bytes : ℕ) → bytes ≤ 2048 → class_index bytes < length class_sizes
unfolding class_sizes smaller_classes
class_index-below bytes h =
    let fits : not (nat_le bytes 2048) ≡ false = grind (arith, nat_tests) in
    let low = prefix_len-le (λ size. not (nat_le bytes size)) smaller_classes 2048 fits in
    omega arith

pub class_of_small : (bytes : ℕ) → bytes ≤ 2048 → Contains class_sizes (slice_index class_sizes (class_index bytes))
class_of_small bytes h = Contains-get_or class_sizes (class_index bytes) 0 (class_index-below bytes h)

-- a class is large enough for what it is taken for
pub class_fits : (bytes : ℕ) → bytes ≤ 2048 → bytes ≤ slice_index class_sizes (class_index bytes)
class_fits bytes h =
    let passes : nat_le bytes (slice_index class_sizes (class_index bytes)) ≡ true =
    passes_at_first (λ size. nat_le bytes size) class_sizes 0 (class_index-below bytes h) in
    grind (arith, nat_tests)
