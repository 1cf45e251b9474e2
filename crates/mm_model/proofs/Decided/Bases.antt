-- The objects of a decided set have their ascending list of bases.
use Rattle.std.proofs.Common.{◌≡◌, ℕ, ◌<◌, ◌≤◌, ◌==◌, Bool, true, false, List, [], ◌∷◌, eqb-true, refl, sym, ◌∙◌, ◌⊎◌}
use Rattle.std.proofs.Common.{inl, inr, arith}
use Rattle.std.specs.Prelude.{IsTrue, nat_lt, ◌||◌, if◌then◌else◌}
use Rattle.std.specs.List.{AllByRecursion}
use Rattle.std.proofs.lemmas.Bool.{eq-eqb, or_left, or_right}
use Rattle.std.proofs.lemmas.Bool.Decides.{nat_tests}
use Rattle.mm_model.specs.Object.{Object}
use Rattle.mm_model.specs.State.{State, Lives}
use Rattle.mm_model.specs.Phase.{lists, IsAscending, AreBasesOf}
use Rattle.mm_model.proofs.Decided.Members.{Numbered, living, at_live, each_living}
use Rattle.mm_model.proofs.Places.Placing.{each_weaker}

-- one more base, in its place, where it isn't listed yet
inserted : ℕ → List ℕ → List ℕ
inserted base [] = base ∷ []
inserted base (x ∷ xs) =
    if nat_lt base x then base ∷ x ∷ xs else if base == x then x ∷ xs else x ∷ inserted base xs

-- by where the base goes
module _ (P : List ℕ → Type 0) (base x : ℕ) (xs : List ℕ) (before : base < x → P (base ∷ x ∷ xs))
    (here : base ≡ x → P (x ∷ xs)) (behind : x < base → P (x ∷ inserted base xs)) where
  by_place : P (inserted base (x ∷ xs))
  unfolding inserted
  by_place = split (nat_lt base x) (base == x) refl refl
    where
      split : (less same : Bool) → nat_lt base x ≡ less → (base == x) ≡ same
          → P (if less then base ∷ x ∷ xs else if same then x ∷ xs else x ∷ inserted base xs)
      split true same e f = let l : base < x = grind (arith, nat_tests) in before l
      split false true e f = here (eqb-true _ _ f)
      split false false e f =
          let past : x ≤ base = grind (arith, nat_tests) in
          let other : base ≡ x → ⊥ = λ same. apart (sym f ∙ eq-eqb _ _ same) in
          behind (strictly x base past other)
        where
          apart : false ≡ true → ⊥
          apart e = cc

          strictly : (m n : ℕ) → m ≤ n → (n ≡ m → ⊥) → m < n
          strictly m n l f = omega arith

each_inserted : (P : ℕ → Type 0) (base : ℕ) (xs : List ℕ) → P base → AllByRecursion P xs
    → AllByRecursion P (inserted base xs)
unfolding inserted
each_inserted P base [] p h = (p, tt)
each_inserted P base (x ∷ xs) p h =
    by_place (AllByRecursion P) base x xs (λ less. (p, h)) (λ same. h) (λ more. (h.0, each_inserted P base xs p h.1))

ascending-inserted : (base : ℕ) (xs : List ℕ) → IsAscending xs → IsAscending (inserted base xs)
unfolding inserted
ascending-inserted base [] up = (tt, tt)
ascending-inserted base (x ∷ xs) up =
    by_place IsAscending base x xs
    (λ less. ((less, each_weaker (λ next. x < next) (λ next. base < next) (λ n above. omega arith) xs up.0), up))
    (λ same. up)
    (λ more. (each_inserted (λ next. x < next) base xs more up.0, ascending-inserted base xs up.1))

lists-inserted : (base : ℕ) (xs : List ℕ) → lists (inserted base xs) base ≡ true
unfolding inserted
lists-inserted base [] = or_left (base == base) false (eq-eqb base base refl)
lists-inserted base (x ∷ xs) =
    by_place (λ ys. lists ys base ≡ true) base x xs
    (λ less. or_left (base == base) (lists (x ∷ xs) base) (eq-eqb base base refl))
    (λ same. or_left (x == base) (lists xs base) (eq-eqb x base (sym same)))
    (λ more. or_right (x == base) (lists (inserted base xs) base) (lists-inserted base xs))

still-inserted : (base other : ℕ) (xs : List ℕ) → lists xs other ≡ true → lists (inserted base xs) other ≡ true
unfolding inserted
still-inserted base other [] e = cc
still-inserted base other (x ∷ xs) e =
    by_place (λ ys. lists ys other ≡ true) base x xs
    (λ less. or_right (base == other) (lists (x ∷ xs) other) e)
    (λ same. e)
    (λ more. later (x == other) (lists xs other) (lists (inserted base xs) other) (still-inserted base other xs) e)
  where
    later : (b c d : Bool) → (c ≡ true → d ≡ true) → (b || c) ≡ true → (b || d) ≡ true
    later true c d f e = refl
    later false c d f e = f e

module _ (a : State) (Dead : ℕ → Type 0) where
  abbrev IsDeadAt : ℕ → Type 0
  IsDeadAt base = (birth : ℕ) × (object : Object) × Lives a birth object × (object.base ≡ base) × Dead birth

  -- the bases of those of some live objects that are in the set
  record AreOf (members : List Numbered) : Type 0 where
    bases : List ℕ
    ascending : IsAscending bases
    only : AllByRecursion IsDeadAt bases
    all : AllByRecursion (λ m. Dead m.birth → IsTrue (lists bases m.object.base)) members

  -- with one more object, if it is in the set
  bases_with : (m : Numbered) (ms : List Numbered) → Lives a m.birth m.object → Dead m.birth ⊎ (Dead m.birth → ⊥)
      → AreOf ms → AreOf (m ∷ ms)
  bases_with m ms lives (inl dead) rest =
      record {
        bases = inserted m.object.base rest.bases;
        ascending = ascending-inserted m.object.base rest.bases rest.ascending;
        only = each_inserted IsDeadAt m.object.base rest.bases (m.birth, m.object, lives, refl, dead) rest.only;
        all = (
          λ own. lists-inserted m.object.base rest.bases,
          each_weaker (λ x. Dead x.birth → IsTrue (lists rest.bases x.object.base)) _
              (λ x h own. still-inserted m.object.base x.object.base rest.bases (h own)) ms rest.all,
        );
      }
  bases_with m ms lives (inr alive) rest =
      record {
        bases = rest.bases;
        ascending = rest.ascending;
        only = rest.only;
        all = (λ own. absurd (alive own), rest.all);
      }

  bases_of : (members : List Numbered) → AllByRecursion (λ m. Lives a m.birth m.object) members
      → AllByRecursion (λ m. Dead m.birth ⊎ (Dead m.birth → ⊥)) members → AreOf members
  bases_of [] lives decided = record { bases = []; ascending = tt; only = tt; all = tt }
  bases_of (m ∷ ms) lives decided = bases_with m ms lives.0 decided.0 (bases_of ms lives.1 decided.1)

-- A decided set of live objects has its list of bases, which a phase could free.
pub bases_of_decided : (a : State) (Dead : ℕ → Type 0)
    → ((birth : ℕ) (object : Object) → Lives a birth object → Dead birth ⊎ (Dead birth → ⊥))
    → (bases : List ℕ) × AreBasesOf a Dead bases
bases_of_decided a Dead decided =
    let found = bases_of a Dead (living a) (each_living (λ m. Lives a m.birth m.object) a (λ birth object lives. lives))
    (each_living (λ m. Dead m.birth ⊎ (Dead m.birth → ⊥)) a decided) in (
      found.bases,
      record {
        ascending = found.ascending;
        only = found.only;
        all = at_live (λ m. Dead m.birth → IsTrue (lists found.bases m.object.base)) a found.all;
      },
    )
