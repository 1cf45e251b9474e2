-- Runs of words are cut, joined and handed to vectors, with their values. Assumes `Logic`.
use Rattle.std.proofs.Common.{
  ◌≡◌,
  ℕ,
  zero,
  suc,
  ◌+◌,
  ◌-◌,
  ◌*◌,
  ◌^◌,
  ◌<◌,
  ◌≤◌,
  List,
  [],
  ◌∷◌,
  length,
  take,
  drop,
  refl,
  sym,
  ap,
  arith,
  Bool,
  true,
  false,
  ltb,
  ltb-true,
  ltb-false,
  not,
  ne_eqb,
}
use lib.ListN.{length-take, length-drop}
use Rattle.std.proofs.lemmas.List.{take_all}
use seplogic.Ra.Ura.{Ura}
use mir.Syntax.{w32, ty_int}
use base.Fraction.{full_share}
use base.Logic.{SProp, ent, sep, emp}
use base.Fml.{Fml, ftrue, froom}
use types.Logic.{Logic, sem}
use types.Kit.{
  ‵,
  ◌⊛◌,
  given,
  ◌$◌,
  ◌∵◌,
  !,
  qed,
  by,
  move,
  keep,
  drop as let_go,
  use0,
  use1,
  use2,
  split,
  split3,
  learn,
  fsplit,
  fsplit3,
  fjoin,
  fjoin3,
  rewrite,
  flt_i,
  done,
}
use denote.Memory.{part_at}
use denote.Array.{Array}
use denote.Index.{row}
use denote.Builtin.{u32}
use denote.Steps.{nothing}
use denote.Struct.Field.{u32-field}
use denote.Struct.Laws.{u32-laws, u32-copy}
use denote.Param.Laws.{Laws, of_field}
use denote.Param.Shared.{copy_shared}
use Rattle.std.specs.Allocator.{block_with_items}
use Rattle.std_alloc.specs.Vec.Ownership.{lodged, owns_if, has_block}
use Rattle.std_alloc.proofs.OfLodged.{lodging}
use Rattle.std_alloc.proofs.VecSteps.El.{El}
use Rattle.std_alloc.proofs.VecSteps.Rows.{apart, row_room, empty, room_split, glued}
use Rattle.std_alloc.proofs.VecSteps.Gaps.{cut}
use Rattle.mm_words.specs.Piece.{Name}
use Rattle.mm_words.specs.Ownership.{words_type, word, words_room, debt, run_owns, at_place}
use Rattle.mm_words.proofs.Debts.{debt_cut, debt_glue}

pub word_laws : Laws u32
word_laws = of_field u32-field u32-laws refl (copy_shared u32-field u32-copy)

abbrev pub E : El
E = lodging u32 word_laws

pub by_order : {X : Type 1} (m n : ℕ) → (m < n → X) → (n ≤ m → X) → X
by_order {X} m n less more = by_test (ltb m n) (λ t. less (ltb-true m n t)) (λ t. more (ltb-false m n t))
  where
    by_test : (t : Bool) → (t ≡ true → X) → (t ≡ false → X) → X
    by_test true y n' = y refl
    by_test false y n' = n' refl

some_block : (n : ℕ) → has_block (suc n) ≡ true
some_block n = ap not (ne_eqb (suc n) 0 (λ e. absurd (omega arith)))

module _ {M : Type 1} {𝓤 : Ura M} (𝓛 : Logic 𝓤) (a : Name) where
  open 𝓛 use {H}

  abbrev Pr : Type 2
  Pr = SProp 𝓤

  abbrev ◌⊢◌ : Pr → Pr → Type 1
  P ⊢ Q = ent 𝓤 P Q

  abbrev ◌∗◌ : Pr → Pr → Pr
  P ∗ Q = sep 𝓤 P Q

  abbrev ⟦◌⟧ : Fml → Pr
  ⟦ P ⟧ = sem 𝓛 P

  infix 26 ◌⊢◌
  infixr 35 ◌∗◌
  abbrev at : ℕ → ℕ
  at x = a.start + 4 * x

  -- the values ws from the place x on
  abbrev pub values : ℕ → List ℕ → Fml
  values x ws = part_at (Array word (length ws)) full_share ws a.block (at x)

  pub rooms_cut : (m n k x y : ℕ) → m + n ≡ k → x + m ≡ y → ⟦ words_room a x k ⟧
      ⊢ ⟦ words_room a x m ⟧ ∗ ⟦ words_room a y n ⟧
  rooms_cut m n k x y sum place =
      qed 𝓛 (‵ (words_room a x k) ∷ []) ∵ use1 𝓛 (‵ (words_room a x m) ⊛ ‵ (froom (words_type (k - m)) a.block
      (at x + m * 4))) (room_split E 𝓛 m k a.block (at x) (omega arith)) $ split ! $
      rewrite ! 1 (λ (d : ℕ). ‵ (froom (words_type (k - m)) a.block d))
      (let e : at x + m * 4 ≡ at y = omega arith in e) refl $
      rewrite ! 1 (λ (j : ℕ). ‵ (words_room a y j)) (let e : k - m ≡ n = omega arith in e) refl $ done !

  pub rooms_glue : (m n k x y : ℕ) → m + n ≡ k → x + m ≡ y → ⟦ words_room a x m ⟧ ∗ ⟦ words_room a y n ⟧
      ⊢ ⟦ words_room a x k ⟧
  rooms_glue m n k x y sum place =
      qed 𝓛 (‵ (words_room a x m) ∷ ‵ (words_room a y n) ∷ []) ∵
      rewrite ! 1 (λ (d : ℕ). ‵ (froom (words_type n) a.block d)) (let e : at y ≡ at x + m * 4 = omega arith in
      e) refl $
      by ! (glued E 𝓛 m n k a.block (at x) sum)

  pub no_values : (x : ℕ) → emp 𝓤 ⊢ ⟦ values x [] ⟧
  no_values x = empty E 𝓛 [] a.block (at x) refl

  pub no_room : (x : ℕ) → emp 𝓤 ⊢ ⟦ words_room a x 0 ⟧
  no_room x = 𝓛.laws.room_nil (ty_int w32) a.block (at x)

  -- values are let go
  pub blanks : (x : ℕ) (ws : List ℕ) → ⟦ values x ws ⟧ ⊢ ⟦ words_room a x (length ws) ⟧
  blanks x ws =
      qed 𝓛 (‵ (values x ws) ∷ []) ∵ use1 𝓛 (given (length ws ≡ length ws)
      (‵ (row word full_share ws a.block (at x)))) (apart E 𝓛 full_share (length ws) ws a.block (at x)) $
      learn ! (λ _.
      by ! (row_room E 𝓛 ws a.block (at x)))

  pub run_blanks : (x n : ℕ) (ws : List ℕ) → length ws ≤ n → ⟦ run_owns a x n ws ⟧
      ⊢ ⟦ words_room a x n ⟧ ∗ ⟦ debt a x n ⟧
  run_blanks x n ws within =
      qed 𝓛 (‵ (run_owns a x n ws) ∷ []) ∵ fsplit3 ! $ use1 𝓛 (‵ (words_room a x (length ws))) (blanks x ws) $
      use2 𝓛 (‵ (words_room a x n)) (rooms_glue (length ws) (n - length ws) n x (x + length ws)
      (omega arith) refl) $ done !

  pub run_blank : (x n : ℕ) → ⟦ words_room a x n ⟧ ∗ ⟦ debt a x n ⟧ ⊢ ⟦ run_owns a x n [] ⟧
  run_blank x n =
      qed 𝓛 (‵ (words_room a x n) ∷ ‵ (debt a x n) ∷ []) ∵ rewrite ! 0 (λ (j : ℕ). ‵ (words_room a j n))
      (let e : x ≡ x + 0 = omega arith in e) refl $
      rewrite ! 0 (λ (j : ℕ). ‵ (words_room a (x + 0) j)) (let e : n ≡ n - 0 = omega arith in e) refl $
      use0 𝓛 (‵ (values x [])) (no_values x) $ fjoin3 ! $ done !

  -- the first m places keep their values
  pub values_cut : (x n m : ℕ) (ws : List ℕ) → length ws ≤ n → m ≤ n
      → ⟦ values x ws ⟧ ∗ ⟦ words_room a (x + length ws) (n - length ws) ⟧
      ⊢ ⟦ values x (take m ws) ⟧ ∗ ⟦ words_room a (x + length (take m ws)) (m - length (take m ws)) ⟧
      ∗ ⟦ words_room a (x + m) (n - m) ⟧
  values_cut x n m ws within most =
      by_order m (length ws)
      (λ short. let l : length (take m ws) ≡ m = omega (arith, length-take m ws) in
      let r : length (drop m ws) ≡ length ws - m = length-drop m ws in
      qed 𝓛 (‵ (values x ws) ∷ ‵ (words_room a (x + length ws) (n - length ws)) ∷ []) ∵
      use1 𝓛 (‵ (part_at (Array word m) full_share (take m ws) a.block (at x)) ⊛ ‵ (row word full_share
      (drop m ws) a.block (m * 4 + at x))) (cut E 𝓛 a.block (at x) (length ws) m ws (omega arith)) $ split ! $
      rewrite ! 0 (λ (j : ℕ). ‵ (part_at (Array word j) full_share (take m ws) a.block (at x))) (sym l) refl $
      move ! (1 ∷ []) $
      use1 𝓛 (‵ (froom (words_type (length (drop m ws))) a.block (m * 4 + at x)))
      (row_room E 𝓛 (drop m ws) a.block (m * 4 + at x)) $
      rewrite ! 0 (λ (d : ℕ). ‵ (froom (words_type (length (drop m ws))) a.block d))
      (let e : m * 4 + at x ≡ at (x + m) = omega arith in e) refl $ move ! (0 ∷ 2 ∷ []) $
      use2 𝓛 (‵ (words_room a (x + m) (n - m))) (rooms_glue (length (drop m ws)) (n - length ws) (n - m) (x + m)
      (x + length ws) (omega arith) (omega arith)) $
      use0 𝓛 (‵ (words_room a (x + length (take m ws)) 0)) (no_room (x + length (take m ws))) $
      rewrite ! 0 (λ (j : ℕ). ‵ (words_room a (x + length (take m ws)) j))
      (let e : 0 ≡ m - length (take m ws) = omega arith in e) refl $ move ! (2 ∷ []) $ done !)
      (λ long. let same : take m ws ≡ ws = take_all m ws long in
      let l : length (take m ws) ≡ length ws = ap length same in
      qed 𝓛 (‵ (values x ws) ∷ ‵ (words_room a (x + length ws) (n - length ws)) ∷ []) ∵
      rewrite ! 0 (λ (us : List ℕ). ‵ (values x us)) (sym same) refl $ move ! (1 ∷ []) $
      rewrite ! 0 (λ (j : ℕ). ‵ (words_room a (x + j) (n - j))) (sym l) refl $
      use1 𝓛 (‵ (words_room a (x + length (take m ws)) (m - length (take m ws))) ⊛ ‵ (words_room a (x + m) (n - m)))
      (rooms_cut (m - length (take m ws)) (n - m) (n - length (take m ws)) (x + length (take m ws)) (x + m)
      (omega arith) (omega arith)) $ split ! $ move ! (2 ∷ []) $ done !)

  pub run_cut : (x n m : ℕ) (ws : List ℕ) → length ws ≤ n → m ≤ n
      → ⟦ run_owns a x n ws ⟧ ⊢ ⟦ run_owns a x m (take m ws) ⟧ ∗ ⟦ run_owns a (x + m) (n - m) [] ⟧
  run_cut x n m ws within most =
      qed 𝓛 (‵ (run_owns a x n ws) ∷ []) ∵ fsplit3 ! $
      use2 𝓛 (‵ (values x (take m ws)) ⊛ ‵ (words_room a (x + length (take m ws))
      (m - length (take m ws))) ⊛ ‵ (words_room a (x + m) (n - m))) (values_cut x n m ws within most) $
      split3 ! $ move ! (3 ∷ []) $
      use1 𝓛 (‵ (debt a x m) ⊛ ‵ (debt a (x + m) (n - m))) (debt_cut 𝓛 a m (n - m) n x (x + m)
      (omega arith) refl) $ split ! $ move ! (2 ∷ 3 ∷ 0 ∷ []) $ fjoin3 ! $ move ! (2 ∷ 1 ∷ []) $
      use2 𝓛 (‵ (run_owns a (x + m) (n - m) [])) (run_blank (x + m) (n - m)) $ move ! (1 ∷ 0 ∷ []) $ done !

  pub run_join : (x n m : ℕ) (ws vs : List ℕ) → length ws ≤ n → length vs ≤ m
      → ⟦ run_owns a x n ws ⟧ ∗ ⟦ run_owns a (x + n) m vs ⟧ ⊢ ⟦ run_owns a x (n + m) ws ⟧
  run_join x n m ws vs within within' =
      qed 𝓛 (‵ (run_owns a x n ws) ∷ ‵ (run_owns a (x + n) m vs) ∷ []) ∵ fsplit3 ! $ move ! (3 ∷ []) $
      use1 𝓛 (‵ (words_room a (x + n) m) ⊛ ‵ (debt a (x + n) m)) (run_blanks (x + n) m vs within') $ split ! $
      move ! (3 ∷ 0 ∷ []) $ use2 𝓛 (‵ (words_room a (x + length ws) (n + m - length ws)))
      (rooms_glue (n - length ws) m (n + m - length ws) (x + length ws) (x + n) (omega arith) (omega arith)) $
      move ! (3 ∷ 1 ∷ []) $
      use2 𝓛 (‵ (debt a x (n + m))) (debt_glue 𝓛 a n m (n + m) x (x + n) refl refl) $ move ! (2 ∷ 1 ∷ 0 ∷ []) $
      fjoin3 ! $ done !

  -- the memory of a vector with a place
  abbrev block : ℕ → ℕ → List ℕ → Fml
  block x n ws = block_with_items (λ _ _. ftrue) word (at_place a x) (length ws) n ws

  -- the vector over the words
  abbrev pub vector : ℕ → ℕ → List ℕ → Fml
  vector x n ws = lodged word (at_place a x) (length ws) n ws

  pub lodges : (x n : ℕ) (ws : List ℕ) → n < 2 ^ 32 → ⟦ run_owns a x n ws ⟧ ⊢ ⟦ vector x n ws ⟧ ∗ ⟦ debt a x n ⟧
  lodges x zero ws small =
      qed 𝓛 (‵ (run_owns a x zero ws) ∷ []) ∵ fsplit3 ! $ keep ! (2 ∷ []) $ nothing ! $
      flt_i ! (zero * 4) (2 ^ 63) (omega arith) $ fjoin ! $ done !
  lodges x (suc n) ws small =
      qed 𝓛 (‵ (run_owns a x (suc n) ws) ∷ []) ∵ fsplit3 ! $ move ! (1 ∷ []) $
      rewrite ! 0 (λ (d : ℕ). ‵ (froom (words_type (suc n - length ws)) a.block d))
      (let e : at (x + length ws) ≡ at x + length ws * 4 = omega arith in e) refl $ nothing ! $
      move ! (1 ∷ 0 ∷ []) $ fjoin ! $ move ! (1 ∷ 0 ∷ []) $ fjoin ! $
      rewrite ! 0 (λ (t : Bool). ‵ (owns_if t (block x (suc n) ws))) (sym (some_block n)) refl $
      flt_i ! (suc n * 4) (2 ^ 63) (omega arith) $ fjoin ! $ done !

  pub dislodges : (x n : ℕ) (ws : List ℕ) → length ws ≤ n → ⟦ vector x n ws ⟧ ∗ ⟦ debt a x n ⟧ ⊢ ⟦ run_owns a x n ws ⟧
  dislodges x zero [] within =
      qed 𝓛 (‵ (vector x zero []) ∷ ‵ (debt a x zero) ∷ []) ∵ let_go ! $
      use0 𝓛 (‵ (words_room a (x + 0) 0)) (no_room (x + 0)) $ use0 𝓛 (‵ (values x [])) (no_values x) $ fjoin3 ! $
      done !
  dislodges x zero (w ∷ ws) within = absurd (omega arith)
  dislodges x (suc n) ws within =
      qed 𝓛 (‵ (vector x (suc n) ws) ∷ ‵ (debt a x (suc n)) ∷ []) ∵ fsplit ! $ let_go ! $
      rewrite ! 0 (λ (t : Bool). ‵ (owns_if t (block x (suc n) ws))) (some_block n) refl $ fsplit3 ! $
      move ! (2 ∷ []) $ let_go ! $ move ! (1 ∷ []) $
      rewrite ! 0 (λ (d : ℕ). ‵ (froom (words_type (suc n - length ws)) a.block d))
      (let e : at x + length ws * 4 ≡ at (x + length ws) = omega arith in e) refl $ move ! (1 ∷ 0 ∷ []) $
      fjoin3 ! $ done !
