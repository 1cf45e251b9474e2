-- Words are taken out of the arena's loan against parts of its token, and go back into it. Assumes `Logic`.
use Rattle.std.proofs.Common.{
  ◌≡◌,
  ℕ,
  zero,
  suc,
  ◌+◌,
  ◌-◌,
  ◌*◌,
  ◌^◌,
  ◌<◌,
  ◌≤◌,
  [],
  ◌∷◌,
  refl,
  sym,
  arith,
  Bool,
  true,
  false,
  ltb,
  ltb-true,
  ltb-false,
}
use seplogic.Ra.Ura.{Ura}
use mir.Syntax.{w32, ty_int}
use base.Fraction.{full_share}
use base.FractionLaws.{Counts, counts_some, Counts-op, Counts-all}
use base.Logic.{SProp, ent, sep, never, never_e, id⊢, upd_i}
use base.Fml.{Lft, Share, Fml, ftrue, fsep, fseps, fex, fwand, fupd, froom, flft, fdead, fbor, fobor}
use types.Logic.{Logic, sem}
use types.Kit.{
  ‵,
  raw,
  ◌⊛◌,
  later,
  ◌$◌,
  ◌∵◌,
  !,
  qed,
  by,
  move,
  keep,
  drop,
  use0,
  use1,
  use2,
  use3,
  split,
  split3,
  fsplit,
  fjoin,
  fpick,
  fpack,
  assume,
  rewrite,
  suffices,
  await,
  updating,
  now,
  done,
}
use types.Tokens.{lft_end, bor_new, bor_open, obor_close, obor_alter}
use denote.Steps.{nothing}
use Rattle.mm_words.specs.Piece.{Name}
use Rattle.mm_words.specs.Ownership.{words_type, words_room, word_room, word_debt, debt, parts}

by_order : {X : Type 1} (m n : ℕ) → (m < n → X) → (n ≤ m → X) → X
by_order {X} m n less more = by_test (ltb m n) (λ t. less (ltb-true m n t)) (λ t. more (ltb-false m n t))
  where
    by_test : (t : Bool) → (t ≡ true → X) → (t ≡ false → X) → X
    by_test true y n' = y refl
    by_test false y n' = n' refl

module _ {M : Type 1} {𝓤 : Ura M} (𝓛 : Logic 𝓤) (a : Name) where
  open 𝓛 use {H, A}

  abbrev Pr : Type 2
  Pr = SProp 𝓤

  abbrev ◌⊢◌ : Pr → Pr → Type 1
  P ⊢ Q = ent 𝓤 P Q

  abbrev ◌∗◌ : Pr → Pr → Pr
  P ∗ Q = sep 𝓤 P Q

  abbrev ⟦◌⟧ : Fml → Pr
  ⟦ P ⟧ = sem 𝓛 P

  infix 26 ◌⊢◌
  infixr 35 ◌∗◌
  abbrev ν : Lft
  ν = a.life ∷ []

  -- ---- the token's parts
  pub parts_in : (k : ℕ) (s : Share) → Counts 33 s k → A.lft ν s ⊢ ⟦ parts a k ⟧
  parts_in k s c = qed 𝓛 (‵ (flft ν s) ∷ []) ∵ fpack ! (Counts 33 s k) (λ _. flft ν s) c $
      fpack ! Share (λ r. fex (Counts 33 r k) (λ _. flft ν r)) s $ done !

  pub parts_cut : (m n k : ℕ) → 0 < m → 0 < n → m + n ≡ k → k ≤ 2 ^ 33 → ⟦ parts a k ⟧ ⊢ ⟦ parts a m ⟧ ∗ ⟦ parts a n ⟧
  parts_cut m n k some more sum most =
      let r = counts_some 33 m some (omega arith) in
      let u = counts_some 33 n more (omega arith) in
      qed 𝓛 (‵ (parts a k) ∷ []) ∵ fpick ! (λ s. fpick ! (λ c.
      use1 𝓛 (‵ (flft ν r.0) ⊛ ‵ (flft ν u.0)) (𝓛.lfts.lft_cut ν s r.0 u.0
      (Counts-op 33 r.0 u.0 s m n k r.1 u.1 c sum)) $ split ! $
      use1 𝓛 (‵ (parts a m)) (parts_in m r.0 r.1) $ move ! (1 ∷ []) $ use1 𝓛 (‵ (parts a n)) (parts_in n u.0 u.1) $
      move ! (1 ∷ 0 ∷ []) $ done !))

  pub parts_glue : (m n k : ℕ) → 0 < m → m + n ≡ k → k ≤ 2 ^ 33 → ⟦ parts a m ⟧ ∗ ⟦ parts a n ⟧ ⊢ ⟦ parts a k ⟧
  parts_glue m n k some sum most =
      let r = counts_some 33 k (omega arith) most in
      qed 𝓛 (‵ (parts a m) ∷ ‵ (parts a n) ∷ []) ∵ fpick ! (λ s. fpick ! (λ c. move ! (1 ∷ []) $
      fpick ! (λ u. fpick ! (λ d.
      use2 𝓛 (‵ (flft ν r.0)) (𝓛.lfts.lft_glue ν r.0 u s (Counts-op 33 u s r.0 n m k d c r.1 (omega arith))) $
      by ! (parts_in k r.0 r.1)))))

  pub all_parts : ⟦ parts a (2 ^ 33) ⟧ ⊢ A.lft ν full_share
  all_parts =
      qed 𝓛 (‵ (parts a (2 ^ 33)) ∷ []) ∵ use1 𝓛 (‵ (parts a (2 ^ 32)) ⊛ ‵ (parts a (2 ^ 32))) (parts_cut (2 ^ 32)
      (2 ^ 32) (2 ^ 33) (omega arith) (omega arith) refl (omega arith)) $ split ! $
      fpick ! (λ s. fpick ! (λ c. move ! (1 ∷ []) $ fpick ! (λ u. fpick ! (λ d.
      use2 𝓛 (‵ (flft ν full_share)) (𝓛.lfts.lft_glue ν full_share u s (Counts-op 33 u s full_share (2 ^ 32)
      (2 ^ 32) (2 ^ 33) d c (Counts-all 33) refl)) $ done !))))

  -- ---- room for words, word by word
  next_place : (x : ℕ) → a.start + 4 * x + 4 ≡ a.start + 4 * suc x
  next_place x = omega arith

  pub first_room : (x n : ℕ) → ⟦ words_room a x (suc n) ⟧ ⊢ ⟦ word_room a x ⟧ ∗ ⟦ words_room a (suc x) n ⟧
  first_room x n =
      qed 𝓛 (‵ (words_room a x (suc n)) ∷ []) ∵
      use1 𝓛 (‵ (word_room a x) ⊛ ‵ (froom (words_type n) a.block (a.start + 4 * x + 4)))
      (𝓛.laws.room_uncons (ty_int w32) n a.block (a.start + 4 * x)) $ split ! $
      rewrite ! 1 (λ (d : ℕ). ‵ (froom (words_type n) a.block d)) (next_place x) refl $ done !

  pub rooms_back : (x n : ℕ) → ⟦ word_room a x ⟧ ∗ ⟦ words_room a (suc x) n ⟧ ⊢ ⟦ words_room a x (suc n) ⟧
  rooms_back x n =
      qed 𝓛 (‵ (word_room a x) ∷ ‵ (words_room a (suc x) n) ∷ []) ∵
      rewrite ! 1 (λ (d : ℕ). ‵ (froom (words_type n) a.block d)) (sym (next_place x)) refl $
      by ! (𝓛.laws.room_cons (ty_int w32) n a.block (a.start + 4 * x))

  -- ---- debts
  debt_in : (x : ℕ) (s : Share) → Counts 33 s 1 → A.obor ν s (word_room a x) ⊢ ⟦ word_debt a x ⟧
  debt_in x s c = qed 𝓛 (‵ (fobor ν s (word_room a x)) ∷ []) ∵
      fpack ! (Counts 33 s 1) (λ _. fobor ν s (word_room a x)) c $
      fpack ! Share (λ r. fex (Counts 33 r 1) (λ _. fobor ν r (word_room a x))) s $ done !

  pub debt_cut : (m n k x y : ℕ) → m + n ≡ k → x + m ≡ y → ⟦ debt a x k ⟧ ⊢ ⟦ debt a x m ⟧ ∗ ⟦ debt a y n ⟧
  debt_cut zero n k x y sum at =
      qed 𝓛 (‵ (debt a x k) ∷ []) ∵ rewrite ! 0 (λ (j : ℕ). ‵ (debt a j k)) (let e : x ≡ y = omega arith in
      e) refl $ rewrite ! 0 (λ (j : ℕ). ‵ (debt a y j)) (let e : k ≡ n = omega arith in e) refl $ nothing ! $ done !
  debt_cut (suc m) n k x y sum at =
      qed 𝓛 (‵ (debt a x k) ∷ []) ∵ rewrite ! 0 (λ (j : ℕ). ‵ (debt a x j))
      (let e : k ≡ suc (m + n) = omega arith in e) refl $ fsplit ! $ move ! (1 ∷ []) $
      use1 𝓛 (‵ (debt a (suc x) m) ⊛ ‵ (debt a y n)) (debt_cut m n (m + n) (suc x) y refl (omega arith)) $
      split ! $ move ! (2 ∷ 0 ∷ []) $ fjoin ! $ done !

  pub debt_glue : (m n k x y : ℕ) → m + n ≡ k → x + m ≡ y → ⟦ debt a x m ⟧ ∗ ⟦ debt a y n ⟧ ⊢ ⟦ debt a x k ⟧
  debt_glue zero n k x y sum at =
      qed 𝓛 (‵ (debt a x zero) ∷ ‵ (debt a y n) ∷ []) ∵ drop ! $
      rewrite ! 0 (λ (j : ℕ). ‵ (debt a j n)) (let e : y ≡ x = omega arith in e) refl $
      rewrite ! 0 (λ (j : ℕ). ‵ (debt a x j)) (let e : n ≡ k = omega arith in e) refl $ done !
  debt_glue (suc m) n k x y sum at =
      qed 𝓛 (‵ (debt a x (suc m)) ∷ ‵ (debt a y n) ∷ []) ∵ fsplit ! $ move ! (1 ∷ 2 ∷ []) $
      use2 𝓛 (‵ (debt a (suc x) (m + n))) (debt_glue m n (m + n) (suc x) y refl (omega arith)) $
      move ! (1 ∷ 0 ∷ []) $ fjoin ! $ rewrite ! 0 (λ (j : ℕ). ‵ (debt a x j))
      (let e : suc (m + n) ≡ k = omega arith in e) refl $ done !

  -- a loan of n words is opened word by word
  pub lends : (n x k : ℕ) → n < k → k ≤ 2 ^ 33 → A.bor ν (words_room a x n) ∗ ⟦ parts a k ⟧
      ⊢ H.⇛ (⟦ words_room a x n ⟧ ∗ ⟦ debt a x n ⟧ ∗ ⟦ parts a (k - n) ⟧)
  unfolding fseps
  lends zero x k less most =
      qed 𝓛 (‵ (fbor ν (words_room a x zero)) ∷ ‵ (parts a k) ∷ []) ∵ updating ! $ drop ! $
      rewrite ! 0 (λ (j : ℕ). ‵ (parts a j)) (let e : k ≡ k - zero = omega arith in e) refl $ nothing ! $
      use0 𝓛 (‵ (words_room a x zero)) (𝓛.laws.room_nil (ty_int w32) a.block (a.start + 4 * x)) $ now ! $ done !
  lends (suc n) x k less most =
      let P : Fml = word_room a x in let Q : Fml = words_room a (suc x) n in let R : Fml = words_room a x (suc n) in
      qed 𝓛 (‵ (fbor ν R) ∷ ‵ (parts a k) ∷ []) ∵ updating ! $ move ! (1 ∷ []) $
      fpick ! (λ s. fpick ! (λ c. move ! (1 ∷ 0 ∷ []) $ bor_open ! tt $ move ! (1 ∷ []) $
      use1 𝓛 (‵ P ⊛ ‵ Q) (first_room x n) $ split ! $ nothing ! $ move ! (2 ∷ 0 ∷ []) $ fjoin ! $
      move ! (1 ∷ 0 ∷ []) $ fjoin ! $
      use0 𝓛 (‵ (fwand (fsep (fdead ν) (fseps (P ∷ Q ∷ []))) (fupd R)))
      (qed 𝓛 [] ∵ assume ! (‵ (fdead ν) ⊛ ‵ P ⊛ ‵ Q ⊛ ‵ ftrue) $ split ! $ drop ! $ split3 ! $
      keep ! (0 ∷ 1 ∷ []) $ suffices ! _ (upd_i 𝓤 ⟦ R ⟧) $ by ! (rooms_back x n)) $
      move ! (2 ∷ 1 ∷ 0 ∷ []) $ obor_alter ! tt (P ∷ Q ∷ []) $
      use1 𝓛 (‵ (fbor ν P) ⊛ ‵ (fbor ν Q) ⊛ ‵ ftrue) (id⊢ 𝓤 _) $ split3 ! $ move ! (3 ∷ []) $
      use1 𝓛 (‵ (parts a k)) (parts_in k s c) $ use1 𝓛 (‵ (parts a 1) ⊛ ‵ (parts a (k - 1)))
      (parts_cut 1 (k - 1) k (omega arith) (omega arith) (omega arith) most) $ split ! $
      fpick ! (λ u. fpick ! (λ d. move ! (2 ∷ 0 ∷ []) $ bor_open ! tt $ use1 𝓛 (‵ (word_debt a x)) (debt_in x u d) $
      move ! (3 ∷ 2 ∷ []) $ use2 𝓛 (later (‵ Q ⊛ ‵ (debt a (suc x) n) ⊛ ‵ (parts a (k - 1 - n)))) (lends n (suc x)
      (k - 1) (omega arith) (omega arith)) $ await ! tt $ split3 ! $
      move ! (4 ∷ 0 ∷ []) $ use2 𝓛 (‵ R) (rooms_back x n) $ move ! (3 ∷ 1 ∷ []) $ fjoin ! $ move ! (2 ∷ []) $
      rewrite ! 0 (λ (j : ℕ). ‵ (parts a j)) (let e : k - 1 - n ≡ k - suc n = omega arith in e) refl $
      keep ! (2 ∷ 1 ∷ 0 ∷ []) $ now ! $ done !))))

  -- n words go back, and their parts join k others
  pub settles : (n x k : ℕ) → 0 < k → k + n ≤ 2 ^ 33 → ⟦ words_room a x n ⟧ ∗ ⟦ debt a x n ⟧ ∗ ⟦ parts a k ⟧
      ⊢ H.⇛ ⟦ parts a (k + n) ⟧
  settles zero x k some most =
      qed 𝓛 (‵ (words_room a x zero) ∷ ‵ (debt a x zero) ∷ ‵ (parts a k) ∷ []) ∵ updating ! $ drop ! $ drop ! $
      rewrite ! 0 (λ (j : ℕ). ‵ (parts a j)) (let e : k ≡ k + zero = omega arith in e) refl $ now ! $ done !
  settles (suc n) x k some most =
      qed 𝓛 (‵ (words_room a x (suc n)) ∷ ‵ (debt a x (suc n)) ∷ ‵ (parts a k) ∷ []) ∵ updating ! $
      use1 𝓛 (‵ (word_room a x) ⊛ ‵ (words_room a (suc x) n)) (first_room x n) $ split ! $ move ! (2 ∷ []) $
      fsplit ! $ fpick ! (λ s. fpick ! (λ c.
      move ! (0 ∷ 2 ∷ []) $ obor_close ! tt $ drop ! $ use1 𝓛 (‵ (parts a 1)) (parts_in 1 s c) $ move ! (0 ∷ 3 ∷ []) $
      use2 𝓛 (‵ (parts a (1 + k))) (parts_glue 1 k (1 + k) (omega arith) refl (omega arith)) $ move ! (2 ∷ 1 ∷ 0 ∷ []) $
      use3 𝓛 (later (‵ (parts a (1 + k + n)))) (settles n (suc x) (1 + k) (omega arith) (omega arith)) $ await ! tt $
      rewrite ! 0 (λ (j : ℕ). ‵ (parts a j)) (let e : 1 + k + n ≡ k + suc n = omega arith in e) refl $ now ! $ done !))

  -- no more words go back than there are parts
  pub too_many : (X : Pr) (n x k : ℕ) → 0 < k → k ≤ 2 ^ 33 → 2 ^ 33 < k + n
      → ⟦ words_room a x n ⟧ ∗ ⟦ debt a x n ⟧ ∗ ⟦ parts a k ⟧ ⊢ H.⇛ X
  too_many X zero x k some most over = absurd (omega arith)
  too_many X (suc n) x k some most over =
      qed 𝓛 (‵ (words_room a x (suc n)) ∷ ‵ (debt a x (suc n)) ∷ ‵ (parts a k) ∷ []) ∵ updating ! $
      use1 𝓛 (‵ (word_room a x) ⊛ ‵ (words_room a (suc x) n)) (first_room x n) $ split ! $ move ! (2 ∷ []) $
      fsplit ! $ fpick ! (λ s. fpick ! (λ c.
      move ! (0 ∷ 2 ∷ []) $ obor_close ! tt $ drop ! $
      by_order k (2 ^ 33)
      (λ less. use1 𝓛 (‵ (parts a 1)) (parts_in 1 s c) $ move ! (0 ∷ 3 ∷ []) $
      use2 𝓛 (‵ (parts a (1 + k))) (parts_glue 1 k (1 + k) (omega arith) refl (omega arith)) $ move ! (2 ∷ 1 ∷ 0 ∷ []) $
      use3 𝓛 (later (raw X)) (too_many X n (suc x) (1 + k) (omega arith) (omega arith) (omega arith)) $
      await ! tt $ now ! $ done !)
      (λ full. move ! (3 ∷ []) $ rewrite ! 0 (λ (j : ℕ). ‵ (parts a j)) (let e : k ≡ 2 ^ 33 = omega arith in
      e) refl $ use1 𝓛 (‵ (flft ν full_share)) all_parts $ lft_end ! tt $
      move ! (1 ∷ 0 ∷ []) $ use2 𝓛 (raw (never 𝓤)) (𝓛.lfts.lft-dead ν s) $ keep ! (0 ∷ []) $ by ! (never_e 𝓤 _))))

  -- all words are back: the lifetime ends
  pub ends : (n x : ℕ) → n < 2 ^ 33 → ⟦ words_room a x n ⟧ ∗ ⟦ debt a x n ⟧ ∗ ⟦ parts a (2 ^ 33 - n) ⟧ ⊢ H.⇛ (A.dead ν)
  ends n x less =
      qed 𝓛 (‵ (words_room a x n) ∷ ‵ (debt a x n) ∷ ‵ (parts a (2 ^ 33 - n)) ∷ []) ∵ updating ! $
      use3 𝓛 (later (‵ (parts a (2 ^ 33 - n + n)))) (settles n x (2 ^ 33 - n) (omega arith) (omega arith)) $
      await ! tt $
      rewrite ! 0 (λ (j : ℕ). ‵ (parts a j)) (let e : 2 ^ 33 - n + n ≡ 2 ^ 33 = omega arith in e) refl $
      use1 𝓛 (‵ (flft ν full_share)) all_parts $ lft_end ! tt $ now ! $ done !

  -- the room of a new arena, lent for its lifetime and taken out of the loan again
  pub opened : (n : ℕ) → n < 2 ^ 32 → A.lft ν full_share ∗ ⟦ words_room a 0 n ⟧
      ⊢ H.⇛ (⟦ words_room a 0 n ⟧ ∗ ⟦ debt a 0 n ⟧ ∗ ⟦ parts a (2 ^ 33 - n) ⟧ ∗ A.lent ν (words_room a 0 n))
  opened n small =
      qed 𝓛 (‵ (flft ν full_share) ∷ ‵ (words_room a 0 n) ∷ []) ∵ updating ! $
      use1 𝓛 (‵ (parts a (2 ^ 33))) (parts_in (2 ^ 33) full_share (Counts-all 33)) $ move ! (1 ∷ []) $
      bor_new ! tt ν $ move ! (0 ∷ 2 ∷ []) $ use2 𝓛 (later (‵ (words_room a 0 n) ⊛ ‵ (debt a 0 n) ⊛ ‵ (parts a
      (2 ^ 33 - n)))) (lends n 0 (2 ^ 33) (omega arith) (omega arith)) $ await ! tt $ split3 ! $ now ! $ done !
