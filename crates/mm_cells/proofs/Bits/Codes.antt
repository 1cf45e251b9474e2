-- A word as eight digits of four bits, and what it is when one of them is replaced.
use Rattle.std.proofs.Common.{◌≡◌, ◌≢◌, ℕ, zero, suc, ◌+◌, ◌-◌, ◌*◌, ◌/◌, ◌%◌, ◌^◌, ◌<◌, ◌≤◌, bit_and, refl, List}
use Rattle.std.proofs.Common.{get_or, Bool, subst}
use Rattle.std.proofs.Common.{sym, ap, ◌∙◌, inl, inr, arith}
use Rattle.std.proofs.Math.Nat.{pow-suc, pow-succ', div-div-eq-div-mul, mul-add-div_right}
use Rattle.std.proofs.Math.Nat.{mul-add-mod_self_right, mul-le-mul_right, one-le-pow, add-mul}
use Rattle.std.proofs.lemmas.Bool.{cases_lt}
use Rattle.std.proofs.lemmas.Nat.{pow-add, and_mask, shl_whole, div-mul-add, div-add-mod', mod_below, div_below}
use Rattle.std.proofs.lemmas.Nat.{mul-add-lt}
use Rattle.std.specs.Prelude.{◌==◌, if◌then◌else◌}
use Rattle.std.proofs.lemmas.Bool.{cases_Bool}
use Rattle.mm_model.specs.declared.object.Colour.{Colour}
use Rattle.mm_model.specs.declared.object.Colour.TheVariants.{White, Gray, Black}
use Rattle.mm_cells.specs.declared.marks.CellBits.{CellBits}
use Rattle.mm_cells.specs.declared.marks.Mark.TheVariants.{Free, Taken}
use Rattle.mm_cells.specs.Marks.{code_in, colour_of, colour_code, flags_of, mark_of, mark_of_cell, IsFlags}

pub pow-sixteen : (k : ℕ) → 2 ^ (4 * k) ≡ 16 ^ k
pow-sixteen zero = refl
pow-sixteen (suc k) =
    let four : 4 * suc k ≡ 4 * k + 4 = omega arith in
    rw (four, pow-add 2 (4 * k) 4, pow-sixteen k, pow-suc 16 k) refl

sixteen-pos : (k : ℕ) → 0 < 16 ^ k
sixteen-pos k = one-le-pow k 16 (omega arith)

-- a word by the digits above a place, the digit there, and the digits below
digits : ℕ → ℕ → ℕ → ℕ → ℕ
digits place high code low = (high * 16 + code) * 16 ^ place + low

digits-word : (word place : ℕ) →
    word ≡ digits place (word / 16 ^ place / 16) (code_in word place) (word % 16 ^ place)
unfolding digits
digits-word word place =
    let low = div-add-mod' word (16 ^ place) in
    let high = div-add-mod' (word / 16 ^ place) 16 in
    rw high (sym low)

code_in-same : (place high code low : ℕ) → low < 16 ^ place → code < 16 →
    code_in (digits place high code low) place ≡ code
unfolding digits
code_in-same place high code low below small =
    rw (div-mul-add (high * 16 + code) (16 ^ place) low below) (omega arith)

-- the digits below and above a place, whatever stands there
code_in-low : (p r high code low : ℕ) → code_in (digits (r + suc p) high code low) p ≡ code_in low p
unfolding digits
code_in-low p r high code low =
    let split : (high * 16 + code) * 16 ^ (r + suc p) + low ≡ (high * 16 + code) * 16 ^ r * 16 * 16 ^ p + low =
    rw (pow-add 16 r (suc p), pow-suc 16 p) (grind arith) in
    rw (split, mul-add-div_right (sixteen-pos p) ((high * 16 + code) * 16 ^ r * 16) low)
    (mul-add-mod_self_right ((high * 16 + code) * 16 ^ r) 16 (low / 16 ^ p))

code_in-high : (place r high code low : ℕ) → low < 16 ^ place → code < 16 →
    code_in (digits place high code low) (place + suc r) ≡ high / 16 ^ r % 16
unfolding digits
code_in-high place r high code low below small =
    let above : (high * 16 + code) / 16 ≡ high = omega arith in
    let word = (high * 16 + code) * 16 ^ place + low in
    let top : word / 16 ^ (place + suc r) ≡ high / 16 ^ r =
    rw (
      pow-add 16 place (suc r),
      pow-succ' 16 r,
      sym (div-div-eq-div-mul word (16 ^ place) (16 * 16 ^ r)),
      div-mul-add (high * 16 + code) (16 ^ place) low below,
      sym (div-div-eq-div-mul (high * 16 + code) 16 (16 ^ r)),
      above,
    ) refl in
    rw top refl

-- the digits as a sum, for linear arithmetic
digits-split : (place high code low : ℕ) →
    digits place high code low ≡ high * 16 * 16 ^ place + code * 16 ^ place + low
unfolding digits
digits-split place high code low = rw (add-mul (high * 16) code (16 ^ place)) refl

-- such a word fits in 32 bits where its digits above the place do
digits-lt : (place high code low : ℕ) → high < 16 ^ (7 - place) → code < 16 → low < 16 ^ place → place < 8 →
    digits place high code low < 2 ^ 32
unfolding digits
digits-lt place high code low top small below within =
    let eight : 16 ^ 8 ≡ 16 ^ place * (16 ^ (7 - place) * 16) =
    let at : 8 ≡ place + suc (7 - place) = omega arith in
    ap (λ k. 16 ^ k) at ∙ pow-add 16 place (suc (7 - place)) ∙ ap (λ x. 16 ^ place * x) (pow-suc 16 (7 - place)) in
    let upper : high * 16 + code < 16 ^ (7 - place) * 16 = omega arith in
    let fits = mul-add-lt (high * 16 + code) (16 ^ place) low (16 ^ (7 - place) * 16) upper below in
    omega arith

high-lt : (word place : ℕ) → word < 2 ^ 32 → place < 8 → word / 16 ^ place / 16 < 16 ^ (7 - place)
high-lt word place fits within =
    let eight : 16 ^ 8 ≡ 16 ^ (7 - place) * (16 ^ place * 16) =
    let at : 8 ≡ (7 - place) + suc place = omega arith in
    ap (λ k. 16 ^ k) at ∙ pow-add 16 (7 - place) (suc place) ∙ ap (λ x. 16 ^ (7 - place) * x) (pow-suc 16 place) in
    let pos : 0 < 16 ^ place * 16 = let p = sixteen-pos place in omega arith in
    rw (div-div-eq-div-mul word (16 ^ place) 16) (div_below word (16 ^ place * 16) (16 ^ (7 - place)) pos (omega arith))

-- one digit of a word is replaced
pub record Replaces (word place code after : ℕ) : Type 0 where
  pub same : code_in after place ≡ code
  pub others : (p : ℕ) → p ≢ place → code_in after p ≡ code_in word p
  pub fits : place < 8 → word < 2 ^ 32 → after < 2 ^ 32

digits-others : (place high old code low : ℕ) → low < 16 ^ place → old < 16 → code < 16 → (p : ℕ) → p ≢ place →
    code_in (digits place high code low) p ≡ code_in (digits place high old low) p
digits-others place high old code low below old_small small p other = elim (cases_lt p place) [
  | inl under ↦
      let r = place - suc p in
      let at : place ≡ r + suc p = omega arith in
      rw at (code_in-low p r high code low ∙ sym (code_in-low p r high old low))
  | inr over ↦
      let r = p - suc place in
      let at : p ≡ place + suc r = omega arith in
      rw at (code_in-high place r high code low below small ∙ sym (code_in-high place r high old low below old_small))
]

-- by taking the old digit away and adding the new one, both at their place
pub replaces : (word place code : ℕ) → code < 16 →
    Replaces word place code (word - code_in word place * 16 ^ place + code * 16 ^ place)
replaces word place code small =
    let high = word / 16 ^ place / 16 in
    let old = code_in word place in
    let low = word % 16 ^ place in
    let below : low < 16 ^ place = mod_below word (16 ^ place) (sixteen-pos place) in
    let old_small : old < 16 = mod_below (word / 16 ^ place) 16 (omega arith) in
    let whole = digits-word word place in
    let after : word - old * 16 ^ place + code * 16 ^ place ≡ digits place high code low =
    let before = digits-split place high old low in
    let now = digits-split place high code low in
    omega arith in
    rw after (record {
      same = code_in-same place high code low below small;
      others = λ p other. digits-others place high old code low below old_small small p other
          ∙ ap (λ w. code_in w p) (sym whole);
      fits = λ within fits. digits-lt place high code low (high-lt word place fits within) small below within;
    })

-- what is taken away is there
pub code-le : (word place : ℕ) → code_in word place * 16 ^ place ≤ word
code-le word place =
    let whole = digits-word word place in
    let split = digits-split place (word / 16 ^ place / 16) (code_in word place) (word % 16 ^ place) in
    omega arith

-- a digit's low two bits are replaced
pub recolours : (word place low : ℕ) → low < 4 →
    Replaces word place (code_in word place / 4 * 4 + low)
    (word - code_in word place % 4 * 16 ^ place + low * 16 ^ place)
recolours word place low small =
    let code = code_in word place in
    let code_small : code < 16 = mod_below (word / 16 ^ place) 16 (omega arith) in
    let parts : code ≡ code / 4 * 4 + code % 4 = omega arith in
    let after : word - code % 4 * 16 ^ place + low * 16 ^ place
    ≡ word - code * 16 ^ place + (code / 4 * 4 + low) * 16 ^ place =
    omega (
      arith,
      code-le word place,
      ap (λ x. x * 16 ^ place) parts,
      add-mul (code / 4 * 4) (code % 4) (16 ^ place),
      add-mul (code / 4 * 4) low (16 ^ place),
    ) in
    rw after (replaces word place (code / 4 * 4 + low) (omega arith))

pub low-le : (word place : ℕ) → code_in word place % 4 * 16 ^ place ≤ word
low-le word place =
    let code = code_in word place in
    let part : code % 4 ≤ code = omega arith in
    omega (arith, code-le word place, mul-le-mul_right (16 ^ place) part)

-- what the program computes of a word and a digit
pub code_in-mask : (word place : ℕ) → bit_and (word / 2 ^ (4 * place)) 15 ≡ code_in word place
code_in-mask word place = rw pow-sixteen (and_mask (word / 16 ^ place) 4)

pub low-mask : (word place : ℕ) → bit_and (word / 2 ^ (4 * place)) 3 ≡ code_in word place % 4
low-mask word place = rw pow-sixteen (and_mask (word / 16 ^ place) 2 ∙ omega arith)

pub code-shifted : (code place : ℕ) → code < 16 → place < 8 → code * 2 ^ (4 * place) % 2 ^ 32 ≡ code * 16 ^ place
code-shifted code place small within =
    shl_whole code 4 (4 * place) 32 small (omega arith) ∙ ap (λ x. code * x) (pow-sixteen place)

-- the flags of a mark that four bits mean
flags_of-mark : (code : ℕ) (colour : Colour) (flags : CellBits) → mark_of code ≡ Taken colour flags →
    flags_of code ≡ flags
flags_of-mark code colour flags is = elim (cases_Bool (code % 4 == 3)) [
  | inl free ↦
      let none : mark_of code ≡ Free =
      ap (λ (test : Bool). if test then Free else Taken (colour_of (code % 4)) (flags_of code)) free in
      absurd (cc)
  | inr taken ↦
      let some : mark_of code ≡ Taken (colour_of (code % 4)) (flags_of code) =
      ap (λ (test : Bool). if test then Free else Taken (colour_of (code % 4)) (flags_of code)) taken in
      cc
]

pub IsFlags-mark : (code : ℕ) (colour : Colour) (flags : CellBits) → code < 16 → mark_of code ≡ Taken colour flags →
    IsFlags flags
IsFlags-mark code colour flags small is =
    subst IsFlags (flags_of-mark code colour flags is) (let low : code / 4 < 4 = omega arith in low)

-- a mark by its low two bits, and by others in their place
colour_code-lt : (colour : Colour) → colour_code colour < 4
colour_code-lt White = omega arith
colour_code-lt Gray = omega arith
colour_code-lt Black = omega arith

low-coloured : (colour : Colour) (low : ℕ) (flags : CellBits) → low ≡ colour_code colour →
    (if low == 3 then Free else Taken (colour_of low) flags) ≡ Taken colour flags
low-coloured White low flags e = rw e refl
low-coloured Gray low flags e = rw e refl
low-coloured Black low flags e = rw e refl

pub mark_of-coloured : (code : ℕ) (its colour : Colour) (flags : CellBits) → mark_of code ≡ Taken its flags →
    mark_of (code / 4 * 4 + colour_code colour) ≡ Taken colour flags
mark_of-coloured code its colour flags is =
    let after = code / 4 * 4 + colour_code colour in
    let small = colour_code-lt colour in
    let high : after / 4 ≡ code / 4 = omega arith in
    low-coloured colour (after % 4) (flags_of after) (omega arith)
    ∙ ap (λ x. Taken colour (record { 0 = x })) high
    ∙ ap (λ (f : CellBits). Taken colour f) (flags_of-mark code its flags is)

pub IsFlags-cell : (table : List ℕ) (cell : ℕ) (colour : Colour) (flags : CellBits) →
    mark_of_cell table cell ≡ Taken colour flags → IsFlags flags
IsFlags-cell table cell colour flags is =
    IsFlags-mark (code_in (get_or table (cell / 8) 0) (cell % 8)) colour flags
    (mod_below (get_or table (cell / 8) 0 / 16 ^ (cell % 8)) 16 (omega arith)) is
