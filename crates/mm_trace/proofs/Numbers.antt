-- The number at the front of a text.
use Rattle.std.proofs.Common.{◌≡◌, ℕ, ◌+◌, ◌%◌, ◌^◌, ◌<◌, ◌≤◌, ◌==◌, Bool, true, false, not, ◌&&◌, nat_le, nat_lt, List}
use Rattle.std.proofs.Common.{[], ◌∷◌, ◌++◌, length, take, drop, Ok, refl, sym, ap, subst, arith}
use Rattle.std.proofs.Math.Nat.{pow-le-pow_right}
use Rattle.std.proofs.lemmas.Grind.{common_steps}
use Rattle.std.proofs.lemmas.Bool.Decides.{nat_tests}
use Rattle.std.proofs.lemmas.List.{take-append-drop}
use Rattle.std.specs.List.{list_all}
use Rattle.mm_model.specs.Logs.Trace.{number_of, is_number, is_digit, digits_value}
use Rattle.mm_trace.specs.Plain.{has_no_space, EndsWord, BeginsWith}

-- at most ten digits
pub value_bound : (i value : ℕ) → i < 11 → value < 10 ^ i → value < 10000000000
value_bound i value few below =
    let ten : 0 < 10 = omega arith in
    let most : i ≤ 10 = omega arith in
    let power : 10 ^ i ≤ 10 ^ 10 = pow-le-pow_right ten most in omega arith

digit-no_space : (b : ℕ) → is_digit b ≡ true → not (b == 32) ≡ true
digit-no_space b h = grind (arith, nat_tests)

has_no_space-next : (p : Bool) (b : ℕ) (word : List ℕ) → is_digit b ≡ p → (p && list_all is_digit word) ≡ true
    → (list_all is_digit word ≡ true → has_no_space word ≡ true) → has_no_space (b ∷ word) ≡ true
has_no_space-next true b word e h ih = rw (digit-no_space b e, ih h) refl
has_no_space-next false b word e h ih = let no : false ≡ true = h in cc

-- there is no space among digits
has_no_space-digits : (word : List ℕ) → list_all is_digit word ≡ true → has_no_space word ≡ true
has_no_space-digits [] h = refl
has_no_space-digits (b ∷ word) h = has_no_space-next (is_digit b) b word refl h (has_no_space-digits word)

is_number-digits : (word : List ℕ) → 0 < length word → length word ≤ 10 → list_all is_digit word ≡ true
    → digits_value word < 4294967296 → is_number word ≡ true
is_number-digits word some few digits small =
    let a : nat_le 1 (length word) ≡ true = grind (arith, nat_tests) in
    let b : nat_le (length word) 10 ≡ true = grind (arith, nat_tests) in
    let d : nat_lt (digits_value word) 4294967296 ≡ true = grind (arith, nat_tests) in
    rw (a, b, digits, d) refl

BeginsWith-word : (word text rest : List ℕ) (value : ℕ) → 0 < length word → length word ≤ 10
    → list_all is_digit word ≡ true → value ≡ digits_value word → value < 4294967296 → EndsWord text rest
    → BeginsWith (λ (w : List ℕ). number_of w ≡ Ok value) (word ++ text) rest
BeginsWith-word word text rest value some few digits e small ends =
    let number = is_number-digits word some few digits (omega arith) in
    record {
      word = word;
      words = ends word some (has_no_space-digits word digits);
      such = rw number (ap Ok (sym e));
    }

-- digits up to a space or the end are a number
pub BeginsWith-digits : (text rest : List ℕ) (n value : ℕ) → n ≤ length text → 0 < n → n ≤ 10
    → list_all is_digit (take n text) ≡ true → value ≡ digits_value (take n text) → value < 4294967296
    → EndsWord (drop n text) rest → BeginsWith (λ (w : List ℕ). number_of w ≡ Ok value) text rest
BeginsWith-digits text rest n value within some few digits e small ends =
    let len : length (take n text) ≡ n = grind (arith, common_steps) in
    let P : List ℕ → Type 0 = λ t. BeginsWith (λ (w : List ℕ). number_of w ≡ Ok value) t rest in
    subst P (take-append-drop n text)
    (BeginsWith-word (take n text) (drop n text) rest value (omega arith) (omega arith) digits e small ends)

-- so is one digit
pub BeginsWith-digit : (behind rest : List ℕ) (b value : ℕ) → value ≡ (b + 208) % 256 → value ≤ 9 → b < 256
    → EndsWord behind rest → BeginsWith (λ (w : List ℕ). number_of w ≡ Ok value) (b ∷ behind) rest
BeginsWith-digit behind rest b value e digit fits ends =
    let low : 48 ≤ b = omega arith in
    let high : b ≤ 57 = omega arith in
    let is : is_digit b ≡ true = grind (arith, nat_tests) in
    BeginsWith-word (b ∷ []) behind rest value (omega arith) (omega arith) (rw is refl) (omega arith) (omega arith) ends
