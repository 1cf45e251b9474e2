-- What becomes sticky where one more place holds a base, as the view of all objects tells it.
use Rattle.std.proofs.Common.{◌≡◌, ◌≢◌, ⊎_elim, ℕ, ◌+◌, ◌≤◌, Bool, true, false, ◌||◌, Option, Some, refl, sym, ap}
use Rattle.std.proofs.Common.{◌∙◌, arith}
use Rattle.std.proofs.lemmas.Bool.Decides.{nat_tests}
use Rattle.std.specs.Prelude.{◌==◌, ◌&&◌, IsTrue, nat_le}
use Rattle.std.proofs.lemmas.Bool.{cases_eq}
use Rattle.mm_model.specs.Object.{is_counted}
use Rattle.mm_model.specs.Views.ByBase.{Begins, with_entry}
use Rattle.mm_model.specs.Views.ObjectView.{ObjectView, ObjectsByBase}
use Rattle.mm_model.specs.Views.SetsByBase.{count_at}
use Rattle.mm_model.proofs.View.ByBase.ChangedEntries.{changed-alike, changed-one, changed-none}
use Rattle.mm_count.specs.Sticky.{made_sticky, with_sticky}
use Rattle.mm_count.proofs.Composites.{decides, refutes}

never : (b : Bool) → (b && false) ≡ false
never true = refl
never false = refl

-- what begins elsewhere is as it was
pub made_sticky-other : (objects : ObjectsByBase) (outside : ℕ → ℕ) (word base : ℕ) (object : ObjectView) → base ≢ word
    → made_sticky objects outside word base object ≡ Some object
made_sticky-other objects outside word base object other =
    ap (λ (here : Bool). Some (record object {
      sticky = object.sticky || (is_counted object.kind && here && nat_le 255 (count_at objects outside base));
    })) (refutes base word other)
    ∙ split (is_counted object.kind) object.sticky
  where
    split : (counted sticky : Bool)
        → ◌≡◌ {A = Option ObjectView}
        (Some (record object { sticky = sticky || (counted && false && nat_le 255 (count_at objects outside base)) }))
        (Some (record object { sticky = sticky }))
    split true true = refl
    split true false = refl
    split false true = refl
    split false false = refl

-- it matters alone how many places hold the base in question
pub made_sticky-alike : (objects others : ObjectsByBase) (outside outside' : ℕ → ℕ) (word base : ℕ)
    (object : ObjectView) → count_at objects outside word ≡ count_at others outside' word
    → made_sticky objects outside word base object ≡ made_sticky others outside' word base object
made_sticky-alike objects others outside outside' word base object same =
    ⊎_elim
    (λ (e : base ≡ word).
    let at : count_at objects outside base ≡ count_at others outside' base =
    ap (count_at objects outside) e ∙ same ∙ sym (ap (count_at others outside') e) in
    ap (λ (n : ℕ). Some (record object {
      sticky = object.sticky || (is_counted object.kind && base == word && nat_le 255 n);
    })) at)
    (λ (n : base ≡ word → ⊥).
    made_sticky-other objects outside word base object n
    ∙ sym (made_sticky-other others outside' word base object n))
    (cases_eq base word)

pub with_sticky-alike : (outside outside' : ℕ → ℕ) (word : ℕ) (objects : ObjectsByBase) → outside word ≡ outside' word
    → with_sticky outside word objects ≡ with_sticky outside' word objects
with_sticky-alike outside outside' word objects same =
    changed-alike (made_sticky objects outside word) (made_sticky objects outside' word) objects
    (λ base object begins. made_sticky-alike objects objects outside outside' word base object (omega arith))

-- nothing does where nothing begins there
pub with_sticky-none : (outside : ℕ → ℕ) (word : ℕ) (objects : ObjectsByBase)
    → ((base : ℕ) (object : ObjectView) → Begins objects base object → base ≢ word)
    → with_sticky outside word objects ≡ objects
with_sticky-none outside word objects none =
    changed-none (made_sticky objects outside word) objects
    (λ base object begins. made_sticky-other objects outside word base object (none base object begins))

-- one object alone does
pub with_sticky-one : (outside : ℕ → ℕ) (word : ℕ) (objects : ObjectsByBase) (object : ObjectView)
    → Begins objects word object
    → with_sticky outside word objects ≡ with_entry word (made_sticky objects outside word word object) objects
with_sticky-one outside word objects object begins =
    changed-one (made_sticky objects outside word) objects word object begins
    (λ base other apart there. made_sticky-other objects outside word base other apart)

-- a counted object that isn't sticky, once one place more holds it
pub made_sticky-counted : (objects : ObjectsByBase) (outside : ℕ → ℕ) (word count : ℕ) (object : ObjectView)
    → IsTrue (is_counted object.kind) → object.sticky ≡ false → count ≤ 254
    → count_at objects outside word ≡ count + 1
    → made_sticky objects outside word word object ≡ Some (record object { sticky = count == 254 })
made_sticky-counted objects outside word count object counted exact most is =
    let full : nat_le 255 (count_at objects outside word) ≡ (count == 254) =
    ap (nat_le 255) is ∙ limit count most in
    ap (λ (b : Bool). Some (record object {
      sticky = b || (is_counted object.kind && word == word && nat_le 255 (count_at objects outside word));
    })) exact
    ∙ ap (λ (b : Bool). Some (record object {
      sticky = b && word == word && nat_le 255 (count_at objects outside word);
    })) counted
    ∙ ap (λ (b : Bool). Some (record object { sticky = b && nat_le 255 (count_at objects outside word) }))
    (decides word word refl)
    ∙ ap (λ (b : Bool). Some (record object { sticky = b })) full
  where
    limit : (count : ℕ) → count ≤ 254 → nat_le 255 (count + 1) ≡ (count == 254)
    limit count most =
        ⊎_elim (λ (e : count ≡ 254). yes e) (λ (n : count ≡ 254 → ⊥). no n) (cases_eq count 254)
      where
        yes : count ≡ 254 → nat_le 255 (count + 1) ≡ (count == 254)
        yes e = ap (λ (n : ℕ). nat_le 255 (n + 1)) e ∙ sym (decides count 254 e)

        no : count ≢ 254 → nat_le 255 (count + 1) ≡ (count == 254)
        no n = low (omega arith) ∙ sym (refutes count 254 n)
          where
            low : count + 1 ≤ 254 → nat_le 255 (count + 1) ≡ false
            low h = grind (arith, nat_tests)

-- one that is sticky stays so
pub made_sticky-sticky : (objects : ObjectsByBase) (outside : ℕ → ℕ) (word : ℕ) (object : ObjectView)
    → object.sticky ≡ true → made_sticky objects outside word word object ≡ Some object
made_sticky-sticky objects outside word object sticky =
    ap (λ (b : Bool). Some (record object {
      sticky = b || (is_counted object.kind && word == word && nat_le 255 (count_at objects outside word));
    })) sticky
    ∙ ap (λ (b : Bool). Some (record object { sticky = b })) (sym sticky)
