-- What counting makes of a composite.
use Rattle.std.proofs.Common.{◌≡◌, ◌≢◌, ℕ, ◌+◌, ◌-◌, ◌<◌, ◌≤◌, ◌^◌, Bool, true, false, not, cond, eqb-true, refl, sym}
use Rattle.std.proofs.Common.{ap, ◌∙◌, subst, arith}
use Rattle.std.proofs.lemmas.Bool.Decides.{nat_tests}
use Rattle.std.specs.Prelude.{◌==◌, IsTrue}
use Rattle.mm_model.specs.Object.{is_counted}
use Rattle.mm_object.specs.Object.{StoredObject}
use Rattle.mm_count.specs.declared.composite.Composite.{Composite}
use Rattle.mm_count.specs.Composite.{word_of, FitsWord, IsComposite}
use Rattle.mm_count.specs.Table.{composite_of, IsSpelled}
use Rattle.mm_count.specs.Counts.{raised, lowered, left, with_pin}
use Rattle.mm_count.specs.Kept.{with_entry_word}
use Rattle.mm_count.proofs.Words.{composite_in-word_of}

pub clash : {A : Type 0} → false ≡ true → A
clash e = absurd (let no : ⊥ = cc in no)

pub not-true_is : (b : Bool) → not b ≡ true → b ≡ false
not-true_is true e = clash e
not-true_is false e = refl

pub not-false_is : (b : Bool) → not b ≡ false → b ≡ true
not-false_is true e = refl
not-false_is false e = clash (sym e)

pub differs : (a b : ℕ) → (a == b) ≡ false → a ≢ b
differs a b e same = grind (arith, nat_tests)

pub refutes : (a b : ℕ) → a ≢ b → (a == b) ≡ false
refutes a b ne = grind (arith, nat_tests)

pub decides : (a b : ℕ) → a ≡ b → (a == b) ≡ true
decides a b e = grind (arith, nat_tests)

-- one more of a composite that isn't sticky
abbrev pub one_above : Composite → Composite
one_above c = record c { count = c.count + 1; place = 0; sticky = c.count == 254; listed = false }

abbrev pub one_below : Composite → Composite
one_below c = record c { count = c.count - 1 }

pub raised-sticky : (c : Composite) → c.sticky ≡ true → raised c ≡ c
raised-sticky c e = ap (λ b. cond b c (one_above c)) e

pub raised-exact : (c : Composite) → c.sticky ≡ false → raised c ≡ one_above c
raised-exact c e = ap (λ b. cond b c (one_above c)) e

pub lowered-sticky : (c : Composite) → c.sticky ≡ true → lowered c ≡ c
lowered-sticky c e = ap (λ b. cond b c (record c { count = c.count - 1; listed = c.count == 1 })) e

pub lowered-exact : (c : Composite) → c.sticky ≡ false
    → lowered c ≡ record c { count = c.count - 1; listed = c.count == 1 }
lowered-exact c e = ap (λ b. cond b c (record c { count = c.count - 1; listed = c.count == 1 })) e

pub fits-above : (c : Composite) → c.count ≤ 254 → FitsWord (one_above c)
fits-above c most = record { count = omega arith; place = omega arith }

pub fits-below : (c : Composite) → FitsWord c → FitsWord (one_below c)
fits-below c fits = let h = fits.count in let k = fits.place in record { count = omega arith; place = k }

pub fits-entry : (place : ℕ) (c : Composite) → place < 2 ^ 20 → FitsWord c → FitsWord (with_entry_word place c)
fits-entry place c few fits = let h = fits.count in record { count = h; place = few }

pub fits-left : (c : Composite) → FitsWord c → FitsWord (left c)
fits-left c fits = let h = fits.count in record { count = h; place = omega arith }

pub composite-above : (c : Composite) → c.count ≤ 254 → IsComposite (one_above c)
composite-above c most =
    record {
      sticky = λ e. let is : c.count ≡ 254 = eqb-true c.count 254 e in omega arith;
      exact = λ e. let ne = differs c.count 254 e in omega arith;
      listed = λ e. clash e;
      unlisted = λ e. refl;
    }

pub composite-below : (c : Composite) → IsComposite c → c.sticky ≡ false → c.count ≢ 0 → IsComposite (one_below c)
composite-below c is exact some =
    record {
      sticky = λ e. clash (sym exact ∙ e);
      exact = λ e. let h = is.exact e in omega arith;
      listed = λ e. absurd (some (is.listed e));
      unlisted = is.unlisted;
    }

pub composite-entry : (place : ℕ) (c : Composite) → c.count ≡ 0 → c.sticky ≡ false
    → IsComposite (with_entry_word place c)
composite-entry place c zero exact =
    record {
      sticky = λ e. clash (sym exact ∙ e);
      exact = λ e. omega arith;
      listed = λ e. zero;
      unlisted = λ e. clash (sym e);
    }

pub composite-left : (c : Composite) → IsComposite c → IsComposite (left c)
composite-left c is =
    record { sticky = is.sticky; exact = is.exact; listed = λ e. clash e; unlisted = λ e. refl }

pub composite-pin : (pinned : Bool) (c : Composite) → IsComposite c → IsComposite (with_pin pinned c)
composite-pin pinned c is =
    record { sticky = is.sticky; exact = is.exact; listed = is.listed; unlisted = is.unlisted }

-- an object with the word of a composite
module _ (o : StoredObject) (c : Composite) (fits : FitsWord c) where
  abbrev new : StoredObject
  new = record o { composite = word_of c }

  pub composite_of-new : composite_of new ≡ c
  composite_of-new = composite_in-word_of c fits

  pub spelled-new : IsComposite c → IsTrue (is_counted o.kind) → IsSpelled new
  spelled-new is counted =
      record {
        word = ap word_of (sym composite_of-new);
        counted = λ _. subst IsComposite (sym composite_of-new) is;
        other = λ not. absurd (never (is_counted o.kind) counted not);
      }
    where
      never : (b : Bool) → IsTrue b → IsTrue (not b) → ⊥
      never true p q = clash q
      never false p q = clash p

pub fits-pin : (pinned : Bool) (c : Composite) → FitsWord c → FitsWord (with_pin pinned c)
fits-pin pinned c fits = record { count = fits.count; place = fits.place }
