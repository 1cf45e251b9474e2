-- What is left of entries after one is taken away.
use Rattle.std.proofs.Common.{◌≡◌, ℕ, zero, suc, ◌/◌, ◌%◌, Bool, true, false, cond, [], ◌∷◌, Some, None}
use Rattle.std.proofs.Common.{refl, sym, ap, ◌∙◌, arith, eqb-true}
use Rattle.std.proofs.lemmas.Bool.{eq-eqb}
use Rattle.std.specs.Prelude.{IsTrue, ◌↔◌, ◌==◌, slice_get, slice_set}
use Rattle.std.specs.Bool.{OnTrue, OnFalse}
use Rattle.mm_model.specs.Views.ByBase.{with_entry}
use Rattle.mm_sites.specs.declared.entry.Entry.{Entry}
use Rattle.mm_sites.specs.Entries.{EntriesByBase, HasEntry, without_one}

-- where nothing stands, nothing is taken away
set-nothing : (entries : EntriesByBase) (grain : ℕ)
    → ((entry : Entry) → slice_get entries grain ≡ Some (Some entry) → ⊥)
    → entries ≡ slice_set entries grain None
set-nothing [] grain none = refl
set-nothing (None ∷ entries) zero none = refl
set-nothing (Some entry ∷ entries) zero none = absurd (none entry refl)
set-nothing (entry ∷ entries) (suc grain) none =
    ap (λ (es : EntriesByBase). entry ∷ es) (set-nothing entries grain none)

pub freed-taken : (found : Bool) (before now : EntriesByBase) (base : ℕ) → (IsTrue found ↔ HasEntry before base)
    → OnTrue found (now ≡ with_entry base None before) → OnFalse found (now ≡ before)
    → now ≡ without_one before base
freed-taken true before now base has removed same =
    let entered : HasEntry before base = has.0 refl in
    let aligned = entered.begins.aligned in
    let at : base % 16 ≡ 0 = omega arith in
    let test : (base % 16 == 0) ≡ true = eq-eqb (base % 16) 0 at in
    removed ∙ ap (λ (b : Bool). cond b (with_entry base None before) before) (sym test)
freed-taken false before now base has removed same = same ∙ split (base % 16 == 0) refl
  where
    split : (b : Bool) → (base % 16 == 0) ≡ b → before ≡ cond b (with_entry base None before) before
    split false e = refl
    split true e =
        let aligned : base % 16 ≡ 0 = eqb-true (base % 16) 0 e in
        set-nothing before (base / 16)
        (λ entry is.
        let entered : HasEntry before base =
        record { entry = entry; begins = record { grain = base / 16; aligned = omega arith; is = is } } in
        let yes = has.1 entered in
        cc)
