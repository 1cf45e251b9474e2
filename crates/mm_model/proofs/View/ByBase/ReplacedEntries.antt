-- Lists by base of which one entry is replaced.
use Rattle.std.proofs.Common.{◌≡◌, ◌≢◌, ◌⊎◌, ⊎_elim, inl, inr, ℕ, ◌/◌, List, Option, Some, sym, ap, ◌∙◌, subst, arith}
use Rattle.std.specs.Prelude.{slice_get}
use Rattle.std.proofs.lemmas.Bool.{cases_eq}
use Rattle.mm_model.specs.Views.ByBase.{Begins, with_entry}
use Rattle.mm_model.proofs.Lists.Replaced.{get-set_same, get-set_other}
use Rattle.mm_model.proofs.View.ByBase.Entries.{begins_same}

pub begins_get : {X : Type 0} (entries : List (Option X)) (base : ℕ) (x : X) → Begins entries base x
    → slice_get entries (base / 16) ≡ Some (Some x)
begins_get entries base x begins =
    let a = begins.aligned in
    let grain : base / 16 ≡ begins.grain = omega arith in
    ap (slice_get entries) grain ∙ begins.is

module _ {X : Type 0} (entries : List (Option X)) (base : ℕ) (x y : X) (begins : Begins entries base x) where
  abbrev after : List (Option X)
  after = with_entry base (Some y) entries

  pub begins_here : Begins after base y
  begins_here =
      let a = begins.aligned in
      record {
        grain = base / 16;
        aligned = omega arith;
        is = get-set_same entries (base / 16) (Some x) (Some y) (begins_get entries base x begins);
      }

  pub begins_there : (b : ℕ) (z : X) → b ≢ base → Begins entries b z → Begins after b z
  begins_there b z other there =
      let a = begins.aligned in
      let k = there.aligned in
      record {
        grain = there.grain;
        aligned = there.aligned;
        is = get-set_other entries (base / 16) there.grain (Some y) (λ e. other (omega arith)) ∙ there.is;
      }

  pub begins_elsewhere : (b : ℕ) (z : X) → b ≢ base → Begins after b z → Begins entries b z
  begins_elsewhere b z other there =
      let a = begins.aligned in
      let k = there.aligned in
      record {
        grain = there.grain;
        aligned = there.aligned;
        is = sym (get-set_other entries (base / 16) there.grain (Some y) (λ e. other (omega arith))) ∙ there.is;
      }

  -- what begins somewhere now is the new one, or began there
  pub begins_cases : (b : ℕ) (z : X) → Begins after b z
      → ((b ≡ base) × (z ≡ y)) ⊎ ((b ≢ base) × Begins entries b z)
  begins_cases b z there =
      ⊎_elim
      (λ (e : b ≡ base). inl (e, begins_same after b z y there (subst (λ n. Begins after n y) (sym e) begins_here)))
      (λ (ne : b ≢ base). inr (ne, begins_elsewhere b z ne there)) (cases_eq b base)
