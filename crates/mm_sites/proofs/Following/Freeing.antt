-- What is entered without what begins at some bases is what lives once the objects there are freed.
use Rattle.std.proofs.Common.{◌≡◌, ◌≢◌, ℕ, ◌/◌, ◌%◌, Bool, true, false, cond, List, [], ◌∷◌, ◌++◌, length}
use Rattle.std.proofs.Common.{zero, suc, Option, Some, None, refl, sym, ap, ◌∙◌, subst, ⊎_elim, arith, eqb-true}
use Rattle.std.proofs.Common.{length-set}
use Rattle.std.proofs.lemmas.Bool.{eq-eqb}
use Rattle.std.proofs.lemmas.List.Sums.{fold-append}
use Rattle.std.specs.Prelude.{◌==◌, ◌||◌, slice_get, slice_set}
use Rattle.mm_model.specs.Object.{Object}
use Rattle.mm_model.specs.State.{State}
use Rattle.mm_model.specs.Phase.{lists, released, unless_freed}
use Rattle.mm_model.specs.Views.ByBase.{Begins, with_entry}
use Rattle.mm_model.proofs.Good.Releases.{stayed, stays_lives}
use Rattle.mm_model.proofs.Lists.Replaced.{get-set_same, get-set_other, get-set_cases}
use Rattle.mm_model.proofs.Lists.Truth.{no_other}
use Rattle.mm_model.proofs.Lists.Keyed.{refuted}
use Rattle.mm_sites.specs.declared.entry.Entry.{Entry}
use Rattle.mm_sites.specs.Entries.{EntriesByBase, without_one, without}
use Rattle.mm_sites.specs.Living.{entry_with, AreEntered}

-- nothing stands any more where the entry is taken away
none_left : (entries : EntriesByBase) (grain : ℕ) (entry : Entry)
    → slice_get (slice_set entries grain None) grain ≡ Some (Some entry) → ⊥
none_left entries grain entry e =
    ⊎_elim (λ (l : (grain ≡ grain) × (None ≡ Some entry)). let gone = l.1 in cc)
    (λ (r : slice_get entries grain ≡ Some (Some entry)).
    let gone = get-set_same entries grain (Some entry) None r in cc)
    (get-set_cases entries grain grain None (Some entry) e)

module _ (entries : EntriesByBase) (base b : ℕ) (entry : Entry) where
  begins-without_one : Begins (without_one entries base) b entry → Begins entries b entry × (b ≢ base)
  begins-without_one h = split (base % 16 == 0) refl h
    where
      split : (c : Bool) → (base % 16 == 0) ≡ c → Begins (cond c (with_entry base None entries) entries) b entry
          → Begins entries b entry × (b ≢ base)
      split true e h =
          let whole : base % 16 ≡ 0 = eqb-true _ _ e in
          let at = h.aligned in
          let other : h.grain ≡ base / 16 → ⊥ = λ same.
          none_left entries (base / 16) entry
          (subst (λ g. slice_get (with_entry base None entries) g ≡ Some (Some entry)) same h.is) in (
            record {
              grain = h.grain;
              aligned = h.aligned;
              is = sym (get-set_other entries (base / 16) h.grain None other) ∙ h.is;
            },
            λ same. other (omega arith),
          )
      split false e h = (h, λ same. let at = h.aligned in no_other e (eq-eqb (base % 16) 0 (omega arith)))

  stays-without_one : Begins entries b entry → b ≢ base → Begins (without_one entries base) b entry
  stays-without_one h other = split (base % 16 == 0) refl
    where
      split : (c : Bool) → (base % 16 == 0) ≡ c → Begins (cond c (with_entry base None entries) entries) b entry
      split true e =
          let whole : base % 16 ≡ 0 = eqb-true _ _ e in
          let at = h.aligned in
          record {
            grain = h.grain;
            aligned = h.aligned;
            is = get-set_other entries (base / 16) h.grain None (λ same. other (omega arith)) ∙ h.is;
          }
      split false e = h

-- what begins afterwards began before, and isn't listed
pub begins-without : (bases : List ℕ) (entries : EntriesByBase) (b : ℕ) (entry : Entry)
    → Begins (without entries bases) b entry → Begins entries b entry × (lists bases b ≡ false)
begins-without [] entries b entry h = (h, refl)
begins-without (base ∷ bases) entries b entry h =
    let rest = begins-without bases (without_one entries base) b entry h in
    let one = begins-without_one entries base b entry rest.0 in
    let apart : (base == b) ≡ false = refuted (base == b) (λ e. one.1 (sym (eqb-true base b e))) in
    (one.0, ap (λ c. c || lists bases b) apart ∙ rest.1)

stays-without : (bases : List ℕ) (entries : EntriesByBase) (b : ℕ) (entry : Entry) → Begins entries b entry
    → lists bases b ≡ false → Begins (without entries bases) b entry
stays-without [] entries b entry h none = h
stays-without (base ∷ bases) entries b entry h none =
    split (base == b) refl none (stays-without bases (without_one entries base) b entry)
  where
    split : (c : Bool) → (base == b) ≡ c → (c || lists bases b) ≡ false
        → (Begins (without_one entries base) b entry → lists bases b ≡ false
        → Begins (without (without_one entries base) bases) b entry)
        → Begins (without (without_one entries base) bases) b entry
    split true e none rest = cc
    split false e none rest =
        rest (stays-without_one entries base b entry h (λ same. no_other e (eq-eqb base b (sym same)))) none

pub entered-released : (a : State) (bases sites : List ℕ) (entries : EntriesByBase) → AreEntered a sites entries
    → AreEntered (released bases a) sites (without entries bases)
entered-released a bases sites entries entered =
    record {
      all = λ birth object site h.
          let one = stayed a bases birth object h.lives in
          let there = entered.all birth one.before site (record { lives = one.lived; site_is = h.site_is }) in
          subst (λ (o : Object). Begins (without entries bases) o.base (entry_with o site)) one.is
          (stays-without bases entries one.before.base (entry_with one.before site) there one.unlisted);
      only = λ base entry begins.
          let parts = begins-without bases entries base entry begins in
          let one = entered.only base entry parts.0 in
          let unlisted : lists bases one.object.base ≡ false = ap (lists bases) one.at ∙ parts.1 in
          record {
            birth = one.birth;
            object = record one.object { partner = unless_freed a bases one.object.partner };
            site = one.site;
            lives = record {
              lives = stays_lives a bases one.birth one.object one.lives.lives unlisted;
              site_is = one.lives.site_is;
            };
            at = one.at;
            is = one.is;
          };
    }

-- what begins at some bases and then at others
pub without-append : (entries : EntriesByBase) (bases more : List ℕ)
    → without entries (bases ++ more) ≡ without (without entries bases) more
without-append entries bases more = fold-append without_one entries bases more

length-without_one : (entries : EntriesByBase) (base : ℕ) → length (without_one entries base) ≡ length entries
length-without_one entries base =
    let split : (c : Bool) → length (cond c (with_entry base None entries) entries) ≡ length entries =
    elim [ true ↦ length-set entries (base / 16) None | false ↦ refl ] in
    split (base % 16 == 0)

pub length-without : (entries : EntriesByBase) (bases : List ℕ) → length (without entries bases) ≡ length entries
length-without entries [] = refl
length-without entries (base ∷ bases) =
    length-without (without_one entries base) bases ∙ length-without_one entries base

-- entries at two places are replaced in either order
set-apart : (entries : EntriesByBase) (i j : ℕ) (x y : Option Entry) → i ≢ j
    → slice_set (slice_set entries i x) j y ≡ slice_set (slice_set entries j y) i x
set-apart [] i j x y other = refl
set-apart (e ∷ es) zero zero x y other = absurd (other refl)
set-apart (e ∷ es) zero (suc j) x y other = refl
set-apart (e ∷ es) (suc i) zero x y other = refl
set-apart (e ∷ es) (suc i) (suc j) x y other =
    ap (λ (rest : EntriesByBase). e ∷ rest) (set-apart es i j x y (λ same. other (ap suc same)))

module _ (born : ℕ) (whole : born % 16 ≡ 0) (entry : Option Entry) where
  without_one-with_entry : (entries : EntriesByBase) (base : ℕ) → (base == born) ≡ false
      → without_one (with_entry born entry entries) base ≡ with_entry born entry (without_one entries base)
  without_one-with_entry entries base other = split (base % 16 == 0) refl
    where
      split : (c : Bool) → (base % 16 == 0) ≡ c
          → cond c (with_entry base None (with_entry born entry entries)) (with_entry born entry entries)
          ≡ with_entry born entry (cond c (with_entry base None entries) entries)
      split true e =
          let own : base % 16 ≡ 0 = eqb-true _ _ e in
          set-apart entries (born / 16) (base / 16) entry None
          (λ same. no_other other (eq-eqb base born (omega arith)))
      split false e = refl

  -- what is taken away elsewhere can be taken away before
  pub without-with_entry : (bases : List ℕ) (entries : EntriesByBase) → lists bases born ≡ false
      → without (with_entry born entry entries) bases ≡ with_entry born entry (without entries bases)
  without-with_entry [] entries none = refl
  without-with_entry (base ∷ bases) entries none =
      split (base == born) refl none (without-with_entry bases (without_one entries base))
    where
      split : (c : Bool) → (base == born) ≡ c → (c || lists bases born) ≡ false
          → (lists bases born ≡ false
          → without (with_entry born entry (without_one entries base)) bases
          ≡ with_entry born entry (without (without_one entries base) bases))
          → without (without_one (with_entry born entry entries) base) bases
          ≡ with_entry born entry (without (without_one entries base) bases)
      split true e none rest = cc
      split false e none rest =
          ap (λ (es : EntriesByBase). without es bases) (without_one-with_entry entries base e) ∙ rest none
