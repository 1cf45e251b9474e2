-- How many gray objects there are, by their headers.
use Rattle.std.proofs.Common.{◌≡◌, ℕ, zero, suc, ◌+◌, ◌*◌, cond, List, [], ◌∷◌, Option, Some, None, refl, sym}
use Rattle.std.proofs.Common.{ap, ◌∙◌, zero-add, arith}
use Rattle.std.specs.Prelude.{slice_get, ◌↔◌}
use Rattle.std.proofs.lemmas.List.Sums.{sum_by-cons}
use Rattle.mm_model.specs.declared.object.Colour.{Colour}
use Rattle.mm_model.specs.declared.object.Colour.TheVariants.{White, Gray, Black}
use Rattle.mm_model.specs.Sets.Marking.{is_gray}
use Rattle.mm_model.specs.Views.ObjectView.{ObjectView, ObjectsByBase}
use Rattle.mm_audit.specs.declared.header.Header.{Header}
use Rattle.mm_audit.specs.Counts.{one_if}
use Rattle.mm_audit.specs.Objects.{object_in, shown_from, shown, is_gray_object, grays_in, is_gray_header}
use Rattle.mm_audit.specs.Objects.{grays_among, NoneIsGray}

pub grays-shown : (words : List ℕ) (entries : List (Option Header))
    → grays_among entries ≡ grays_in (shown words entries)
grays-shown words entries = from 0 entries
  where
    from : (low : ℕ) (entries : List (Option Header)) → grays_among entries ≡ grays_in (shown_from words low entries)
    from low [] = refl
    from low (None ∷ entries) =
        sum_by-cons (λ e. cond (is_gray_header e) 1 0) None entries
        ∙ ap (λ n. 0 + n) (from (low + 1) entries)
        ∙ sym (sum_by-cons (λ e. cond (is_gray_object e) 1 0) None (shown_from words (low + 1) entries))
    from low (Some header ∷ entries) =
        sum_by-cons (λ e. cond (is_gray_header e) 1 0) (Some header) entries
        ∙ ap (λ n. cond (is_gray header.colour) 1 0 + n) (from (low + 1) entries)
        ∙ sym
        (sum_by-cons (λ e. cond (is_gray_object e) 1 0) (Some (object_in words low header))
        (shown_from words (low + 1) entries))

none-counted : (objects : ObjectsByBase) → grays_in objects ≡ 0 → (k : ℕ) (object : ObjectView)
    → slice_get objects k ≡ Some (Some object) → object.colour ≡ Gray → ⊥
none-counted [] none k object is gray = cc
none-counted (entry ∷ objects) none zero object is gray =
    let sum = sum_by-cons (λ e. cond (is_gray_object e) 1 0) entry objects in
    let same : entry ≡ Some object = heads is in
    let one : one_if (is_gray_object entry) ≡ 1 =
    ap (λ e. one_if (is_gray_object e)) same ∙ ap (λ c. one_if (is_gray c)) gray in
    absurd (omega arith)
  where
    heads : Some entry ≡ Some (Some object) → entry ≡ Some object
    heads e = cc
none-counted (entry ∷ objects) none (suc k) object is gray =
    let sum = sum_by-cons (λ e. cond (is_gray_object e) 1 0) entry objects in
    none-counted objects (omega arith) k object is gray

none-gray : (objects : ObjectsByBase)
    → ((k : ℕ) (object : ObjectView) → slice_get objects k ≡ Some (Some object) → object.colour ≡ Gray → ⊥)
    → grays_in objects ≡ 0
none-gray [] none = refl
none-gray (entry ∷ objects) none =
    sum_by-cons (λ e. cond (is_gray_object e) 1 0) entry objects
    ∙ ap (λ n. n + grays_in objects) (here entry (λ object. none 0 object))
    ∙ zero-add (grays_in objects) ∙ none-gray objects (λ k. none (suc k))
  where
    colour : (c : Colour) → (c ≡ Gray → ⊥) → one_if (is_gray c) ≡ 0
    colour White other = refl
    colour Gray other = absurd (other refl)
    colour Black other = refl

    here : (entry : Option ObjectView)
        → ((object : ObjectView) → Some entry ≡ Some (Some object) → object.colour ≡ Gray → ⊥)
        → one_if (is_gray_object entry) ≡ 0
    here None none = refl
    here (Some object) none = colour object.colour (none object refl)

pub grays-none : (objects : ObjectsByBase) → (grays_in objects ≡ 0) ↔ NoneIsGray objects
grays-none objects = (
  λ none base object begins. none-counted objects none begins.grain object begins.is,
  λ none. none-gray objects (λ k object is. none (16 * k) object (record { grain = k; aligned = refl; is = is })),
)
