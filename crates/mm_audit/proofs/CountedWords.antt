-- Words that mean counted objects, where at most one object passes the test of a word.
use Rattle.std.proofs.Common.{◌≡◌, ℕ, Bool, true, false, ◌&&◌, Option, Some, None, refl, sym, ap, ◌∙◌}
use Rattle.std.specs.Prelude.{◌==◌}
use Rattle.std.specs.List.{list_any, find}
use Rattle.std.specs.Option.{option_map, option_map_or}
use Rattle.std.proofs.Common.{eqb-true, subst}
use Rattle.mm_model.specs.Object.{is_counted}
use Rattle.mm_model.specs.Words.{falls}
use Rattle.mm_model.specs.Views.ByBase.{Begins, Based, based}
use Rattle.mm_model.specs.Views.ObjectView.{ObjectView, ObjectsByBase}
use Rattle.mm_model.specs.Views.ViewWords.{object_at, resolved_in, begins_counted_in, falls_in_counted_of}
use Rattle.mm_model.proofs.Lists.Tests.{same_tests}
use Rattle.mm_model.proofs.Places.Placing.{both}
use Rattle.mm_model.proofs.View.ByBase.Entries.{any_begins, begins_any}
use Rattle.mm_audit.specs.declared.header.Header.{Header}
use Rattle.mm_audit.specs.declared.header.Found.{Found}
use Rattle.mm_audit.specs.Objects.{header_of, found_of}
use Rattle.mm_audit.proofs.Resolving.{found-begins, object_at-begins}
use Rattle.mm_audit.proofs.Shades.{FallsAlone}

abbrev pub counts : Based ObjectView → Bool
counts o = is_counted o.value.kind

module _ (objects : ObjectsByBase) (key : Based ObjectView → Bool)
    (alone : (base : ℕ) (object : ObjectView) → Begins objects base object
    → key (record { base = base; value = object }) ≡ true
    → find key (based objects) ≡ Some (record { base = base; value = object })) where
  any-found : list_any (λ o. counts o && key o) (based objects) ≡ option_map_or counts (find key (based objects)) false
  any-found =
      same_tests (list_any (λ o. counts o && key o) (based objects))
      (option_map_or counts (find key (based objects)) false)
      there (back (find key (based objects)) refl)
    where
      there : list_any (λ o. counts o && key o) (based objects) ≡ true
          → option_map_or counts (find key (based objects)) false ≡ true
      there e =
          let one = any_begins (λ o. counts o && key o) objects e in
          let passes = both (is_counted one.value.kind) (key (record { base = one.base; value = one.value })) one.passes
          in
          ap (λ told. option_map_or counts told false) (alone one.base one.value one.begins passes.1) ∙ passes.0

      joined : (a b : Bool) → a ≡ true → b ≡ true → (a && b) ≡ true
      joined a b p q = ap (λ x. x && b) p ∙ q

      back : (told : Option (Based ObjectView)) → find key (based objects) ≡ told
          → option_map_or counts told false ≡ true → list_any (λ o. counts o && key o) (based objects) ≡ true
      back None e p = cc
      back (Some o) e p =
          let own = found-begins key objects o e in
          begins_any (λ o. counts o && key o) objects o.base o.value own.0 (joined (counts o) (key o) p own.1)

pub begins-counted : (objects : ObjectsByBase) (word : ℕ)
    → begins_counted_in objects word ≡ option_map_or counts (object_at objects word) false
begins-counted objects word =
    any-found objects (λ o. o.base == word)
    (λ base object begins passes.
    let same : base ≡ word = eqb-true base word passes in
    object_at-begins objects word object (subst (λ b. Begins objects b object) same begins)
    ∙ ap (λ b. Some (record { base = b; value = object })) (sym same))

pub falls-counted : (objects : ObjectsByBase) (word : ℕ) → FallsAlone objects word
    → falls_in_counted_of objects word ≡ option_map_or counts (resolved_in objects word) false
falls-counted objects word alone = any-found objects (λ o. falls word o.base o.value.extent) alone

-- what a header tells of the kind
pub header-counts : (told : Option (Based ObjectView)) (header : Option Header)
    → header ≡ option_map (λ o. header_of o.value) told
    → option_map_or counts told false ≡ option_map_or (λ h. is_counted h.kind) header false
header-counts told header is = split told ∙ ap (λ h. option_map_or (λ h. is_counted h.kind) h false) (sym is)
  where
    split : (told : Option (Based ObjectView)) → option_map_or counts told false
        ≡ option_map_or (λ (h : Header). is_counted h.kind) (option_map (λ o. header_of o.value) told) false
    split None = refl
    split (Some o) = refl

pub found-counts : (told : Option (Based ObjectView)) (found : Option Found) → found ≡ option_map found_of told
    → option_map_or counts told false ≡ option_map_or (λ f. is_counted f.header.kind) found false
found-counts told found is = split told ∙ ap (λ f. option_map_or (λ f. is_counted f.header.kind) f false) (sym is)
  where
    split : (told : Option (Based ObjectView)) → option_map_or counts told false
        ≡ option_map_or (λ (f : Found). is_counted f.header.kind) (option_map found_of told) false
    split None = refl
    split (Some o) = refl
