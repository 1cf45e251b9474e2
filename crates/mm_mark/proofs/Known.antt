-- What a marker knows, as tests and by how it is known.
use Rattle.std.proofs.Common.{◌≡◌, ℕ, ◌/◌, ◌<◌, ◌≤◌, Bool, true, false, length, Option, Some, None, refl, sym, ap}
use Rattle.std.proofs.Common.{subst}
use Rattle.std.proofs.Common.{◌∙◌, arith, eqb-true}
use Rattle.std.specs.Prelude.{IsTrue, slice_get, ◌||◌, ◌==◌, nat_le}
use Rattle.std.specs.List.{list_any}
use Rattle.std.proofs.lemmas.Bool.{eq-eqb}
use Rattle.mm_model.specs.declared.object.Colour.{Colour}
use Rattle.mm_model.specs.declared.object.Colour.TheVariants.{White, Gray, Black}
use Rattle.mm_model.specs.Views.ByBase.{Begins}
use Rattle.mm_model.specs.Views.ObjectView.{ObjectView, ObjectsByBase, scanned_words_of}
use Rattle.mm_model.specs.Sets.Marking.{is_gray}
use Rattle.mm_model.specs.Views.View.{PartlyScannedView}
use Rattle.std.proofs.lemmas.Bool.Decides.{nat_tests}
use Rattle.mm_model.proofs.Lists.Truth.{or_true, no_other}
use Rattle.mm_model.proofs.View.ByBase.Entries.{begins_same}
use Rattle.mm_mark.specs.Marker.{Marker, is_gray_entry, is_partly_at, is_left_out, is_known, IsUnderScan}
use Rattle.mm_mark.specs.Parts.{IsKnown, UnderScan}

true-or : (a b : Bool) → a ≡ true → (a || b) ≡ true
true-or a b e = ap (λ x. x || b) e

reached-test : (next base : ℕ) → next ≤ base → nat_le next base ≡ true
reached-test next base from = grind (arith, nat_tests)

test-reached : (next base : ℕ) → nat_le next base ≡ true → next ≤ base
test-reached next base test = grind (arith, nat_tests)

module _ (marker : Marker) (base : ℕ) where
  abbrev is_queued : Bool
  is_queued = list_any (λ entry. entry == base) marker.queue

  abbrev is_partly : Bool
  is_partly = is_partly_at marker.partly base

  abbrev is_left : Bool
  is_left = is_left_out marker.left_out base

  pub known-told : IsKnown marker base → IsTrue (is_known marker base)
  known-told (IsKnown.Is_queued q) = true-or is_queued (is_partly || is_left) q
  known-told (IsKnown.Is_partly_scanned p is at) =
      or_true is_queued (is_partly || is_left)
      (true-or is_partly is_left
      (ap (λ (o : Option PartlyScannedView). is_partly_at o base) is ∙ eq-eqb p.base base at))
  known-told (IsKnown.Is_left_out next is from) =
      or_true is_queued (is_partly || is_left)
      (or_true is_partly is_left
      (ap (λ (o : Option ℕ). is_left_out o base) is ∙ reached-test next base from))

  left : (o : Option ℕ) → marker.left_out ≡ o → is_left_out o base ≡ true → IsKnown marker base
  left None e h = absurd (no_other refl h)
  left (Some next) e h = IsKnown.Is_left_out next e (test-reached next base h)

  left-told : is_left ≡ true → IsKnown marker base
  left-told h = left marker.left_out refl h

  pub told-known : IsTrue (is_known marker base) → IsKnown marker base
  told-known known = queued is_queued refl known
    where
      partly : (o : Option PartlyScannedView) → marker.partly ≡ o → (is_partly_at o base || is_left) ≡ true
          → IsKnown marker base
      partly None e h = left-told h
      partly (Some p) e h = split (p.base == base) refl h
        where
          split : (b : Bool) → (p.base == base) ≡ b → (b || is_left) ≡ true → IsKnown marker base
          split true f h = IsKnown.Is_partly_scanned p e (eqb-true p.base base f)
          split false f h = left-told h

      queued : (b : Bool) → is_queued ≡ b → (b || (is_partly || is_left)) ≡ true → IsKnown marker base
      queued true e h = IsKnown.Is_queued e
      queued false e h = partly marker.partly refl h

gray-is : (c : Colour) → is_gray c ≡ true → c ≡ Gray
gray-is White e = absurd (no_other refl e)
gray-is Gray e = refl
gray-is Black e = absurd (no_other refl e)

pub under-told : (objects : ObjectsByBase) (p : PartlyScannedView) → UnderScan objects p → IsUnderScan objects p
under-told objects p under =
    let at = under.begins.aligned in
    let place : p.base / 16 ≡ under.begins.grain = omega arith in
    record {
      aligned = omega arith;
      gray =
          ap (λ (n : ℕ). is_gray_entry (slice_get objects n)) place ∙ ap is_gray_entry under.begins.is
          ∙ ap is_gray under.gray;
      some_done = under.some_done;
      some_left = λ object begins.
          let same = begins_same objects p.base under.object object under.begins begins in
          let left = under.some_left in
          subst (λ (v : ObjectView). p.slots_done < length (scanned_words_of v)) same left;
    }

pub told-under : (objects : ObjectsByBase) (p : PartlyScannedView) → IsUnderScan objects p → UnderScan objects p
told-under objects p under = split (slice_get objects (p.base / 16)) refl under.gray
  where
    split : (e : Option (Option ObjectView)) → slice_get objects (p.base / 16) ≡ e
        → is_gray_entry (slice_get objects (p.base / 16)) ≡ true → UnderScan objects p
    split None f h = absurd (no_other (ap is_gray_entry f) h)
    split (Some None) f h = absurd (no_other (ap is_gray_entry f) h)
    split (Some (Some object)) f h =
        let begins : Begins objects p.base object =
        record { grain = p.base / 16; aligned = under.aligned; is = f } in
        record {
          object = object;
          begins = begins;
          gray = gray-is object.colour (sym (ap is_gray_entry f) ∙ h);
          some_done = under.some_done;
          some_left = under.some_left object begins;
        }
