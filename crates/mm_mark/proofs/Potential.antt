-- How much is left to scan falls with each part.
use Rattle.std.proofs.Common.{◌≡◌, ℕ, ◌+◌, ◌-◌, ◌*◌, ◌/◌, ◌<◌, ◌≤◌, ◌⊎◌, Bool, true, false, List, [], ◌∷◌, map, sum}
use Rattle.std.proofs.Common.{length, Option, Some, None, inl, inr, refl, sym, ap, ◌∙◌, arith}
use Rattle.std.specs.Prelude.{IsTrue, MatchOption, is_some, slice_get, ◌&&◌, if◌then◌else◌}
use Rattle.std.proofs.lemmas.List.Sums.{sum-map}
use Rattle.mm_model.specs.declared.object.Colour.{Colour}
use Rattle.mm_model.specs.declared.object.Colour.TheVariants.{White, Gray, Black}
use Rattle.mm_model.specs.declared.object.Part.{Part}
use Rattle.mm_model.specs.Sets.Marking.{is_white, is_black}
use Rattle.mm_model.specs.Views.ByBase.{Begins, with_entry, changed_from}
use Rattle.mm_model.specs.Views.ObjectView.{ObjectView, ObjectsByBase, scanned_words_of, names_at}
use Rattle.mm_model.specs.Views.SetsByBase.{grayed_at, with_grayed_objects}
use Rattle.mm_model.specs.Views.View.{PartlyScannedView}
use Rattle.mm_model.specs.Views.ViewStep.{slots_done_of, may_go_on}
use Rattle.mm_model.proofs.Good.Writing.CountedWords.{sum-set}
use Rattle.mm_model.proofs.Lists.Truth.{no_other}
use Rattle.mm_mark.specs.Marker.{Marker, Marking}
use Rattle.mm_mark.specs.Parts.{IsSameCycle, IsScanned, IsAdvanced, part_words}
use Rattle.mm_mark.specs.Stale.{slots_of}
use Rattle.mm_mark.specs.Draining.{unscanned_of, unscanned}
use Rattle.mm_mark.proofs.Advancing.{gray-stays, length-part_words}

-- how many slots are done of what is scanned in part
abbrev pub slots_done : Option PartlyScannedView → ℕ
slots_done None = 0
slots_done (Some partly) = partly.slots_done

unscanned-grayed_at : (words : List ℕ) (base : ℕ) (object : ObjectView)
    → unscanned_of (grayed_at words base object) ≡ unscanned_of (Some object)
unscanned-grayed_at words base object = split object.colour refl (names_at words base object)
  where
    split : (c : Colour) → object.colour ≡ c → (b : Bool)
        → unscanned_of (Some (if is_white object.colour && b then record object { colour = Gray } else object))
        ≡ unscanned_of (Some object)
    split White e true =
        ap (λ (x : Colour). unscanned_of (Some (if is_white x && true then record object { colour = Gray } else
        object))) e
        ∙ sym (ap (λ (x : Colour). if is_black x then 0 else 1 + length (scanned_words_of object)) e)
    split White e false =
        ap (λ (x : Colour). unscanned_of (Some (if is_white x && false then record object { colour = Gray } else
        object))) e
    split Gray e b =
        ap (λ (x : Colour). unscanned_of (Some (if is_white x && b then record object { colour = Gray } else object))) e
    split Black e b =
        ap (λ (x : Colour). unscanned_of (Some (if is_white x && b then record object { colour = Gray } else object))) e

-- graying leaves it as it is
pub unscanned-grayed : (words : List ℕ) (objects : ObjectsByBase)
    → unscanned (with_grayed_objects words objects) ≡ unscanned objects
unscanned-grayed words objects =
    sym (sum-map unscanned_of (with_grayed_objects words objects)) ∙ ap sum (from 0 objects)
    ∙ sum-map unscanned_of objects
  where
    from : (low : ℕ) (entries : ObjectsByBase)
        → map unscanned_of (changed_from (grayed_at words) low entries) ≡ map unscanned_of entries
    from low [] = refl
    from low (None ∷ entries) = ap (λ ns. 0 ∷ ns) (from (low + 16) entries)
    from low (Some object ∷ entries) =
        ap (λ n. n ∷ map unscanned_of (changed_from (grayed_at words) (low + 16) entries))
        (unscanned-grayed_at words low object)
        ∙ ap (λ ns. unscanned_of (Some object) ∷ ns) (from (low + 16) entries)

-- a gray object counts with its slots until it is black
pub unscanned-blackened : (objects : ObjectsByBase) (base : ℕ) (object : ObjectView) → Begins objects base object
    → object.colour ≡ Gray
    → unscanned (with_entry base (Some (record object { colour = Black })) objects)
    + (1 + length (scanned_words_of object)) ≡ unscanned objects
unscanned-blackened objects base object begins gray =
    let at = begins.aligned in
    let place : base / 16 ≡ begins.grain = omega arith in
    let set = sum-set unscanned_of objects (base / 16) (Some object) (Some (record object { colour = Black }))
    (ap (slice_get objects) place ∙ begins.is) in
    let own : unscanned_of (Some object) ≡ 1 + length (scanned_words_of object) =
    ap (λ (x : Colour). if is_black x then 0 else 1 + length (scanned_words_of object)) gray in
    omega (arith, set, own)

-- how many slots are done, by the object whose turn it is
chosen-done : (partly : Option PartlyScannedView) (base done : ℕ) → done ≡ slots_done_of partly base
    → IsTrue (may_go_on partly base) → done ≡ slots_done partly
chosen-done None base done is turn = is
chosen-done (Some p) base done is turn = is ∙ ap (λ (b : Bool). if b then p.slots_done else 0) turn

-- What is left falls by the slots of a part, and by one more where the object becomes black.
pub record IsLess (before after : Marking) (slots : ℕ) : Type 0 where
  pub was : slots_done before.marker.partly ≤ unscanned before.objects
  pub now : slots_done after.marker.partly ≤ unscanned after.objects
  pub falls : unscanned after.objects + slots_done before.marker.partly + slots
      ≤ unscanned before.objects + slots_done after.marker.partly
  pub by : (slots ≡ 64) ⊎ (unscanned after.objects + slots_done before.marker.partly + slots + 1
      ≤ unscanned before.objects + slots_done after.marker.partly)

pub scanned-less : (before after : Marking) (part : Part) → IsScanned before after part
    → IsLess before after part.slots
scanned-less before after part s = split s.advanced
  where
    done : s.from.slots_done ≡ slots_done before.marker.partly
    done = chosen-done before.marker.partly s.from.base s.from.slots_done s.chosen.done s.chosen.turn

    split : IsAdvanced before.objects s.from s.chosen.object after → IsLess before after part.slots
    split (IsAdvanced.Is_black whole now none) =
        let words = part_words s.from s.chosen.object in
        let stays = gray-stays words before.objects s.from.base s.chosen.object s.chosen.begins s.chosen.gray in
        let fall = unscanned-blackened (with_grayed_objects words before.objects) s.from.base s.chosen.object stays
        s.chosen.gray in
        let same = unscanned-grayed words before.objects in
        let left = ap unscanned now in
        let were_done = done in
        let none_done = ap slots_done none in
        let fits = s.chosen.fits in
        let is = s.slots in
        record {
          was = omega arith;
          now = omega arith;
          falls = omega arith;
          by = inr (omega arith);
        }
    split (IsAdvanced.Is_under_scan below now partly) =
        let words = part_words s.from s.chosen.object in
        let stays = gray-stays words before.objects s.from.base s.chosen.object s.chosen.begins s.chosen.gray in
        let fall = unscanned-blackened (with_grayed_objects words before.objects) s.from.base s.chosen.object stays
        s.chosen.gray in
        let same = unscanned-grayed words before.objects in
        let left = ap unscanned now in
        let were_done = done in
        let some_done = ap slots_done partly in
        let size = length-part_words s.from s.chosen.object in
        let is = s.slots in
        record {
          was = omega arith;
          now = omega arith;
          falls = omega arith;
          by = inl (omega arith);
        }

-- so the work that is left gets less
pub less-left : (before after : Marking) (slots : ℕ) → IsLess before after slots
    → unscanned after.objects - slots_done after.marker.partly
    < unscanned before.objects - slots_done before.marker.partly
less-left before after slots less = split less.by
  where
    split : ((slots ≡ 64) ⊎ (unscanned after.objects + slots_done before.marker.partly + slots + 1
        ≤ unscanned before.objects + slots_done after.marker.partly))
        → unscanned after.objects - slots_done after.marker.partly
        < unscanned before.objects - slots_done before.marker.partly
    split (inl e) = let was = less.was in let now = less.now in let falls = less.falls in omega arith
    split (inr e) = let was = less.was in let now = less.now in omega arith

-- what a call answers where it answers something, and where it doesn't
pub some-scanned : (A : Type 0) (before after : Marking) (r : Option Part) → is_some r ≡ true
    → MatchOption r A (IsScanned before after)
    → (part : Part) × IsScanned before after part × (r ≡ Some part)
some-scanned A before after None e h = absurd (no_other refl e)
some-scanned A before after (Some part) e h = (part, h, refl)

pub none-scanned : (A : Type 0) (before after : Marking) (r : Option Part) → is_some r ≡ false
    → MatchOption r A (IsScanned before after) → A
none-scanned A before after None e h = h
none-scanned A before after (Some part) e h = absurd (no_other e refl)

-- one change after another
pub cycle-then : (first second third : Marker) → IsSameCycle first second → IsSameCycle second third
    → IsSameCycle first third
cycle-then first second third one two =
    two ∙ ap (λ (m : Marker).
    record m { queue = third.queue; left_out = third.left_out; partly = third.partly }) one

pub none-slots : (r : Option Part) → is_some r ≡ false → slots_of r ≡ 0
none-slots None e = refl
none-slots (Some part) e = absurd (no_other e refl)

-- what a part costs is paid by what is left to scan
pub part-paid : (before after : Marking) (slots start spent cost stale left : ℕ) → IsLess before after slots
    → spent + 8 * stale + 16 * unscanned before.objects ≤ start + 16 * slots_done before.marker.partly
    → cost + 8 * left ≤ spent + 4 + 2 * slots + 8 * stale
    → cost + 8 * left + 16 * unscanned after.objects ≤ start + 16 * slots_done after.marker.partly
part-paid before after slots start spent cost stale left less so_far paid = split less.by
  where
    split : ((slots ≡ 64) ⊎ (unscanned after.objects + slots_done before.marker.partly + slots + 1
        ≤ unscanned before.objects + slots_done after.marker.partly))
        → cost + 8 * left + 16 * unscanned after.objects ≤ start + 16 * slots_done after.marker.partly
    split (inl e) = let falls = less.falls in let a = so_far in let b = paid in omega arith
    split (inr e) = let a = so_far in let b = paid in omega arith
