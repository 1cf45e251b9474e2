-- The white objects in which words fall become gray: one word after another, and by a heap that shades one.
use Rattle.std.proofs.Common.{◌≡◌, ℕ, suc, ◌+◌, ◌*◌, ◌<◌, Bool, true, false, List, [], ◌∷◌, ◌++◌, reverse, take, length}
use Rattle.std.proofs.Common.{Option, Some, None, refl, sym, ap, subst, ◌∙◌, arith}
use Rattle.std.specs.Prelude.{slice_get, slice_index, IfSome, ◌&&◌, ◌||◌, if◌then◌else◌}
use Rattle.std.specs.List.{list_any}
use Rattle.std.specs.Option.{option_map, option_and_then}
use Rattle.std.proofs.Math.Seq.{take-suc}
use Rattle.std.proofs.lemmas.List.Folds.{list_any-append}
use Rattle.std.proofs.lemmas.List.Sorted.{IsPermutation-reverse, list_any-IsPermutation}
use Rattle.mm_model.specs.declared.object.Colour.{Colour}
use Rattle.mm_model.specs.declared.object.Colour.TheVariants.{White, Gray, Black}
use Rattle.mm_model.specs.Sets.Marking.{is_white}
use Rattle.mm_model.specs.Words.{falls}
use Rattle.mm_model.specs.Views.ObjectView.{ObjectView, ObjectsByBase, names_at}
use Rattle.mm_model.specs.Views.SetsByBase.{grayed_at, with_grayed_objects}
use Rattle.mm_model.specs.Views.GoodView.{AreWhite}
use Rattle.mm_model.specs.Views.View.{PartlyScannedView}
use Rattle.mm_model.proofs.View.ByBase.Entries.{get-changed, same_entries}
use Rattle.mm_object.specs.Object.{views_of}
use Rattle.mm_object.specs.Heap.{Heap}
use Rattle.mm_mark.specs.Marker.{Marker, IsSameButQueue, IsUnderScan, AreKnown, KeepsGray}
use Rattle.mm_mark.specs.Parts.{UnderScan}
use Rattle.mm_mark.specs.Colours.{IsGrayed}
use Rattle.mm_mark.proofs.Known.{under-told, told-under}

-- what some words gray, and others then, all of them gray
pub grayed_at-twice : (words more : List ℕ) (base : ℕ) (object : ObjectView)
    → option_and_then (grayed_at more base) (grayed_at words base object) ≡ grayed_at (words ++ more) base object
grayed_at-twice words more base object =
    split object.colour refl (names_at words base object) refl (names_at more base object) refl
  where
    one : (c : Colour) → c ≡ object.colour → (m n : Bool) → m ≡ names_at words base object
        → n ≡ names_at more base object
        → Some (if is_white c && m then record object { colour = Gray } else object) ≡ grayed_at words base object
    one c e m n f g =
        ap (λ (x : Colour). Some (if is_white x && m then record object { colour = Gray } else object)) e
        ∙ ap (λ (x : Bool). Some (if is_white object.colour && x then record object { colour = Gray } else object)) f

    both : (c : Colour) → c ≡ object.colour → (m n : Bool) → m ≡ names_at words base object
        → n ≡ names_at more base object
        → Some (if is_white c && (m || n) then record object { colour = Gray } else object)
        ≡ grayed_at (words ++ more) base object
    both c e m n f g =
        ap (λ (x : Colour). Some (if is_white x && (m || n) then record object { colour = Gray } else object)) e
        ∙ ap (λ (x : Bool). Some (if is_white object.colour && x then record object { colour = Gray } else object))
        (ap (λ x. x || n) f ∙ ap (λ x. names_at words base object || x) g
        ∙ sym (list_any-append (λ word. falls word base object.extent) words more))

    split : (c : Colour) → c ≡ object.colour → (m : Bool) → m ≡ names_at words base object → (n : Bool)
        → n ≡ names_at more base object
        → option_and_then (grayed_at more base) (grayed_at words base object) ≡ grayed_at (words ++ more) base object
    split White e true f n g =
        ap (option_and_then (grayed_at more base)) (sym (one White e true n f g)) ∙ both White e true n f g
    split White e false f true g =
        ap (option_and_then (grayed_at more base)) (sym (one White e false true f g))
        ∙ ap (λ (x : Colour). Some (if is_white x && names_at more base object then record object { colour = Gray }
        else object)) (sym e)
        ∙ ap (λ (x : Bool). Some (if x then record object { colour = Gray } else object)) (sym g)
        ∙ both White e false true f g
    split White e false f false g =
        ap (option_and_then (grayed_at more base)) (sym (one White e false false f g))
        ∙ ap (λ (x : Colour). Some (if is_white x && names_at more base object then record object { colour = Gray }
        else object)) (sym e)
        ∙ ap (λ (x : Bool). Some (if x then record object { colour = Gray } else object)) (sym g)
        ∙ both White e false false f g
    split Gray e m f n g =
        ap (option_and_then (grayed_at more base)) (sym (one Gray e m n f g))
        ∙ ap (λ (x : Colour). Some (if is_white x && names_at more base object then record object { colour = Gray }
        else object)) (sym e)
        ∙ both Gray e m n f g
    split Black e m f n g =
        ap (option_and_then (grayed_at more base)) (sym (one Black e m n f g))
        ∙ ap (λ (x : Colour). Some (if is_white x && names_at more base object then record object { colour = Gray }
        else object)) (sym e)
        ∙ both Black e m n f g

pub grayed-twice : (words more : List ℕ) (objects : ObjectsByBase)
    → with_grayed_objects more (with_grayed_objects words objects) ≡ with_grayed_objects (words ++ more) objects
grayed-twice words more objects = same_entries _ _ at
  where
    entry : (k : ℕ) (e : Option (Option ObjectView))
        → option_map (option_and_then (grayed_at more (16 * k)))
        (option_map (option_and_then (grayed_at words (16 * k))) e)
        ≡ option_map (option_and_then (grayed_at (words ++ more) (16 * k))) e
    entry k None = refl
    entry k (Some None) = refl
    entry k (Some (Some object)) = ap Some (grayed_at-twice words more (16 * k) object)

    at : (k : ℕ) → slice_get (with_grayed_objects more (with_grayed_objects words objects)) k
        ≡ slice_get (with_grayed_objects (words ++ more) objects) k
    at k =
        get-changed (grayed_at more) (with_grayed_objects words objects) k
        ∙ ap (option_map (option_and_then (grayed_at more (16 * k)))) (get-changed (grayed_at words) objects k)
        ∙ entry k (slice_get objects k) ∙ sym (get-changed (grayed_at (words ++ more)) objects k)

-- no word grays nothing
pub grayed-none : (objects : ObjectsByBase) → with_grayed_objects [] objects ≡ objects
grayed-none objects = same_entries _ _ at
  where
    one : (base : ℕ) (object : ObjectView) (c : Colour) → c ≡ object.colour → grayed_at [] base object ≡ Some object
    one base object White e = ap (λ (x : Colour). Some (if is_white x && false then record object { colour = Gray }
        else object)) (sym e)
    one base object Gray e = ap (λ (x : Colour). Some (if is_white x && false then record object { colour = Gray }
        else object)) (sym e)
    one base object Black e = ap (λ (x : Colour). Some (if is_white x && false then record object { colour = Gray }
        else object)) (sym e)

    entry : (k : ℕ) (e : Option (Option ObjectView)) → option_map (option_and_then (grayed_at [] (16 * k))) e ≡ e
    entry k None = refl
    entry k (Some None) = refl
    entry k (Some (Some object)) = ap Some (one (16 * k) object object.colour refl)

    at : (k : ℕ) → slice_get (with_grayed_objects [] objects) k ≡ slice_get objects k
    at k = get-changed (grayed_at []) objects k ∙ entry k (slice_get objects k)

-- their order doesn't tell
list_any-reverse : (p : ℕ → Bool) (xs : List ℕ) → list_any p (reverse xs) ≡ list_any p xs
list_any-reverse p xs = sym (list_any-IsPermutation p xs (reverse xs) (IsPermutation-reverse xs))

pub grayed-reverse : (words : List ℕ) (objects : ObjectsByBase)
    → with_grayed_objects (reverse words) objects ≡ with_grayed_objects words objects
grayed-reverse words objects = same_entries _ _ at
  where
    entry : (k : ℕ) (e : Option (Option ObjectView))
        → option_map (option_and_then (grayed_at (reverse words) (16 * k))) e
        ≡ option_map (option_and_then (grayed_at words (16 * k))) e
    entry k None = refl
    entry k (Some None) = refl
    entry k (Some (Some object)) =
        ap (λ (x : Bool). Some (Some (if is_white object.colour && x then record object { colour = Gray } else object)))
        (list_any-reverse (λ word. falls word (16 * k) object.extent) words)

    at : (k : ℕ) → slice_get (with_grayed_objects (reverse words) objects) k
        ≡ slice_get (with_grayed_objects words objects) k
    at k =
        get-changed (grayed_at (reverse words)) objects k ∙ entry k (slice_get objects k)
        ∙ sym (get-changed (grayed_at words) objects k)

pub grayed_at-marks : (words : List ℕ) (base : ℕ) (object : ObjectView) → names_at words base object ≡ true
    → object.colour ≡ White → grayed_at words base object ≡ Some (record object { colour = Gray })
grayed_at-marks words base object named white =
    ap (λ (x : Colour). Some (if is_white x && names_at words base object then record object { colour = Gray } else
    object)) white
    ∙ ap (λ (x : Bool). Some (if x then record object { colour = Gray } else object)) named

pub grayed_at-spares : (words : List ℕ) (base : ℕ) (object : ObjectView)
    → (is_white object.colour && names_at words base object) ≡ false → grayed_at words base object ≡ Some object
grayed_at-spares words base object e = ap (λ (x : Bool). Some (if x then record object { colour = Gray } else object)) e

-- an object that is scanned in part stays so
under-grayed : (words : List ℕ) (objects : ObjectsByBase) (p : PartlyScannedView) → UnderScan objects p
    → UnderScan (with_grayed_objects words objects) p
under-grayed words objects p u = record {
  object = u.object;
  begins = record {
    grain = u.begins.grain;
    aligned = u.begins.aligned;
    is =
        get-changed (grayed_at words) objects u.begins.grain
        ∙ ap (option_map (option_and_then (grayed_at words (16 * u.begins.grain)))) u.begins.is
        ∙ ap Some (grayed_at-spares words (16 * u.begins.grain) u.object
        (ap (λ (c : Colour). is_white c && names_at words (16 * u.begins.grain) u.object) u.gray));
  };
  gray = u.gray;
  some_done = u.some_done;
  some_left = u.some_left;
}

pub grayed-under : (words : List ℕ) (objects : ObjectsByBase) (p : PartlyScannedView) → IsUnderScan objects p
    → IsUnderScan (with_grayed_objects words objects) p
grayed-under words objects p u =
    under-told (with_grayed_objects words objects) p (under-grayed words objects p (told-under objects p u))

pub all-grayed-under : (words : List ℕ) (objects : ObjectsByBase) (p : Option PartlyScannedView)
    → IfSome p (IsUnderScan objects) → IfSome p (IsUnderScan (with_grayed_objects words objects))
all-grayed-under words objects None u = u
all-grayed-under words objects (Some p) u = grayed-under words objects p u

-- one graying after another
pub grayed-then : (first second third : Heap) (words more : List ℕ) → IsGrayed first second words
    → IsGrayed second third more → IsGrayed first third (words ++ more)
grayed-then first second third words more one two = record {
  grayed =
      two.grayed ∙ ap (with_grayed_objects more) one.grayed ∙ grayed-twice words more (views_of first.objects);
  rest = two.rest ∙ one.rest;
}

-- what a marker keeps once it knows what became gray
pub keeps-grayed : (old new : Marker) (before after : Heap) (words : List ℕ) → IsSameButQueue old new
    → IsGrayed before after words → KeepsGray old (views_of before.objects) → AreKnown new (views_of after.objects)
    → KeepsGray new (views_of after.objects)
keeps-grayed old new before after words same grayed keeps known = record {
  known = known;
  partly =
      subst (λ (p : Option PartlyScannedView). IfSome p (IsUnderScan (views_of after.objects)))
      (sym (ap (λ (m : Marker). m.partly) same))
      (subst (λ (os : ObjectsByBase). IfSome old.partly (IsUnderScan os)) (sym grayed.grayed)
      (all-grayed-under words (views_of before.objects) old.partly keeps.partly));
}

pub nothing-grayed : (h : Heap) → IsGrayed h h []
nothing-grayed h = record { grayed = sym (grayed-none (views_of h.objects)); rest = refl }

pub take-next : (words : List ℕ) (i : ℕ) → i < length words
    → take (i + 1) words ≡ take i words ++ (slice_index words i ∷ [])
take-next words i below =
    let next : i + 1 ≡ suc i = omega arith in ap (λ (n : ℕ). take n words) next ∙ take-suc words i 0 below

-- one change of a queue after another
pub queue-then : (first second third : Marker) → IsSameButQueue first second → IsSameButQueue second third
    → IsSameButQueue first third
queue-then first second third one two =
    two ∙ ap (λ (m : Marker). record m { queue = third.queue; left_out = third.left_out }) one

-- the order of the words doesn't tell
pub grayed-in_order : (before after : Heap) (words : List ℕ) → IsGrayed before after (reverse words)
    → IsGrayed before after words
grayed-in_order before after words grayed = record {
  grayed = grayed.grayed ∙ grayed-reverse words (views_of before.objects);
  rest = grayed.rest;
}

-- where all is white nothing is gray
pub white-known : (marker : Marker) (objects : ObjectsByBase) → AreWhite objects → AreKnown marker objects
white-known marker objects white = λ base object begins gray.
    let is : ◌≡◌ {A = Colour} White Gray = sym (white base object begins) ∙ gray in
    absurd (apart is)
  where
    apart : ◌≡◌ {A = Colour} White Gray → ⊥
    apart e = cc
