-- What one word makes gray, where it falls in one object alone.
use Rattle.std.proofs.Common.{◌≡◌, ℕ, Bool, true, false, ◌&&◌, ◌||◌, if◌then◌else◌, [], ◌∷◌, Option, Some, None}
use Rattle.std.proofs.Common.{refl, sym, ap, ◌∙◌}
use Rattle.std.specs.Option.{option_map}
use Rattle.mm_model.specs.declared.object.Colour.TheVariants.{Gray}
use Rattle.mm_model.specs.Words.{falls}
use Rattle.mm_model.specs.Sets.Marking.{is_white}
use Rattle.mm_model.specs.Views.ByBase.{Begins, Based, with_entry}
use Rattle.mm_model.specs.Views.ObjectView.{ObjectView, ObjectsByBase}
use Rattle.mm_model.specs.Views.SetsByBase.{grayed_at, with_grayed_objects}
use Rattle.mm_model.specs.Views.ViewWords.{resolved_in}
use Rattle.mm_model.proofs.View.ByBase.ChangedEntries.{changed-one, changed-none}
use Rattle.mm_audit.specs.declared.header.Found.{Found}
use Rattle.mm_audit.specs.Objects.{found_of}
use Rattle.mm_audit.proofs.Resolving.{IsTold}

-- it makes no other than a white object gray in which it falls
unshaded : (word base : ℕ) (object : ObjectView)
    → (falls word base object.extent ≡ true → is_white object.colour ≡ true → ⊥)
    → grayed_at (word ∷ []) base object ≡ Some object
unshaded word base object never = split (is_white object.colour) (falls word base object.extent) refl refl
  where
    split : (white here : Bool) → is_white object.colour ≡ white → falls word base object.extent ≡ here
        → Some (if white && (here || false) then record object { colour = Gray } else object) ≡ Some object
    split true true p q = absurd (never q p)
    split true false p q = refl
    split false here p q = refl

pub grayed-none : (objects : ObjectsByBase) (word : ℕ)
    → ((base : ℕ) (object : ObjectView) → Begins objects base object → falls word base object.extent ≡ true
    → is_white object.colour ≡ true → ⊥)
    → with_grayed_objects (word ∷ []) objects ≡ objects
grayed-none objects word never =
    changed-none (grayed_at (word ∷ [])) objects
    (λ base object begins. unshaded word base object (never base object begins))

pub grayed-one : (objects : ObjectsByBase) (word base : ℕ) (object : ObjectView) → Begins objects base object
    → falls word base object.extent ≡ true → is_white object.colour ≡ true
    → ((other : ℕ) (more : ObjectView) → Begins objects other more → falls word other more.extent ≡ true
    → other ≡ base)
    → with_grayed_objects (word ∷ []) objects ≡ with_entry base (Some (record object { colour = Gray })) objects
grayed-one objects word base object begins here white only =
    changed-one (grayed_at (word ∷ [])) objects base object begins
    (λ other more differ there.
    unshaded word other more (λ falls white. differ (only other more there falls)))
    ∙ ap (λ (o : Option ObjectView). with_entry base o objects)
    (ap (λ b. Some (if b && (falls word base object.extent || false) then record object { colour = Gray } else object))
    white
    ∙ ap (λ b. Some (if b || false then record object { colour = Gray } else object)) here)

-- what each word resolves to that falls somewhere
abbrev pub FallsAlone : ObjectsByBase → ℕ → Type 0
FallsAlone objects word =
    (base : ℕ) (object : ObjectView) → Begins objects base object → falls word base object.extent ≡ true
    → resolved_in objects word ≡ Some (record { base = base; value = object })

same_found : (p q : Based ObjectView) → Some p ≡ Some q → p ≡ q
same_found p q e = cc

pub unresolved-grayed : (objects : ObjectsByBase) (word : ℕ)
    → None ≡ option_map found_of (resolved_in objects word) → FallsAlone objects word
    → with_grayed_objects (word ∷ []) objects ≡ objects
unresolved-grayed objects word none alone =
    grayed-none objects word
    (λ base object begins here white.
    clash (found_of (record { base = base; value = object }))
    (none ∙ ap (option_map found_of) (alone base object begins here)))
  where
    clash : (found : Found) → None ≡ Some found → ⊥
    clash found e = cc

module _ (objects : ObjectsByBase) (word : ℕ) (found : Found) (told : IsTold objects word found)
    (alone : FallsAlone objects word) where
  same : (o : Based ObjectView) → Begins objects o.base o.value → falls word o.base o.value.extent ≡ true
      → o ≡ record { base = found.base; value = told.object }
  same o begins falls_in =
      same_found o (record { base = found.base; value = told.object })
      (sym (alone o.base o.value begins falls_in) ∙ told.resolves)

  pub white-grayed : is_white told.object.colour ≡ true
      → with_grayed_objects (word ∷ []) objects
      ≡ with_entry found.base (Some (record told.object { colour = Gray })) objects
  white-grayed white =
      grayed-one objects word found.base told.object told.begins told.here white
      (λ other more there here.
      ap (λ (o : Based ObjectView). o.base) (same (record { base = other; value = more }) there here))

  -- what isn't white stays
  pub coloured-grayed : is_white told.object.colour ≡ false → with_grayed_objects (word ∷ []) objects ≡ objects
  coloured-grayed coloured =
      grayed-none objects word
      (λ base object begins here white.
      clash
      (sym coloured
      ∙ ap (λ (o : Based ObjectView). is_white o.value.colour)
      (sym (same (record { base = base; value = object }) begins here))
      ∙ white))
    where
      clash : false ≡ true → ⊥
      clash e = cc
