-- Words make gray together what one after the other does.
use Rattle.std.proofs.Common.{◌≡◌, ℕ, ◌+◌, ◌<◌, Bool, true, false, ◌&&◌, ◌||◌, if◌then◌else◌, List, [], ◌∷◌, ◌++◌}
use Rattle.std.proofs.Common.{take, suc, length, Option, Some, refl, sym, ap, ◌∙◌, arith}
use Rattle.std.specs.Prelude.{slice_index}
use Rattle.std.specs.Option.{option_and_then}
use Rattle.std.proofs.Math.Seq.{take-suc}
use Rattle.std.proofs.lemmas.List.Folds.{list_any-append}
use Rattle.mm_model.specs.declared.object.Colour.{Colour}
use Rattle.mm_model.specs.declared.object.Colour.TheVariants.{White, Gray, Black}
use Rattle.mm_model.specs.Sets.Marking.{is_white}
use Rattle.mm_model.specs.Words.{falls}
use Rattle.mm_model.specs.Views.ObjectView.{ObjectView, ObjectsByBase, names_at}
use Rattle.mm_model.specs.Views.SetsByBase.{grayed_at, with_grayed_objects}
use Rattle.mm_model.proofs.View.ByBase.ChangedEntries.{changed-none, changed-changed, changed-alike, one_after}

-- the colour of an object in which a word falls, or none does
abbrev shaded : Colour → Bool → Colour
shaded colour named = if is_white colour && named then Gray else colour

-- it is all that changes
shaded-colour : (words : List ℕ) (base : ℕ) (object : ObjectView)
    → grayed_at words base object
    ≡ Some (record object { colour = shaded object.colour (names_at words base object) })
shaded-colour words base object = split (is_white object.colour && names_at words base object)
  where
    split : (gray : Bool) → ◌≡◌ {A = Option ObjectView}
        (Some (if gray then record object { colour = Gray } else object))
        (Some (record object { colour = if gray then Gray else object.colour }))
    split true = refl
    split false = refl

shaded-twice : (colour : Colour) (first second : Bool)
    → shaded (shaded colour first) second ≡ shaded colour (first || second)
shaded-twice White true second = refl
shaded-twice White false second = refl
shaded-twice Gray first second = refl
shaded-twice Black first second = refl

grayed_at-joined : (words more : List ℕ) (base : ℕ) (object : ObjectView)
    → one_after (grayed_at more) (grayed_at words) base object ≡ grayed_at (words ++ more) base object
grayed_at-joined words more base object =
    ap (option_and_then (grayed_at more base)) (shaded-colour words base object)
    ∙ shaded-colour more base (record object { colour = shaded object.colour (names_at words base object) })
    ∙ ap (λ (c : Colour). Some (record object { colour = c }))
    (shaded-twice object.colour (names_at words base object) (names_at more base object)
    ∙ ap (shaded object.colour) (sym (list_any-append (λ word. falls word base object.extent) words more)))
    ∙ sym (shaded-colour (words ++ more) base object)

pub grayed-joined : (words more : List ℕ) (objects : ObjectsByBase)
    → with_grayed_objects more (with_grayed_objects words objects) ≡ with_grayed_objects (words ++ more) objects
grayed-joined words more objects =
    changed-changed (grayed_at more) (grayed_at words) objects
    ∙ changed-alike (one_after (grayed_at more) (grayed_at words)) (grayed_at (words ++ more)) objects
    (λ base object begins. grayed_at-joined words more base object)

-- no word makes anything gray
pub grayed-nothing : (objects : ObjectsByBase) → with_grayed_objects [] objects ≡ objects
grayed-nothing objects =
    changed-none (grayed_at []) objects
    (λ base object begins. shaded-colour [] base object
    ∙ ap (λ (c : Colour). Some (record object { colour = c })) (unshaded object.colour))
  where
    unshaded : (colour : Colour) → shaded colour false ≡ colour
    unshaded White = refl
    unshaded Gray = refl
    unshaded Black = refl

-- one word more of a list
pub grayed-next : (words : List ℕ) (i : ℕ) (objects : ObjectsByBase) → i < length words
    → with_grayed_objects (slice_index words i ∷ []) (with_grayed_objects (take i words) objects)
    ≡ with_grayed_objects (take (i + 1) words) objects
grayed-next words i objects below =
    let next : suc i ≡ i + 1 = omega arith in
    grayed-joined (take i words) (slice_index words i ∷ []) objects
    ∙ ap (λ ws. with_grayed_objects ws objects) (sym (take-suc words i 0 below) ∙ ap (λ n. take n words) next)
