-- References depend on the words of counted slots alone.
use Rattle.std.proofs.Common.{◌≡◌, ℕ, ◌+◌, List, [], ◌∷◌, ◌++◌, Option, Some, None, refl, sym, ap, ◌∙◌}
use Rattle.std.specs.Prelude.{◌==◌}
use Rattle.std.specs.List.{flat_map, count_by}
use Rattle.mm_model.specs.Views.ByBase.{Based, based_from, changed_from, changed}
use Rattle.mm_model.specs.Views.ObjectView.{ObjectView, counted_words_of, references_in}
use Rattle.mm_object.specs.Object.{StoredObject, StoredObjects, view_of_stored, views_of}

abbrev counted_words : List (Based ObjectView) → List ℕ
counted_words os = flat_map (λ (o : Based ObjectView). counted_words_of o.value) os

-- those of one entry
abbrev pub words_told : Option StoredObject → List ℕ
words_told None = []
words_told (Some object) = counted_words_of (view_of_stored object)

head : (low : ℕ) (e : Option StoredObject) (es : StoredObjects)
    → counted_words (based_from low (views_of (e ∷ es)))
    ≡ words_told e ++ counted_words (based_from (low + 16) (views_of es))
head low None es = refl
head low (Some object) es = refl

module _ (f g : ℕ → StoredObject → Option StoredObject)
    (same : (base : ℕ) (object : StoredObject) → words_told (f base object) ≡ words_told (g base object)) where
  words_from-alike : (low : ℕ) (objects : StoredObjects)
      → counted_words (based_from low (views_of (changed_from f low objects)))
      ≡ counted_words (based_from low (views_of (changed_from g low objects)))
  words_from-alike low [] = refl
  words_from-alike low (None ∷ objects) = words_from-alike (low + 16) objects
  words_from-alike low (Some object ∷ objects) =
      head low (f low object) (changed_from f (low + 16) objects)
      ∙ ap (λ (ws : List ℕ). ws ++ counted_words (based_from (low + 16) (views_of (changed_from f (low + 16) objects))))
      (same low object)
      ∙ ap (λ (ws : List ℕ). words_told (g low object) ++ ws) (words_from-alike (low + 16) objects)
      ∙ sym (head low (g low object) (changed_from g (low + 16) objects))

  pub references-alike : (objects : StoredObjects) (base : ℕ)
      → references_in (views_of (changed f objects)) base ≡ references_in (views_of (changed g objects)) base
  references-alike objects base =
      ap (λ (ws : List ℕ). count_by (λ word. word == base) ws) (words_from-alike 0 objects)
