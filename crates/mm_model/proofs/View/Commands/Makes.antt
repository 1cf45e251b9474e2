-- What is made of the place that a search finds.
use Rattle.std.proofs.Common.{◌≡◌, ℕ, List, Option, refl, sym, ap, ◌∙◌, subst}
use Rattle.mm_model.specs.declared.line.Line.{Line}
use Rattle.mm_model.specs.State.{State}
use Rattle.mm_model.specs.Places.Place.{Family}
use Rattle.mm_model.specs.Effect.{Effect}
use Rattle.mm_model.specs.Step.{Makes}
use Rattle.mm_model.specs.Good.{IsGood}
use Rattle.mm_model.specs.Views.View.{View, view_of}
use Rattle.mm_model.specs.Views.ViewEffect.{ViewEffect}
use Rattle.mm_model.specs.Views.ViewStep.{ViewMakes}
use Rattle.mm_model.proofs.Good.Making.Searching.{IsFound, searched_is_found}
use Rattle.mm_model.proofs.View.Commands.SameEffects.{SameEffect}
use Rattle.mm_model.proofs.View.Commands.Searches.{search-shown}

-- A row of a command on a state that has the effect which one on its view has.
pub record RowShown (Row : Effect → Type 0) (v : ViewEffect) : Type 0 where
  pub effect : Effect
  pub row : Row effect
  pub same : SameEffect v effect

pub same-is : (v w : ViewEffect) (e : Effect) → v ≡ w → SameEffect w e → SameEffect v e
same-is v w e is same = subst (λ x. SameEffect x e) (sym is) same

module _ (a : State) (good : IsGood a) where
  -- what is made of a place
  pub makes-shown : (family : Family) (bytes : ℕ) (on_view : View → Option ℕ → ViewEffect)
      (on_state : State → Option ℕ → Effect)
      → ((b : State) (found : Option ℕ) → IsFound a family bytes b found
      → SameEffect (on_view (view_of b) found) (on_state b found))
      → (log : List Line) (v : ViewEffect) → ViewMakes (view_of a) family bytes on_view log v
      → RowShown (Makes a family bytes on_state log) v
  makes-shown family bytes on_view on_state same log v m =
      let s = search-shown a good family bytes log m.left m.found m.search in
      let f = searched_is_found a family bytes log s.state m.found good s.searches in
      record {
        effect = on_state s.state m.found;
        row = record { state = s.state; found = m.found; search = s.searches; effect_is = refl };
        same = same-is v (on_view (view_of s.state) m.found) (on_state s.state m.found)
            (m.effect_is ∙ ap (λ view. on_view view m.found) s.left_is) (same s.state m.found f);
      }
