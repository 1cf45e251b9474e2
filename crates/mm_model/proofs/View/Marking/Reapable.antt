-- What is reapable by base is so by birth.
use Rattle.std.proofs.Common.{◌≡◌, ℕ, true, not, refl, sym, ap, ◌∙◌, subst}
use Rattle.std.specs.Prelude.{◌==◌, ◌&&◌}
use Rattle.std.specs.List.{count_by}
use Rattle.mm_model.specs.Object.{Object, is_counted}
use Rattle.mm_model.specs.State.{State, Lives}
use Rattle.mm_model.specs.Words.{stack_words, counted_cell_words, counted_slots, names, holds}
use Rattle.mm_model.specs.Places.Place.{live_pieces}
use Rattle.mm_model.specs.Good.{IsPlaced}
use Rattle.mm_model.specs.Sets.Reapable.{only_slots_hold, IsReapable}
use Rattle.mm_model.specs.Views.ByBase.{Begins}
use Rattle.mm_model.specs.Views.ObjectView.{ObjectView, holds_base, counted_words_of}
use Rattle.mm_model.specs.Views.SetsByBase.{only_slots_hold_at, IsReapableAt}
use Rattle.mm_model.specs.Views.View.{seen, seen_objects, view_of}
use Rattle.mm_model.specs.Views.ViewWords.{outside_references}
use Rattle.mm_model.proofs.Good.Living.{lives_same}
use Rattle.mm_model.proofs.Lists.Counts.{none-counted}
use Rattle.mm_model.proofs.View.ByBase.Seen.{begins-seen, seen-begins}
use Rattle.mm_model.proofs.View.Words.{counted_words_of-seen, counted_cell_words-seen}
use Rattle.mm_model.proofs.View.Marking.Sets.{IsSameSet, own_view}

module _ (a : State) (placed : IsPlaced a.settings.max (live_pieces a)) where
  abbrev outside : ℕ → ℕ
  outside = outside_references (view_of a)

  -- what only counted slots hold, is the same by base
  only_slots_hold-seen : (birth : ℕ) (object : Object)
      → only_slots_hold_at (stack_words a) outside object.base (seen a birth object) ≡ only_slots_hold a object
  only_slots_hold-seen birth object =
      ap (λ b. is_counted object.kind && not object.sticky && not (names (stack_words a) object) && b)
      (ap (λ words. count_by (λ word. word == object.base) words == 0) (counted_cell_words-seen a)
      ∙ none-counted (λ word. word == object.base) (counted_cell_words a))

  only_slots_hold-own : (base : ℕ) (o : ObjectView) → Begins (seen_objects a) base o → (birth : ℕ) (object : Object)
      → Lives a birth object → object.base ≡ base
      → only_slots_hold_at (stack_words a) outside base o ≡ only_slots_hold a object
  only_slots_hold-own base o begins birth object lives at =
      ap (only_slots_hold_at (stack_words a) outside base) (own_view a placed base o begins birth object lives at)
      ∙ ap (λ b. only_slots_hold_at (stack_words a) outside b (seen a birth object)) (sym at)
      ∙ only_slots_hold-seen birth object

  reapable_at : (birth : ℕ) → IsReapable a birth → (object : Object) → Lives a birth object
      → IsReapableAt (seen_objects a) (stack_words a) outside object.base
  reapable_at birth (IsReapable.Reapable number own there test holders) object lives =
      let same = lives_same a birth object own lives there in
      IsReapableAt.Reapable object.base (seen a birth object) (begins-seen a placed birth object lives)
      (only_slots_hold-seen birth object ∙ ap (only_slots_hold a) same ∙ test)
      (λ by holder begins held.
      let s = seen-begins a by holder begins in
      let words : counted_words_of holder ≡ counted_slots s.object =
      ap counted_words_of s.is ∙ counted_words_of-seen a s.birth s.object in
      let at : holds (counted_slots s.object) own ≡ true =
      ap (λ (x : Object). holds (counted_slots s.object) x) (sym same)
      ∙ ap (λ words. holds_base words object.base) (sym words) ∙ held in
      subst (IsReapableAt (seen_objects a) (stack_words a) outside) s.at
      (reapable_at s.birth (holders s.birth s.object s.lives at) s.object s.lives))

  reapable_by : (base : ℕ) → IsReapableAt (seen_objects a) (stack_words a) outside base → (birth : ℕ)
      (object : Object) → Lives a birth object → object.base ≡ base → IsReapable a birth
  reapable_by base (IsReapableAt.Reapable number o begins test holders) birth object lives at =
      IsReapable.Reapable birth object lives
      (sym (only_slots_hold-own base o begins birth object lives at) ∙ test)
      (λ by holder keeps held.
      let begins_by = begins-seen a placed by holder keeps in
      let here : holds_base (counted_words_of (seen a by holder)) base ≡ true =
      ap (λ words. holds_base words base) (counted_words_of-seen a by holder)
      ∙ ap (holds_base (counted_slots holder)) (sym at) ∙ held in
      reapable_by holder.base (holders holder.base (seen a by holder) begins_by here) by holder keeps refl)

  pub reapable_same : IsSameSet a (IsReapable a) (IsReapableAt (seen_objects a) (stack_words a) outside)
  reapable_same =
      record {
        there = λ birth object lives reapable. reapable_at birth reapable object lives;
        back = λ birth object lives reapable. reapable_by object.base reapable birth object lives refl;
      }
