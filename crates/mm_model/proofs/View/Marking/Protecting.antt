-- What is protected by base is so by birth.
use Rattle.std.proofs.Common.{◌≡◌, ℕ, not, refl, sym, ap, ◌∙◌}
use Rattle.mm_model.specs.Object.{Object, is_counted}
use Rattle.mm_model.specs.State.{State, Lives}
use Rattle.mm_model.specs.Words.{stack_words, area_words, counted_cell_words, counted_slots, word_slots, names, holds}
use Rattle.mm_model.specs.Places.Place.{live_pieces}
use Rattle.mm_model.specs.Good.{IsPlaced}
use Rattle.mm_model.specs.Sets.Protected.{IsProtected}
use Rattle.mm_model.specs.Views.ByBase.{Begins}
use Rattle.mm_model.specs.Views.ObjectView.{ObjectView, names_at, holds_base, word_words_of, counted_words_of}
use Rattle.mm_model.specs.Views.SetsByBase.{RootWords, IsProtectedAt}
use Rattle.mm_model.specs.Views.View.{seen, seen_objects}
use Rattle.mm_model.proofs.Good.Living.{lives_same}
use Rattle.mm_model.proofs.View.ByBase.Seen.{begins-seen, seen-begins}
use Rattle.mm_model.proofs.View.Words.{counted_words_of-seen, word_words_of-seen}
use Rattle.mm_model.proofs.View.Marking.Sets.{IsSameSet, own_view, names_at-own}

-- the words outside of objects that may keep one
abbrev pub roots_of : State → RootWords
roots_of a = record { stack = stack_words a; areas = area_words a; counted_cells = counted_cell_words a }

module _ (a : State) (placed : IsPlaced a.settings.max (live_pieces a)) where
  -- a view of a live object has its kind
  kind_own : (base : ℕ) (o : ObjectView) → Begins (seen_objects a) base o → (birth : ℕ) (object : Object)
      → Lives a birth object → object.base ≡ base → is_counted o.kind ≡ is_counted object.kind
  kind_own base o begins birth object lives at =
      ap (λ x. is_counted x.kind) (own_view a placed base o begins birth object lives at)

  protected_at : (birth : ℕ) → IsProtected a birth → (object : Object) → Lives a birth object
      → IsProtectedAt (seen_objects a) (roots_of a) object.base
  protected_at birth (IsProtected.By_stack number own there named) object lives =
      let same = lives_same a birth object own lives there in
      IsProtectedAt.By_stack object.base (seen a birth object) (begins-seen a placed birth object lives)
      (ap (names (stack_words a)) same ∙ named)
  protected_at birth (IsProtected.By_area number own there uncounted named) object lives =
      let same = lives_same a birth object own lives there in
      IsProtectedAt.By_area object.base (seen a birth object) (begins-seen a placed birth object lives)
      (ap (λ x. not (is_counted x.kind)) same ∙ uncounted) (ap (names (area_words a)) same ∙ named)
  protected_at birth (IsProtected.By_counted_cell number own there counted held) object lives =
      let same = lives_same a birth object own lives there in
      IsProtectedAt.By_counted_cell object.base (seen a birth object) (begins-seen a placed birth object lives)
      (ap (λ x. is_counted x.kind) same ∙ counted) (ap (holds (counted_cell_words a)) same ∙ held)
  protected_at birth (IsProtected.By_slot number own by holder there uncounted keeps named protected) object lives =
      let same = lives_same a birth object own lives there in
      IsProtectedAt.By_slot object.base (seen a birth object) holder.base (seen a by holder)
      (begins-seen a placed birth object lives)
      (ap (λ x. not (is_counted x.kind)) same ∙ uncounted) (begins-seen a placed by holder keeps)
      (ap (λ words. names words object) (word_words_of-seen a by holder) ∙ ap (names (word_slots holder)) same ∙ named)
      (protected_at by protected holder keeps)
  protected_at birth (IsProtected.By_counted_slot number own by holder there counted keeps held inner) object lives =
      let same = lives_same a birth object own lives there in
      IsProtectedAt.By_counted_slot object.base (seen a birth object) holder.base (seen a by holder)
      (begins-seen a placed birth object lives) (ap (λ x. is_counted x.kind) same ∙ counted)
      (begins-seen a placed by holder keeps)
      (ap (λ words. holds words object) (counted_words_of-seen a by holder)
      ∙ ap (holds (counted_slots holder)) same ∙ held)
      (protected_at by inner holder keeps)

  protected_by : (base : ℕ) → IsProtectedAt (seen_objects a) (roots_of a) base → (birth : ℕ) (object : Object)
      → Lives a birth object → object.base ≡ base → IsProtected a birth
  protected_by base (IsProtectedAt.By_stack number o begins named) birth object lives at =
      IsProtected.By_stack birth object lives
      (sym (names_at-own a placed (stack_words a) base o begins birth object lives at) ∙ named)
  protected_by base (IsProtectedAt.By_area number o begins uncounted named) birth object lives at =
      IsProtected.By_area birth object lives (ap not (sym (kind_own base o begins birth object lives at)) ∙ uncounted)
      (sym (names_at-own a placed (area_words a) base o begins birth object lives at) ∙ named)
  protected_by base (IsProtectedAt.By_counted_cell number o begins counted held) birth object lives at =
      IsProtected.By_counted_cell birth object lives (sym (kind_own base o begins birth object lives at) ∙ counted)
      (ap (holds_base (counted_cell_words a)) at ∙ held)
  protected_by base (IsProtectedAt.By_slot number o by holder begins uncounted keeps named inner) birth object lives
      at =
      let s = seen-begins a by holder keeps in
      IsProtected.By_slot birth object s.birth s.object lives
      (ap not (sym (kind_own base o begins birth object lives at)) ∙ uncounted) s.lives
      (sym (names_at-own a placed (word_slots s.object) base o begins birth object lives at)
      ∙ ap (λ words. names_at words base o) (sym (ap word_words_of s.is ∙ word_words_of-seen a s.birth s.object))
      ∙ named)
      (protected_by by inner s.birth s.object s.lives s.at)
  protected_by base (IsProtectedAt.By_counted_slot _ o by holder begins counted keeps held inner) birth object lives
      at =
      let s = seen-begins a by holder keeps in
      IsProtected.By_counted_slot birth object s.birth s.object lives
      (sym (kind_own base o begins birth object lives at) ∙ counted) s.lives
      (ap (holds_base (counted_slots s.object)) at
      ∙ ap (λ words. holds_base words base) (sym (ap counted_words_of s.is ∙ counted_words_of-seen a s.birth s.object))
      ∙ held)
      (protected_by by inner s.birth s.object s.lives s.at)

  pub protected_same : IsSameSet a (IsProtected a) (IsProtectedAt (seen_objects a) (roots_of a))
  protected_same =
      record {
        there = λ birth object lives protected. protected_at birth protected object lives;
        back = λ birth object lives protected. protected_by object.base protected birth object lives refl;
      }
