-- What marking reaches by base, and what `finish` keeps and frees, are the same by birth.
use Rattle.std.proofs.Common.{◌≡◌, ℕ, not, Some, refl, sym, ap, ◌∙◌, subst}
use Rattle.mm_model.specs.Object.{Object}
use Rattle.mm_model.specs.State.{State, Cycle, Lives}
use Rattle.mm_model.specs.Words.{root_words, scanned_slots, names}
use Rattle.mm_model.specs.Places.Place.{live_pieces}
use Rattle.mm_model.specs.Good.{IsPlaced}
use Rattle.mm_model.specs.Sets.Marking.{is_white, colour_in, with_grayed, IsKeptAtFinish, IsFreedAtFinish, IsMarked}
use Rattle.mm_model.specs.Views.ByBase.{Begins}
use Rattle.mm_model.specs.Views.ObjectView.{ObjectView, names_at, scanned_words_of}
use Rattle.mm_model.specs.Views.SetsByBase.{with_grayed_objects, IsKeptAtFinishAt, IsFreedAtFinishAt, IsMarkedAt}
use Rattle.mm_model.specs.Views.View.{seen, seen_objects}
use Rattle.mm_model.proofs.Good.Living.{lives_same}
use Rattle.mm_model.proofs.View.Marking.Graying.{HasColours, seen_objects-grayed}
use Rattle.mm_model.proofs.View.ByBase.Seen.{begins-seen, seen-begins}
use Rattle.mm_model.proofs.View.Marking.Sets.{IsSameSet, own_view, names_at-own}

module _ (a : State) (placed : IsPlaced a.settings.max (live_pieces a)) where
  -- a view of a live object has its colour
  colour_own : (base : ℕ) (o : ObjectView) → Begins (seen_objects a) base o → (birth : ℕ) (object : Object)
      → Lives a birth object → object.base ≡ base → o.colour ≡ colour_in a.cycle birth
  colour_own base o begins birth object lives at =
      ap (λ x. x.colour) (own_view a placed base o begins birth object lives at)

  marked_at : (birth : ℕ) → IsMarked a birth → (object : Object) → Lives a birth object
      → IsMarkedAt (seen_objects a) object.base
  marked_at birth (IsMarked.Already number own there coloured) object lives =
      IsMarkedAt.Already object.base (seen a birth object) (begins-seen a placed birth object lives) coloured
  marked_at birth (IsMarked.By_slot number own by holder there held named marked) object lives =
      let same = lives_same a birth object own lives there in
      IsMarkedAt.By_slot object.base (seen a birth object) holder.base (seen a by holder)
      (begins-seen a placed birth object lives)
      (begins-seen a placed by holder held) (ap (names (scanned_slots holder)) same ∙ named)
      (marked_at by marked holder held)

  marked_by : (base : ℕ) → IsMarkedAt (seen_objects a) base → (birth : ℕ) (object : Object) → Lives a birth object
      → object.base ≡ base → IsMarked a birth
  marked_by base (IsMarkedAt.Already number o begins coloured) birth object lives at =
      IsMarked.Already birth object lives
      (ap (λ c. not (is_white c)) (sym (colour_own base o begins birth object lives at)) ∙ coloured)
  marked_by base (IsMarkedAt.By_slot number o by holder begins held named marked) birth object lives at =
      let s = seen-begins a by holder held in
      IsMarked.By_slot birth object s.birth s.object lives s.lives
      (sym (names_at-own a placed (scanned_slots s.object) base o begins birth object lives at)
      ∙ ap (λ h. names_at (scanned_words_of h) base o) (sym s.is) ∙ named)
      (marked_by by marked s.birth s.object s.lives s.at)

  pub marked_same : IsSameSet a (IsMarked a) (IsMarkedAt (seen_objects a))
  marked_same =
      record {
        there = λ birth object lives marked. marked_at birth marked object lives;
        back = λ birth object lives marked. marked_by object.base marked birth object lives refl;
      }

  kept_at : (birth : ℕ) → IsKeptAtFinish a birth → (object : Object) → Lives a birth object
      → IsKeptAtFinishAt (seen_objects a) object.base
  kept_at birth (IsKeptAtFinish.Already number own there gray) object lives =
      IsKeptAtFinishAt.Already object.base (seen a birth object) (begins-seen a placed birth object lives) gray
  kept_at birth (IsKeptAtFinish.By_slot number own by holder there white held named kept) object lives =
      let same = lives_same a birth object own lives there in
      IsKeptAtFinishAt.By_slot object.base (seen a birth object) holder.base (seen a by holder)
      (begins-seen a placed birth object lives) white (begins-seen a placed by holder held)
      (ap (names (scanned_slots holder)) same ∙ named) (kept_at by kept holder held)

  kept_by : (base : ℕ) → IsKeptAtFinishAt (seen_objects a) base → (birth : ℕ) (object : Object)
      → Lives a birth object → object.base ≡ base → IsKeptAtFinish a birth
  kept_by base (IsKeptAtFinishAt.Already number o begins gray) birth object lives at =
      IsKeptAtFinish.Already birth object lives (sym (colour_own base o begins birth object lives at) ∙ gray)
  kept_by base (IsKeptAtFinishAt.By_slot number o by holder begins white held named kept) birth object lives at =
      let s = seen-begins a by holder held in
      IsKeptAtFinish.By_slot birth object s.birth s.object lives
      (sym (colour_own base o begins birth object lives at) ∙ white)
      s.lives
      (sym (names_at-own a placed (scanned_slots s.object) base o begins birth object lives at)
      ∙ ap (λ h. names_at (scanned_words_of h) base o) (sym s.is) ∙ named)
      (kept_by by kept s.birth s.object s.lives s.at)

  pub kept_same : IsSameSet a (IsKeptAtFinish a) (IsKeptAtFinishAt (seen_objects a))
  kept_same =
      record {
        there = λ birth object lives kept. kept_at birth kept object lives;
        back = λ birth object lives kept. kept_by object.base kept birth object lives refl;
      }

-- what `finish` frees in a cycle
module _ (a : State) (placed : IsPlaced a.settings.max (live_pieces a)) (cycle : Cycle) (runs : a.cycle ≡ Some cycle)
    (each : HasColours a cycle) where
  abbrev rooted : State
  rooted = with_grayed (root_words a) a

  grayed : seen_objects rooted ≡ with_grayed_objects (root_words a) (seen_objects a)
  grayed = seen_objects-grayed a (root_words a) cycle runs each

  freed_at : (birth : ℕ) (object : Object) → Lives a birth object → IsFreedAtFinish a birth
      → IsFreedAtFinishAt (seen_objects a) (root_words a) object.base
  freed_at birth object lives freed =
      let on : Lives rooted birth object = record { is = lives.is; live = lives.live } in
      record {
        object = seen rooted birth object;
        begins = subst (λ os. Begins os object.base (seen rooted birth object)) grayed
            (begins-seen rooted placed birth object on);
        white = freed.white;
        unmarked = λ kept.
            let same = kept_same rooted placed in
            freed.unmarked
            (same.back birth object on
            (subst (λ os. IsKeptAtFinishAt os object.base) (sym grayed) kept));
      }

  freed_by : (birth : ℕ) (object : Object) → Lives a birth object
      → IsFreedAtFinishAt (seen_objects a) (root_words a) object.base → IsFreedAtFinish a birth
  freed_by birth object lives freed =
      let on : Lives rooted birth object = record { is = lives.is; live = lives.live } in
      let begins = subst (λ os. Begins os object.base freed.object) (sym grayed) freed.begins in
      record {
        white = sym (colour_own rooted placed object.base freed.object begins birth object on refl) ∙ freed.white;
        unmarked = λ kept.
            let same = kept_same rooted placed in
            freed.unmarked
            (subst (λ os. IsKeptAtFinishAt os object.base) grayed (same.there birth object on kept));
      }

  pub freed_same : IsSameSet a (IsFreedAtFinish a) (IsFreedAtFinishAt (seen_objects a) (root_words a))
  freed_same = record { there = freed_at; back = freed_by }
