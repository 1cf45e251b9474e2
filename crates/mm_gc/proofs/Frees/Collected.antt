-- What is white once marking is drained is what `finish` frees, and what a full collection frees where all was white.
use Rattle.std.proofs.Common.{◌≡◌, ℕ, Bool, true, false, List, [], ◌∷◌, Option, Some, refl, sym, ap, ◌∙◌, subst}
use Rattle.std.specs.Prelude.{◌&&◌, if◌then◌else◌, IsTrue}
use Rattle.std.specs.List.{AllByRecursion}
use Rattle.mm_model.specs.declared.object.Colour.{Colour}
use Rattle.mm_model.specs.declared.object.Colour.TheVariants.{White, Gray, Black}
use Rattle.mm_model.specs.Sets.Marking.{is_white}
use Rattle.mm_model.specs.Views.ByBase.{Begins, changed}
use Rattle.mm_model.specs.Views.ObjectView.{ObjectView, ObjectsByBase, names_at, scanned_words_of}
use Rattle.mm_model.specs.Views.SetsByBase.{IsReachedAt, IsUnreachedAt, IsKeptAtFinishAt, IsFreedAtFinishAt, AreBasesAt}
use Rattle.mm_model.specs.Views.SetsByBase.{with_grayed_objects}
use Rattle.mm_model.specs.Views.GoodView.{AreWhite}
use Rattle.mm_model.specs.Views.ViewEffect.{with_colour}
use Rattle.mm_model.proofs.View.ByBase.Entries.{begins_same}
use Rattle.mm_model.proofs.View.ByBase.ChangedEntries.{begins_changed, changed_begins}
use Rattle.mm_mark.specs.Draining.{IsDrained}
use Rattle.mm_sweep.specs.Sweep.{IsWhiteAt}
use Rattle.mm_gc.proofs.Marking.Reached.{from_shaded, shaded, shaded-begins, kept_is_reached, reached_is_kept}

-- the members of a set are listed as those of another one that has the same bases
each_member : {A B : ℕ → Type 0} → ((base : ℕ) → A base → B base) → (bases : List ℕ) → AllByRecursion A bases
    → AllByRecursion B bases
each_member f [] h = tt
each_member f (base ∷ bases) h = (f base h.0, each_member f bases h.1)

module _ (objects drained : ObjectsByBase) (words : List ℕ)
    (is : IsDrained (with_grayed_objects words objects) drained) where
  -- what is white in the end was white once the words were shaded, and isn't kept
  white_is_freed : (base : ℕ) → IsWhiteAt drained base
      → (object : ObjectView) × Begins objects base object × IsFreedAtFinishAt objects words base
  white_is_freed base w =
      let old = is.only base w.object w.begins in
      let one = from_shaded objects words base old.0 old.1 in
      (one.before, one.begins, split old.0 old.1 old.0.colour refl)
    where
      black_clash : (o : ObjectView) → Begins drained base o → o.colour ≡ Black → ⊥
      black_clash o h e =
          let same = begins_same drained base o w.object h w.begins in
          let other = ap (λ (x : ObjectView). x.colour) same in
          let first = w.white in
          clash (sym e ∙ other ∙ first)
        where
          clash : Black ≡ White → ⊥
          clash e = cc

      unkept : (o : ObjectView) → Begins (with_grayed_objects words objects) base o
          → IsKeptAtFinishAt (with_grayed_objects words objects) base → ⊥
      unkept o h kept = black_clash (record o { colour = Black }) (is.kept base o h kept) refl

      split : (o : ObjectView) → Begins (with_grayed_objects words objects) base o → (c : Colour) → o.colour ≡ c
          → IsFreedAtFinishAt objects words base
      split o h White e = record { object = o; begins = h; white = e; unmarked = unkept o h }
      split o h Gray e = absurd (unkept o h (IsKeptAtFinishAt.Already base o h e))
      split o h Black e = absurd (black_clash o (is.black base o h e) e)

  freed_is_white : (base : ℕ) → IsFreedAtFinishAt objects words base → IsWhiteAt drained base
  freed_is_white base f =
      record { object = f.object; begins = is.white base f.object f.begins f.white f.unmarked; white = f.white }

  pub finishes-drained : (dead : List ℕ) → AreBasesAt drained (IsWhiteAt drained) dead
      → AreBasesAt objects (IsFreedAtFinishAt objects words) dead
  finishes-drained dead bases =
      record {
        ascending = bases.ascending;
        only = each_member (λ base h. white_is_freed base h.2) dead bases.only;
        all = λ base object h freed.
            let w = freed_is_white base freed in
            bases.all base w.object w.begins w;
      }

-- where all is white, that is what isn't reached
module _ (objects : ObjectsByBase) (white : AreWhite objects) (words : List ℕ) where
  shaded-unblack : (base : ℕ) (o : ObjectView) → o.colour ≡ White → (shaded objects words base o).colour ≡ Black → ⊥
  shaded-unblack base o w = split (is_white o.colour && names_at words base o)
    where
      split : (b : Bool) → (if b then record o { colour = Gray } else o).colour ≡ Black → ⊥
      split true e = cc
      split false e = let both = sym w ∙ e in clash both
        where
          clash : White ≡ Black → ⊥
          clash e = cc

  freed_is_unreached : (base : ℕ) → IsFreedAtFinishAt objects words base → IsUnreachedAt objects words base
  freed_is_unreached base f reached = f.unmarked (reached_is_kept objects white words base reached)

  unreached_is_freed : (base : ℕ) (object : ObjectView) → Begins objects base object → IsUnreachedAt objects words base
      → IsFreedAtFinishAt objects words base
  unreached_is_freed base object h unreached =
      let there = shaded-begins objects words base object h in
      split (shaded objects words base object) there (shaded objects words base object).colour refl
    where
      unblack : (o : ObjectView) → Begins (with_grayed_objects words objects) base o → o.colour ≡ Black → ⊥
      unblack o there e =
          let one = from_shaded objects words base o there in
          shaded-unblack base one.before (white base one.before one.begins)
          (ap (λ (x : ObjectView). x.colour) one.is ∙ e)

      unkept : IsKeptAtFinishAt (with_grayed_objects words objects) base → ⊥
      unkept kept = unreached (kept_is_reached objects white words base kept)

      split : (o : ObjectView) → Begins (with_grayed_objects words objects) base o → (c : Colour) → o.colour ≡ c
          → IsFreedAtFinishAt objects words base
      split o there White e = record { object = o; begins = there; white = e; unmarked = unkept }
      split o there Gray e = absurd (unkept (IsKeptAtFinishAt.Already base o there e))
      split o there Black e = absurd (unblack o there e)

  pub collects-white : (dead : List ℕ) → AreBasesAt objects (IsFreedAtFinishAt objects words) dead
      → AreBasesAt objects (IsUnreachedAt objects words) dead
  collects-white dead bases =
      record {
        ascending = bases.ascending;
        only = each_member (λ base h. (h.0, h.1, freed_is_unreached base h.2)) dead bases.only;
        all = λ base object h unreached. bases.all base object h (unreached_is_freed base object h unreached);
      }

-- what is reached doesn't depend on colours
module _ (objects : ObjectsByBase) (words : List ℕ) where
  whitened : ObjectsByBase
  whitened = changed (with_colour White) objects

  to_white : (base : ℕ) (o : ObjectView) → Begins objects base o → Begins whitened base (record o { colour = White })
  unfolding whitened
  to_white base o h = begins_changed (with_colour White) objects base o (record o { colour = White }) h refl

  -- an object that is white now
  record WasColoured (base : ℕ) (o : ObjectView) : Type 0 where
    before : ObjectView
    begins : Begins objects base before
    is : record before { colour = White } ≡ o

  from_white : (base : ℕ) (o : ObjectView) → Begins whitened base o → WasColoured base o
  unfolding whitened
  from_white base o h =
      let one = changed_begins (with_colour White) objects base o h in
      record { before = one.before; begins = one.begins; is = inner one.is }
    where
      inner : {x y : ObjectView} → ◌≡◌ {A = Option ObjectView} (Some x) (Some y) → x ≡ y
      inner e = cc

  reached_white : (base : ℕ) → IsReachedAt objects words base → IsReachedAt whitened words base
  reached_white base (IsReachedAt.By_root _ o h named) =
      IsReachedAt.By_root base (record o { colour = White }) (to_white base o h) named
  reached_white base (IsReachedAt.By_slot _ o by holder h k named reached) =
      IsReachedAt.By_slot base (record o { colour = White }) by (record holder { colour = White }) (to_white base o h)
      (to_white by holder k) named (reached_white by reached)

  white_reached : (base : ℕ) → IsReachedAt whitened words base → IsReachedAt objects words base
  white_reached base (IsReachedAt.By_root _ o h named) =
      let one = from_white base o h in
      IsReachedAt.By_root base one.before one.begins (subst (λ x. IsTrue (names_at words base x)) (sym one.is) named)
  white_reached base (IsReachedAt.By_slot _ o by holder h k named reached) =
      let one = from_white base o h in
      let other = from_white by holder k in
      IsReachedAt.By_slot base one.before by other.before one.begins other.begins
      (subst (λ x. IsTrue (names_at (scanned_words_of x) base one.before)) (sym other.is)
      (subst (λ x. IsTrue (names_at (scanned_words_of holder) base x)) (sym one.is) named))
      (white_reached by reached)

  pub collects-whitened : (dead : List ℕ)
      → AreBasesAt (changed (with_colour White) objects) (IsUnreachedAt (changed (with_colour White) objects) words)
      dead
      → AreBasesAt objects (IsUnreachedAt objects words) dead
  unfolding whitened
  collects-whitened dead bases =
      record {
        ascending = bases.ascending;
        only = each_member (λ base h.
            let one = from_white base h.0 h.1 in
            (one.before, one.begins, λ reached. h.2 (reached_white base reached))) dead bases.only;
        all = λ base object h unreached.
            bases.all base (record object { colour = White }) (to_white base object h)
            (λ reached. unreached (white_reached base reached));
      }
