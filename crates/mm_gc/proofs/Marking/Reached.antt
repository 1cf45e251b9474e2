-- Where all is white, what marking keeps is what the words reach.
use Rattle.std.proofs.Common.{◌≡◌, ℕ, Bool, true, false, List, Option, Some, refl, sym, ap, ◌∙◌}
use Rattle.std.specs.Prelude.{◌&&◌, if◌then◌else◌, IsTrue}
use Rattle.mm_model.specs.declared.object.Colour.TheVariants.{White, Gray}
use Rattle.mm_model.specs.Sets.Marking.{is_white}
use Rattle.mm_model.specs.Views.ByBase.{Begins}
use Rattle.mm_model.specs.Views.ObjectView.{ObjectView, ObjectsByBase, names_at, scanned_words_of}
use Rattle.mm_model.specs.Views.SetsByBase.{IsReachedAt, IsKeptAtFinishAt, grayed_at, with_grayed_objects}
use Rattle.mm_model.specs.Views.GoodView.{AreWhite}
use Rattle.mm_model.proofs.View.ByBase.ChangedEntries.{begins_changed, changed_begins}

module _ (objects : ObjectsByBase) (words : List ℕ) where
  abbrev pub grayed : ObjectsByBase
  grayed = with_grayed_objects words objects

  -- an object once the words are shaded
  abbrev pub shaded : ℕ → ObjectView → ObjectView
  shaded base o = if is_white o.colour && names_at words base o then record o { colour = Gray } else o

  pub shaded-begins : (base : ℕ) (o : ObjectView) → Begins objects base o → Begins grayed base (shaded base o)
  shaded-begins base o h = begins_changed (grayed_at words) objects base o (shaded base o) h refl

  -- one whose base a word names is gray, and any other is as it was
  shaded-named : (base : ℕ) (o : ObjectView) → o.colour ≡ White → names_at words base o ≡ true
      → shaded base o ≡ record o { colour = Gray }
  shaded-named base o w named =
      ap (λ c. if is_white c && names_at words base o then record o { colour = Gray } else o) w
      ∙ ap (λ b. if b then record o { colour = Gray } else o) named

  shaded-unnamed : (base : ℕ) (o : ObjectView) → o.colour ≡ White → names_at words base o ≡ false → shaded base o ≡ o
  shaded-unnamed base o w unnamed =
      ap (λ c. if is_white c && names_at words base o then record o { colour = Gray } else o) w
      ∙ ap (λ b. if b then record o { colour = Gray } else o) unnamed

  -- what stays the same but for the colour
  pub record IsShadedFrom (base : ℕ) (o : ObjectView) : Type 0 where
    pub before : ObjectView
    pub begins : Begins objects base before
    pub is : shaded base before ≡ o

  pub from_shaded : (base : ℕ) (o : ObjectView) → Begins grayed base o → IsShadedFrom base o
  from_shaded base o h =
      let one = changed_begins (grayed_at words) objects base o h in
      record { before = one.before; begins = one.begins; is = inner one.is }
    where
      inner : {x y : ObjectView} → ◌≡◌ {A = Option ObjectView} (Some x) (Some y) → x ≡ y
      inner e = cc

  pub scanned-shaded : (base : ℕ) (o : ObjectView) → scanned_words_of (shaded base o) ≡ scanned_words_of o
  scanned-shaded base o = split (is_white o.colour && names_at words base o)
    where
      split : (b : Bool) → scanned_words_of (if b then record o { colour = Gray } else o) ≡ scanned_words_of o
      split true = refl
      split false = refl

  pub names-shaded : (by : List ℕ) (base : ℕ) (o : ObjectView) → names_at by base (shaded base o) ≡ names_at by base o
  names-shaded by base o = split (is_white o.colour && names_at words base o)
    where
      split : (b : Bool) → names_at by base (if b then record o { colour = Gray } else o) ≡ names_at by base o
      split true = refl
      split false = refl

module _ (objects : ObjectsByBase) (white : AreWhite objects) (words : List ℕ) where
  pub kept_is_reached : (base : ℕ) → IsKeptAtFinishAt (grayed objects words) base → IsReachedAt objects words base
  kept_is_reached base (IsKeptAtFinishAt.Already _ o h gray) =
      let one = from_shaded objects words base o h in
      IsReachedAt.By_root base one.before one.begins (split one (names_at words base one.before) refl)
    where
      split : (one : IsShadedFrom objects words base o) (b : Bool) → names_at words base one.before ≡ b
          → IsTrue (names_at words base one.before)
      split one true e = e
      split one false e =
          let w = white base one.before one.begins in
          let same = shaded-unnamed objects words base one.before w e in
          let colour : one.before.colour ≡ Gray =
          ap (λ (x : ObjectView). x.colour) (sym same ∙ one.is) ∙ gray in
          cc
  kept_is_reached base (IsKeptAtFinishAt.By_slot _ o by holder h w k named kept) =
      let one = from_shaded objects words base o h in
      let held = from_shaded objects words by holder k in
      IsReachedAt.By_slot base one.before by held.before one.begins held.begins
      (ap (λ ws. names_at ws base one.before) (sym (scanned-shaded objects words by held.before)
      ∙ ap scanned_words_of held.is)
      ∙ sym (names-shaded objects words (scanned_words_of holder) base one.before)
      ∙ ap (names_at (scanned_words_of holder) base) one.is
      ∙ named)
      (kept_is_reached by kept)

  pub reached_is_kept : (base : ℕ) → IsReachedAt objects words base → IsKeptAtFinishAt (grayed objects words) base
  reached_is_kept base (IsReachedAt.By_root _ o h named) =
      let w = white base o h in
      IsKeptAtFinishAt.Already base (shaded objects words base o) (shaded-begins objects words base o h)
      (ap (λ (x : ObjectView). x.colour) (shaded-named objects words base o w named))
  reached_is_kept base (IsReachedAt.By_slot _ o by holder h k named reached) =
      split (reached_is_kept by reached) (names_at words base o) refl
    where
      split : IsKeptAtFinishAt (grayed objects words) by → (b : Bool) → names_at words base o ≡ b
          → IsKeptAtFinishAt (grayed objects words) base
      split kept true e =
          IsKeptAtFinishAt.Already base (shaded objects words base o) (shaded-begins objects words base o h)
          (ap (λ (x : ObjectView). x.colour) (shaded-named objects words base o (white base o h) e))
      split kept false e =
          IsKeptAtFinishAt.By_slot base (shaded objects words base o) by (shaded objects words by holder)
          (shaded-begins objects words base o h)
          (ap (λ (x : ObjectView). x.colour) (shaded-unnamed objects words base o (white base o h) e) ∙ white base o h)
          (shaded-begins objects words by holder k)
          (ap (λ ws. names_at ws base (shaded objects words base o)) (scanned-shaded objects words by holder)
          ∙ names-shaded objects words (scanned_words_of holder) base o ∙ named)
          kept
