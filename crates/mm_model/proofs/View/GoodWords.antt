-- What the words and the partners of a good view name.
use Rattle.std.proofs.Common.{◌≡◌, ℕ, ◌*◌, ◌<◌, ◌≤◌, Bool, true, false, Option, Some, None, subst, inl, inr, eqb-true}
use Rattle.std.proofs.Common.{arith, refl}
use Rattle.std.proofs.lemmas.Bool.{eq-eqb}
use Rattle.std.specs.Prelude.{IsTrue, IfSome, slice_get, ◌==◌, ◌||◌, ◌&&◌, ◌⊎◌}
use Rattle.mm_model.specs.Object.{is_counted}
use Rattle.mm_model.specs.Views.ByBase.{Begins, Based}
use Rattle.mm_model.specs.Views.ObjectView.{ObjectView, ObjectsByBase, counted_words_of}
use Rattle.mm_model.specs.Views.View.{View, AreaView}
use Rattle.mm_model.specs.Views.ViewWords.{resolved_in, begins_counted_in, counted_cells_of}
use Rattle.mm_model.specs.Views.GoodView.{IsPairedAt, IsGoodView}
use Rattle.mm_model.proofs.Good.Living.{each_get}
use Rattle.mm_model.proofs.Lists.Truth.{together}
use Rattle.mm_model.proofs.Places.Falling.{falls_from}
use Rattle.mm_model.proofs.Places.Placing.{both}
use Rattle.mm_model.proofs.View.ByBase.Entries.{any_begins, begins_any}
use Rattle.mm_model.proofs.View.GoodRoom.{begins_from_page_1, object_inside, resolved_in-begins}

-- a counted object that begins at a word
pub record BeginsCounted (objects : ObjectsByBase) (word : ℕ) : Type 0 where
  pub object : ObjectView
  pub begins : Begins objects word object
  pub counted : is_counted object.kind ≡ true

pub begins_counted_from : (objects : ObjectsByBase) (word : ℕ) → begins_counted_in objects word ≡ true
    → BeginsCounted objects word
begins_counted_from objects word e =
    let one = any_begins (λ (o : Based ObjectView). is_counted o.value.kind && o.base == word) objects e in
    let parts = both _ _ one.passes in
    record {
      object = one.value;
      begins = subst (λ b. Begins objects b one.value) (eqb-true one.base word parts.1) one.begins;
      counted = parts.0;
    }

pub begins_counted_to : (objects : ObjectsByBase) (word : ℕ) → BeginsCounted objects word
    → begins_counted_in objects word ≡ true
begins_counted_to objects word h =
    begins_any (λ (o : Based ObjectView). is_counted o.value.kind && o.base == word) objects word h.object h.begins
    (together _ _ h.counted (eq-eqb word word refl))

-- a word that a counted place may hold
tight_word : (objects : ObjectsByBase) (word : ℕ) → IsTrue (word == 0 || begins_counted_in objects word)
    → (word ≡ 0) ⊎ BeginsCounted objects word
tight_word objects word h = split (word == 0) refl h
  where
    split : (b : Bool) → (word == 0) ≡ b → (b || begins_counted_in objects word) ≡ true
        → (word ≡ 0) ⊎ BeginsCounted objects word
    split true e t = inl (eqb-true word 0 e)
    split false e t = inr (begins_counted_from objects word t)

module _ (view : View) (good : IsGoodView view) where
  -- each counted slot and each counted cell holds 0 or the base of a counted object
  pub counted_slot : (base : ℕ) (holder : ObjectView) → Begins view.objects base holder → (s word : ℕ)
      → slice_get (counted_words_of holder) s ≡ Some word → (word ≡ 0) ⊎ BeginsCounted view.objects word
  counted_slot base holder begins s word is =
      tight_word view.objects word
      (each_get (λ word. IsTrue (word == 0 || begins_counted_in view.objects word)) (counted_words_of holder) s word
      (good.tight base holder begins) is)

  pub counted_cell : (n : ℕ) (area : AreaView) → slice_get view.areas n ≡ Some area → (s word : ℕ)
      → slice_get (counted_cells_of area) s ≡ Some word → (word ≡ 0) ⊎ BeginsCounted view.objects word
  counted_cell n area at s word is =
      tight_word view.objects word
      (each_get (λ word. IsTrue (word == 0 || begins_counted_in view.objects word)) (counted_cells_of area) s word
      (good.cells_tight n area at) is)

  -- the object at the other end of a weak reference
  pub partner_begins : (base : ℕ) (object : ObjectView) (other : ℕ) → Begins view.objects base object
      → object.partner ≡ Some other → IsPairedAt view.objects base object other
  partner_begins base object other begins e =
      subst (λ partner. IfSome partner (IsPairedAt view.objects base object)) e (good.paired base object begins)

  -- a word in page 0, or past the greatest region, resolves to nothing
  pub resolved_in-page_0 : (word : ℕ) → word < 4096 → resolved_in view.objects word ≡ None
  resolved_in-page_0 word low = split (resolved_in view.objects word) refl
    where
      split : (found : Option (Based ObjectView)) → resolved_in view.objects word ≡ found → found ≡ None
      split None e = refl
      split (Some o) e =
          let one = resolved_in-begins view word o e in
          let from = begins_from_page_1 view good.placed o.base o.value one.0 in
          let there = falls_from word o.base o.value.extent one.1 in
          absurd (omega arith)

  pub resolved_in-past : (word : ℕ) → 4096 * view.settings.max ≤ word → resolved_in view.objects word ≡ None
  resolved_in-past word high = split (resolved_in view.objects word) refl
    where
      split : (found : Option (Based ObjectView)) → resolved_in view.objects word ≡ found → found ≡ None
      split None e = refl
      split (Some o) e =
          let one = resolved_in-begins view word o e in
          let to = (object_inside view good.placed o.base o.value one.0).to in
          let there = falls_from word o.base o.value.extent one.1 in
          absurd (omega arith)
