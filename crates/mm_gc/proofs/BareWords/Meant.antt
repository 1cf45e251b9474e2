-- What a cell means in a view, it means in every good state that is shown.
use Rattle.std.proofs.Common.{◌≡◌, ℕ, ◌+◌, List, length, Option, Some, None, refl, sym, ap, ◌∙◌}
use Rattle.std.specs.Prelude.{slice_get, slice_range}
use Rattle.std.specs.Option.{option_map, option_and_then}
use Rattle.mm_model.specs.Object.{Object}
use Rattle.mm_model.specs.State.{State, Lives}
use Rattle.mm_model.specs.Meaning.{meant_at}
use Rattle.mm_model.specs.Good.{IsGood}
use Rattle.mm_model.specs.Views.ByBase.{Based}
use Rattle.mm_model.specs.Views.ObjectView.{ObjectView}
use Rattle.mm_model.specs.Views.View.{View, Shows}
use Rattle.mm_model.specs.Views.ViewWords.{view_meant}
use Rattle.mm_model.proofs.Good.Meanings.{is_meant_at}
use Rattle.mm_model.proofs.View.ByBase.Seen.{seen_based}
use Rattle.mm_model.proofs.View.Meaning.{based_birth, view_meant-seen}
use Rattle.mm_model.proofs.View.Shown.{shown-is}
use Rattle.mm_gc.specs.BareWords.{HoldsWords}

pub record IsMeantBy (a : State) (i : ℕ) (o : Based ObjectView) : Type 0 where
  pub birth : ℕ
  pub object : Object
  pub meant : meant_at a i ≡ Some birth
  pub lives : Lives a birth object
  pub is : o ≡ seen_based a birth object

pub meant-shown : (view : View) (i : ℕ) (o : Based ObjectView) → view_meant view i ≡ Some o → (a : State) → IsGood a
    → Shows view a → IsMeantBy a i o
meant-shown view i o means a good shows =
    split (meant_at a i) refl
    (sym (view_meant-seen a good i) ∙ sym (ap (λ (v : View). view_meant v i) (shown-is view a shows)) ∙ means)
  where
    split : (found : Option ℕ) → meant_at a i ≡ found → option_and_then (based_birth a) found ≡ Some o
        → IsMeantBy a i o
    split None e is = cc
    split (Some birth) e is =
        let one = is_meant_at a good i birth e in
        let own : Some (seen_based a birth one.0) ≡ Some o =
        sym (ap (option_map (seen_based a birth)) one.1.lives.is) ∙ is in
        record { birth = birth; object = one.0; meant = e; lives = one.1.lives; is = cc }

-- the words that are read through it
pub holds-words : (view : View) (i s : ℕ) (o : Based ObjectView) → view_meant view i ≡ Some o → (words : List ℕ)
    → words ≡ slice_range o.value.words s (s + length words) → (a : State) → IsGood a → Shows view a
    → HoldsWords a i s words
holds-words view i s o means words are a good shows =
    let m = meant-shown view i o means a good shows in
    record {
      object = m.object;
      meant = ap (option_and_then (slice_get a.objects)) m.meant ∙ m.lives.is;
      words_are = are ∙ ap (λ (x : Based ObjectView). slice_range x.value.words s (s + length words)) m.is;
    }
