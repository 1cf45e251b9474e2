-- Graying what some words name: no object becomes whiter or black by it, and the words name nothing white any more.
use Rattle.std.proofs.Common.{◌≡◌, ℕ, Bool, true, false, not, List, length, take, refl, sym, ap, ◌∙◌, ◌⊎◌, inl, inr}
use Rattle.std.specs.Prelude.{◌&&◌, if◌then◌else◌}
use Rattle.mm_model.specs.declared.object.Colour.{Colour}
use Rattle.mm_model.specs.declared.object.Colour.TheVariants.{White, Gray, Black}
use Rattle.mm_model.specs.Object.{Object, is_live}
use Rattle.mm_model.specs.State.{State, Cycle, Lives}
use Rattle.mm_model.specs.Words.{scanned_slots, names}
use Rattle.mm_model.specs.Sets.Marking.{is_white, colour_of, grayed_cycle}
use Rattle.mm_model.specs.Good.{NamesNoWhite, IsPartlyScanned, IsColoured}
use Rattle.mm_model.proofs.Good.Around.{if_some-weaker}
use Rattle.mm_model.proofs.Good.Writing.Shading.{length-grayed, shade, colour-grayed, shade-white, shade-black}
use Rattle.mm_model.proofs.Good.Writing.Shading.{shade-gray}
use Rattle.mm_model.proofs.Good.Writing.Shading.{shade-named}

-- what isn't white then wasn't white before, or a word names it
pub shade-not_white : (words : List ℕ) (o : Object) (c : Colour) → not (is_white (shade words o c)) ≡ true
    → (not (is_white c) ≡ true) ⊎ (names words o ≡ true)
shade-not_white words o White e = split (is_live o) (names words o) e
  where
    split : (live named : Bool) → not (is_white (if live && named then Gray else White)) ≡ true
        → (not (is_white White) ≡ true) ⊎ (named ≡ true)
    split true true p = inr refl
    split true false p = cc
    split false named p = cc
shade-not_white words o Gray e = inl refl
shade-not_white words o Black e = inl refl

module _ (a : State) (words : List ℕ) (cycle : Cycle) (each : length cycle.colours ≡ length a.objects) where
  abbrev after : Cycle
  after = grayed_cycle words a cycle

  pub colour-after : (j : ℕ) (o : Object) → Lives a j o → colour_of after j ≡ shade words o (colour_of cycle j)
  colour-after j o lives = colour-grayed words a.objects cycle.colours j o each lives.is

  pub not_white-before : (j : ℕ) (o : Object) → Lives a j o → not (is_white (colour_of after j)) ≡ true
      → (not (is_white (colour_of cycle j)) ≡ true) ⊎ (names words o ≡ true)
  not_white-before j o lives e =
      shade-not_white words o (colour_of cycle j) (ap (λ c. not (is_white c)) (sym (colour-after j o lives)) ∙ e)

  pub white-before : (j : ℕ) (o : Object) → Lives a j o → colour_of after j ≡ White → colour_of cycle j ≡ White
  white-before j o lives e = shade-white words o (colour_of cycle j) (sym (colour-after j o lives) ∙ e)

  pub black-before : (j : ℕ) (o : Object) → Lives a j o → colour_of after j ≡ Black → colour_of cycle j ≡ Black
  black-before j o lives e = shade-black words o (colour_of cycle j) (sym (colour-after j o lives) ∙ e)

  pub gray-after : (j : ℕ) (o : Object) → Lives a j o → colour_of cycle j ≡ Gray → colour_of after j ≡ Gray
  gray-after j o lives e = colour-after j o lives ∙ shade-gray words o (colour_of cycle j) e

  pub names_no_white-grayed : NamesNoWhite a after words
  names_no_white-grayed j o lives white named =
      shade-named words o (colour_of cycle j) lives.live named (sym (colour-after j o lives) ∙ white)

  pub names_no_white-after : (others : List ℕ) → NamesNoWhite a cycle others → NamesNoWhite a after others
  names_no_white-after others h j o lives white named = h j o lives (white-before j o lives white) named

-- graying keeps a cycle's colours right
pub grayed_is_coloured : (a : State) (words : List ℕ) (cycle : Cycle) → IsColoured a cycle
    → IsColoured a (grayed_cycle words a cycle)
grayed_is_coloured a words cycle h =
    let after = grayed_cycle words a cycle in
    record {
      each = length-grayed words a.objects cycle.colours ∙ h.each;
      black = λ j o lives black.
          names_no_white-after a words cycle h.each (scanned_slots o)
          (h.black j o lives (black-before a words cycle h.each j o lives black));
      partly_scanned = if_some-weaker (IsPartlyScanned a cycle) (IsPartlyScanned a after)
          (λ partly_scanned p.
          record {
            object = p.object;
            lives = p.lives;
            gray = gray-after a words cycle h.each partly_scanned.object p.object p.lives p.gray;
            some_done = p.some_done;
            some_left = p.some_left;
            names = names_no_white-after a words cycle h.each
                (take partly_scanned.slots_done (scanned_slots p.object)) p.names;
          }) cycle.partly_scanned h.partly_scanned;
    }
