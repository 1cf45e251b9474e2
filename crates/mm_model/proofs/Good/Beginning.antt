-- `begin` keeps a state good: nothing is black or partly scanned, and each object has a colour.
use Rattle.std.proofs.Common.{◌≡◌, ℕ, zero, suc, List, length, replicate, Some, None, refl, sym, ◌∙◌}
use Rattle.std.proofs.lemmas.List.{length-replicate}
use Rattle.std.specs.Prelude.{slice_index_or}
use Rattle.mm_model.specs.declared.object.Colour.{Colour}
use Rattle.mm_model.specs.declared.object.Colour.TheVariants.{White, Black}
use Rattle.mm_model.specs.State.{State, Cycle, gone_count}
use Rattle.mm_model.specs.Words.{root_words}
use Rattle.mm_model.specs.Sets.Marking.{grayed, begun}
use Rattle.mm_model.specs.Good.{IsColoured, IsGood}
use Rattle.mm_model.proofs.Good.Around.{good-around}
use Rattle.mm_model.proofs.Good.Writing.Shading.{length-grayed, colour-grayed, shade-black}

pub all_white : (count birth : ℕ) → slice_index_or (replicate count White) birth White ≡ White
all_white zero birth = refl
all_white (suc count) zero = refl
all_white (suc count) (suc birth) = all_white count birth

module _ (a : State) where
  abbrev white : List Colour
  white = replicate (length a.objects) White

  abbrev first_cycle : Cycle
  first_cycle =
      record { colours = grayed (root_words a) a.objects white; gone_before = gone_count a; partly_scanned = None }

  coloured-begun : IsColoured a first_cycle
  coloured-begun =
      let each = length-replicate (length a.objects) White in
      record {
        each = length-grayed (root_words a) a.objects white ∙ each;
        black = λ birth object lives black.
            let was_black = shade-black (root_words a) object (slice_index_or white birth White)
            (sym (colour-grayed (root_words a) a.objects white birth object each lives.is) ∙ black) in
            absurd (clash (sym (all_white (length a.objects) birth) ∙ was_black));
        partly_scanned = tt;
      }
    where
      clash : White ≡ Black → ⊥
      clash e = cc

  pub begun_is_good : IsGood a → IsGood (begun a)
  begun_is_good good =
      good-around a a.stack (Some first_cycle) a.threshold a.commands good good.referred.stack coloured-begun
