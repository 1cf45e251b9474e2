-- One word after the other.
use Rattle.std.proofs.Common.{[], ◌∷◌, refl, sym, ap, ◌∙◌}
use Rattle.std.specs.Prelude.{slice_index}
use Rattle.mm_model.specs.Views.SetsByBase.{with_grayed_objects}
use Rattle.mm_audit.proofs.GrayWords.{grayed-nothing, grayed-next}
use Rattle.mm_audit.proofs.objects.Objects.shade_all.Goals as goal

pub loop-word-init : goal.loop-word-init
loop-word-init c = record { shaded = sym (grayed-nothing c.args.self.now); size = refl }

pub loop-word-preserved : goal.loop-word-preserved
loop-word-preserved c =
    let i = c.loop-word.word-index in
    record {
      shaded = c.shade.ensures.shaded
          ∙ ap (with_grayed_objects (slice_index c.args.words.now i ∷ [])) c.loop-word.invariant.shaded
          ∙ grayed-next c.args.words.now i c.args.self.now c.loop-word-test.true;
      size = c.shade.ensures.size ∙ c.loop-word.invariant.size;
    }
