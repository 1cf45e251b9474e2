use Rattle.std.proofs.Common.{◌∷◌, [], ◌++◌}
use Rattle.mm_model.specs.declared.line.Line.TheVariants.{Reply}
use Rattle.mmgc.proofs.generating.execute_quietly.Goals as goal

pub returns : goal.returns
returns g c =
    record {
      group = c.execute.ensures.step.before_reply ++ Reply c.execute.result ∷ [];
      step = c.execute.ensures.step.step;
    }
