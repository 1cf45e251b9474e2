-- The lemmas say it.
use Rattle.mm_laws.proofs.Turning.Faithful.{faithful-step, steps-more}
use Rattle.mm_laws.proofs.logs.steps_are_faithful.Goals as goal

pub returns : goal.returns
returns c = record {
  faithful = λ settings turns turn growing steps step.
      faithful-step settings turns turn.before turn.command turn.group turn.after growing steps step;
  one_more = λ start turns turn steps step.
      steps-more start turns turn.before turn.command turn.group turn.after steps step;
}
