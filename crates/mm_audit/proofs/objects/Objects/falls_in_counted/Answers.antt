-- What the word falls in tells it.
use Rattle.std.proofs.Common.{Some, None, sym, ◌∙◌}
use Rattle.mm_model.specs.Views.ViewWords.{resolved_in}
use Rattle.mm_audit.proofs.CountedWords.{falls-counted, found-counts}
use Rattle.mm_audit.proofs.objects.Objects.falls_in_counted.Goals as goal

pub returns-in-None : goal.returns-in-None
returns-in-None c =
    sym
    (falls-counted c.args.self.now c.args.word c.in-None.ensures.alone
    ∙ found-counts (resolved_in c.args.self.now c.args.word) None c.in-None.ensures.found)

pub returns-in-Some : goal.returns-in-Some
returns-in-Some c =
    sym
    (falls-counted c.args.self.now c.args.word c.in-Some.ensures.alone
    ∙ found-counts (resolved_in c.args.self.now c.args.word) (Some c.in-Some.found) c.in-Some.ensures.found
    ∙ sym c.is_counted.ensures)
