-- What begins at the word tells it.
use Rattle.std.proofs.Common.{Some, None, sym, ◌∙◌}
use Rattle.mm_model.specs.Views.ViewWords.{object_at}
use Rattle.mm_audit.proofs.CountedWords.{begins-counted, header-counts}
use Rattle.mm_audit.proofs.objects.Objects.begins_counted.Goals as goal

pub returns-in-None : goal.returns-in-None
returns-in-None c =
    sym
    (begins-counted c.args.self.now c.args.word
    ∙ header-counts (object_at c.args.self.now c.args.word) None c.in-None.ensures)

pub returns-in-Some : goal.returns-in-Some
returns-in-Some c =
    sym
    (begins-counted c.args.self.now c.args.word
    ∙ header-counts (object_at c.args.self.now c.args.word) (Some c.in-Some.header) c.in-Some.ensures
    ∙ sym c.is_counted.ensures)
