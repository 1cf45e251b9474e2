-- Each whole log is computed, and which lines are the same as its lines.
use Rattle.std.proofs.Common.{[], ◌∷◌, codes, refl, arith}
use Rattle.std.specs.Fmt.{digits}
use Rattle.mm_model.specs.declared.object.Kind.TheVariants.{Traced}
use Rattle.mm_model.specs.declared.command.Command.TheVariants.{Push}
use Rattle.mm_model.specs.Places.SizeClass.{class_sizes}
use Rattle.mm_examples.specs.Examples.{IsLogOf, usual, new, made, done, total}
use Rattle.mm_examples.proofs.Running.{log_if}
use Rattle.mm_examples.proofs.Auditing.{no_if}
use Rattle.mm_examples.proofs.audited.wrong_lines.Goals as goal

born : IsLogOf usual (new Traced 0 4 ∷ []) (made 4096 ∷ total 1 1 0 1 ∷ [])
unfolding class_sizes
born = log_if _ _ _ (search) (search)

pushed : IsLogOf usual (Push 7 ∷ []) (done ∷ total 1 0 0 0 ∷ [])
unfolding class_sizes
pushed = log_if _ _ _ (search) (search)

pub returns-clause-place : goal.returns-clause-place
unfolding digits
returns-clause-place c =
    no_if usual (omega arith) (new Traced 0 4 ∷ []) refl [] (made 4096 ∷ total 1 1 0 1 ∷ []) born
    (codes "new 4128\ntotal 1 1 0 1\n") (codes "new 4128\n" ∷ codes "total 1 1 0 1\n" ∷ []) refl refl refl

pub returns-clause-total : goal.returns-clause-total
unfolding digits
returns-clause-total c =
    no_if usual (omega arith) (Push 7 ∷ []) refl (done ∷ []) (total 1 0 0 0 ∷ []) pushed
    (codes "ok\ntotal 1 1 0 0\n") (codes "total 1 1 0 0\n" ∷ []) refl refl refl
