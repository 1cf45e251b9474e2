-- Each whole log is computed, and which lines are the same as its lines.
use Rattle.std.proofs.Common.{[], ◌∷◌, codes, refl, arith}
use Rattle.std.specs.Fmt.{digits}
use Rattle.mm_model.specs.declared.object.Kind.TheVariants.{Traced}
use Rattle.mm_model.specs.declared.command.Command.TheVariants.{Push, Reap}
use Rattle.mm_model.specs.Places.SizeClass.{class_sizes}
use Rattle.mm_examples.specs.Examples.{IsLogOf, usual, new, made, done, reaped, total}
use Rattle.mm_examples.proofs.Running.{log_if}
use Rattle.mm_examples.proofs.Auditing.{no_if}
use Rattle.mm_examples.proofs.audited.ends_of_logs.Goals as goal

born : IsLogOf usual (new Traced 0 4 ∷ []) (made 4096 ∷ total 1 1 0 1 ∷ [])
unfolding class_sizes
born = log_if _ _ _ (search) (search)

pushed : IsLogOf usual (Push 7 ∷ []) (done ∷ total 1 0 0 0 ∷ [])
unfolding class_sizes
pushed = log_if _ _ _ (search) (search)

nothing_reaped : IsLogOf usual (Reap ∷ []) (reaped 0 ∷ done ∷ total 1 0 0 0 ∷ [])
unfolding class_sizes
nothing_reaped = log_if _ _ _ (search) (search)

no_commands : IsLogOf usual [] (total 0 0 0 0 ∷ [])
unfolding class_sizes
no_commands = log_if _ _ _ (search) (search)

pub returns-clause-whole : goal.returns-clause-whole
unfolding digits
returns-clause-whole c =
    record { log = made 4096 ∷ total 1 1 0 1 ∷ []; end = born.0; whole = born.1; spelled = refl }

pub returns-clause-empty : goal.returns-clause-empty
unfolding digits
returns-clause-empty c =
    no_if usual (omega arith) [] refl [] (total 0 0 0 0 ∷ []) no_commands [] [] refl refl refl

pub returns-clause-no_total : goal.returns-clause-no_total
unfolding digits
returns-clause-no_total c =
    no_if usual (omega arith) (new Traced 0 4 ∷ []) refl (made 4096 ∷ []) (total 1 1 0 1 ∷ []) born
    (codes "new 4096\n") [] refl refl refl

pub returns-clause-no_newline : goal.returns-clause-no_newline
unfolding digits
returns-clause-no_newline c =
    no_if usual (omega arith) (Push 7 ∷ []) refl (done ∷ []) (total 1 0 0 0 ∷ []) pushed
    (codes "ok\ntotal 1 0 0 0") (codes "total 1 0 0 0" ∷ []) refl refl refl

pub returns-clause-within_a_group : goal.returns-clause-within_a_group
unfolding digits
returns-clause-within_a_group c =
    no_if usual (omega arith) (Reap ∷ []) refl (reaped 0 ∷ []) (done ∷ total 1 0 0 0 ∷ []) nothing_reaped
    (codes " reap 0\n") [] refl refl refl

pub returns-clause-two_totals : goal.returns-clause-two_totals
unfolding digits
returns-clause-two_totals c =
    no_if usual (omega arith) [] refl (total 0 0 0 0 ∷ []) [] no_commands
    (codes "total 0 0 0 0\ntotal 0 0 0 0\n") (codes "total 0 0 0 0\n" ∷ []) refl refl refl
