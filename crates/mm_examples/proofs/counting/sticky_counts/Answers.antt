-- Each log is computed. The lists are written out once more, since a blank in their place makes that too long.
use Rattle.std.proofs.Common.{◌∷◌, ◌++◌, [], replicate, refl}
use Rattle.mm_model.specs.declared.command.Command.TheVariants.{Pop, Reap, Collect}
use Rattle.mm_model.specs.declared.object.Kind.TheVariants.{Counted}
use Rattle.mm_model.specs.Places.SizeClass.{class_sizes}
use Rattle.mm_examples.specs.Examples.{usual, new, puts, made, done, reaped, collected, freed, total}
use Rattle.mm_examples.proofs.Running.{log_if}
use Rattle.mm_examples.proofs.counting.sticky_counts.Goals as goal

pub returns-clause-below : goal.returns-clause-below
unfolding class_sizes
returns-clause-below c =
    log_if usual (new Counted 0 0 ∷ new Counted 254 254 ∷ puts 254 ++ Pop 2 ∷ Reap ∷ [])
    (made 4096 ∷ made 8192 ∷ replicate 254 done ++ done ∷ reaped 2 ∷ freed 4096 ∷ freed 8192 ∷ done ∷
    total 258 2 2 0 ∷ []) refl refl

pub returns-clause-sticky : goal.returns-clause-sticky
unfolding class_sizes
returns-clause-sticky c =
    log_if usual (new Counted 0 0 ∷ new Counted 255 255 ∷ puts 255 ++ Pop 2 ∷ Reap ∷ Collect ∷ [])
    (made 4096 ∷ made 8192 ∷ replicate 255 done ++ done ∷ reaped 1 ∷ freed 8192 ∷ done ∷
    collected 1 ∷ freed 4096 ∷ done ∷ total 260 2 2 0 ∷ []) refl refl
