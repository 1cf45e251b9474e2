-- Each log is computed. The lists are written out once more, since a blank in their place makes that too long.
use Rattle.std.proofs.Common.{◌∷◌, ◌++◌, [], map, replicate, refl}
use Rattle.std.specs.List.{range_with_len}
use Rattle.mm_model.specs.declared.command.Command.TheVariants.{Push, Pop, Put, Reap, Collect}
use Rattle.mm_model.specs.declared.object.Kind.TheVariants.{Traced, Counted}
use Rattle.mm_model.specs.Places.SizeClass.{class_sizes}
use Rattle.mm_examples.specs.Examples.{usual, new, made, done, reaped, collected, freed, total}
use Rattle.mm_examples.proofs.Running.{log_if}
use Rattle.mm_examples.proofs.held_often.held_often.Goals as goal

pub returns-clause-sticky : goal.returns-clause-sticky
unfolding class_sizes
returns-clause-sticky c =
    log_if usual
    (new Traced 255 255 ∷ new Counted 0 0 ∷ map (λ s. Put 1 s 0) (range_with_len 0 255)
    ++ Push 0 ∷ map (λ s. Put 2 s 0) (range_with_len 0 255) ++ Pop 2 ∷ Reap ∷ Collect ∷ [])
    (made 4096 ∷ made 8192 ∷ replicate 255 done ++ done ∷ replicate 255 done ++ done ∷ reaped 0 ∷ done ∷
    collected 1 ∷ freed 8192 ∷ done ∷ total 516 2 1 1 ∷ []) refl refl

pub returns-clause-below : goal.returns-clause-below
unfolding class_sizes
returns-clause-below c =
    log_if usual
    (new Traced 255 255 ∷ new Counted 0 0 ∷ map (λ s. Put 1 s 0) (range_with_len 0 254)
    ++ Push 0 ∷ map (λ s. Put 2 s 0) (range_with_len 0 254) ++ Pop 2 ∷ Reap ∷ Collect ∷ [])
    (made 4096 ∷ made 8192 ∷ replicate 254 done ++ done ∷ replicate 254 done ++ done ∷ reaped 1 ∷
    freed 8192 ∷ done ∷ collected 0 ∷ done ∷ total 514 2 1 1 ∷ []) refl refl
