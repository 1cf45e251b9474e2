-- The log, its turns and the text are computed.
use Rattle.std.proofs.Common.{List, [], ◌∷◌, refl}
use Rattle.mm_model.specs.declared.command.Command.{Command}
use Rattle.mm_model.specs.declared.line.Line.{Line}
use Rattle.mm_model.specs.declared.object.Kind.TheVariants.{Traced, Leaf}
use Rattle.std.specs.Fmt.{digits}
use Rattle.mm_model.specs.Places.SizeClass.{class_sizes}
use Rattle.mm_model.specs.State.{empty_state}
use Rattle.mm_examples.specs.Examples.{usual, new, made}
use Rattle.mm_examples.proofs.Adding.{turns_from, are_turns}
use Rattle.mm_examples.proofs.Ending.{end_of, run_to}
use Rattle.mm_examples.proofs.Running.{groups_in}
use Rattle.mm_examples.proofs.sites.sites_of_live_objects.Goals as goal

abbrev carried : List Command
carried = new Traced 0 4 ∷ new Traced 0 4 ∷ new Leaf 0 0 ∷ new Leaf 0 0 ∷ []

abbrev log : List Line
log = made 4096 ∷ made 4128 ∷ made 8192 ∷ made 8208 ∷ []

pub returns : goal.returns
unfolding class_sizes digits
returns c = record {
  state = end_of (empty_state usual) carried (groups_in log);
  turns = turns_from (empty_state usual) carried (groups_in log);
  legal = run_to (empty_state usual) carried log (groups_in log) (search) (search);
  are = are_turns usual carried log (groups_in log) refl (refl, (refl, (refl, (refl, tt))));
  told = refl;
}
