-- Lines that are spelled alike are alike, and those of a run are then the same.
use Rattle.mm_model.specs.State.{empty_state}
use Rattle.mm_model.proofs.Good.Starting.{empty_is_good}
use Rattle.mm_laws.proofs.Lines.Spellings.{spelling_of-alike}
use Rattle.mm_laws.proofs.Turning.Nothing.{runs-alike}
use Rattle.mm_laws.proofs.logs.commands_and_bytes_determine_a_log.Goals as goal

pub returns : goal.returns
returns _ = λ settings commands log other b c growing run also full whole same.
    runs-alike (empty_state settings) commands log other b c (empty_is_good settings growing) run also
    (spelling_of-alike log other full whole same)
