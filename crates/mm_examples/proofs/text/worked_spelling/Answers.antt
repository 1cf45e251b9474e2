-- `decimal` of a numeral computes once `digits` is open.
use Rattle.std.proofs.Common.{refl}
use Rattle.std.specs.Fmt.{digits}
use Rattle.mm_examples.proofs.text.worked_spelling.Goals as goal

pub returns-clause-group : goal.returns-clause-group
unfolding digits
returns-clause-group c = refl

pub returns-clause-scan : goal.returns-clause-scan
unfolding digits
returns-clause-scan c = refl

pub returns-clause-object : goal.returns-clause-object
unfolding digits
returns-clause-object c = refl

pub returns-clause-total : goal.returns-clause-total
unfolding digits
returns-clause-total c = refl
