use Rattle.mm_laws.proofs.Meaning.Referring.{lives-reference, resolved-reference}
use Rattle.mm_laws.proofs.references.words_mean_their_origin.Goals as goal

pub returns-clause-lives : goal.returns-clause-lives
returns-clause-lives c = lives-reference

pub returns-clause-resolved : goal.returns-clause-resolved
returns-clause-resolved c = resolved-reference
