use Rattle.mm_laws.proofs.Meaning.Referring.{get-reference}
use Rattle.mm_laws.proofs.references.reads_through_references.Goals as goal

pub returns : goal.returns
returns c = λ a i s birth value object read group b cell origin is slot room.
    get-reference a i s birth value object read cell origin is slot room group b
