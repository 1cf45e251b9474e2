use Rattle.mm_mark.proofs.colours.is_free_at.Goals as goal

pub returns-in-Some-clause-free : goal.returns-in-Some-clause-free
returns-in-Some-clause-free g c =
    let has = c.in-Some.ensures.colour in
    (has.object, has.begins)
