use Rattle.mm_gc.proofs.slots.write_slot.Goals as goal

pub returns-in-Word-clause-answer : goal.returns-in-Word-clause-answer
returns-in-Word-clause-answer g c = λ view seen shows there counted.
    c.write_uncounted.ensures.answer view seen shows there

pub returns-in-Word-clause-counts : goal.returns-in-Word-clause-counts
returns-in-Word-clause-counts g c = λ outside counts. c.write_uncounted.ensures.counts c.args.count.now outside counts
