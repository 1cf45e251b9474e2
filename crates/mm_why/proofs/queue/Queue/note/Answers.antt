use Rattle.std.proofs.Common.{List, refl}
use Rattle.mm_object.specs.Object.{views_of}
use Rattle.mm_why.specs.declared.found.Found.{Found}
use Rattle.mm_why.specs.Queue.{IsAdded}
use Rattle.mm_why.specs.Search.{IsNoted}
use Rattle.mm_why.proofs.Objects.{covers-falls, none-falls, falls-once, object-place}
use Rattle.mm_why.proofs.queue.Queue.note.Goals as goal

pub add-requires-clause-place : goal.add-requires-clause-place
add-requires-clause-place g c =
    let covers = c.in-Some.ensures.base in
    object-place c.args.heap.now c.in-Some.ensures.sound c.in-Some.base covers.0 c.args.self.now.places
    covers.1.begins c.requires.room

pub returns-in-Some-clause-noted : goal.returns-in-Some-clause-noted
returns-in-Some-clause-noted g c = go c.add.ensures.added
  where
    before : List Found
    before = c.args.self.now.found

    go : IsAdded c.args.self.now.found c.add.new.self.found (record { lead = c.args.lead; base = c.in-Some.base })
        → IsNoted (views_of c.args.heap.now.objects) c.args.self.now.found c.add.new.self.found c.args.word c.args.lead
    go (IsAdded.Was_found found same) =
        IsNoted.Was_found c.in-Some.base
        (λ other falls. falls-once c.args.heap.now c.in-Some.ensures.sound c.args.word c.in-Some.base other
        c.in-Some.ensures.base.0 c.in-Some.ensures.base.1 falls) found same
    go (IsAdded.Is_new new) =
        IsNoted.Is_new c.in-Some.base
        (λ other falls. falls-once c.args.heap.now c.in-Some.ensures.sound c.args.word c.in-Some.base other
        c.in-Some.ensures.base.0 c.in-Some.ensures.base.1 falls)
        (covers-falls c.args.heap.now c.args.word c.in-Some.base c.in-Some.ensures.base.0 c.in-Some.ensures.base.1) new

pub returns-in-None-clause-noted : goal.returns-in-None-clause-noted
returns-in-None-clause-noted g c =
    IsNoted.Falls_in_none (none-falls c.args.heap.now c.args.word c.in-None.ensures.base) refl
