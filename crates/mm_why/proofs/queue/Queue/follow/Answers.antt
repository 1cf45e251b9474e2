use Rattle.std.proofs.Common.{◌∙◌, arith}
use Rattle.mm_object.specs.Object.{views_of}
use Rattle.mm_why.proofs.Noted.{grown-then}
use Rattle.mm_why.proofs.Followed.{one-followed, cost-followed}
use Rattle.mm_why.proofs.queue.Queue.follow.Goals as goal

pub objects-preserved : goal.objects-preserved
objects-preserved g c =
    let objects = views_of c.args.heap.now.objects in
    let h = c.objects.invariant in
    let by = c.at-by.result in
    record {
      reasons = λ stack areas old. c.note_slots.ensures.reasons stack areas (h.reasons stack areas old);
      followed = λ sound.
          one-followed objects c.objects.self.found c.note_slots.new.self c.objects.next by
          (h.followed c.at-by.ensures.sound) c.at-by.ensures.entry c.note_slots.ensures.grown sound
          c.note_slots.ensures.found c.note_slots.ensures.short;
      live = c.note_slots.ensures.live;
      grown = grown-then _ c.objects.self.found _ h.grown c.note_slots.ensures.grown;
      places = c.note_slots.ensures.places ∙ h.places;
      ticked =
          let cost = cost-followed objects c.objects.self.found c.note_slots.new.self.found c.objects.next by
          c.at-by.ensures.entry c.note_slots.ensures.grown in
          let a = h.ticked in
          let b = c.note_slots.ensures.cost in
          omega arith;
    }
