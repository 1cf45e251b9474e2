use Rattle.std.proofs.Common.{ℕ, List, sym, ap, subst}
use Rattle.mm_model.specs.Effect.{weak_shape}
use Rattle.mm_pages.specs.Parked.{AreAllParked}
use Rattle.mm_object.specs.Object.{newly_stored}
use Rattle.mm_object.specs.Heap.{Heap}
use Rattle.mm_weak.proofs.Partners.{partner-none}
use Rattle.mm_weak.proofs.Making.{IsBorn, begins-born, begins-target, born-apart, made-joined, fits-joined}
use Rattle.mm_weak.proofs.Making.{linked-joined}
use Rattle.mm_weak.proofs.links.make_for.Given as given
use Rattle.mm_weak.proofs.links.make_for.Goals as goal

pub join-requires-clause-target : goal.join-requires-clause-target
join-requires-clause-target g c =
    let target = c.requires.target in (
      target.object,
      begins-target c.args.heap.now c.create.new.self c.in_ok-w.w c.args.colour
          (record {
            heap = c.args.pages.now;
            place = c.in_ok-w.ensures.place;
            was_none = c.in_ok-w.ensures.was_none;
            created = c.in_ok-w.ensures.created;
          })
          c.args.base target.object target.begins,
    )

pub join-requires-clause-weak : goal.join-requires-clause-weak
join-requires-clause-weak g c = (
  newly_stored weak_shape c.args.colour,
  begins-born c.args.heap.now c.create.new.self c.in_ok-w.w c.args.colour
      (record {
        heap = c.args.pages.now;
        place = c.in_ok-w.ensures.place;
        was_none = c.in_ok-w.ensures.was_none;
        created = c.in_ok-w.ensures.created;
      }),
)

pub join-requires-clause-apart : goal.join-requires-clause-apart
join-requires-clause-apart g c =
    let target = c.requires.target in
    born-apart c.args.heap.now c.create.new.self c.in_ok-w.w c.args.colour
    (record {
      heap = c.args.pages.now;
      place = c.in_ok-w.ensures.place;
      was_none = c.in_ok-w.ensures.was_none;
      created = c.in_ok-w.ensures.created;
    })
    c.args.base target.object target.begins

born : (g : given.Over) (c : goal.After-join g) → IsBorn c.args.heap.now c.create.new.self c.in_ok-w.w c.args.colour
born g c =
    record {
      heap = c.args.pages.now;
      place = c.in_ok-w.ensures.place;
      was_none = c.in_ok-w.ensures.was_none;
      created = c.in_ok-w.ensures.created;
    }

pub returns-clause-made : goal.returns-clause-made
returns-clause-made g c =
    let target = c.requires.target in
    made-joined c.args.heap.now c.create.new.self c.in_ok-w.w c.args.colour (born g c) c.args.base target.object
    target.begins c.join.new.heap
    (c.join.ensures.partners target.object (newly_stored weak_shape c.args.colour)
    (begins-target c.args.heap.now c.create.new.self c.in_ok-w.w c.args.colour (born g c) c.args.base target.object
    target.begins)
    (begins-born c.args.heap.now c.create.new.self c.in_ok-w.w c.args.colour (born g c)))
    c.in_ok-w.ensures.raw

pub returns-clause-linked : goal.returns-clause-linked
returns-clause-linked g c =
    let target = c.requires.target in
    linked-joined c.args.heap.now c.create.new.self c.in_ok-w.w c.args.colour (born g c) c.args.base target.object
    target.begins c.join.new.heap
    (c.join.ensures.partners target.object (newly_stored weak_shape c.args.colour)
    (begins-target c.args.heap.now c.create.new.self c.in_ok-w.w c.args.colour (born g c) c.args.base target.object
    target.begins)
    (begins-born c.args.heap.now c.create.new.self c.in_ok-w.w c.args.colour (born g c)))
    c.requires.linked target.kind (partner-none target.object (c.requires.alone target.object target.begins))
    c.in_ok-w.ensures.sound

pub returns-clause-fits : goal.returns-clause-fits
returns-clause-fits g c =
    let target = c.requires.target in
    fits-joined c.args.heap.now c.create.new.self c.in_ok-w.w c.args.colour (born g c) c.args.base target.object
    target.begins c.join.new.heap
    (c.join.ensures.partners target.object (newly_stored weak_shape c.args.colour)
    (begins-target c.args.heap.now c.create.new.self c.in_ok-w.w c.args.colour (born g c) c.args.base target.object
    target.begins)
    (begins-born c.args.heap.now c.create.new.self c.in_ok-w.w c.args.colour (born g c)))
    c.create.new.pages c.in_ok-w.ensures.fits

pub returns-clause-all_parked : goal.returns-clause-all_parked
returns-clause-all_parked g c =
    λ others all.
    let target = c.requires.target in
    subst (λ (runs : List ℕ). AreAllParked runs others c.create.new.pages)
    (sym (ap (λ (h : Heap). h.runs) (c.join.ensures.partners target.object (newly_stored weak_shape c.args.colour)
    (begins-target c.args.heap.now c.create.new.self c.in_ok-w.w c.args.colour (born g c) c.args.base target.object
    target.begins)
    (begins-born c.args.heap.now c.create.new.self c.in_ok-w.w c.args.colour (born g c)))))
    (c.in_ok-w.ensures.all_parked others all)
