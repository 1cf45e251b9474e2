use Rattle.std.proofs.Common.{Some, sym, ap, ◌∙◌, subst}
use Rattle.mm_model.specs.Views.ByBase.{Begins}
use Rattle.mm_model.specs.Views.ViewEffect.{birth_colour}
use Rattle.mm_object.specs.Object.{newly_stored}
use Rattle.mm_gc.specs.declared.wanted.Wanted.TheVariants as wanted
use Rattle.mm_gc.specs.declared.wanted.Made.TheVariants as made_variants
use Rattle.mm_gc.specs.Gc.{Gc, view_of_gc, cycle_in}
use Rattle.mm_gc.specs.Inside.{gc_of}
use Rattle.mm_gc.specs.Making.{IsWanted}
use Rattle.mm_gc.proofs.Makes.Made.{keeps-unmade, room-pushed, made-of}
use Rattle.mm_gc.proofs.Makes.MadeObjects.{coloured, new-right, new-listed, object-done, object-answered}
use Rattle.mm_gc.proofs.Makes.Reaching.{place_in_reach-region}
use Rattle.mm_gc.proofs.Makes.Shapes.{shape-fine}
use Rattle.mm_gc.proofs.gc.Gc.make_object.Goals as goal

pub create-requires-clause-shape : goal.create-requires-clause-shape
create-requires-clause-shape g c = shape-fine c.args.shape c.requires.wanted.fine

pub invariant_of-self : goal.invariant_of-self
invariant_of-self g c =
    keeps-unmade (gc_of c.self.inside) c.self.invariant c.create.new.self c.create.ensures.same
    c.create.ensures.settled (c.create.ensures.unchanged c.in_err-base.was) c.create.ensures.areas

pub enter_newborn-requires-clause-right : goal.enter_newborn-requires-clause-right
enter_newborn-requires-clause-right g c =
    let gc = gc_of c.self.inside in
    let e = c.in_ok-base.ensures in
    let r = c.create.new.self in
    let colour = c.birth_colour-colour.ensures ∙ ap (λ (gc : Gc). birth_colour (cycle_in gc)) (sym c.self.view_is) in
    new-right gc c.self.invariant r e.same e.settled c.in_ok-base.base c.args.shape e.was_none
    (coloured gc.region.heap.objects r.heap.objects c.in_ok-base.base c.args.shape c.birth_colour-colour.result
    (birth_colour (cycle_in gc)) colour e.created)
    (subst (λ k. Begins r.heap.objects c.in_ok-base.base (newly_stored c.args.shape k)) colour e.begins)

pub enter_newborn-requires-clause-listed : goal.enter_newborn-requires-clause-listed
enter_newborn-requires-clause-listed g c =
    let gc = gc_of c.self.inside in
    let e = c.in_ok-base.ensures in
    let r = c.create.new.self in
    let colour = c.birth_colour-colour.ensures ∙ ap (λ (gc : Gc). birth_colour (cycle_in gc)) (sym c.self.view_is) in
    new-listed gc c.self.invariant r e.same e.settled c.in_ok-base.base c.args.shape e.was_none
    (coloured gc.region.heap.objects r.heap.objects c.in_ok-base.base c.args.shape c.birth_colour-colour.result
    (birth_colour (cycle_in gc)) colour e.created)
    (subst (λ k. Begins r.heap.objects c.in_ok-base.base (newly_stored c.args.shape k)) colour e.begins)

pub push_base-requires : goal.push_base-requires
push_base-requires g c =
    let asked = subst (λ (gc : Gc). IsWanted (view_of_gc gc) (wanted.Object c.args.shape)) (sym c.self.view_is)
    c.requires.wanted in
    room-pushed (gc_of c.self.inside) c.self.invariant asked.room

pub invariant_of-self-2 : goal.invariant_of-self-2
invariant_of-self-2 g c =
    let gc = gc_of c.self.inside in
    let e = c.in_ok-base.ensures in
    let n = c.enter_newborn.ensures in
    let r = c.create.new.self in
    let base = c.in_ok-base.base in
    let colour = c.birth_colour-colour.ensures ∙ ap (λ (gc : Gc). birth_colour (cycle_in gc)) (sym c.self.view_is) in
    let asked = subst (λ (gc : Gc). IsWanted (view_of_gc gc) (wanted.Object c.args.shape)) (sym c.self.view_is)
    c.requires.wanted in
    object-done gc c.self.invariant r e.same e.settled base c.args.shape e.was_none
    (coloured gc.region.heap.objects r.heap.objects base c.args.shape c.birth_colour-colour.result
    (birth_colour (cycle_in gc)) colour e.created)
    (subst (λ k. Begins r.heap.objects base (newly_stored c.args.shape k)) colour e.begins) e.areas
    c.enter_newborn.new.heap c.enter_newborn.new.count
    (record {
      right = n.right;
      counts = n.counts;
      listed = n.listed;
      unpinned = n.unpinned;
      objects = n.objects;
      rest = n.rest;
      views = n.views;
      table_same = n.table;
      sound = n.sound;
    })
    c.push_base.new.stack c.push_base.ensures
    c.args.reach asked.fine
    (place_in_reach-region gc c.self.invariant c.args.reach (wanted.Object c.args.shape) ∙ sym e.place)

pub returns : goal.returns
returns g c =
    let gc = gc_of c.self.inside in
    let e = c.in_ok-base.ensures in
    let n = c.enter_newborn.ensures in
    let r = c.create.new.self in
    let base = c.in_ok-base.base in
    let colour = c.birth_colour-colour.ensures ∙ ap (λ (gc : Gc). birth_colour (cycle_in gc)) (sym c.self.view_is) in
    let asked = subst (λ (gc : Gc). IsWanted (view_of_gc gc) (wanted.Object c.args.shape)) (sym c.self.view_is)
    c.requires.wanted in
    made-of gc c.args.self.now c.self.view_is (wanted.Object c.args.shape) c.args.reach _
    (Some (made_variants.Object base))
    (object-answered gc c.self.invariant r e.same e.settled base c.args.shape e.was_none
    (coloured gc.region.heap.objects r.heap.objects base c.args.shape c.birth_colour-colour.result
    (birth_colour (cycle_in gc)) colour e.created)
    (subst (λ k. Begins r.heap.objects base (newly_stored c.args.shape k)) colour e.begins) e.areas
    c.enter_newborn.new.heap c.enter_newborn.new.count
    (record {
      right = n.right;
      counts = n.counts;
      listed = n.listed;
      unpinned = n.unpinned;
      objects = n.objects;
      rest = n.rest;
      views = n.views;
      table_same = n.table;
      sound = n.sound;
    })
    c.push_base.new.stack c.push_base.ensures
    c.args.reach asked.fine
    (place_in_reach-region gc c.self.invariant c.args.reach (wanted.Object c.args.shape) ∙ sym e.place))
