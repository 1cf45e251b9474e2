use Rattle.std.proofs.Common.{Some, sym, ap, ◌∙◌, subst}
use Rattle.mm_model.specs.Views.ViewEffect.{birth_colour}
use Rattle.mm_gc.specs.declared.wanted.Wanted.TheVariants as wanted
use Rattle.mm_gc.specs.declared.wanted.Made.TheVariants as made_variants
use Rattle.mm_gc.specs.Gc.{Gc, view_of_gc, cycle_in}
use Rattle.mm_gc.specs.Inside.{gc_of}
use Rattle.mm_gc.specs.Making.{IsWanted}
use Rattle.mm_gc.proofs.Makes.Made.{keeps-unmade, room-pushed, made-of}
use Rattle.mm_gc.proofs.Makes.MadeWeak.{target-asked, target-alone, linked-weak, weak-done, weak-answered}
use Rattle.mm_gc.proofs.Makes.Reaching.{place_in_reach-region}
use Rattle.mm_gc.proofs.gc.Gc.make_weak.Goals as goal

pub create_weak-requires-clause-target : goal.create_weak-requires-clause-target
create_weak-requires-clause-target g c =
    let asked = target-asked (gc_of c.self.inside) c.args.target
    (subst (λ (gc : Gc). IsWanted (view_of_gc gc) (wanted.WeakOf c.args.target)) (sym c.self.view_is)
    c.requires.wanted) in
    record { object = asked.object; begins = asked.begins; kind = asked.strong }

pub create_weak-requires-clause-alone : goal.create_weak-requires-clause-alone
create_weak-requires-clause-alone g c =
    target-alone (gc_of c.self.inside) c.args.target
    (target-asked (gc_of c.self.inside) c.args.target
    (subst (λ (gc : Gc). IsWanted (view_of_gc gc) (wanted.WeakOf c.args.target)) (sym c.self.view_is)
    c.requires.wanted))

pub invariant_of-self : goal.invariant_of-self
invariant_of-self g c =
    let e = c.create_weak.ensures in
    keeps-unmade (gc_of c.self.inside) c.self.invariant c.create_weak.new.self e.same e.settled
    (e.unchanged c.in_err-base.was) e.areas

pub push_base-requires : goal.push_base-requires
push_base-requires g c =
    let wants = subst (λ (gc : Gc). IsWanted (view_of_gc gc) (wanted.WeakOf c.args.target)) (sym c.self.view_is)
    c.requires.wanted in
    room-pushed (gc_of c.self.inside) c.self.invariant wants.room

pub invariant_of-self-2 : goal.invariant_of-self-2
invariant_of-self-2 g c =
    let gc = gc_of c.self.inside in
    let e = c.in_ok-base.ensures in
    let r = c.create_weak.new.self in
    let base = c.in_ok-base.base in
    let colour = c.birth_colour-colour.ensures ∙ ap (λ (gc : Gc). birth_colour (cycle_in gc)) (sym c.self.view_is) in
    let wants = subst (λ (gc : Gc). IsWanted (view_of_gc gc) (wanted.WeakOf c.args.target)) (sym c.self.view_is)
    c.requires.wanted in
    let asked = target-asked gc c.args.target wants in
    weak-done gc c.self.invariant r e.same e.settled c.args.target base asked e.was_none
    (linked-weak gc.region.heap.objects r.heap.objects c.args.target base asked.object c.birth_colour-colour.result
    (birth_colour (cycle_in gc)) colour (e.made asked.object asked.begins))
    e.linked e.areas c.push_base.new.stack c.push_base.ensures
    c.args.reach
    (place_in_reach-region gc c.self.invariant c.args.reach (wanted.WeakOf c.args.target) ∙ sym e.place)

pub returns : goal.returns
returns g c =
    let gc = gc_of c.self.inside in
    let e = c.in_ok-base.ensures in
    let r = c.create_weak.new.self in
    let base = c.in_ok-base.base in
    let colour = c.birth_colour-colour.ensures ∙ ap (λ (gc : Gc). birth_colour (cycle_in gc)) (sym c.self.view_is) in
    let wants = subst (λ (gc : Gc). IsWanted (view_of_gc gc) (wanted.WeakOf c.args.target)) (sym c.self.view_is)
    c.requires.wanted in
    let asked = target-asked gc c.args.target wants in
    made-of gc c.args.self.now c.self.view_is (wanted.WeakOf c.args.target) c.args.reach _
    (Some (made_variants.Object base))
    (weak-answered gc c.self.invariant r e.same e.settled c.args.target base asked e.was_none
    (linked-weak gc.region.heap.objects r.heap.objects c.args.target base asked.object c.birth_colour-colour.result
    (birth_colour (cycle_in gc)) colour (e.made asked.object asked.begins))
    e.linked e.areas c.push_base.new.stack c.push_base.ensures
    c.args.reach
    (place_in_reach-region gc c.self.invariant c.args.reach (wanted.WeakOf c.args.target) ∙ sym e.place))
