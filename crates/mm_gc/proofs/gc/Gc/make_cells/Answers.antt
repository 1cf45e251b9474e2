use Rattle.std.proofs.Common.{Some, refl, sym, ◌∙◌, subst}
use Rattle.mm_gc.specs.declared.wanted.Wanted.TheVariants as wanted
use Rattle.mm_gc.specs.declared.wanted.Made.TheVariants as made_variants
use Rattle.mm_gc.specs.Gc.{Gc, view_of_gc}
use Rattle.mm_gc.specs.Inside.{gc_of}
use Rattle.mm_gc.specs.Making.{IsWanted}
use Rattle.mm_gc.proofs.Makes.Made.{keeps-unmade, made-of}
use Rattle.mm_gc.proofs.Makes.MadeAreas.{area-keeps, area-made}
use Rattle.mm_gc.proofs.Makes.Reaching.{place_in_reach-region}
use Rattle.mm_gc.proofs.gc.Gc.make_cells.Goals as goal

pub invariant_of-self : goal.invariant_of-self
invariant_of-self g c =
    let e = c.create_area.ensures in
    keeps-unmade (gc_of c.self.inside) c.self.invariant c.create_area.new.self e.same e.settled e.objects
    (e.unchanged c.in_err-made.was)

pub invariant_of-self-2 : goal.invariant_of-self-2
invariant_of-self-2 g c =
    let gc = gc_of c.self.inside in
    let e = c.in_ok-made.ensures in
    let asked = subst (λ (gc : Gc). IsWanted (view_of_gc gc) (wanted.Area c.args.area)) (sym c.self.view_is)
    c.requires.wanted in
    area-keeps gc c.self.invariant c.create_area.new.self e.same e.settled e.objects c.args.area c.in_ok-made.made
    e.made
    (e.number (view_of_gc gc) refl) c.args.reach asked
    (place_in_reach-region gc c.self.invariant c.args.reach (wanted.Area c.args.area) ∙ sym e.place)

pub returns : goal.returns
returns g c =
    let gc = gc_of c.self.inside in
    let e = c.in_ok-made.ensures in
    let asked = subst (λ (gc : Gc). IsWanted (view_of_gc gc) (wanted.Area c.args.area)) (sym c.self.view_is)
    c.requires.wanted in
    made-of gc c.args.self.now c.self.view_is (wanted.Area c.args.area) c.args.reach _
    (Some (made_variants.Area c.in_ok-made.made))
    (area-made gc c.self.invariant c.create_area.new.self e.same e.settled e.objects c.args.area c.in_ok-made.made
    e.made
    (e.number (view_of_gc gc) refl) c.args.reach asked
    (place_in_reach-region gc c.self.invariant c.args.reach (wanted.Area c.args.area) ∙ sym e.place))
