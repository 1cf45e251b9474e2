use Rattle.std.proofs.Common.{sym, subst}
use Rattle.mm_pages.specs.Parked.{AreParked, AreAllParked}
use Rattle.mm_object.specs.Heap.{Heap}
use Rattle.mm_object.proofs.Calls.{taken}
use Rattle.mm_object.proofs.Sound.{IsSound-kept}
use Rattle.mm_object.proofs.Erased.{erased-kept, erased-heap, erased-raw, erased-page, erased-fits}
use Rattle.mm_object.proofs.heap.Heap.erase.Goals as goal

pub release-requires-clause-taken : goal.release-requires-clause-taken
release-requires-clause-taken g c =
    taken c.self.inside.memory c.self.inside.cells c.self.invariant c.args.self.now c.self.view_is
    c.args.base c.requires.object.0 c.requires.object.1

pub release-requires-clause-parked : goal.release-requires-clause-parked
release-requires-clause-parked g c =
    subst (λ (v : Heap). AreParked v.runs c.args.pages.now) (sym c.self.view_is) c.requires.fits.parked

pub invariant_of-self : goal.invariant_of-self
invariant_of-self g c =
    erased-kept c.self.inside.memory c.self.inside.cells c.self.invariant c.args.self.now c.self.view_is
    c.args.base c.requires.object.0 c.requires.object.1 c.release.new.self c.release.ensures.gone
    c.release.ensures.sound

pub returns-clause-erased : goal.returns-clause-erased
returns-clause-erased g c =
    erased-heap c.self.inside.memory c.self.inside.cells c.self.invariant c.args.self.now c.self.view_is
    c.args.base c.requires.object.0 c.requires.object.1 c.release.new.self c.release.ensures.gone
    c.release.ensures.sound

pub returns-clause-page : goal.returns-clause-page
returns-clause-page g c =
    erased-page c.self.inside.memory c.self.inside.cells c.self.invariant c.args.self.now c.self.view_is
    c.args.base c.requires.object.0 c.requires.object.1 c.release.new.self c.release.ensures.gone
    c.release.ensures.sound
    c.args.pages.now c.release.new.pages c.release.ensures.page

pub returns-clause-raw : goal.returns-clause-raw
returns-clause-raw g c = λ object begins.
    erased-raw c.self.inside.memory c.self.inside.cells c.self.invariant c.args.self.now c.self.view_is
    c.args.base object begins c.release.new.self c.release.ensures.gone c.release.ensures.sound

pub returns-clause-fits : goal.returns-clause-fits
returns-clause-fits g c =
    erased-fits c.self.inside.memory c.self.inside.cells c.self.invariant c.args.self.now c.self.view_is
    c.args.base c.requires.object.0 c.requires.object.1 c.release.new.self c.release.ensures.gone
    c.release.ensures.sound
    c.args.pages.now c.release.new.pages c.requires.fits c.release.ensures.page c.release.ensures.parked

pub returns-clause-all_parked : goal.returns-clause-all_parked
returns-clause-all_parked g c = λ others all.
    c.release.ensures.all_parked others
    (subst (λ (v : Heap). AreAllParked v.runs others c.args.pages.now) (sym c.self.view_is) all)

pub returns-clause-sound : goal.returns-clause-sound
returns-clause-sound g c = IsSound-kept c.self.inside.memory c.release.new.self (invariant_of-self g c)
