use Rattle.std.proofs.Common.{◌≡◌, Some, sym, subst}
use Rattle.std.specs.Prelude.{slice_get}
use Rattle.mm_gc.specs.Gc.{Gc}
use Rattle.mm_gc.specs.Inside.{gc_of}
use Rattle.mm_gc.specs.Refused.{IsMeant, MeansNothing}
use Rattle.mm_gc.proofs.Meaning.{meant-covers, meant-none}
use Rattle.mm_gc.proofs.gc.Gc.meant.Goals as goal

pub returns-in-Some-clause-answer : goal.returns-in-Some-clause-answer
returns-in-Some-clause-answer g c =
    let found = c.in-Some.ensures.found in
    subst (λ (gc : Gc). IsMeant gc c.args.i c.in_ok-word.word c.in-Some.found) c.self.view_is
    (meant-covers (gc_of c.self.inside) c.args.i c.in_ok-word.word c.in-Some.found found.0 c.self.invariant.shown
    (subst (λ (gc : Gc). slice_get gc.stack.words c.args.i ≡ Some c.in_ok-word.word) (sym c.self.view_is)
    c.in_ok-word.ensures.answer)
    found.1 found.2)

pub returns-in-None-clause-answer : goal.returns-in-None-clause-answer
returns-in-None-clause-answer g c =
    subst (λ (gc : Gc). MeansNothing gc c.args.i) c.self.view_is
    (meant-none (gc_of c.self.inside) c.args.i c.in_ok-word.word
    (subst (λ (gc : Gc). slice_get gc.stack.words c.args.i ≡ Some c.in_ok-word.word) (sym c.self.view_is)
    c.in_ok-word.ensures.answer)
    c.in-None.ensures.found)
