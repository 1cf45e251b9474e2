use Rattle.std.proofs.Common.{◌≡◌, Option, Some, None, subst}
use Rattle.std.specs.Option.{option_map}
use Rattle.mm_model.specs.Views.ViewWords.{resolved_in}
use Rattle.mm_gc.specs.declared.describing.Described.{Described}
use Rattle.mm_gc.specs.Describing.{described}
use Rattle.mm_gc.specs.Gc.{Gc, view_of_gc}
use Rattle.mm_gc.specs.Inside.{gc_of}
use Rattle.mm_gc.proofs.Readers.{described-found, described-none}
use Rattle.mm_gc.proofs.gc.Gc.describe.Goals as goal

pub returns-in-Some-clause-answer : goal.returns-in-Some-clause-answer
returns-in-Some-clause-answer g c =
    let gc = gc_of c.self.inside in
    let found = c.in-Some.found in
    let e = c.in-Some.ensures.found in
    let answer : Option Described = Some (record {
      base = found.base;
      kind = found.shape.kind;
      finalize = found.shape.finalize;
      extent = c.extent.result;
      counted = found.shape.counted;
      slots = found.shape.slots;
    }) in
    subst (λ (gc : Gc). answer ≡ option_map described (resolved_in (view_of_gc gc).objects c.args.word)) c.self.view_is
    (described-found gc c.args.word c.self.invariant.shown found e.0 e.1 e.2 c.extent.result
    (c.extent.ensures.extent e.0 e.1.begins))

pub returns-in-None-clause-answer : goal.returns-in-None-clause-answer
returns-in-None-clause-answer g c =
    let none : Option Described = None in
    subst (λ (gc : Gc). none ≡ option_map described (resolved_in (view_of_gc gc).objects c.args.word)) c.self.view_is
    (described-none (gc_of c.self.inside) c.args.word c.in-None.ensures.found)
