use Rattle.std.proofs.Common.{◌≡◌, ◌/◌, ◌%◌, Bool, Some, ap, ◌∙◌}
use Rattle.std.specs.Prelude.{◌==◌}
use Rattle.mm_model.specs.Views.ByBase.{Begins}
use Rattle.mm_object.specs.Object.{StoredObject}
use Rattle.mm_object.specs.Heap.{with_object}
use Rattle.mm_weak.proofs.Flags.{SaysWeak, flags-set, flags-object, taken-object}
use Rattle.mm_weak.proofs.links.set_has_weak.Goals as goal
use Rattle.mm_weak.proofs.links.set_has_weak.Given as given

pub flags-flags-requires : goal.flags-flags-requires
flags-flags-requires g c =
    taken-object c.args.heap.now c.cells.result.now c.args.base c.requires.0 c.cells.ensures.cells c.requires.1

says : (g : given.Over) (c : goal.After-set_flags-arg-2-1 g) (object : StoredObject)
    → Begins c.args.heap.now.objects c.args.base object
    → SaysWeak object.finalize c.args.has_weak c.set.new.self.0
says g c object begins =
    flags-set c.flags-flags.result c.set.new.self object.finalize object.has_weak c.args.has_weak
    (flags-object c.args.heap.now c.cells.result.now c.args.base object c.flags-flags.result c.cells.ensures.cells
    begins
    c.flags-flags.ensures.flags)
    (c.set.ensures tt)

pub set_flags-requires-clause-known : goal.set_flags-requires-clause-known
set_flags-requires-clause-known g c = (says g c c.requires.0 c.requires.1).known

pub set_flags-requires-clause-finalize : goal.set_flags-requires-clause-finalize
set_flags-requires-clause-finalize g c = λ object begins. (says g c object begins).finalizer

pub returns-clause-flag : goal.returns-clause-flag
returns-clause-flag g c =
    λ object begins.
    let weak : (c.set.new.self.0 / 2 % 2 == 1) ≡ c.args.has_weak =
    (flags-set c.flags-flags.result c.set.new.self object.finalize object.has_weak c.args.has_weak
    (flags-object c.args.heap.now c.cells.result.now c.args.base object c.flags-flags.result c.cells.ensures.cells
    begins
    c.flags-flags.ensures.flags)
    (c.set.ensures tt)).weak in
    c.set_flags.ensures.flags object begins
    ∙ ap (λ (b : Bool). with_object c.args.heap.now c.args.base (Some (record object { has_weak = b }))) weak
