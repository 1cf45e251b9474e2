use Rattle.std.proofs.Common.{◌∙◌, arith}
use Rattle.mm_object.proofs.Calls.{sound, covers, none-covers, at-object, read-shape}
use Rattle.mm_object.proofs.heap.Heap.look_up.Goals as goal

pub shape_at-requires : goal.shape_at-requires
shape_at-requires g c =
    let told = c.in-Some.ensures.cell in
    let one = covers c.self.inside.memory c.self.inside.cells c.self.invariant c.args.self.now c.self.view_is
    c.args.word c.in-Some.cell.base told.0 told.1 in
    let at = at-object c.self.inside.memory c.self.inside.cells c.self.invariant c.args.self.now c.self.view_is
    c.in-Some.cell.base one.0 one.1.begins in
    omega (arith, at.header, at.end)

pub returns-in-Some-clause-found : goal.returns-in-Some-clause-found
returns-in-Some-clause-found g c =
    let told = c.in-Some.ensures.cell in
    let one = covers c.self.inside.memory c.self.inside.cells c.self.invariant c.args.self.now c.self.view_is
    c.args.word c.in-Some.cell.base told.0 told.1 in (
      one.0,
      one.1,
      c.shape_at.ensures ∙ read-shape c.self.inside.memory c.self.inside.cells c.self.invariant
          c.args.self.now c.self.view_is c.in-Some.cell.base one.0 one.1.begins,
    )

pub returns-in-Some-clause-sound : goal.returns-in-Some-clause-sound
returns-in-Some-clause-sound g c =
    sound c.self.inside.memory c.self.inside.cells c.self.invariant c.args.self.now c.self.view_is

pub returns-in-None-clause-found : goal.returns-in-None-clause-found
returns-in-None-clause-found g c =
    none-covers c.self.inside.memory c.self.inside.cells c.self.invariant c.args.self.now c.self.view_is
    c.args.word c.in-None.ensures.cell

pub returns-in-None-clause-sound : goal.returns-in-None-clause-sound
returns-in-None-clause-sound g c =
    sound c.self.inside.memory c.self.inside.cells c.self.invariant c.args.self.now c.self.view_is
