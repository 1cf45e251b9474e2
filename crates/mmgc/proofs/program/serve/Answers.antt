use Rattle.std.proofs.Common.{◌≤◌, None, Some, option_map, refl, subst}
use Rattle.std.specs.Prelude.{IfSome}
use Rattle.mmgc.specs.Generator.{most_generated}
use Rattle.mmgc.specs.Run.{Input}
use Rattle.mmgc.proofs.Serving.{serves-asked}
use Rattle.mmgc.proofs.program.serve.Goals as goal

pub generate-requires-clause-count : goal.generate-requires-clause-count
generate-requires-clause-count g c =
    subst (λ generated. IfSome generated (λ trace. trace.count ≤ most_generated)) c.in-Some.is c.requires.count

pub returns-in-Some-clause-served : goal.returns-in-Some-clause-served
returns-in-Some-clause-served g c =
    let left = g.S.Source.left c.args.source.now in
    let faults = g.S.Source.faults c.args.source.now in
    let file = option_map (λ name. name.now) c.args.request.file in
    let input : Input = record { left = left; left_after = left; faults = faults; faults_after = faults } in
    serves-asked c.args.request.settings file c.args.request.extras c.args.request.generated
    (Some c.in-Some.trace) _ c.generate.result _
    c.in-Some.is
    (c.generate.ensures.served file c.args.request.extras (g.S.Source.named c.args.source.now) input
    (record { left = refl {a = left}; faults = refl {a = faults} }))

pub returns-in-None-clause-served : goal.returns-in-None-clause-served
returns-in-None-clause-served g c =
    let file = option_map (λ name. name.now) c.args.request.file in
    serves-asked c.args.request.settings file c.args.request.extras c.args.request.generated None _
    c.open_and_replay.result _
    c.in-None.is c.open_and_replay.ensures.served
