use Rattle.std.proofs.Common.{◌<◌, arith}
use Rattle.std.proofs.lemmas.Grind.{common_steps}
use Rattle.mm_trace.proofs.Numbers.{value_bound}
use Rattle.mm_trace.proofs.number.digits_at.Goals as goal

pub overflow_mul-value : goal.overflow_mul-value
overflow_mul-value c =
    let few : c.loop-i.i < 11 = grind (arith, common_steps) in
    let bound = value_bound c.loop-i.i c.loop-i.value few c.loop-i.invariant.bound in omega arith

pub overflow_add-value : goal.overflow_add-value
overflow_add-value c =
    let few : c.loop-i.i < 11 = grind (arith, common_steps) in
    let bound = value_bound c.loop-i.i c.loop-i.value few c.loop-i.invariant.bound in omega arith
