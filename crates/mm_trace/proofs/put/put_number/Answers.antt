use Rattle.std.proofs.Common.{refl, append_assoc, arith}
use Rattle.std.proofs.lemmas.Fmt.{decimal_digit}
use Rattle.mm_trace.proofs.put.put_number.Goals as goal

pub returns-then-number-lt10-clause-items : goal.returns-then-number-lt10-clause-items
returns-then-number-lt10-clause-items c =
    rw (
      decimal_digit c.args.number (omega arith),
      c.push-then-number-lt10.ensures.items,
      c.push.ensures.items,
      append_assoc,
    )
    refl
