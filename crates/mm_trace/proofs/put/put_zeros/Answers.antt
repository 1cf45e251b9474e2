use Rattle.std.proofs.Common.{arith}
use Rattle.std.proofs.lemmas.Fmt.{decimal_digit}
use Rattle.mm_trace.proofs.Decimals.{length-decimal}
use Rattle.mm_trace.proofs.put.put_zeros.Goals as goal

pub returns-in-0-to-9-clause-items : goal.returns-in-0-to-9-clause-items
returns-in-0-to-9-clause-items c = rw (decimal_digit c.args.number (omega arith)) c.put_text.ensures.items

pub returns-in-10-to-99-clause-items : goal.returns-in-10-to-99-clause-items
returns-in-10-to-99-clause-items c =
    rw (length-decimal 1 c.args.number (omega arith) (omega arith) (omega arith))
    c.put_text-in-10-to-99.ensures.items

pub returns-in-100-to-999-clause-items : goal.returns-in-100-to-999-clause-items
returns-in-100-to-999-clause-items c =
    rw (length-decimal 2 c.args.number (omega arith) (omega arith) (omega arith))
    c.put_text-in-100-to-999.ensures.items

pub returns-in-1000-to-9999-clause-items : goal.returns-in-1000-to-9999-clause-items
returns-in-1000-to-9999-clause-items c =
    rw (length-decimal 3 c.args.number (omega arith) (omega arith) (omega arith))
    c.put_text-in-1000-to-9999.ensures.items

pub returns-in-10000-to-99999-clause-items : goal.returns-in-10000-to-99999-clause-items
returns-in-10000-to-99999-clause-items c =
    rw (length-decimal 4 c.args.number (omega arith) (omega arith) (omega arith))
    c.put_text-in-10000-to-99999.ensures.items

pub returns-in-100000-to-999999-clause-items : goal.returns-in-100000-to-999999-clause-items
returns-in-100000-to-999999-clause-items c =
    rw (length-decimal 5 c.args.number (omega arith) (omega arith) (omega arith))
    c.put_text-in-100000-to-999999.ensures.items

pub returns-in-1000000-to-9999999-clause-items : goal.returns-in-1000000-to-9999999-clause-items
returns-in-1000000-to-9999999-clause-items c =
    rw (length-decimal 6 c.args.number (omega arith) (omega arith) (omega arith))
    c.put_text-in-1000000-to-9999999.ensures.items

pub returns-in-10000000-to-99999999-clause-items : goal.returns-in-10000000-to-99999999-clause-items
returns-in-10000000-to-99999999-clause-items c =
    rw (length-decimal 7 c.args.number (omega arith) (omega arith) (omega arith))
    c.put_text-in-10000000-to-99999999.ensures.items

pub returns-in-100000000-to-999999999-clause-items : goal.returns-in-100000000-to-999999999-clause-items
returns-in-100000000-to-999999999-clause-items c =
    rw (length-decimal 8 c.args.number (omega arith) (omega arith) (omega arith))
    c.put_text-in-100000000-to-999999999.ensures.items

pub returns-in_default-clause-items : goal.returns-in_default-clause-items
returns-in_default-clause-items c =
    rw (length-decimal 9 c.args.number (omega arith) (omega arith) (omega arith))
    c.put_text-in_default.ensures.items
