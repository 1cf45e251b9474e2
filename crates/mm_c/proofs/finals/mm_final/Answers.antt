use Rattle.std.proofs.Common.{rules, refl, ap, ◌∙◌}
use Rattle.mm_c.specs.Calls.{OnOpen}
use Rattle.mm_c.specs.Status.{number}
use Rattle.mm_c.proofs.finals.mm_final.Goals as goal

pub returns-in-Some : goal.returns-in-Some
returns-in-Some c =
    OnOpen c.deref_mut.result.now (record c.deref_mut.result.now { finals = c.take-taken.new.self })
    (search rules) c.restore.ensures (record {
      taken = c.take-taken.result;
      taken_is = c.take-taken.ensures;
      same = refl;
      status_is = c.number.ensures ∙ ap number c.put_out.ensures.status;
      out_is = c.put_out.ensures.out;
    })
