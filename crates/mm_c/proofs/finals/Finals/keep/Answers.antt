use Rattle.std.proofs.Common.{sym, ap, ◌∙◌}
use Rattle.mm_c.specs.Finals.{Waiting}
use Rattle.mm_c.proofs.Keeping.{keeps-one}
use Rattle.mm_c.proofs.finals.Finals.keep.Goals as goal

pub returns : goal.returns
returns c =
    keeps-one c.args.self.now c.self.inside.records.items c.push.new.self.items c.self.inside.told c.args.base
    c.args.slots.now c.final_of.result c.push.result c.is_err-self-inside.result (record {
      before_is = ap (λ (it : Waiting). it.records) (sym c.self.view_is);
      none_lost = ap (λ (it : Waiting). it.lost) (sym c.self.view_is) ∙ c.if-self.false;
      within = c.self.invariant;
    })
    c.final_of.ensures c.push.ensures.items c.is_err-self-inside.ensures.value
