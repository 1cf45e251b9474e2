use Rattle.std.proofs.Common.{sym, ◌∙◌}
use Rattle.mm_c.proofs.Bearing.{can_bear}
use Rattle.mm_c.proofs.owned.Owned.serve.Goals as goal

pub carry_out-requires : goal.carry_out-requires
carry_out-requires g c =
    record {
      births = can_bear c.args.command c.args.self.now.gc.born c.is_worn_out.ensures.counted
          (sym c.is_worn_out.ensures.worn ∙ c.if-is_worn_out.false);
    }
