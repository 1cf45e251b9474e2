use Rattle.std.proofs.Common.{sym, subst}
use Rattle.mm_cells.specs.Uses.{StandsAlone}
use Rattle.mm_cells.proofs.Tables.Uses.{use_in-alone}
use Rattle.mm_cells.proofs.page_use.set_use.Goals as goal

pub returns-clause-others : goal.returns-clause-others
returns-clause-others c = λ other apart.
    use_in-alone c.args.uses.now c.args.page c.encode.result other c.requires.within c.requires.was_alone
    (subst StandsAlone (sym c.encode.ensures) c.requires.alone) apart
