use Rattle.std.proofs.Common.{ℕ, ◌/◌, sym, ◌∙◌, subst}
use Rattle.mm_cells.specs.Indexes.{IsMarkIndex}
use Rattle.mm_cells.proofs.Region.Indexes.{taken-page, seat-class, seat-whole}
use Rattle.mm_cells.proofs.cells.mark_index_of.Goals as goal

pub use_at-requires : goal.use_at-requires
use_at-requires c = taken-page c.args.table.now c.args.base c.requires.taken c.requires.kept

pub number_at-number-requires-clause-class : goal.number_at-number-requires-clause-class
number_at-number-requires-clause-class c =
    (c.requires.kept.classes (c.args.base / 4096) c.in-Class.class (sym c.in-Class.ensures)).0

pub returns-in-Class : goal.returns-in-Class
returns-in-Class c =
    subst (λ (number : ℕ). IsMarkIndex c.args.table.now (c.args.base / 4096) number c.args.base)
    (sym c.number_at-number.ensures)
    (seat-class c.args.table.now c.args.base c.in-Class.class c.requires.kept c.requires.taken (sym c.in-Class.ensures))

pub returns-in_default : goal.returns-in_default
returns-in_default c = seat-whole c.args.table.now c.args.base c.requires.kept c.requires.taken
    (λ class used. c.in_default.not-Class class (c.use_at.ensures ∙ used))
