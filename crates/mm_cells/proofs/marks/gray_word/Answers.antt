-- The low bits of a white cell are 0.
use Rattle.std.proofs.Common.{◌≡◌, ◌∙◌, ◌+◌, ◌-◌, ◌*◌, ◌/◌, ◌%◌, ◌^◌, ◌<◌, ℕ, ap, arith}
use Rattle.mm_model.specs.declared.object.Colour.TheVariants.{White, Gray}
use Rattle.mm_cells.specs.declared.marks.CellBits.{CellBits}
use Rattle.mm_cells.specs.declared.marks.Mark.TheVariants.{Taken}
use Rattle.mm_cells.specs.Marks.{mark_of, mark_in, code_in}
use Rattle.mm_cells.proofs.Bits.Codes.{Replaces, recolours, code-shifted, mark_of-coloured}
use Rattle.mm_cells.proofs.Bits.Sought.{white-low}
use Rattle.mm_cells.proofs.marks.gray_word.Goals as goal

grayed : (word place : ℕ) (flags : CellBits) → mark_in word place ≡ Taken White flags → place < 8 →
    Replaces word place (code_in word place / 4 * 4 + 2) (word + 2 * 2 ^ (4 * place) % 2 ^ 32)
grayed word place flags is within =
    let low = white-low (code_in word place) flags is in
    let none : word + 2 * 16 ^ place ≡ word - code_in word place % 4 * 16 ^ place + 2 * 16 ^ place =
    rw low (omega arith) in
    rw (code-shifted 2 place (omega arith) within, none) (recolours word place 2 (omega arith))

pub overflow_add-result : goal.overflow_add-result
overflow_add-result c =
    let r = grayed c.args.word c.args.place c.requires.white.0 c.requires.white.1 c.requires.place in
    let fits = r.fits c.requires.place (omega arith) in omega arith

pub returns-clause-given : goal.returns-clause-given
returns-clause-given c = λ flags is.
    let r = grayed c.args.word c.args.place flags is c.requires.place in
    ap mark_of r.same ∙ mark_of-coloured (code_in c.args.word c.args.place) White Gray flags is

pub returns-clause-others : goal.returns-clause-others
returns-clause-others c = λ p within other.
    let r = grayed c.args.word c.args.place c.requires.white.0 c.requires.white.1 c.requires.place in
    r.others p other
