-- The old low bits go and the new ones come, which changes no other digit.
use Rattle.std.proofs.Common.{◌∙◌, ◌+◌, ◌-◌, ◌*◌, ◌/◌, ◌%◌, ◌^◌, ◌<◌, ℕ, bit_and, ap, arith}
use Rattle.mm_cells.specs.Marks.{mark_of, code_in}
use Rattle.mm_cells.proofs.Bits.Codes.{Replaces, recolours, low-le, low-mask, code-shifted, mark_of-coloured}
use Rattle.mm_cells.proofs.marks.with_colour.Goals as goal

recoloured : (word place low : ℕ) → low < 4 → place < 8 →
    Replaces word place (code_in word place / 4 * 4 + low)
    (word - bit_and (word / 2 ^ (4 * place)) 3 * 2 ^ (4 * place) % 2 ^ 32 + low * 2 ^ (4 * place) % 2 ^ 32)
recoloured word place low small within =
    rw (
      low-mask word place,
      code-shifted (code_in word place % 4) place (omega arith) within,
      code-shifted low place (omega arith) within,
    ) (recolours word place low small)

pub overflow_sub-result : goal.overflow_sub-result
overflow_sub-result c =
    rw (
      low-mask c.args.word c.args.place,
      code-shifted (code_in c.args.word c.args.place % 4) c.args.place (omega arith) c.requires,
    )
    (low-le c.args.word c.args.place)

pub overflow_add-result : goal.overflow_add-result
overflow_add-result c =
    let r = recoloured c.args.word c.args.place c.colour_code.result (omega (arith, c.colour_code.ensures.small))
    c.requires in
    let fits = r.fits c.requires (omega arith) in omega arith

pub returns-clause-given : goal.returns-clause-given
returns-clause-given c = λ its flags is.
    let r = recoloured c.args.word c.args.place c.colour_code.result (omega (arith, c.colour_code.ensures.small))
    c.requires in
    ap mark_of (r.same ∙ ap (λ x. code_in c.args.word c.args.place / 4 * 4 + x) c.colour_code.ensures.code)
    ∙ mark_of-coloured (code_in c.args.word c.args.place) its c.args.colour flags is

pub returns-clause-others : goal.returns-clause-others
returns-clause-others c = λ p within other.
    let r = recoloured c.args.word c.args.place c.colour_code.result (omega (arith, c.colour_code.ensures.small))
    c.requires in
    r.others p other
