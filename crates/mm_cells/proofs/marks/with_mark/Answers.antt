-- The old digit goes and the new one comes, which changes no other.
use Rattle.std.proofs.Common.{◌≡◌, ◌∙◌, ◌+◌, ◌-◌, ◌*◌, ◌/◌, ◌%◌, ◌^◌, ◌<◌, ℕ, ap, arith}
use Rattle.std.proofs.lemmas.Nat.{mod_below}
use Rattle.mm_cells.specs.Marks.{mark_of, code_in}
use Rattle.mm_cells.proofs.Bits.Codes.{Replaces, replaces, code-le, code-shifted}
use Rattle.mm_cells.proofs.marks.with_mark.Goals as goal

replaced : (word place old code : ℕ) → old ≡ code_in word place → code < 16 → place < 8 →
    Replaces word place code (word - old * 2 ^ (4 * place) % 2 ^ 32 + code * 2 ^ (4 * place) % 2 ^ 32)
replaced word place old code is small within =
    let old_small : old < 16 = rw is (mod_below (word / 16 ^ place) 16 (omega arith)) in
    rw (code-shifted old place old_small within, code-shifted code place small within, is)
    (replaces word place code small)

pub overflow_sub-result : goal.overflow_sub-result
overflow_sub-result c =
    let shifted = code-shifted c.code_at.result c.args.place (omega arith) (omega arith) in
    let within = code-le c.args.word c.args.place in
    rw (shifted, c.code_at.ensures.value) within

pub overflow_add-result : goal.overflow_add-result
overflow_add-result c =
    let r = replaced c.args.word c.args.place c.code_at.result c.encode.result c.code_at.ensures.value
    c.encode.ensures.small c.requires.place in
    let fits = r.fits c.requires.place (omega arith) in omega arith

pub returns-clause-code : goal.returns-clause-code
returns-clause-code c =
    let r = replaced c.args.word c.args.place c.code_at.result c.encode.result c.code_at.ensures.value
    c.encode.ensures.small c.requires.place in
    r.same ∙ c.encode.ensures.code

pub returns-clause-given : goal.returns-clause-given
returns-clause-given c =
    let r = replaced c.args.word c.args.place c.code_at.result c.encode.result c.code_at.ensures.value
    c.encode.ensures.small c.requires.place in
    rw r.same c.encode.ensures.means

pub returns-clause-others : goal.returns-clause-others
returns-clause-others c = λ p within other.
    let r = replaced c.args.word c.args.place c.code_at.result c.encode.result c.code_at.ensures.value
    c.encode.ensures.small c.requires.place in
    r.others p other
