-- Each cell of the page lies in one of its words.
use Rattle.std.proofs.Common.{◌≡◌, ℕ, ◌+◌, ◌*◌, ◌/◌, ◌%◌, ◌<◌, length, slice_set, get_or, inl, inr, sym, ap, subst, ◌∙◌}
use Rattle.std.proofs.Common.{arith}
use Rattle.std.proofs.lemmas.Bool.{cases_eq}
use Rattle.std.proofs.lemmas.List.{get_or-set_same, get_or-set_other}
use Rattle.mm_cells.specs.Marks.{code_in, code_of_cell, mark_in, page_marks, whitened_mark, IsPlain, WhitensWord}
use Rattle.mm_cells.proofs.Bits.Pages.{page_marks-word, page_codes-word}
use Rattle.mm_cells.proofs.marks.whiten.Goals as goal

pub loop-word-preserved : goal.loop-word-preserved
loop-word-preserved c =
    let inv = c.loop-word.invariant in
    let table = c.loop-word.table in
    let word = c.loop-word.word in
    let next = c.whitened_word.result in
    let within : word < length table = omega (arith, c.requires, c.loop-word.auto.table) in
    record {
      white = λ k from to. elim (cases_eq k word) [
        | inl here ↦ subst
            (λ (i : ℕ). WhitensWord (get_or c.args.table.now i 0) (get_or (slice_set table word next) i 0))
            (sym here)
            (subst (λ (w : ℕ). WhitensWord w (get_or (slice_set table word next) word 0)) (inv.above word (omega arith))
            (subst (WhitensWord (get_or table word 0)) (sym (get_or-set_same table word next 0 within))
            c.whitened_word.ensures))
        | inr apart ↦ subst (WhitensWord (get_or c.args.table.now k 0))
            (sym (get_or-set_other table word k next 0 apart)) (inv.white k from (omega arith))
      ];
      below = λ k low. get_or-set_other table word k next 0 (λ e. omega arith) ∙ inv.below k low;
      above = λ k high. get_or-set_other table word k next 0 (λ e. omega arith) ∙ inv.above k (omega arith);
    }

pub returns-clause-white : goal.returns-clause-white
returns-clause-white c = λ cell within.
    let before = c.args.table.now in
    let after = c.loop-word.table in
    let first = c.args.first_word in
    let whole : 8 * (cell / 8) + cell % 8 ≡ cell = omega arith in
    ap (λ k. page_marks after first k) (sym whole)
    ∙ page_marks-word after first (cell / 8) (cell % 8) (omega arith)
    ∙ (c.loop-word.invariant.white (first + cell / 8) (omega arith) (omega arith)).white (cell % 8) (omega arith)
    ∙ sym (ap whitened_mark (page_marks-word before first (cell / 8) (cell % 8) (omega arith)))
    ∙ ap (λ k. whitened_mark (page_marks before first k)) whole

pub returns-clause-plain : goal.returns-clause-plain
returns-clause-plain c = λ cell within plain.
    let before = c.args.table.now in
    let after = c.loop-word.table in
    let first = c.args.first_word in
    let whole : 8 * (cell / 8) + cell % 8 ≡ cell = omega arith in
    let was : code_of_cell before (8 * first + cell) ≡ code_in (get_or before (first + cell / 8) 0) (cell % 8) =
    ap (λ k. code_of_cell before (8 * first + k)) (sym whole)
    ∙ page_codes-word before first (cell / 8) (cell % 8) (omega arith) in
    let is : code_of_cell after (8 * first + cell) ≡ code_in (get_or after (first + cell / 8) 0) (cell % 8) =
    ap (λ k. code_of_cell after (8 * first + k)) (sym whole)
    ∙ page_codes-word after first (cell / 8) (cell % 8) (omega arith) in
    subst IsPlain (sym is) ((c.loop-word.invariant.white (first + cell / 8) (omega arith) (omega arith)).plain
    (cell % 8) (omega arith) (subst IsPlain was plain))

pub returns-clause-others : goal.returns-clause-others
returns-clause-others c = λ cell apart.
    ap (λ w. code_in w (cell % 8)) (elim apart [
      | inl before ↦ c.loop-word.invariant.below (cell / 8) (omega arith)
      | inr behind ↦ c.loop-word.invariant.above (cell / 8) (omega arith)
    ])
