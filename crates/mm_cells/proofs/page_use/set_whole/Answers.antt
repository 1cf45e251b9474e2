use Rattle.std.proofs.Common.{◌+◌, slice_set, inl, inr, sym, ◌∙◌, ap, arith}
use Rattle.std.proofs.lemmas.Bool.{cases_eq}
use Rattle.std.specs.Prelude.{ℕ}
use Rattle.mm_cells.specs.declared.page_use.PageUse.TheVariants.{Later}
use Rattle.mm_cells.specs.Uses.{told_at}
use Rattle.mm_cells.proofs.Tables.Uses.{told-here, told-other, ChangesUses-whole}
use Rattle.mm_cells.proofs.page_use.set_whole.Goals as goal

pub overflow_add-uses : goal.overflow_add-uses
overflow_add-uses c = omega (arith, c.requires.most, c.requires.within, c.loop-distance-test.true)

pub loop-distance-preserved : goal.loop-distance-preserved
loop-distance-preserved c =
    let before = c.loop-distance.uses in
    let page = c.args.first + c.loop-distance.distance in
    record {
      later = λ k off less. elim (cases_eq k c.loop-distance.distance) [
        | inl e ↦
            ap (λ (d : ℕ). told_at (slice_set before page c.encode.result) (c.args.first + d)) e
            ∙ told-here before page c.encode.result
            (omega (arith, c.requires.within, c.loop-distance-test.true, c.loop-distance.auto.uses))
            ∙ c.encode.ensures ∙ ap Later (sym e)
        | inr ne ↦ told-other before page c.encode.result (c.args.first + k) (λ e. omega arith)
            ∙ c.loop-distance.invariant.later k off (omega arith)
      ];
      others = λ other apart.
          told-other before page c.encode.result other (λ e. elim apart [
            | inl low ↦ omega (arith, c.loop-distance.auto.distance)
            | inr high ↦ omega arith
          ])
          ∙ c.loop-distance.invariant.others other (elim apart [ inl low ↦ inl low | inr high ↦ inr (omega arith) ]);
    }

pub returns : goal.returns
returns c =
    let before = c.loop-distance.uses in
    let some = c.requires.some in
    ChangesUses-whole c.args.uses.now _ c.args.first c.args.count some c.requires.unused (record {
      first_page =
          told-here before c.args.first c.encode-2.result
          (omega (arith, some, c.requires.within, c.loop-distance.auto.uses))
          ∙ c.encode-2.ensures;
      later = λ k off less. told-other before c.args.first c.encode-2.result (c.args.first + k) (λ e. omega arith)
          ∙ c.loop-distance.invariant.later k off (omega (arith, c.loop-distance-test.false));
      others = λ page outside.
          told-other before c.args.first c.encode-2.result page (λ e. elim outside [
            | inl low ↦ omega arith
            | inr high ↦ omega (arith, some)
          ])
          ∙ c.loop-distance.invariant.others page (elim outside [
            | inl low ↦ inl (omega arith)
            | inr high ↦ inr (omega (arith, some, c.loop-distance.auto.distance-end))
          ]);
    })
