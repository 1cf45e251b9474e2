use Rattle.std.proofs.Common.{◌≡◌, ◌-◌, ◌*◌, inl, inr, arith, sym, ◌∙◌}
use Rattle.mm_cells.specs.declared.page_use.PageUse.TheVariants.{Unused, Class, First, Later}
use Rattle.mm_cells.proofs.Region.Covering.{MatchOption-map}
use Rattle.mm_cells.proofs.Region.Lowest.{NoneInPage-other, NoneInPage-class, IsLowestInPage-class}
use Rattle.mm_cells.proofs.Region.Lowest.{NoneInPage-whole, IsLowestInPage-whole}
use Rattle.mm_cells.proofs.cells.lowest_in_page.Goals as goal

pub lowest_small-requires-clause-class : goal.lowest_small-requires-clause-class
lowest_small-requires-clause-class c = (c.requires.kept.classes c.args.page c.in-Class.class (sym c.in-Class.ensures)).0

pub returns-in-Class : goal.returns-in-Class
returns-in-Class c =
    let offset : c.saturating_sub.result ≡ c.args.from - 4096 * c.args.page = omega (arith, c.saturating_sub.ensures) in
    MatchOption-map c.lowest_small.result _ _ _ _
    (λ none. NoneInPage-class c.args.table.now c.args.page c.in-Class.class c.args.sought c.args.from
    c.saturating_sub.result
    c.requires.kept (sym c.in-Class.ensures) offset none)
    (λ base found. IsLowestInPage-class c.args.table.now c.args.page c.in-Class.class c.args.sought c.args.from
    c.saturating_sub.result base c.requires.kept c.requires.page (sym c.in-Class.ensures) offset found)
    c.lowest_small.ensures

pub returns-in-First : goal.returns-in-First
returns-in-First c = MatchOption-map c.lowest_whole.result _ _ _ _
    (λ above. NoneInPage-whole c.args.table.now c.args.page c.in-First.field-0 c.args.sought c.args.from c.requires.kept
    (sym c.in-First.ensures) above)
    (λ base found. IsLowestInPage-whole c.args.table.now c.args.page c.in-First.field-0 c.args.sought c.args.from base
    c.requires.kept (sym c.in-First.ensures) found.0 found.1 found.2)
    c.lowest_whole.ensures

pub returns-in-Unused : goal.returns-in-Unused
returns-in-Unused c = NoneInPage-other c.args.table.now c.args.page c.args.sought c.args.from c.requires.kept
    (λ class used. elim c.in-Unused.is [
      | inl e ↦
          let both : Class class ≡ Unused = sym used ∙ sym c.use_at.ensures ∙ e in
          absurd (cc)
      | inr h ↦
          let both : Class class ≡ Later h.0 = sym used ∙ sym c.use_at.ensures ∙ h.1 in
          absurd (cc)
    ])
    (λ count used. elim c.in-Unused.is [
      | inl e ↦
          let both : First count ≡ Unused = sym used ∙ sym c.use_at.ensures ∙ e in
          absurd (cc)
      | inr h ↦
          let both : First count ≡ Later h.0 = sym used ∙ sym c.use_at.ensures ∙ h.1 in
          absurd (cc)
    ])
