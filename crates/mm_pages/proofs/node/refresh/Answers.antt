use Rattle.std.proofs.Common.{ℕ, List, suc, ◌*◌, ◌^◌, ◌≡◌, arith, sym, ◌∙◌, ap, subst}
use Rattle.std.proofs.Math.Nat.{pow-suc}
use Rattle.mm_pages.specs.Free.{beyond, TellsRuns}
use Rattle.mm_pages.specs.Tree.{head_of, Shows}
use Rattle.mm_pages.proofs.Halves.{TellsRuns-same, lower-same, upper-same}
use Rattle.mm_pages.proofs.Trees.{Shows-head, FitIn-tree, span_small}
use Rattle.mm_pages.proofs.node.refresh.Goals as goal

pub joined-requires-clause-small : goal.joined-requires-clause-small
joined-requires-clause-small c = omega (arith, c.span_of.ensures, span_small c.args.height (omega arith))

pub joined-requires-clause-fits : goal.joined-requires-clause-fits
joined-requires-clause-fits c = FitIn-tree c.args.height _ _ _ c.span_of.ensures
    (c.read-low.ensures ∙ ap head_of c.lower_part.ensures.part) c.requires.tree.low

pub joined-requires-clause-above_fits : goal.joined-requires-clause-above_fits
joined-requires-clause-above_fits c = FitIn-tree c.args.height _ _ _ c.span_of.ensures
    (c.read-high.ensures ∙ ap head_of c.upper_part.ensures.part) c.requires.tree.high

pub returns : goal.returns
returns c = λ free s.
    let height : ℕ = c.args.height in
    let span : c.span_of.result ≡ 2 ^ height = c.span_of.ensures in
    let twice : 2 * c.span_of.result ≡ 2 ^ suc height = omega (arith, pow-suc 2 height) in
    let low = TellsRuns-same free _ _ _ _ (sym span) (c.read-low.ensures ∙ ap head_of c.lower_part.ensures.part)
    (Shows-head height free _ s.low) in
    let high = subst (λ (x : ℕ). TellsRuns (beyond x free) c.span_of.result c.read-high.result) (sym span)
    (TellsRuns-same (beyond (2 ^ height) free) _ _ _ _ (sym span) (c.read-high.ensures
    ∙ ap head_of c.upper_part.ensures.part) (Shows-head height _ _ s.high)) in (
      TellsRuns-same free _ _ _ _ twice c.write.ensures.head (c.joined.ensures free low high),
      (λ a b. subst (λ (x : List ℕ). Shows free height x)
          (sym (lower-same height c.args.words.now c.write.new.words c.write.ensures.rest)) s.low),
      (λ a b. subst (λ (x : List ℕ). Shows (beyond (2 ^ height) free) height x)
          (sym (upper-same height c.args.words.now c.write.new.words c.write.ensures.rest)) s.high),
    )
