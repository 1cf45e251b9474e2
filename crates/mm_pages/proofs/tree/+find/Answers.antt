use Rattle.std.proofs.Common.{◌-◌, ◌≤◌, slice_index, arith, subst}
use Rattle.mm_pages.specs.declared.runs.Runs.{Runs}
use Rattle.mm_pages.proofs.Parts.{Parts, parts_of, low_tree, high_tree, low_fits_in, high_fits_in, low_shows}
use Rattle.mm_pages.proofs.Parts.{high_shows, low_lowest, across_lowest, high_lowest, high_fits}
use Rattle.mm_pages.proofs.Trees.{span_small, span_doubled}
use Rattle.mm_pages.proofs.tree.+find.Goals as goal

pub find-requires : goal.find-requires
find-requires g t c κs within =
    let p : Parts c.args.height c.args.words.now c.lower_part-lower.result.now c.upper_part-upper.result.now
    c.read-low.result c.read-high.result = parts_of c.args.height c.span_of.result c.args.words.now
    c.lower_part-lower.result.now c.upper_part-upper.result.now c.read-low.result c.read-high.result
    c.requires.tree (omega arith) c.if-words-span_of.false c.span_of.ensures c.lower_part-lower.ensures.part
    c.upper_part-upper.ensures.part c.read-low.ensures c.read-high.ensures in
    let enough : c.args.k ≤ slice_index c.lower_part-lower.result.now 0 =
    subst (λ (x : Runs). c.args.k ≤ x.longest) c.read-low.ensures c.if-k-low.true in (
      omega (arith, p.node.high),
      (
        within,
        (
          omega arith,
          (c.lower_part-lower.ensures.sized, (c.requires.some, (low_tree p, enough))),
        ),
      ),
    )

pub overflow_add-low : goal.overflow_add-low
overflow_add-low g t c =
    let p : Parts c.args.height c.args.words.now c.lower_part-lower.result.now c.upper_part-upper.result.now
    c.read-low.result c.read-high.result = parts_of c.args.height c.span_of.result c.args.words.now
    c.lower_part-lower.result.now c.upper_part-upper.result.now c.read-low.result c.read-high.result
    c.requires.tree (omega arith) c.if-words-span_of.false c.span_of.ensures c.lower_part-lower.ensures.part
    c.upper_part-upper.ensures.part c.read-low.ensures c.read-high.ensures in
    omega (arith, (low_fits_in p).right, (high_fits_in p).left, span_small (c.args.height - 1) (omega arith))

pub overflow_sub-result : goal.overflow_sub-result
overflow_sub-result g t c =
    let p : Parts c.args.height c.args.words.now c.lower_part-lower.result.now c.upper_part-upper.result.now
    c.read-low.result c.read-high.result = parts_of c.args.height c.span_of.result c.args.words.now
    c.lower_part-lower.result.now c.upper_part-upper.result.now c.read-low.result c.read-high.result
    c.requires.tree (omega arith) c.if-words-span_of.false c.span_of.ensures c.lower_part-lower.ensures.part
    c.upper_part-upper.ensures.part c.read-low.ensures c.read-high.ensures in
    omega (arith, (low_fits_in p).right, c.span_of-half.ensures)

pub find-requires-else-k-low-2 : goal.find-requires-else-k-low-2
find-requires-else-k-low-2 g t c κs within =
    let p : Parts c.args.height c.args.words.now c.lower_part-lower.result.now c.upper_part-upper.result.now
    c.read-low.result c.read-high.result = parts_of c.args.height c.span_of.result c.args.words.now
    c.lower_part-lower.result.now c.upper_part-upper.result.now c.read-low.result c.read-high.result
    c.requires.tree (omega arith) c.if-words-span_of.false c.span_of.ensures c.lower_part-lower.ensures.part
    c.upper_part-upper.ensures.part c.read-low.ensures c.read-high.ensures in (
      omega (arith, p.node.high),
      (
        within,
        (
          omega arith,
          (
            c.upper_part-upper.ensures.sized,
            (
              c.requires.some,
              (high_tree p, high_fits c.args.k p c.requires.fits (omega arith) (omega arith)),
            ),
          ),
        ),
      ),
    )

pub returns-then-k-low-clause-lowest : goal.returns-then-k-low-clause-lowest
returns-then-k-low-clause-lowest g t c =
    let p : Parts c.args.height c.args.words.now c.lower_part-lower.result.now c.upper_part-upper.result.now
    c.read-low.result c.read-high.result = parts_of c.args.height c.span_of.result c.args.words.now
    c.lower_part-lower.result.now c.upper_part-upper.result.now c.read-low.result c.read-high.result
    c.requires.tree (omega arith) c.if-words-span_of.false c.span_of.ensures c.lower_part-lower.ensures.part
    c.upper_part-upper.ensures.part c.read-low.ensures c.read-high.ensures in
    λ pages s. low_lowest c.args.k c.find.result pages p (c.find.ensures.lowest pages (low_shows pages p s))

pub returns-then-k-low-2-clause-lowest : goal.returns-then-k-low-2-clause-lowest
returns-then-k-low-2-clause-lowest g t c =
    let p : Parts c.args.height c.args.words.now c.lower_part-lower.result.now c.upper_part-upper.result.now
    c.read-low.result c.read-high.result = parts_of c.args.height c.span_of.result c.args.words.now
    c.lower_part-lower.result.now c.upper_part-upper.result.now c.read-low.result c.read-high.result
    c.requires.tree (omega arith) c.if-words-span_of.false c.span_of.ensures c.lower_part-lower.ensures.part
    c.upper_part-upper.ensures.part c.read-low.ensures c.read-high.ensures in
    λ pages s. across_lowest c.args.k c.span_of-half.result pages p s c.span_of-half.ensures (omega arith)
    (omega arith)

pub returns-then-k-low-2-clause-within : goal.returns-then-k-low-2-clause-within
returns-then-k-low-2-clause-within g t c =
    let p : Parts c.args.height c.args.words.now c.lower_part-lower.result.now c.upper_part-upper.result.now
    c.read-low.result c.read-high.result = parts_of c.args.height c.span_of.result c.args.words.now
    c.lower_part-lower.result.now c.upper_part-upper.result.now c.read-low.result c.read-high.result
    c.requires.tree (omega arith) c.if-words-span_of.false c.span_of.ensures c.lower_part-lower.ensures.part
    c.upper_part-upper.ensures.part c.read-low.ensures c.read-high.ensures in
    omega (
      arith,
      (low_fits_in p).right,
      (high_fits_in p).left,
      c.span_of-half.ensures,
      span_doubled c.args.height p.node.high,
    )

pub returns-else-k-low-2-clause-lowest : goal.returns-else-k-low-2-clause-lowest
returns-else-k-low-2-clause-lowest g t c =
    let p : Parts c.args.height c.args.words.now c.lower_part-lower.result.now c.upper_part-upper.result.now
    c.read-low.result c.read-high.result = parts_of c.args.height c.span_of.result c.args.words.now
    c.lower_part-lower.result.now c.upper_part-upper.result.now c.read-low.result c.read-high.result
    c.requires.tree (omega arith) c.if-words-span_of.false c.span_of.ensures c.lower_part-lower.ensures.part
    c.upper_part-upper.ensures.part c.read-low.ensures c.read-high.ensures in
    λ pages s. high_lowest c.args.k c.span_of-half.result c.find-else-k-low-2.result pages p s
    c.span_of-half.ensures (omega arith) (omega arith)
    (c.find-else-k-low-2.ensures.lowest _ (high_shows pages p s))
