use Rattle.std.proofs.Common.{◌≡◌, ℕ, suc, ◌+◌, ◌-◌, ◌*◌, ◌^◌, ◌<◌, ◌≤◌, List, length, take, drop, min, max, Bool}
use Rattle.std.proofs.Common.{arith, sym, ◌∙◌, ap, subst}
use borrow.Rule.Slice.PartMut.{put_mid}
use Rattle.mm_pages.specs.Free.{Marks, beyond, marked}
use Rattle.mm_pages.specs.Tree.{tree_words, lower, upper, Shows, IsTree, HalvesShow}
use Rattle.mm_pages.proofs.Halves.{HalvesShow-put, lower-part, upper-after, TellsRuns-same, length-low, length-upper}
use Rattle.mm_pages.proofs.Marks.{marked-in, marked-low, marked-high}
use Rattle.mm_pages.proofs.Trees.{Shows-uniform, Shows-same, Shows-split, Shows-joined, above_below, span_doubled}
use Rattle.mm_pages.proofs.Trees.{HalvesAreTrees-shown}
use Rattle.mm_pages.proofs.Visits.{high_if_part, MarkVisits-join}
use Rattle.mm_pages.proofs.tree.+mark.Goals as goal

pub returns-then-to-from-clause-shows : goal.returns-then-to-from-clause-shows
returns-then-to-from-clause-shows g t c = λ pages s.
    let span : c.span_of-span.result ≡ 2 ^ c.args.height = c.span_of-span.ensures in
    let after : Marks = marked pages c.args.from c.args.to c.args.free in
    Shows-uniform c.args.height after c.args.free c.write.new.words
    (λ i h. marked-in pages c.args.from c.args.to c.args.free i (omega arith) (omega arith))
    (TellsRuns-same after _ _ _ _ span c.write.ensures.head
    (c.uniform.ensures after (λ i h. marked-in pages c.args.from c.args.to c.args.free i (omega arith)
    (omega arith))))

pub mark-requires : goal.mark-requires
mark-requires g t c κs within =
    let span : c.span_of-span.result ≡ 2 ^ c.args.height = c.span_of-span.ensures in
    let high : 0 < c.args.height = high_if_part c.args.height c.args.from c.args.to (omega arith) (omega arith)
    (λ e. omega arith) in
    let size : length c.push_down.new.words ≡ tree_words (suc (c.args.height - 1)) = c.push_down.auto.words
    ∙ c.requires.sized ∙ ap tree_words (sym (above_below c.args.height high)) in
    let shown : HalvesShow c.requires.tree.free (c.args.height - 1) c.push_down.new.words =
    c.push_down.ensures c.requires.tree.free (Shows-split c.args.height _ _ high c.requires.tree.shows) in
    let tree : IsTree (c.args.height - 1) (take (3 + c.words_of-size.result - 3) (drop 3 c.push_down.new.words)) =
    subst (λ (x : List ℕ). IsTree (c.args.height - 1) x)
    (sym (lower-part (c.args.height - 1) c.words_of-size.result c.push_down.new.words c.words_of-size.ensures))
    (HalvesAreTrees-shown _ _ _ shown).low in (
      omega arith,
      (
        within,
        (
          omega arith,
          (
            length-low (c.args.height - 1) c.words_of-size.result c.push_down.new.words c.words_of-size.ensures size
                ∙ c.words_of-size.ensures,
            (tree, (omega arith, omega (arith, c.span_of-half.ensures))),
          ),
        ),
      ),
    )

pub mark-requires-2 : goal.mark-requires-2
mark-requires-2 g t c κs within =
    let span : c.span_of-span.result ≡ 2 ^ c.args.height = c.span_of-span.ensures in
    let high : 0 < c.args.height = high_if_part c.args.height c.args.from c.args.to (omega arith) (omega arith)
    (λ e. omega arith) in
    let size : length c.push_down.new.words ≡ tree_words (suc (c.args.height - 1)) = c.push_down.auto.words
    ∙ c.requires.sized ∙ ap tree_words (sym (above_below c.args.height high)) in
    let shown : HalvesShow c.requires.tree.free (c.args.height - 1) c.push_down.new.words =
    c.push_down.ensures c.requires.tree.free (Shows-split c.args.height _ _ high c.requires.tree.shows) in
    let part = upper-after (c.args.height - 1) c.words_of-size.result c.push_down.new.words c.mark.new.words
    c.words_of-size.ensures size c.mark.auto.words in
    let tree = subst (λ (x : List ℕ). IsTree (c.args.height - 1) x) (sym part)
    (HalvesAreTrees-shown _ _ _ shown).high in
    let twice : 2 * 2 ^ (c.args.height - 1) ≡ 2 ^ c.args.height = span_doubled c.args.height high in (
      omega arith,
      (
        within,
        (
          omega arith,
          (
            ap length part ∙ length-upper (c.args.height - 1) c.push_down.new.words size,
            (tree, (omega arith, omega (arith, c.span_of-half.ensures))),
          ),
        ),
      ),
    )

-- what the two halves show once both are changed
halves_marked : (height n half from to a b a' b' : ℕ) (value : Bool) (words low high old_low old_high : List ℕ)
    (pages : Marks) →
    n ≡ tree_words height → length words ≡ tree_words (suc height) →
    length low ≡ length (take (3 + n - 3) (drop 3 words)) → half ≡ 2 ^ height →
    from ≤ to → a ≡ min from half → b ≡ min to half → a' ≡ max from half - half → b' ≡ max to half - half →
    old_low ≡ lower height words → old_high ≡ upper height words →
    ((free : Marks) → Shows free height old_low → Shows (marked free a b value) height low) →
    ((free : Marks) → Shows free height old_high → Shows (marked free a' b' value) height high) →
    HalvesShow pages height words →
    HalvesShow (marked pages from to value) height (put_mid (3 + n)
    (length (put_mid 3 (3 + n - 3) words low) - (3 + n)) (put_mid 3 (3 + n - 3) words low) high)
halves_marked height n half from to a b a' b' value words low high old_low old_high pages e s l h o p q p' q' i j f
    g shown =
    let after : Marks = marked pages from to value in
    HalvesShow-put height n words low high after e s l
    (Shows-same height (marked pages a b value) after low
    (λ k w. marked-low pages from to half a b value k o p q (omega arith))
    (f pages (subst (λ (x : List ℕ). Shows pages height x) (sym i) shown.low)))
    (Shows-same height (marked (beyond (2 ^ height) pages) a' b' value) (beyond (2 ^ height) after) high
    (λ k w. subst (λ (x : ℕ). marked (beyond x pages) a' b' value k ≡ beyond x after k) h
    (marked-high pages from to half a' b' value k o p' q' (omega arith)))
    (g (beyond (2 ^ height) pages) (subst (λ (x : List ℕ). Shows (beyond (2 ^ height) pages) height x)
    (sym j) shown.high)))

pub refresh-requires-clause-tree : goal.refresh-requires-clause-tree
refresh-requires-clause-tree g t c =
    let span : c.span_of-span.result ≡ 2 ^ c.args.height = c.span_of-span.ensures in
    let high : 0 < c.args.height = high_if_part c.args.height c.args.from c.args.to (omega arith) (omega arith)
    (λ e. omega arith) in
    let size : length c.push_down.new.words ≡ tree_words (suc (c.args.height - 1)) = c.push_down.auto.words
    ∙ c.requires.sized ∙ ap tree_words (sym (above_below c.args.height high)) in
    let shown : HalvesShow c.requires.tree.free (c.args.height - 1) c.push_down.new.words =
    c.push_down.ensures c.requires.tree.free (Shows-split c.args.height _ _ high c.requires.tree.shows) in
    HalvesAreTrees-shown _ _ _ (halves_marked (c.args.height - 1) c.words_of-size.result c.span_of-half.result
    c.args.from c.args.to _ _ _ _ c.args.free c.push_down.new.words c.mark.new.words c.mark-2.new.words _ _
    c.requires.tree.free c.words_of-size.ensures size c.mark.auto.words c.span_of-half.ensures c.requires.ordered
    c.min.ensures c.min-2.ensures (omega (arith, c.max.ensures)) (omega (arith, c.max-2.ensures))
    (lower-part (c.args.height - 1) c.words_of-size.result c.push_down.new.words c.words_of-size.ensures)
    (upper-after (c.args.height - 1) c.words_of-size.result c.push_down.new.words c.mark.new.words
    c.words_of-size.ensures size c.mark.auto.words)
    c.mark.ensures.shows c.mark-2.ensures.shows shown)

pub returns-clause-shows : goal.returns-clause-shows
returns-clause-shows g t c = λ pages s.
    let span : c.span_of-span.result ≡ 2 ^ c.args.height = c.span_of-span.ensures in
    let high : 0 < c.args.height = high_if_part c.args.height c.args.from c.args.to (omega arith) (omega arith)
    (λ e. omega arith) in
    let size : length c.push_down.new.words ≡ tree_words (suc (c.args.height - 1)) = c.push_down.auto.words
    ∙ c.requires.sized ∙ ap tree_words (sym (above_below c.args.height high)) in
    Shows-joined c.args.height (marked pages c.args.from c.args.to c.args.free) c.refresh.new.words high
    (c.refresh.ensures (marked pages c.args.from c.args.to c.args.free)
    (halves_marked (c.args.height - 1) c.words_of-size.result c.span_of-half.result c.args.from c.args.to _ _ _ _
    c.args.free c.push_down.new.words c.mark.new.words c.mark-2.new.words _ _
    pages c.words_of-size.ensures size c.mark.auto.words c.span_of-half.ensures c.requires.ordered
    c.min.ensures c.min-2.ensures (omega (arith, c.max.ensures)) (omega (arith, c.max-2.ensures))
    (lower-part (c.args.height - 1) c.words_of-size.result c.push_down.new.words c.words_of-size.ensures)
    (upper-after (c.args.height - 1) c.words_of-size.result c.push_down.new.words c.mark.new.words
    c.words_of-size.ensures size c.mark.auto.words)
    c.mark.ensures.shows c.mark-2.ensures.shows (c.push_down.ensures pages
    (Shows-split c.args.height pages _ high s))))

pub returns-clause-visits : goal.returns-clause-visits
returns-clause-visits g t c =
    let span : c.span_of-span.result ≡ 2 ^ c.args.height = c.span_of-span.ensures in
    let part : c.args.to - c.args.from ≡ 2 ^ c.args.height → ⊥ = λ e. omega arith in
    let high : 0 < c.args.height = high_if_part c.args.height c.args.from c.args.to (omega arith)
    (omega arith) part in
    MarkVisits-join c.args.height (c.args.height - 1) c.span_of-half.result c.args.from c.args.to _ _ _ _ _ _ _ _
    (omega arith) c.span_of-half.ensures (omega (
      arith,
      c.span_of-half.ensures,
      span_doubled c.args.height high,
    )) (omega arith) (omega arith) part
    c.min.ensures c.min-2.ensures (omega (arith, c.max.ensures))
    (omega (arith, c.max-2.ensures)) c.tick.ensures c.mark.ensures.visits c.mark-2.ensures.visits
