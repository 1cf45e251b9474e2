use Rattle.std.proofs.Common.{◌≡◌, ℕ, suc, ◌+◌, ◌-◌, ◌^◌, ◌<◌, ◌≤◌, true, nat_lt, List, length, take, drop, refl}
use Rattle.std.proofs.Common.{rules, arith, sym, ◌∙◌, ap, subst}
use Rattle.std.proofs.lemmas.Nat.{pow_pos}
use Rattle.std.proofs.Math.Nat.{pow-suc}
use Rattle.std.proofs.lemmas.Bool.{lt-ltb}
use borrow.Rule.Slice.PartMut.{put_mid}
use Rattle.mm_pages.specs.Free.{Marks, beyond, IsFreeButFirst}
use Rattle.mm_pages.specs.Tree.{tree_words, upper, Shows, HalvesShow}
use Rattle.mm_pages.proofs.Halves.{HalvesShow-put_low, tree_words-suc}
use Rattle.mm_pages.proofs.Trees.{Shows-joined, above_below, HalvesAreTrees-shown, Shows-same}
use Rattle.mm_pages.proofs.tree.+plant.Goals as goal

-- the pages of which the first alone is taken
but_first : Marks
but_first i = nat_lt 0 i

but_first_is : (span : ℕ) → IsFreeButFirst but_first span
unfolding but_first
but_first_is span = record { first = refl; others = λ i a b. lt-ltb 0 i a }

planted : (height n : ℕ) (words low : List ℕ) (pages all : Marks) → n ≡ tree_words height →
    length words ≡ tree_words (suc height) → length low ≡ length (take (3 + n - 3) (drop 3 words)) →
    ((p : Marks) → IsFreeButFirst p (2 ^ height) → Shows p height low) →
    ((p : Marks) → ((i : ℕ) → i < 2 ^ suc height → p i ≡ true) → HalvesShow p height words) →
    IsFreeButFirst pages (2 ^ suc height) → 2 ^ suc height ≡ 2 ^ height + 2 ^ height → ((i : ℕ) → all i ≡ true) →
    HalvesShow pages height (put_mid 3 (3 + n - 3) words low)
planted height n words low pages all e s l f g but twice each =
    let some : 0 < 2 ^ height = pow_pos height in
    HalvesShow-put_low height n words low pages e s l
    (f pages (record { first = but.first; others = λ i a b. but.others i a (omega arith) }))
    (Shows-same height (beyond (2 ^ height) all) (beyond (2 ^ height) pages) (upper height words)
    (λ i h. each (2 ^ height + i) ∙ sym (but.others (2 ^ height + i) (omega arith) (omega arith)))
    (g all (λ i h. each i)).high)

all_free : Marks
all_free i = true

all_free_is : (i : ℕ) → all_free i ≡ true
unfolding all_free
all_free_is i = refl

pub refresh-requires-clause-tree : goal.refresh-requires-clause-tree
refresh-requires-clause-tree t c =
    let high : 0 < c.args.height = omega arith in
    let size : length c.paint_halves.new.words ≡ tree_words (suc (c.args.height - 1)) = c.paint_halves.auto.words
    ∙ c.requires.sized ∙ ap tree_words (sym (above_below c.args.height high)) in
    HalvesAreTrees-shown but_first _ _ (planted (c.args.height - 1) c.words_of.result c.paint_halves.new.words
    c.plant.new.words but_first all_free c.words_of.ensures size c.plant.auto.words
    c.plant.ensures c.paint_halves.ensures (but_first_is _)
    (omega (arith, pow-suc 2 (c.args.height - 1))) all_free_is)

pub returns : goal.returns
returns t c = λ pages but.
    let high : 0 < c.args.height = omega arith in
    let size : length c.paint_halves.new.words ≡ tree_words (suc (c.args.height - 1)) = c.paint_halves.auto.words
    ∙ c.requires.sized ∙ ap tree_words (sym (above_below c.args.height high)) in
    let but' : IsFreeButFirst pages (2 ^ suc (c.args.height - 1)) =
    subst (λ (x : ℕ). IsFreeButFirst pages (2 ^ x)) (sym (above_below c.args.height high)) but in
    Shows-joined c.args.height pages c.refresh.new.words high
    (c.refresh.ensures pages (planted (c.args.height - 1) c.words_of.result c.paint_halves.new.words
    c.plant.new.words pages all_free c.words_of.ensures size c.plant.auto.words
    c.plant.ensures c.paint_halves.ensures but' (omega (arith, pow-suc 2 (c.args.height - 1))) all_free_is))

pub slice_bounds-plant-end : goal.slice_bounds-plant-end
slice_bounds-plant-end t c =
    let size : length c.paint_halves.new.words ≡ tree_words (suc (c.args.height - 1)) = c.paint_halves.auto.words
    ∙ c.requires.sized ∙ ap tree_words (sym (above_below c.args.height (omega arith))) in
    let reach : 3 + c.words_of.result ≤ length c.paint_halves.new.words =
    omega (arith, c.words_of.ensures, tree_words-suc (c.args.height - 1)) in
    search rules
