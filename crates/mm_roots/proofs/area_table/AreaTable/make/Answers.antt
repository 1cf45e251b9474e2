use Rattle.std.proofs.Common.{◌≡◌, ◌≤◌, ℕ, List, length, ap, ◌∙◌, arith}
use Rattle.mm_words.specs.Location.{location_of}
use Rattle.mm_words.specs.Writes.{written}
use Rattle.mm_words.proofs.Writes.{length-written}
use Rattle.mm_roots.specs.Kept.{set_part}
use Rattle.mm_roots.proofs.Tables.{length-set_part}
use Rattle.mm_roots.proofs.Changes.{made-areas, made-keeps}
use Rattle.mm_roots.proofs.area_table.AreaTable.make.Goals as goal

-- the words of each set, as they are lent
none_lent : (words part : List ℕ) → 4096 ≤ length words → part ≡ set_part words 36 → length part ≡ 36
none_lent words part room is = ap length is ∙ length-set_part words 36 (omega arith)

all_lent : (words none part : List ℕ) → 4096 ≤ length words → part ≡ set_part (written 36 none words) 0
    → length part ≡ 36
all_lent words none part room is =
    ap length is ∙ length-set_part (written 36 none words) 0 (omega (arith, length-written 36 none words))

pub clear-requires-clause-room : goal.clear-requires-clause-room
clear-requires-clause-room c =
    let size = none_lent c.args.words.words c.part_mut.result.now c.requires c.part_mut.ensures.value in
    omega (arith, size)

pub fill_set-requires : goal.fill_set-requires
fill_set-requires c =
    all_lent c.args.words.words c.clear.new.set c.part_mut-2.result.now c.requires c.part_mut-2.ensures.value

pub invariant_of-result : goal.invariant_of-result
invariant_of-result c =
    let words = c.args.words.words in
    let none = c.clear.new.set in
    made-keeps words none c.fill_set.new.set c.requires
    (c.clear.auto.set ∙ none_lent words c.part_mut.result.now c.requires c.part_mut.ensures.value)
    (c.fill_set.auto.set ∙ all_lent words none c.part_mut-2.result.now c.requires c.part_mut-2.ensures.value)
    c.fill_set.ensures.full c.args.words c.fill_set.ensures.set c.clear.ensures.set c.clear.ensures.empty

pub returns-clause-location : goal.returns-clause-location
returns-clause-location c =
    let words = c.args.words.words in
    let first = written 36 c.clear.new.set words in
    ap (λ n. record (location_of c.args.words) { size = n })
    (length-written 0 c.fill_set.new.set first ∙ length-written 36 c.clear.new.set words)

pub returns-clause-areas : goal.returns-clause-areas
returns-clause-areas c =
    let words = c.args.words.words in
    let none = c.clear.new.set in
    made-areas words none c.fill_set.new.set c.requires
    (c.clear.auto.set ∙ none_lent words c.part_mut.result.now c.requires c.part_mut.ensures.value)
    (c.fill_set.auto.set ∙ all_lent words none c.part_mut-2.result.now c.requires c.part_mut-2.ensures.value)
    c.fill_set.ensures.full
