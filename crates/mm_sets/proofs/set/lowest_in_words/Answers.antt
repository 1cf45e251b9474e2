use Rattle.std.proofs.Common.{◌*◌, ◌+◌, ℕ, arith, subst, sym}
use Rattle.mm_sets.specs.Set.{IsLowestFrom}
use Rattle.mm_sets.proofs.Sets.{IsEmptyFrom-summary, IsLowestFrom-place}
use Rattle.mm_sets.proofs.set.lowest_in_words.Goals as goal

pub returns-in-None : goal.returns-in-None
returns-in-None c = λ limit s. IsEmptyFrom-summary limit c.args.set.now c.args.start s c.in-None.ensures

pub returns-in-Some : goal.returns-in-Some
returns-in-Some c = λ limit s.
    subst (λ (n : ℕ). IsLowestFrom (32 * c.args.start) limit c.args.set.now n) (sym c.lowest_in.ensures)
    (IsLowestFrom-place limit c.args.set.now c.args.start c.in-Some.place s c.in-Some.ensures
    (omega (arith, c.type_inv.set (4 + c.in-Some.place))))
