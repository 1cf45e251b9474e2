-- The object that a cell means, which has the slots that are asked for.
use Rattle.std.proofs.Common.{◌≡◌, ℕ, ◌+◌, ◌^◌, ◌<◌, ◌≤◌, true, false, subst, arith}
use Rattle.std.proofs.lemmas.Bool.Decides.{nat_tests}
use Rattle.std.specs.Prelude.{nat_le}
use Rattle.mm_model.specs.declared.object.Shape.{Shape}
use Rattle.mm_model.specs.Object.{is_scanned}
use Rattle.mm_object.specs.declared.heap.Found.{Found}
use Rattle.mm_gc.specs.BareWords.{IsBareAt}
use Rattle.mm_gc.specs.Gc.{Gc}
use Rattle.mm_gc.specs.Refused.{IsMeant}

within : (n slots : ℕ) → nat_le n slots ≡ true → n ≤ slots
within n slots has = grind (arith, nat_tests)

pub bare-at : (gc : Gc) (i word : ℕ) (found : Found) → IsMeant gc i word found → (s count : ℕ)
    → is_scanned found.shape.kind ≡ false → nat_le (s + count) found.shape.slots ≡ true → s + count < 2 ^ 32
    → IsBareAt gc i s count found.base
bare-at gc i word found m s count raw has small =
    let fits = subst (λ (shape : Shape). s + count ≤ shape.slots) m.shape
    (within (s + count) found.shape.slots has) in
    record {
      slots = record { object = m.object; begins = m.begins; within = fits; small = small };
      bare = record {
        meant = m.meant;
        raw = subst (λ (shape : Shape). is_scanned shape.kind ≡ false) m.shape raw;
        within = fits;
      };
    }
