-- What the words of an extent tell of an object, as one of them changes.
use Rattle.std.proofs.Common.{◌≡◌, ℕ, suc, ◌+◌, ◌<◌, ◌≤◌, List, [], ◌∷◌, length, refl, ap, ◌∙◌, arith}
use Rattle.std.specs.Prelude.{slice_set, set}
use Rattle.std.proofs.Math.Seq.{take-set-lt}
use Rattle.mm_cells.specs.Cells.{Taken}
use Rattle.mm_object.specs.Header.{shape_in}
use Rattle.mm_object.specs.Kept.{shape_told, object_told, IsHeaded}

-- a word behind the first two
pub headed-set : (cell : Taken) (words : List ℕ) (i word : ℕ) → IsHeaded cell words
    → IsHeaded cell (set words (suc (suc i)) word)
headed-set cell [] i word h = h
headed-set cell (a ∷ []) i word h = h
headed-set cell (a ∷ b ∷ rest) i word h =
    record {
      shape = h.shape;
      first = h.first;
      second = h.second;
      extent = h.extent;
      room = h.room;
      flags = h.flags;
    }

pub told-link : (cell : Taken) (words : List ℕ) (word : ℕ) → 4 ≤ length words
    → object_told cell (set words 2 word) ≡ record (object_told cell words) { link = word }
told-link cell [] word h = absurd (omega arith)
told-link cell (a ∷ []) word h = absurd (omega arith)
told-link cell (a ∷ b ∷ []) word h = absurd (omega arith)
told-link cell (a ∷ b ∷ c ∷ rest) word h = refl

pub told-composite : (cell : Taken) (words : List ℕ) (word : ℕ) → 4 ≤ length words
    → object_told cell (set words 3 word) ≡ record (object_told cell words) { composite = word }
told-composite cell [] word h = absurd (omega arith)
told-composite cell (a ∷ []) word h = absurd (omega arith)
told-composite cell (a ∷ b ∷ []) word h = absurd (omega arith)
told-composite cell (a ∷ b ∷ c ∷ []) word h = absurd (omega arith)
told-composite cell (a ∷ b ∷ c ∷ d ∷ rest) word h = refl

pub told-slot : (cell : Taken) (words : List ℕ) (s word : ℕ) → 4 ≤ length words → s < (shape_told words).slots
    → object_told cell (set words (4 + s) word)
    ≡ record (object_told cell words) { words = slice_set (object_told cell words).words s word }
told-slot cell [] s word h within = absurd (omega arith)
told-slot cell (a ∷ []) s word h within = absurd (omega arith)
told-slot cell (a ∷ b ∷ []) s word h within = absurd (omega arith)
told-slot cell (a ∷ b ∷ c ∷ []) s word h within = absurd (omega arith)
told-slot cell (a ∷ b ∷ c ∷ d ∷ rest) s word h within =
    let at : 4 + s ≡ suc (suc (suc (suc s))) = omega arith in
    ap (λ (n : ℕ). object_told cell (set (a ∷ b ∷ c ∷ d ∷ rest) n word)) at
    ∙ ap (λ (ws : List ℕ). record (object_told cell (a ∷ b ∷ c ∷ d ∷ rest)) { words = ws })
    (take-set-lt (shape_in a b).slots rest s word within)
