-- The words of the scanned areas, one area after the other.
use Rattle.std.proofs.Common.{◌≡◌, ℕ, ◌+◌, ◌-◌, ◌<◌, Bool, false, List, [], ◌++◌, length, Option, Some, None}
use Rattle.std.proofs.Common.{get_or, refl, ap, ◌∙◌, arith}
use Rattle.std.specs.Prelude.{if◌then◌else◌}
use Rattle.mm_roots.specs.declared.area_shape.AreaShape.{AreaShape}
use Rattle.mm_roots.specs.Areas.{Areas}
use Rattle.mm_roots.specs.Kept.{NoneScannedFrom, IsNextScanned}
use Rattle.mm_roots.specs.Views.{area_words, scanned_words_from}
use Rattle.mm_roots.proofs.Views.{scanned_entry, scanned_from-next, scanned_from-skip, scanned_from-end}

-- an entry that isn't a scanned area has no words
entry-none : (raw : List (Option ℕ)) (entry : Option AreaShape) →
    ((area : AreaShape) → entry ≡ Some area → area.scanned ≡ false) → scanned_entry raw entry ≡ []
entry-none raw None none = refl
entry-none raw (Some area) none =
    ap (λ (b : Bool). if b then area_words raw area else []) (none area refl)

pub scanned-none : (a : Areas) (raw : List (Option ℕ)) (from : ℕ) → NoneScannedFrom a.areas from →
    scanned_words_from a raw from ≡ []
scanned-none a raw from none =
    scanned_from-skip raw a.areas from (length a.areas) (from + length a.areas) refl
    (λ number reached below. entry-none raw (get_or a.areas number None) (λ area. none number area reached))
    ∙ scanned_from-end raw a.areas (from + length a.areas) (omega arith)

pub scanned-next : (a : Areas) (raw : List (Option ℕ)) (from number : ℕ) (next : IsNextScanned a.areas from number) →
    number < length a.areas →
    scanned_words_from a raw from ≡ area_words raw next.area ++ scanned_words_from a raw (number + 1)
scanned-next a raw from number next within =
    let reached = next.reached in
    scanned_from-skip raw a.areas from (number - from) number (omega arith)
    (λ lower low below. entry-none raw (get_or a.areas lower None) (λ area. next.least lower area low below))
    ∙ scanned_from-next raw a.areas number within
    ∙ ap (λ (entry : Option AreaShape). scanned_entry raw entry ++ scanned_words_from a raw (number + 1)) next.lives
    ∙ ap (λ (b : Bool). (if b then area_words raw next.area else []) ++ scanned_words_from a raw (number + 1))
    next.scanned
