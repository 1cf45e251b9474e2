-- A table after one of its words was written.
use Rattle.std.proofs.Common.{◌≡◌, ℕ, ◌+◌, ◌-◌, ◌*◌, ◌<◌, ◌≤◌, List, length, take, drop, slice_range, set}
use Rattle.std.proofs.Common.{arith, sym, ◌∙◌, ap}
use Rattle.std.proofs.lemmas.List.{length-set, drop-set-lt, drop-set-add, take-set-le, length-drop}
use Rattle.std.proofs.lemmas.List.{length-take-le}
use Rattle.std.proofs.lemmas.List.{drop-take}
use Rattle.std.proofs.Math.Seq.{take-set-lt}
use Rattle.mm_words.specs.Piece.{Piece, with_words}
use Rattle.mm_words.specs.Writes.{written}
use Rattle.mm_words.proofs.Writes.{length-written, take-written}
use Rattle.mm_pages.specs.Tree.{tree_words}
use Rattle.mm_pages.specs.Entries.{entries_of, FitsIn}

pub entries-set_out : (p : Piece) (pages height page n : ℕ) → page < pages → FitsIn p pages height →
    entries_of (with_words p (set p.words page n)) pages height ≡ record
    (entries_of p pages height) { out = set (take pages p.words) page n }
entries-set_out p pages height page n h f =
    let size : length (set p.words page n) ≡ length p.words = length-set p.words page n in
    let out : take pages (set p.words page n) ≡ set (take pages p.words) page n =
    take-set-lt pages p.words page n h in
    let parked : drop pages (set p.words page n) ≡ drop pages p.words = drop-set-lt pages p.words page n h in
    let rest : drop (2 * pages) (set p.words page n) ≡ drop (2 * pages) p.words =
    drop-set-lt (2 * pages) p.words page n (omega arith) in
    cc

pub entries-set_parked : (p : Piece) (pages height page n : ℕ) → page < pages → FitsIn p pages height →
    entries_of (with_words p (set p.words (pages + page) n)) pages height ≡ record
    (entries_of p pages height) { parked = set (take pages (drop pages p.words)) page n }
entries-set_parked p pages height page n h f =
    let size : length (set p.words (pages + page) n) ≡ length p.words = length-set p.words (pages + page) n in
    let out : take pages (set p.words (pages + page) n) ≡ take pages p.words =
    take-set-le pages p.words (pages + page) n (omega arith) in
    let parked : drop pages (set p.words (pages + page) n) ≡ set (drop pages p.words) page n =
    drop-set-add pages p.words page n in
    let part : take pages (set (drop pages p.words) page n) ≡ set (take pages (drop pages p.words)) page n =
    take-set-lt pages (drop pages p.words) page n h in
    let rest : drop (2 * pages) (set p.words (pages + page) n) ≡ drop (2 * pages) p.words =
    drop-set-lt (2 * pages) p.words (pages + page) n (omega arith) in
    cc

pub entries-tree : (p : Piece) (pages height : ℕ) (ws : List ℕ) → 2 * pages + length ws ≤ length p.words →
    entries_of (with_words p (written (2 * pages) ws p.words)) pages height
    ≡ record (entries_of p pages height) {
      tree = take (tree_words height)
          (drop (2 * pages) (written (2 * pages) ws p.words));
    }
entries-tree p pages height ws h =
    let size : length (written (2 * pages) ws p.words) ≡ length p.words = length-written (2 * pages) ws p.words in
    let out : take pages (written (2 * pages) ws p.words) ≡ take pages p.words =
    take-written (2 * pages) ws p.words h pages (omega arith) in
    let double : pages + pages ≡ 2 * pages = omega arith in
    let both : take (pages + pages) (written (2 * pages) ws p.words) ≡ take (pages + pages) p.words =
    take-written (2 * pages) ws p.words h (pages + pages) (omega arith) in
    let parked : take pages (drop pages (written (2 * pages) ws p.words)) ≡ take pages (drop pages p.words) =
    sym (drop-take pages pages (written (2 * pages) ws p.words)) ∙ ap (λ (x : List ℕ). drop pages x) both
    ∙ drop-take pages pages p.words in
    cc

pub length-part : (from n : ℕ) (xs : List ℕ) → from + n ≤ length xs → length (slice_range xs from (from + n)) ≡ n
length-part from n xs h = length-take-le (from + n - from) (drop from xs) (omega (arith, length-drop from xs))
    ∙ omega arith
