-- A table whose uses and sets are zeros is one of unused pages.
use Rattle.std.proofs.Common.{◌≡◌, ℕ, ◌+◌, ◌*◌, ◌<◌, ◌≤◌, List, length, take, drop}
use Rattle.std.proofs.Common.{◌-◌, sym, ap, subst, ◌∙◌, refl, arith}
use Rattle.std.proofs.lemmas.List.{drop-take, take-take, take-replicate, drop-replicate}
use Rattle.mm_words.specs.Piece.{Piece, with_words}
use Rattle.mm_words.specs.Location.{location_of}
use Rattle.mm_words.specs.Writes.{written}
use Rattle.mm_sets.specs.Set.{set_size, members, IsSet}
use Rattle.mm_sets.proofs.Zeros.{zeros, length-zeros, get_or-zeros, members-zeros, IsSet-zeros}
use Rattle.mm_words.proofs.Writes.{length-written, take-written, drop-written}
use Rattle.mm_cells.specs.Map.{map_of, room_set, table_size, FitsTable, IsUntouched}
use Rattle.mm_cells.specs.Uses.{use_of, meant, use_in}
use Rattle.mm_cells.proofs.Tables.Rooms.{set_within}

-- a run of a list that begins with zeros
range-zeros : (total from n : ℕ) (xs : List ℕ) → take total xs ≡ zeros total → from + n ≤ total →
    take n (drop from xs) ≡ zeros n
range-zeros total from n xs all within =
    let left : from + n - from ≡ n = omega arith in
    sym (drop-take from n xs)
    ∙ ap (λ (x : List ℕ). drop from x) (sym (take-take (from + n) total xs within))
    ∙ ap (λ (x : List ℕ). drop from (take (from + n) x)) all
    ∙ ap (λ (x : List ℕ). drop from x) (take-replicate (from + n) total 0 within)
    ∙ drop-replicate from (from + n) 0
    ∙ ap (λ k. zeros k) left

-- the uses and the sets are zeros
pub record IsZeroed (pages : ℕ) (words : List ℕ) : Type 0 where
  pub uses : take pages words ≡ zeros pages
  pub rooms : take (19 * set_size pages) (drop (33 * pages) words) ≡ zeros (19 * set_size pages)

-- so they are once they were filled
pub filled : ℕ → List ℕ → List ℕ
filled pages words = written (33 * pages) (zeros (19 * set_size pages)) (written 0 (zeros pages) words)

pub length-filled : (pages : ℕ) (words : List ℕ) → table_size pages ≤ length words →
    length (filled pages words) ≡ length words
unfolding filled
length-filled pages words room =
    let uses = length-zeros pages in
    let rooms = length-zeros (19 * set_size pages) in
    let some : 0 + length (zeros pages) ≤ length words = omega arith in
    let size : length (written 0 (zeros pages) words) ≡ length words = length-written 0 (zeros pages) words in
    length-written (33 * pages) (zeros (19 * set_size pages)) (written 0 (zeros pages) words) ∙ size

pub IsZeroed-filled : (pages : ℕ) (words : List ℕ) → table_size pages ≤ length words →
    IsZeroed pages (filled pages words)
unfolding filled
IsZeroed-filled pages words room =
    let uses = length-zeros pages in
    let rooms = length-zeros (19 * set_size pages) in
    let inner = written 0 (zeros pages) words in
    let some : 0 + length (zeros pages) ≤ length words = omega arith in
    let size : length inner ≡ length words = length-written 0 (zeros pages) words in
    let fits : 33 * pages + length (zeros (19 * set_size pages)) ≤ length inner = omega arith in
    record {
      uses = take-written (33 * pages) (zeros (19 * set_size pages)) inner fits pages (omega arith)
          ∙ ap (λ n. take n inner) (sym uses)
          ∙ drop-written 0 (zeros pages) words some;
      rooms = ap (λ n. take n (drop (33 * pages) (written (33 * pages) (zeros (19 * set_size pages)) inner)))
          (sym rooms)
          ∙ drop-written (33 * pages) (zeros (19 * set_size pages)) inner fits;
    }

-- the piece with so many zeros from a place on
abbrev with_zeros : Piece → ℕ → ℕ → Piece
with_zeros p start len = with_words p (written start (zeros len) p.words)

-- what the two fills make of a piece
pub filled-piece : (p first second : Piece) (pages : ℕ) {uses_start uses_len sets_start sets_len : ℕ} →
    uses_start ≡ 0 → uses_len ≡ pages → sets_start ≡ 33 * pages → sets_len ≡ 19 * set_size pages →
    first ≡ with_zeros p uses_start uses_len → second ≡ with_zeros first sets_start sets_len →
    second ≡ with_words p (filled pages p.words)
unfolding filled
filled-piece p first second pages {uses_start} {uses_len} {sets_start} {sets_len} from n start len uses rooms =
    let once : first ≡ with_zeros p 0 pages =
    uses ∙ ap (λ k. with_zeros p k uses_len) from ∙ ap (λ k. with_zeros p 0 k) n in
    rooms ∙ ap (λ k. with_zeros first k sets_len) start ∙ ap (λ k. with_zeros first (33 * pages) k) len
    ∙ ap (λ (q : Piece). with_zeros q (33 * pages) (19 * set_size pages)) once

room_set-zeroed : (p : Piece) (pages class : ℕ) → IsZeroed pages p.words → class < 19 →
    room_set (map_of p pages) class ≡ zeros (set_size pages)
room_set-zeroed p pages class zeroed small =
    range-zeros (19 * set_size pages) (class * set_size pages) (set_size pages) (drop (33 * pages) p.words) zeroed.rooms
    (omega (arith, set_within pages class (set_size pages) small))

pub FitsTable-filled : (p : Piece) (pages : ℕ) → 2 ≤ pages → pages ≤ 4096 → table_size pages ≤ length p.words →
    FitsTable (with_words p (filled pages p.words)) pages
FitsTable-filled p pages two most room =
    let zeroed = IsZeroed-filled pages p.words room in
    record {
      two = two;
      most = most;
      room = omega (arith, length-filled pages p.words room);
      sets = λ class small. subst (λ (s : List ℕ). IsSet pages s)
          (sym (room_set-zeroed (with_words p (filled pages p.words)) pages class zeroed small))
          (IsSet-zeros pages most);
    }

pub IsUntouched-filled : (p : Piece) (pages : ℕ) → table_size pages ≤ length p.words →
    IsUntouched (location_of p) pages (map_of (with_words p (filled pages p.words)) pages)
IsUntouched-filled p pages room =
    let zeroed = IsZeroed-filled pages p.words room in
    record {
      same_location = ap (λ n. record { arena = p.arena; start = p.place; size = n })
          (length-filled pages p.words room);
      same_pages = refl;
      unused = λ page.
          ap (λ (s : List ℕ). use_in s page) zeroed.uses
          ∙ ap (λ (code : ℕ). meant (zeros pages) page (use_of code)) (get_or-zeros pages page);
      no_room = λ class page small within.
          ap (λ (s : List ℕ). members s page)
          (room_set-zeroed (with_words p (filled pages p.words)) pages class zeroed small)
          ∙ members-zeros (set_size pages) page;
    }
