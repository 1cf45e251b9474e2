-- Marks of a region in which nothing lies.
use Rattle.std.proofs.Common.{◌≡◌, ℕ, ◌+◌, ◌*◌, ◌<◌, ◌≤◌, Bool, true, false, not, List, [], length, replicate, Option}
use Rattle.std.proofs.Common.{Some, None, sym, ap, ◌∙◌, ⊎_elim, arith}
use Rattle.std.specs.Option.{option_map}
use Rattle.std.specs.Prelude.{IsTrue, slice_get, slice_set}
use Rattle.std.proofs.lemmas.Bool.{cases_eq, cases_lt}
use Rattle.std.proofs.lemmas.List.{length-replicate, length-set, get_or-replicate}
use Rattle.std.proofs.lemmas.Option.{slice_get-get_or, slice_get_past}
use Rattle.mm_model.specs.Places.Place.{Family, Objects, Areas}
use Rattle.mm_model.specs.Places.SizeClass.{class_sizes}
use Rattle.mm_model.proofs.Lists.Replaced.{get-set_same, get-set_other}
use Rattle.mm_audit.specs.Bits.{IsMarked}
use Rattle.mm_audit.specs.Places.{PlaceMarks, Tell, KeepsPlaces, IsSetFrom, row_of}
use Rattle.mm_audit.proofs.LowestPlaces.{classes, row-inside}

get-replicate : (n k : ℕ) (x : Bool) → k < n → slice_get (replicate n x) k ≡ Some x
get-replicate n k x below =
    slice_get-get_or (replicate n x) k x (omega (arith, length-replicate {A = Bool} n x))
    ∙ ap (λ (b : Bool). Some b) (get_or-replicate n k x x below)

none-marked : (n k : ℕ) → IsMarked (replicate n false) k → ⊥
none-marked n k marked = ⊎_elim within past (cases_lt k n)
  where
    apart : ◌≡◌ {A = Option Bool} (Some false) (Some true) → ⊥
    apart e = cc

    nothing : ◌≡◌ {A = Option Bool} None (Some true) → ⊥
    nothing e = cc

    within : k < n → ⊥
    within below = apart (sym (get-replicate n k false below) ∙ marked)

    past : n ≤ k → ⊥
    past most =
        nothing
        (sym (slice_get_past (replicate n false) k (omega (arith, length-replicate {A = Bool} n false))) ∙ marked)

row-below : (pages : ℕ) (family : Family) (class page : ℕ) → class < length class_sizes → page < pages
    → row_of pages family class + page < 38 * pages
row-below pages Objects class page known below =
    omega (arith, row-inside pages (2 * class) (omega (arith, classes)))
row-below pages Areas class page known below =
    omega (arith, row-inside pages (2 * class + 1) (omega (arith, classes)))

module _ (pages : ℕ) (some : 2 ≤ pages) (most : pages ≤ 4096) (vacant occupied roomy free taken : List Bool)
    (filled : IsSetFrom (replicate pages false) vacant 1 pages true)
    (first : occupied ≡ slice_set (replicate pages false) 0 true) (no_room : roomy ≡ replicate (38 * pages) false)
    (no_cell : free ≡ replicate (256 * pages) false) (no_piece : taken ≡ replicate (256 * pages) false) where
  abbrev marks : PlaceMarks
  marks = record { pages = pages; vacant = vacant; roomy = roomy; free = free; taken = taken }

  no_page : IsTrue false → ⊥
  no_page e = cc

  pub empty-told : Tell [] marks
  empty-told =
      record {
        placed = record { inside = tt; apart = tt };
        vacant = λ page from below. filled.here page from below;
        roomy = λ family class page known from below.
            ap (λ (row : List Bool). slice_get row (row_of pages family class + page)) no_room
            ∙ get-replicate (38 * pages) (row_of pages family class + page) false
            (row-below pages family class page known below);
        free = λ family extent page grain known of_page at. absurd (no_page of_page);
        only = λ family extent page grain known of_page marked here. absurd (no_page of_page);
        none = λ page not_cells grain marked here.
            none-marked (256 * pages) grain (ap (λ (row : List Bool). slice_get row grain) (sym no_cell) ∙ marked);
        taken = λ grain below.
            ap (λ (row : List Bool). slice_get row grain) no_piece
            ∙ get-replicate (256 * pages) grain false below;
      }

  abbrev row : List Bool
  row = replicate pages false

  others : (page : ℕ) → slice_get occupied page ≡ option_map not (slice_get vacant page)
  others page = ap (λ (row : List Bool). slice_get row page) first ∙ ⊎_elim here there (cases_eq page 0)
    where
      here : page ≡ 0 → slice_get (slice_set row 0 true) page ≡ option_map not (slice_get vacant page)
      here e =
          let was = get-replicate pages 0 false (omega arith) in
          ap (slice_get (slice_set row 0 true)) e ∙ get-set_same row 0 false true was
          ∙ sym (ap (option_map not) (filled.below 0 (omega arith) ∙ was))
          ∙ ap (λ n. option_map not (slice_get vacant n)) (sym e)

      within : 1 ≤ page → page < pages → slice_get row page ≡ option_map not (slice_get vacant page)
      within from below =
          get-replicate pages page false below ∙ sym (ap (option_map not) (filled.here page from below))

      past : pages ≤ page → slice_get row page ≡ option_map not (slice_get vacant page)
      past behind =
          slice_get_past row page (omega (arith, length-replicate {A = Bool} pages false))
          ∙ sym
          (ap (option_map not)
          (slice_get_past vacant page (omega (arith, filled.size, length-replicate {A = Bool} pages false))))

      there : (page ≡ 0 → ⊥) → slice_get (slice_set row 0 true) page ≡ option_map not (slice_get vacant page)
      there other =
          get-set_other row 0 page true other
          ∙ ⊎_elim (λ (below : page < pages). within (omega arith) below) (λ (behind : pages ≤ page). past behind)
          (cases_lt page pages)

  pub empty-kept : KeepsPlaces marks occupied
  empty-kept =
      record {
        some = some;
        most = most;
        each_page = filled.size ∙ length-replicate pages false;
        each_other = ap length first ∙ length-set row 0 true ∙ length-replicate pages false;
        others = others;
        each_class = ap length no_room ∙ length-replicate (38 * pages) false;
        each_grain = ap length no_cell ∙ length-replicate (256 * pages) false;
        each_base = ap length no_piece ∙ length-replicate (256 * pages) false;
      }
