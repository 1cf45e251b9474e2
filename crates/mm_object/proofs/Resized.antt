-- A heap once its memory has more or fewer words.
use Rattle.std.proofs.Common.{◌≡◌, ℕ, ◌+◌, ◌*◌, ◌/◌, ◌<◌, ◌≤◌, List, length, get_or, Option, Some, refl, sym, ap}
use Rattle.std.proofs.Common.{subst, ◌∙◌, arith}
use Rattle.std.specs.Prelude.{slice_get}
use Rattle.std.specs.Option.{option_map}
use Rattle.std.proofs.lemmas.List.{ext_get_or}
use Rattle.mm_object.proofs.Extents.{length-extent_words, extent_words-get}
use Rattle.std.proofs.lemmas.Option.{slice_get-get_or}
use Rattle.mm_model.specs.Views.ByBase as bases
use Rattle.mm_words.specs.Piece.{Piece, Name}
use Rattle.mm_words.specs.Location.{location_of}
use Rattle.mm_cells.specs.Cells.{Taken, Cells, Begins}
use Rattle.mm_object.specs.Object.{StoredObject}
use Rattle.mm_object.specs.Heap.{Heap, EndsBy, IsResized}
use Rattle.mm_object.specs.Kept.{extent_words, object_at, object_told, objects_from, raw_from, heap_of, IsHeaded}
use Rattle.mm_object.specs.Kept.{KeepsHeap}
use Rattle.mm_object.proofs.Objects.{begins-object, objects-alike}
use Rattle.mm_object.proofs.RawWords.{get-raw, kept_raw}

module _ (memory : Piece) (cells : Cells) (kept : KeepsHeap memory cells) (h : Heap) (is : heap_of memory cells ≡ h)
    (news : Piece) (pages : ℕ) (own : news.arena ≡ memory.arena) (place : news.place ≡ memory.place)
    (size : length news.words ≡ 1024 * pages) (two : 2 ≤ pages) (most : pages ≤ cells.pages) (clear : EndsBy h pages)
    (same : (i : ℕ) → i < length memory.words → i < length news.words
    → get_or news.words i 0 ≡ get_or memory.words i 0) where
  whole : length news.words / 1024 ≡ pages
  whole = omega (arith, size)

  ends : (base : ℕ) (cell : Taken) → Begins cells base cell → base + cell.extent ≤ 4096 * pages
  ends base cell begins =
      clear base (object_at memory.words base cell)
      (subst (λ (v : Heap). bases.Begins v.objects base (object_at memory.words base cell)) is
      (begins-object memory.words cells base cell begins))

  -- the words of each cell are there still
  extent-same : (base : ℕ) (cell : Taken) → Begins cells base cell
      → extent_words news.words base cell.extent ≡ extent_words memory.words base cell.extent
  extent-same base cell begins =
      ext_get_or 0 (extent_words news.words base cell.extent) (extent_words memory.words base cell.extent)
      (omega (
        arith,
        length-extent_words news.words base cell.extent,
        length-extent_words memory.words base cell.extent,
        kept.within base cell begins,
        ends base cell begins,
        size,
        begins.aligned,
      ))
      (λ i within.
      let short : i < cell.extent / 4 = omega (arith, length-extent_words news.words base cell.extent) in
      let at = begins.aligned in
      extent_words-get news.words base cell.extent i short
      ∙ same (base / 4 + i) (omega (arith, kept.within base cell begins))
      (omega (arith, size, ends base cell begins))
      ∙ sym (extent_words-get memory.words base cell.extent i short))

  pub resized-kept : KeepsHeap news cells
  resized-kept = record {
    sound = kept.sound;
    whole = omega (arith, size, whole);
    two = omega (arith, whole);
    most = omega (arith, whole);
    within = λ base cell begins. omega (arith, size, ends base cell begins);
    headed = λ base cell begins.
        subst (IsHeaded cell) (sym (extent-same base cell begins)) (kept.headed base cell begins);
  }

  pub resized-heap : IsResized h (heap_of news cells) pages
  resized-heap = record {
    same =
        ap (λ (n : ℕ). record (heap_of news cells) { memory = record (location_of news) { size = n } }) size
        ∙ ap (λ (n : ℕ). record (heap_of news cells) {
          memory = record (location_of news) { size = 1024 * pages };
          size = n;
        }) whole
        ∙ moved
        ∙ ap (λ (os : List (Option StoredObject)). record (heap_of memory cells) {
          memory = record (location_of memory) { size = 1024 * pages };
          size = pages;
          objects = os;
          raw = raw_from cells.taken 0 news.words;
        }) (objects-alike memory.words news.words cells.taken (λ k cell e.
        ap (object_told cell) (extent-same (16 * k) cell (record { grain = k; aligned = refl; is = e }))))
        ∙ ap (λ (v : Heap). record v {
          memory = record v.memory { size = 1024 * pages };
          size = pages;
          raw = raw_from cells.taken 0 news.words;
        }) is;
    kept = λ i before after.
        let short : i < length memory.words =
        subst (λ (v : Heap). i < 1024 * v.size → i < length memory.words) is (λ l. omega (arith, kept.whole)) before in
        let shorter : i < length news.words = omega (arith, size) in
        get-raw cells.taken news.words i
        ∙ ap (λ (x : Option ℕ). option_map (kept_raw cells.taken i) x)
        (slice_get-get_or news.words i 0 shorter ∙ ap Some (same i short shorter)
        ∙ sym (slice_get-get_or memory.words i 0 short))
        ∙ sym (get-raw cells.taken memory.words i) ∙ ap (λ (v : Heap). slice_get v.raw i) is;
  }
    where
      moved : record (heap_of news cells) {
        memory = record (location_of news) { size = 1024 * pages };
        size = pages;
      }
          ≡ record (heap_of memory cells) {
            memory = record (location_of memory) { size = 1024 * pages };
            size = pages;
            objects = objects_from news.words 0 cells.taken;
            raw = raw_from cells.taken 0 news.words;
          }
      moved =
          ap (λ (a : Name). record (heap_of news cells) {
            memory = record { arena = a; start = news.place; size = 1024 * pages };
            size = pages;
          }) own
          ∙ ap (λ (n : ℕ). record (heap_of news cells) {
            memory = record { arena = memory.arena; start = n; size = 1024 * pages };
            size = pages;
          }) place
