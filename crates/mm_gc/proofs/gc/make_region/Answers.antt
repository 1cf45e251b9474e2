-- Nothing lies in the region.
use Rattle.std.proofs.Common.{◌≡◌, ◌-◌, ◌*◌, ℕ, length, replicate, List, None, refl, sym, ap, ◌∙◌, subst, arith}
use Rattle.std.specs.Prelude.{slice_index}
use Rattle.mm_model.specs.Views.ByBase.{Begins}
use Rattle.mm_model.specs.Areas.{most_areas}
use Rattle.std.proofs.lemmas.List.{length-replicate}
use Rattle.mm_words.specs.Piece as pieces
use Rattle.mm_words.specs.Location.{Location}
use Rattle.mm_pages.specs.Pages.{Pages, Covers}
use Rattle.mm_pages.specs.Parked.{AreParked}
use Rattle.mm_cells.specs.Cells as cells
use Rattle.mm_cells.specs.Cells.{Cells}
use Rattle.mm_fixed.specs.Fixed.{Fixed}
use Rattle.mm_fixed.proofs.Left.{index-zeros}
use Rattle.mm_object.specs.Heap.{Heap}
use Rattle.mm_roots.specs.Areas.{Areas}
use Rattle.mm_gc.proofs.Starting.{nothing-begins, zeros-cover, cut, cut-from, pages_needed-none}
use Rattle.mm_gc.proofs.gc.make_region.Goals as goal

pub make-heap-requires-clause-empty : goal.make-heap-requires-clause-empty
make-heap-requires-clause-empty c = λ base cell begins.
    let none = subst (λ (v : Cells). cells.Begins v base cell) c.make-cells.ensures.value begins in
    nothing-begins (256 * c.args.most) base cell
    (record { grain = none.grain; aligned = none.aligned; is = none.is })

pub set_limit-requires-clause-clear : goal.set_limit-requires-clause-clear
set_limit-requires-clause-clear c = record {
  out = λ page covers. absurd (zeros-cover c.args.most page
      (subst (λ (v : Pages). Covers v.out page) c.make-pages.ensures.value covers));
  parked = λ page covers. absurd (zeros-cover c.args.most page
      (subst (λ (v : Pages). Covers v.parked page) c.make-pages.ensures.value covers));
}

pub returns : goal.returns
returns c =
    let first = cut c.args.arena c.carve.new.self _ c.carve.ensures.arena in
    let second = cut c.carve.new.self c.carve-2.new.self _ c.carve-2.ensures.arena in
    let third = cut c.carve-2.new.self c.carve-3.new.self _ c.carve-3.ensures.arena in
    let fourth = cut c.carve-3.new.self c.carve-4.new.self _ c.carve-4.ensures.arena in
    let last = cut c.carve-4.new.self c.carve-5.new.self _ c.carve-5.ensures.arena in
    let words = ap (λ (p : pieces.Piece). length p.words) c.carve-5.ensures.piece
    ∙ length-replicate (1024 * c.args.least) 0 in
    let pages = c.set_limit.ensures.limit
    ∙ ap (λ (v : Pages). record v { limit = c.args.least }) c.make-pages.ensures.value in
    let count : c.set_limit.new.self.pages ≡ c.args.most = ap (λ (v : Pages). v.pages) pages in
    let limit : c.set_limit.new.self.limit ≡ c.args.least = ap (λ (v : Pages). v.limit) pages in
    let heap = c.make-heap.ensures.value in
    let areas = c.make-areas.ensures.value in
    let fixed : c.make-areas.result.fixed ≡ c.make-fixed.result = ap (λ (a : Areas). a.fixed) areas in
    let size : c.make-heap.result.size ≡ c.args.least =
    ap (λ (h : Heap). h.size) heap ∙ omega (arith, words) in
    let runs : c.make-heap.result.runs ≡ c.make-cells.result.runs = ap (λ (h : Heap). h.runs) heap in
    let none : (page : ℕ) → slice_index c.make-heap.result.runs page ≡ 0 =
    λ page.
    ap (λ (rs : List ℕ). slice_index rs page) runs
    ∙ ap (λ (v : Cells). slice_index v.runs page) c.make-cells.ensures.value ∙ index-zeros c.args.most page in
    let none_fixed : (page : ℕ) → slice_index c.make-areas.result.fixed.runs page ≡ 0 =
    λ page.
    ap (λ (v : Fixed). slice_index v.runs page) fixed
    ∙ ap (λ (v : Fixed). slice_index v.runs page) c.make-fixed.ensures.value ∙ index-zeros c.args.most page in
    let objects : c.make-heap.result.objects ≡ replicate (256 * c.args.most) None =
    ap (λ (h : Heap). h.objects) heap
    ∙ ap (λ (v : Cells). replicate (256 * v.pages) None) c.make-cells.ensures.value in
    let free : c.make-areas.result.areas ≡ replicate most_areas None = ap (λ (a : Areas). a.areas) areas in
    let named : c.carve-5.new.self.name ≡ c.args.arena.name =
    last.name ∙ fourth.name ∙ third.name ∙ second.name ∙ first.name in
    let at : c.carve-5.result.place ≡ c.carve-4.new.self.total - c.carve-4.new.self.spare =
    ap (λ (p : pieces.Piece). p.place) c.carve-5.ensures.piece in
    let memory = ap (λ (h : Heap). h.memory) heap in
    let table = cut-from c.args.arena c.table_words.result c.set_limit.new.self.table c.carve.result
    (ap (λ (v : Pages). v.table) pages) c.carve.ensures.piece in
    let cells_table = cut-from c.carve.new.self c.cells_words.result c.make-heap.result.table c.carve-2.result
    (ap (λ (h : Heap). h.table) heap ∙ ap (λ (v : Cells). v.table) c.make-cells.ensures.value)
    c.carve-2.ensures.piece in
    let fixed_table = cut-from c.carve-2.new.self c.fixed_words.result c.make-areas.result.fixed.table c.carve-3.result
    (ap (λ (v : Fixed). v.table) fixed ∙ ap (λ (v : Fixed). v.table) c.make-fixed.ensures.value)
    c.carve-3.ensures.piece in
    let area_table = cut-from c.carve-3.new.self 4096 c.make-areas.result.table c.carve-4.result
    (ap (λ (a : Areas). a.table) areas) c.carve-4.ensures.piece in
    record {
      settled = record {
        keeps = record {
          sound = record {
            pages = c.set_limit.ensures.sound;
            heap = c.make-heap.ensures.sound;
            areas = c.make-areas.ensures.sound;
          };
          placed = record {
            heap = record {
              parked = subst (λ (rs : List ℕ). AreParked rs c.set_limit.new.self) (sym runs)
                  (c.make-cells.ensures.parked c.set_limit.new.self (omega (arith, count)));
              memory = omega (arith, limit, size);
            };
            areas = subst (λ (v : Fixed). AreParked v.runs c.set_limit.new.self) (sym fixed)
                (c.make-fixed.ensures.parked c.set_limit.new.self (omega (arith, count)));
            all_parked = λ page. omega (
              arith,
              none page,
              none_fixed page,
              ap (λ (v : Pages). slice_index v.parked page) pages,
              index-zeros c.args.most page,
            );
            none_out = λ page. ap (λ (v : Pages). slice_index v.out page) pages ∙ index-zeros c.args.most page;
            beside = record {
              apart = λ page other some some_other. absurd (omega (arith, some, none_fixed page));
              within = λ page some. absurd (omega (arith, some, none_fixed page));
            };
            owns = c.make-areas.ensures.owns (λ base block begins.
                nothing-begins (256 * c.args.most) base block
                (subst (λ (v : Fixed). Begins v.blocks base block) c.make-fixed.ensures.value begins));
          };
          tables = record {
            two = c.requires.two;
            growing = c.requires.growing;
            most = c.requires.most;
            pages = count;
            heap = ap (λ (h : Heap). h.pages) heap ∙ ap (λ (v : Cells). v.pages) c.make-cells.ensures.value;
            areas = ap (λ (v : Fixed). v.pages) fixed ∙ ap (λ (v : Fixed). v.pages) c.make-fixed.ensures.value;
            last = record {
              own = ap (λ (l : Location). l.arena) memory
                  ∙ ap (λ (p : pieces.Piece). p.arena) c.carve-5.ensures.piece ∙ sym last.name;
              end = omega (
                arith,
                ap (λ (l : Location). l.start) memory,
                ap (λ (l : Location). l.size) memory,
                at,
                words,
                last.total,
                last.spare,
                fourth.total,
                fourth.spare,
                third.total,
                third.spare,
                second.total,
                second.spare,
                first.total,
                first.spare,
                c.requires.room,
                c.requires.within,
                c.table_words.ensures,
                c.cells_words.ensures,
                c.fixed_words.ensures,
                c.requires.growing,
              );
            };
            room = omega (
              arith,
              size,
              last.spare,
              fourth.spare,
              third.spare,
              second.spare,
              first.spare,
              c.requires.room,
              c.table_words.ensures,
              c.cells_words.ensures,
              c.fixed_words.ensures,
              c.requires.growing,
            );
            out = omega (arith, size, last.out);
          };
          limit = limit ∙ sym size;
        };
        size = size ∙ sym (pages_needed-none record {
          arena = c.carve-5.new.self;
          pages = c.set_limit.new.self;
          heap = c.make-heap.result;
          areas = c.make-areas.result;
          least = c.args.least;
          most = c.args.most;
        } (256 * c.args.most) most_areas objects free);
      };
      objects = objects;
      areas = free;
      least_is = refl;
      most_is = refl;
      name = named;
      out = omega (
        arith,
        last.out,
        fourth.out,
        third.out,
        second.out,
        first.out,
        table.size,
        cells_table.size,
        fixed_table.size,
        area_table.size,
        size,
      );
      pieces = record {
        pages = table.arena ∙ sym named;
        cells = cells_table.arena ∙ sym (last.name ∙ fourth.name ∙ third.name ∙ second.name);
        fixed = fixed_table.arena ∙ sym (last.name ∙ fourth.name ∙ third.name);
        areas = area_table.arena ∙ sym (last.name ∙ fourth.name);
      };
    }
