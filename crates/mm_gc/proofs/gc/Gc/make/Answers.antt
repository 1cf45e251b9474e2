-- It has no objects, no areas and no stack cells, and all words that are out are those of its pieces.
use Rattle.std.proofs.Common.{◌≡◌, ◌-◌, ◌*◌, ℕ, true, false, length, refl, sym, ap, ◌∙◌, arith}
use Rattle.std.proofs.lemmas.List.{length-replicate}
use Rattle.mm_model.specs.Views.ViewWords.{outside_references}
use Rattle.mm_words.specs.Piece as pieces
use Rattle.mm_words.specs.Arena.{Arena}
use Rattle.mm_roots.specs.Stack.{Cells}
use Rattle.mm_count.specs.Table.{Table}
use Rattle.mm_mark.specs.Marker.{Marker}
use Rattle.mm_gc.specs.Gc.{Gc, view_of_gc}
use Rattle.mm_gc.specs.Inside.{gc_of}
use Rattle.mm_gc.proofs.Starting.{IsNew, new-shows, new-showing, cut, cut-from, counts-none, listed-none, unpinned-none}
use Rattle.mm_gc.proofs.Starting.{known-none, right-none, linked-none}
use Rattle.mm_gc.proofs.gc.Gc.make.Goals as goal

-- what was made
abbrev made : goal.After-make_region-region → Gc
made c =
    gc_of record {
      region = c.make_region-region.result;
      stack = c.make-stack.result;
      count = c.make-count.result;
      marker = c.make-marker.result;
      dead = c.carve-dead.result;
      settings = c.args.settings;
      threshold = c.args.settings.zct;
      commands = 0;
      born = 0;
      freed = 0;
      gone_before = 0;
    }

is_new : (c : goal.After-make_region-region) → IsNew c.args.settings (made c)
is_new c =
    let region = c.make_region-region.ensures in
    record {
      objects = region.objects;
      areas = region.areas;
      stack = ap (λ (s : Cells). s.words) c.make-stack.ensures;
      idle = ap (λ (m : Marker). m.running) c.make-marker.ensures;
      threshold = refl;
      totals = refl;
      settings_are = refl;
    }

runs_not : {A : Type 0} → false ≡ true → A
runs_not e = cc

pub returns : goal.returns
returns c = new-shows c.args.settings (made c) (is_new c)

pub invariant_of-result : goal.invariant_of-result
invariant_of-result c =
    let region = c.make_region-region.ensures in
    let heap = c.make_region-region.result.heap in
    let few : ℕ = 256 * c.args.settings.max in
    let entries = ap (λ (t : Table). t.entries) c.make-count.ensures in
    let most : c.make-count.result.pages ≡ c.args.settings.max = ap (λ (t : Table). t.pages) c.make-count.ensures in
    let pages = region.settled.keeps.tables.heap in
    let arena = ap (λ (a : Arena). a.out) c.in_ok-arena.ensures in
    let first = cut c.in_ok-arena.arena c.carve.new.self _ c.carve.ensures.arena in
    let second = cut c.carve.new.self c.carve-2.new.self _ c.carve-2.ensures.arena in
    let third = cut c.carve-2.new.self c.carve-3.new.self _ c.carve-3.ensures.arena in
    let fourth = cut c.carve-3.new.self c.carve-dead.new.self _ c.carve-dead.ensures.arena in
    let stack = cut-from c.in_ok-arena.arena c.args.settings.stack c.make-stack.result.location c.carve.result
    (ap (λ (s : Cells). s.location) c.make-stack.ensures) c.carve.ensures.piece in
    let table = cut-from c.carve.new.self (256 * (c.args.settings.max - 1)) c.make-count.result.location
    c.carve-2.result (ap (λ (t : Table). t.location) c.make-count.ensures) c.carve-2.ensures.piece in
    let queue = cut-from c.carve-2.new.self c.args.settings.queue c.make-marker.result.location c.carve-3.result
    (ap (λ (m : Marker). m.location) c.make-marker.ensures) c.carve-3.ensures.piece in
    let dead = cut-from c.carve-3.new.self (256 * (c.args.settings.max - 1)) (made c).dead c.carve-dead.result refl
    c.carve-dead.ensures.piece in
    record {
      shown = new-showing c.args.settings (made c) c.requires (is_new c);
      settled = region.settled;
      counts = record {
        right = right-none heap.objects few region.objects c.make-count.result heap refl
            (omega (arith, pages, region.most_is, most)) entries;
        counted = counts-none heap.objects few region.objects (outside_references (view_of_gc (made c)));
        listed = listed-none heap.objects few region.objects;
        unpinned = unpinned-none heap.objects few region.objects;
      };
      linked = linked-none heap.objects few region.objects heap refl;
      marking = record {
        known = known-none heap.objects few region.objects c.make-marker.result;
        idle = λ idle. ap (λ (m : Marker). m.partly) c.make-marker.ensures;
        since = omega arith;
        few = λ runs. runs_not (sym (ap (λ (m : Marker). m.running) c.make-marker.ensures) ∙ runs);
      };
      rooms = record {
        within = c.requires;
        least = region.least_is;
        most = region.most_is;
        stack = ap (λ (s : Cells). s.limit) c.make-stack.ensures;
        queue = ap (λ (m : Marker). m.room) c.make-marker.ensures
            ∙ ap (λ (p : pieces.Piece). length p.words) c.carve-3.ensures.piece
            ∙ length-replicate c.args.settings.queue 0;
        table = most;
        dead = omega (arith, dead.size);
      };
      pieces = record {
        pages = region.pieces.pages;
        cells = region.pieces.cells;
        fixed = region.pieces.fixed;
        areas = region.pieces.areas;
        stack = stack.arena ∙ sym (region.name ∙ fourth.name ∙ third.name ∙ second.name ∙ first.name);
        table = table.arena ∙ sym (region.name ∙ fourth.name ∙ third.name ∙ second.name);
        queue = queue.arena ∙ sym (region.name ∙ fourth.name ∙ third.name);
        dead = dead.arena ∙ sym (region.name ∙ fourth.name);
        out = omega (
          arith,
          region.out,
          fourth.out,
          third.out,
          second.out,
          first.out,
          arena,
          stack.size,
          table.size,
          queue.size,
          dead.size,
        );
      };
    }
