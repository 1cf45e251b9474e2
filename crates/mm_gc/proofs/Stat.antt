-- What stat tells is what the view has.
use Rattle.std.proofs.Common.{◌≡◌, ℕ, ◌-◌, ◌*◌, ◌^◌, ◌<◌, [], Bool, length, sym, ap, ◌∙◌, subst, arith}
use Rattle.std.specs.List.{count_by, fold, range_with_len}
use Rattle.mm_model.specs.declared.command.Command.TheVariants as commands
use Rattle.mm_model.specs.declared.reply.Reply.TheVariants as replies
use Rattle.mm_model.specs.declared.reply.Stat.{Stat}
use Rattle.mm_model.specs.Places.Place.{page_end, is_vacant}
use Rattle.mm_model.specs.Views.View.{View}
use Rattle.mm_model.specs.Views.ViewEffect.{view_stat, view_free_pages}
use Rattle.mm_model.specs.Views.ViewWords.{view_region_pages, outside_references}
use Rattle.mm_model.proofs.View.GoodCounts.{shown_totals}
use Rattle.mm_model.proofs.View.GoodRoom.{few_objects}
use Rattle.mm_pages.specs.Pages.{Pages, TellsFreePages}
use Rattle.mm_object.specs.Heap.{cells_in}
use Rattle.mm_fixed.specs.Cells.{cells_of}
use Rattle.mm_gc.specs.declared.region.Region.{Region}
use Rattle.mm_gc.specs.Gc.{Gc, areas_in, pieces_in, view_of_gc}
use Rattle.mm_gc.specs.Kept.{KeepsGc}
use Rattle.mm_gc.specs.Pieces.{IsRegion}
use Rattle.mm_gc.specs.Rows.{Answers}
use Rattle.mm_gc.proofs.Placing.Vacant.{vacant_tells}
use Rattle.mm_gc.proofs.Rows.Reading.{stat-row}
use Rattle.mm_gc.proofs.Shown.{row-of, showing-good}
use Rattle.mm_gc.proofs.Frees.ZeroCount.{entries_are_zero_count}

-- so many pages pass each test that tells which of them are free
abbrev pub AreFreePages : Pages → ℕ → Type 0
AreFreePages pages free =
    (test : ℕ → Bool) → TellsFreePages pages test → free ≡ count_by test (range_with_len 1 (pages.limit - 1))

-- the pages and pieces of a region make one
abbrev pub IsShownRegion : Region → Type 0
IsShownRegion r = IsRegion r.pages (cells_in r.heap) (cells_of r.areas.fixed) (pieces_in r)

module _ (gc : Gc) (keeps : KeepsGc gc) where
  abbrev view : View
  view = view_of_gc gc

  -- so many objects live, which fits in 32 bits
  pub live-few : gc.born - gc.freed < 2 ^ 32
  live-few =
      let shown = keeps.shown in
      let totals = shown_totals view shown.state shown.good shown.shows in
      let few = few_objects view (showing-good view shown).placed in
      omega (arith, totals.live, few, keeps.rooms.within.most_pages)

  -- it has as many pages as the model says
  pages_are : gc.region.pages.limit ≡ view_region_pages view
  pages_are =
      keeps.settled.keeps.limit ∙ keeps.settled.size
      ∙ ap (λ (least : ℕ). fold page_end least (pieces_in gc.region)) keeps.rooms.least

  free_are : (free : ℕ) → IsShownRegion gc.region → AreFreePages gc.region.pages free → free ≡ view_free_pages view
  free_are free region counted =
      counted (λ page. is_vacant (pieces_in gc.region) (4096 * page) 4096)
      (vacant_tells gc.region.pages (cells_in gc.region.heap) (cells_of gc.region.areas.fixed) (pieces_in gc.region)
      region)
      ∙ ap
      (λ (pages : ℕ).
      count_by (λ page. is_vacant (pieces_in gc.region) (4096 * page) 4096) (range_with_len 1 (pages - 1)))
      pages_are

  stat_is : (listed areas free : ℕ) → listed ≡ length gc.table.entries → areas ≡ length (areas_in gc.region)
      → free ≡ view_free_pages view
      → ◌≡◌ {A = Stat} (record { objects = gc.born - gc.freed; zero = listed; areas = areas; free = free })
      (view_stat view)
  stat_is listed areas free entries numbers pages =
      let zeros = entries
      ∙ entries_are_zero_count gc.table gc.region.heap (outside_references view) keeps.counts.right keeps.counts.listed
      keeps.counts.counted in
      λ t. record { objects = gc.born - gc.freed; zero = zeros t; areas = numbers t; free = pages t }

  pub stat-answers : (listed areas free : ℕ) → IsShownRegion gc.region → listed ≡ length gc.table.entries
      → areas ≡ length (areas_in gc.region)
      → AreFreePages gc.region.pages free
      → Answers gc gc commands.Stat
      (replies.Stat (record { objects = gc.born - gc.freed; zero = listed; areas = areas; free = free }))
  stat-answers listed areas free region entries numbers pages =
      subst (λ (stat : Stat). Answers gc gc commands.Stat (replies.Stat stat))
      (sym (stat_is listed areas free entries numbers (free_are free region pages)))
      (row-of view view commands.Stat [] (replies.Stat (view_stat view)) (stat-row view))
