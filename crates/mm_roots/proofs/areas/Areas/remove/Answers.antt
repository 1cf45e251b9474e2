use Rattle.std.proofs.Common.{◌≡◌, ◌/◌, ℕ, List, Option, None, not, set, sym, ap, ◌∙◌, subst, arith}
use Rattle.std.specs.Prelude.{◌==◌, is_some}
use Rattle.std.specs.List.{filter, count_by}
use Rattle.mm_fixed.specs.Fixed.{Fixed}
use Rattle.mm_fixed.specs.Cells.{cells_of}
use Rattle.mm_pages.specs.Parked.{HaveNoCommonRun, AreAllParked}
use Rattle.mm_roots.specs.declared.area_shape.AreaShape.{AreaShape}
use Rattle.mm_roots.specs.Areas.{Areas, with_area, over, IsSoundAreas, IsBeside, OwnsAll}
use Rattle.mm_roots.specs.Kept.{AreaRows, areas_of}
use Rattle.mm_roots.specs.Views.{views_from, views_of_areas}
use Rattle.mm_roots.proofs.Blocks.{beside-left, leaves-run, FitsHeap-left, HaveNoCommonRun-beside}
use Rattle.mm_roots.proofs.Counts.{count-left}
use Rattle.mm_roots.proofs.Sound.{removed-sound, removed-owns}
use Rattle.mm_roots.proofs.Views.{views_from-left}
use Rattle.mm_roots.proofs.areas.Areas.remove.Given.{Over}
use Rattle.mm_roots.proofs.areas.Areas.remove.Goals as goal

rows-left : (rows new : AreaRows) (fixed after : Fixed) (number : ℕ) → new.location ≡ rows.location
    → new.areas ≡ set rows.areas number None
    → areas_of new after ≡ with_area (over after (areas_of rows fixed)) number None
rows-left rows new fixed after number location areas = cc

pub free_block-requires-clause-there : goal.free_block-requires-clause-there
free_block-requires-clause-there g c = record {
  extent = c.in-Some.area.extent;
  begins = c.self.invariant.sound.blocks c.args.a c.in-Some.area (sym c.area.ensures ∙ c.in-Some.is);
}

-- the areas as they are left
left-sound : (g : Over) (c : goal.After-self-1 g) → IsSoundAreas (areas_of c.leave.new.self c.free_block.new.fixed)
left-sound g c =
    let i = c.self.inside in
    let fixed = c.free_block.new.fixed in
    subst IsSoundAreas
    (sym (rows-left i.table c.leave.new.self i.fixed fixed c.args.a c.leave.ensures.location c.leave.ensures.areas))
    (removed-sound (areas_of i.table i.fixed) c.self.invariant.sound fixed c.args.a c.in-Some.area
    (sym c.area.ensures ∙ c.in-Some.is) c.free_block.ensures.sound
    (ap (λ (v : Fixed). v.blocks) c.free_block.ensures.gone))

pub invariant_of-self : goal.invariant_of-self
invariant_of-self g c =
    let fewer = count-left c.self.inside.table.areas c.args.a c.in-Some.area (sym c.area.ensures ∙ c.in-Some.is) in
    let is = ap (λ (areas : List (Option AreaShape)). count_by is_some areas) c.leave.ensures.areas in
    record { sound = left-sound g c; live = omega (arith, fewer, is, c.self.invariant.live) }

pub returns-clause-views : goal.returns-clause-views
returns-clause-views g c = λ raw.
    ap (views_from raw 0) c.leave.ensures.areas
    ∙ views_from-left raw 0 c.args.a c.args.a c.self.inside.table.areas (omega arith)
    ∙ ap (λ (v : Areas). filter (λ area. not (area.number == c.args.a)) (views_of_areas v raw)) c.self.view_is

pub returns-clause-others : goal.returns-clause-others
returns-clause-others g c = λ runs clear parked.
    c.free_block.ensures.others runs
    (subst (λ (v : Areas). HaveNoCommonRun v.fixed.runs runs) (sym c.self.view_is) clear) parked

pub returns-clause-beside : goal.returns-clause-beside
returns-clause-beside g c = λ heap beside.
    let i = c.self.inside in
    let fixed = c.free_block.new.fixed in
    beside-left (areas_of i.table i.fixed) (areas_of c.leave.new.self fixed) heap
    (leaves-run (cells_of i.fixed) (cells_of fixed) c.args.pages.now c.free_block.new.pages
    (c.in-Some.area.base / 4096) c.free_block.ensures.page)
    (subst (λ (v : Areas). IsBeside v heap) (sym c.self.view_is) beside)

pub returns-clause-fits : goal.returns-clause-fits
returns-clause-fits g c = λ heap beside fits.
    let i = c.self.inside in
    let clear = HaveNoCommonRun-beside i.fixed.runs heap.runs
    (subst (λ (v : Areas). IsBeside v heap) (sym c.self.view_is) beside).apart in
    FitsHeap-left (cells_of i.fixed) (cells_of c.free_block.new.fixed) c.args.pages.now c.free_block.new.pages
    (c.in-Some.area.base / 4096) heap c.free_block.ensures.page
    (c.free_block.ensures.others heap.runs clear fits.parked) fits

pub returns-clause-owns : goal.returns-clause-owns
returns-clause-owns g c = λ owns.
    let i = c.self.inside in
    let fixed = c.free_block.new.fixed in
    subst OwnsAll
    (sym (rows-left i.table c.leave.new.self i.fixed fixed c.args.a c.leave.ensures.location c.leave.ensures.areas))
    (removed-owns (areas_of i.table i.fixed) c.self.invariant.sound fixed c.args.a c.in-Some.area
    (sym c.area.ensures ∙ c.in-Some.is) c.free_block.ensures.sound
    (ap (λ (v : Fixed). v.blocks) c.free_block.ensures.gone)
    (subst OwnsAll (sym c.self.view_is) owns))

pub returns-clause-sound : goal.returns-clause-sound
returns-clause-sound g c = left-sound g c

pub returns-clause-all_parked : goal.returns-clause-all_parked
returns-clause-all_parked g c = λ others parked.
    c.free_block.ensures.all_parked others
    (subst (λ (v : Areas). AreAllParked v.fixed.runs others c.args.pages.now) (sym c.self.view_is) parked)

pub returns-clause-apart : goal.returns-clause-apart
returns-clause-apart g c = λ runs clear.
    c.free_block.ensures.apart runs
    (subst (λ (v : Areas). HaveNoCommonRun v.fixed.runs runs) (sym c.self.view_is) clear)
