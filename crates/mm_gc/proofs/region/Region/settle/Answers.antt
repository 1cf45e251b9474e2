use Rattle.std.proofs.Common.{ℕ, ◌≤◌, subst, sym, ◌∙◌}
use Rattle.mm_pages.specs.Pages as heaps
use Rattle.mm_object.specs.Heap as objects
use Rattle.mm_gc.proofs.Regions.Needed.{needed-most, needed-top, needed-same, pages-end_needed, objects-end_needed}
use Rattle.mm_gc.proofs.region.Region.settle.Goals as goal

pub resize-requires-clause-most : goal.resize-requires-clause-most
resize-requires-clause-most c =
    let needed = needed-top c.args.self.now c.requires c.top.result c.max-needed.result c.top.ensures.some
    c.top.ensures.highest c.max-needed.ensures in
    subst (λ (n : ℕ). n ≤ c.args.self.now.most) needed (needed-most c.args.self.now c.requires)

pub resize-requires-clause-pages : goal.resize-requires-clause-pages
resize-requires-clause-pages c =
    let needed = needed-top c.args.self.now c.requires c.top.result c.max-needed.result c.top.ensures.some
    c.top.ensures.highest c.max-needed.ensures in
    subst (heaps.EndsBy c.args.self.now.pages) needed (pages-end_needed c.args.self.now c.requires)

pub resize-requires-clause-objects : goal.resize-requires-clause-objects
resize-requires-clause-objects c =
    let needed = needed-top c.args.self.now c.requires c.top.result c.max-needed.result c.top.ensures.some
    c.top.ensures.highest c.max-needed.ensures in
    subst (objects.EndsBy c.args.self.now.heap) needed (objects-end_needed c.args.self.now c.requires)

pub returns-clause-settled : goal.returns-clause-settled
returns-clause-settled c =
    let r = c.args.self.now in
    let needed = needed-top r c.requires c.top.result c.max-needed.result c.top.ensures.some c.top.ensures.highest
    c.max-needed.ensures in
    record {
      keeps = c.resize.ensures.keeps;
      size = c.resize.ensures.size ∙ sym needed
          ∙ sym (needed-same r c.resize.new.self c.resize.ensures.inside c.resize.ensures.same.least);
    }
