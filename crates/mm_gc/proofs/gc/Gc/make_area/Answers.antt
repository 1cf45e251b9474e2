use Rattle.std.proofs.Common.{Some, None, ◌∙◌, sym, subst}
use Rattle.mm_model.specs.declared.refusal.Refusal.TheVariants as refusals
use Rattle.mm_gc.specs.declared.wanted.Made.{Made}
use Rattle.mm_gc.specs.declared.wanted.Made.TheVariants as made_variants
use Rattle.mm_gc.specs.declared.wanted.Wanted.TheVariants as wanted
use Rattle.mm_gc.specs.Gc.{view_of_gc}
use Rattle.mm_gc.specs.Inside.{gc_of}
use Rattle.mm_gc.specs.Making.{area_command, Searches}
use Rattle.mm_gc.proofs.Makes.Asking.{tells-refused, area-tells, area-bad, area-full, areas-full, areas-few}
use Rattle.mm_gc.proofs.gc.Gc.make_area.Goals as goal

pub returns-then-is_bad_area : goal.returns-then-is_bad_area
returns-then-is_bad_area g c =
    record {
      row = tells-refused c.args.self.now (area_command c.args.area) refusals.Shape
          (g.J.Finalizer.tells c.args.journal.now c.args.journal.now) (g.met.J.Finalizer.tells_nothing c.args.journal.now)
          (area-bad (view_of_gc c.args.self.now) c.args.area (sym c.is_bad_area.ensures ∙ c.if-is_bad_area.true)
          c.requires.raw);
    }

pub returns-then-live-eq-MOST_AREAS : goal.returns-then-live-eq-MOST_AREAS
returns-then-live-eq-MOST_AREAS g c =
    record {
      row = tells-refused c.args.self.now (area_command c.args.area) refusals.AreasFull
          (g.J.Finalizer.tells c.args.journal.now c.args.journal.now) (g.met.J.Finalizer.tells_nothing c.args.journal.now)
          (area-full (view_of_gc c.args.self.now) c.args.area (sym c.is_bad_area.ensures ∙ c.if-is_bad_area.false)
          c.requires.raw
          (areas-full c.args.self.now (gc_of c.self.inside) c.live.result c.self.view_is
          (c.live.ensures.views c.self.inside.region.heap.raw) c.if-live-eq-MOST_AREAS.true));
    }

pub returns-in-Some-Area : goal.returns-in-Some-Area
returns-in-Some-Area g c =
    record {
      row = area-tells c.args.self.now c.search.new.self
          (g.J.Finalizer.tells c.args.journal.now c.search.new.journal)
          c.args.area (Some (made_variants.Area c.in-Some-Area.answer)) (sym c.is_bad_area.ensures ∙ c.if-is_bad_area.false)
          c.requires.raw
          (areas-few c.args.self.now (gc_of c.self.inside) c.live.result c.self.view_is
          (c.live.ensures.views c.self.inside.region.heap.raw) c.if-live-eq-MOST_AREAS.false)
          (subst
          (λ (made : Made). Searches c.args.self.now c.search.new.self (wanted.Area c.args.area) (Some made)
          (g.J.Finalizer.tells c.args.journal.now c.search.new.journal))
          c.in-Some-Area.field-0-is c.in-Some-Area.ensures.searched);
    }

pub returns-in-None : goal.returns-in-None
returns-in-None g c =
    record {
      row = area-tells c.args.self.now c.search.new.self
          (g.J.Finalizer.tells c.args.journal.now c.search.new.journal)
          c.args.area None (sym c.is_bad_area.ensures ∙ c.if-is_bad_area.false) c.requires.raw
          (areas-few c.args.self.now (gc_of c.self.inside) c.live.result c.self.view_is
          (c.live.ensures.views c.self.inside.region.heap.raw) c.if-live-eq-MOST_AREAS.false)
          c.in-None.ensures.searched;
    }
