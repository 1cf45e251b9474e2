use Rattle.std.proofs.Common.{◌-◌, subst, arith}
use Rattle.mm_model.specs.declared.command.Command.TheVariants as commands
use Rattle.mm_model.specs.declared.reply.Reply.TheVariants as replies
use Rattle.mm_gc.specs.Gc.{Gc}
use Rattle.mm_gc.specs.Inside.{gc_of}
use Rattle.mm_gc.specs.Rows.{Answers}
use Rattle.mm_gc.proofs.Regions.Shown.{region-shown}
use Rattle.mm_gc.proofs.Stat.{live-few, stat-answers}
use Rattle.mm_gc.proofs.gc.Gc.stat.Goals as goal

pub overflow_cast-result : goal.overflow_cast-result
overflow_cast-result c = let few = live-few (gc_of c.self.inside) c.self.invariant in omega (arith, few)

pub returns : goal.returns
returns c =
    let gc = gc_of c.self.inside in
    record {
      row = subst
          (λ (other : Gc). Answers other other commands.Stat (replies.Stat (record {
            objects = gc.born - gc.freed;
            zero = c.len.result;
            areas = c.live.result;
            free = c.free_pages.result;
          })))
          c.self.view_is
          (stat-answers gc c.self.invariant c.len.result c.live.result c.free_pages.result
          (region-shown gc.region c.self.invariant.settled.keeps) c.len.ensures
          (c.live.ensures.views gc.region.heap.raw) c.free_pages.ensures.count);
    }
