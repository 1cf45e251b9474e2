-- What C is told of a heap.
use Rattle.std.specs.Prelude.{◌≡◌, ℕ, Option, length}
use Rattle.mm_model.specs.declared.command.Command.TheVariants as commands
use Rattle.mm_model.specs.declared.reply.Reply.TheVariants as replies
use Rattle.mm_model.specs.Views.ViewWords.{view_region_pages}
use Rattle.mm_gc.specs.Gc.{Gc, view_of_gc}
use Rattle.mm_gc.specs.Rows.{Answers}
use Rattle.mm_c.specs.declared.owned.Owned.{Owned}
use Rattle.mm_c.specs.declared.stat.MmStat.{MmStat}
use Rattle.mm_c.specs.declared.status.Status.TheVariants as statuses
use Rattle.mm_c.specs.Calls.{OnHeap}
use Rattle.mm_c.specs.Status.{number}

-- the counts of the command, and what else there is
pub record IsStatOf (gc : Gc) (stat : MmStat) : Type 0 where
  pub counts : Answers gc gc commands.Stat (replies.Stat (record {
    objects = stat.objects;
    zero = stat.zero;
    areas = stat.areas;
    free = stat.free;
  }))
  pub born : stat.born ≡ gc.born
  pub freed : stat.freed ≡ gc.freed
  pub pages : stat.pages ≡ view_region_pages (view_of_gc gc)
  pub cells : stat.cells ≡ length gc.stack.words
  pub threshold : stat.threshold ≡ gc.threshold
  pub running : stat.running ≡ gc.marker.running

abbrev pub TellsStat : Option Owned → Option Owned → ℕ → MmStat → MmStat → Type 0
TellsStat before after status out_old out_new =
    OnHeap before after
    (λ old new. (new ≡ old) × (status ≡ number statuses.Done) × IsStatOf old.gc out_new)
    ((status ≡ number statuses.Closed) × (out_new ≡ out_old))
