-- A command that is refused writes nothing and changes nothing.
use Rattle.std.proofs.Common.{List, [], Some}
use Rattle.mm_model.specs.declared.command.Command.{Command}
use Rattle.mm_model.specs.declared.refusal.Refusal.{Refusal}
use Rattle.mm_model.specs.declared.reply.Reply.TheVariants as replies
use Rattle.mm_sweep.specs.Told.{Told}
use Rattle.mm_gc.specs.Gc.{Gc, view_of_gc}
use Rattle.mm_gc.specs.Rows.{Tells}
use Rattle.mm_gc.proofs.Refusals.{RefusesIn, row-refused}
use Rattle.mm_gc.proofs.Shown.{row-of}
use Rattle.mm_gc.proofs.Telling.Heard.{heard-nothing}

pub tells-refused : (gc : Gc) (command : Command) (because : Refusal) (heard : List Told → Type 0)
    → heard [] → RefusesIn (view_of_gc gc) command (Some because)
    → Tells gc gc command (replies.Refused because) heard
tells-refused gc command because heard nothing refuses =
    record {
      log = [];
      answers = row-of (view_of_gc gc) (view_of_gc gc) command [] (replies.Refused because)
          (row-refused (view_of_gc gc) command because refuses);
      told = heard-nothing heard (view_of_gc gc).objects nothing;
    }
