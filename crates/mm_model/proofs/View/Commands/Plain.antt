-- What a command does to a view that looks for no place, scans nothing and frees nothing, it does to its state.
use Rattle.mm_model.specs.declared.command.Command.{Command}
use Rattle.mm_model.specs.declared.command.Command.TheVariants as commands
use Rattle.mm_model.specs.State.{State}
use Rattle.mm_model.specs.Effect.{plain_effect}
use Rattle.mm_model.specs.Good.{IsGood}
use Rattle.mm_model.specs.Views.View.{view_of}
use Rattle.mm_model.specs.Views.ViewEffect.{view_plain_effect}
use Rattle.mm_model.proofs.View.Commands.AreaStores.{area_put-seen}
use Rattle.mm_model.proofs.View.Commands.Areas.{drop_area-seen, area_get-seen}
use Rattle.mm_model.proofs.View.Marking.Graying.{begin-seen}
use Rattle.mm_model.proofs.View.Commands.Puts.{put-seen}
use Rattle.mm_model.proofs.View.Commands.Reads.{push-seen, dup-seen, pop-seen, inner-seen, get_slot-seen, look-seen}
use Rattle.mm_model.proofs.View.Commands.Reads.{map-seen}
use Rattle.mm_model.proofs.View.Commands.Reads.{stat-seen}
use Rattle.mm_model.proofs.View.Commands.SameEffects.{SameEffect, nothing-same}

-- for the other commands both are nothing
pub plain_effect-seen : (a : State) → IsGood a → (command : Command)
    → SameEffect (view_plain_effect (view_of a) command) (plain_effect a command)
plain_effect-seen a good (commands.Push word) = push-seen a word
plain_effect-seen a good (commands.Dup i) = dup-seen a i
plain_effect-seen a good (commands.Pop k) = pop-seen a k
plain_effect-seen a good (commands.Inner i bytes) = inner-seen a i bytes
plain_effect-seen a good (commands.Get i s) = get_slot-seen a good i s
plain_effect-seen a good (commands.Put i s j) = put-seen a good i s j
plain_effect-seen a good (commands.Look i) = look-seen a good i
plain_effect-seen a good (commands.DropArea number) = drop_area-seen a number
plain_effect-seen a good (commands.AreaGet number s) = area_get-seen a number s
plain_effect-seen a good (commands.AreaPut number s j) = area_put-seen a good.placed number s j
plain_effect-seen a good commands.Begin = begin-seen a
plain_effect-seen a good (commands.Map i) = map-seen a good i
plain_effect-seen a good commands.Stat = stat-seen a good
plain_effect-seen a good (commands.New shape) = nothing-same a
plain_effect-seen a good (commands.Weak i) = nothing-same a
plain_effect-seen a good (commands.Root counted cells) = nothing-same a
plain_effect-seen a good (commands.Fixed cells) = nothing-same a
plain_effect-seen a good commands.Reap = nothing-same a
plain_effect-seen a good commands.Collect = nothing-same a
plain_effect-seen a good (commands.Step k) = nothing-same a
plain_effect-seen a good commands.Finish = nothing-same a
