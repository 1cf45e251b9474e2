-- Short words for worked traces and their logs.
use Rattle.std.specs.List.{range_with_len}
use Rattle.std.specs.Prelude.{map, ℕ, true, false, List}
use Rattle.mm_model.specs.declared.object.Kind.{Kind}
use Rattle.mm_model.specs.declared.refusal.Refusal.{Refusal}
use Rattle.mm_model.specs.declared.command.Command.{Command}
use Rattle.mm_model.specs.declared.command.Command.TheVariants as commands
use Rattle.mm_model.specs.declared.reply.Reply.TheVariants as replies
use Rattle.mm_model.specs.declared.line.Line.{Line}
use Rattle.mm_model.specs.declared.line.Line.TheVariants as lines
use Rattle.mm_model.specs.declared.line.Phase.TheVariants as phases
use Rattle.mm_model.specs.declared.settings.Settings.{Settings}
use Rattle.mm_model.specs.State.{State}
use Rattle.mm_model.specs.Step.{IsStep}
use Rattle.mm_model.specs.Logs.Log.{IsWhole}

-- the log, with its total line, is legal for the commands
abbrev pub IsLogOf : Settings → List Command → List Line → Type 0
IsLogOf settings commands log = (b : State) × IsWhole IsStep settings commands log b

-- what holds where nothing is said
abbrev pub usual : Settings
usual = record { pages = 1024; max = 1024; zct = 256; queue = 256; stack = 1024 }

-- a region of so many pages, which may grow to so many
abbrev pub with_pages : ℕ → ℕ → Settings
with_pages pages max = record usual { pages = pages; max = max }

-- a stack of so many cells
abbrev pub with_stack : ℕ → Settings
with_stack stack = record usual { stack = stack }

-- a reap at so many zero-count objects
abbrev pub with_zct : ℕ → Settings
with_zct zct = record usual { zct = zct }

-- `new` with a kind, counted slots and slots
abbrev pub new : Kind → ℕ → ℕ → Command
new kind counted slots = commands.New (record { kind = kind; finalize = false; counted = counted; slots = slots })

abbrev pub new_final : Kind → ℕ → ℕ → Command
new_final kind counted slots =
    commands.New (record { kind = kind; finalize = true; counted = counted; slots = slots })

-- into each of so many slots of the top object goes the word of the cell below
abbrev pub puts : ℕ → List Command
puts count = map (λ s. commands.Put 0 s 1) (range_with_len 0 count)

-- replies
abbrev pub done : Line
done = lines.Reply replies.Done

abbrev pub loose : Line
loose = lines.Reply replies.Loose

abbrev pub nothing : Line
nothing = lines.Reply replies.Nothing

abbrev pub made : ℕ → Line
made base = lines.Reply (replies.New base)

abbrev pub word : ℕ → Line
word w = lines.Reply (replies.Word w)

abbrev pub area : ℕ → ℕ → Line
area number base = lines.Reply (replies.Area (record { number = number; base = base }))

abbrev pub object : ℕ → Kind → ℕ → Line
object base kind extent =
    lines.Reply (replies.Object (record { base = base; kind = kind; finalize = false; extent = extent }))

abbrev pub stat : ℕ → ℕ → ℕ → ℕ → Line
stat objects zeros areas free =
    lines.Reply (replies.Stat (record { objects = objects; zero = zeros; areas = areas; free = free }))

abbrev pub refused : Refusal → Line
refused because = lines.Reply (replies.Refused because)

-- lines in front of a reply
abbrev pub scanned : ℕ → ℕ → Line
scanned base slots = lines.Scan base slots

abbrev pub finalized : ℕ → ℕ → ℕ → Line
finalized base slots sum = lines.Final base slots sum

abbrev pub reaped : ℕ → Line
reaped count = lines.Phase phases.Reap count

abbrev pub collected : ℕ → Line
collected count = lines.Phase phases.Collect count

abbrev pub freed : ℕ → Line
freed base = lines.Free base

-- the last line
abbrev pub total : ℕ → ℕ → ℕ → ℕ → Line
total commands born freed live =
    lines.Total (record { commands = commands; born = born; freed = freed; live = live })
