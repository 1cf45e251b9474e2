-- How each line of a log is spelled: words separated by one space, and a newline byte at the end.
use Rattle.std.specs.Prelude.{ℕ, Bool, true, false, List, [], ◌∷◌, ◌++◌, codes, decimal}
use Rattle.std.specs.List.{flat_map}
use Rattle.mm_model.specs.declared.object.Kind.{Kind}
use Rattle.mm_model.specs.declared.object.Kind.TheVariants.{Traced, Leaf, Counted, Weak}
use Rattle.mm_model.specs.declared.refusal.Refusal.{Refusal}
use Rattle.mm_model.specs.declared.refusal.Refusal.TheVariants as refusals
use Rattle.mm_model.specs.declared.refusal.LineFault.{LineFault}
use Rattle.mm_model.specs.declared.refusal.LineFault.TheVariants as faults
use Rattle.mm_model.specs.declared.reply.Reply.{Reply}
use Rattle.mm_model.specs.declared.reply.Reply.TheVariants as replies
use Rattle.mm_model.specs.declared.line.Line.{Line}
use Rattle.mm_model.specs.declared.line.Line.TheVariants as lines
use Rattle.mm_model.specs.declared.line.Phase.{Phase}
use Rattle.mm_model.specs.declared.line.Phase.TheVariants as phases

-- words with one space between two, and a newline byte
abbrev pub sentence : List (List ℕ) → List ℕ
sentence [] = 10 ∷ []
sentence (word ∷ []) = word ++ 10 ∷ []
sentence (word ∷ next ∷ words) = word ++ 32 ∷ sentence (next ∷ words)

-- a line within a command's group begins with a space
abbrev pub indented : List (List ℕ) → List ℕ
indented words = 32 ∷ sentence words

abbrev pub refusal_text : Refusal → List ℕ
refusal_text refusals.NoCell = codes "no cell"
refusal_text refusals.Shape = codes "bad shape"
refusal_text refusals.NoArea = codes "no area"
refusal_text refusals.Nothing = codes "nothing"
refusal_text refusals.Outside = codes "outside"
refusal_text refusals.NoWeak = codes "no weak"
refusal_text refusals.NoSlot = codes "no slot"
refusal_text refusals.NotCounted = codes "not counted"
refusal_text refusals.StackFull = codes "stack full"
refusal_text refusals.AreasFull = codes "areas full"
refusal_text refusals.Full = codes "full"
refusal_text refusals.Busy = codes "busy"
refusal_text refusals.Idle = codes "idle"

abbrev pub kind_letter : Kind → List ℕ
kind_letter Traced = codes "t"
kind_letter Leaf = codes "l"
kind_letter Counted = codes "r"
kind_letter Weak = codes "w"

-- the letter of the kind, and an f where there is a finalizer
abbrev pub kind_word : Kind → Bool → List ℕ
kind_word kind true = kind_letter kind ++ codes "f"
kind_word kind false = kind_letter kind

abbrev pub phase_word : Phase → List ℕ
phase_word phases.Reap = codes "reap"
phase_word phases.Collect = codes "collect"

abbrev pub reply_spelling : Reply → List ℕ
reply_spelling replies.Done = sentence (codes "ok" ∷ [])
reply_spelling replies.Loose = sentence (codes "loose" ∷ [])
reply_spelling (replies.New base) = sentence (codes "new" ∷ decimal base ∷ [])
reply_spelling (replies.Word word) = sentence (codes "word" ∷ decimal word ∷ [])
reply_spelling (replies.Area area) = sentence (codes "area" ∷ decimal area.number ∷ decimal area.base ∷ [])
reply_spelling (replies.Object found) =
    sentence (codes "object" ∷ decimal found.base ∷ kind_word found.kind found.finalize ∷ decimal found.extent ∷ [])
reply_spelling replies.Nothing = sentence (codes "nothing" ∷ [])
reply_spelling (replies.Stat stat) =
    sentence (codes "stat" ∷ decimal stat.objects ∷ decimal stat.zero ∷ decimal stat.areas ∷ decimal stat.free ∷ [])
reply_spelling (replies.Refused refusal) = sentence (refusal_text refusal ∷ [])

abbrev pub spelling : Line → List ℕ
spelling (lines.Scan base slots) = indented (codes "scan" ∷ decimal base ∷ decimal slots ∷ [])
spelling (lines.Final base slots total) =
    indented (codes "final" ∷ decimal base ∷ decimal slots ∷ decimal total ∷ [])
spelling (lines.Phase what freed) = indented (phase_word what ∷ decimal freed ∷ [])
spelling (lines.Free base) = indented (codes "free" ∷ decimal base ∷ [])
spelling (lines.Reply reply) = reply_spelling reply
spelling (lines.Total totals) =
    sentence
    (codes "total" ∷ decimal totals.commands ∷ decimal totals.born ∷ decimal totals.freed ∷ decimal totals.live ∷ [])

abbrev pub fault_text : LineFault → List ℕ
fault_text faults.UnknownCommand = codes "unknown command"
fault_text faults.WordCount = codes "wrong number of words"
fault_text faults.BadWord = codes "bad word"
fault_text faults.BadNumber = codes "bad number"
fault_text faults.LineTooLong = codes "line too long"

-- the spelling of a log is that of its lines in order
abbrev pub spelling_of : List Line → List ℕ
spelling_of log = flat_map spelling log
