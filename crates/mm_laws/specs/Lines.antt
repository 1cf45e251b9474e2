-- What is said of lines of a log that are spelled alike.
use Rattle.std.specs.Prelude.{◌≡◌, ◌⊎◌, ℕ, ◌<◌, ◌^◌, List, [], ◌∷◌}
use Rattle.std.specs.List.{All}
use Rattle.mm_model.specs.declared.refusal.Refusal.TheVariants as refusals
use Rattle.mm_model.specs.declared.reply.Reply.{Reply}
use Rattle.mm_model.specs.declared.reply.Reply.TheVariants as replies
use Rattle.mm_model.specs.declared.line.Line.{Line}
use Rattle.mm_model.specs.declared.line.Line.TheVariants as lines

abbrev pub reply_numbers : Reply → List ℕ
reply_numbers (replies.New base) = base ∷ []
reply_numbers (replies.Word word) = word ∷ []
reply_numbers (replies.Area area) = area.number ∷ area.base ∷ []
reply_numbers (replies.Object found) = found.base ∷ found.extent ∷ []
reply_numbers (replies.Stat stat) = stat.objects ∷ stat.zero ∷ stat.areas ∷ stat.free ∷ []
reply_numbers reply = []

-- the numbers of a line, in the order in which they are spelled
abbrev pub numbers_of : Line → List ℕ
numbers_of (lines.Scan base slots) = base ∷ slots ∷ []
numbers_of (lines.Final base slots total) = base ∷ slots ∷ total ∷ []
numbers_of (lines.Phase what freed) = freed ∷ []
numbers_of (lines.Free base) = base ∷ []
numbers_of (lines.Reply reply) = reply_numbers reply
numbers_of (lines.Total totals) = totals.commands ∷ totals.born ∷ totals.freed ∷ totals.live ∷ []

-- No number has more than 64 digits, as none that a program holds has. A longer one is spelled by its last 64 digits
-- alone, and so like others.
abbrev pub IsSpelledInFull : Line → Type 0
IsSpelledInFull line = All (λ (n : ℕ). n < 10 ^ 64) (numbers_of line)

-- what tells that a cell means no object
abbrev pub answered_nothing : Line
answered_nothing = lines.Reply replies.Nothing

-- what refuses a command since a cell means no object
abbrev pub refused_nothing : Line
refused_nothing = lines.Reply (replies.Refused refusals.Nothing)

-- one is the answer `nothing`, and the other the refusal `nothing`
abbrev pub AreNothing : Line → Line → Type 0
AreNothing x y = ((x ≡ answered_nothing) × (y ≡ refused_nothing)) ⊎ ((x ≡ refused_nothing) × (y ≡ answered_nothing))

-- as many lines, and each two at one place are equal or both `nothing`
abbrev pub AreAlike : List Line → List Line → Type 0
AreAlike [] [] = Unit {0}
AreAlike (x ∷ xs) (y ∷ ys) = ((x ≡ y) ⊎ AreNothing x y) × AreAlike xs ys
AreAlike [] (y ∷ ys) = ⊥
AreAlike (x ∷ xs) [] = ⊥
