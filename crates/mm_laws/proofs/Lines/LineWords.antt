-- The words of each line of a log.
use Rattle.std.proofs.Common.{◌≡◌, ℕ, ◌<◌, Bool, true, false, List, [], ◌∷◌, ◌++◌, ◌&&◌, length, map, codes, decimal}
use Rattle.std.proofs.Common.{nat_lt, refl, sym, ap, arith}
use Rattle.std.specs.List.{list_all, slice_split, join_with_byte}
use Rattle.std.proofs.lemmas.List.Splits.{join_with_byte-slice_split, length-slice_split}
use Rattle.mm_model.specs.declared.object.Kind.{Kind}
use Rattle.mm_model.specs.declared.object.Kind.TheVariants.{Traced, Leaf, Counted, Weak}
use Rattle.mm_model.specs.declared.refusal.Refusal.{Refusal}
use Rattle.mm_model.specs.declared.refusal.Refusal.TheVariants as refusals
use Rattle.mm_model.specs.declared.reply.Reply.{Reply}
use Rattle.mm_model.specs.declared.reply.Reply.TheVariants as replies
use Rattle.mm_model.specs.declared.line.Line.{Line}
use Rattle.mm_model.specs.declared.line.Line.TheVariants as lines
use Rattle.mm_model.specs.declared.line.Phase.{Phase}
use Rattle.mm_model.specs.declared.line.Phase.TheVariants as phases
use Rattle.mm_model.specs.Logs.Spelling.{refusal_text, kind_word, phase_word, spelling}
use Rattle.mm_model.proofs.Text.Traces.{NoNewline}
use Rattle.mm_laws.proofs.Lines.Words.{AreWords, are_words, IsWord-from_test, decimal-word, sentence-joined}
use Rattle.mm_laws.proofs.Lines.Words.{joined_words-no_newline, is_space}

abbrev pub refusal_words : Refusal → List (List ℕ)
refusal_words refusal = slice_split is_space (refusal_text refusal)

abbrev pub reply_words : Reply → List (List ℕ)
reply_words replies.Done = codes "ok" ∷ []
reply_words replies.Loose = codes "loose" ∷ []
reply_words (replies.New base) = codes "new" ∷ decimal base ∷ []
reply_words (replies.Word word) = codes "word" ∷ decimal word ∷ []
reply_words (replies.Area area) = codes "area" ∷ decimal area.number ∷ decimal area.base ∷ []
reply_words (replies.Object found) =
    codes "object" ∷ decimal found.base ∷ kind_word found.kind found.finalize ∷ decimal found.extent ∷ []
reply_words replies.Nothing = codes "nothing" ∷ []
reply_words (replies.Stat stat) =
    codes "stat" ∷ decimal stat.objects ∷ decimal stat.zero ∷ decimal stat.areas ∷ decimal stat.free ∷ []
reply_words (replies.Refused refusal) = refusal_words refusal

-- an indented line has an empty word in front
abbrev pub line_words : Line → List (List ℕ)
line_words (lines.Scan base slots) = [] ∷ codes "scan" ∷ decimal base ∷ decimal slots ∷ []
line_words (lines.Final base slots total) =
    [] ∷ codes "final" ∷ decimal base ∷ decimal slots ∷ decimal total ∷ []
line_words (lines.Phase what freed) = [] ∷ phase_word what ∷ decimal freed ∷ []
line_words (lines.Free base) = [] ∷ codes "free" ∷ decimal base ∷ []
line_words (lines.Reply reply) = reply_words reply
line_words (lines.Total totals) =
    codes "total" ∷ decimal totals.commands ∷ decimal totals.born ∷ decimal totals.freed ∷ decimal totals.live ∷ []

-- a spelling without its newline
abbrev pub body : Line → List ℕ
body line = join_with_byte 32 (line_words line)

reply-joined : (reply : Reply) → spelling (lines.Reply reply) ≡ body (lines.Reply reply) ++ 10 ∷ []
reply-joined replies.Done = refl
reply-joined replies.Loose = refl
reply-joined (replies.New base) = sentence-joined (reply_words (replies.New base))
reply-joined (replies.Word word) = sentence-joined (reply_words (replies.Word word))
reply-joined (replies.Area area) = sentence-joined (reply_words (replies.Area area))
reply-joined (replies.Object found) = sentence-joined (reply_words (replies.Object found))
reply-joined replies.Nothing = refl
reply-joined (replies.Stat stat) = sentence-joined (reply_words (replies.Stat stat))
reply-joined (replies.Refused refusal) =
    ap (λ (text : List ℕ). text ++ 10 ∷ []) (sym (join_with_byte-slice_split 32 (refusal_text refusal)))

-- a spelling is its words with spaces in between, and a newline
pub spelling-body : (line : Line) → spelling line ≡ body line ++ 10 ∷ []
spelling-body (lines.Scan base slots) = sentence-joined (line_words (lines.Scan base slots))
spelling-body (lines.Final base slots total) = sentence-joined (line_words (lines.Final base slots total))
spelling-body (lines.Phase what freed) = sentence-joined (line_words (lines.Phase what freed))
spelling-body (lines.Free base) = sentence-joined (line_words (lines.Free base))
spelling-body (lines.Reply reply) = reply-joined reply
spelling-body (lines.Total totals) = sentence-joined (line_words (lines.Total totals))

AreWords-from_test : (words : List (List ℕ)) → are_words words ≡ true → AreWords words
AreWords-from_test [] passes = tt
AreWords-from_test (word ∷ words) passes =
    let split : (a b : Bool) → list_all (nat_lt 32) word ≡ a → are_words words ≡ b → (a && b) ≡ true
    → AreWords (word ∷ words) =
    elim [
      | true ↦ elim [
        | true ↦ λ p q e. (IsWord-from_test word p, AreWords-from_test words q)
        | false ↦ λ p q e. cc
      ]
      | false ↦ λ b p q e. cc
    ] in
    split (list_all (nat_lt 32) word) (are_words words) refl refl passes

refusal_words-clean : (refusal : Refusal) → are_words (refusal_words refusal) ≡ true
refusal_words-clean refusals.NoCell = refl
refusal_words-clean refusals.Shape = refl
refusal_words-clean refusals.NoArea = refl
refusal_words-clean refusals.Nothing = refl
refusal_words-clean refusals.Outside = refl
refusal_words-clean refusals.NoWeak = refl
refusal_words-clean refusals.NoSlot = refl
refusal_words-clean refusals.NotCounted = refl
refusal_words-clean refusals.StackFull = refl
refusal_words-clean refusals.AreasFull = refl
refusal_words-clean refusals.Full = refl
refusal_words-clean refusals.Busy = refl
refusal_words-clean refusals.Idle = refl

kind_word-clean : (kind : Kind) (finalize : Bool) → list_all (nat_lt 32) (kind_word kind finalize) ≡ true
kind_word-clean Traced true = refl
kind_word-clean Traced false = refl
kind_word-clean Leaf true = refl
kind_word-clean Leaf false = refl
kind_word-clean Counted true = refl
kind_word-clean Counted false = refl
kind_word-clean Weak true = refl
kind_word-clean Weak false = refl

phase_word-clean : (what : Phase) → list_all (nat_lt 32) (phase_word what) ≡ true
phase_word-clean phases.Reap = refl
phase_word-clean phases.Collect = refl

decimals-clean : (numbers : List ℕ) → AreWords (map decimal numbers)
decimals-clean [] = tt
decimals-clean (n ∷ numbers) = (decimal-word n, decimals-clean numbers)

-- a word and then numbers
sentence-clean : (first : List ℕ) (numbers : List ℕ) → list_all (nat_lt 32) first ≡ true
    → AreWords (first ∷ map decimal numbers)
sentence-clean first numbers passes = (IsWord-from_test first passes, decimals-clean numbers)

indented-clean : (first : List ℕ) (numbers : List ℕ) → list_all (nat_lt 32) first ≡ true
    → AreWords ([] ∷ first ∷ map decimal numbers)
indented-clean first numbers passes = (IsWord-from_test [] refl, sentence-clean first numbers passes)

reply_words-clean : (reply : Reply) → AreWords (reply_words reply)
reply_words-clean replies.Done = sentence-clean (codes "ok") [] refl
reply_words-clean replies.Loose = sentence-clean (codes "loose") [] refl
reply_words-clean (replies.New base) = sentence-clean (codes "new") (base ∷ []) refl
reply_words-clean (replies.Word word) = sentence-clean (codes "word") (word ∷ []) refl
reply_words-clean (replies.Area area) = sentence-clean (codes "area") (area.number ∷ area.base ∷ []) refl
reply_words-clean (replies.Object found) = (
  IsWord-from_test (codes "object") refl,
  (
    decimal-word found.base,
    sentence-clean (kind_word found.kind found.finalize) (found.extent ∷ [])
        (kind_word-clean found.kind found.finalize),
  ),
)
reply_words-clean replies.Nothing = sentence-clean (codes "nothing") [] refl
reply_words-clean (replies.Stat stat) =
    sentence-clean (codes "stat") (stat.objects ∷ stat.zero ∷ stat.areas ∷ stat.free ∷ []) refl
reply_words-clean (replies.Refused refusal) = AreWords-from_test (refusal_words refusal) (refusal_words-clean refusal)

pub line_words-clean : (line : Line) → AreWords (line_words line)
line_words-clean (lines.Scan base slots) = indented-clean (codes "scan") (base ∷ slots ∷ []) refl
line_words-clean (lines.Final base slots total) = indented-clean (codes "final") (base ∷ slots ∷ total ∷ []) refl
line_words-clean (lines.Phase what freed) = indented-clean (phase_word what) (freed ∷ []) (phase_word-clean what)
line_words-clean (lines.Free base) = indented-clean (codes "free") (base ∷ []) refl
line_words-clean (lines.Reply reply) = reply_words-clean reply
line_words-clean (lines.Total totals) =
    sentence-clean (codes "total") (totals.commands ∷ totals.born ∷ totals.freed ∷ totals.live ∷ []) refl

-- a spelling has one newline, its last byte
pub body-no_newline : (line : Line) → NoNewline (body line)
body-no_newline line = joined_words-no_newline (line_words line) (line_words-clean line)

reply_words-some : (reply : Reply) → 0 < length (reply_words reply)
reply_words-some replies.Done = omega arith
reply_words-some replies.Loose = omega arith
reply_words-some (replies.New base) = omega arith
reply_words-some (replies.Word word) = omega arith
reply_words-some (replies.Area area) = omega arith
reply_words-some (replies.Object found) = omega arith
reply_words-some replies.Nothing = omega arith
reply_words-some (replies.Stat stat) = omega arith
reply_words-some (replies.Refused refusal) = omega (arith, length-slice_split is_space (refusal_text refusal))

pub line_words-some : (line : Line) → 0 < length (line_words line)
line_words-some (lines.Scan base slots) = omega arith
line_words-some (lines.Final base slots total) = omega arith
line_words-some (lines.Phase what freed) = omega arith
line_words-some (lines.Free base) = omega arith
line_words-some (lines.Reply reply) = reply_words-some reply
line_words-some (lines.Total totals) = omega arith
