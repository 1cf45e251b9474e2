-- A table that reads the words of a line back, and so tells lines apart.
use Rattle.std.proofs.Common.{◌≡◌, ℕ, ◌<◌, ◌^◌, Bool, true, false, ◌⊎◌, ⊎_elim, inl, inr, List, [], ◌∷◌, Option, Some}
use Rattle.std.proofs.Common.{None, option_map, codes, decimal, get_or, refl, sym, ◌∙◌, ap, arith}
use Rattle.std.specs.List.{All}
use Rattle.std.specs.Str.Parse.{digits_value}
use Rattle.std.proofs.lemmas.List.Elements.{All-weaker}
use Rattle.std.proofs.lemmas.Fmt.{decimal_is_IsNumeral_wide}
use Rattle.mm_model.specs.declared.object.Kind.{Kind}
use Rattle.mm_model.specs.declared.object.Kind.TheVariants.{Traced, Leaf, Counted, Weak}
use Rattle.mm_model.specs.declared.refusal.Refusal.{Refusal}
use Rattle.mm_model.specs.declared.refusal.Refusal.TheVariants as refusals
use Rattle.mm_model.specs.declared.reply.Reply.{Reply}
use Rattle.mm_model.specs.declared.reply.Reply.TheVariants as replies
use Rattle.mm_model.specs.declared.line.Line.{Line}
use Rattle.mm_model.specs.declared.line.Line.TheVariants as lines
use Rattle.mm_model.specs.declared.line.Phase.TheVariants as phases
use Rattle.mm_model.specs.Logs.Spelling.{kind_word}
use Rattle.mm_model.specs.Logs.Trace.{entry_at}
use Rattle.mm_laws.specs.Lines.{reply_numbers, numbers_of, IsSpelledInFull, AreNothing, answered_nothing}
use Rattle.mm_laws.specs.Lines.{refused_nothing}
use Rattle.mm_laws.proofs.Lines.LineWords.{line_words}

abbrev word_at : ℕ → List (List ℕ) → List ℕ
word_at i words = get_or words i []

abbrev number_at : ℕ → List (List ℕ) → ℕ
number_at i words = digits_value 10 (word_at i words)

-- each kind word, with the kind and whether there is a finalizer
abbrev kinds : List (List ℕ × (Kind × Bool))
kinds =
    (codes "t", (Traced, false)) ∷ (codes "l", (Leaf, false)) ∷ (codes "r", (Counted, false)) ∷
    (codes "w", (Weak, false)) ∷ (codes "tf", (Traced, true)) ∷ (codes "lf", (Leaf, true)) ∷
    (codes "rf", (Counted, true)) ∷ (codes "wf", (Weak, true)) ∷ []

-- what isn't there, where a refusal begins with `no`
abbrev missing : List (List ℕ × Refusal)
missing =
    (codes "cell", refusals.NoCell) ∷ (codes "area", refusals.NoArea) ∷ (codes "weak", refusals.NoWeak) ∷
    (codes "slot", refusals.NoSlot) ∷ []

abbrev refused : Refusal → Line
refused refusal = lines.Reply (replies.Refused refusal)

abbrev told : ℕ → ℕ → Kind × Bool → Line
told base extent shape =
    lines.Reply (replies.Object (record { base = base; kind = shape.0; finalize = shape.1; extent = extent }))

-- each first word, with the line that the words behind it make
abbrev readers : List (List ℕ × (List (List ℕ) → Option Line))
readers =
    (codes "scan", λ words. Some (lines.Scan (number_at 0 words) (number_at 1 words))) ∷
    (codes "final", λ words. Some (lines.Final (number_at 0 words) (number_at 1 words) (number_at 2 words))) ∷
    (codes "reap", λ words. Some (lines.Phase phases.Reap (number_at 0 words))) ∷
    (codes "collect", λ words. Some (lines.Phase phases.Collect (number_at 0 words))) ∷
    (codes "free", λ words. Some (lines.Free (number_at 0 words))) ∷
    (codes "ok", λ words. Some (lines.Reply replies.Done)) ∷
    (codes "loose", λ words. Some (lines.Reply replies.Loose)) ∷
    (codes "new", λ words. Some (lines.Reply (replies.New (number_at 0 words)))) ∷
    (codes "word", λ words. Some (lines.Reply (replies.Word (number_at 0 words)))) ∷ (
      codes "area",
      λ words.
          Some (lines.Reply (replies.Area (record { number = number_at 0 words; base = number_at 1 words }))),
    ) ∷ (
      codes "object",
      λ words.
          option_map (told (number_at 0 words) (number_at 2 words)) (entry_at kinds (word_at 1 words)),
    ) ∷
    (codes "nothing", λ words. Some answered_nothing) ∷ (
      codes "stat",
      λ words.
          Some (lines.Reply (replies.Stat (record {
            objects = number_at 0 words;
            zero = number_at 1 words;
            areas = number_at 2 words;
            free = number_at 3 words;
          }))),
    ) ∷ (
      codes "total",
      λ words.
          Some (lines.Total (record {
            commands = number_at 0 words;
            born = number_at 1 words;
            freed = number_at 2 words;
            live = number_at 3 words;
          })),
    ) ∷
    (codes "no", λ words. option_map refused (entry_at missing (word_at 0 words))) ∷
    (codes "bad", λ words. Some (refused refusals.Shape)) ∷
    (codes "outside", λ words. Some (refused refusals.Outside)) ∷
    (codes "not", λ words. Some (refused refusals.NotCounted)) ∷
    (codes "stack", λ words. Some (refused refusals.StackFull)) ∷
    (codes "areas", λ words. Some (refused refusals.AreasFull)) ∷
    (codes "full", λ words. Some (refused refusals.Full)) ∷
    (codes "busy", λ words. Some (refused refusals.Busy)) ∷
    (codes "idle", λ words. Some (refused refusals.Idle)) ∷ []

abbrev read_by : Option (List (List ℕ) → Option Line) → List (List ℕ) → Option Line
read_by None words = None
read_by (Some reader) words = reader words

abbrev read_from : List ℕ → List (List ℕ) → Option Line
read_from first words = read_by (entry_at readers first) words

-- the line that words make; an empty word in front is the indentation
abbrev read_words : List (List ℕ) → Option Line
read_words [] = None
read_words ([] ∷ []) = None
read_words ([] ∷ first ∷ words) = read_from first words
read_words ((b ∷ bytes) ∷ words) = read_from (b ∷ bytes) words

number-back : (n : ℕ) → n < 10 ^ 64 → digits_value 10 (decimal n) ≡ n
number-back n full = (decimal_is_IsNumeral_wide n full).1

kind-back : (kind : Kind) (finalize : Bool) → entry_at kinds (kind_word kind finalize) ≡ Some (kind, finalize)
kind-back Traced true = refl
kind-back Traced false = refl
kind-back Leaf true = refl
kind-back Leaf false = refl
kind-back Counted true = refl
kind-back Counted false = refl
kind-back Weak true = refl
kind-back Weak false = refl

-- the words of the line make the line, but for the refusal `nothing`
abbrev IsReadBack : Line → Type 0
IsReadBack line = (read_words (line_words line) ≡ Some line) ⊎ (line ≡ refused_nothing)

refusal-back : (refusal : Refusal) → IsReadBack (refused refusal)
refusal-back refusals.NoCell = inl refl
refusal-back refusals.Shape = inl refl
refusal-back refusals.NoArea = inl refl
refusal-back refusals.Nothing = inr refl
refusal-back refusals.Outside = inl refl
refusal-back refusals.NoWeak = inl refl
refusal-back refusals.NoSlot = inl refl
refusal-back refusals.NotCounted = inl refl
refusal-back refusals.StackFull = inl refl
refusal-back refusals.AreasFull = inl refl
refusal-back refusals.Full = inl refl
refusal-back refusals.Busy = inl refl
refusal-back refusals.Idle = inl refl

abbrev IsEachBack : List ℕ → Type 0
IsEachBack numbers = All (λ (n : ℕ). digits_value 10 (decimal n) ≡ n) numbers

reply-back : (reply : Reply) → IsEachBack (reply_numbers reply) → IsReadBack (lines.Reply reply)
reply-back replies.Done back = inl refl
reply-back replies.Loose back = inl refl
reply-back (replies.New base) back = inl (λ i. Some (lines.Reply (replies.New (back 0 0 (omega arith) i))))
reply-back (replies.Word word) back = inl (λ i. Some (lines.Reply (replies.Word (back 0 0 (omega arith) i))))
reply-back (replies.Area area) back =
    inl (λ i. Some (lines.Reply (replies.Area (record {
      number = back 0 0 (omega arith) i;
      base = back 1 0 (omega arith) i;
    }))))
reply-back (replies.Object found) back =
    inl (λ i. option_map (told (back 0 0 (omega arith) i) (back 1 0 (omega arith) i))
    (kind-back found.kind found.finalize i))
reply-back replies.Nothing back = inl refl
reply-back (replies.Stat stat) back =
    inl (λ i. Some (lines.Reply (replies.Stat (record {
      objects = back 0 0 (omega arith) i;
      zero = back 1 0 (omega arith) i;
      areas = back 2 0 (omega arith) i;
      free = back 3 0 (omega arith) i;
    }))))
reply-back (replies.Refused refusal) back = refusal-back refusal

line-back : (line : Line) → IsEachBack (numbers_of line) → IsReadBack line
line-back (lines.Scan base slots) back =
    inl (λ i. Some (lines.Scan (back 0 0 (omega arith) i) (back 1 0 (omega arith) i)))
line-back (lines.Final base slots total) back =
    inl (λ i. Some (lines.Final (back 0 0 (omega arith) i) (back 1 0 (omega arith) i) (back 2 0 (omega arith) i)))
line-back (lines.Phase phases.Reap freed) back = inl (λ i. Some (lines.Phase phases.Reap (back 0 0 (omega arith) i)))
line-back (lines.Phase phases.Collect freed) back =
    inl (λ i. Some (lines.Phase phases.Collect (back 0 0 (omega arith) i)))
line-back (lines.Free base) back = inl (λ i. Some (lines.Free (back 0 0 (omega arith) i)))
line-back (lines.Reply reply) back = reply-back reply back
line-back (lines.Total totals) back =
    inl (λ i. Some (lines.Total (record {
      commands = back 0 0 (omega arith) i;
      born = back 1 0 (omega arith) i;
      freed = back 2 0 (omega arith) i;
      live = back 3 0 (omega arith) i;
    })))

read_back : (line : Line) → IsSpelledInFull line → IsReadBack line
read_back line full =
    line-back line
    (All-weaker (λ (n : ℕ). n < 10 ^ 64) (λ (n : ℕ). digits_value 10 (decimal n) ≡ n) number-back (numbers_of line)
    full)

-- what reads as a line and is spelled as `nothing` is the answer
is_nothing : (line : Line) → read_words (line_words line) ≡ Some line
    → line_words line ≡ line_words refused_nothing → line ≡ answered_nothing
is_nothing line back same =
    let read : Some line ≡ Some answered_nothing = sym back ∙ ap read_words same in
    cc

-- lines of the same words are the same, or both `nothing`
pub line_words-alike : (x y : Line) → IsSpelledInFull x → IsSpelledInFull y → line_words x ≡ line_words y
    → (x ≡ y) ⊎ AreNothing x y
line_words-alike x y full_x full_y same =
    ⊎_elim
    (λ (p : read_words (line_words x) ≡ Some x).
    ⊎_elim
    (λ (q : read_words (line_words y) ≡ Some y).
    let read : Some x ≡ Some y = sym p ∙ ap read_words same ∙ q in inl (cc))
    (λ (q : y ≡ refused_nothing). inr (inl (is_nothing x p (same ∙ ap line_words q), q)))
    (read_back y full_y))
    (λ (p : x ≡ refused_nothing).
    ⊎_elim
    (λ (q : read_words (line_words y) ≡ Some y). inr (inr (p, is_nothing y q (sym same ∙ ap line_words p))))
    (λ (q : y ≡ refused_nothing). inl (p ∙ sym q)) (read_back y full_y))
    (read_back x full_x)
