-- A spelling ends with its only newline byte.
use Rattle.std.proofs.Common.{◌≡◌, ◌≢◌, ℕ, zero, suc, ◌+◌, ◌/◌, ◌%◌, Bool, true, false, not, ◌==◌, nat_lt}
use Rattle.std.proofs.Common.{if◌then◌else◌, List, [], ◌∷◌, ◌++◌, codes, decimal, refl, ap, ◌∙◌, sym, append_assoc}
use Rattle.std.proofs.Common.{arith}
use Rattle.std.specs.Fmt.{digits, digits_onto, digit_glyph}
use Rattle.std.specs.List.{AllByRecursion, list_all}
use Rattle.std.proofs.lemmas.Bool.Decides.{nat_tests}
use Rattle.std.proofs.lemmas.List.Elements.{All-nil, All-cons, All-append, All-weaker}
use Rattle.std.proofs.lemmas.List.Sums.{AllPass-from_list_all}
use Rattle.mm_model.specs.declared.object.Kind.{Kind}
use Rattle.mm_model.specs.declared.object.Kind.TheVariants.{Traced, Leaf, Counted, Weak}
use Rattle.mm_model.specs.declared.refusal.Refusal.{Refusal}
use Rattle.mm_model.specs.declared.refusal.Refusal.TheVariants as refusals
use Rattle.mm_model.specs.declared.reply.Reply.{Reply}
use Rattle.mm_model.specs.declared.reply.Reply.TheVariants as replies
use Rattle.mm_model.specs.declared.line.Line.{Line}
use Rattle.mm_model.specs.declared.line.Line.TheVariants as lines
use Rattle.mm_model.specs.declared.line.Phase.{Phase}
use Rattle.mm_model.specs.declared.line.Phase.TheVariants as phases
use Rattle.mm_model.specs.Logs.Spelling.{sentence, refusal_text, kind_word, phase_word, spelling}
use Rattle.mm_model.proofs.Text.Traces.{NoNewline}

-- bytes that end with their only newline byte
pub record EndsOnce (bytes : List ℕ) : Type 0 where
  pub body : List ℕ
  pub is : bytes ≡ body ++ 10 ∷ []
  pub clean : NoNewline body

-- bytes behind which come some that end so
onto : (word rest : List ℕ) → NoNewline word → EndsOnce rest → EndsOnce (word ++ rest)
onto word rest clean ends =
    record {
      body = word ++ ends.body;
      is = ap (λ (xs : List ℕ). word ++ xs) ends.is ∙ sym (append_assoc word ends.body (10 ∷ []));
      clean = All-append (λ (b : ℕ). b ≢ 10) word ends.body clean ends.clean;
    }

other_byte : (b : ℕ) → not (b == 10) ≡ true → b ≢ 10
other_byte b e = grind (arith, nat_tests)

clean_if : (word : List ℕ) → list_all (λ b. not (b == 10)) word ≡ true → NoNewline word
clean_if word passes =
    All-weaker (λ (b : ℕ). not (b == 10) ≡ true) (λ (b : ℕ). b ≢ 10) other_byte word
    (AllPass-from_list_all (λ (b : ℕ). not (b == 10)) word passes)

space : NoNewline (32 ∷ [])
space = clean_if (32 ∷ []) refl

only_newline : EndsOnce (10 ∷ [])
only_newline = record { body = []; is = refl; clean = All-nil (λ (b : ℕ). b ≢ 10) }

sentence-ends : (words : List (List ℕ)) → AllByRecursion NoNewline words → EndsOnce (sentence words)
sentence-ends [] clean = only_newline
sentence-ends (word ∷ []) clean = onto word (10 ∷ []) clean.0 only_newline
sentence-ends (word ∷ next ∷ words) clean =
    onto word (32 ∷ sentence (next ∷ words)) clean.0
    (onto (32 ∷ []) (sentence (next ∷ words)) space (sentence-ends (next ∷ words) clean.1))

indented-ends : (words : List (List ℕ)) → AllByRecursion NoNewline words → EndsOnce (32 ∷ sentence words)
indented-ends words clean = onto (32 ∷ []) (sentence words) space (sentence-ends words clean)

-- a digit is no newline byte, whatever comes before it
digit_glyph-clean : (d : ℕ) → digit_glyph false d ≢ 10
digit_glyph-clean d =
    let split : (b : Bool) → (if b then 48 + d else 87 + d) ≢ 10 =
    elim [ true ↦ λ e. absurd (omega arith) | false ↦ λ e. absurd (omega arith) ] in
    split (nat_lt d 10)

digits_onto-clean : (k n : ℕ) (behind : List ℕ) → NoNewline behind → NoNewline (digits_onto k 10 false n behind)
digits_onto-clean zero n behind clean = clean
digits_onto-clean (suc k) n behind clean =
    let longer = digit_glyph false (n % 10) ∷ behind in
    let longer_clean : NoNewline longer =
    All-cons (λ (b : ℕ). b ≢ 10) (digit_glyph false (n % 10)) behind (digit_glyph-clean (n % 10)) clean in
    let split : (b : Bool) → NoNewline (if b then longer else digits_onto k 10 false (n / 10) longer) =
    elim [ true ↦ longer_clean | false ↦ digits_onto-clean k (n / 10) longer longer_clean ] in
    split (n / 10 == 0)

number : (n : ℕ) → NoNewline (decimal n)
unfolding digits
number n = digits_onto-clean 64 n [] (All-nil (λ (b : ℕ). b ≢ 10))

-- the words of a refusal as one
refusal-clean : (refusal : Refusal) → NoNewline (refusal_text refusal)
refusal-clean refusals.NoCell = clean_if (codes "no cell") refl
refusal-clean refusals.Shape = clean_if (codes "bad shape") refl
refusal-clean refusals.NoArea = clean_if (codes "no area") refl
refusal-clean refusals.Nothing = clean_if (codes "nothing") refl
refusal-clean refusals.Outside = clean_if (codes "outside") refl
refusal-clean refusals.NoWeak = clean_if (codes "no weak") refl
refusal-clean refusals.NoSlot = clean_if (codes "no slot") refl
refusal-clean refusals.NotCounted = clean_if (codes "not counted") refl
refusal-clean refusals.StackFull = clean_if (codes "stack full") refl
refusal-clean refusals.AreasFull = clean_if (codes "areas full") refl
refusal-clean refusals.Full = clean_if (codes "full") refl
refusal-clean refusals.Busy = clean_if (codes "busy") refl
refusal-clean refusals.Idle = clean_if (codes "idle") refl

kind-clean : (kind : Kind) (finalize : Bool) → NoNewline (kind_word kind finalize)
kind-clean Traced true = clean_if (codes "tf") refl
kind-clean Leaf true = clean_if (codes "lf") refl
kind-clean Counted true = clean_if (codes "rf") refl
kind-clean Weak true = clean_if (codes "wf") refl
kind-clean Traced false = clean_if (codes "t") refl
kind-clean Leaf false = clean_if (codes "l") refl
kind-clean Counted false = clean_if (codes "r") refl
kind-clean Weak false = clean_if (codes "w") refl

phase-clean : (what : Phase) → NoNewline (phase_word what)
phase-clean phases.Reap = clean_if (codes "reap") refl
phase-clean phases.Collect = clean_if (codes "collect") refl

reply-ends : (reply : Reply) → EndsOnce (spelling (lines.Reply reply))
reply-ends replies.Done = sentence-ends (codes "ok" ∷ []) (clean_if (codes "ok") refl, tt)
reply-ends replies.Loose = sentence-ends (codes "loose" ∷ []) (clean_if (codes "loose") refl, tt)
reply-ends (replies.New base) =
    sentence-ends (codes "new" ∷ decimal base ∷ []) (clean_if (codes "new") refl, (number base, tt))
reply-ends (replies.Word word) =
    sentence-ends (codes "word" ∷ decimal word ∷ []) (clean_if (codes "word") refl, (number word, tt))
reply-ends (replies.Area area) =
    sentence-ends (codes "area" ∷ decimal area.number ∷ decimal area.base ∷ [])
    (clean_if (codes "area") refl, (number area.number, (number area.base, tt)))
reply-ends (replies.Object found) =
    sentence-ends
    (codes "object" ∷ decimal found.base ∷ kind_word found.kind found.finalize ∷ decimal found.extent ∷ []) (
      clean_if (codes "object") refl,
      (number found.base, (kind-clean found.kind found.finalize, (number found.extent, tt))),
    )
reply-ends replies.Nothing = sentence-ends (codes "nothing" ∷ []) (clean_if (codes "nothing") refl, tt)
reply-ends (replies.Stat stat) =
    sentence-ends
    (codes "stat" ∷ decimal stat.objects ∷ decimal stat.zero ∷ decimal stat.areas ∷ decimal stat.free ∷ []) (
      clean_if (codes "stat") refl,
      (number stat.objects, (number stat.zero, (number stat.areas, (number stat.free, tt)))),
    )
reply-ends (replies.Refused refusal) = sentence-ends (refusal_text refusal ∷ []) (refusal-clean refusal, tt)

pub spelling-ends : (line : Line) → EndsOnce (spelling line)
spelling-ends (lines.Scan base slots) =
    indented-ends (codes "scan" ∷ decimal base ∷ decimal slots ∷ [])
    (clean_if (codes "scan") refl, (number base, (number slots, tt)))
spelling-ends (lines.Final base slots total) =
    indented-ends (codes "final" ∷ decimal base ∷ decimal slots ∷ decimal total ∷ [])
    (clean_if (codes "final") refl, (number base, (number slots, (number total, tt))))
spelling-ends (lines.Phase what freed) =
    indented-ends (phase_word what ∷ decimal freed ∷ []) (phase-clean what, (number freed, tt))
spelling-ends (lines.Free base) =
    indented-ends (codes "free" ∷ decimal base ∷ []) (clean_if (codes "free") refl, (number base, tt))
spelling-ends (lines.Reply reply) = reply-ends reply
spelling-ends (lines.Total totals) =
    sentence-ends
    (codes "total" ∷ decimal totals.commands ∷ decimal totals.born ∷ decimal totals.freed ∷ decimal totals.live ∷ []) (
      clean_if (codes "total") refl,
      (number totals.commands, (number totals.born, (number totals.freed, (number totals.live, tt)))),
    )
