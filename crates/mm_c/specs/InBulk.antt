-- What C does without a command to more than one word: it takes away the cells below the top, and reads and writes the
-- words of leaves.
use Rattle.std.specs.Prelude.{◌≡◌, ℕ, List, length, Option, Result, IfOk, IfErr, OnErr}
use Rattle.mm_model.specs.declared.refusal.Refusal.{Refusal}
use Rattle.mm_gc.specs.declared.bare_words.WordsFault.{WordsFault}
use Rattle.mm_gc.specs.BareWords.{AreRead, AreWritten, IsWordsFault, WordsStore}
use Rattle.mm_gc.specs.Gc.{Gc, view_of_gc}
use Rattle.mm_gc.specs.Replies.{done_reply}
use Rattle.mm_gc.specs.Sliding.{SlideAnswer}
use Rattle.mm_c.specs.declared.answer.MmAnswer.{MmAnswer}
use Rattle.mm_c.specs.declared.owned.Owned.{Owned}
use Rattle.mm_c.specs.declared.status.Status.TheVariants as statuses
use Rattle.mm_c.specs.Answer.{bare, answer_of, answer_in_bulk}
use Rattle.mm_c.specs.Calls.{OnHeap}

-- The k cells below the top went, or there are fewer. The finalizers that wait stay.
pub record IsSlidBy (old new : Owned) (k : ℕ) (answer : MmAnswer) : Type 0 where
  pub slid : Result Unit Refusal
  pub slid_is : SlideAnswer old.gc new.gc k slid
  pub finals : new.finals ≡ old.finals
  pub answer_is : answer ≡ answer_of (done_reply slid)

abbrev pub Slides : Option Owned → Option Owned → ℕ → MmAnswer → Type 0
Slides before after k answer =
    OnHeap before after (λ old new. IsSlidBy old new k answer) (answer ≡ bare statuses.Closed)

-- the slots from one on of what a stack cell means, and the words at the place that C gives, before and after
pub record WordsPlace : Type 0 where
  pub cell : ℕ
  pub slot : ℕ
  pub before : List ℕ
  pub after : List ℕ

-- The words are at the place, or there is a cause, and the place stays.
pub record AreReadTo (gc : Gc) (place : WordsPlace) (answer : MmAnswer) : Type 0 where
  pub done : Result Unit WordsFault
  pub read : IfOk done (λ _. AreRead (view_of_gc gc) place.cell place.slot place.before place.after)
  pub cause : IfErr done (IsWordsFault (view_of_gc gc) place.cell place.slot (length place.before))
  pub unchanged : OnErr done (place.after ≡ place.before)
  pub answer_is : answer ≡ answer_in_bulk done

abbrev pub ReadsWords : Option Owned → Option Owned → WordsPlace → MmAnswer → Type 0
ReadsWords before after place answer =
    OnHeap before after (λ old new. (new ≡ old) × AreReadTo old.gc place answer)
    ((answer ≡ bare statuses.Closed) × (place.after ≡ place.before))

-- The words are in the slots, or there is a cause, and the heap stays. The finalizers that wait stay.
pub record AreWrittenTo (old new : Owned) (store : WordsStore) (answer : MmAnswer) : Type 0 where
  pub done : Result Unit WordsFault
  pub written : IfOk done (λ _. AreWritten (view_of_gc old.gc) (view_of_gc new.gc) store)
  pub cause : IfErr done (IsWordsFault (view_of_gc old.gc) store.cell store.slot (length store.words))
  pub unchanged : OnErr done (new.gc ≡ old.gc)
  pub finals : new.finals ≡ old.finals
  pub answer_is : answer ≡ answer_in_bulk done

abbrev pub WritesWords : Option Owned → Option Owned → WordsStore → MmAnswer → Type 0
WritesWords before after store answer =
    OnHeap before after (λ old new. AreWrittenTo old new store answer) (answer ≡ bare statuses.Closed)
