-- What C reads without a command: a stack cell, and a slot of the object in which a word falls.
use Rattle.std.specs.Prelude.{◌≡◌, ℕ, Option, Result}
use Rattle.mm_model.specs.declared.refusal.Refusal.{Refusal}
use Rattle.mm_gc.specs.Describing.{SlotAnswer}
use Rattle.mm_gc.specs.Gc.{Gc, view_of_gc}
use Rattle.mm_gc.specs.Refused.{CellAnswer}
use Rattle.mm_gc.specs.Replies.{word_reply}
use Rattle.mm_c.specs.declared.answer.MmAnswer.{MmAnswer}
use Rattle.mm_c.specs.declared.owned.Owned.{Owned}
use Rattle.mm_c.specs.declared.status.Status.TheVariants as statuses
use Rattle.mm_c.specs.Answer.{bare, answer_of}
use Rattle.mm_c.specs.Calls.{OnHeap}

-- a word that the heap has, or the refusal that it gives, is told
pub record TellsWord (has : Result ℕ Refusal → Type 0) (answer : MmAnswer) : Type 0 where
  pub read : Result ℕ Refusal
  pub read_is : has read
  pub answer_is : answer ≡ answer_of (word_reply read)

-- so of an open heap, which stays
abbrev pub Reads : Option Owned → Option Owned → (Gc → Result ℕ Refusal → Type 0) → MmAnswer → Type 0
Reads before after has answer =
    OnHeap before after (λ old new. (new ≡ old) × TellsWord (has old.gc) answer) (answer ≡ bare statuses.Closed)

-- the word of a stack cell
abbrev pub ReadsCell : Option Owned → Option Owned → ℕ → MmAnswer → Type 0
ReadsCell before after i = Reads before after (λ gc. CellAnswer gc.stack.words i)

-- a slot of the object in which a word falls
abbrev pub Loads : Option Owned → Option Owned → ℕ → ℕ → MmAnswer → Type 0
Loads before after word s = Reads before after (λ gc. SlotAnswer (view_of_gc gc) word s)
