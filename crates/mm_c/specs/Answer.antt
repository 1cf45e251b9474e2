-- What C is told of a reply.
use Rattle.std.specs.Prelude.{ℕ, Result, Ok, Err}
use Rattle.mm_model.specs.declared.refusal.Refusal.{Refusal}
use Rattle.mm_model.specs.declared.reply.Reply.{Reply}
use Rattle.mm_model.specs.declared.reply.Reply.TheVariants as replies
use Rattle.mm_gc.specs.declared.bare_words.WordsFault.{WordsFault}
use Rattle.mm_c.specs.declared.answer.MmAnswer.{MmAnswer}
use Rattle.mm_c.specs.declared.status.Status.{Status}
use Rattle.mm_c.specs.declared.status.Status.TheVariants as statuses
use Rattle.mm_c.specs.Status.{number, status_of, status_of_fault}

-- a status alone
abbrev pub bare : Status → MmAnswer
bare status = record { status = number status; word = 0 }

-- what was done answers a word
abbrev pub with_word : ℕ → MmAnswer
with_word word = record { status = number statuses.Done; word = word }

abbrev pub refused : Refusal → MmAnswer
refused because = bare (status_of because)

-- The word of a reply: 1 where a store was loose, the base of what was made or is meant, the word that was pushed, the
-- number of an area, or how many objects live.
abbrev pub answer_of : Reply → MmAnswer
answer_of replies.Done = with_word 0
answer_of replies.Loose = with_word 1
answer_of (replies.New base) = with_word base
answer_of (replies.Word word) = with_word word
answer_of (replies.Area area) = with_word area.number
answer_of (replies.Object found) = with_word found.base
answer_of replies.Nothing = bare statuses.Nothing
answer_of (replies.Stat stat) = with_word stat.objects
answer_of (replies.Refused because) = refused because

-- so of words that are read or written in bulk, where a word is never told
abbrev pub answer_in_bulk : {X : Type 0} → Result X WordsFault → MmAnswer
answer_in_bulk (Ok x) = bare statuses.Done
answer_in_bulk (Err fault) = bare (status_of_fault fault)
