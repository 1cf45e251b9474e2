-- The lemmas say it.
use Rattle.std.proofs.Common.{[], ◌∷◌, sym}
use Rattle.mm_audit.proofs.GrayWords.{grayed-nothing, grayed-joined}
use Rattle.mm_audit.proofs.laws.words_gray_one_by_one.Goals as goal

pub returns-clause-none : goal.returns-clause-none
returns-clause-none c = grayed-nothing

pub returns-clause-one_more : goal.returns-clause-one_more
returns-clause-one_more c objects words word = sym (grayed-joined words (word ∷ []) objects)
