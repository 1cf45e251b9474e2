use Rattle.std.proofs.Common.{Some, IfOk, ap, sym, subst, ◌≡◌, ◌∙◌}
use Rattle.mmgc.specs.Requests.{asked_by}
use Rattle.mmgc.specs.Words.{choice_from}
use Rattle.mmgc.proofs.Reading.{unread, unasked, same_error}
use Rattle.mmgc.proofs.words.read_words.Goals as goal

pub returns-in-Ok-clause-read : goal.returns-in-Ok-clause-read
returns-in-Ok-clause-read c =
    subst (λ values. IfOk c.requested.result (λ request. choice_from values ≡ Some (asked_by request)))
    c.in-Ok.ensures.given c.requested.ensures.asked

pub returns-in-Ok-clause-refused : goal.returns-in-Ok-clause-refused
returns-in-Ok-clause-refused c refused =
    unasked _ _ (ap choice_from (sym c.in-Ok.ensures.given) ∙ c.requested.ensures.refused refused)

pub returns-in-Err-clause-refused : goal.returns-in-Err-clause-refused
returns-in-Err-clause-refused c refused = unread _ _ (c.in-Err.ensures.refused (same_error _ _ refused))
