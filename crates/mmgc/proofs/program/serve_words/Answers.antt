use Rattle.std.proofs.Common.{Err, ap, sym, ◌∙◌, refl, inl, inr}
use Rattle.mmgc.specs.Requests.{asked_by}
use Rattle.mmgc.specs.Words.{choice_in, choice_taken}
use Rattle.mmgc.proofs.program.serve_words.Goals as goal

pub returns-in-Ok-clause-ran : goal.returns-in-Ok-clause-ran
returns-in-Ok-clause-ran g c words is =
    inr (inr (asked_by c.in-Ok.request, ap choice_in (sym is) ∙ c.in-Ok.ensures.read, c.serve.ensures.served))

pub returns-in-Err-NoMemory-clause-ran : goal.returns-in-Err-NoMemory-clause-ran
returns-in-Err-NoMemory-clause-ran g c words is =
    inr (inl (record {
      status = c.no_memory.ensures.status;
      no_heap = c.no_memory.ensures.heap;
      text = c.no_memory.ensures.said;
      unread = refl;
      unwritten = record { taken = refl; faults = refl };
    }))

pub returns-in-Err-Refused-clause-ran : goal.returns-in-Err-Refused-clause-ran
returns-in-Err-Refused-clause-ran g c words is =
    inl (record {
      unreadable = ap choice_taken (sym is)
          ∙ c.in-Err-Refused.ensures.refused (ap (λ f. Err f) c.in-Err-Refused.field-0-is);
      status = refl;
      no_heap = refl;
      text = c.tell.ensures;
      unread = refl;
      unwritten = record { taken = refl; faults = refl };
    })
