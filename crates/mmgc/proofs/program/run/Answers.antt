-- What the words came to, and whether that was the whole of the input.
use Rattle.std.proofs.Common.{map, ap, refl, inl, inr, ◌∙◌}
use Rattle.mmgc.proofs.Completing.{complete}
use Rattle.mmgc.proofs.program.run.Goals as goal

pub returns-in-Ok-clause-ran : goal.returns-in-Ok-clause-ran
returns-in-Ok-clause-ran g c =
    c.serve_words.ensures.ran _ (ap (map (λ word. word.now)) c.as_slice.ensures.value ∙ c.in-Ok.ensures)

pub returns-in-Ok-clause-complete : goal.returns-in-Ok-clause-complete
returns-in-Ok-clause-complete g c =
    complete _ _ c.serve_words.result _
    (c.serve_words.ensures.ran _ (ap (map (λ word. word.now)) c.as_slice.ensures.value ∙ c.in-Ok.ensures))

pub returns-in-Err-clause-ran : goal.returns-in-Err-clause-ran
returns-in-Err-clause-ran g c =
    inr (inl (record {
      status = c.no_memory.ensures.status;
      no_heap = c.no_memory.ensures.heap;
      text = c.no_memory.ensures.said;
      unread = refl;
      unwritten = record { taken = refl; faults = refl };
    }))

pub returns-in-Err-clause-complete : goal.returns-in-Err-clause-complete
returns-in-Err-clause-complete g c u = inr c.no_memory.ensures.status
