use Rattle.std.proofs.Common.{arith, ap, subst, sym, ◌∙◌, ◌≡◌, Bool, ◌&&◌}
use Rattle.std.proofs.lemmas.Bool.{lt-ltb}
use Rattle.mm_pages.specs.Pages.{Pages, is_free_page, unused, run_at}
use Rattle.mm_pages.specs.Kept.{pages_of}
use Rattle.mm_pages.proofs.Kept.{IsFreePage-unused, unused-IsFreePage}
use Rattle.mm_pages.proofs.page_heap.PageHeap.is_free.Goals as goal

pub returns-then-p-self-clause-free : goal.returns-then-p-self-clause-free
returns-then-p-self-clause-free c = rw (← c.self.view_is) (
  (λ t. IsFreePage-unused (pages_of c.self.inside.table c.self.inside.limit) c.args.p
      (sym (c.is_free.ensures _ c.self.invariant.shows) ∙ t) (omega arith)),
  (λ f. c.is_free.ensures _ c.self.invariant.shows ∙ unused-IsFreePage
      (pages_of c.self.inside.table c.self.inside.limit) c.args.p c.self.invariant.sound f),
)

pub returns-then-p-self-clause-test : goal.returns-then-p-self-clause-test
returns-then-p-self-clause-test c = subst (λ (v : Pages). c.is_free.result ≡ is_free_page v c.args.p) c.self.view_is
    (c.is_free.ensures _ c.self.invariant.shows
    ∙ sym (ap (λ (b : Bool). b && unused (run_at (pages_of c.self.inside.table c.self.inside.limit)) c.args.p)
    (lt-ltb c.args.p c.self.inside.limit (omega arith))))
