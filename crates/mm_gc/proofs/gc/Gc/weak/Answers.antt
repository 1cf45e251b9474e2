use Rattle.std.proofs.Common.{Some, None, ◌∙◌, sym, subst}
use Rattle.std.proofs.lemmas.Result.{err_from_is_err_and}
use Rattle.mm_model.specs.declared.command.Command.TheVariants as commands
use Rattle.mm_model.specs.declared.reply.Reply.TheVariants as replies
use Rattle.mm_gc.specs.declared.wanted.Made.{Made}
use Rattle.mm_gc.specs.declared.wanted.Made.TheVariants as made_variants
use Rattle.mm_gc.specs.declared.wanted.Wanted.TheVariants as wanted
use Rattle.mm_gc.specs.Gc.{view_of_gc}
use Rattle.mm_gc.specs.Inside.{gc_of}
use Rattle.mm_gc.specs.Making.{Searches}
use Rattle.mm_gc.proofs.Makes.Asking.{tells-answered, weak-no_area}
use Rattle.mm_gc.proofs.Makes.AskingWeak.{weak-no_weak, weak-stack_full, weak-kept_tells, weak-wanted, weak-searched}
use Rattle.mm_gc.proofs.Meaning.{unmeant-answers, begins-read}
use Rattle.mm_gc.proofs.Rows.Making.{weak-no_cell, weak-nothing}
use Rattle.mm_gc.proofs.gc.Gc.weak.Goals as goal

pub returns-in_err-target : goal.returns-in_err-target
returns-in_err-target g c =
    record {
      row = let gc = c.args.self.now in
          let p = err_from_is_err_and c.from_residual.result c.from_residual.ensures.1 in
          rw (p.1, p.2)
          (tells-answered gc gc (commands.Weak c.args.i) (replies.Refused c.in_err-target.field-0.0)
          (g.J.Finalizer.tells c.args.journal.now c.args.journal.now) (g.met.J.Finalizer.tells_nothing c.args.journal.now)
          (unmeant-answers gc c.args.i (commands.Weak c.args.i) c.in_err-target.field-0.0 c.in_err-target.ensures.answer
          (weak-no_cell (view_of_gc gc) c.args.i) (weak-nothing (view_of_gc gc) c.args.i)));
    }

pub returns-then-is_weak : goal.returns-then-is_weak
returns-then-is_weak g c =
    record {
      row = let m = c.in_ok-target.field-0 in
          weak-no_weak c.args.self.now c.args.i m.word m.found c.in_ok-target.ensures.answer
          (g.J.Finalizer.tells c.args.journal.now c.args.journal.now) (g.met.J.Finalizer.tells_nothing c.args.journal.now)
          (sym c.is_weak.ensures ∙ c.if-is_weak.true);
    }

pub returns-then-is_stack_full : goal.returns-then-is_stack_full
returns-then-is_stack_full g c =
    record {
      row = let m = c.in_ok-target.field-0 in
          weak-stack_full c.args.self.now c.args.i m.word m.found c.in_ok-target.ensures.answer
          (sym c.is_weak.ensures ∙ c.if-is_weak.false)
          (g.J.Finalizer.tells c.args.journal.now c.args.journal.now) (g.met.J.Finalizer.tells_nothing c.args.journal.now)
          (sym c.is_stack_full.ensures ∙ c.if-is_stack_full.true);
    }

pub returns-then-weak-ne0 : goal.returns-then-weak-ne0
returns-then-weak-ne0 g c =
    record {
      row = let m = c.in_ok-target.field-0 in
          weak-kept_tells c.args.self.now c.args.i m.word m.found c.in_ok-target.ensures.answer
          (sym c.is_weak.ensures ∙ c.if-is_weak.false)
          (g.J.Finalizer.tells c.args.journal.now c.args.journal.now) (g.met.J.Finalizer.tells_nothing c.args.journal.now)
          c.push_word.new.self c.link-weak.result c.in_ok-base.base
          (c.link-weak.ensures.word c.in_ok-target.ensures.answer.object
          (begins-read c.args.self.now (gc_of c.self.inside) c.args.i m.word m.found c.self.view_is
          c.in_ok-target.ensures.answer))
          c.if-weak-ne0.true c.in_ok-base.ensures;
    }

pub search-requires-clause-wanted : goal.search-requires-clause-wanted
search-requires-clause-wanted g c =
    let m = c.in_ok-target.field-0 in
    weak-wanted c.args.self.now c.args.i m.word m.found c.in_ok-target.ensures.answer
    (sym c.is_weak.ensures ∙ c.if-is_weak.false) c.link-weak.result
    (c.link-weak.ensures.word c.in_ok-target.ensures.answer.object
    (begins-read c.args.self.now (gc_of c.self.inside) c.args.i m.word m.found c.self.view_is
    c.in_ok-target.ensures.answer))
    c.if-weak-ne0.false (sym c.is_stack_full.ensures ∙ c.if-is_stack_full.false)

pub unreachable-requires : goal.unreachable-requires
unreachable-requires g c =
    let m = c.in_ok-target.field-0 in
    weak-no_area c.args.self.now c.search.new.self
    (g.J.Finalizer.tells c.args.journal.now c.search.new.journal)
    m.found.base c.in-Some-Area.field-0-0
    (subst
    (λ (made : Made). Searches c.args.self.now c.search.new.self (wanted.WeakOf m.found.base) (Some made)
    (g.J.Finalizer.tells c.args.journal.now c.search.new.journal))
    c.in-Some-Area.field-0-is c.in-Some-Area.ensures.searched)

pub returns-in-Some-Object : goal.returns-in-Some-Object
returns-in-Some-Object g c =
    record {
      row = let m = c.in_ok-target.field-0 in
          weak-searched c.args.self.now c.args.i m.word m.found c.in_ok-target.ensures.answer
          (sym c.is_weak.ensures ∙ c.if-is_weak.false) c.link-weak.result
          (c.link-weak.ensures.word c.in_ok-target.ensures.answer.object
          (begins-read c.args.self.now (gc_of c.self.inside) c.args.i m.word m.found c.self.view_is
          c.in_ok-target.ensures.answer))
          c.if-weak-ne0.false (sym c.is_stack_full.ensures ∙ c.if-is_stack_full.false) c.search.new.self
          (g.J.Finalizer.tells c.args.journal.now c.search.new.journal)
          (Some (made_variants.Object c.in-Some-Object.base))
          (subst
          (λ (made : Made). Searches c.args.self.now c.search.new.self (wanted.WeakOf m.found.base) (Some made)
          (g.J.Finalizer.tells c.args.journal.now c.search.new.journal))
          c.in-Some-Object.field-0-is c.in-Some-Object.ensures.searched);
    }

pub returns-in-None : goal.returns-in-None
returns-in-None g c =
    record {
      row = let m = c.in_ok-target.field-0 in
          weak-searched c.args.self.now c.args.i m.word m.found c.in_ok-target.ensures.answer
          (sym c.is_weak.ensures ∙ c.if-is_weak.false) c.link-weak.result
          (c.link-weak.ensures.word c.in_ok-target.ensures.answer.object
          (begins-read c.args.self.now (gc_of c.self.inside) c.args.i m.word m.found c.self.view_is
          c.in_ok-target.ensures.answer))
          c.if-weak-ne0.false (sym c.is_stack_full.ensures ∙ c.if-is_stack_full.false) c.search.new.self
          (g.J.Finalizer.tells c.args.journal.now c.search.new.journal)
          None c.in-None.ensures.searched;
    }
