use Rattle.std.proofs.Common.{Some, None, ◌∙◌, sym, subst}
use Rattle.mm_model.specs.declared.command.Command.TheVariants as commands
use Rattle.mm_model.specs.declared.refusal.Refusal.TheVariants as refusals
use Rattle.mm_gc.specs.declared.wanted.Made.{Made}
use Rattle.mm_gc.specs.declared.wanted.Made.TheVariants as made_variants
use Rattle.mm_gc.specs.declared.wanted.Wanted.TheVariants as wanted
use Rattle.mm_gc.specs.Gc.{view_of_gc}
use Rattle.mm_gc.specs.Making.{Searches}
use Rattle.mm_gc.proofs.Makes.Asking.{tells-refused, create-tells}
use Rattle.mm_gc.proofs.Rows.Making.{new-shape, new-full}
use Rattle.mm_gc.proofs.gc.Gc.create.Goals as goal

pub returns-then-is_bad_shape : goal.returns-then-is_bad_shape
returns-then-is_bad_shape g c =
    record {
      row = tells-refused c.args.self.now (commands.New c.args.shape) refusals.Shape
          (g.J.Finalizer.tells c.args.journal.now c.args.journal.now) (g.met.J.Finalizer.tells_nothing c.args.journal.now)
          (new-shape (view_of_gc c.args.self.now) c.args.shape (sym c.is_bad_shape.ensures ∙ c.if-is_bad_shape.true));
    }

pub returns-then-is_stack_full : goal.returns-then-is_stack_full
returns-then-is_stack_full g c =
    record {
      row = tells-refused c.args.self.now (commands.New c.args.shape) refusals.StackFull
          (g.J.Finalizer.tells c.args.journal.now c.args.journal.now) (g.met.J.Finalizer.tells_nothing c.args.journal.now)
          (new-full (view_of_gc c.args.self.now) c.args.shape (sym c.is_bad_shape.ensures ∙ c.if-is_bad_shape.false)
          (sym c.is_stack_full.ensures ∙ c.if-is_stack_full.true));
    }

pub returns-in-Some-Object : goal.returns-in-Some-Object
returns-in-Some-Object g c =
    record {
      row = create-tells c.args.self.now c.search.new.self
          (g.J.Finalizer.tells c.args.journal.now c.search.new.journal)
          c.args.shape (Some (made_variants.Object c.in-Some-Object.base))
          (sym c.is_bad_shape.ensures ∙ c.if-is_bad_shape.false) (sym c.is_stack_full.ensures ∙ c.if-is_stack_full.false)
          (subst
          (λ (m : Made). Searches c.args.self.now c.search.new.self (wanted.Object c.args.shape) (Some m)
          (g.J.Finalizer.tells c.args.journal.now c.search.new.journal))
          c.in-Some-Object.field-0-is c.in-Some-Object.ensures.searched);
    }

pub returns-in-None : goal.returns-in-None
returns-in-None g c =
    record {
      row = create-tells c.args.self.now c.search.new.self
          (g.J.Finalizer.tells c.args.journal.now c.search.new.journal)
          c.args.shape None (sym c.is_bad_shape.ensures ∙ c.if-is_bad_shape.false)
          (sym c.is_stack_full.ensures ∙ c.if-is_stack_full.false) c.in-None.ensures.searched;
    }
