-- One header changes.
use Rattle.std.proofs.Common.{◌/◌, length, Some, refl, ap, ◌∙◌, sym, subst, arith}
use Rattle.std.specs.Prelude.{is_some}
use Rattle.std.proofs.lemmas.List.{length-set}
use Rattle.std.proofs.lemmas.Option.{slice_get_within}
use Rattle.mm_model.specs.Views.ByBase.{Begins, with_entry}
use Rattle.mm_model.specs.Views.ObjectView.{ObjectView}
use Rattle.mm_model.proofs.Lists.Replaced.{map-set_alike}
use Rattle.mm_model.proofs.View.ByBase.Entries.{begins_same}
use Rattle.mm_audit.specs.Objects.{object_with}
use Rattle.mm_audit.proofs.Shown.{length-shown, begins-kept}
use Rattle.mm_audit.proofs.Changed.{shown-rewritten, kept-rewritten}
use Rattle.mm_audit.proofs.objects.Objects.rewrite.Goals as goal
use Rattle.std.proofs.Common.{map}
use Rattle.mm_audit.specs.Objects.{KeepsObjects}
use Rattle.mm_audit.specs.Objects.{shown}

pub enter-self-inside-requires-clause-inside : goal.enter-self-inside-requires-clause-inside
enter-self-inside-requires-clause-inside c =
    let s = c.self.inside in
    let like = c.requires.alike in
    let begins = subst (λ v. Begins v c.args.base like.object) (sym c.self.view_is) like.begins in
    let kept = begins-kept s.words.items s.entries.items c.args.base like.object begins in
    let below = slice_get_within s.entries.items (c.args.base / 16) (Some kept.header) kept.is in
    let len = s.entries.ok.0 in
    omega arith

pub invariant_of-self : goal.invariant_of-self
invariant_of-self c =
    let s = c.self.inside in
    let like = c.requires.alike in
    let begins = subst (λ v. Begins v c.args.base like.object) (sym c.self.view_is) like.begins in
    let kept = begins-kept s.words.items s.entries.items c.args.base like.object begins in
    let entry = sym c.enter-self-inside.ensures.entry in
    record {
      objects = subst (λ es. KeepsObjects es s.begins.items s.words.items) entry
          (kept-rewritten s.entries.items s.begins.items s.words.items c.self.invariant.objects c.args.base
          like.object begins c.args.header like.extent like.slots);
      marks = c.self.invariant.marks
          ∙ sym
          (map-set_alike is_some s.entries.items (c.args.base / 16) (Some kept.header) (Some c.args.header) kept.is
          refl)
          ∙ ap (map is_some) entry;
      right = c.enter-self-inside.ensures.grays;
    }

pub returns-clause-rewritten : goal.returns-clause-rewritten
returns-clause-rewritten c object there =
    let s = c.self.inside in
    let like = c.requires.alike in
    let same = begins_same c.args.self.now c.args.base like.object object like.begins there in
    let slots = like.slots ∙ ap (λ (o : ObjectView). length o.words) same in
    let begins = subst (λ v. Begins v c.args.base object) (sym c.self.view_is) there in
    ap (shown s.words.items) c.enter-self-inside.ensures.entry
    ∙ shown-rewritten s.entries.items s.begins.items s.words.items c.self.invariant.objects c.args.base object begins
    c.args.header slots
    ∙ ap (with_entry c.args.base (Some (object_with object.words c.args.header))) c.self.view_is

pub returns-clause-size : goal.returns-clause-size
returns-clause-size c =
    let s = c.self.inside in
    length-shown s.words.items c.enter-self-inside.new.entries.items ∙ ap length c.enter-self-inside.ensures.entry
    ∙ length-set s.entries.items (c.args.base / 16) (Some c.args.header)
    ∙ sym (length-shown s.words.items s.entries.items) ∙ ap length c.self.view_is
