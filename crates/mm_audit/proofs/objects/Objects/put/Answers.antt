-- The word of one slot changes.
use Rattle.std.proofs.Common.{◌<◌, length, Some, ap, ◌∙◌, sym, subst, arith}
use Rattle.mm_model.specs.Views.ByBase.{Begins, with_entry}
use Rattle.mm_model.specs.Views.ObjectView.{ObjectView}
use Rattle.mm_model.proofs.View.ByBase.Entries.{begins_same}
use Rattle.mm_audit.specs.Counts.{with_word}
use Rattle.mm_audit.proofs.Shown.{length-shown}
use Rattle.mm_audit.proofs.Changed.{shown-written, slot-place}
use Rattle.mm_audit.proofs.objects.Objects.put.Goals as goal

pub overflow_add-base-2 : goal.overflow_add-base-2
overflow_add-base-2 c =
    let s = c.self.inside in
    let slot = c.requires.slot in
    let begins = subst (λ v. Begins v c.args.base slot.object) (sym c.self.view_is) slot.begins in
    let place = slot-place s.entries.items s.begins.items s.words.items c.self.invariant.objects c.args.base slot.object
    begins c.args.slot slot.within in
    let each = c.self.invariant.objects.each_word in
    let few = c.self.invariant.objects.few in
    omega arith

pub index_mut-requires : goal.index_mut-requires
index_mut-requires c =
    let s = c.self.inside in
    let slot = c.requires.slot in
    let begins = subst (λ v. Begins v c.args.base slot.object) (sym c.self.view_is) slot.begins in
    let len = s.words.ok.0 in
    let place = slot-place s.entries.items s.begins.items s.words.items c.self.invariant.objects c.args.base slot.object
    begins c.args.slot slot.within in
    omega arith

pub returns-clause-written : goal.returns-clause-written
returns-clause-written c object there =
    let s = c.self.inside in
    let slot = c.requires.slot in
    let same = begins_same c.args.self.now c.args.base slot.object object slot.begins there in
    let below = subst (λ (o : ObjectView). c.args.slot < length o.words) same slot.within in
    let begins = subst (λ v. Begins v c.args.base object) (sym c.self.view_is) there in
    shown-written s.entries.items s.begins.items s.words.items c.self.invariant.objects c.args.base object begins
    c.args.slot c.args.word below
    ∙ ap (with_entry c.args.base (Some (with_word c.args.slot c.args.word object))) c.self.view_is

pub returns-clause-size : goal.returns-clause-size
returns-clause-size c =
    let s = c.self.inside in
    length-shown _ s.entries.items ∙ sym (length-shown s.words.items s.entries.items) ∙ ap length c.self.view_is
