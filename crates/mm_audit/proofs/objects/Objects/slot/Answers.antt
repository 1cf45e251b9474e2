-- The word of the region that is the slot's.
use Rattle.std.proofs.Common.{◌<◌, length, Some, ap, ◌∙◌, sym, subst, arith}
use Rattle.std.proofs.lemmas.List.{get_or_read}
use Rattle.mm_model.specs.Views.ByBase.{Begins}
use Rattle.mm_model.specs.Views.ObjectView.{ObjectView}
use Rattle.mm_model.proofs.View.ByBase.Entries.{begins_same}
use Rattle.mm_audit.proofs.Changed.{slot-place, slot-kept}
use Rattle.mm_audit.proofs.objects.Objects.slot.Goals as goal

pub overflow_add-base-2 : goal.overflow_add-base-2
overflow_add-base-2 c =
    let s = c.self.inside in
    let slot = c.requires.slot in
    let begins = subst (λ v. Begins v c.args.base slot.object) (sym c.self.view_is) slot.begins in
    let place = slot-place s.entries.items s.begins.items s.words.items c.self.invariant.objects c.args.base slot.object
    begins c.args.slot slot.within in
    let each = c.self.invariant.objects.each_word in
    let few = c.self.invariant.objects.few in
    omega arith

pub index-requires : goal.index-requires
index-requires c =
    let s = c.self.inside in
    let slot = c.requires.slot in
    let begins = subst (λ v. Begins v c.args.base slot.object) (sym c.self.view_is) slot.begins in
    let len = s.words.ok.0 in
    let place = slot-place s.entries.items s.begins.items s.words.items c.self.invariant.objects c.args.base slot.object
    begins c.args.slot slot.within in
    omega arith

pub returns : goal.returns
returns c object there =
    let s = c.self.inside in
    let slot = c.requires.slot in
    let same = begins_same c.args.self.now c.args.base slot.object object slot.begins there in
    let below = subst (λ (o : ObjectView). c.args.slot < length o.words) same slot.within in
    let begins = subst (λ v. Begins v c.args.base object) (sym c.self.view_is) there in
    let place = slot-place s.entries.items s.begins.items s.words.items c.self.invariant.objects c.args.base object
    begins c.args.slot below in
    let len = s.words.ok.0 in
    slot-kept s.entries.items s.begins.items s.words.items c.self.invariant.objects c.args.base object begins
    c.args.slot below
    ∙ ap (λ n. Some n) (sym (get_or_read s.words.items _ _ place c.index.ensures 0))
