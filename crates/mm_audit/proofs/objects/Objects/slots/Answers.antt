-- The words of the region that are the object's slots.
use Rattle.std.proofs.Common.{◌≡◌, ◌+◌, ◌-◌, ◌/◌, length, take, drop, ap, ◌∙◌, sym, subst, arith}
use Rattle.std.specs.Prelude.{slice_get}
use Rattle.mm_model.specs.Views.ByBase.{Begins}
use Rattle.mm_audit.specs.declared.header.Header.{Header}
use Rattle.mm_audit.proofs.Shown.{begins-kept}
use Rattle.mm_audit.proofs.Changed.{object-slots, words-kept, inside_same}
use Rattle.mm_audit.proofs.objects.Objects.slots.Goals as goal

pub header_in-header-requires : goal.header_in-header-requires
header_in-header-requires c =
    let s = c.self.inside in
    let object = c.requires.object in
    let begins = subst (λ v. Begins v c.args.base object.object) (sym c.self.view_is) object.begins in
    let one = begins-kept s.words.items s.entries.items c.args.base object.object begins in
    record { header = one.header; is = ap (λ es. slice_get es (c.args.base / 16)) c.deref.ensures.value ∙ one.is }

pub returns : goal.returns
returns c object there =
    let s = c.self.inside in
    let begins = subst (λ v. Begins v c.args.base object) (sym c.self.view_is) there in
    let one = begins-kept s.words.items s.entries.items c.args.base object begins in
    let read = ap (λ es. slice_get es (c.args.base / 16)) (sym c.deref.ensures.value) ∙ c.header_in-header.ensures in
    let header = inside_same c.header_in-header.result one.header (inside_same _ _ (sym read ∙ one.is)) in
    let slots = ap (λ (h : Header). h.slots) header
    ∙ sym (object-slots s.entries.items s.begins.items s.words.items c.self.invariant.objects c.args.base object begins)
    in
    let first = c.args.base / 4 + 4 in
    let count : first + c.header_in-header.result.slots - first ≡ length object.words = omega (arith, slots) in
    ap (λ ws. take (first + c.header_in-header.result.slots - first) (drop first ws)) c.deref-2.ensures.value
    ∙ ap (λ n. take n (drop first s.words.items)) count
    ∙ words-kept s.entries.items s.begins.items s.words.items c.self.invariant.objects c.args.base object begins
