-- The header of the object that is shown.
use Rattle.std.proofs.Common.{◌/◌, sym, ap, ◌∙◌, subst}
use Rattle.std.specs.Prelude.{slice_get}
use Rattle.mm_model.specs.Views.ByBase.{Begins}
use Rattle.mm_audit.proofs.Shown.{begins-kept}
use Rattle.mm_audit.proofs.Changed.{header-kept, inside_same}
use Rattle.mm_audit.proofs.objects.Objects.header.Goals as goal

pub header_in-requires : goal.header_in-requires
header_in-requires c =
    let s = c.self.inside in
    let object = c.requires.object in
    let begins = subst (λ v. Begins v c.args.base object.object) (sym c.self.view_is) object.begins in
    let one = begins-kept s.words.items s.entries.items c.args.base object.object begins in
    record { header = one.header; is = ap (λ es. slice_get es (c.args.base / 16)) c.deref.ensures.value ∙ one.is }

pub returns : goal.returns
returns c object there =
    let s = c.self.inside in
    let begins = subst (λ v. Begins v c.args.base object) (sym c.self.view_is) there in
    let one = begins-kept s.words.items s.entries.items c.args.base object begins in
    let read = ap (λ es. slice_get es (c.args.base / 16)) (sym c.deref.ensures.value) ∙ c.header_in.ensures in
    inside_same c.header_in.result one.header (inside_same _ _ (sym read ∙ one.is))
    ∙ sym (header-kept s.entries.items s.begins.items s.words.items c.self.invariant.objects c.args.base object begins)
