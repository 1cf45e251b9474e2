-- An entry tells what begins at its base.
use Rattle.std.proofs.Common.{◌/◌, Some, ap, ◌∙◌, sym, subst, arith}
use Rattle.std.specs.Option.{option_map}
use Rattle.std.proofs.lemmas.Option.{slice_get_read, slice_get_within}
use Rattle.mm_model.specs.Views.ByBase.{Begins, Based}
use Rattle.mm_model.specs.Views.ObjectView.{ObjectView}
use Rattle.mm_model.specs.Views.ViewWords.{object_at}
use Rattle.mm_audit.specs.Objects.{header_of}
use Rattle.mm_audit.proofs.Shown.{begins-kept}
use Rattle.mm_audit.proofs.Resolving.{object_at-none, object_at-told}
use Rattle.mm_audit.proofs.objects.Objects.get.Goals as goal
use Rattle.mm_audit.proofs.objects.Objects.get.Goals.{then-base-ne0-via-then-base-ne0}
use Rattle.mm_audit.proofs.objects.Objects.get.Goals.{then-base-ne0-via-else-base-ne0+then-len-grain}

pub returns-then-base-ne0 : goal.returns-then-base-ne0
returns-then-base-ne0 c =
    let s = c.self.inside in
    let none = object_at-none c.args.self.now c.args.base (λ object there.
    let begins = subst (λ v. Begins v c.args.base object) (sym c.self.view_is) there in
    let one = begins-kept s.words.items s.entries.items c.args.base object begins in
    let at = one.at in
    let below = slice_get_within s.entries.items (c.args.base / 16) (Some one.header) one.is in
    let len = s.entries.ok.0 in
    elim c.then-base-ne0.branch [
      | then-base-ne0-via-then-base-ne0 w ↦ absurd (omega arith)
      | then-base-ne0-via-else-base-ne0+then-len-grain w ↦ absurd (omega arith)
    ]) in
    ap (option_map (λ (o : Based ObjectView). header_of o.value)) (sym none)

pub returns : goal.returns
returns c =
    let s = c.self.inside in
    let len = s.entries.ok.0 in
    let told = slice_get_read s.entries.items _ (c.args.base / 16) c.index.result.now len (omega arith) c.index.ensures
    in
    object_at-told s.entries.items s.begins.items s.words.items c.self.invariant.objects c.args.base (omega arith)
    c.index.result.now told
    ∙ ap (λ v. option_map (λ (o : Based ObjectView). header_of o.value) (object_at v c.args.base)) c.self.view_is
