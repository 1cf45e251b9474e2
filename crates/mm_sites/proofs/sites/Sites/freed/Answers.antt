-- What stands at the base before, and that the totals stay right.
use Rattle.std.proofs.Common.{◌/◌, length, Some, refl, ap, sym, ◌∙◌, subst, arith}
use Rattle.std.proofs.lemmas.Option.{slice_get_read}
use Rattle.mm_sites.specs.Entries.{HasEntry}
use Rattle.mm_sites.proofs.Bounds.{read-total}
use Rattle.mm_sites.proofs.Entered.{is_entered, none_entered}
use Rattle.mm_sites.proofs.Kept.{without_object, kept-freed, within-objects, within-bytes}
use Rattle.mm_sites.proofs.sites.Sites.freed.Goals as goal

pub remove-requires-clause-objects : goal.remove-requires-clause-objects
remove-requires-clause-objects c =
    let items = c.self.inside.entries.items in
    let totals = c.self.inside.totals.items in
    let entry = c.in-Some.entry in
    let is = slice_get_read items (length items) (c.args.base / 16) c.index.result.now refl (omega arith)
    c.index.ensures ∙ ap (λ found. Some found) c.in-Some.is in
    let fits = c.self.invariant.fits (c.args.base / 16) entry is in
    let total = read-total items totals c.self.invariant entry.site c.index_mut-in-Some.result.now fits.site
    c.index_mut-in-Some.ensures.value in
    let least = within-objects items (c.args.base / 16) entry is in
    let same = ap (λ t. t.objects) total in
    omega arith

pub remove-requires-clause-bytes : goal.remove-requires-clause-bytes
remove-requires-clause-bytes c =
    let items = c.self.inside.entries.items in
    let totals = c.self.inside.totals.items in
    let entry = c.in-Some.entry in
    let is = slice_get_read items (length items) (c.args.base / 16) c.index.result.now refl (omega arith)
    c.index.ensures ∙ ap (λ found. Some found) c.in-Some.is in
    let fits = c.self.invariant.fits (c.args.base / 16) entry is in
    let total = read-total items totals c.self.invariant entry.site c.index_mut-in-Some.result.now fits.site
    c.index_mut-in-Some.ensures.value in
    let least = within-bytes items (c.args.base / 16) entry is in
    let same = ap (λ t. t.bytes) total in
    omega arith

pub invariant_of-self : goal.invariant_of-self
invariant_of-self c =
    let items = c.self.inside.entries.items in
    let totals = c.self.inside.totals.items in
    let entry = c.in-Some.entry in
    let is = slice_get_read items (length items) (c.args.base / 16) c.index.result.now refl (omega arith)
    c.index.ensures ∙ ap (λ found. Some found) c.in-Some.is in
    let fits = c.self.invariant.fits (c.args.base / 16) entry is in
    let total = read-total items totals c.self.invariant entry.site c.index_mut-in-Some.result.now fits.site
    c.index_mut-in-Some.ensures.value in
    kept-freed items totals (c.args.base / 16) entry c.self.invariant is c.remove.new.self
    (c.remove.ensures ∙ ap (λ t. without_object t entry.extent) total)

pub returns-in-None-clause-found : goal.returns-in-None-clause-found
returns-in-None-clause-found c =
    let items = c.self.inside.entries.items in
    let is = slice_get_read items (length items) (c.args.base / 16) c.index.result.now refl (omega arith)
    c.index.ensures ∙ ap (λ found. Some found) c.in-None.is in (
      λ yes. cc,
      λ has.
          absurd
          (none_entered items c.args.base is (subst (λ es. HasEntry es c.args.base) (sym c.self.view_is) has)),
    )

pub returns-in-Some-clause-found : goal.returns-in-Some-clause-found
returns-in-Some-clause-found c =
    let items = c.self.inside.entries.items in
    let is = slice_get_read items (length items) (c.args.base / 16) c.index.result.now refl (omega arith)
    c.index.ensures ∙ ap (λ found. Some found) c.in-Some.is in (
      λ _.
          subst (λ es. HasEntry es c.args.base) c.self.view_is
          (is_entered items c.args.base c.in-Some.entry (omega arith) is),
      λ _. refl,
    )
