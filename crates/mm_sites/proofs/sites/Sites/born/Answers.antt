-- What stands at the base before, and that the totals stay right.
use Rattle.std.proofs.Common.{◌≡◌, ◌/◌, ◌<◌, length, Some, true, refl, ap, sym, ◌∙◌, subst, arith}
use Rattle.std.proofs.lemmas.Option.{slice_get_read}
use Rattle.std.specs.Prelude.{is_some}
use Rattle.mm_sites.specs.Entries.{HasEntry}
use Rattle.mm_sites.proofs.Bounds.{objects-le, bytes-le, read-total}
use Rattle.mm_sites.proofs.Entered.{entered_if, nothing_if, none_entered}
use Rattle.mm_sites.proofs.Kept.{with_object, kept-born}
use Rattle.mm_sites.proofs.sites.Sites.born.Goals as goal

pub returns-then-is_some-clause-taken : goal.returns-then-is_some-clause-taken
returns-then-is_some-clause-taken c =
    let items = c.self.inside.entries.items in
    let within : c.args.base / 16 < length items = omega (arith, ap length c.self.view_is) in
    let is = slice_get_read items (length items) (c.args.base / 16) c.index.result.now refl within c.index.ensures in
    let some : is_some c.index.result.now ≡ true = sym c.is_some.ensures ∙ c.if-is_some.true in (
      λ _.
          subst (λ es. HasEntry es c.args.base) c.self.view_is
          (entered_if items c.args.base c.index.result.now c.requires.aligned is some),
      λ _. refl,
    )

pub add-requires-clause-objects : goal.add-requires-clause-objects
add-requires-clause-objects c =
    let items = c.self.inside.entries.items in
    let totals = c.self.inside.totals.items in
    let total = read-total items totals c.self.invariant c.args.site c.index_mut-2.result.now c.requires.site
    c.index_mut-2.ensures.value in
    let most = objects-le items totals c.self.invariant c.args.site in
    let same = ap (λ t. t.objects) total in
    omega arith

pub add-requires-clause-bytes : goal.add-requires-clause-bytes
add-requires-clause-bytes c =
    let items = c.self.inside.entries.items in
    let totals = c.self.inside.totals.items in
    let total = read-total items totals c.self.invariant c.args.site c.index_mut-2.result.now c.requires.site
    c.index_mut-2.ensures.value in
    let most = bytes-le items totals c.self.invariant c.args.site in
    let same = ap (λ t. t.bytes) total in
    omega arith

pub invariant_of-self : goal.invariant_of-self
invariant_of-self c =
    let items = c.self.inside.entries.items in
    let totals = c.self.inside.totals.items in
    let total = read-total items totals c.self.invariant c.args.site c.index_mut-2.result.now c.requires.site
    c.index_mut-2.ensures.value in
    let within : c.args.base / 16 < length items = omega (arith, ap length c.self.view_is) in
    let is = slice_get_read items (length items) (c.args.base / 16) c.index.result.now refl within c.index.ensures in
    let none = nothing_if c.index.result.now (sym c.is_some.ensures ∙ c.if-is_some.false) in
    kept-born items totals (c.args.base / 16) (record { extent = c.args.extent; site = c.args.site }) c.self.invariant
    (record { extent = c.requires.most; site = c.requires.site }) (is ∙ ap (λ found. Some found) none) c.add.new.self
    (c.add.ensures ∙ ap (λ t. with_object t c.args.extent) total)

pub returns-clause-taken : goal.returns-clause-taken
returns-clause-taken c =
    let items = c.self.inside.entries.items in
    let within : c.args.base / 16 < length items = omega (arith, ap length c.self.view_is) in
    let is = slice_get_read items (length items) (c.args.base / 16) c.index.result.now refl within c.index.ensures in
    let none = nothing_if c.index.result.now (sym c.is_some.ensures ∙ c.if-is_some.false) in (
      λ no. cc,
      λ has.
          absurd
          (none_entered items c.args.base (is ∙ ap (λ found. Some found) none)
          (subst (λ es. HasEntry es c.args.base) (sym c.self.view_is) has)),
    )
