use Rattle.std.proofs.Common.{codes, refl, sym, ◌∙◌}
use Rattle.mm_trace.specs.declared.form.Form.TheVariants as forms
use Rattle.mm_trace.specs.declared.form.OfNone.TheVariants as none
use Rattle.mm_trace.specs.declared.form.OfOne.TheVariants as one
use Rattle.mm_trace.specs.declared.form.OfTwo.TheVariants as two
use Rattle.mm_trace.proofs.Forms.{entry_at-named, entry_at-either}
use Rattle.mm_trace.proofs.form.form_of.Goals as goal

pub returns-in-98 : goal.returns-in-98
returns-in-98 c =
    let item = c.in_ok-first.ensures.item in
    entry_at-named c.args.word.now 98 _ (codes "begin") (forms.None none.Begin)
    item.3.0 (sym (item.3.1 0) ∙ c.in-98.is) c.named.ensures (λ rest. refl)

pub returns-in-99 : goal.returns-in-99
returns-in-99 c =
    let item = c.in_ok-first.ensures.item in
    entry_at-named c.args.word.now 99 _ (codes "collect") (forms.None none.Collect)
    item.3.0 (sym (item.3.1 0) ∙ c.in-99.is) c.named-in-99.ensures (λ rest. refl)

pub returns-in-100 : goal.returns-in-100
returns-in-100 c =
    let item = c.in_ok-first.ensures.item in
    entry_at-either c.args.word.now 100 _ (codes "dup") (codes "drop") (forms.One one.Dup) (forms.One one.DropArea)
    item.3.0 (sym (item.3.1 0) ∙ c.in-100.is) c.either-in-100.ensures (λ rest. refl)

pub returns-in-102 : goal.returns-in-102
returns-in-102 c =
    let item = c.in_ok-first.ensures.item in
    entry_at-either c.args.word.now 102 _ (codes "fixed") (codes "finish")
    (forms.One one.Fixed) (forms.None none.Finish)
    item.3.0 (sym (item.3.1 0) ∙ c.in-102.is) c.either-in-102.ensures (λ rest. refl)

pub returns-in-108 : goal.returns-in-108
returns-in-108 c =
    let item = c.in_ok-first.ensures.item in
    entry_at-named c.args.word.now 108 _ (codes "look") (forms.One one.Look)
    item.3.0 (sym (item.3.1 0) ∙ c.in-108.is) c.named-in-108.ensures (λ rest. refl)

pub returns-in-109 : goal.returns-in-109
returns-in-109 c =
    let item = c.in_ok-first.ensures.item in
    entry_at-named c.args.word.now 109 _ (codes "map") (forms.One one.Map)
    item.3.0 (sym (item.3.1 0) ∙ c.in-109.is) c.named-in-109.ensures (λ rest. refl)

pub returns-in-114 : goal.returns-in-114
returns-in-114 c =
    let item = c.in_ok-first.ensures.item in
    entry_at-either c.args.word.now 114 _ (codes "root") (codes "reap") (forms.Two two.Root) (forms.None none.Reap)
    item.3.0 (sym (item.3.1 0) ∙ c.in-114.is) c.either-in-114.ensures (λ rest. refl)

pub returns-in-115 : goal.returns-in-115
returns-in-115 c =
    let item = c.in_ok-first.ensures.item in
    entry_at-either c.args.word.now 115 _ (codes "step") (codes "stat") (forms.One one.Step) (forms.None none.Stat)
    item.3.0 (sym (item.3.1 0) ∙ c.in-115.is) c.either-in-115.ensures (λ rest. refl)

pub returns-in-119 : goal.returns-in-119
returns-in-119 c =
    let item = c.in_ok-first.ensures.item in
    entry_at-named c.args.word.now 119 _ (codes "weak") (forms.One one.Weak)
    item.3.0 (sym (item.3.1 0) ∙ c.in-119.is) c.named-in-119.ensures (λ rest. refl)
