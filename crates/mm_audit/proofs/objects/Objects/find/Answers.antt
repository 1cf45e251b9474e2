-- A word's grain tells where the object begins in which it may fall.
use Rattle.std.proofs.Common.{◌≡◌, ◌*◌, ◌/◌, Option, Some, ap, ◌∙◌, sym, subst, arith}
use Rattle.std.specs.Option.{option_map}
use Rattle.std.proofs.lemmas.Option.{slice_get_read, none-some}
use Rattle.mm_model.specs.Views.ByBase.{Begins}
use Rattle.mm_model.specs.Views.ViewWords.{resolved_in}
use Rattle.mm_audit.specs.declared.header.Header.{Header}
use Rattle.mm_audit.specs.Objects.{header_of, found_of, object_in}
use Rattle.mm_audit.proofs.Changed.{header-shown, inside_same}
use Rattle.mm_audit.proofs.Resolving.{FallsAt, resolved-kept, resolved-none, resolved-unless}
use Rattle.mm_audit.proofs.Resolving.{resolved-alone, falls_below}
use Rattle.mm_audit.proofs.objects.Objects.find.Goals as goal

pub returns-then-len-inner-clause-found : goal.returns-then-len-inner-clause-found
returns-then-len-inner-clause-found c =
    let s = c.self.inside in
    let len = s.begins.ok.0 in
    let none = resolved-none s.entries.items s.begins.items s.words.items c.self.invariant.objects c.args.word
    (λ grain header at.
    let below = falls_below s.entries.items s.begins.items s.words.items c.self.invariant.objects c.args.word grain
    header at in
    absurd (omega arith)) in
    ap (option_map found_of) (sym none ∙ ap (λ v. resolved_in v c.args.word) c.self.view_is)

pub index-requires : goal.index-requires
index-requires c =
    let s = c.self.inside in
    let len = s.begins.ok.0 in
    let more = s.entries.ok.0 in
    let told = slice_get_read s.begins.items _ (c.args.word / 16) c.index-grain.result.now len (omega arith)
    c.index-grain.ensures in
    let from = c.self.invariant.objects.not_behind (c.args.word / 16) c.index-grain.result.now told in
    let each = c.self.invariant.objects.each_grain in
    omega arith

pub returns-in_err-header-clause-found : goal.returns-in_err-header-clause-found
returns-in_err-header-clause-found c =
    let s = c.self.inside in
    let grain = c.index-grain.result.now in
    let len = s.begins.ok.0 in
    let more = s.entries.ok.0 in
    let tells = slice_get_read s.begins.items _ (c.args.word / 16) grain len (omega arith) c.index-grain.ensures in
    let from = c.self.invariant.objects.not_behind (c.args.word / 16) grain tells in
    let each = c.self.invariant.objects.each_grain in
    let told = slice_get_read s.entries.items _ grain c.index.result.now more (omega arith) c.index.ensures in
    let none = resolved-unless s.entries.items s.begins.items s.words.items c.self.invariant.objects c.args.word
    grain tells c.index.result.now told
    (λ header is below. absurd (none-some header (sym (c.in_err-header.was) ∙ is))) in
    c.from_residual.ensures
    ∙ ap (option_map found_of) (sym none ∙ ap (λ v. resolved_in v c.args.word) c.self.view_is)

pub returns-then-word-base-clause-found : goal.returns-then-word-base-clause-found
returns-then-word-base-clause-found c =
    let s = c.self.inside in
    let grain = c.index-grain.result.now in
    let header = c.in_ok-header.header in
    let len = s.begins.ok.0 in
    let more = s.entries.ok.0 in
    let tells = slice_get_read s.begins.items _ (c.args.word / 16) grain len (omega arith) c.index-grain.ensures in
    let from = c.self.invariant.objects.not_behind (c.args.word / 16) grain tells in
    let each = c.self.invariant.objects.each_grain in
    let told = slice_get_read s.entries.items _ grain c.index.result.now more (omega arith) c.index.ensures in
    let is = told ∙ ap (λ (e : Option Header). Some e) (c.in_ok-header.was) in
    let at : FallsAt s.entries.items s.begins.items s.words.items c.self.invariant.objects c.args.word grain header =
    record { is = is; from = omega arith; to = omega arith } in
    let words = s.words.items in
    let object = object_in words grain header in
    let whole : header_of object ≡ header =
    header-shown s.entries.items s.begins.items words c.self.invariant.objects grain header is in
    let found : resolved_in c.args.self.now c.args.word ≡ Some (record { base = 16 * grain; value = object }) =
    ap (λ v. resolved_in v c.args.word) (sym c.self.view_is)
    ∙ resolved-kept s.entries.items s.begins.items words c.self.invariant.objects c.args.word grain header at in
    ap (λ (h : Header). Some (record { base = 16 * grain; header = h })) (sym whole)
    ∙ ap (option_map found_of) (sym found)

pub returns-else-word-base-clause-found : goal.returns-else-word-base-clause-found
returns-else-word-base-clause-found c =
    let s = c.self.inside in
    let grain = c.index-grain.result.now in
    let len = s.begins.ok.0 in
    let more = s.entries.ok.0 in
    let tells = slice_get_read s.begins.items _ (c.args.word / 16) grain len (omega arith) c.index-grain.ensures in
    let from = c.self.invariant.objects.not_behind (c.args.word / 16) grain tells in
    let each = c.self.invariant.objects.each_grain in
    let told = slice_get_read s.entries.items _ grain c.index.result.now more (omega arith) c.index.ensures in
    let past = c.if-word-base.false in
    let none = resolved-unless s.entries.items s.begins.items s.words.items c.self.invariant.objects c.args.word
    grain tells c.index.result.now told
    (λ header is below.
    let same = inside_same header c.in_ok-header.header (sym is ∙ c.in_ok-header.was) in
    let extent = ap (λ (h : Header). h.extent) same in
    omega arith) in
    ap (option_map found_of) (sym none ∙ ap (λ v. resolved_in v c.args.word) c.self.view_is)

pub returns-then-len-inner-clause-alone : goal.returns-then-len-inner-clause-alone
returns-then-len-inner-clause-alone c base object there here =
    let s = c.self.inside in
    ap (λ v. resolved_in v c.args.word) (sym c.self.view_is)
    ∙ resolved-alone s.entries.items s.begins.items s.words.items c.self.invariant.objects c.args.word base object
    (subst (λ v. Begins v base object) (sym c.self.view_is) there) here

pub returns-in_err-header-clause-alone : goal.returns-in_err-header-clause-alone
returns-in_err-header-clause-alone c base object there here =
    let s = c.self.inside in
    ap (λ v. resolved_in v c.args.word) (sym c.self.view_is)
    ∙ resolved-alone s.entries.items s.begins.items s.words.items c.self.invariant.objects c.args.word base object
    (subst (λ v. Begins v base object) (sym c.self.view_is) there) here

pub returns-then-word-base-clause-alone : goal.returns-then-word-base-clause-alone
returns-then-word-base-clause-alone c base object there here =
    let s = c.self.inside in
    ap (λ v. resolved_in v c.args.word) (sym c.self.view_is)
    ∙ resolved-alone s.entries.items s.begins.items s.words.items c.self.invariant.objects c.args.word base object
    (subst (λ v. Begins v base object) (sym c.self.view_is) there) here

pub returns-else-word-base-clause-alone : goal.returns-else-word-base-clause-alone
returns-else-word-base-clause-alone c base object there here =
    let s = c.self.inside in
    ap (λ v. resolved_in v c.args.word) (sym c.self.view_is)
    ∙ resolved-alone s.entries.items s.begins.items s.words.items c.self.invariant.objects c.args.word base object
    (subst (λ v. Begins v base object) (sym c.self.view_is) there) here
