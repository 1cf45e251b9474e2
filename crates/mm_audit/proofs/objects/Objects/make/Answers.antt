-- No header shows no object.
use Rattle.std.proofs.Common.{◌≡◌, ◌*◌, length, replicate, None, ap, ◌∙◌, rules, arith}
use Rattle.mm_audit.specs.Objects.{shown}
use Rattle.mm_audit.proofs.Shown.{shown-replicate}
use Rattle.mm_audit.proofs.Vacant.{none-kept}
use Rattle.mm_audit.proofs.objects.Objects.make.Goals as goal

pub returns : goal.returns
returns c =
    let words = c.in_ok-words.words.items in
    let empty : c.in_ok-entries.entries.items ≡ replicate (256 * c.args.pages) None = search rules in
    ap (shown words) empty ∙ shown-replicate words (256 * c.args.pages)

pub invariant_of-result : goal.invariant_of-result
invariant_of-result c =
    let grains = 256 * c.args.pages in
    let entries = c.in_ok-entries.entries.items in
    let begins = c.in_ok-begins.begins.items in
    let words = c.in_ok-words.words.items in
    let empty : entries ≡ replicate grains None = search rules in
    let zeros : begins ≡ replicate grains 0 = search rules in
    let size : length words ≡ 4 * grains = search rules in
    none-kept grains (omega (arith, c.requires.most)) entries begins words c.in_ok-taken.taken empty zeros size
    c.in_ok-taken.ensures
