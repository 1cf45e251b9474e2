-- It ends where the next occupied page is, or behind the last page.
use Rattle.std.proofs.Common.{subst, ap, arith}
use Rattle.mm_audit.specs.Places.{PlaceMarks, IsRunEnd}
use Rattle.mm_audit.proofs.LowestPlaces.{ends-behind, ends-before}
use Rattle.mm_audit.proofs.places.Places.run_end.Goals as goal

pub returns-in-None : goal.returns-in-None
returns-in-None c =
    let s = c.self.inside in
    let each = c.self.invariant.each_page in
    let inside = c.requires.inside in
    let pages = ap (λ (v : PlaceMarks). v.pages) c.self.view_is in
    subst (λ (v : PlaceMarks). IsRunEnd v.vacant c.args.page s.pages) c.self.view_is
    (subst (IsRunEnd s.vacant c.args.page) each
    (ends-behind s.vacant s.occupied c.self.invariant.others c.args.page (omega (arith, each, pages))
    c.in-None.ensures))

pub returns-in-Some : goal.returns-in-Some
returns-in-Some c =
    let s = c.self.inside in
    subst (λ (v : PlaceMarks). IsRunEnd v.vacant c.args.page c.in-Some.end) c.self.view_is
    (ends-before s.vacant s.occupied c.self.invariant.others c.args.page c.in-Some.end c.in-Some.ensures)
