use Rattle.std.proofs.Common.{◌≡◌, ◌++◌, length, take, drop, sym, ◌∙◌}
use Rattle.std.proofs.lemmas.List.{take-append-drop}
use Rattle.std.proofs.lemmas.Slice.Eq.{bytes_eq-Decides}
use Rattle.mm_trace.proofs.name.behind.Goals as goal

pub returns-then-is : goal.returns-then-is
returns-then-is c =
    let text = c.args.text.now in
    let front = c.args.front.now in
    let parts = c.in_ok-start.ensures.cases in
    let same : front ≡ c.in_ok-start.start.now = (bytes_eq-Decides front _).0 (sym c.is.ensures ∙ c.if-is.true) in
    let whole : take (length front) text ++ drop (length front) text ≡ text = take-append-drop (length front) text in
    rw (same, parts.1, parts.2) (sym whole)
