-- What is left from the bottom is what is left from the top.
use Rattle.std.proofs.Common.{◌≡◌, ◌-◌, ◌≤◌, reverse, length, take, drop, ap, ◌∙◌, arith}
use Rattle.std.proofs.lemmas.List.{length-reverse}
use Rattle.mm_audit.specs.Stack.{StackWords}
use Rattle.mm_audit.proofs.Stacks.{popped}
use Rattle.mm_audit.proofs.stack.Stack.pop.Goals as goal

pub returns : goal.returns
returns c =
    let cells = c.self.inside.cells.items in
    let count = c.args.count in
    let words = ap (λ (s : StackWords). s.words) c.self.view_is in
    let limit = ap (λ (s : StackWords). s.limit) c.self.view_is in
    let len = c.self.inside.cells.ok.0 in
    let left : c.len.result - count ≡ length cells - count = ap (λ n. n - count) (c.len.ensures ∙ len) in
    let within : count ≤ length cells = omega (arith, length-reverse cells, ap length words) in
    let top =
    ap reverse (c.truncate.ensures.items ∙ ap (λ n. take n cells) left) ∙ popped cells count within
    ∙ ap (drop count) words in
    λ i. record { words = top i; limit = limit i }
