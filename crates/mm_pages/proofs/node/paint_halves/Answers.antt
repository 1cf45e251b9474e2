use Rattle.std.proofs.Common.{suc, ◌+◌, ◌^◌, ◌≡◌, arith}
use Rattle.std.proofs.Math.Nat.{pow-suc}
use Rattle.mm_pages.specs.Free.{Marks, beyond}
use Rattle.mm_pages.proofs.Halves.{HalvesShow-put, TellsRuns-same}
use Rattle.mm_pages.proofs.Trees.{Shows-uniform}
use Rattle.mm_pages.proofs.node.paint_halves.Goals as goal

pub returns : goal.returns
returns c = λ pages same.
    let twice : 2 ^ suc c.args.height ≡ 2 ^ c.args.height + 2 ^ c.args.height =
    omega (arith, pow-suc 2 c.args.height) in
    let span : c.span_of.result ≡ 2 ^ c.args.height = c.span_of.ensures in
    let above : Marks = beyond (2 ^ c.args.height) pages in
    HalvesShow-put c.args.height c.words_of-size.result c.args.words.now c.write.new.words c.write-2.new.words pages
    c.words_of-size.ensures c.requires.sized c.write.auto.words
    (Shows-uniform c.args.height pages c.args.free _ (λ i h. same i (omega arith))
    (TellsRuns-same pages _ _ _ _ span c.write.ensures.head
    (c.uniform-runs.ensures pages (λ i h. same i (omega arith)))))
    (Shows-uniform c.args.height above c.args.free _ (λ i h. same (2 ^ c.args.height + i) (omega arith))
    (TellsRuns-same above _ _ _ _ span c.write-2.ensures.head
    (c.uniform-runs.ensures above (λ i h. same (2 ^ c.args.height + i) (omega arith)))))
