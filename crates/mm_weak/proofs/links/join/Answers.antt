use Rattle.std.proofs.Common.{true}
use Rattle.mm_weak.proofs.Writes.{begins-second, writes-partners}
use Rattle.mm_weak.proofs.links.join.Goals as goal

pub set_has_weak-requires : goal.set_has_weak-requires
set_has_weak-requires g c = (
  record c.requires.target.0 { link = c.args.w },
  begins-second c.args.heap.now c.set_link.new.self c.set_link-2.new.self c.args.base c.args.w c.args.w c.args.base
      c.requires.target.0 c.requires.weak.0 c.requires.target.1 c.requires.weak.1 c.requires.apart
      c.set_link.ensures.word c.set_link-2.ensures.word,
)

pub returns-clause-partners : goal.returns-clause-partners
returns-clause-partners g c =
    λ target weak begins at.
    writes-partners c.args.heap.now c.set_link.new.self c.set_link-2.new.self c.set_has_weak.new.heap c.args.base
    c.args.w
    c.args.w c.args.base true target weak
    (record {
      on_weak = c.set_link.ensures.word;
      on_target = c.set_link-2.ensures.word;
      on_flag = c.set_has_weak.ensures.flag;
    })
    begins at c.requires.apart
