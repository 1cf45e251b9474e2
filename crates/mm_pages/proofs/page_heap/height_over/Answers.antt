use Rattle.std.proofs.Common.{arith}
use Rattle.mm_pages.proofs.Digits.{Width-digits, small_height}
use Rattle.mm_pages.proofs.page_heap.height_over.Goals as goal

pub returns-clause-small : goal.returns-clause-small
returns-clause-small c = small_height _ (omega (
  arith,
  (Width-digits c.args.pages c.requires.two c.requires.most).tight,
))

pub returns-clause-wide : goal.returns-clause-wide
returns-clause-wide c = (Width-digits c.args.pages c.requires.two c.requires.most).wide

pub returns-clause-tight : goal.returns-clause-tight
returns-clause-tight c = (Width-digits c.args.pages c.requires.two c.requires.most).tight
