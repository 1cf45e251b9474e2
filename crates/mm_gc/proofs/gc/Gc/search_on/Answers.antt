use Rattle.mm_gc.specs.declared.wanted.Reach.TheVariants as reach
use Rattle.mm_gc.specs.Gc.{view_of_gc}
use Rattle.mm_gc.proofs.Makes.Searching.{made-nowhere, reap-wants, collect-wants, searches-after_reap}
use Rattle.mm_gc.proofs.Makes.Searching.{searches-after_collection}
use Rattle.mm_gc.proofs.gc.Gc.search_on.Goals as goal

pub make_wanted-requires-clause-wanted : goal.make_wanted-requires-clause-wanted
make_wanted-requires-clause-wanted g c =
    reap-wants c.args.wanted c.args.self.now c.reap.new.self
    (g.J.Finalizer.tells c.args.journal.now c.reap.new.journal)
    c.requires.wanted c.reap.ensures.row

pub returns-in-Some : goal.returns-in-Some
returns-in-Some g c =
    record {
      searched = searches-after_reap c.args.self.now c.reap.new.self c.args.wanted
          (g.J.Finalizer.tells c.args.journal.now c.reap.new.journal)
          c.requires.nowhere c.reap.ensures.row c.make_wanted.new.self c.in-Some.made c.in-Some.ensures;
    }

pub make_wanted-requires-2-clause-wanted : goal.make_wanted-requires-2-clause-wanted
make_wanted-requires-2-clause-wanted g c =
    let none = made-nowhere c.args.wanted reach.Grown (view_of_gc c.reap.new.self) (view_of_gc c.make_wanted.new.self)
    c.in_default.ensures in
    collect-wants c.args.wanted c.reap.new.self c.make_wanted.new.self c.collect.new.self
    (g.J.Finalizer.tells c.reap.new.journal c.collect.new.journal)
    (reap-wants c.args.wanted c.args.self.now c.reap.new.self
    (g.J.Finalizer.tells c.args.journal.now c.reap.new.journal)
    c.requires.wanted c.reap.ensures.row)
    none.same c.collect.ensures.row

pub returns : goal.returns
returns g c =
    record {
      searched = searches-after_collection c.args.self.now c.reap.new.self c.args.wanted
          (g.J.Finalizer.tells c.args.journal.now c.reap.new.journal)
          c.requires.nowhere c.reap.ensures.row c.make_wanted.new.self c.collect.new.self c.make_wanted-2.new.self
          (g.J.Finalizer.tells c.reap.new.journal c.collect.new.journal)
          (g.J.Finalizer.tells c.args.journal.now c.collect.new.journal)
          (g.met.J.Finalizer.tells_on c.args.journal.now c.reap.new.journal c.collect.new.journal)
          c.make_wanted-2.result c.in_default.ensures c.collect.ensures.row c.make_wanted-2.ensures;
    }
