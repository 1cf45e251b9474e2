use Rattle.std.proofs.Common.{◌≡◌, None, sym, subst}
use Rattle.mm_gc.specs.declared.wanted.Reach.TheVariants as reach
use Rattle.mm_gc.specs.Gc.{view_of_gc}
use Rattle.mm_gc.specs.Making.{IsWanted, place_in_reach}
use Rattle.mm_gc.proofs.Makes.Searching.{made-nowhere, searches-at_once, searches-from}
use Rattle.mm_gc.proofs.gc.Gc.search.Goals as goal

pub returns-in-Some : goal.returns-in-Some
returns-in-Some g c =
    record {
      searched = searches-at_once c.args.self.now c.make_wanted.new.self c.args.wanted c.in-Some.made
          (g.J.Finalizer.tells c.args.journal.now c.args.journal.now) (g.met.J.Finalizer.tells_nothing c.args.journal.now) c.in-Some.ensures;
    }

pub search_on-requires-clause-wanted : goal.search_on-requires-clause-wanted
search_on-requires-clause-wanted g c =
    let none = made-nowhere c.args.wanted reach.Now (view_of_gc c.args.self.now) (view_of_gc c.make_wanted.new.self)
    c.in_default.ensures in
    subst (λ view. IsWanted view c.args.wanted) (sym none.same) c.requires.wanted

pub search_on-requires-clause-nowhere : goal.search_on-requires-clause-nowhere
search_on-requires-clause-nowhere g c =
    let none = made-nowhere c.args.wanted reach.Now (view_of_gc c.args.self.now) (view_of_gc c.make_wanted.new.self)
    c.in_default.ensures in
    subst (λ view. place_in_reach reach.Now view c.args.wanted ≡ None) (sym none.same) none.nowhere

pub returns : goal.returns
returns g c =
    record {
      searched = let none = made-nowhere c.args.wanted reach.Now (view_of_gc c.args.self.now) (view_of_gc c.make_wanted.new.self)
          c.in_default.ensures in
          searches-from c.args.self.now c.make_wanted.new.self c.search_on.new.self c.args.wanted c.search_on.result
          (g.J.Finalizer.tells c.args.journal.now c.search_on.new.journal)
          none.same c.search_on.ensures.searched;
    }
