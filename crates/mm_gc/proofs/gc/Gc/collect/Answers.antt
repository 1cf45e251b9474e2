use Rattle.std.proofs.Common.{◌≡◌, ℕ, ◌+◌, take, length, refl, sym, ap, subst, arith}
use Rattle.std.proofs.lemmas.List.{length-take-le}
use Rattle.mm_model.specs.declared.command.Command.TheVariants as commands
use Rattle.mm_model.specs.declared.reply.Reply.TheVariants as replies
use Rattle.mm_model.specs.Views.ViewPhase.{view_collected}
use Rattle.mm_model.specs.Views.ViewWords.{outside_references}
use Rattle.mm_words.specs.Location.{location_of}
use Rattle.mm_gc.specs.Gc.{Gc, view_of_gc}
use Rattle.mm_gc.specs.Inside.{gc_of}
use Rattle.mm_gc.specs.Rows.{Tells}
use Rattle.mm_gc.proofs.Marking.Begun.{white-idle, settled-recoloured, tight-recoloured, counts-recoloured}
use Rattle.mm_gc.proofs.Frees.Freed.{HasCollected, freed-fits, collects-shows, keeps-collected, tells-collected}
use Rattle.mm_gc.proofs.Rows.Phases.{collect-row}
use Rattle.mm_gc.proofs.gc.Gc.collect.Given.{Over}
use Rattle.mm_gc.proofs.gc.Gc.collect.Goals as goal

pub mark_all-requires-clause-white : goal.mark_all-requires-clause-white
mark_all-requires-clause-white g c = white-idle (gc_of c.self.inside) c.self.invariant

pub free_white-found-requires-clause-settled : goal.free_white-found-requires-clause-settled
free_white-found-requires-clause-settled g c =
    settled-recoloured (gc_of c.self.inside) c.self.invariant c.mark_all.new.heap c.mark_all.ensures.colours
    (c.mark_all.ensures.sound c.self.invariant.settled.keeps.sound.heap)

pub free_white-found-requires-clause-tight : goal.free_white-found-requires-clause-tight
free_white-found-requires-clause-tight g c =
    tight-recoloured (gc_of c.self.inside) c.self.invariant c.mark_all.new.heap c.mark_all.ensures.colours

pub free_white-found-requires-clause-counted : goal.free_white-found-requires-clause-counted
free_white-found-requires-clause-counted g c = (
  outside_references (view_of_gc (gc_of c.self.inside)),
  counts-recoloured (gc_of c.self.inside) c.self.invariant c.mark_all.new.heap c.mark_all.ensures.colours,
)

pub overflow_add-self : goal.overflow_add-self
overflow_add-self g c =
    let view = view_of_gc (gc_of c.self.inside) in
    let found = c.free_white-found in
    let dead = take found.result found.new.dead.words in
    let many : view.totals.freed + length dead ≡ c.self.inside.freed + found.result =
    ap (λ (n : ℕ). c.self.inside.freed + n) (length-take-le found.result found.new.dead.words found.ensures.within) in
    let few = freed-fits c.self.inside.freed c.self.inside.born found.result (view_collected dead view)
    (collects-shows view c.self.invariant.shown dead
    (c.mark_all.ensures.unreached dead found.ensures.bases)) many refl in
    let born = c.self.ranges.1.1.1.1.1.1.1.1.0.1 in
    omega (arith, few, born)

module _ (g : Over) (c : goal.After-self-1 g) where
  has : HasCollected (gc_of c.self.inside) c.mark_all.new.heap c.free_white-found.new.region
      c.free_white-found.new.count (take c.free_white-found.result c.free_white-found.new.dead.words)
  has =
      record {
        colours = c.mark_all.ensures.colours;
        objects = c.free_white-found.ensures.objects;
        counted = c.free_white-found.ensures.counted (outside_references (view_of_gc (gc_of c.self.inside)))
            (counts-recoloured (gc_of c.self.inside) c.self.invariant c.mark_all.new.heap c.mark_all.ensures.colours);
        areas = c.free_white-found.ensures.areas;
        same = c.free_white-found.ensures.same;
        settled = c.free_white-found.ensures.settled;
        same_table = c.free_white-found.ensures.table;
      }

  so_many : c.free_white-found.result
      ≡ length (take c.free_white-found.result c.free_white-found.new.dead.words)
  so_many =
      sym (length-take-le c.free_white-found.result c.free_white-found.new.dead.words c.free_white-found.ensures.within)

pub invariant_of-self : goal.invariant_of-self
invariant_of-self g c =
    let found = c.free_white-found in
    let dead = take found.result found.new.dead.words in
    let view = view_of_gc (gc_of c.self.inside) in
    keeps-collected (gc_of c.self.inside) c.self.invariant c.mark_all.new.heap found.new.region found.new.count
    c.mark_all.new.marker c.end.new.self dead (location_of found.new.dead) found.result (has g c)
    c.mark_all.ensures.runs c.end.ensures.idle found.ensures.dead (so_many g c)
    (collects-shows view c.self.invariant.shown dead (c.mark_all.ensures.unreached dead found.ensures.bases))

pub returns-clause-row : goal.returns-clause-row
returns-clause-row g c =
    let old = gc_of c.self.inside in
    let found = c.free_white-found in
    let dead = take found.result found.new.dead.words in
    let after : Gc = record old {
      region = found.new.region;
      table = found.new.count;
      marker = c.end.new.self;
      dead = location_of found.new.dead;
      freed = old.freed + found.result;
    } in
    subst (λ (gc : Gc). Tells gc after commands.Collect replies.Done
    (g.J.Finalizer.tells c.args.journal.now found.new.journal)) c.self.view_is
    (tells-collected old c.self.invariant c.mark_all.new.heap found.new.region found.new.count c.mark_all.new.marker
    c.end.new.self dead (location_of found.new.dead) found.result (has g c) c.mark_all.ensures.runs c.end.ensures.idle
    found.ensures.dead (so_many g c) commands.Collect
    (g.J.Finalizer.tells c.args.journal.now found.new.journal)
    (collect-row (view_of_gc old) dead (c.mark_all.ensures.unreached dead found.ensures.bases)) found.ensures.told)
