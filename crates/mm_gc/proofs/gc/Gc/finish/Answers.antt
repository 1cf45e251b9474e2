use Rattle.std.proofs.Common.{◌≡◌, ℕ, ◌+◌, ◌<◌, ◌^◌, true, take, length, refl, sym, ap, ◌∙◌, subst, arith}
use Rattle.std.proofs.lemmas.List.{length-take-le}
use Rattle.mm_model.specs.declared.command.Command.TheVariants as commands
use Rattle.mm_model.specs.declared.reply.Reply.TheVariants as replies
use Rattle.mm_model.specs.Views.ViewPhase.{view_collected}
use Rattle.mm_model.specs.Views.ViewWords.{outside_references}
use Rattle.mm_words.specs.Location.{location_of}
use Rattle.mm_object.specs.Object.{views_of}
use Rattle.mm_object.specs.Heap.{Heap}
use Rattle.mm_gc.specs.Gc.{Gc, objects_in, freed_since, view_of_gc}
use Rattle.mm_gc.specs.Inside.{gc_of}
use Rattle.mm_gc.specs.Rows.{Tells}
use Rattle.mm_gc.specs.Steps.{IsFinishCost}
use Rattle.mm_gc.proofs.Colours.Alike.{AreAlike}
use Rattle.mm_gc.proofs.Colours.AlikeHeaps.{views-alike, rest-alike}
use Rattle.mm_gc.proofs.Marking.Begun.{keeps-gray, done-names, runs-told, idle-told, settled-recoloured}
use Rattle.mm_gc.proofs.Marking.Begun.{tight-recoloured}
use Rattle.mm_gc.proofs.Marking.Begun.{counts-recoloured}
use Rattle.mm_gc.proofs.Marking.FinishCost.{many-alike, counted-alike, finalized-alike}
use Rattle.mm_gc.proofs.Frees.Freed.{HasCollected, freed-fits, finishes-shows, keeps-collected, tells-collected}
use Rattle.mm_gc.proofs.Rows.Phases.{finish-row, finish-idle}
use Rattle.mm_gc.proofs.Keeping.Untouched.{tells-refused}
use Rattle.mm_model.specs.declared.refusal.Refusal.TheVariants as refusals
use Rattle.mm_gc.proofs.gc.Gc.finish.Given.{Over}
use Rattle.mm_gc.proofs.gc.Gc.finish.Goals as goal

pub returns-then-not-running-clause-row : goal.returns-then-not-running-clause-row
returns-then-not-running-clause-row g c =
    let gc = gc_of c.self.inside in
    subst (λ (gc : Gc). Tells gc gc commands.Finish (replies.Refused refusals.Idle)
    (g.J.Finalizer.tells c.args.journal.now c.args.journal.now)) c.self.view_is
    (tells-refused gc commands.Finish refusals.Idle (g.J.Finalizer.tells c.args.journal.now c.args.journal.now)
    (g.met.J.Finalizer.tells_nothing c.args.journal.now)
    (finish-idle (view_of_gc gc) (idle-told gc (sym c.running.ensures ∙ c.if-not-running.true))))

pub mark_rest-requires-clause-keeps : goal.mark_rest-requires-clause-keeps
mark_rest-requires-clause-keeps g c = keeps-gray (gc_of c.self.inside) c.self.invariant

pub mark_rest-requires-clause-done : goal.mark_rest-requires-clause-done
mark_rest-requires-clause-done g c = done-names (gc_of c.self.inside) c.self.invariant

pub free_white-found-requires-clause-settled : goal.free_white-found-requires-clause-settled
free_white-found-requires-clause-settled g c =
    settled-recoloured (gc_of c.self.inside) c.self.invariant c.mark_rest.new.heap c.mark_rest.ensures.colours
    (c.mark_rest.ensures.sound c.self.invariant.settled.keeps.sound.heap)

pub free_white-found-requires-clause-tight : goal.free_white-found-requires-clause-tight
free_white-found-requires-clause-tight g c =
    tight-recoloured (gc_of c.self.inside) c.self.invariant c.mark_rest.new.heap c.mark_rest.ensures.colours

pub free_white-found-requires-clause-counted : goal.free_white-found-requires-clause-counted
free_white-found-requires-clause-counted g c = (
  outside_references (view_of_gc (gc_of c.self.inside)),
  counts-recoloured (gc_of c.self.inside) c.self.invariant c.mark_rest.new.heap c.mark_rest.ensures.colours,
)

pub overflow_add-self : goal.overflow_add-self
overflow_add-self g c =
    let view = view_of_gc (gc_of c.self.inside) in
    let found = c.free_white-found in
    let dead = take found.result found.new.dead.words in
    let many : view.totals.freed + length dead ≡ c.self.inside.freed + found.result =
    ap (λ (n : ℕ). c.self.inside.freed + n) (length-take-le found.result found.new.dead.words found.ensures.within) in
    let few = freed-fits c.self.inside.freed c.self.inside.born found.result (view_collected dead view)
    (finishes-shows view c.self.invariant.shown
    (runs-told (gc_of c.self.inside) (sym c.running.ensures ∙ c.if-not-running.false)) dead
    (c.mark_rest.ensures.unmarked dead found.ensures.bases)) many refl in
    let born = c.self.ranges.1.1.1.1.1.1.1.1.0.1 in
    omega (arith, few, born)

module _ (g : Over) (c : goal.After-self-1 g) where
  has : HasCollected (gc_of c.self.inside) c.mark_rest.new.heap c.free_white-found.new.region
      c.free_white-found.new.count (take c.free_white-found.result c.free_white-found.new.dead.words)
  has =
      record {
        colours = c.mark_rest.ensures.colours;
        objects = c.free_white-found.ensures.objects;
        counted = c.free_white-found.ensures.counted (outside_references (view_of_gc (gc_of c.self.inside)))
            (counts-recoloured (gc_of c.self.inside) c.self.invariant c.mark_rest.new.heap c.mark_rest.ensures.colours);
        areas = c.free_white-found.ensures.areas;
        same = c.free_white-found.ensures.same;
        settled = c.free_white-found.ensures.settled;
        same_table = c.free_white-found.ensures.table;
      }

  so_many : c.free_white-found.result
      ≡ length (take c.free_white-found.result c.free_white-found.new.dead.words)
  so_many =
      sym (length-take-le c.free_white-found.result c.free_white-found.new.dead.words c.free_white-found.ensures.within)

pub invariant_of-self : goal.invariant_of-self
invariant_of-self g c =
    let found = c.free_white-found in
    let dead = take found.result found.new.dead.words in
    let view = view_of_gc (gc_of c.self.inside) in
    keeps-collected (gc_of c.self.inside) c.self.invariant c.mark_rest.new.heap found.new.region found.new.count
    c.mark_rest.new.marker c.end.new.self dead (location_of found.new.dead) found.result (has g c)
    c.mark_rest.ensures.runs c.end.ensures.idle found.ensures.dead (so_many g c)
    (finishes-shows view c.self.invariant.shown
    (runs-told (gc_of c.self.inside) (sym c.running.ensures ∙ c.if-not-running.false)) dead
    (c.mark_rest.ensures.unmarked dead found.ensures.bases))

pub returns-clause-row : goal.returns-clause-row
returns-clause-row g c =
    let old = gc_of c.self.inside in
    let found = c.free_white-found in
    let dead = take found.result found.new.dead.words in
    let after : Gc = record old {
      region = found.new.region;
      table = found.new.count;
      marker = c.end.new.self;
      dead = location_of found.new.dead;
      freed = old.freed + found.result;
    } in
    subst (λ (gc : Gc). Tells gc after commands.Finish replies.Done
    (g.J.Finalizer.tells c.args.journal.now found.new.journal)) c.self.view_is
    (tells-collected old c.self.invariant c.mark_rest.new.heap found.new.region found.new.count c.mark_rest.new.marker
    c.end.new.self dead (location_of found.new.dead) found.result (has g c) c.mark_rest.ensures.runs c.end.ensures.idle
    found.ensures.dead (so_many g c) commands.Finish
    (g.J.Finalizer.tells c.args.journal.now found.new.journal)
    (finish-row (view_of_gc old) dead (runs-told old (sym c.running.ensures ∙ c.if-not-running.false))
    (c.mark_rest.ensures.unmarked dead found.ensures.bases)) found.ensures.told)

pub returns-clause-cost : goal.returns-clause-cost
returns-clause-cost g c =
    let old = gc_of c.self.inside in
    let keeps = c.self.invariant in
    let found = c.free_white-found in
    let dead = take found.result found.new.dead.words in
    let marked = c.mark_rest.new.heap in
    let before = objects_in old.region in
    let after = views_of marked.objects in
    let runs : old.marker.running ≡ true = sym c.running.ensures ∙ c.if-not-running.false in
    subst (λ (gc : Gc). IsFinishCost gc c.args.steps.now found.new.steps) c.self.view_is (record {
      dead = dead;
      bases = c.mark_rest.ensures.unmarked dead found.ensures.bases;
      within = λ room digits few.
          let same : AreAlike after before = sym (views-alike old.region.heap marked c.mark_rest.ensures.colours) in
          let most = keeps.settled.keeps.tables.pages ∙ keeps.rooms.most in
          let pages = ap (λ (h : Heap). h.pages) (rest-alike old.region.heap marked c.mark_rest.ensures.colours)
          ∙ keeps.settled.keeps.tables.heap ∙ keeps.rooms.most in
          let marking = c.mark_rest.ensures.cost (freed_since old) (keeps.marking.few runs room) dead
          found.ensures.bases in
          let freeing = found.ensures.cost digits (subst (λ (n : ℕ). n < 2 ^ digits) (sym most) few) in
          let many = many-alike after before same in
          let counted = counted-alike after before same dead in
          let told = finalized-alike after before same dead in
          omega (arith, marking, freeing, pages, many, counted, told);
    })
