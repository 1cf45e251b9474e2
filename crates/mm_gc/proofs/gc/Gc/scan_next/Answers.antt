use Rattle.std.proofs.Common.{◌≡◌, ℕ, ◌+◌, ◌*◌, List, [], ◌∷◌, Option, None, true, sym, ap, ◌∙◌, subst}
use Rattle.std.specs.Prelude.{unwrap_or}
use Rattle.mm_mark.specs.Marker.{marking}
use Rattle.mm_mark.specs.Stale.{HasFewStale, IsPaid, slots_of}
use Rattle.mm_gc.specs.Gc.{Gc, view_of_gc}
use Rattle.mm_gc.specs.Inside.{gc_of}
use Rattle.mm_gc.specs.Phases.{ScanAnswer, HasNoneToScan}
use Rattle.mm_sweep.specs.Told.{Told, Scan}
use Rattle.mm_gc.specs.Showing.{IsShowing}
use Rattle.mm_gc.specs.Steps.{marking_in}
use Rattle.mm_gc.proofs.Marking.Begun.{keeps-gray, runs-told}
use Rattle.mm_gc.proofs.Marking.Scanning.{part-scanned, none-scanned, keeps-scanned, answer-shows}
use Rattle.mm_gc.proofs.gc.Gc.scan_next.Given.{Over}
use Rattle.mm_gc.proofs.gc.Gc.scan_next.Goals as goal
use Rattle.mm_gc.proofs.gc.Gc.scan_next.Goals.{in-Some, in-None}

pub scan_part-requires-clause-keeps : goal.scan_part-requires-clause-keeps
scan_part-requires-clause-keeps g c = keeps-gray (gc_of c.self.inside) c.self.invariant

module _ (g : Over) (c : goal.Joined-scan_part g) where
  abbrev heard : List Told → Type 0
  heard = g.J.Finalizer.tells c.args.journal.now c.match-scan_part.journal

  abbrev now : Gc
  now = record (gc_of c.self.inside) {
    region = record c.self.inside.region { heap = c.scan_part.new.heap };
    marker = c.scan_part.new.self;
  }

  runs : c.self.inside.marker.running ≡ true
  runs = ap (λ (gc : Gc). gc.marker.running) c.self.view_is ∙ c.requires

  -- where there was nothing to scan, nothing has changed
  unchanged : c.scan_part.result ≡ None → c.scan_part.new.heap ≡ c.self.inside.region.heap
  unchanged none = c.scan_part.ensures.stays none

  unchanged_partly : c.scan_part.result ≡ None → c.scan_part.new.self.partly ≡ c.self.inside.marker.partly
  unchanged_partly none = c.scan_part.ensures.partly none

  answer : ScanAnswer (view_of_gc (gc_of c.self.inside)) (view_of_gc now) heard c.match-scan_part.result
  answer =
      elim c.match-scan_part.branch [
        | in-Some w ↦
            subst (λ (result : Option ℕ).
            ScanAnswer (view_of_gc (gc_of c.self.inside)) (view_of_gc now) heard result)
            (sym w.result-is)
            (part-scanned (gc_of c.self.inside) c.self.invariant c.scan_part.new.heap c.scan_part.new.self runs
            c.scan_part.ensures.rest c.scan_part.ensures.cycle w.in-Some.part w.in-Some.ensures.part heard
            (subst (λ (j : g.row.J.Denot). g.J.Finalizer.tells c.args.journal.now j
            (Scan w.in-Some.part.base w.in-Some.part.slots ∷ [])) (sym w.journal-is) w.scan.ensures))
        | in-None w ↦
            subst (λ (result : Option ℕ).
            ScanAnswer (view_of_gc (gc_of c.self.inside)) (view_of_gc now) heard result)
            (sym w.result-is)
            (subst (λ (j : g.row.J.Denot). HasNoneToScan (view_of_gc (gc_of c.self.inside)) (view_of_gc now)
            (g.J.Finalizer.tells c.args.journal.now j)) (sym w.journal-is)
            (none-scanned (gc_of c.self.inside) c.self.invariant c.scan_part.new.heap c.scan_part.new.self runs
            c.scan_part.ensures.rest c.scan_part.ensures.cycle w.in-None.ensures.part (unchanged w.in-None.is)
            (unchanged_partly w.in-None.is)
            (g.J.Finalizer.tells c.args.journal.now c.args.journal.now)
            (g.met.J.Finalizer.tells_nothing c.args.journal.now)))
      ]

  shown : IsShowing (view_of_gc now)
  shown =
      answer-shows (view_of_gc (gc_of c.self.inside)) (view_of_gc now) c.self.invariant.shown
      (runs-told (gc_of c.self.inside) runs) c.match-scan_part.result heard answer

pub invariant_of-self : goal.invariant_of-self
invariant_of-self g c =
    keeps-scanned (gc_of c.self.inside) c.self.invariant c.scan_part.new.heap c.scan_part.new.self (runs g c)
    c.scan_part.ensures.rest c.scan_part.ensures.cycle
    (c.scan_part.ensures.sound c.self.invariant.settled.keeps.sound.heap) c.scan_part.ensures.keeps.known
    c.scan_part.ensures.fewer (shown g c)

pub returns-clause-part : goal.returns-clause-part
returns-clause-part g c =
    subst (λ (gc : Gc).
    ScanAnswer (view_of_gc gc) (view_of_gc (now g c)) (heard g c) c.match-scan_part.result)
    c.self.view_is (answer g c)

pub returns-clause-cost : goal.returns-clause-cost
returns-clause-cost g c stale few =
    let before = subst (λ (gc : Gc). HasFewStale (marking_in gc) stale) (sym c.self.view_is) few in
    let paid = c.scan_part.ensures.few stale before in
    let slots : slots_of c.scan_part.result ≡ unwrap_or c.match-scan_part.result 0 =
    elim c.match-scan_part.branch [
      | in-Some w ↦ ap slots_of w.in-Some.is ∙ ap (λ (r : Option ℕ). unwrap_or r 0) (sym w.result-is)
      | in-None w ↦ ap slots_of w.in-None.is ∙ ap (λ (r : Option ℕ). unwrap_or r 0) (sym w.result-is)
    ] in
    subst (λ (n : ℕ). IsPaid (marking c.scan_part.new.self c.scan_part.new.heap) c.scan_part.new.steps
    (c.args.steps.now + 16 * (1 + n) + 8 * stale)) slots paid
