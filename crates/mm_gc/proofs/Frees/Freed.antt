-- What a phase leaves of a heap shows what it leaves of the view, and keeps what is kept between calls.
use Rattle.std.proofs.Common.{◌≡◌, ℕ, ◌+◌, ◌-◌, ◌≤◌, true, false, List, length, Option, Some, None, refl}
use Rattle.std.proofs.Common.{sym, ap, ◌∙◌, subst, arith}
use Rattle.std.specs.Prelude.{if◌then◌else◌}
use Rattle.mm_model.specs.declared.command.Command.TheVariants as commands
use Rattle.mm_model.specs.declared.command.Command.{Command}
use Rattle.mm_model.specs.declared.line.Phase.TheVariants as phases
use Rattle.mm_model.specs.declared.reply.Reply.TheVariants as replies
use Rattle.mm_model.specs.Views.ViewStep.{IsViewRow}
use Rattle.mm_model.specs.declared.object.Colour.TheVariants.{White, Gray}
use Rattle.mm_model.specs.Views.ByBase.{changed}
use Rattle.mm_model.specs.Views.ObjectView.{ObjectsByBase}
use Rattle.mm_model.specs.Views.GoodView.{AreWhite}
use Rattle.mm_model.specs.Views.View.{View, AreaView, CycleView}
use Rattle.mm_model.specs.Views.ViewPhase.{view_after_release, view_phase_lines}
use Rattle.mm_model.specs.Views.ViewPhase.{view_collected, view_reaped, ViewReaps, ViewCollects, ViewFinishes}
use Rattle.mm_model.specs.Views.ViewWords.{outside_references}
use Rattle.mm_model.proofs.View.GoodCounts.{shown_totals}
use Rattle.mm_words.specs.Location.{Location}
use Rattle.mm_object.specs.Object.{views_of}
use Rattle.mm_object.specs.Heap.{Heap}
use Rattle.mm_count.specs.Counts.{IsCountedBy}
use Rattle.mm_count.specs.Table.{Table, IsSameTable}
use Rattle.mm_mark.specs.Colours.{IsSameButColours}
use Rattle.mm_mark.specs.Marker.{Marker, HasBegun, IsIdle}
use Rattle.mm_gc.specs.Gc.{Region, Gc, objects_in, areas_in, cycle_in, view_of_gc}
use Rattle.mm_gc.specs.Kept.{IsSettled, KeepsGc}
use Rattle.mm_gc.specs.Counts.{HasCounts}
use Rattle.mm_gc.specs.Regions.{IsSameRegion}
use Rattle.mm_sweep.specs.Told.{Told, IsToldOf}
use Rattle.mm_gc.specs.Rows.{Tells, IsRowOf}
use Rattle.mm_gc.specs.Showing.{IsShowing}
use Rattle.mm_gc.proofs.Colours.Alike.{all_white, white-all_white}
use Rattle.mm_gc.proofs.Colours.AlikeHeaps.{views-alike, rest-alike}
use Rattle.mm_gc.proofs.Colours.Recoloured.{released-whitened}
use Rattle.mm_gc.proofs.Keeping.Rooms.{HasSameRooms, rooms-kept, pieces-kept}
use Rattle.mm_gc.proofs.Rows.Phases.{Runs, reap-row, collect-row, finish-row}
use Rattle.mm_gc.proofs.Telling.Heard.{heard-alike}
use Rattle.mm_gc.proofs.Shown.{row-of, row-shows}
use Rattle.mm_gc.proofs.Writing.Settling.{same_region-objects, same_region-then, areas-objects}

-- a view by the parts that a phase changes
abbrev pub view_with : View → ObjectsByBase → List AreaView → Option CycleView → ℕ → ℕ → ℕ → View
view_with view objects areas cycle threshold freed live =
    record {
      objects = objects;
      stack = view.stack;
      areas = areas;
      cycle = cycle;
      threshold = threshold;
      totals = record { commands = view.totals.commands; born = view.totals.born; freed = freed; live = live };
      settings = view.settings;
    }

pub same-parts : (view : View) (a b : ObjectsByBase) (areas others : List AreaView) (cycle other : Option CycleView)
    (threshold t freed f live l : ℕ) → a ≡ b → areas ≡ others → cycle ≡ other → threshold ≡ t → freed ≡ f → live ≡ l
    → view_with view a areas cycle threshold freed live ≡ view_with view b others other t f l
same-parts view a b areas others cycle other threshold t freed f live l p q r s u v =
    ap (λ (x : ObjectsByBase). view_with view x areas cycle threshold freed live) p
    ∙ ap (λ (x : List AreaView). view_with view b x cycle threshold freed live) q
    ∙ ap (λ (x : Option CycleView). view_with view b others x threshold freed live) r
    ∙ ap (λ (x : ℕ). view_with view b others other x freed live) s
    ∙ ap (λ (x : ℕ). view_with view b others other t x live) u
    ∙ ap (λ (x : ℕ). view_with view b others other t f x) v

-- places outside of objects hold as many references as before where areas stay
pub outside-kept : (old new : View) → new.areas ≡ old.areas → outside_references new ≡ outside_references old
outside-kept old new same =
    ap (λ (areas : List AreaView). outside_references (record old { areas = areas })) same

-- no more objects are freed than were born
pub freed-born : (view : View) → IsShowing view → view.totals.freed ≤ view.totals.born
freed-born view showing =
    let totals = shown_totals view showing.state showing.good showing.shows in
    let born = totals.born in
    omega (arith, born)

-- the good states that phases lead to
pub reaps-shows : (view : View) → IsShowing view → (dead : List ℕ) → ViewReaps view dead
    → IsShowing (view_reaped dead view)
reaps-shows view showing dead reaps =
    row-shows view (view_reaped dead view) commands.Reap (view_phase_lines phases.Reap view dead) replies.Done showing
    (reap-row view dead reaps)

pub collects-shows : (view : View) → IsShowing view → (dead : List ℕ) → ViewCollects view dead
    → IsShowing (view_collected dead view)
collects-shows view showing dead collects =
    row-shows view (view_collected dead view) commands.Collect (view_phase_lines phases.Collect view dead) replies.Done
    showing (collect-row view dead collects)

pub finishes-shows : (view : View) → IsShowing view → Runs view → (dead : List ℕ) → ViewFinishes view dead
    → IsShowing (view_collected dead view)
finishes-shows view showing runs dead finishes =
    row-shows view (view_collected dead view) commands.Finish (view_phase_lines phases.Collect view dead) replies.Done
    showing (finish-row view dead runs finishes)

-- So what a phase frees was born.
pub freed-fits : (freed born many : ℕ) (view : View) → IsShowing view → view.totals.freed ≡ freed + many
    → view.totals.born ≡ born → freed + many ≤ born
freed-fits freed born many view showing f b =
    let few = freed-born view showing in
    omega (arith, few, f, b)

-- What was white once all was marked is freed, and all else is white.
pub record HasCollected (old : Gc) (heap : Heap) (region : Region) (table : Table) (dead : List ℕ) : Type 0 where
  pub colours : IsSameButColours old.region.heap heap
  pub objects : objects_in region ≡ changed (view_after_release dead) (all_white (views_of heap.objects))
  pub counted : HasCounts table region.heap (outside_references (view_of_gc old))
  pub areas : areas_in region ≡ areas_in (record old.region { heap = heap })
  pub same : IsSameRegion (record old.region { heap = heap }) region
  pub settled : IsSettled region
  pub same_table : IsSameTable old.table table

module _ (old : Gc) (keeps : KeepsGc old) (heap : Heap) (region : Region) (table : Table) (middle marker : Marker)
    (dead : List ℕ) (place : Location) (freed : ℕ) (h : HasCollected old heap region table dead)
    (begun : HasBegun old.marker middle) (idle : IsIdle middle marker) (there : place ≡ old.dead)
    (so_many : freed ≡ length dead) where
  abbrev pub collected : Gc
  collected =
      record old { region = region; table = table; marker = marker; dead = place; freed = old.freed + freed }

  areas-same : areas_in region ≡ areas_in old.region
  areas-same = h.areas ∙ areas-objects old.region heap (rest-alike old.region.heap heap h.colours)

  objects-same : objects_in region ≡ (view_collected dead (view_of_gc old)).objects
  objects-same =
      h.objects
      ∙ ap (λ (os : ObjectsByBase). changed (view_after_release dead) os)
      (sym (views-alike old.region.heap heap h.colours))
      ∙ released-whitened dead (objects_in old.region)

  pub view-collected : view_of_gc collected ≡ view_collected dead (view_of_gc old)
  view-collected =
      let white = view_collected dead (view_of_gc old) in
      let cycle : cycle_in collected ≡ None =
      ap (λ (m : Marker). if m.running then Some (record { gone_before = old.gone_before; partly_scanned = m.partly })
      else None) idle in
      same-parts (view_of_gc old) (objects_in region) white.objects (areas_in region) (areas_in old.region)
      (cycle_in collected) None old.threshold old.threshold (old.freed + freed) (old.freed + length dead)
      (old.born - (old.freed + freed)) (old.born - old.freed - length dead) objects-same areas-same cycle refl
      (omega (arith, so_many)) (omega (arith, so_many))

  white : AreWhite (objects_in region)
  white =
      subst AreWhite (sym objects-same)
      (white-all_white (changed (view_after_release dead) (objects_in old.region)))

  clash : {A : Type 0} → White ≡ Gray → A
  clash e = cc

  runs_not : {A : Type 0} → false ≡ true → A
  runs_not e = cc

  pub keeps-collected : IsShowing (view_collected dead (view_of_gc old)) → KeepsGc collected
  keeps-collected shown =
      let cells : HasSameRooms old collected = record {
        region = same_region-then old.region (record old.region { heap = heap }) region
            (same_region-objects old.region heap (rest-alike old.region.heap heap h.colours)) h.same;
        stack = refl;
        table = h.same_table;
        queue = ap (λ (m : Marker). m.location) idle ∙ ap (λ (m : Marker). m.location) begun;
        room = ap (λ (m : Marker). m.room) idle ∙ ap (λ (m : Marker). m.room) begun;
        dead = there;
        settings = refl;
      } in
      record {
        shown = subst IsShowing (sym view-collected) shown;
        settled = h.settled;
        counts = record {
          right = h.counted.right;
          counted = subst (λ (outside : ℕ → ℕ). IsCountedBy region.heap.objects outside)
              (sym (outside-kept (view_of_gc old) (view_of_gc collected) areas-same)) h.counted.counted;
          listed = h.counted.listed;
          unpinned = h.counted.unpinned;
        };
        linked = h.counted.linked;
        marking = record {
          known = λ base object begins gray. clash (sym (white base object begins) ∙ gray);
          idle = λ e. ap (λ (m : Marker). m.partly) idle;
          since = let since = keeps.marking.since in omega arith;
          few = λ runs. runs_not (sym (ap (λ (m : Marker). m.running) idle) ∙ runs);
        };
        rooms = rooms-kept old collected cells keeps.rooms;
        pieces = pieces-kept old collected cells keeps.pieces;
      }

  -- The journal heard the lines of the phase, as they are told of what is marked.
  pub tells-collected : (command : Command) (heard : List Told → Type 0)
      → IsViewRow (view_of_gc old) command (view_phase_lines phases.Collect (view_of_gc old) dead)
      (record { view = view_collected dead (view_of_gc old); reply = replies.Done })
      → ((view : View) → view.objects ≡ views_of heap.objects
      → IsToldOf heard view.objects (view_phase_lines phases.Collect view dead))
      → Tells old collected command replies.Done heard
  tells-collected command heard row told =
      let view = view_of_gc old in
      let marked : View = record view { objects = views_of heap.objects } in
      record {
        log = view_phase_lines phases.Collect view dead;
        answers = subst
            (λ (v : View). IsRowOf view v command (view_phase_lines phases.Collect view dead) replies.Done)
            (sym view-collected)
            (row-of view (view_collected dead view) command (view_phase_lines phases.Collect view dead) replies.Done
            row);
        told = heard-alike heard phases.Collect marked view (sym (views-alike old.region.heap heap h.colours)) dead
            (told marked refl);
      }
