-- The parts that `step` scans: what they do to a view is what they do to the state.
use Rattle.std.proofs.Common.{◌≡◌, ℕ, ◌+◌, ◌<◌, Bool, true, false, List, [], ◌∷◌, length, take, drop, Option, Some}
use Rattle.std.proofs.Common.{None, refl, sym, ap, ◌∙◌, subst, arith}
use Rattle.std.proofs.lemmas.Option.{slice_get_within}
use Rattle.std.specs.Prelude.{◌==◌, if◌then◌else◌, slice_set}
use Rattle.std.specs.Option.{option_map}
use Rattle.mm_model.specs.declared.line.Line.{Line}
use Rattle.mm_model.specs.declared.line.Line.TheVariants as lines
use Rattle.mm_model.specs.declared.object.Colour.TheVariants.{White, Gray, Black}
use Rattle.mm_model.specs.Object.{Object}
use Rattle.mm_model.specs.State.{State, Cycle, Lives}
use Rattle.mm_model.specs.Words.{scanned_slots}
use Rattle.mm_model.specs.Sets.Marking.{MayScan, colour_in, done_of, advanced, grayed_cycle, with_grayed, part_slots}
use Rattle.mm_model.specs.Sets.Marking.{part_done}
use Rattle.mm_model.specs.Sets.Scan.{AreScanned, IsNothingGray, IsEnough, Nothing_asked, Cost_reached, Nothing_left}
use Rattle.mm_model.specs.Step.{Scans}
use Rattle.mm_model.specs.Good.{IsGood}
use Rattle.mm_model.specs.Views.ByBase.{Based, with_entry}
use Rattle.mm_model.specs.Views.ObjectView.{ObjectView, ObjectsByBase}
use Rattle.mm_model.specs.Views.SetsByBase.{with_grayed_objects}
use Rattle.mm_model.specs.Views.View.{View, CycleView, PartlyScannedView, seen, seen_objects, seen_cycle, view_of}
use Rattle.mm_model.specs.Views.ViewStep.{ViewMayScan, view_advanced, view_part_slots, view_part_done, ViewScansAll}
use Rattle.mm_model.specs.Views.ViewStep.{NoGray}
use Rattle.mm_model.specs.Views.ViewStep.{ViewIsEnough, ViewScans, slots_done_in}
use Rattle.mm_model.specs.Views.ViewStep as views
use Rattle.mm_model.proofs.Good.Scanning.{part_is_good, scanned_is_good}
use Rattle.mm_model.proofs.Good.Writing.Shading.{length-grayed}
use Rattle.mm_model.proofs.View.Marking.Graying.{seen_objects-grayed}
use Rattle.mm_model.proofs.View.Marking.Scanning.{base_of-lives, slots_done-seen, turn-seen, blackened-seen}
use Rattle.mm_model.proofs.View.ByBase.Seen.{seen_based, begins-seen, seen-begins}

module _ (a : State) (cycle : Cycle) (birth : ℕ) (object : Object) where
  abbrev running : State
  running = record a { cycle = Some cycle }

  -- the view after a part whose first slot stands at this place
  abbrev part_from : ℕ → View
  part_from done =
      let slots = take 64 (drop done (scanned_slots object)) in
      view_advanced (seen_based running birth object) (done + length slots)
      (record (view_of running) { objects = with_grayed_objects slots (seen_objects running) })

  module _ (good : IsGood running) (lives : Lives running birth object) (done : ℕ) where
    abbrev slots : List ℕ
    slots = take 64 (drop done (scanned_slots object))

    abbrev graying : Cycle
    graying = grayed_cycle slots running cycle

    each : length graying.colours ≡ length a.objects
    each = length-grayed slots a.objects cycle.colours ∙ good.coloured.each

    grayed-seen : seen_objects (with_grayed slots running) ≡ with_grayed_objects slots (seen_objects running)
    grayed-seen = seen_objects-grayed running slots cycle refl good.coloured.each

    abbrev in_cycle : Cycle → State
    in_cycle c = record a { cycle = Some c }

    abbrev all : ℕ
    all = done + length slots

    abbrev partly : Option ℕ → Option PartlyScannedView
    partly base = option_map (λ b. record { base = b; slots_done = all }) base

    abbrev whole : ObjectsByBase → CycleView → View
    whole objects cycle = record (view_of running) { objects = objects; cycle = Some cycle }

    ended : whole (with_entry object.base (Some (record (seen a birth object) { colour = Black }))
        (with_grayed_objects slots (seen_objects running)))
        (record (seen_cycle running cycle) { partly_scanned = None })
        ≡ view_of (in_cycle (record graying { colours = slice_set graying.colours birth Black; partly_scanned = None }))
    ended =
        let own : Lives a birth object = record { is = lives.is; live = lives.live } in
        let within : birth < length graying.colours =
        let known = slice_get_within a.objects birth object lives.is in
        let count = each in
        omega arith in
        ap (λ objects. whole objects (record (seen_cycle running cycle) { partly_scanned = None }))
        (sym (blackened-seen a graying good.placed birth object own within
        ∙ ap (with_entry object.base (Some (record (seen a birth object) { colour = Black }))) grayed-seen))

    going_on : whole (with_grayed_objects slots (seen_objects running))
        (record (seen_cycle running cycle) { partly_scanned = partly (Some object.base) })
        ≡ view_of (in_cycle (record graying { partly_scanned = Some (record { object = birth; slots_done = all }) }))
    going_on =
        ap (λ objects. whole objects (record (seen_cycle running cycle) { partly_scanned = partly (Some object.base) }))
        (sym grayed-seen)
        ∙ ap
        (λ base.
        whole (seen_objects (in_cycle graying)) (record (seen_cycle running cycle) { partly_scanned = partly base }))
        (sym (base_of-lives running birth object lives))

    part_from-seen : part_from done
        ≡ view_of (in_cycle (advanced birth (done + length slots) (length (scanned_slots object)) graying))
    part_from-seen = split (done + length slots == length (scanned_slots object))
      where
        split : (b : Bool) →
            (if b
            then whole (with_entry object.base (Some (record (seen a birth object) { colour = Black }))
            (with_grayed_objects slots (seen_objects running)))
            (record (seen_cycle running cycle) { partly_scanned = None })
            else whole (with_grayed_objects slots (seen_objects running))
            (record (seen_cycle running cycle) { partly_scanned = partly (Some object.base) }))
            ≡ view_of (in_cycle
            (if b then record graying { colours = slice_set graying.colours birth Black; partly_scanned = None }
            else record graying { partly_scanned = Some (record { object = birth; slots_done = all }) }))
        split true = ended
        split false = going_on

-- A part of an object that may be scanned does to the view what it does to the state.
pub part_done-seen : (a : State) (good : IsGood a) (birth : ℕ) (object : Object) → MayScan a birth object
    → view_part_done (view_of a) (seen_based a birth object) ≡ view_of (part_done a birth object)
part_done-seen a good birth object may = split a.cycle refl
  where
    split : (c : Option Cycle) → a.cycle ≡ c
        → view_part_done (view_of (record a { cycle = c })) (seen_based (record a { cycle = c }) birth object)
        ≡ view_of (part_done (record a { cycle = c }) birth object)
    split None e = absurd (clash (ap (λ c. colour_in c birth) (sym e) ∙ may.gray))
      where
        clash : White ≡ Gray → ⊥
        clash p = cc
    split (Some cycle) e =
        let still : IsGood (running a cycle birth object) = subst (λ c. IsGood (record a { cycle = c })) e good in
        let lives : Lives (running a cycle birth object) birth object =
        record { is = may.lives.is; live = may.lives.live } in
        ap (part_from a cycle birth object)
        (slots_done-seen (running a cycle birth object) still.placed birth object lives (Some cycle) still.coloured)
        ∙ part_from-seen a cycle birth object still lives (done_of (Some cycle) birth)

-- so do all parts
pub record AreSeenScanned (a : State) (log : List Line) (left : View) : Type 0 where
  pub births : List ℕ
  pub state : State
  pub scanned : AreScanned a births log state
  pub shown : left ≡ view_of state

module _ (a : State) (good : IsGood a) where
  may_scan-seen : (birth : ℕ) (object : Object) → Lives a birth object
      → ViewMayScan (view_of a) (seen_based a birth object) → MayScan a birth object
  may_scan-seen birth object lives may =
      record {
        lives = lives;
        gray = may.gray;
        turn = turn-seen a good.placed birth object lives a.cycle good.coloured may.turn;
      }

  part_slots-seen : (birth : ℕ) (object : Object) → Lives a birth object
      → view_part_slots (view_of a) (seen_based a birth object) ≡ part_slots a birth object
  part_slots-seen birth object lives =
      ap (λ done. take 64 (drop done (scanned_slots object)))
      (slots_done-seen a good.placed birth object lives a.cycle good.coloured)

  -- one part, and those that come after it
  scan_and-shown : (birth : ℕ) (object : Object) (os : List (Based ObjectView)) (log rest : List Line) (left : View)
      → Lives a birth object → ViewMayScan (view_of a) (seen_based a birth object)
      → log ≡ lines.Scan object.base (length (view_part_slots (view_of a) (seen_based a birth object))) ∷ rest
      → ViewScansAll (view_part_done (view_of a) (seen_based a birth object)) os rest left
      → ((b : State) → IsGood b → ViewScansAll (view_of b) os rest left → AreSeenScanned b rest left)
      → AreSeenScanned a log left
  scan_and-shown birth object os log rest left lives may line more on =
      let may_too = may_scan-seen birth object lives may in
      let after = on (part_done a birth object) (part_is_good a birth object good may_too)
      (subst (λ view. ViewScansAll view os rest left) (part_done-seen a good birth object may_too) more) in
      record {
        births = birth ∷ after.births;
        state = after.state;
        scanned = (
          object,
          rest,
          may_too,
          line ∙ ap (λ slots. lines.Scan object.base (length slots) ∷ rest) (part_slots-seen birth object lives),
          after.scanned,
        );
        shown = after.shown;
      }

pub scans_all-shown : (a : State) (good : IsGood a) (objects : List (Based ObjectView)) (log : List Line) (left : View)
    → ViewScansAll (view_of a) objects log left → AreSeenScanned a log left
scans_all-shown a good [] log left h =
    record { births = []; state = a; scanned = (h.0, refl); shown = h.1 }
scans_all-shown a good (o ∷ os) log left h =
    let one = seen-begins a o.base o.value h.1.begins in
    let same : o ≡ seen_based a one.birth one.object =
    ap (λ base. record { base = base; value = o.value }) (sym one.at)
    ∙ ap (λ value. record { base = one.object.base; value = value }) one.is in
    scan_and-shown a good one.birth one.object os log h.0 left one.lives
    (subst (ViewMayScan (view_of a)) same h.1)
    (subst (λ x. log ≡ lines.Scan x.base (length (view_part_slots (view_of a) x)) ∷ h.0) same h.2)
    (subst (λ x. ViewScansAll (view_part_done (view_of a) x) os h.0 left) same h.3)
    (λ b still more. scans_all-shown b still os h.0 left more)

-- where nothing is gray in the view, nothing is in the state
no_gray-seen : (b : State) → IsGood b → NoGray (view_of b) → IsNothingGray b
no_gray-seen b good none birth object lives gray =
    none object.base (seen b birth object) (begins-seen b good.placed birth object lives) gray

is_enough-shown : (k : ℕ) (log : List Line) (left : View) (b : State) → IsGood b → left ≡ view_of b
    → ViewIsEnough k log left → IsEnough k log b
is_enough-shown k log left b good shown (views.Nothing_asked none empty) = Nothing_asked none empty
is_enough-shown k log left b good shown (views.Cost_reached reached before) = Cost_reached reached before
is_enough-shown k log left b good shown (views.Nothing_left less none) =
    Nothing_left less (no_gray-seen b good (subst NoGray shown none))

-- what `step` scans of a view, it scans of the state
pub record AreShown (a : State) (k : ℕ) (log : List Line) (left : View) : Type 0 where
  pub state : State
  pub scans : Scans a k log state
  pub shown : left ≡ view_of state

pub scans-shown : (a : State) (good : IsGood a) (k : ℕ) (log : List Line) (left : View)
    → ViewScans (view_of a) k log left → AreShown a k log left
scans-shown a good k log left h =
    let all = scans_all-shown a good h.objects log left h.scanned in
    let still = scanned_is_good a all.births log all.state good all.scanned in
    record {
      state = all.state;
      scans = record {
        births = all.births;
        scanned = all.scanned;
        enough = is_enough-shown k log left all.state still all.shown h.enough;
      };
      shown = all.shown;
    }
