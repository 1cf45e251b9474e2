-- What a reap leaves of a heap shows what it leaves of the view, and keeps what is kept between calls.
use Rattle.std.proofs.Common.{◌≡◌, ℕ, ◌+◌, ◌-◌, ◌*◌, ◌≤◌, Bool, true, false, List, length, Option, Some, None}
use Rattle.std.proofs.Common.{refl, sym, ap, ◌∙◌, subst, arith}
use Rattle.std.proofs.lemmas.List.Sums.{count_by-le-length}
use Rattle.std.specs.Prelude.{if◌then◌else◌, IfSome, max}
use Rattle.std.specs.Option.{option_map}
use Rattle.mm_model.specs.declared.command.Command.TheVariants as commands
use Rattle.mm_model.specs.declared.line.Phase.TheVariants as phases
use Rattle.mm_model.specs.declared.reply.Reply.TheVariants as replies
use Rattle.mm_model.specs.Phase.{lists}
use Rattle.mm_model.specs.Views.ByBase.{Begins, Based, based, changed}
use Rattle.mm_model.specs.Views.ObjectView.{ObjectView, ObjectsByBase}
use Rattle.mm_model.specs.Views.GoodView.{IsPartlyScannedAt}
use Rattle.mm_model.specs.Views.SetsByBase.{is_zero_count_at, zero_count_of}
use Rattle.mm_model.specs.Views.View.{View, CycleView, PartlyScannedView}
use Rattle.mm_model.specs.Views.ViewPhase.{view_after_release, unless_listed, view_partly_left, view_cycle_left}
use Rattle.mm_model.specs.Views.ViewPhase.{view_phase_lines, view_released, view_reaped, ViewReaps}
use Rattle.mm_model.specs.Views.ViewWords.{outside_references, view_zero_count}
use Rattle.mm_model.proofs.View.GoodRoom.{few_objects}
use Rattle.mm_model.proofs.View.ByBase.ChangedEntries.{begins_changed, changed_begins}
use Rattle.mm_words.specs.Location.{Location}
use Rattle.mm_count.specs.Counts.{IsCountedBy}
use Rattle.mm_count.specs.Table.{Table, IsSameTable}
use Rattle.mm_mark.specs.Marker.{Marker, AreKnown, IsUnderScan, marking}
use Rattle.mm_mark.specs.Parts.{IsUnderScanOrGone, HasForgotten}
use Rattle.mm_mark.specs.Stale.{HasFewStale, KeepsFewStale}
use Rattle.mm_mark.proofs.Freed.{few-released}
use Rattle.mm_mark.proofs.Keeping.{known-kept}
use Rattle.mm_mark.proofs.Known.{under-told, told-under}
use Rattle.mm_gc.specs.Gc.{Region, Gc, objects_in, areas_in, cycle_in, freed_since, view_of_gc}
use Rattle.mm_gc.specs.Kept.{IsSettled, KeepsGc}
use Rattle.mm_gc.specs.Counts.{HasCounts}
use Rattle.mm_gc.specs.Regions.{IsSameRegion}
use Rattle.mm_sweep.specs.Told.{Told, IsToldOf}
use Rattle.mm_gc.specs.Rows.{Tells, IsRowOf}
use Rattle.mm_gc.specs.Showing.{IsShowing}
use Rattle.mm_gc.proofs.Marking.Begun.{partly-scanned}
use Rattle.mm_gc.proofs.Frees.Freed.{same-parts, outside-kept}
use Rattle.mm_gc.proofs.Keeping.Rooms.{HasSameRooms, rooms-kept, pieces-kept}
use Rattle.mm_gc.proofs.Rows.Phases.{reap-row}
use Rattle.mm_gc.proofs.Shown.{row-of, showing-good}
use Rattle.mm_gc.proofs.Frees.ZeroCount.{entries_are_zero_count}

-- what begins where some were freed began there, isn't one of them, and lost at most its partner
record WasLeft (dead : List ℕ) (objects : ObjectsByBase) (base : ℕ) (now : ObjectView) : Type 0 where
  object : ObjectView
  begins : Begins objects base object
  out : lists dead base ≡ false
  is : record object { partner = unless_listed dead object.partner } ≡ now

was-left : (dead : List ℕ) (objects : ObjectsByBase) (base : ℕ) (now : ObjectView)
    → Begins (changed (view_after_release dead) objects) base now → WasLeft dead objects base now
was-left dead objects base now begins =
    let one = changed_begins (view_after_release dead) objects base now begins in
    split one.before one.begins (lists dead base) refl one.is
  where
    split : (x : ObjectView) → Begins objects base x → (b : Bool) → lists dead base ≡ b
        → ◌≡◌ {A = Option ObjectView}
        (if b then None else Some (record x { partner = unless_listed dead x.partner })) (Some now)
        → WasLeft dead objects base now
    split x h true e is = cc
    split x h false e is = record { object = x; begins = h; out = e; is = inner is }
      where
        inner : ◌≡◌ {A = Option ObjectView} (Some (record x { partner = unless_listed dead x.partner })) (Some now)
            → record x { partner = unless_listed dead x.partner } ≡ now
        inner e = cc

still-left : (dead : List ℕ) (objects : ObjectsByBase) (base : ℕ) (object : ObjectView) → Begins objects base object
    → lists dead base ≡ false
    → Begins (changed (view_after_release dead) objects) base
    (record object { partner = unless_listed dead object.partner })
still-left dead objects base object begins out =
    begins_changed (view_after_release dead) objects base object
    (record object { partner = unless_listed dead object.partner }) begins
    (ap (λ (b : Bool). if b then None else Some (record object { partner = unless_listed dead object.partner })) out)

module _ (gc : Gc) (keeps : KeepsGc gc) (dead : List ℕ) where
  released : ObjectsByBase
  released = changed (view_after_release dead) (objects_in gc.region)

  known-left : AreKnown gc.marker released
  unfolding released
  known-left =
      known-kept gc.marker (objects_in gc.region) released
      (λ base gray.
      let was = was-left dead (objects_in gc.region) base gray.object gray.begins in
      record {
        object = was.object;
        begins = was.begins;
        is = ap (λ (o : ObjectView). o.colour) was.is ∙ gray.is;
      })
      keeps.marking.known

  -- the object that is scanned in part is still, or it was freed
  partly-left : IfSome gc.marker.partly (IsUnderScanOrGone released)
  unfolding released
  partly-left = each gc.marker.partly (partly-scanned gc keeps)
    where
      gone : (p : PartlyScannedView) → lists dead p.base ≡ true → (object : ObjectView)
          → Begins (changed (view_after_release dead) (objects_in gc.region)) p.base object → ⊥
      gone p e object begins =
          let was = was-left dead (objects_in gc.region) p.base object begins in
          clash (sym e ∙ was.out)
        where
          clash : true ≡ false → ⊥
          clash e = cc

      split : (p : PartlyScannedView) → IsPartlyScannedAt (objects_in gc.region) p → (b : Bool)
          → lists dead p.base ≡ b
          → IsUnderScanOrGone (changed (view_after_release dead) (objects_in gc.region)) p
      split p h true e = IsUnderScanOrGone.Is_gone (gone p e)
      split p h false e =
          IsUnderScanOrGone.Is_there
          (under-told (changed (view_after_release dead) (objects_in gc.region)) p
          (record {
            object = record h.object { partner = unless_listed dead h.object.partner };
            begins = still-left dead (objects_in gc.region) p.base h.object h.begins e;
            gray = h.gray;
            some_done = h.some_done;
            some_left = h.some_left;
          }))

      each : (p : Option PartlyScannedView) → IfSome p (IsPartlyScannedAt (objects_in gc.region))
          → IfSome p (IsUnderScanOrGone (changed (view_after_release dead) (objects_in gc.region)))
      each None h = h
      each (Some p) h = split p h (lists dead p.base) refl

  module _ (region : Region) (same : objects_in region ≡ changed (view_after_release dead) (objects_in gc.region)) where
    pub known-released : AreKnown gc.marker (objects_in region)
    unfolding released
    known-released = subst (λ (os : ObjectsByBase). AreKnown gc.marker os) (sym same) known-left

    pub partly-released : IfSome gc.marker.partly (IsUnderScanOrGone (objects_in region))
    unfolding released
    partly-released =
        subst (λ (os : ObjectsByBase). IfSome gc.marker.partly (IsUnderScanOrGone os)) (sym same) partly-left

    -- what the marker knows of it then is what the view says
    pub forgotten-partly : (marker : Marker) → HasForgotten gc.marker marker (objects_in region)
        → marker.partly ≡ view_partly_left dead gc.marker.partly
    forgotten-partly marker (HasForgotten.Forgets freed is) =
        ap (λ (m : Marker). m.partly) is
        ∙ split (lists dead freed.partly.base) refl
        ∙ ap (view_partly_left dead) (sym freed.is)
      where
        split : (b : Bool) → lists dead freed.partly.base ≡ b → None ≡ view_partly_left dead (Some freed.partly)
        split true e = ap (λ (b : Bool). if b then None else Some freed.partly) (sym e)
        split false e =
            let scanned = subst (λ (p : Option PartlyScannedView). IfSome p (IsPartlyScannedAt (objects_in gc.region)))
            freed.is (partly-scanned gc keeps) in
            absurd (freed.gone (record scanned.object { partner = unless_listed dead scanned.object.partner })
            (subst (λ (os : ObjectsByBase).
            Begins os freed.partly.base (record scanned.object { partner = unless_listed dead scanned.object.partner }))
            (sym same)
            (still-left dead (objects_in gc.region) freed.partly.base scanned.object scanned.begins e)))
    forgotten-partly marker (HasForgotten.Keeps scan is) =
        ap (λ (m : Marker). m.partly) is ∙ each gc.marker.partly scan
      where
        each : (p : Option PartlyScannedView) → IfSome p (IsUnderScan (objects_in region))
            → p ≡ view_partly_left dead p
        each None h = refl
        each (Some p) h =
            let under = told-under (objects_in region) p h in
            let was = was-left dead (objects_in gc.region) p.base under.object
            (subst (λ (os : ObjectsByBase). Begins os p.base under.object) same under.begins) in
            ap (λ (b : Bool). if b then None else Some p) (sym was.out)

-- the marker but for what is scanned in part
forgotten-rest : (before after : Marker) (objects : ObjectsByBase) → HasForgotten before after objects
    → after ≡ record before { partly = after.partly }
forgotten-rest before after objects (HasForgotten.Forgets freed is) =
    is ∙ ap (λ (p : Option PartlyScannedView). record before { partly = p }) (sym (ap (λ (m : Marker). m.partly) is))
forgotten-rest before after objects (HasForgotten.Keeps scan is) =
    is ∙ ap (λ (p : Option PartlyScannedView). record before { partly = p }) (sym (ap (λ (m : Marker). m.partly) is))

-- where no cycle runs, none is scanned in part afterwards
forgotten-idle : (before after : Marker) (objects : ObjectsByBase) → HasForgotten before after objects
    → before.partly ≡ None → after.partly ≡ None
forgotten-idle before after objects (HasForgotten.Forgets freed is) e = ap (λ (m : Marker). m.partly) is
forgotten-idle before after objects (HasForgotten.Keeps scan is) e = ap (λ (m : Marker). m.partly) is ∙ e

-- These were freed, and the table has the zero-count objects that are left.
pub record HasReaped (old : Gc) (region : Region) (table : Table) (dead : List ℕ) : Type 0 where
  pub objects : objects_in region ≡ changed (view_after_release dead) (objects_in old.region)
  pub counted : HasCounts table region.heap (outside_references (view_of_gc old))
  pub areas : areas_in region ≡ areas_in old.region
  pub same : IsSameRegion old.region region
  pub settled : IsSettled region
  pub same_table : IsSameTable old.table table

module _ (old : Gc) (keeps : KeepsGc old) (region : Region) (table : Table) (dead : List ℕ)
    (h : HasReaped old region table dead) where
  zero_count-left : length table.entries ≡ view_zero_count (view_released dead (view_of_gc old))
  zero_count-left =
      entries_are_zero_count table region.heap (outside_references (view_of_gc old)) h.counted.right h.counted.listed
      h.counted.counted
      ∙ ap (λ (os : ObjectsByBase). zero_count_of os (outside_references (view_of_gc old))) h.objects

  -- so the table has few entries
  pub few-entries : IsShowing (view_reaped dead (view_of_gc old)) → length table.entries ≤ 256 * (old.settings.max - 1)
  few-entries shown =
      let after = view_reaped dead (view_of_gc old) in
      let test = λ (o : Based ObjectView). is_zero_count_at after.objects (outside_references after) o.base o.value in
      let few = few_objects after (showing-good after shown).placed in
      let some = count_by-le-length test (based after.objects) in
      let entries = zero_count-left in
      omega (arith, few, some, entries)

module _ (old : Gc) (keeps : KeepsGc old) (region : Region) (table : Table) (marker : Marker) (dead : List ℕ)
    (place : Location) (freed threshold : ℕ) (h : HasReaped old region table dead)
    (forgotten : HasForgotten old.marker marker (objects_in region)) (known : AreKnown marker (objects_in region))
    (few : KeepsFewStale (marking old.marker region.heap) (marking marker region.heap))
    (there : place ≡ old.dead) (so_many : freed ≡ length dead)
    (limit : threshold ≡ max old.settings.zct (2 * length table.entries)) where
  abbrev pub reaped : Gc
  reaped =
      record old {
        region = region;
        table = table;
        marker = marker;
        dead = place;
        threshold = threshold;
        freed = old.freed + freed;
      }

  cycle-left : cycle_in reaped ≡ option_map (view_cycle_left dead) (cycle_in old)
  cycle-left =
      let running : marker.running ≡ old.marker.running =
      ap (λ (m : Marker). m.running) (forgotten-rest old.marker marker (objects_in region) forgotten) in
      let partly = forgotten-partly old keeps dead region h.objects marker forgotten in
      ap (λ (b : Bool). told b marker.partly) running ∙ ap (told old.marker.running) partly ∙ split old.marker.running
    where
      told : Bool → Option PartlyScannedView → Option CycleView
      told b p = if b then Some (record { gone_before = old.gone_before; partly_scanned = p }) else None

      split : (b : Bool)
          → told b (view_partly_left dead old.marker.partly)
          ≡ option_map (view_cycle_left dead) (told b old.marker.partly)
      split true = refl
      split false = refl

  pub view-reaped : view_of_gc reaped ≡ view_reaped dead (view_of_gc old)
  view-reaped =
      let after = view_reaped dead (view_of_gc old) in
      same-parts (view_of_gc old) (objects_in region) after.objects (areas_in region) (areas_in old.region)
      (cycle_in reaped) after.cycle threshold after.threshold (old.freed + freed) (old.freed + length dead)
      (old.born - (old.freed + freed)) (old.born - old.freed - length dead) h.objects h.areas cycle-left
      (limit ∙ ap (λ (n : ℕ). max old.settings.zct (2 * n)) (zero_count-left old keeps region table dead h))
      (omega (arith, so_many)) (omega (arith, so_many))

  freed-since : freed_since old + length dead ≡ freed_since reaped
  freed-since = let since = keeps.marking.since in let many = so_many in omega arith

  pub keeps-reaped : IsShowing (view_reaped dead (view_of_gc old)) → KeepsGc reaped
  keeps-reaped shown =
      let rest = forgotten-rest old.marker marker (objects_in region) forgotten in
      let cells : HasSameRooms old reaped = record {
        region = h.same;
        stack = refl;
        table = h.same_table;
        queue = ap (λ (m : Marker). m.location) rest;
        room = ap (λ (m : Marker). m.room) rest;
        dead = there;
        settings = refl;
      } in
      record {
        shown = subst IsShowing (sym view-reaped) shown;
        settled = h.settled;
        counts = record {
          right = h.counted.right;
          counted = subst (λ (outside : ℕ → ℕ). IsCountedBy region.heap.objects outside)
              (sym (outside-kept (view_of_gc old) (view_of_gc reaped) h.areas)) h.counted.counted;
          listed = h.counted.listed;
          unpinned = h.counted.unpinned;
        };
        linked = h.counted.linked;
        marking = record {
          known = known;
          idle = λ e.
              forgotten-idle old.marker marker (objects_in region) forgotten
              (keeps.marking.idle (sym (ap (λ (m : Marker). m.running) rest) ∙ e));
          since = let since = keeps.marking.since in omega arith;
          few = λ runs room.
              subst (HasFewStale (marking marker region.heap)) freed-since
              (few (freed_since old + length dead)
              (few-released (marking old.marker old.region.heap) dead (objects_in region) (freed_since old) h.objects
              (keeps.marking.few (sym (ap (λ (m : Marker). m.running) rest) ∙ runs) room)));
        };
        rooms = rooms-kept old reaped cells keeps.rooms;
        pieces = pieces-kept old reaped cells keeps.pieces;
      }

  pub tells-reaped : (heard : List Told → Type 0) → ViewReaps (view_of_gc old) dead
      → IsToldOf heard (view_of_gc old).objects (view_phase_lines phases.Reap (view_of_gc old) dead)
      → Tells old reaped commands.Reap replies.Done heard
  tells-reaped heard reaps told =
      let view = view_of_gc old in
      record {
        log = view_phase_lines phases.Reap view dead;
        answers = subst
            (λ (v : View). IsRowOf view v commands.Reap (view_phase_lines phases.Reap view dead) replies.Done)
            (sym view-reaped)
            (row-of view (view_reaped dead view) commands.Reap (view_phase_lines phases.Reap view dead) replies.Done
            (reap-row view dead reaps));
        told = told;
      }
