-- What a phase frees of a view, the lines that it writes, and the view that it leaves.
use Rattle.std.specs.Prelude.{ℕ, ◌+◌, ◌-◌, ◌*◌, ◌%◌, ◌^◌, max, sum, if◌then◌else◌, List, [], ◌∷◌, ◌++◌, map, length}
use Rattle.std.specs.Prelude.{Option, Some, None}
use Rattle.std.specs.List.{flat_map}
use Rattle.std.specs.Option.{option_map}
use Rattle.mm_model.specs.declared.line.Line.{Line}
use Rattle.mm_model.specs.declared.line.Line.TheVariants as lines
use Rattle.mm_model.specs.declared.line.Phase.{Phase}
use Rattle.mm_model.specs.declared.line.Totals.{Totals}
use Rattle.mm_model.specs.Phase.{lists}
use Rattle.mm_model.specs.Views.ByBase.{Based, changed}
use Rattle.mm_model.specs.Views.ObjectView.{ObjectView}
use Rattle.mm_model.specs.Views.SetsByBase.{AreBasesAt, IsReapableAt, IsUnreachedAt, IsFreedAtFinishAt}
use Rattle.mm_model.specs.Views.View.{View, CycleView, PartlyScannedView}
use Rattle.mm_model.specs.Views.ViewWords.{object_at, marking_words, outside_references, view_zero_count}
use Rattle.mm_model.specs.Views.ViewEffect.{view_with_white}

-- the line of an object's finalizer, if it has one
abbrev pub view_final_lines : Option (Based ObjectView) → List Line
view_final_lines None = []
view_final_lines (Some o) =
    if o.value.finalize
    then lines.Final o.base (length o.value.words) (sum o.value.words % 2 ^ 32) ∷ [] else []

abbrev pub view_phase_lines : Phase → View → List ℕ → List Line
view_phase_lines what view bases =
    flat_map (λ base. view_final_lines (object_at view.objects base)) bases
    ++ lines.Phase what (length bases) ∷ map lines.Free bases

abbrev pub unless_listed : List ℕ → Option ℕ → Option ℕ
unless_listed bases None = None
unless_listed bases (Some base) = if lists bases base then None else Some base

-- a freed object's entry is empty, and another one has no partner any more where its partner is freed
abbrev pub view_after_release : List ℕ → ℕ → ObjectView → Option ObjectView
view_after_release bases base object =
    if lists bases base then None else Some (record object { partner = unless_listed bases object.partner })

abbrev pub view_partly_left : List ℕ → Option PartlyScannedView → Option PartlyScannedView
view_partly_left bases None = None
view_partly_left bases (Some partly_scanned) =
    if lists bases partly_scanned.base then None else Some partly_scanned

abbrev pub view_cycle_left : List ℕ → CycleView → CycleView
view_cycle_left bases cycle =
    record cycle { partly_scanned = view_partly_left bases cycle.partly_scanned }

abbrev pub so_many_freed : ℕ → Totals → Totals
so_many_freed count totals = record totals { freed = totals.freed + count; live = totals.live - count }

-- the view without the objects at these bases
abbrev pub view_released : List ℕ → View → View
view_released bases view =
    record view {
      objects = changed (view_after_release bases) view.objects;
      cycle = option_map (view_cycle_left bases) view.cycle;
      totals = so_many_freed (length bases) view.totals;
    }

abbrev pub view_with_threshold : View → View
view_with_threshold view =
    record view { threshold = max view.settings.zct (2 * view_zero_count view) }

-- what a reap leaves that frees the objects at these bases, and what a collection leaves, or `finish`
abbrev pub view_reaped : List ℕ → View → View
view_reaped bases view = view_with_threshold (view_released bases view)

abbrev pub view_collected : List ℕ → View → View
view_collected bases view = record (view_with_white (view_released bases view)) { cycle = None }

-- a reap frees exactly the reapable objects
abbrev pub ViewReaps : View → List ℕ → Type 0
ViewReaps view bases =
    AreBasesAt view.objects (IsReapableAt view.objects view.stack (outside_references view)) bases

-- a full collection frees exactly the objects that aren't reached
abbrev pub ViewCollects : View → List ℕ → Type 0
ViewCollects view bases = AreBasesAt view.objects (IsUnreachedAt view.objects (marking_words view)) bases

-- `finish` frees exactly what marking didn't reach
abbrev pub ViewFinishes : View → List ℕ → Type 0
ViewFinishes view bases = AreBasesAt view.objects (IsFreedAtFinishAt view.objects (marking_words view)) bases
