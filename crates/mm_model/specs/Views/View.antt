-- What a heap shows: all of its state that words can tell. It has no origins, no birth numbers and no gone objects, so
-- a heap can show several states. Of each state it shows this view and no other.
use Rattle.std.specs.Prelude.{◌≡◌, ℕ, ◌*◌, Bool, List, map, Option}
use Rattle.std.specs.List.{range_with_len}
use Rattle.std.specs.Option.{option_map, option_and_then}
use Rattle.std.specs.Prelude.{slice_get}
use Rattle.mm_model.specs.declared.line.Totals.{Totals}
use Rattle.mm_model.specs.declared.settings.Settings.{Settings}
use Rattle.mm_model.specs.Value.{words_of}
use Rattle.mm_model.specs.Object.{Object}
use Rattle.mm_model.specs.State.{State, Area, Cycle, PartlyScanned, totals_of}
use Rattle.mm_model.specs.Sets.Marking.{colour_in}
use Rattle.mm_model.specs.After.{birth_at}
use Rattle.mm_model.specs.Views.ObjectView.{ObjectView, ObjectsByBase}

pub record AreaView : Type 0 where
  pub number : ℕ
  pub base : ℕ
  pub extent : ℕ
  -- its words are roots
  pub scanned : Bool
  -- how many of the cells, from the first on, are counted
  pub counted : ℕ
  pub words : List ℕ

-- the object that marking has scanned in part, and how many of its slots are done
pub record PartlyScannedView : Type 0 where
  pub base : ℕ
  pub slots_done : ℕ

pub record CycleView : Type 0 where
  -- how many objects were gone when the cycle began
  pub gone_before : ℕ
  pub partly_scanned : Option PartlyScannedView

pub record View : Type 0 where
  -- an entry for each multiple of 16 bytes below the end of the greatest region
  pub objects : ObjectsByBase
  -- from the top
  pub stack : List ℕ
  -- by ascending number
  pub areas : List AreaView
  pub cycle : Option CycleView
  pub threshold : ℕ
  pub totals : Totals
  pub settings : Settings

-- the base of the object with a birth number
abbrev pub base_of : State → ℕ → Option ℕ
base_of a birth = option_map (λ object. object.base) (slice_get a.objects birth)

abbrev pub seen : State → ℕ → Object → ObjectView
seen a birth object =
    record {
      extent = object.extent;
      kind = object.kind;
      finalize = object.finalize;
      counted = object.counted;
      words = words_of object.slots;
      sticky = object.sticky;
      partner = option_and_then (base_of a) object.partner;
      colour = colour_in a.cycle birth;
    }

-- the live object that begins at a base
abbrev pub seen_at : State → ℕ → Option ObjectView
seen_at a base = option_and_then (λ birth. option_map (seen a birth) (slice_get a.objects birth)) (birth_at a base)

-- the bases from 0 to below the end of the greatest region
abbrev pub bases_below : ℕ → List ℕ
bases_below pages = map (λ grain. 16 * grain) (range_with_len 0 (256 * pages))

abbrev pub seen_objects : State → ObjectsByBase
seen_objects a = map (seen_at a) (bases_below a.settings.max)

abbrev pub seen_area : Area → AreaView
seen_area area =
    record {
      number = area.number;
      base = area.base;
      extent = area.extent;
      scanned = area.scanned;
      counted = area.counted;
      words = words_of area.cells;
    }

abbrev pub seen_partly : State → PartlyScanned → Option PartlyScannedView
seen_partly a partly_scanned =
    option_map (λ base. record { base = base; slots_done = partly_scanned.slots_done })
    (base_of a partly_scanned.object)

abbrev pub seen_cycle : State → Cycle → CycleView
seen_cycle a cycle =
    record {
      gone_before = cycle.gone_before;
      partly_scanned = option_and_then (seen_partly a) cycle.partly_scanned;
    }

-- Heap and state agree on all that words can tell.
pub record Shows (view : View) (a : State) : Type 0 where
  -- the live objects, with their colours in a cycle
  pub objects : view.objects ≡ seen_objects a
  pub stack : view.stack ≡ words_of a.stack
  pub areas : view.areas ≡ map seen_area a.areas
  -- whether a cycle runs
  pub cycle : view.cycle ≡ option_map (seen_cycle a) a.cycle
  pub threshold : view.threshold ≡ a.threshold
  pub totals : view.totals ≡ totals_of a
  pub settings : view.settings ≡ a.settings

-- the one view of a state
abbrev pub view_of : State → View
view_of a =
    record {
      objects = seen_objects a;
      stack = words_of a.stack;
      areas = map seen_area a.areas;
      cycle = option_map (seen_cycle a) a.cycle;
      threshold = a.threshold;
      totals = totals_of a;
      settings = a.settings;
    }
