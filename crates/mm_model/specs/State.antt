-- The state of a heap, in which objects never leave the list and values know their origin.
use Rattle.std.specs.Prelude.{◌≡◌, ℕ, ◌+◌, ◌-◌, ◌&&◌, Bool, IsTrue, nat_eq, List, [], ◌∷◌, ◌++◌, length, Option, Some}
use Rattle.std.specs.Prelude.{None, slice_get}
use Rattle.std.specs.Option.{option_map}
use Rattle.mm_model.specs.declared.object.Colour.{Colour}
use Rattle.mm_model.specs.declared.object.Colour.TheVariants.{Black}
use Rattle.mm_model.specs.declared.line.Totals.{Totals}
use Rattle.mm_model.specs.declared.settings.Settings.{Settings}
use Rattle.mm_model.specs.Value.{Value}
use Rattle.mm_model.specs.Object.{Object, is_live, live_objects}

-- unmanaged memory under a number below 1,024
pub record Area : Type 0 where
  pub number : ℕ
  pub base : ℕ
  pub extent : ℕ
  -- its words are roots
  pub scanned : Bool
  -- how many of the cells, from the first on, are counted
  pub counted : ℕ
  pub cells : List Value

-- an object that marking has scanned in part: its birth number, and how many of its slots are done
pub record PartlyScanned : Type 0 where
  pub object : ℕ
  pub slots_done : ℕ

pub record Cycle : Type 0 where
  -- by birth number; that of a gone object says nothing
  pub colours : List Colour
  -- how many objects were gone when the cycle began
  pub gone_before : ℕ
  pub partly_scanned : Option PartlyScanned

pub record State : Type 0 where
  -- by birth number
  pub objects : List Object
  -- from the top
  pub stack : List Value
  -- by ascending number
  pub areas : List Area
  pub cycle : Option Cycle
  -- the number of zero-count objects at which a command reaps at its end
  pub threshold : ℕ
  -- how many commands were carried out
  pub commands : ℕ
  pub settings : Settings

abbrev pub empty_state : Settings → State
empty_state settings =
    record {
      objects = [];
      stack = [];
      areas = [];
      cycle = None;
      threshold = settings.zct;
      commands = 0;
      settings = settings;
    }

-- the object with a birth number, which lives
pub record Lives (a : State) (birth : ℕ) (object : Object) : Type 0 where
  pub is : slice_get a.objects birth ≡ Some object
  pub live : IsTrue (is_live object)

-- whether a live object begins there
abbrev pub lives_at : ℕ → Object → Bool
lives_at base object = is_live object && nat_eq object.base base

abbrev pub live_count : State → ℕ
live_count a = length (live_objects a.objects)

abbrev pub gone_count : State → ℕ
gone_count a = length a.objects - live_count a

abbrev pub totals_of : State → Totals
totals_of a =
    record { commands = a.commands; born = length a.objects; freed = gone_count a; live = live_count a }

abbrev pub pushed : Value → State → State
pushed value a = record a { stack = value ∷ a.stack }

abbrev pub one_more_command : State → State
one_more_command a = record a { commands = a.commands + 1 }

-- an object that is born in a cycle is black
abbrev pub with_black_birth : Cycle → Cycle
with_black_birth cycle = record cycle { colours = cycle.colours ++ Black ∷ [] }

abbrev pub with_born : Object → State → State
with_born object a =
    record a { objects = a.objects ++ object ∷ []; cycle = option_map with_black_birth a.cycle }
