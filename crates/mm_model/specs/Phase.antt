-- What a phase frees, the lines that it writes, and the state that it leaves.
use Rattle.std.specs.Prelude.{◌≡◌, ℕ, ◌*◌, ◌<◌, ◌%◌, ◌^◌, max, sum, Bool, true, false, ◌&&◌, ◌==◌, if◌then◌else◌}
use Rattle.std.specs.Prelude.{IsTrue, List, [], ◌∷◌, ◌++◌, map, length, Option, Some, None, slice_get, ⊤}
use Rattle.std.specs.List.{list_any, find, flat_map, AllByRecursion}
use Rattle.std.specs.Option.{option_map, option_map_or}
use Rattle.mm_model.specs.declared.line.Line.{Line}
use Rattle.mm_model.specs.declared.line.Line.TheVariants as lines
use Rattle.mm_model.specs.declared.line.Phase.{Phase}
use Rattle.mm_model.specs.Value.{words_of}
use Rattle.mm_model.specs.Object.{Object, is_live}
use Rattle.mm_model.specs.State.{State, Cycle, PartlyScanned, Lives, lives_at}
use Rattle.mm_model.specs.Count.{zero_count}
use Rattle.mm_model.specs.Sets.Reapable.{IsReapable}
use Rattle.mm_model.specs.Sets.Reached.{IsUnreached}
use Rattle.mm_model.specs.Sets.Marking.{IsFreedAtFinish}

abbrev pub lists : List ℕ → ℕ → Bool
lists bases base = list_any (λ b. b == base) bases

-- ascending, without doubles
abbrev pub IsAscending : List ℕ → Type 0
IsAscending [] = ⊤
IsAscending (base ∷ bases) = AllByRecursion (λ next. base < next) bases × IsAscending bases

-- The bases of exactly the live objects in a set, ascending.
pub record AreBasesOf (a : State) (Dead : ℕ → Type 0) (bases : List ℕ) : Type 0 where
  pub ascending : IsAscending bases
  pub only : AllByRecursion
      (λ base. (birth : ℕ) × (object : Object) × Lives a birth object × (object.base ≡ base) × Dead birth) bases
  pub all : (birth : ℕ) (object : Object) → Lives a birth object → Dead birth → IsTrue (lists bases object.base)

-- the line of an object's finalizer, if it has one, with the sum of its slots' words
abbrev pub final_lines : Option Object → List Line
final_lines None = []
final_lines (Some object) =
    if object.finalize
    then lines.Final object.base (length object.slots) (sum (words_of object.slots) % 2 ^ 32) ∷ [] else []

-- first all finalizers, then the number of freed objects, then each of them
abbrev pub phase_lines : Phase → State → List ℕ → List Line
phase_lines what a bases =
    flat_map (λ base. final_lines (find (lives_at base) a.objects)) bases
    ++ lines.Phase what (length bases) ∷ map lines.Free bases

abbrev pub is_freed : List ℕ → Object → Bool
is_freed bases object = is_live object && lists bases object.base

-- the object with a birth number is among those that are freed
abbrev pub is_freed_birth : State → List ℕ → ℕ → Bool
is_freed_birth a bases birth = option_map_or (is_freed bases) (slice_get a.objects birth) false

abbrev pub unless_freed : State → List ℕ → Option ℕ → Option ℕ
unless_freed a bases None = None
unless_freed a bases (Some birth) = if is_freed_birth a bases birth then None else Some birth

-- a freed object is gone, and another one has no partner any more where its partner is freed
abbrev pub after_release : State → List ℕ → Object → Object
after_release a bases object =
    if is_freed bases object then record object { gone = true }
    else record object { partner = unless_freed a bases object.partner }

abbrev pub partly_scanned_left : State → List ℕ → Option PartlyScanned → Option PartlyScanned
partly_scanned_left a bases None = None
partly_scanned_left a bases (Some partly_scanned) =
    if is_freed_birth a bases partly_scanned.object then None else Some partly_scanned

-- a freed object isn't partly scanned any more
abbrev pub cycle_left : State → List ℕ → Cycle → Cycle
cycle_left a bases cycle = record cycle { partly_scanned = partly_scanned_left a bases cycle.partly_scanned }

-- the state without the live objects at these bases
abbrev pub released : List ℕ → State → State
released bases a =
    record a { objects = map (after_release a bases) a.objects; cycle = option_map (cycle_left a bases) a.cycle }

-- twice the zero-count objects that are left, and at least the setting
abbrev pub with_threshold : State → State
with_threshold a = record a { threshold = max a.settings.zct (2 * zero_count a) }

-- what a reap leaves that frees the objects at these bases, and what a collection leaves, or `finish`
abbrev pub reaped : List ℕ → State → State
reaped bases a = with_threshold (released bases a)

abbrev pub collected : List ℕ → State → State
collected bases a = record (released bases a) { cycle = None }

-- a reap frees exactly the reapable objects
abbrev pub AreReaped : State → List ℕ → Type 0
AreReaped a bases = AreBasesOf a (IsReapable a) bases

-- a full collection frees exactly the live objects that aren't reached
abbrev pub AreCollected : State → List ℕ → Type 0
AreCollected a bases = AreBasesOf a (IsUnreached a) bases

-- `finish` frees exactly what marking didn't reach
abbrev pub AreFinished : State → List ℕ → Type 0
AreFinished a bases = AreBasesOf a (IsFreedAtFinish a) bases
