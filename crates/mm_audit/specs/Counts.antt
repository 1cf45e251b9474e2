-- The counts of references by base, as they are kept beside the objects.
use Rattle.std.specs.Prelude.{◌≡◌, ℕ, ◌+◌, ◌-◌, ◌*◌, ◌%◌, ◌^◌, ◌<◌, ◌≤◌, Bool, false, ◌==◌, nat_lt, List, [], ◌∷◌}
use Rattle.std.specs.Prelude.{if◌then◌else◌, length, Option, Some, None, slice_set}
use Rattle.std.specs.List.{count_by}
use Rattle.std.specs.Option.{option_map_or}
use Rattle.mm_model.specs.Object.{is_counted}
use Rattle.mm_model.specs.Views.ByBase.{changed}
use Rattle.mm_model.specs.Views.ObjectView.{ObjectView, ObjectsByBase}
use Rattle.mm_model.specs.Views.SetsByBase.{count_at}
use Rattle.mm_audit.specs.declared.count.Count.{Count}
use Rattle.mm_audit.specs.declared.count.Count.TheVariants.{Exact, Sticky}

-- the count of each counted object, at its base
abbrev pub CountsByBase : Type 0
CountsByBase = List (Option Count)

-- the 255th place makes it sticky, for good
abbrev pub one_more : Count → Count
one_more (Exact places) = if nat_lt places 254 then Exact (places + 1) else Sticky
one_more Sticky = Sticky

abbrev pub one_less : Count → Count
one_less (Exact places) = Exact (places - 1)
one_less Sticky = Sticky

abbrev pub is_zero : Count → Bool
is_zero (Exact places) = places == 0
is_zero Sticky = false

-- a zero-count object has this entry
abbrev pub is_zero_entry : Option Count → Bool
is_zero_entry entry = option_map_or is_zero entry false

-- how many zero-count objects there are
abbrev pub zeros_in : CountsByBase → ℕ
zeros_in counts = count_by is_zero_entry counts

-- an object may begin there: it is a multiple of 16 in the region
pub record IsGrain (counts : CountsByBase) (base : ℕ) : Type 0 where
  pub aligned : base % 16 ≡ 0
  pub inside : base < 16 * length counts

-- what the count of an object is: as often as counted places hold its base, unless it is sticky
abbrev pub count_of : ObjectsByBase → (ℕ → ℕ) → ℕ → ObjectView → Option Count
count_of objects outside base object =
    if is_counted object.kind then Some (if object.sticky then Sticky else Exact (count_at objects outside base))
    else None

-- the same of some of the objects, the first of which would begin at this base
abbrev pub counts_from : ObjectsByBase → (ℕ → ℕ) → ℕ → ObjectsByBase → CountsByBase
counts_from objects outside base [] = []
counts_from objects outside base (None ∷ rest) = None ∷ counts_from objects outside (base + 16) rest
counts_from objects outside base (Some object ∷ rest) =
    count_of objects outside base object ∷ counts_from objects outside (base + 16) rest

-- The right counts of objects. Places outside of objects hold each base as often as the number for it says.
abbrev pub counts_of : ObjectsByBase → (ℕ → ℕ) → CountsByBase
counts_of objects outside = counts_from objects outside 0 objects

-- another count for what is counted at a base
abbrev pub recounted_at : (Count → Count) → ℕ → CountsByBase → CountsByBase
recounted_at change base counts = changed (λ b count. Some (if b == base then change count else count)) counts

-- A counted place holds another word than it did: one place less holds the old one, and then one more the new one.
abbrev pub moved : ℕ → ℕ → CountsByBase → CountsByBase
moved old new counts = recounted_at one_more new (recounted_at one_less old counts)

-- one where it is so, and else none
abbrev pub one_if : Bool → ℕ
one_if so = if so then 1 else 0

-- an object with another word in a slot
abbrev pub with_word : ℕ → ℕ → ObjectView → ObjectView
with_word slot word object = record object { words = slice_set object.words slot word }

-- Inner: the running number beside the counts.
pub record KeepsZeros (counts : CountsByBase) (zeros : ℕ) : Type 0 where
  pub few : length counts ≤ 2 ^ 20
  pub right : zeros ≡ zeros_in counts
