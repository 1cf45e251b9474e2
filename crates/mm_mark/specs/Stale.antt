-- Entries of the queue at which no gray object begins, where the queue has room for every object.
use Rattle.std.specs.Prelude.{◌≡◌, ◌+◌, ◌*◌, ◌/◌, ◌≤◌, ◌<◌, ℕ, false, ⊤, if◌then◌else◌, List, [], ◌∷◌, length, Option}
use Rattle.std.specs.Prelude.{Some, None}
use Rattle.mm_model.specs.declared.object.Colour.TheVariants.{White}
use Rattle.mm_model.specs.declared.object.Part.{Part}
use Rattle.mm_model.specs.Views.ByBase.{Begins}
use Rattle.mm_model.specs.Views.ObjectView.{ObjectView, ObjectsByBase, holds_base}
use Rattle.mm_model.specs.Views.View.{PartlyScannedView}
use Rattle.mm_mark.specs.Marker.{Marker, Marking, has_gray}

-- how many of some entries are stale: no gray object begins there
abbrev pub stale_in : ObjectsByBase → List ℕ → ℕ
stale_in objects [] = 0
stale_in objects (entry ∷ queue) = (if has_gray objects entry then 0 else 1) + stale_in objects queue

abbrev pub stale_of : Marking → ℕ
stale_of now = stale_in now.objects now.marker.queue

-- a base in one of the pages but the first, where a list by base has so many entries
pub record IsPlace (entries base : ℕ) : Type 0 where
  pub aligned : base ≡ 16 * (base / 16)
  pub from : 4096 ≤ base
  pub below : base / 16 < entries

-- such bases, all different
abbrev pub AreDistinctPlaces : ℕ → List ℕ → Type 0
AreDistinctPlaces entries [] = ⊤
AreDistinctPlaces entries (base ∷ bases) =
    IsPlace entries base × (holds_base bases base ≡ false) × AreDistinctPlaces entries bases

-- the base of what is scanned in part, and the entries
abbrev pub known_bases : Option PartlyScannedView → List ℕ → List ℕ
known_bases None queue = queue
known_bases (Some partly) queue = partly.base ∷ queue

-- The queue has room for an entry for each place of an object, and nothing is left out of it. The entries and the base
-- of what is scanned in part differ, and none is the base of a white object.
pub record IsTidy (now : Marking) : Type 0 where
  pub room : length now.objects ≤ now.marker.room + 256
  pub whole : now.marker.left_out ≡ None
  pub distinct : AreDistinctPlaces (length now.objects) (known_bases now.marker.partly now.marker.queue)
  pub unwhite : (base : ℕ) (object : ObjectView) → Begins now.objects base object → object.colour ≡ White
      → holds_base (known_bases now.marker.partly now.marker.queue) base ≡ false

-- and at most so many entries are stale
pub record HasFewStale (now : Marking) (stale : ℕ) : Type 0 where
  pub tidy : IsTidy now
  pub few : stale_of now ≤ stale

abbrev pub KeepsFewStale : Marking → Marking → Type 0
KeepsFewStale before after = (stale : ℕ) → HasFewStale before stale → HasFewStale after stale

-- so many entries are stale after a call, and what was paid for those that it took is within a bound
pub record IsPaid (after : Marking) (steps bound : ℕ) : Type 0 where
  pub left : ℕ
  pub few : HasFewStale after left
  pub paid : steps + 8 * left ≤ bound

-- the slots of a part, if there is one
abbrev pub slots_of : Option Part → ℕ
slots_of None = 0
slots_of (Some part) = part.slots

-- this object is the one that is scanned in part, and none of its slots is done
abbrev pub with_partly_at : Marker → ℕ → Marker
with_partly_at marker base = record marker { partly = Some (record { base = base; slots_done = 0 }) }
