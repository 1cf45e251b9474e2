-- The finalizers that ran and of which C wasn't told yet.
use Rattle.std.specs.Prelude.{◌≡◌, ℕ, Bool, true, false, List, [], ◌∷◌, ◌++◌, length, Option, Some, None, slice_get}
use Rattle.std.specs.Prelude.{Result, Ok, Err}
use Rattle.mm_sweep.specs.Told.{Told, Finalize, PhaseOf, Free, Scan}
use Rattle.mm_c.specs.declared.finals.MmFinal.{MmFinal}
use Rattle.mm_c.specs.declared.status.Status.{Status}
use Rattle.mm_c.specs.declared.status.Status.TheVariants as statuses

-- Those that are kept, in the order in which they ran, and whether there was no memory for later ones.
pub record Waiting : Type 0 where
  pub records : List MmFinal
  pub lost : Bool

abbrev pub none_waits : Waiting
none_waits = record { records = []; lost = false }

abbrev pub word_or_zero : Option ℕ → ℕ
word_or_zero None = 0
word_or_zero (Some word) = word

-- a freed object's base, how many slots it had, and the words of the first two, 0 where it had fewer
abbrev pub final_of : ℕ → List ℕ → MmFinal
final_of base words =
    record {
      base = base;
      slots = length words;
      first = word_or_zero (slice_get words 0);
      second = word_or_zero (slice_get words 1);
    }

-- the finalizers among what a journal is told
abbrev pub finals_of : List Told → List MmFinal
finals_of [] = []
finals_of (Finalize base words ∷ told) = final_of base words ∷ finals_of told
finals_of (PhaseOf what freed ∷ told) = finals_of told
finals_of (Free base ∷ told) = finals_of told
finals_of (Scan base slots ∷ told) = finals_of told

abbrev pub is_some : List MmFinal → Bool
is_some [] = false
is_some (one ∷ more) = true

-- once some are lost, all later ones are
abbrev pub is_lost : Bool → List MmFinal → Bool
is_lost true lost = true
is_lost false lost = is_some lost

-- Of the finalizers that ran, a front was kept in order behind those that waited, and the rest was lost. Where some
-- were lost already, none was kept.
pub record Keeps (before after : Waiting) (told : List Told) : Type 0 where
  pub kept : List MmFinal
  pub lost : List MmFinal
  pub all_are : kept ++ lost ≡ finals_of told
  pub records_are : after.records ≡ before.records ++ kept
  pub lost_is : after.lost ≡ is_lost before.lost lost
  pub none_after : before.lost ≡ true → kept ≡ []

-- how a call goes that finds none waiting
abbrev pub status_at_end : Bool → Status
status_at_end true = statuses.FinalsLost
status_at_end false = statuses.NoFinal

-- The first that waits is handed out. Behind the last one it is told once that some were lost.
pub data IsTaken (before after : Waiting) : Result MmFinal Status → Type 0 where
  Took : (next : MmFinal) → before.records ≡ next ∷ after.records → after.lost ≡ before.lost
      → IsTaken before after (Ok next)
  Took_none : (lost : Bool) → before ≡ record { records = []; lost = lost } → after ≡ none_waits
      → IsTaken before after (Err (status_at_end lost))
