-- Whether something is entered at a base, as the entry there says.
use Rattle.std.proofs.Common.{◌≡◌, ℕ, ◌/◌, ◌%◌, ◌≤◌, true, false, length, Option, Some, None, refl, arith}
use Rattle.std.proofs.lemmas.Option.{slice_get_past}
use Rattle.std.specs.Prelude.{is_some, slice_get}
use Rattle.mm_model.proofs.View.ByBase.ReplacedEntries.{begins_get}
use Rattle.mm_sites.specs.declared.entry.Entry.{Entry}
use Rattle.mm_sites.specs.Entries.{EntriesByBase, HasEntry}

pub is_entered : (entries : EntriesByBase) (base : ℕ) (entry : Entry) → base % 16 ≡ 0
    → slice_get entries (base / 16) ≡ Some (Some entry) → HasEntry entries base
is_entered entries base entry aligned is =
    record { entry = entry; begins = record { grain = base / 16; aligned = omega arith; is = is } }

pub none_entered : (entries : EntriesByBase) (base : ℕ) → slice_get entries (base / 16) ≡ Some None
    → HasEntry entries base → ⊥
none_entered entries base none has = let is = begins_get entries base has.entry has.begins in cc

-- as a test of the entry tells it
pub entered_if : (entries : EntriesByBase) (base : ℕ) (found : Option Entry) → base % 16 ≡ 0
    → slice_get entries (base / 16) ≡ Some found → is_some found ≡ true → HasEntry entries base
entered_if entries base None aligned is some = cc
entered_if entries base (Some entry) aligned is some = is_entered entries base entry aligned is

pub nothing_if : (found : Option Entry) → is_some found ≡ false → found ≡ None
nothing_if None none = refl
nothing_if (Some entry) none = cc

-- nothing is entered apart from the grains, nor behind them
pub none_between : (entries : EntriesByBase) (base : ℕ) → (base % 16 ≡ 0 → ⊥) → HasEntry entries base → ⊥
none_between entries base apart has = let aligned = has.begins.aligned in apart (omega arith)

pub none_behind : (entries : EntriesByBase) (base : ℕ) → length entries ≤ base / 16 → HasEntry entries base → ⊥
none_behind entries base behind has =
    let is = begins_get entries base has.entry has.begins in
    let past = slice_get_past entries (base / 16) behind in
    cc
