-- What a command makes of what is entered, and of the sites of objects.
use Rattle.std.specs.Prelude.{◌≡◌, ℕ, ◌*◌, ◌%◌, ◌<◌, List, ◌++◌, map, Some}
use Rattle.std.specs.List.{fold}
use Rattle.mm_model.specs.Places.SizeClass.{extent_of, object_bytes}
use Rattle.mm_model.specs.Views.ByBase.{with_entry}
use Rattle.mm_model.specs.Logs.Turns.{Born}
use Rattle.mm_sites.specs.declared.entry.Entry.{Entry}
use Rattle.mm_sites.specs.Entries.{EntriesByBase, HasEntry}

-- what is entered of a birth: its extent, and the site of its command
abbrev pub entry_of_birth : ℕ → Born → Entry
entry_of_birth site born = record { extent = extent_of (object_bytes born.shape.slots); site = site }

-- with what was born at this site
abbrev pub with_births : ℕ → EntriesByBase → List Born → EntriesByBase
with_births site entries births =
    fold (λ es born. with_entry born.base (Some (entry_of_birth site born)) es) entries births

-- the sites of objects by birth number, with those of what was born at this site
abbrev pub sites_with : ℕ → List ℕ → List Born → List ℕ
sites_with site sites births = sites ++ map (λ born. site) births

-- an object can be entered at this base, in a region of so many grains
pub record IsFreeAt (grains : ℕ) (entries : EntriesByBase) (base : ℕ) : Type 0 where
  pub aligned : base % 16 ≡ 0
  pub inside : base < 16 * grains
  pub free : HasEntry entries base → ⊥
