-- How much room a piece of some bytes takes.
use Rattle.std.specs.Prelude.{ℕ, ◌+◌, ◌*◌, ◌/◌, if◌then◌else◌, nat_le, List, [], ◌∷◌, slice_index}
use Rattle.std.specs.List.{position_or_len}
use Rattle.mm_model.specs.declared.object.Size.{Size}
use Rattle.mm_model.specs.declared.object.Size.TheVariants.{Small, Pages}

-- the bytes of a cell of each size class, in the order of the classes
unfoldable pub class_sizes : List ℕ
class_sizes =
    16 ∷ 32 ∷ 48 ∷ 64 ∷ 80 ∷ 96 ∷ 112 ∷ 128 ∷ 160 ∷ 192 ∷
    256 ∷ 336 ∷ 448 ∷ 512 ∷ 672 ∷ 816 ∷ 1024 ∷ 1360 ∷ 2048 ∷ []

-- the least class whose cells are large enough
abbrev pub class_index : ℕ → ℕ
class_index bytes = position_or_len (λ size. nat_le bytes size) class_sizes

-- Up to 2,048 bytes take a cell, more take whole pages.
abbrev pub size_of : ℕ → Size
size_of bytes = if nat_le bytes 2048 then Small (class_index bytes) else Pages ((bytes + 4095) / 4096)

-- the bytes that are taken
abbrev pub extent_of_size : Size → ℕ
extent_of_size (Small class) = slice_index class_sizes class
extent_of_size (Pages count) = 4096 * count

abbrev pub extent_of : ℕ → ℕ
extent_of bytes = extent_of_size (size_of bytes)

-- an object has a header of four words in front of its slots
abbrev pub object_bytes : ℕ → ℕ
object_bytes slots = 16 + 4 * slots

abbrev pub area_bytes : ℕ → ℕ
area_bytes cells = 4 * cells
