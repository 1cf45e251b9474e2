-- The composite word, in which a counted object keeps its count and its place in the zero-count table.
use Rattle.std.specs.Prelude.{◌≡◌, ◌<◌, ◌≤◌, ◌+◌, ◌*◌, ◌/◌, ◌%◌, ◌^◌, ◌==◌, ℕ, true, false, if◌then◌else◌}
use Rattle.mm_count.specs.declared.composite.Composite.{Composite}

-- The count stands in bits 0 to 7, the place in bits 8 to 27. Bit 29 is set in a sticky object, bit 30 in a pinned one,
-- and bit 31 in one that is in the table.
abbrev pub composite_in : ℕ → Composite
composite_in word =
    record {
      count = word % 2 ^ 8;
      place = word / 2 ^ 8 % 2 ^ 20;
      sticky = word / 2 ^ 29 % 2 == 1;
      pinned = word / 2 ^ 30 % 2 == 1;
      listed = word / 2 ^ 31 % 2 == 1;
    }

-- bit 28 is 0
abbrev pub word_of : Composite → ℕ
word_of c =
    c.count + 2 ^ 8 * c.place + (if c.sticky then 2 ^ 29 else 0) + (if c.pinned then 2 ^ 30 else 0)
    + (if c.listed then 2 ^ 31 else 0)

-- count and place have as many bits as they need
pub record FitsWord (c : Composite) : Type 0 where
  pub count : c.count < 2 ^ 8
  pub place : c.place < 2 ^ 20

-- What a counted object says: the count is 255 where it is sticky, and else at most 254. It is in the table only with
-- the count 0, and its place is 0 while it isn't.
pub record IsComposite (c : Composite) : Type 0 where
  pub sticky : c.sticky ≡ true → c.count ≡ 255
  pub exact : c.sticky ≡ false → c.count ≤ 254
  pub listed : c.listed ≡ true → c.count ≡ 0
  pub unlisted : c.listed ≡ false → c.place ≡ 0
