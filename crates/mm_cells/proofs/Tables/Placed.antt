-- A table in which a cell was taken.
use Rattle.std.proofs.Common.{◌≡◌, ◌≢◌, ℕ, ◌+◌, ◌*◌, ◌<◌, ◌≤◌, inl, Bool, true, refl, arith, sym, ◌∙◌, ap}
use Rattle.std.specs.Prelude.{◌↔◌, nat_le}
use Rattle.std.proofs.lemmas.Bool.{agree_below_at}
use Rattle.std.proofs.lemmas.Bool.Decides.{nat_tests}
use Rattle.mm_model.specs.Places.SizeClass.{class_sizes}
use Rattle.mm_cells.specs.declared.page_use.PageUse.TheVariants.{Unused, Class}
use Rattle.mm_cells.specs.declared.marks.Mark.{Mark}
use Rattle.mm_cells.specs.declared.marks.Mark.TheVariants as marks
use Rattle.mm_cells.specs.Map.{Map, use_at, mark_at, room_at, HasPlainMarks, SetsUse, SetsMark, FreesPage, SetsRoom}
use Rattle.mm_cells.specs.Cells.{with_cell, with_run}
use Rattle.mm_cells.specs.Indexes.{in_class}
use Rattle.mm_cells.specs.Kept.{class_size, cells_in, taken_as, cells_of, KeepsCells, HasTaken, HasFree}
use Rattle.mm_cells.specs.Uses.{use_in_whole}
use Rattle.mm_cells.specs.Spans.{SetsUses, AreUnused}
use Rattle.mm_cells.proofs.Sizes.ClassSizes.{cells_in-most}
use Rattle.mm_cells.proofs.Tables.Blocks.{AgreesOff, AgreesOff-mark, AgreesOff-free, AgreesOff-use, AgreesOff-room}
use Rattle.mm_cells.proofs.Tables.Blocks.{AgreesOff-uses, AgreesOff-trans, AgreesOff-first, use_at-same, mark_at-same}
use Rattle.mm_cells.proofs.Tables.Blocks.{room_at-same, plain-same}
use Rattle.mm_cells.proofs.Tables.KeptBlocks.{KeepsCells-block, IsClosed-class, IsClosed-unused, KeepsPages-class}
use Rattle.mm_cells.proofs.Tables.KeptBlocks.{KeepsPages-whole}
use Rattle.mm_cells.proofs.Tables.KeptBlocks.{no_room-other, only_page}
use Rattle.mm_cells.proofs.Tables.Marked.{KeepsCells-classes, cells_of-marked}
use Rattle.mm_cells.proofs.Tables.TakenBlocks.{cells_of-fresh, cells_of-whole}

-- a page of each class has more than one cell
cells_in-least : (class : ℕ) → class < 19 → 2 ≤ cells_in class
unfolding class_sizes
cells_in-least class within =
    let found : nat_le 2 (cells_in class) ≡ true =
    agree_below_at (λ n. nat_le 2 (cells_in n)) (λ _. true) 19 class refl within in
    grind (arith, nat_tests)

-- the same parts
map-same : (a b : Map) → b.location ≡ a.location → b.pages ≡ a.pages → b.uses ≡ a.uses → b.marks ≡ a.marks →
    record b { rooms = a.rooms } ≡ a
map-same a b location pages uses marks =
    ap (λ x. record b { rooms = a.rooms; location = x }) location
    ∙ ap (λ x. record b { rooms = a.rooms; location = a.location; pages = x }) pages
    ∙ ap (λ x. record b { rooms = a.rooms; location = a.location; pages = a.pages; uses = x }) uses
    ∙ ap (λ x. record a { marks = x }) marks

-- callers see no sets
pub cells_of-room : (a b : Map) (class page : ℕ) (has_room : Bool) → SetsRoom a b class page has_room →
    cells_of b ≡ cells_of a
cells_of-room a b class page has_room s =
    ap cells_of (map-same a b s.same.location s.same.pages s.uses s.marks)

-- the mark of a cell of a page changes and some cell of it is taken
pub KeepsCells-cell : (a b c : Map) (page class number : ℕ) (mark : Mark) (has_room : Bool) → KeepsCells a → class < 19
    →
    use_at a page ≡ Class class → page < a.pages → 0 < page → SetsMark a b page number mark →
    HasTaken b page class → SetsRoom b c class page has_room →
    ((has_room ≡ true) ↔ HasFree b page class) → KeepsCells c
KeepsCells-cell a b c page class number mark has_room kept known used within off_zero marked taken room free =
    let agrees : AgreesOff a c page 1 = AgreesOff-trans a b c page 1 (AgreesOff-mark a b page number mark marked)
    (AgreesOff-room b c class page has_room room) in
    let now : use_at c page ≡ Class class = use_at-same b c page room.uses ∙ use_at-same a b page marked.uses ∙ used in
    KeepsCells-block a c page 1 kept agrees (IsClosed-class a page class kept used) off_zero (omega arith)
    (KeepsPages-class c page class known now
    (record {
      cell = taken.cell;
      within = taken.within;
      taken = λ free. taken.taken (sym (mark_at-same b c page taken.cell room.marks) ∙ free);
    }) (agrees.plain page (kept.plain page class used)) (
      (λ has.
          let before = free.0 (sym room.here ∙ has) in
          record {
            cell = before.cell;
            within = before.within;
            free = mark_at-same b c page before.cell room.marks ∙ before.free;
          }),
      (λ has. room.here ∙ free.1 (record {
        cell = has.cell;
        within = has.within;
        free = sym (mark_at-same b c page has.cell room.marks) ∙ has.free;
      })),
    )
    (λ other low apart.
    room.others other page low (omega (arith, marked.same.pages)) (inl apart)
    ∙ room_at-same a b other page marked.same.pages marked.rooms
    ∙ no_room-other a other page kept low within (λ is. apart (cc))))

pub cells_of-cell : (a b c : Map) (page class number base : ℕ) (mark : Mark) (has_room : Bool) → KeepsCells a
    → class < 19 →
    use_at a page ≡ Class class → page < a.pages → number < cells_in class →
    base ≡ 4096 * page + number * class_size class → SetsMark a b page number mark →
    SetsRoom b c class page has_room → cells_of c ≡ with_cell (cells_of a) base (taken_as (class_size class) mark)
cells_of-cell a b c page class number base mark has_room kept known used within small begins marked room =
    cells_of-room b c class page has_room room
    ∙ cells_of-marked a b page number base (class_size class) mark (KeepsCells-classes a kept)
    (in_class class within known used small begins refl) marked

-- an unused page gets cells of a class, and its first cell a mark
pub record FillsPage (a b : Map) (page class : ℕ) (mark : Mark) : Type 0 where
  pub agrees : AgreesOff a b page 1
  pub used : use_at b page ≡ Class class
  pub marked : mark_at b page 0 ≡ mark
  pub free : (cell : ℕ) → cell < 256 → cell ≢ 0 → mark_at b page cell ≡ marks.Free
  pub plain : HasPlainMarks b page
  pub room : room_at b class page ≡ true
  pub others : (other : ℕ) → other < 19 → other ≢ class → room_at b other page ≡ room_at a other page

pub FillsPage-steps : (a b c d e : Map) (page class : ℕ) (mark : Mark) → page < a.pages → FreesPage a b page →
    SetsUse b c page (Class class) → SetsMark c d page 0 mark → SetsRoom d e class page true →
    FillsPage a e page class mark
FillsPage-steps a b c d e page class mark within freed used marked room = record {
  agrees = AgreesOff-trans a b e page 1 (AgreesOff-free a b page freed)
      (AgreesOff-trans b c e page 1 (AgreesOff-use b c page (Class class) used)
      (AgreesOff-trans c d e page 1 (AgreesOff-mark c d page 0 mark marked) (AgreesOff-room d e class page true room)));
  used = use_at-same d e page room.uses ∙ use_at-same c d page marked.uses ∙ used.here;
  marked = mark_at-same d e page 0 room.marks ∙ marked.here;
  free = λ cell low apart.
      mark_at-same d e page cell room.marks ∙ marked.other_cells cell low apart ∙ mark_at-same b c page cell used.marks
      ∙ freed.here cell low;
  plain = plain-same d e page room.marks (marked.plain page (plain-same b c page used.marks freed.here_plain));
  room = room.here;
  others = λ other low apart.
      room.others other page low (omega (arith, marked.same.pages, used.same.pages, freed.same.pages)) (inl apart)
      ∙ room_at-same c d other page marked.same.pages marked.rooms
      ∙ room_at-same b c other page used.same.pages used.rooms
      ∙ room_at-same a b other page freed.same.pages freed.rooms;
}

pub KeepsCells-fresh : (a b : Map) (page class : ℕ) (mark : Mark) → KeepsCells a → class < 19 → 0 < page
    → page < a.pages →
    use_at a page ≡ Unused → mark ≢ marks.Free → FillsPage a b page class mark → KeepsCells b
KeepsCells-fresh a b page class mark kept known off_zero within unused taken f =
    let few : 2 ≤ cells_in class = cells_in-least class known in
    let unused_all : AreUnused a page 1 =
    λ other from to. ap (use_at a) (only_page page other (record { from = from; to = to })) ∙ unused in
    KeepsCells-block a b page 1 kept f.agrees (IsClosed-unused a page 1 kept unused_all) off_zero (omega arith)
    (KeepsPages-class b page class known f.used
    (record { cell = 0; within = omega arith; taken = λ free. taken (sym f.marked ∙ free) }) f.plain (
      (λ has. record { cell = 1; within = omega arith; free = f.free 1 (omega arith) (λ e. omega arith) }),
      (λ has. f.room),
    )
    (λ other low apart. f.others other low apart ∙ no_room-other a other page kept low within (λ is. absurd (cc))))

pub cells_of-fresh_page : (a b : Map) (page class : ℕ) (mark : Mark) → KeepsCells a → class < 19 → page < a.pages →
    use_at a page ≡ Unused → FillsPage a b page class mark →
    cells_of b ≡ with_run (with_cell (cells_of a) (4096 * page) (taken_as (class_size class) mark)) page 1
cells_of-fresh_page a b page class mark kept known within unused f =
    let few : 2 ≤ cells_in class = cells_in-least class known in
    let most : cells_in class ≤ 256 = cells_in-most class known in
    cells_of-fresh a b page class mark (KeepsCells-classes a kept) f.agrees within known (omega arith) unused f.used
    f.marked
    (λ cell low apart. f.free cell (omega arith) apart)

-- some unused pages become those of one cell
AgreesOff-pages : (a b c : Map) (first count : ℕ) (mark : Mark) → 0 < count →
    SetsUses a b first count (use_in_whole count) → SetsMark b c first 0 mark → AgreesOff a c first count
AgreesOff-pages a b c first count mark some used marked =
    AgreesOff-trans a b c first count (AgreesOff-uses a b first count (use_in_whole count) used)
    (AgreesOff-first b c first count some (AgreesOff-mark b c first 0 mark marked))

pub KeepsCells-pages : (a b c : Map) (first count : ℕ) (mark : Mark) → KeepsCells a → 0 < count → 0 < first →
    first + count ≤ a.pages → AreUnused a first count → mark ≢ marks.Free →
    SetsUses a b first count (use_in_whole count) → SetsMark b c first 0 mark → KeepsCells c
KeepsCells-pages a b c first count mark kept some off_zero within unused taken used marked =
    KeepsCells-block a c first count kept (AgreesOff-pages a b c first count mark some used marked)
    (IsClosed-unused a first count kept unused) off_zero within
    (KeepsPages-whole c first count some (omega (arith, marked.same.pages, used.same.pages))
    (λ distance low. use_at-same b c (first + distance) marked.uses ∙ used.here distance low)
    (λ free. taken (sym marked.here ∙ free))
    (λ class page low inside.
    room_at-same b c class page marked.same.pages marked.rooms
    ∙ room_at-same a b class page used.same.pages used.rooms
    ∙ no_room-other a class page kept low (omega (arith, inside.to))
    (λ is. let none = unused page inside.from inside.to in cc)))

pub cells_of-pages : (a b c : Map) (first count : ℕ) (mark : Mark) → KeepsCells a → 0 < count →
    first + count ≤ a.pages → AreUnused a first count →
    SetsUses a b first count (use_in_whole count) → SetsMark b c first 0 mark →
    cells_of c ≡ with_run (with_cell (cells_of a) (4096 * first) (taken_as (4096 * count) mark)) first count
cells_of-pages a b c first count mark kept some within unused used marked =
    cells_of-whole a c first count mark (KeepsCells-classes a kept)
    (AgreesOff-pages a b c first count mark some used marked)
    within some unused (λ distance low. use_at-same b c (first + distance) marked.uses ∙ used.here distance low)
    marked.here
