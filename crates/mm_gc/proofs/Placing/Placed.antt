-- The pieces of a region are placed: those of a family are apart as its cells are, and two families share no page.
use Rattle.std.proofs.Common.{◌≡◌, ◌≢◌, ℕ, zero, suc, ◌+◌, ◌*◌, ◌/◌, ◌<◌, ◌≤◌, inl, inr, List, [], ◌∷◌, ◌++◌, map}
use Rattle.std.proofs.Common.{nat_lt, refl, sym, ap, ◌∙◌, subst, arith}
use Rattle.std.proofs.lemmas.Bool.{cases_lt, cases_eq, and_parts, ltb-true}
use Rattle.std.specs.Prelude.{◌&&◌, IsTrue, slice_index, ⊤}
use Rattle.std.specs.List.{AllByRecursion, Contains}
use Rattle.mm_model.specs.Places.Place.{Family, Objects, Areas, Piece, overlaps}
use Rattle.mm_model.specs.Good.{IsInside, AreApart, AreAllApart, IsPlaced}
use Rattle.mm_model.specs.Phase.{IsAscending}
use Rattle.mm_model.specs.Views.ByBase.{Based, based}
use Rattle.mm_model.specs.Views.ObjectView.{ObjectView, ObjectsByBase, piece_of_object, pieces_of_objects}
use Rattle.mm_model.proofs.Good.Making.AreaBirths.{apart-sym}
use Rattle.mm_model.proofs.Good.Living.{each_append}
use Rattle.mm_model.proofs.View.ByBase.Entries.{ascending-based}
use Rattle.mm_pages.specs.Pages.{Pages, IsSoundHeap, run_at}
use Rattle.mm_pages.specs.Parked.{AreParked, AreAllParked}
use Rattle.mm_cells.specs.Cells as cells
use Rattle.mm_cells.specs.Cells.{Cells, IsSoundCells}
use Rattle.mm_gc.specs.Pieces.{ArePieces, IsRegion}
use Rattle.mm_gc.proofs.Placing.Contained.{each-contained}

-- another piece of the family begins elsewhere
abbrev pub IsElsewhere : Piece → Piece → Type 0
IsElsewhere p q = p.base ≡ q.base → p.family ≡ q.family → ⊥

-- no piece stands twice
abbrev pub StandOnce : List Piece → Type 0
StandOnce [] = ⊤
StandOnce (p ∷ ps) = AllByRecursion (IsElsewhere p) ps × StandOnce ps

pub contains-first : {X : Type 0} (x : X) (xs : List X) → Contains (x ∷ xs) x
contains-first x xs = (zero, omega arith, refl)

pub contains-later : {X : Type 0} (x : X) (xs : List X) (y : X) → Contains xs y → Contains (x ∷ xs) y
contains-later x xs y (k, within, is) = (suc k, omega (arith, within), is)

pub each-from : {X : Type 0} (P : X → Type 0) (xs : List X) → ((x : X) → Contains xs x → P x) → AllByRecursion P xs
each-from P [] each = tt
each-from P (x ∷ xs) each =
    (each x (contains-first x xs), each-from P xs (λ y h. each y (contains-later x xs y h)))

pub once-append : (ps qs : List Piece) → StandOnce ps → StandOnce qs
    → ((p q : Piece) → Contains ps p → Contains qs q → IsElsewhere p q) → StandOnce (ps ++ qs)
once-append [] qs first second across = second
once-append (p ∷ ps) qs first second across = (
  each_append (IsElsewhere p) ps qs first.0
      (each-from (IsElsewhere p) qs (λ q h. across p q (contains-first p ps) h)),
  once-append ps qs first.1 second (λ r q h k. across r q (contains-later p ps r h) k),
)

all_apart-once : (ps : List Piece) → StandOnce ps
    → ((p q : Piece) → Contains ps p → Contains ps q → IsElsewhere p q → AreApart p q) → AreAllApart ps
all_apart-once [] once each = tt
all_apart-once (p ∷ ps) once each = (
  each-from (AreApart p) ps
      (λ q h.
      each p q (contains-first p ps) (contains-later p ps q h) (each-contained (IsElsewhere p) ps q once.0 h)),
  all_apart-once ps once.1
      (λ q r h k. each q r (contains-later p ps q h) (contains-later p ps r k)),
)

-- the objects of a list stand once
once-ascending : (os : List (Based ObjectView)) → IsAscending (map (λ o. o.base) os)
    → StandOnce (map piece_of_object os)
once-ascending [] up = tt
once-ascending (o ∷ os) up = (others os up.0, once-ascending os up.1)
  where
    others : (rest : List (Based ObjectView)) → AllByRecursion (λ next. o.base < next) (map (λ o. o.base) rest)
        → AllByRecursion (IsElsewhere (piece_of_object o)) (map piece_of_object rest)
    others [] above = tt
    others (r ∷ rest) above = ((λ same family. omega (arith, above.0, same)), others rest above.1)

pub once-objects : (objects : ObjectsByBase) → StandOnce (pieces_of_objects objects)
once-objects objects = once-ascending (based objects) (ascending-based objects)

-- bytes that a piece has in a page, another has that lies there too
overlaps-like : (low bytes : ℕ) (p q : Piece) → p.base ≡ q.base → p.extent ≡ q.extent → IsTrue (overlaps low bytes p)
    → IsTrue (overlaps low bytes q)
overlaps-like low bytes p q base extent h =
    subst IsTrue
    (ap (λ (n : ℕ). nat_lt n (low + bytes) && nat_lt low (n + p.extent)) base
    ∙ ap (λ (n : ℕ). nat_lt q.base (low + bytes) && nat_lt low (q.base + n)) extent) h

pub apart-like : (p q r s : Piece) → p.base ≡ r.base → p.extent ≡ r.extent → q.base ≡ s.base → q.extent ≡ s.extent
    → r.family ≡ s.family → AreApart p q → AreApart r s
apart-like p q r s base extent other_base other_extent family apart = record {
  disjoint = elim apart.disjoint [ inl a ↦ inl (omega arith) | inr b ↦ inr (omega arith) ];
  alike = λ page first second.
      let same = apart.alike page (overlaps-like (4096 * page) 4096 r p (sym base) (sym extent) first)
      (overlaps-like (4096 * page) 4096 s q (sym other_base) (sym other_extent) second) in
      (omega (arith, same.0, extent, other_extent), family);
}

pub inside-like : (limit most base extent : ℕ) (f g : Family) → base + extent ≤ 4096 * most
    → IsInside limit (record { base = base; extent = extent; family = f })
    → IsInside most (record { base = base; extent = extent; family = g })
inside-like limit most base extent f g to inside = record {
  from = inside.from;
  to = to;
  placed = elim inside.placed [
    | inl cell ↦ inl (record { class = cell.class; grid = cell.grid; whole = cell.whole })
    | inr whole ↦ inr (record { page = whole.page; pages = whole.pages; some = whole.some })
  ];
}

-- the piece lies in a run of its family, which is parked in the page heap
record LiesInRun (pages : Pages) (v : Cells) (p : Piece) : Type 0 where
  some : 0 < slice_index v.runs (p.base / 4096)
  is : run_at pages (p.base / 4096) ≡ slice_index v.runs (p.base / 4096)
  to : p.base + p.extent ≤ 4096 * (p.base / 4096 + slice_index v.runs (p.base / 4096))

module _ (pages : Pages) (pieces : List Piece) (heap : IsSoundHeap pages)
    (none_out : (page : ℕ) → slice_index pages.out page ≡ 0) where
  module _ (family : Family) (v : Cells) (sound : IsSoundCells v) (parked : AreParked v.runs pages)
      (are : ArePieces family v pieces) where
    lies : (p : Piece) → Contains pieces p → p.family ≡ family → LiesInRun pages v p
    lies p within same =
        let has = are.back p within same in
        let some = sound.has_run p.base has.cell has.begins in
        record {
          some = some;
          is = omega (arith, none_out (p.base / 4096), parked.parked (p.base / 4096) some);
          to = omega (arith, sound.in_run p.base has.cell has.begins, has.same);
        }

    lies-inside : (p : Piece) → Contains pieces p → p.family ≡ family → IsInside pages.pages p
    lies-inside p within same =
        let has = are.back p within same in
        let run = lies p within same in
        let first : ℕ = p.base / 4096 in
        let end = heap.within first (omega (arith, run.some, run.is)) in
        inside-like v.pages pages.pages p.base p.extent Objects p.family
        (omega (arith, run.to, run.is, end, heap.limit))
        (subst (λ (n : ℕ). IsInside v.pages (record { base = p.base; extent = n; family = Objects })) has.same
        (sound.inside p.base has.cell has.begins))

    lies-apart : (p q : Piece) → Contains pieces p → Contains pieces q → p.family ≡ family → q.family ≡ family
        → p.base ≢ q.base → AreApart p q
    lies-apart p q within other_within same other_same other =
        let has = are.back p within same in
        let other_has = are.back q other_within other_same in
        apart-like (cells.piece_at p.base has.cell) (cells.piece_at q.base other_has.cell) p q refl has.same refl
        other_has.same (same ∙ sym other_same)
        (sound.apart p.base q.base has.cell other_has.cell has.begins other_has.begins other)

  -- in different runs
  runs-apart : (v w : Cells) (p q : Piece) → LiesInRun pages v p → LiesInRun pages w q
      → p.base / 4096 < q.base / 4096 → AreApart p q
  runs-apart v w p q lies other_lies less =
      let behind = heap.apart (p.base / 4096) (q.base / 4096) less (omega (arith, lies.some, lies.is))
      (omega (arith, other_lies.some, other_lies.is)) in
      record {
        disjoint = inl (omega (arith, lies.to, lies.is, behind));
        alike = λ page first second.
            let one = and_parts (nat_lt p.base (4096 * page + 4096)) (nat_lt (4096 * page) (p.base + p.extent)) first in
            let two = and_parts (nat_lt q.base (4096 * page + 4096)) (nat_lt (4096 * page) (q.base + q.extent))
            second in
            absurd (omega (
              arith,
              lies.to,
              lies.is,
              behind,
              ltb-true (4096 * page) (p.base + p.extent) one.1,
              ltb-true q.base (4096 * page + 4096) two.0,
            ));
      }

module _ (pages : Pages) (objects blocks : Cells) (pieces : List Piece) (heap : IsSoundHeap pages)
    (none_out : (page : ℕ) → slice_index pages.out page ≡ 0) (sound : IsSoundCells objects)
    (blocks_sound : IsSoundCells blocks) (parked : AreParked objects.runs pages)
    (blocks_parked : AreParked blocks.runs pages) (all : AreAllParked objects.runs blocks.runs pages)
    (objects_are : ArePieces Objects objects pieces) (areas_are : ArePieces Areas blocks pieces) where
  piece-in : (p : Piece) → Contains pieces p → IsInside pages.pages p
  piece-in p within = split p.family refl
    where
      split : (family : Family) → p.family ≡ family → IsInside pages.pages p
      split Objects e = lies-inside pages pieces heap none_out Objects objects sound parked objects_are p within e
      split Areas e =
          lies-inside pages pieces heap none_out Areas blocks blocks_sound blocks_parked areas_are p within e

  families-apart : (p q : Piece) → Contains pieces p → Contains pieces q → p.family ≡ Objects → q.family ≡ Areas
      → AreApart p q
  families-apart p q within other_within same other_same =
      let one = lies pages pieces heap none_out Objects objects sound parked objects_are p within same in
      let two = lies pages pieces heap none_out Areas blocks blocks_sound blocks_parked areas_are q other_within
      other_same in
      elim (cases_lt (p.base / 4096) (q.base / 4096)) [
        | inl less ↦ runs-apart pages pieces heap none_out objects blocks p q one two less
        | inr past ↦ elim (cases_eq (p.base / 4096) (q.base / 4096)) [
          | inl e ↦
              let there = subst (λ (page : ℕ). 0 < slice_index blocks.runs page) (sym e) two.some in
              absurd (omega (
                arith,
                all (p.base / 4096),
                parked.parked (p.base / 4096) one.some,
                there,
              ))
          | inr ne ↦
              apart-sym q p (runs-apart pages pieces heap none_out blocks objects q p two one (omega (arith, past, ne)))
        ]
      ]

  pieces-apart : (p q : Piece) → Contains pieces p → Contains pieces q → IsElsewhere p q → AreApart p q
  pieces-apart p q within other_within elsewhere = split p.family q.family refl refl
    where
      split : (f g : Family) → p.family ≡ f → q.family ≡ g → AreApart p q
      split Objects Objects e h =
          lies-apart pages pieces heap none_out Objects objects sound parked objects_are p q within other_within e h
          (λ same. elsewhere same (e ∙ sym h))
      split Objects Areas e h = families-apart p q within other_within e h
      split Areas Objects e h = apart-sym q p (families-apart q p other_within within h e)
      split Areas Areas e h =
          lies-apart pages pieces heap none_out Areas blocks blocks_sound blocks_parked areas_are p q within
          other_within e h (λ same. elsewhere same (e ∙ sym h))

  -- the pieces are placed, where none of them stands twice
  pub pieces_placed : StandOnce pieces → IsPlaced pages.pages pieces
  pieces_placed once = record {
    inside = each-from (IsInside pages.pages) pieces piece-in;
    apart = all_apart-once pieces once pieces-apart;
  }

  pub is_region : StandOnce pieces → IsRegion pages objects blocks pieces
  is_region once = record {
    sound = heap;
    objects_sound = sound;
    blocks_sound = blocks_sound;
    objects_parked = parked;
    blocks_parked = blocks_parked;
    all_parked = all;
    none_out = none_out;
    objects_are = objects_are;
    areas_are = areas_are;
    placed = pieces_placed once;
  }
