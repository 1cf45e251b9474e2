-- What a table keeps where some pages in a row change together.
use Rattle.std.proofs.Common.{◌≡◌, ◌≢◌, ℕ, ◌+◌, ◌-◌, ◌<◌, ◌≤◌, ◌⊎◌, inl, inr, Bool, true, false, refl, arith, sym, ◌∙◌}
use Rattle.std.proofs.Common.{ap, subst}
use Rattle.std.specs.Prelude.{◌↔◌}
use Rattle.std.proofs.lemmas.Bool.{cases_eq}
use Rattle.mm_cells.specs.declared.page_use.PageUse.TheVariants.{Unused, Class, First, Later}
use Rattle.mm_cells.specs.declared.marks.Mark.TheVariants as marks
use Rattle.mm_cells.specs.Map.{Map, use_at, mark_at, room_at, HasPlainMarks}
use Rattle.mm_cells.specs.Kept.{cells_in, KeepsCells, HasTaken, HasFree, IsWhole, IsLater}
use Rattle.mm_cells.specs.Uses.{use_in_whole}
use Rattle.mm_cells.specs.Spans.{AreUnused}
use Rattle.mm_cells.proofs.Tables.Uses.{later-at}
use Rattle.mm_cells.proofs.Sizes.ClassSizes.{cells_in-most}
use Rattle.mm_cells.proofs.Tables.Blocks.{IsOutside, IsInside, outside_or_inside, AgreesOff}

-- no cell lies both in these pages and in others
pub record IsClosed (m : Map) (first count : ℕ) : Type 0 where
  pub wholes : (page n distance : ℕ) → IsOutside first count page → use_at m page ≡ First n → 0 < distance
      → distance < n → IsOutside first count (page + distance)
  pub laters : (page distance : ℕ) → IsOutside first count page → use_at m page ≡ Later distance
      → IsOutside first count (page - distance)

-- these pages are as they are to be
pub record KeepsPages (m : Map) (first count : ℕ) : Type 0 where
  pub classes : (page class : ℕ) → IsInside first count page → use_at m page ≡ Class class
      → (class < 19) × HasTaken m page class
  pub wholes : (page n : ℕ) → IsInside first count page → use_at m page ≡ First n → IsWhole m page n
  pub laters : (page distance : ℕ) → IsInside first count page → use_at m page ≡ Later distance
      → IsLater m page distance
  pub rooms : (class page : ℕ) → class < 19 → IsInside first count page
      → (room_at m class page ≡ true) ↔ ((use_at m page ≡ Class class) × HasFree m page class)
  pub plain : (page class : ℕ) → IsInside first count page → use_at m page ≡ Class class → HasPlainMarks m page

-- where a test is not true it is false
pub not_true : (test : Bool) → (test ≡ true → ⊥) → test ≡ false
not_true true f = absurd (f refl)
not_true false f = refl

pub KeepsCells-block : (a b : Map) (first count : ℕ) → KeepsCells a → AgreesOff a b first count → IsClosed a first count
    →
    0 < first → first + count ≤ a.pages → KeepsPages b first count → KeepsCells b
KeepsCells-block a b first count kept agrees closed off_zero ends now =
    let pages : b.pages ≡ a.pages = agrees.same.pages in
    record {
      two = omega (arith, kept.two);
      most = omega (arith, kept.most);
      off_zero = agrees.uses 0 (inl off_zero) ∙ kept.off_zero;
      inside = λ page past. agrees.uses page (inr (omega arith)) ∙ kept.inside page (omega arith);
      classes = λ page class used. elim (outside_or_inside first count page) [
        | inr inside ↦ now.classes page class inside used
        | inl outside ↦
            let before = kept.classes page class (sym (agrees.uses page outside) ∙ used) in
            let most : cells_in class ≤ 256 = cells_in-most class before.0 in (
              before.0,
              record {
                cell = before.1.cell;
                within = before.1.within;
                taken = λ free. before.1.taken
                    (sym (agrees.marks page before.1.cell outside (omega (arith, before.1.within))) ∙ free);
              },
            )
      ];
      wholes = λ page n used. elim (outside_or_inside first count page) [
        | inr inside ↦ now.wholes page n inside used
        | inl outside ↦
            let used_before : use_at a page ≡ First n = sym (agrees.uses page outside) ∙ used in
            let before = kept.wholes page n used_before in
            record {
              some = before.some;
              within = omega (arith, before.within);
              later = λ distance some within.
                  agrees.uses (page + distance) (closed.wholes page n distance outside used_before some within)
                  ∙ before.later distance some within;
              taken = λ free. before.taken (sym (agrees.marks page 0 outside (omega arith)) ∙ free);
            }
      ];
      laters = λ page distance used. elim (outside_or_inside first count page) [
        | inr inside ↦ now.laters page distance inside used
        | inl outside ↦
            let used_before : use_at a page ≡ Later distance = sym (agrees.uses page outside) ∙ used in
            let before = kept.laters page distance used_before in
            record {
              some = before.some;
              behind = before.behind;
              count = before.count;
              first = agrees.uses (page - distance) (closed.laters page distance outside used_before) ∙ before.first;
              within = before.within;
            }
      ];
      plain = λ page class used. elim (outside_or_inside first count page) [
        | inr inside ↦ now.plain page class inside used
        | inl outside ↦ agrees.plain page (kept.plain page class (sym (agrees.uses page outside) ∙ used))
      ];
      rooms = λ class page known within. elim (outside_or_inside first count page) [
        | inr inside ↦ now.rooms class page known inside
        | inl outside ↦
            let before = kept.rooms class page known (omega arith) in
            let most : cells_in class ≤ 256 = cells_in-most class known in
            let room : room_at b class page ≡ room_at a class page =
            agrees.rooms class page known (omega arith) outside in (
              (λ has.
                  let parts = before.0 (sym room ∙ has) in (
                    agrees.uses page outside ∙ parts.0,
                    record {
                      cell = parts.1.cell;
                      within = parts.1.within;
                      free = agrees.marks page parts.1.cell outside (omega (arith, parts.1.within)) ∙ parts.1.free;
                    },
                  )),
              (λ has.
                  room ∙ before.1 (
                    sym (agrees.uses page outside) ∙ has.0,
                    record {
                      cell = has.1.cell;
                      within = has.1.within;
                      free = sym (agrees.marks page has.1.cell outside (omega (arith, has.1.within))) ∙ has.1.free;
                    },
                  )),
            )
      ];
    }

-- none of these pages is of a cell of whole pages
pub IsClosed-small : (m : Map) (first count : ℕ) → KeepsCells m →
    ((page n : ℕ) → IsInside first count page → use_at m page ≡ First n → ⊥) →
    ((page n : ℕ) → IsInside first count page → use_at m page ≡ Later n → ⊥) → IsClosed m first count
IsClosed-small m first count kept no_first no_later = record {
  wholes = λ page n distance outside used some within. elim (outside_or_inside first count (page + distance)) [
    | inl o ↦ o
    | inr i ↦ absurd (no_later (page + distance) distance i ((kept.wholes page n used).later distance some within))
  ];
  laters = λ page distance outside used. elim (outside_or_inside first count (page - distance)) [
    | inl o ↦ o
    | inr i ↦ absurd (no_first (page - distance) (kept.laters page distance used).count i
        (kept.laters page distance used).first)
  ];
}

pub IsClosed-unused : (m : Map) (first count : ℕ) → KeepsCells m → AreUnused m first count → IsClosed m first count
IsClosed-unused m first count kept unused = IsClosed-small m first count kept
    (λ page n inside used. absurd (let none = unused page inside.from inside.to in cc))
    (λ page n inside used. absurd (let none = unused page inside.from inside.to in cc))

-- the only page of so few
pub only_page : (page other : ℕ) → IsInside page 1 other → other ≡ page
only_page page other inside = omega (arith, inside.from, inside.to)

pub IsClosed-class : (m : Map) (page class : ℕ) → KeepsCells m → use_at m page ≡ Class class → IsClosed m page 1
IsClosed-class m page class kept used = IsClosed-small m page 1 kept
    (λ other n inside first. absurd (let same = ap (use_at m) (only_page page other inside) in cc))
    (λ other n inside later. absurd (let same = ap (use_at m) (only_page page other inside) in cc))

-- the use of each page of a cell of whole pages
pub use_in-whole : (m : Map) (first count distance : ℕ) → KeepsCells m → use_at m first ≡ First count → distance < count
    →
    use_at m (first + distance) ≡ use_in_whole count distance
use_in-whole m first count distance kept used within = elim (cases_eq distance 0) [
  | inl e ↦ ap (λ (d : ℕ). use_at m (first + d)) e ∙ ap (use_at m) (omega arith) ∙ used
      ∙ sym (ap (λ (d : ℕ). use_in_whole count d) e)
  | inr ne ↦ (kept.wholes first count used).later distance (omega arith) within
      ∙ sym (later-at count distance ne)
]

pub IsClosed-whole : (m : Map) (first count : ℕ) → KeepsCells m → use_at m first ≡ First count → IsClosed m first count
IsClosed-whole m first count kept used = record {
  wholes = λ page n distance outside is some within. elim (outside_or_inside first count (page + distance)) [
    | inl o ↦ o
    | inr i ↦ elim (cases_eq (page + distance) first) [
      | inl e ↦
          let here : use_at m (page + distance) ≡ First count = ap (use_at m) e ∙ used in
          let there : use_at m (page + distance) ≡ Later distance =
          (kept.wholes page n is).later distance some within in
          absurd (cc)
      | inr ne ↦
          let d : ℕ = page + distance - first in
          let at : page + distance ≡ first + d = omega (arith, i.from) in
          let here : use_at m (page + distance) ≡ Later d =
          ap (use_at m) at ∙ (kept.wholes first count used).later d (omega (arith, i.from)) (omega (arith, i.to)) in
          let there : use_at m (page + distance) ≡ Later distance =
          (kept.wholes page n is).later distance some within in
          let same : d ≡ distance = cc in
          absurd (elim outside [
            | inl low ↦ omega arith
            | inr high ↦ omega (arith, (kept.wholes first count used).some)
          ])
    ]
  ];
  laters = λ page distance outside is. elim (outside_or_inside first count (page - distance)) [
    | inl o ↦ o
    | inr i ↦
        let later = kept.laters page distance is in
        elim (cases_eq (page - distance) first) [
          | inl e ↦
              let here : use_at m (page - distance) ≡ First count = ap (use_at m) e ∙ used in
              let there : use_at m (page - distance) ≡ First later.count = later.first in
              let same : later.count ≡ count = cc in
              absurd (elim outside [
                | inl low ↦ omega (arith, later.behind, later.some)
                | inr high ↦ omega (arith, later.behind, later.within)
              ])
          | inr ne ↦
              let d : ℕ = page - distance - first in
              let at : page - distance ≡ first + d = omega (arith, i.from) in
              let here : use_at m (page - distance) ≡ Later d =
              ap (use_at m) at ∙ (kept.wholes first count used).later d (omega (arith, i.from)) (omega (arith, i.to)) in
              let there : use_at m (page - distance) ≡ First later.count = later.first in
              absurd (cc)
        ]
  ];
}

-- a page of a class
pub KeepsPages-class : (m : Map) (page class : ℕ) → class < 19 → use_at m page ≡ Class class → HasTaken m page class →
    HasPlainMarks m page → ((room_at m class page ≡ true) ↔ HasFree m page class) →
    ((other : ℕ) → other < 19 → other ≢ class → room_at m other page ≡ false) → KeepsPages m page 1
KeepsPages-class m page class known used taken plain room others = record {
  plain = λ other c inside is. subst (HasPlainMarks m) (sym (only_page page other inside)) plain;
  classes = λ other c inside is.
      let at : use_at m other ≡ use_at m page = ap (use_at m) (only_page page other inside) in
      let same : c ≡ class = cc in (
        omega arith,
        subst (λ (p : ℕ). HasTaken m p c) (sym (only_page page other inside))
            (subst (λ (k : ℕ). HasTaken m page k) (sym same) taken),
      );
  wholes = λ other n inside is.
      absurd (let at : use_at m other ≡ use_at m page = ap (use_at m) (only_page page other inside) in cc);
  laters = λ other n inside is.
      absurd (let at : use_at m other ≡ use_at m page = ap (use_at m) (only_page page other inside) in cc);
  rooms = λ c other low inside.
      subst (λ (p : ℕ). (room_at m c p ≡ true) ↔ ((use_at m p ≡ Class c) × HasFree m p c))
      (sym (only_page page other inside)) (elim (cases_eq c class) [
        | inl e ↦ subst (λ (k : ℕ). (room_at m k page ≡ true) ↔ ((use_at m page ≡ Class k) × HasFree m page k))
            (sym e) ((λ has. (used, room.0 has)), (λ has. room.1 has.1))
        | inr ne ↦ (
          (λ has. absurd (let none : room_at m c page ≡ false = others c low ne in cc)),
          (λ has. absurd (let is : use_at m page ≡ Class c = has.0 in ne (cc))),
        )
      ]);
}

-- unused pages
pub KeepsPages-unused : (m : Map) (first count : ℕ) → AreUnused m first count →
    ((class page : ℕ) → class < 19 → IsInside first count page → room_at m class page ≡ false) →
    KeepsPages m first count
KeepsPages-unused m first count unused no_room = record {
  classes = λ page class inside is. absurd (let none = unused page inside.from inside.to in cc);
  wholes = λ page n inside is. absurd (let none = unused page inside.from inside.to in cc);
  laters = λ page n inside is. absurd (let none = unused page inside.from inside.to in cc);
  plain = λ page n inside is. absurd (let none = unused page inside.from inside.to in cc);
  rooms = λ class page low inside. (
    (λ has. absurd (let none : room_at m class page ≡ false = no_room class page low inside in cc)),
    (λ has. absurd (let is : use_at m page ≡ Class class = has.0 in
        let none : use_at m page ≡ Unused = unused page inside.from inside.to in cc)),
  );
}

-- the pages of one cell
pub KeepsPages-whole : (m : Map) (first count : ℕ) → 0 < count → first + count ≤ m.pages →
    ((distance : ℕ) → distance < count → use_at m (first + distance) ≡ use_in_whole count distance) →
    mark_at m first 0 ≢ marks.Free →
    ((class page : ℕ) → class < 19 → IsInside first count page → room_at m class page ≡ false) →
    KeepsPages m first count
KeepsPages-whole m first count some ends uses taken no_room =
    let first_is : use_at m first ≡ First count = ap (use_at m) (omega arith) ∙ uses 0 some in
    let later_is : (distance : ℕ) → 0 < distance → distance < count → use_at m (first + distance) ≡ Later distance =
    λ distance off within. uses distance within
    ∙ later-at count distance (omega arith) in
    let first_or_later : (page : ℕ) → IsInside first count page →
    (page ≡ first) ⊎ ((0 < page - first) × (use_at m page ≡ Later (page - first))) =
    λ page inside. elim (cases_eq page first) [
      | inl e ↦ inl e
      | inr ne ↦ inr (
        omega (arith, inside.from),
        ap (use_at m) (omega (arith, inside.from))
            ∙ later_is (page - first) (omega (arith, inside.from)) (omega (arith, inside.from, inside.to)),
      )
    ] in
    record {
      classes = λ page class inside is. absurd (elim (first_or_later page inside) [
        | inl e ↦ let at : use_at m page ≡ First count = ap (use_at m) e ∙ first_is in cc
        | inr l ↦ let at : use_at m page ≡ Later (page - first) = l.1 in cc
      ]);
      plain = λ page class inside is. absurd (elim (first_or_later page inside) [
        | inl e ↦ let at : use_at m page ≡ First count = ap (use_at m) e ∙ first_is in cc
        | inr l ↦ let at : use_at m page ≡ Later (page - first) = l.1 in cc
      ]);
      wholes = λ page n inside is. elim (first_or_later page inside) [
        | inl e ↦
            let at : use_at m page ≡ First count = ap (use_at m) e ∙ first_is in
            let same : n ≡ count = cc in
            subst (λ (p : ℕ). IsWhole m p n) (sym e) (subst (λ (k : ℕ). IsWhole m first k) (sym same)
            (record { some = some; within = ends; later = later_is; taken = taken }))
        | inr l ↦ absurd (let at : use_at m page ≡ Later (page - first) = l.1 in cc)
      ];
      laters = λ page distance inside is. elim (first_or_later page inside) [
        | inl e ↦ absurd (let at : use_at m page ≡ First count = ap (use_at m) e ∙ first_is in cc)
        | inr l ↦
            let at : use_at m page ≡ Later (page - first) = l.1 in
            let same : distance ≡ page - first = cc in
            record {
              some = omega (arith, l.0);
              behind = omega (arith, inside.from);
              count = count;
              first = ap (use_at m) (omega (arith, inside.from)) ∙ first_is;
              within = omega (arith, inside.from, inside.to);
            }
      ];
      rooms = λ class page low inside. (
        (λ has. absurd (let none : room_at m class page ≡ false = no_room class page low inside in cc)),
        (λ has. absurd (elim (first_or_later page inside) [
          | inl e ↦
              let is : use_at m page ≡ Class class = has.0 in
              let at : use_at m page ≡ First count = ap (use_at m) e ∙ first_is in
              cc
          | inr l ↦
              let is : use_at m page ≡ Class class = has.0 in
              let at : use_at m page ≡ Later (page - first) = l.1 in
              cc
        ])),
      );
    }

-- a page that isn't of a class isn't in its set
pub no_room-other : (m : Map) (class page : ℕ) → KeepsCells m → class < 19 → page < m.pages →
    (use_at m page ≡ Class class → ⊥) → room_at m class page ≡ false
no_room-other m class page kept known within apart =
    not_true (room_at m class page) (λ has. apart ((kept.rooms class page known within).0 has).0)
