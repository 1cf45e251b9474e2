-- What pages are used for, as the words that say so change.
use Rattle.std.proofs.Common.{◌≡◌, ◌≢◌, ℕ, ◌+◌, ◌-◌, ◌<◌, ◌≤◌, ◌⊎◌, inl, inr, List, Bool, nat_lt, refl, arith, sym, ◌∙◌}
use Rattle.std.proofs.Common.{ap, true, false, length, slice_set}
use Rattle.std.specs.Prelude.{if◌then◌else◌}
use Rattle.std.proofs.lemmas.Bool.{cases_eq, cases_lt, lt-ltb, le-ltb, ne_eqb}
use Rattle.std.proofs.lemmas.List.{get_or-set_same, get_or-set_other}
use Rattle.mm_cells.specs.declared.page_use.PageUse.{PageUse}
use Rattle.mm_cells.specs.declared.page_use.PageUse.TheVariants.{Unused, Class, First, Later}
use Rattle.mm_cells.specs.Uses.{use_of, told_at, behind, meant, use_in, use_in_whole, StandsAlone, HaveUses}
use Rattle.mm_cells.specs.Uses.{ChangesUses}
use Rattle.mm_cells.proofs.Tables.Blocks.{outside_or_inside}

if_true : {A : Type 0} (test : Bool) (x y : A) → test ≡ true → (if test then x else y) ≡ x
if_true test x y e = rw e

if_false : {A : Type 0} (test : Bool) (x y : A) → test ≡ false → (if test then x else y) ≡ y
if_false test x y e = rw e

-- the words after one was written
pub told-here : (uses : List ℕ) (page code : ℕ) → page < length uses →
    told_at (slice_set uses page code) page ≡ use_of code
told-here uses page code within = ap use_of (get_or-set_same uses page code 0 within)

pub told-other : (uses : List ℕ) (page code other : ℕ) → other ≢ page →
    told_at (slice_set uses page code) other ≡ told_at uses other
told-other uses page code other apart = ap use_of (get_or-set_other uses page other code 0 apart)

-- a later page of a cell
pub later-at : (count distance : ℕ) → (distance ≡ 0 → ⊥) → use_in_whole count distance ≡ Later distance
later-at count distance apart =
    ap (λ (test : Bool). if test then First count else Later distance) (ne_eqb distance 0 apart)

-- a cell that reaches a page, and one that doesn't
behind-reached : (count distance : ℕ) → distance < count → behind (First count) distance ≡ Later distance
behind-reached count distance less =
    if_true (nat_lt distance count) (Later distance) Unused (lt-ltb distance count less)

behind-past : (first : PageUse) (distance : ℕ) → ((count : ℕ) → first ≡ First count → count ≤ distance) →
    behind first distance ≡ Unused
behind-past Unused distance past = refl
behind-past (Class class) distance past = refl
behind-past (First count) distance past =
    if_false (nat_lt distance count) (Later distance) Unused (le-ltb distance count (past count refl))
behind-past (Later other) distance past = refl

-- a word that says of its page that it is the first one of a cell, or a later one
use_in-first : (uses : List ℕ) (page count : ℕ) → told_at uses page ≡ First count → use_in uses page ≡ First count
use_in-first uses page count told = ap (meant uses page) told

use_in-later : (uses : List ℕ) (page distance : ℕ) → told_at uses page ≡ Later distance → distance ≤ page →
    use_in uses page ≡ behind (told_at uses (page - distance)) distance
use_in-later uses page distance told low =
    ap (meant uses page) told
    ∙ if_false (nat_lt page distance) Unused (behind (told_at uses (page - distance)) distance)
    (le-ltb page distance low)

-- a page is no later one but by its word
later-behind : (first : PageUse) (distance other : ℕ) → behind first distance ≡ Later other → distance ≡ other
later-behind Unused distance other e = absurd (cc)
later-behind (Class class) distance other e = absurd (cc)
later-behind (First count) distance other e = elim (cases_lt distance count) [
  | inl h ↦
      let is : Later distance ≡ Later other = sym (behind-reached count distance h) ∙ e in
      cc
  | inr h ↦
      let is : Unused ≡ Later other =
      sym (if_false (nat_lt distance count) (Later distance) Unused (le-ltb distance count h)) ∙ e in
      absurd (cc)
]
later-behind (Later more) distance other e = absurd (cc)

later-meant : (uses : List ℕ) (page distance : ℕ) (told : PageUse) → meant uses page told ≡ Later distance →
    told ≡ Later distance
later-meant uses page distance Unused e = absurd (cc)
later-meant uses page distance (Class class) e = absurd (cc)
later-meant uses page distance (First count) e = absurd (cc)
later-meant uses page distance (Later other) e = elim (cases_lt page other) [
  | inl h ↦
      let is : Unused ≡ Later distance =
      sym (if_true (nat_lt page other) Unused (behind (told_at uses (page - other)) other) (lt-ltb page other h)) ∙ e in
      absurd (cc)
  | inr h ↦ ap Later (later-behind (told_at uses (page - other)) other distance
      (sym (if_false (nat_lt page other) Unused (behind (told_at uses (page - other)) other) (le-ltb page other h))
      ∙ e))
]

-- a page is used as it was where its word and that of the first page of its cell say what they said
meant-same : (before after : List ℕ) (page : ℕ) (told : PageUse) → ((distance : ℕ) → distance ≤ page →
    told ≡ Later distance →
    behind (told_at after (page - distance)) distance ≡ behind (told_at before (page - distance)) distance) →
    meant after page told ≡ meant before page told
meant-same before after page Unused same = refl
meant-same before after page (Class class) same = refl
meant-same before after page (First count) same = refl
meant-same before after page (Later distance) same =
    let was : PageUse = behind (told_at before (page - distance)) distance in
    let is : PageUse = behind (told_at after (page - distance)) distance in
    elim (cases_lt page distance) [
      | inl h ↦ if_true (nat_lt page distance) Unused is (lt-ltb page distance h)
          ∙ sym (if_true (nat_lt page distance) Unused was (lt-ltb page distance h))
      | inr h ↦ if_false (nat_lt page distance) Unused is (le-ltb page distance h) ∙ same distance h refl
          ∙ sym (if_false (nat_lt page distance) Unused was (le-ltb page distance h))
    ]

use_in-same : (before after : List ℕ) (page : ℕ) → told_at after page ≡ told_at before page →
    ((distance : ℕ) → distance ≤ page → told_at before page ≡ Later distance →
    behind (told_at after (page - distance)) distance ≡ behind (told_at before (page - distance)) distance) →
    use_in after page ≡ use_in before page
use_in-same before after page told same =
    ap (meant after page) told ∙ meant-same before after page (told_at before page) same

-- a page by itself is no first page of a cell
alone-first : (page_use : PageUse) (count : ℕ) → StandsAlone page_use → page_use ≡ First count → ⊥
alone-first Unused count alone e = cc
alone-first (Class class) count alone e = cc
alone-first (First n) count alone e = alone
alone-first (Later n) count alone e = cc

-- its use changes, and no other
pub use_in-alone : (uses : List ℕ) (page code other : ℕ) → page < length uses → StandsAlone (use_in uses page) →
    StandsAlone (use_of code) → other ≢ page → use_in (slice_set uses page code) other ≡ use_in uses other
use_in-alone uses page code other within was now apart =
    use_in-same uses (slice_set uses page code) other (told-other uses page code other apart)
    (λ distance low later. elim (cases_eq (other - distance) page) [
      | inr ne ↦ ap (λ (u : PageUse). behind u distance) (told-other uses page code (other - distance) ne)
      | inl e ↦
          ap (λ (p : ℕ). behind (told_at (slice_set uses page code) p) distance) e
          ∙ behind-past (told_at (slice_set uses page code) page) distance (λ count first. absurd (
          alone-first (use_of code) count now (sym (told-here uses page code within) ∙ first)))
          ∙ sym (behind-past (told_at uses page) distance (λ count first. absurd (
          alone-first (use_in uses page) count was (use_in-first uses page count first))))
          ∙ ap (λ (p : ℕ). behind (told_at uses p) distance) (sym e)
    ])

-- the words of the pages of one cell
pub record TellsWhole (before after : List ℕ) (first count : ℕ) : Type 0 where
  pub first_page : told_at after first ≡ First count
  pub later : (distance : ℕ) → 0 < distance → distance < count → told_at after (first + distance) ≡ Later distance
  pub others : (page : ℕ) → (page < first) ⊎ (first + count ≤ page) → told_at after page ≡ told_at before page

-- no page of these was the first one of a cell
unused-first : (uses : List ℕ) (page count : ℕ) → use_in uses page ≡ Unused → told_at uses page ≡ First count → ⊥
unused-first uses page count unused told =
    let is : Unused ≡ First count = sym unused ∙ use_in-first uses page count told in cc

pub ChangesUses-whole : (before after : List ℕ) (first count : ℕ) → 0 < count →
    ((page : ℕ) → first ≤ page → page < first + count → use_in before page ≡ Unused) →
    TellsWhole before after first count → ChangesUses before after first count (use_in_whole count)
ChangesUses-whole before after first count some unused tells = record {
  here = λ distance within. elim (cases_eq distance 0) [
    | inl e ↦
        ap (λ (d : ℕ). use_in after (first + d)) e ∙ ap (use_in after) (omega arith)
        ∙ use_in-first after first count tells.first_page ∙ ap (use_in_whole count) (sym e)
    | inr ne ↦
        use_in-later after (first + distance) distance (tells.later distance (omega arith) within) (omega arith)
        ∙ ap (λ (p : ℕ). behind (told_at after p) distance) (omega arith)
        ∙ ap (λ (u : PageUse). behind u distance) tells.first_page ∙ behind-reached count distance within
        ∙ sym (later-at count distance ne)
  ];
  others = λ other outside. use_in-same before after other (tells.others other outside) (λ distance low later.
      let from : ℕ = other - distance in
      elim (outside_or_inside first count from) [
        | inl out ↦ ap (λ (u : PageUse). behind u distance) (tells.others from out)
        | inr in_run ↦
            behind-past (told_at after from) distance (λ n told. elim (cases_eq from first) [
              | inl e ↦
                  let is : First n ≡ First count = sym told ∙ ap (told_at after) e ∙ tells.first_page in
                  let same : n ≡ count = cc in
                  elim outside [ inl below ↦ omega arith | inr above ↦ omega arith ]
              | inr ne ↦
                  let at : from ≡ first + (from - first) = omega (arith, in_run.from) in
                  let is : First n ≡ Later (from - first) =
                  sym told ∙ ap (told_at after) at
                  ∙ tells.later (from - first) (omega (arith, in_run.from)) (omega (arith, in_run.from, in_run.to)) in
                  absurd (cc)
            ])
            ∙ sym (behind-past (told_at before from) distance
            (λ n told. absurd (unused-first before from n (unused from in_run.from in_run.to) told)))
      ]);
}

-- the word of the first page says that it is unused
pub ChangesUses-cleared : (uses : List ℕ) (first code count : ℕ) → first < length uses → use_of code ≡ Unused →
    0 < count → HaveUses uses first count (use_in_whole count) →
    ChangesUses uses (slice_set uses first code) first count (λ distance. Unused)
ChangesUses-cleared uses first code count within code_is some whole =
    let after : List ℕ = slice_set uses first code in
    let now : told_at after first ≡ Unused = told-here uses first code within ∙ code_is in
    let was : use_in uses first ≡ First count = ap (use_in uses) (omega arith) ∙ whole 0 some in
    record {
      here = λ distance less. elim (cases_eq distance 0) [
        | inl e ↦
            ap (λ (d : ℕ). use_in after (first + d)) e ∙ ap (use_in after) (omega arith) ∙ ap (meant after first) now
        | inr ne ↦
            let told : told_at uses (first + distance) ≡ Later distance =
            later-meant uses (first + distance) distance (told_at uses (first + distance))
            (whole distance less ∙ later-at count distance ne) in
            use_in-later after (first + distance) distance
            (told-other uses first code (first + distance) (λ e. omega arith) ∙ told) (omega arith)
            ∙ ap (λ (p : ℕ). behind (told_at after p) distance) (omega arith)
            ∙ ap (λ (u : PageUse). behind u distance) now
      ];
      others = λ other outside.
          let apart : other ≢ first = λ e. elim outside [ inl below ↦ omega arith | inr above ↦ omega arith ] in
          use_in-same uses after other (told-other uses first code other apart) (λ distance low later.
          elim (cases_eq (other - distance) first) [
            | inr ne ↦ ap (λ (u : PageUse). behind u distance) (told-other uses first code (other - distance) ne)
            | inl e ↦
                ap (λ (p : ℕ). behind (told_at after p) distance) e ∙ ap (λ (u : PageUse). behind u distance) now
                ∙ sym (behind-past (told_at uses first) distance (λ n told.
                let is : First n ≡ First count = sym (use_in-first uses first n told) ∙ was in
                let same : n ≡ count = cc in
                elim outside [ inl below ↦ omega arith | inr above ↦ omega arith ]))
                ∙ ap (λ (p : ℕ). behind (told_at uses p) distance) (sym e)
          ]);
    }
