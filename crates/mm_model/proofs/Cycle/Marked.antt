-- What marking reaches: as a cycle begins no more than what is reached, at its end all that `finish` spares, and
-- after a single step in between nothing more, but for what is reached.
use Rattle.std.proofs.Common.{◌≡◌, ℕ, zero, suc, ◌+◌, Bool, true, false, not, ◌||◌, List, [], ◌∷◌, ◌++◌, replicate}
use Rattle.std.proofs.Common.{length, take, drop, Option, Some, None, refl, sym, ap, ◌∙◌, ◌⊎◌, ⊎_elim, inl, inr}
use Rattle.std.proofs.Common.{eqb-true}
use Rattle.std.proofs.lemmas.Bool.{eq-eqb}
use Rattle.std.proofs.lemmas.List.{get_or-replicate, length-replicate, get_or-set_other, take-append-drop}
use Rattle.std.proofs.lemmas.List.Folds.{list_any-append}
use Rattle.std.proofs.lemmas.Option.{slice_get_within}
use Rattle.std.specs.Prelude.{◌↔◌, ◌==◌, IsTrue, IfSome, if◌then◌else◌, is_some, slice_get, slice_set}
use Rattle.std.specs.List.{list_any}
use Rattle.std.specs.Option.{option_map}
use Rattle.mm_model.specs.declared.object.Colour.{Colour}
use Rattle.mm_model.specs.declared.object.Colour.TheVariants.{White, Gray, Black}
use Rattle.mm_model.specs.Value.{Value, words_of}
use Rattle.mm_model.specs.Object.{Object}
use Rattle.mm_model.specs.State.{State, Cycle, Lives, gone_count}
use Rattle.mm_model.specs.Words.{root_words, scanned_slots, falls, names}
use Rattle.mm_model.specs.Sets.Reached.{IsReached}
use Rattle.mm_model.specs.Sets.Marking.{is_white, colour_of, colour_in, done_of, grayed_cycle, with_grayed, begun}
use Rattle.mm_model.specs.Sets.Marking.{advanced}
use Rattle.mm_model.specs.Sets.Marking.{part_slots, part_done, MayScan, IsKeptAtFinish, IsFreedAtFinish, IsMarked}
use Rattle.mm_model.specs.Good.{IsColoured, IsGood}
use Rattle.mm_model.proofs.Lists.Truth.{or_true}
use Rattle.mm_model.proofs.Good.Graying.{not_white-before, white-before, black-before, names_no_white-grayed}

-- the cycle that begins, before the roots are gray
abbrev all_white : State → Cycle
all_white a =
    record { colours = replicate (length a.objects) White; gone_before = gone_count a; partly_scanned = None }

pub not_white-begun : (a : State) (birth : ℕ) (object : Object) → Lives (begun a) birth object
    → not (is_white (colour_in (begun a).cycle birth)) ≡ true → names (root_words a) object ≡ true
not_white-begun a birth object lives e =
    let own : Lives a birth object = record { is = lives.is; live = lives.live } in
    let white : colour_of (all_white a) birth ≡ White =
    get_or-replicate (length a.objects) birth White White (slice_get_within a.objects birth object lives.is) in
    ⊎_elim
    (λ (l : not (is_white (colour_of (all_white a) birth)) ≡ true).
    absurd (clash (ap (λ c. not (is_white c)) (sym white) ∙ l)))
    (λ (r : names (root_words a) object ≡ true). r)
    (not_white-before a (root_words a) (all_white a) (length-replicate (length a.objects) White) birth object own e)
  where
    clash : false ≡ true → ⊥
    clash p = cc

by_colour : (P : Type 0) (c : Colour) → (c ≡ White → P) → (c ≡ Gray → P) → (c ≡ Black → P) → P
by_colour P White f g h = f refl
by_colour P Gray f g h = g refl
by_colour P Black f g h = h refl

white_or_not : (c : Colour) → (c ≡ White) ⊎ (not (is_white c) ≡ true)
white_or_not White = inl refl
white_or_not Gray = inr refl
white_or_not Black = inr refl

not_white_is_other : (c : Colour) → not (is_white c) ≡ true → c ≡ White → ⊥
not_white_is_other White e p = cc
not_white_is_other Gray e p = cc
not_white_is_other Black e p = cc

module _ (a : State) (cycle : Cycle) (is : a.cycle ≡ Some cycle) (good : IsColoured a cycle) where
  -- the state as `finish` looks at it, with the roots gray
  abbrev looked : State
  looked = with_grayed (root_words a) a

  abbrev graying : Cycle
  graying = grayed_cycle (root_words a) a cycle

  abbrev colour_now : ℕ → Colour
  colour_now birth = colour_in looked.cycle birth

  colour_now-is : (birth : ℕ) → colour_now birth ≡ colour_of graying birth
  colour_now-is birth =
      ap (λ (o : Option Cycle). colour_in (option_map (grayed_cycle (root_words a) a) o) birth) is

  colour_before-is : (birth : ℕ) → colour_in a.cycle birth ≡ colour_of cycle birth
  colour_before-is birth = ap (λ (o : Option Cycle). colour_in o birth) is

  lives_on : (birth : ℕ) (object : Object) → Lives a birth object → Lives looked birth object
  lives_on birth object lives = record { is = lives.is; live = lives.live }

  lived : (birth : ℕ) (object : Object) → Lives looked birth object → Lives a birth object
  lived birth object lives = record { is = lives.is; live = lives.live }

  -- what `finish` doesn't free
  abbrev IsKept : ℕ → Type 0
  IsKept birth = (colour_now birth ≡ Black) ⊎ IsKeptAtFinish looked birth

  marked : (birth : ℕ) (object : Object) → Lives a birth object → colour_now birth ≡ Gray → IsKept birth
  marked birth object lives gray = inr (IsKeptAtFinish.Already birth object (lives_on birth object lives) gray)

  kept-unless_white : (birth : ℕ) (object : Object) → Lives a birth object → (colour_now birth ≡ White → IsKept birth)
      → IsKept birth
  kept-unless_white birth object lives white =
      by_colour (IsKept birth) (colour_now birth) white (marked birth object lives) (λ black. inl black)

  kept_by_slot : (birth : ℕ) (object : Object) (by : ℕ) (holder : Object) → Lives a birth object
      → Lives a by holder → IsTrue (names (scanned_slots holder) object) → IsKept by → IsKept birth
  kept_by_slot birth object by holder lives held named kept =
      kept-unless_white birth object lives
      (λ white.
      ⊎_elim
      (λ (black : colour_now by ≡ Black).
      absurd (good.black by holder held
      (black-before a (root_words a) cycle good.each by holder held (sym (colour_now-is by) ∙ black)) birth object lives
      (white-before a (root_words a) cycle good.each birth object lives (sym (colour_now-is birth) ∙ white)) named))
      (λ (own : IsKeptAtFinish looked by).
      inr (IsKeptAtFinish.By_slot birth object by holder (lives_on birth object lives) white
      (lives_on by holder held) named
      own)) kept)

  reached-kept : (birth : ℕ) → IsReached a birth → IsKept birth
  reached-kept birth (IsReached.By_root _ object lives named) =
      kept-unless_white birth object lives
      (λ white.
      absurd (names_no_white-grayed a (root_words a) cycle good.each birth object lives
      (sym (colour_now-is birth) ∙ white) named))
  reached-kept birth (IsReached.By_slot _ object by holder lives held named own) =
      kept_by_slot birth object by holder lives held named (reached-kept by own)

  mark_reached-kept : (birth : ℕ) → IsMarked a birth → IsKept birth
  mark_reached-kept birth (IsMarked.Already _ object lives colour) =
      kept-unless_white birth object lives
      (λ white.
      absurd (not_white_is_other (colour_in a.cycle birth) colour
      (colour_before-is birth
      ∙ white-before a (root_words a) cycle good.each birth object lives (sym (colour_now-is birth) ∙ white))))
  mark_reached-kept birth (IsMarked.By_slot _ object by holder lives held named own) =
      kept_by_slot birth object by holder lives held named (mark_reached-kept by own)

  unmarked_is_not_kept : (birth : ℕ) → IsFreedAtFinish a birth → IsKept birth → ⊥
  unmarked_is_not_kept birth unmarked kept =
      ⊎_elim (λ (black : colour_now birth ≡ Black). let same : White ≡ Black = sym unmarked.white ∙ black in cc)
      (λ (own : IsKeptAtFinish looked birth). unmarked.unmarked own) kept

  abbrev IsEither : ℕ → Type 0
  IsEither birth = IsMarked a birth ⊎ IsReached a birth

  not_white_is_either : (birth : ℕ) (object : Object) → Lives a birth object
      → not (is_white (colour_now birth)) ≡ true → IsEither birth
  not_white_is_either birth object lives e =
      ⊎_elim
      (λ (l : not (is_white (colour_of cycle birth)) ≡ true).
      inl (IsMarked.Already birth object lives (ap (λ c. not (is_white c)) (colour_before-is birth) ∙ l)))
      (λ (r : names (root_words a) object ≡ true). inr (IsReached.By_root birth object lives r))
      (not_white-before a (root_words a) cycle good.each birth object lives
      (ap (λ c. not (is_white c)) (sym (colour_now-is birth)) ∙ e))

  marked_is_either : (birth : ℕ) → IsKeptAtFinish looked birth → IsEither birth
  marked_is_either birth (IsKeptAtFinish.Already _ object lives gray) =
      not_white_is_either birth object (lived birth object lives) (ap (λ c. not (is_white c)) gray)
  marked_is_either birth (IsKeptAtFinish.By_slot _ object by holder lives white held named own) =
      let here = lived birth object lives in
      let there = lived by holder held in
      ⊎_elim (λ (l : IsMarked a by). inl (IsMarked.By_slot birth object by holder here there named l))
      (λ (r : IsReached a by). inr (IsReached.By_slot birth object by holder here there named r))
      (marked_is_either by own)

  neither_is_unmarked : (birth : ℕ) (object : Object) → Lives a birth object → (IsEither birth → ⊥)
      → IsFreedAtFinish a birth
  neither_is_unmarked birth object lives neither =
      record {
        white = ⊎_elim (λ (l : colour_now birth ≡ White). l)
            (λ (r : not (is_white (colour_now birth)) ≡ true).
            absurd (neither (not_white_is_either birth object lives r))) (white_or_not (colour_now birth));
        unmarked = λ own. neither (marked_is_either birth own);
      }

  neither_both : (birth : ℕ) (object : Object) → Lives a birth object
      → IsFreedAtFinish a birth ↔ ((IsMarked a birth → ⊥) × (IsReached a birth → ⊥))
  neither_both birth object lives = (
    λ unmarked. (
      λ own. unmarked_is_not_kept birth unmarked (mark_reached-kept birth own),
      λ own. unmarked_is_not_kept birth unmarked (reached-kept birth own),
    ),
    λ neither.
        neither_is_unmarked birth object lives
        (⊎_elim (λ (l : IsMarked a birth). neither.0 l) (λ (r : IsReached a birth). neither.1 r)),
  )

-- in a good state with a cycle, as a state whose cycle has right colours
with_cycle : (a : State) (P : Type 0) → IsGood a → IsTrue (is_some a.cycle)
    → ((cycle : Cycle) → a.cycle ≡ Some cycle → IsColoured a cycle → P) → P
with_cycle a P good runs f = split a.cycle refl runs good.coloured
  where
    split : (o : Option Cycle) → a.cycle ≡ o → IsTrue (is_some o) → IfSome o (IsColoured a) → P
    split None is some coloured = cc
    split (Some cycle) is some coloured = f cycle is coloured

-- `finish` frees exactly the live objects that marking doesn't reach any more and that aren't reached.
pub unmarked_iff_neither : (a : State) (birth : ℕ) (object : Object) → IsGood a → IsTrue (is_some a.cycle)
    → Lives a birth object → IsFreedAtFinish a birth ↔ ((IsMarked a birth → ⊥) × (IsReached a birth → ⊥))
unmarked_iff_neither a birth object good runs lives =
    with_cycle a (IsFreedAtFinish a birth ↔ ((IsMarked a birth → ⊥) × (IsReached a birth → ⊥))) good runs
    (λ cycle is coloured. neither_both a cycle is coloured birth object lives)

pub unmarked_is_not_reached : (a : State) (birth : ℕ) → IsGood a → IsTrue (is_some a.cycle) → IsFreedAtFinish a birth
    → IsReached a birth → ⊥
unmarked_is_not_reached a birth good runs unmarked own =
    with_cycle a ⊥ good runs
    (λ cycle is coloured.
    unmarked_is_not_kept a cycle is coloured birth unmarked (reached-kept a cycle is coloured birth own))

-- what a part of the words names, they name
names-take : (n : ℕ) (words : List ℕ) (o : Object) → names (take n words) o ≡ true → names words o ≡ true
names-take n words o e =
    let test : ℕ → Bool = λ word. falls word o.base o.extent in
    ap (list_any test) (sym (take-append-drop n words)) ∙ list_any-append test (take n words) (drop n words)
    ∙ ap (λ b. b || list_any test (drop n words)) e

names-drop : (n : ℕ) (words : List ℕ) (o : Object) → names (drop n words) o ≡ true → names words o ≡ true
names-drop n words o e =
    let test : ℕ → Bool = λ word. falls word o.base o.extent in
    ap (list_any test) (sym (take-append-drop n words)) ∙ list_any-append test (take n words) (drop n words)
    ∙ or_true (list_any test (take n words)) (list_any test (drop n words)) e

module _ (a : State) (birth : ℕ) (object : Object) (good : IsGood a) (may : MayScan a birth object) where
  abbrev part : State
  part = part_done a birth object

  -- what isn't white after the part wasn't white before, or the part names it
  not_white-part : (j : ℕ) (o : Object) → Lives a j o → not (is_white (colour_in part.cycle j)) ≡ true
      → (not (is_white (colour_in a.cycle j)) ≡ true) ⊎ (names (part_slots a birth object) o ≡ true)
  not_white-part j o lives =
      split a.cycle good.coloured may.gray (part_slots a birth object)
      (done_of a.cycle birth + length (part_slots a birth object)) (length (scanned_slots object))
    where
      split : (cycle : Option Cycle) → IfSome cycle (IsColoured a) → colour_in cycle birth ≡ Gray
          → (words : List ℕ) (done all : ℕ)
          → not (is_white (colour_in (option_map (λ c. advanced birth done all (grayed_cycle words a c)) cycle) j))
          ≡ true
          → (not (is_white (colour_in cycle j)) ≡ true) ⊎ (names words o ≡ true)
      split None h gray words done all e = cc
      split (Some cycle) h gray words done all e = by_end (done == all) e
        where
          by_end : (b : Bool)
              → not (is_white (colour_of (if b
              then record (grayed_cycle words a cycle) {
                colours = slice_set (grayed_cycle words a cycle).colours birth Black;
                partly_scanned = None;
              }
              else record (grayed_cycle words a cycle)
              { partly_scanned = Some (record { object = birth; slots_done = done }) }) j))
              ≡ true
              → (not (is_white (colour_of cycle j)) ≡ true) ⊎ (names words o ≡ true)
          by_end false p = not_white-before a words cycle h.each j o lives p
          by_end true p = by_birth (j == birth) refl
            where
              by_birth : (b : Bool) → (j == birth) ≡ b
                  → (not (is_white (colour_of cycle j)) ≡ true) ⊎ (names words o ≡ true)
              by_birth true q =
                  inl (ap (λ n. not (is_white (colour_of cycle n))) (eqb-true _ _ q) ∙ ap (λ c. not (is_white c)) gray)
              by_birth false q =
                  let other : j ≡ birth → ⊥ = λ e. absurd (clash (sym q ∙ eq-eqb _ _ e)) in
                  not_white-before a words cycle h.each j o lives
                  (ap (λ c. not (is_white c))
                  (sym (get_or-set_other (grayed_cycle words a cycle).colours birth j Black White other)) ∙ p)
                where
                  clash : false ≡ true → ⊥
                  clash e = cc

  lived-part : (j : ℕ) (o : Object) → Lives part j o → Lives a j o
  lived-part j o lives = record { is = lives.is; live = lives.live }

  -- The scan of a part makes marking reach nothing more.
  pub mark_reached-part : (j : ℕ) → IsMarked part j → IsMarked a j
  mark_reached-part j (IsMarked.Already _ o lives colour) =
      let own = lived-part j o lives in
      let scanned : IsMarked a birth =
      IsMarked.Already birth object may.lives (ap (λ c. not (is_white c)) may.gray) in
      ⊎_elim (λ (l : not (is_white (colour_in a.cycle j)) ≡ true). IsMarked.Already j o own l)
      (λ (r : names (part_slots a birth object) o ≡ true).
      IsMarked.By_slot j o birth object own may.lives
      (names-drop (done_of a.cycle birth) (scanned_slots object) o
      (names-take 64 (drop (done_of a.cycle birth) (scanned_slots object)) o r)) scanned)
      (not_white-part j o own colour)
  mark_reached-part j (IsMarked.By_slot _ o by holder lives held named own) =
      IsMarked.By_slot j o by holder (lived-part j o lives) (lived-part by holder held) named
      (mark_reached-part by own)

-- a word on the stack is a root
pub stack_named : (stack : List Value) (more : List ℕ) (i : ℕ) (value : Value) (o : Object)
    → slice_get stack i ≡ Some value → falls value.word o.base o.extent ≡ true
    → names (words_of stack ++ more) o ≡ true
stack_named [] more i value o e falls_there = cc
stack_named (v ∷ vs) more zero value o e falls_there =
    let same : v ≡ value = cc in
    ap (λ (x : Value). falls x.word o.base o.extent || names (words_of vs ++ more) o) same
    ∙ ap (λ b. b || names (words_of vs ++ more) o) falls_there
stack_named (v ∷ vs) more (suc i) value o e falls_there =
    or_true (falls v.word o.base o.extent) (names (words_of vs ++ more) o) (stack_named vs more i value o e falls_there)
