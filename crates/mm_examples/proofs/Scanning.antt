-- The lines of `step`, as they are computed from the bases that it scans, and that it scans so.
use Rattle.std.proofs.Common.{◌≡◌, ℕ, ◌-◌, ◌==◌, nat_le, nat_lt, Bool, true, false, not, ◌&&◌, ◌||◌, List, [], ◌∷◌}
use Rattle.std.proofs.Common.{◌++◌, length, take, sum, Option, Some, None, IfSome, slice_get, refl, subst, ⊎_elim}
use Rattle.std.proofs.Common.{eqb-true, ltb-true, leb-true}
use Rattle.std.specs.List.{list_all}
use Rattle.std.specs.Option.{option_map_or}
use Rattle.std.proofs.lemmas.Bool.{and_parts, or_cases}
use Rattle.mm_model.specs.declared.line.Line.{Line}
use Rattle.mm_model.specs.declared.line.Line.TheVariants as lines
use Rattle.mm_model.specs.Object.{Object, is_live}
use Rattle.mm_model.specs.State.{State, Cycle}
use Rattle.mm_model.specs.Sets.Marking.{MayScan, is_gray, colour_in, may_continue, part_slots, part_done}
use Rattle.mm_model.specs.Sets.Scan.{AreScanned, IsEnough, Nothing_asked, Cost_reached, Nothing_left, IsNothingGray}
use Rattle.mm_model.specs.Sets.Scan.{costs}
use Rattle.mm_model.specs.Step.{Scans}
use Rattle.mm_model.specs.After.{birth_at, part_done_at, parts_done}
use Rattle.mm_model.proofs.Decided.Members.{living, each_from_all, at_live}
use Rattle.mm_model.proofs.Decided.Closures.{gray_if}

abbrev part_line : State → ℕ → Object → Line
part_line a birth object = lines.Scan object.base (length (part_slots a birth object))

abbrev part_log : State → Option ℕ → List Line
part_log a None = []
part_log a (Some birth) = option_map_or (λ object. part_line a birth object ∷ []) (slice_get a.objects birth) []

abbrev pub scan_log : State → List ℕ → List Line
scan_log a [] = []
scan_log a (base ∷ bases) = part_log a (birth_at a base) ++ scan_log (part_done_at a (birth_at a base)) bases

-- another object isn't partly scanned
abbrev is_turn : Option Cycle → ℕ → Bool
is_turn None birth = true
is_turn (Some cycle) birth = may_continue cycle.partly_scanned birth

abbrev may_scan : State → ℕ → Object → Bool
may_scan a birth object = is_live object && (is_gray (colour_in a.cycle birth) && is_turn a.cycle birth)

abbrev may_scan_at : State → Option ℕ → Bool
may_scan_at a None = false
may_scan_at a (Some birth) = option_map_or (may_scan a birth) (slice_get a.objects birth) false

abbrev may_scan_all : State → List ℕ → Bool
may_scan_all a [] = true
may_scan_all a (base ∷ bases) =
    may_scan_at a (birth_at a base) && may_scan_all (part_done_at a (birth_at a base)) bases

abbrev is_nothing_gray : State → Bool
is_nothing_gray a = list_all (λ m. not (is_gray (colour_in a.cycle m.birth))) (living a)

abbrev is_empty : List Line → Bool
is_empty [] = true
is_empty (line ∷ log) = false

-- the lines without the last one
abbrev earlier : List Line → List ℕ
earlier log = take (length log - 1) (costs log)

abbrev is_enough : ℕ → List Line → State → Bool
is_enough k log b =
    (k == 0 && is_empty log)
    || ((nat_le k (sum (costs log)) && nat_lt (sum (earlier log)) k)
    || (nat_lt (sum (costs log)) k && is_nothing_gray b))

abbrev pub scan_checks : State → ℕ → List ℕ → Bool
scan_checks a k bases = may_scan_all a bases && is_enough k (scan_log a bases) (parts_done a bases)

turn_if : (cycle : Option Cycle) (birth : ℕ) → is_turn cycle birth ≡ true
    → IfSome cycle (λ cycle. may_continue cycle.partly_scanned birth ≡ true)
turn_if None birth e = tt
turn_if (Some cycle) birth e = e

may_scan_if : (a : State) (birth : ℕ) (object : Object) → slice_get a.objects birth ≡ Some object
    → may_scan a birth object ≡ true → MayScan a birth object
may_scan_if a birth object is e =
    let parts = and_parts (is_live object) (is_gray (colour_in a.cycle birth) && is_turn a.cycle birth) e in
    let more = and_parts (is_gray (colour_in a.cycle birth)) (is_turn a.cycle birth) parts.1 in
    record {
      lives = record { is = is; live = parts.0 };
      gray = gray_if (colour_in a.cycle birth) more.0;
      turn = turn_if a.cycle birth more.1;
    }

abbrev AreSomeScanned : State → List Line → State → Type 0
AreSomeScanned a log b = (births : List ℕ) × AreScanned a births log b

scanned_if : (a : State) (bases : List ℕ) → may_scan_all a bases ≡ true
    → AreSomeScanned a (scan_log a bases) (parts_done a bases)
scanned_if a [] e = ([], (refl, refl))
scanned_if a (base ∷ bases) e =
    let object_split : (birth : ℕ) (o : Option Object) → slice_get a.objects birth ≡ o
    → (option_map_or (may_scan a birth) o false && may_scan_all (option_map_or (part_done a birth) o a) bases) ≡ true
    → AreSomeScanned a
    (option_map_or (λ object. part_line a birth object ∷ []) o []
    ++ scan_log (option_map_or (part_done a birth) o a) bases)
    (parts_done (option_map_or (part_done a birth) o a) bases) =
    λ birth. elim [
      | None ↦ λ p q. cc
      | Some object ↦ λ p q.
          let parts = and_parts (may_scan a birth object) (may_scan_all (part_done a birth object) bases) q in
          let rest = scanned_if (part_done a birth object) bases parts.1 in (
            birth ∷ rest.0,
            (object, scan_log (part_done a birth object) bases, may_scan_if a birth object p parts.0, refl, rest.1),
          )
    ] in
    let birth_split : (o : Option ℕ) → (may_scan_at a o && may_scan_all (part_done_at a o) bases) ≡ true
    → AreSomeScanned a (part_log a o ++ scan_log (part_done_at a o) bases) (parts_done (part_done_at a o) bases) =
    elim [
      | None ↦ λ q. cc
      | Some birth ↦ λ q. object_split birth (slice_get a.objects birth) refl q
    ] in
    birth_split (birth_at a base) e

nothing_gray_if : (a : State) → is_nothing_gray a ≡ true → IsNothingGray a
nothing_gray_if a e birth object lives gray =
    let here : not (is_gray (colour_in a.cycle birth)) ≡ true =
    at_live (λ m. not (is_gray (colour_in a.cycle m.birth)) ≡ true) a
    (each_from_all (λ m. not (is_gray (colour_in a.cycle m.birth))) (living a) e) birth object lives in
    let refuted : not true ≡ true = subst (λ c. not (is_gray c) ≡ true) gray here in
    cc

empty_if : (log : List Line) → is_empty log ≡ true → log ≡ []
empty_if [] e = refl
empty_if (line ∷ log) e = cc

enough_if : (k : ℕ) (log : List Line) (b : State) → is_enough k log b ≡ true → IsEnough k log b
enough_if k log b e =
    let none : Bool = k == 0 && is_empty log in
    let reached : Bool = nat_le k (sum (costs log)) && nat_lt (sum (earlier log)) k in
    let over : Bool = nat_lt (sum (costs log)) k && is_nothing_gray b in
    ⊎_elim
    (λ (p : none ≡ true).
    let parts = and_parts (k == 0) (is_empty log) p in
    Nothing_asked (eqb-true k 0 parts.0) (empty_if log parts.1))
    (λ (p : (reached || over) ≡ true).
    ⊎_elim
    (λ (q : reached ≡ true).
    let parts = and_parts (nat_le k (sum (costs log))) (nat_lt (sum (earlier log)) k) q in
    Cost_reached (leb-true k (sum (costs log)) parts.0) (ltb-true (sum (earlier log)) k parts.1))
    (λ (q : over ≡ true).
    let parts = and_parts (nat_lt (sum (costs log)) k) (is_nothing_gray b) q in
    Nothing_left (ltb-true (sum (costs log)) k parts.0) (nothing_gray_if b parts.1))
    (or_cases reached over p))
    (or_cases none (reached || over) e)

pub scans_if : (a : State) (k : ℕ) (bases : List ℕ) → scan_checks a k bases ≡ true
    → Scans a k (scan_log a bases) (parts_done a bases)
scans_if a k bases e =
    let parts = and_parts (may_scan_all a bases) (is_enough k (scan_log a bases) (parts_done a bases)) e in
    let some = scanned_if a bases parts.0 in
    record {
      births = some.0;
      scanned = some.1;
      enough = enough_if k (scan_log a bases) (parts_done a bases) parts.1;
    }
