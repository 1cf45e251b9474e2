-- There are scans that are enough for `step`: each part costs something, so they end.
use Rattle.std.proofs.Common.{◌≡◌, ℕ, zero, suc, ◌-◌, ◌<◌, ◌≤◌, false, List, [], ◌∷◌, length, take, sum, Option, Some}
use Rattle.std.proofs.Common.{None, refl, sym, ap, ◌∙◌, subst, ◌⊎◌, ⊎_elim, inl, inr, arith}
use Rattle.std.specs.Prelude.{IsTrue, IfSome}
use Rattle.std.specs.List.{find}
use Rattle.std.proofs.lemmas.Bool.{eq-eqb, cases_lt}
use Rattle.std.proofs.lemmas.List.Sums.{sum_by-cons}
use Rattle.mm_model.specs.declared.line.Line.{Line}
use Rattle.mm_model.specs.declared.line.Line.TheVariants as lines
use Rattle.mm_model.specs.declared.object.Colour.{Colour}
use Rattle.mm_model.specs.declared.object.Colour.TheVariants.{White, Gray, Black}
use Rattle.mm_model.specs.Object.{Object}
use Rattle.mm_model.specs.State.{State, Cycle, PartlyScanned, Lives}
use Rattle.mm_model.specs.Sets.Marking.{MayScan, is_gray, colour_in, may_continue, part_slots, part_done}
use Rattle.mm_model.specs.Sets.Scan.{AreScanned, IsNothingGray, IsEnough, Nothing_asked, Cost_reached, Nothing_left}
use Rattle.mm_model.specs.Sets.Scan.{cost}
use Rattle.mm_model.specs.Sets.Scan.{costs}
use Rattle.mm_model.specs.Step.{Scans}
use Rattle.mm_model.specs.Good.{IsPartlyScanned, IsColoured, IsGood}
use Rattle.mm_model.proofs.Lists.Growing.{find-Some, find-None}
use Rattle.mm_model.proofs.Good.Living.{each_get}
use Rattle.mm_model.proofs.Good.Scanning.{part_is_good}
use Rattle.mm_model.proofs.Decided.Members.{Numbered, living, at_live, each_living}
use Rattle.mm_model.proofs.Decided.Closures.{gray_if}

-- an object that may be scanned next
record IsNext (a : State) : Type 0 where
  birth : ℕ
  object : Object
  may : MayScan a birth object

-- In a cycle the partly scanned object comes next, if there is one, or else any gray one.
next_or_none : (a : State) → IsGood a → IsNext a ⊎ IsNothingGray a
next_or_none a good = split a.cycle refl good.coloured
  where
    lone : (gray : (m : Numbered) → Lives a m.birth m.object → colour_in a.cycle m.birth ≡ Gray → IsNext a)
        → IsNext a ⊎ IsNothingGray a
    lone next = found (find (λ m. is_gray (colour_in a.cycle m.birth)) (living a)) refl
      where
        found : (o : Option Numbered) → find (λ m. is_gray (colour_in a.cycle m.birth)) (living a) ≡ o
            → IsNext a ⊎ IsNothingGray a
        found None e =
            inr (λ birth object lives gray.
            clash (colour_in a.cycle birth) gray
            (at_live (λ m. is_gray (colour_in a.cycle m.birth) ≡ false) a
            (find-None (λ m. is_gray (colour_in a.cycle m.birth)) (living a) e) birth object lives))
          where
            clash : (colour : Colour) → colour ≡ Gray → is_gray colour ≡ false → ⊥
            clash White p q = cc
            clash Gray p q = cc
            clash Black p q = cc
        found (Some m) e =
            let one = find-Some (λ m. is_gray (colour_in a.cycle m.birth)) (living a) m e in
            inl (next m
            (each_get (λ m. Lives a m.birth m.object) (living a) one.place m
            (each_living (λ m. Lives a m.birth m.object) a (λ birth object lives. lives)) one.is)
            (gray_if (colour_in a.cycle m.birth) one.passes))

    split : (cycle : Option Cycle) → a.cycle ≡ cycle → IfSome cycle (IsColoured a) → IsNext a ⊎ IsNothingGray a
    split None e h =
        lone (λ m lives gray.
        record { birth = m.birth; object = m.object; may = record { lives = lives; gray = gray; turn = none m.birth } })
      where
        none : (birth : ℕ) → IfSome a.cycle (λ cycle. IsTrue (may_continue cycle.partly_scanned birth))
        none birth =
            subst (λ c. IfSome c (λ (cycle : Cycle). IsTrue (may_continue cycle.partly_scanned birth))) (sym e) tt
    split (Some cycle) e h = partly cycle.partly_scanned refl h.partly_scanned
      where
        turn : (birth : ℕ) → IsTrue (may_continue cycle.partly_scanned birth)
            → IfSome a.cycle (λ cycle. IsTrue (may_continue cycle.partly_scanned birth))
        turn birth is =
            subst (λ c. IfSome c (λ (cycle : Cycle). IsTrue (may_continue cycle.partly_scanned birth))) (sym e) is

        partly : (p : Option PartlyScanned) → cycle.partly_scanned ≡ p → IfSome p (IsPartlyScanned a cycle)
            → IsNext a ⊎ IsNothingGray a
        partly None q k =
            lone (λ m lives gray.
            record {
              birth = m.birth;
              object = m.object;
              may = record {
                lives = lives;
                gray = gray;
                turn = turn m.birth (ap (λ p. may_continue p m.birth) q);
              };
            })
        partly (Some p) q k =
            inl (record {
              birth = p.object;
              object = k.object;
              may = record {
                lives = k.lives;
                gray = ap (λ c. colour_in c p.object) e ∙ k.gray;
                turn = turn p.object (ap (λ x. may_continue x p.object) q ∙ eq-eqb p.object p.object refl);
              };
            })

-- scans of a state that are enough
record IsScannedEnough (a : State) (k : ℕ) : Type 0 where
  births : List ℕ
  log : List Line
  state : State
  scanned : AreScanned a births log state
  enough : IsEnough k log state

-- the part that a line tells of, and the scans after it
enough-then : (line : Line) (log : List Line) (k : ℕ) (b : State) → cost line < k → IsEnough (k - cost line) log b
    → IsEnough k (line ∷ log) b
enough-then line log k b less (Nothing_asked none empty) = absurd (omega arith)
enough-then line [] k b less (Cost_reached reached before) = absurd (omega arith)
enough-then line (next ∷ log) k b less (Cost_reached reached before) =
    let rest = take (length log) (costs (next ∷ log)) in
    let whole = sum_by-cons (λ (n : ℕ). n) (cost line) (costs (next ∷ log)) in
    let front = sum_by-cons (λ (n : ℕ). n) (cost line) rest in
    let fewer : length (next ∷ log) - 1 ≡ length log = omega arith in
    let count : length (line ∷ next ∷ log) - 1 ≡ suc (length log) = omega arith in
    let behind : sum rest < k - cost line =
    subst (λ n. sum (take n (costs (next ∷ log))) < k - cost line) fewer before in
    let all : sum (cost line ∷ rest) < k = omega arith in
    Cost_reached (omega arith) (subst (λ n. sum (take n (cost line ∷ costs (next ∷ log))) < k) (sym count) all)
enough-then line log k b less (Nothing_left over none) =
    let whole = sum_by-cons (λ (n : ℕ). n) (cost line) (costs log) in
    Nothing_left (omega arith) none

scans_up_to : (fuel k : ℕ) (a : State) → IsGood a → k ≤ fuel → IsScannedEnough a k
scans_up_to fuel zero a good within =
    record { births = []; log = []; state = a; scanned = (refl, refl); enough = Nothing_asked refl refl }
scans_up_to zero (suc k) a good within = absurd (omega arith)
scans_up_to (suc fuel) (suc k) a good within =
    ⊎_elim
    (λ (next : IsNext a).
    let line = lines.Scan next.object.base (length (part_slots a next.birth next.object)) in
    let after = part_done a next.birth next.object in
    ⊎_elim
    (λ (less : cost line < suc k).
    let rest = scans_up_to fuel (suc k - cost line) after (part_is_good a next.birth next.object good next.may)
    (omega arith) in
    record {
      births = next.birth ∷ rest.births;
      log = line ∷ rest.log;
      state = rest.state;
      scanned = (next.object, rest.log, next.may, refl, rest.scanned);
      enough = enough-then line rest.log (suc k) rest.state less rest.enough;
    })
    (λ (most : suc k ≤ cost line).
    record {
      births = next.birth ∷ [];
      log = line ∷ [];
      state = after;
      scanned = (next.object, [], next.may, refl, (refl, refl));
      enough = Cost_reached (omega arith) (omega arith);
    })
    (cases_lt (cost line) (suc k)))
    (λ (none : IsNothingGray a).
    record { births = []; log = []; state = a; scanned = (refl, refl); enough = Nothing_left (omega arith) none })
    (next_or_none a good)

pub scans_exist : (a : State) (k : ℕ) → IsGood a → (log : List Line) × (b : State) × Scans a k log b
scans_exist a k good =
    let found = scans_up_to k k a good (omega arith) in (
      found.log,
      found.state,
      record { births = found.births; scanned = found.scanned; enough = found.enough },
    )
