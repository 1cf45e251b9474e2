-- A set of live objects that grows by one object after another, each of which joins those before it.
use Rattle.std.proofs.Common.{◌≡◌, ℕ, zero, suc, ◌+◌, ◌<◌, ◌≤◌, ◌==◌, slice_get, Bool, true, false, cond, not, ◌&&◌}
use Rattle.std.proofs.Common.{◌||◌, List, [], ◌∷◌, length, Option, Some, None, refl, sym, ap, ◌∙◌, subst, ⊎_elim}
use Rattle.std.proofs.Common.{eqb-true, arith}
use Rattle.std.specs.List.{list_any, list_all, find, count_by, AllByRecursion}
use Rattle.std.proofs.lemmas.Bool.{and_parts, or_cases, or_left, eq-eqb}
use Rattle.std.proofs.lemmas.List.Sums.{sum_by-cons, count_by-le-length}
use Rattle.mm_model.specs.Object.{Object, is_live}
use Rattle.mm_model.specs.State.{State, Lives}
use Rattle.mm_model.proofs.Lists.Growing.{find-Some, find-None}
use Rattle.mm_model.proofs.Decided.Members.{Numbered, numbered, living_from, living, has_birth, IsMember, each_from_all}
use Rattle.mm_model.proofs.Decided.Members.{all_from_each, at_live, each_living, any_implied, each_implied}

-- whether an object joins the members
abbrev pub Joining : Type 0
Joining = List Numbered → Numbered → Bool

-- the members, and up to so many more of the objects
abbrev pub grown : Joining → List Numbered → ℕ → List Numbered → List Numbered
grown joins all zero members = members
grown joins all (suc count) members =
    elim (find (λ m. not (has_birth members m.birth) && joins members m) all) [
      | None ↦ members
      | Some m ↦ grown joins all count (m ∷ members)
    ]

-- all that join
abbrev pub joined : Joining → State → List Numbered
joined joins a = grown joins (living a) (length a.objects) []

-- each live object that would join is a member
abbrev pub is_closed : Joining → State → List Numbered → Bool
is_closed joins a members = list_all (λ m. has_birth members m.birth || not (joins members m)) (living a)

found : {X : Type 0} (Q : X → Type 0) (test : X → Bool) (xs : List X) (x : X) → AllByRecursion Q xs
    → find test xs ≡ Some x → Q x × (test x ≡ true)
found Q test [] x h e = cc
found {X} Q test (y ∷ ys) x h e =
    let split : (b : Bool) → test y ≡ b → cond b (Some y) (find test ys) ≡ Some x → Q x × (test x ≡ true) =
    elim [
      | true ↦ λ p q.
          let same : y ≡ x = cc in
          (subst Q same h.0, subst (λ z. test z ≡ true) same p)
      | false ↦ λ p q. found Q test ys x h.1 q
    ] in
    split (test y) refl e

-- How many of the objects are no members. Each round that finds one makes them fewer, so as many rounds as there are
-- objects find all that join.
abbrev missing : List Numbered → List Numbered → ℕ
missing all members = count_by (λ m. not (has_birth members m.birth)) all

one_if-less : (b c : Bool) → (b ≡ true → c ≡ true) → cond b 1 0 ≤ cond c 1 0
one_if-less true true h = omega arith
one_if-less true false h = let clash = h refl in cc
one_if-less false true h = omega arith
one_if-less false false h = omega arith

one_if : (b : Bool) → b ≡ true → ◌≡◌ {A = ℕ} (cond b 1 0) 1
one_if true e = refl
one_if false e = cc

none_if : (b : Bool) → b ≡ false → ◌≡◌ {A = ℕ} (cond b 1 0) 0
none_if true e = cc
none_if false e = refl

module _ {X : Type 0} (kept left : X → Bool) (less : (x : X) → left x ≡ true → kept x ≡ true) where
  count-less : (xs : List X) → count_by left xs ≤ count_by kept xs
  count-less [] = omega arith
  count-less (x ∷ xs) =
      let rest = count-less xs in
      let before = sum_by-cons (λ y. cond (kept y) 1 0) x xs in
      let after = sum_by-cons (λ y. cond (left y) 1 0) x xs in
      let here = one_if-less (left x) (kept x) (less x) in
      omega arith

  -- where one that was kept is not left, fewer are left
  count-fewer : (test : X → Bool) (xs : List X) (x : X) → find test xs ≡ Some x → kept x ≡ true → left x ≡ false
      → count_by left xs < count_by kept xs
  count-fewer test [] x e k l = cc
  count-fewer test (y ∷ ys) x e k l =
      let before = sum_by-cons (λ z. cond (kept z) 1 0) y ys in
      let after = sum_by-cons (λ z. cond (left z) 1 0) y ys in
      let split : (b : Bool) → cond b (Some y) (find test ys) ≡ Some x
      → count_by left (y ∷ ys) < count_by kept (y ∷ ys) =
      elim [
        | true ↦ λ q.
            let same : y ≡ x = cc in
            let rest = count-less ys in
            let one = one_if (kept y) (ap kept same ∙ k) in
            let none = none_if (left y) (ap left same ∙ l) in
            omega arith
        | false ↦ λ q.
            let rest = count-fewer test ys x q k l in
            let here = one_if-less (left y) (kept y) (less y) in
            omega arith
      ] in
      split (test y) e

-- where none of the objects misses, each is a member
none_missing : (all members : List Numbered) → missing all members ≡ 0
    → AllByRecursion (λ m. has_birth members m.birth ≡ true) all
none_missing [] members e = tt
none_missing (m ∷ ms) members e =
    let whole = sum_by-cons (λ x. cond (not (has_birth members x.birth)) 1 0) m ms in
    let split : (b : Bool) → cond (not b) 1 0 + missing ms members ≡ 0 → (b ≡ true) × (missing ms members ≡ 0) =
    elim [ true ↦ λ q. (refl, omega arith) | false ↦ λ q. absurd (omega arith) ] in
    let parts = split (has_birth members m.birth) (sym whole ∙ e) in
    (parts.0, none_missing ms members parts.1)

module _ (joins : Joining) (all : List Numbered) where
  abbrev IsClosedOver : List Numbered → Type 0
  IsClosedOver members = AllByRecursion (λ m. (has_birth members m.birth || not (joins members m)) ≡ true) all

  closed-grown : (count : ℕ) (members : List Numbered) → missing all members ≤ count
      → IsClosedOver (grown joins all count members)
  closed-grown zero members few =
      each_implied (λ m. has_birth members m.birth ≡ true) _
      (λ m is. or_left (has_birth members m.birth) (not (joins members m)) is) all
      (none_missing all members (omega arith))
  closed-grown (suc count) members few =
      let test : Numbered → Bool = λ m. not (has_birth members m.birth) && joins members m in
      let split : (o : Option Numbered) → find test all ≡ o
      → IsClosedOver (elim o [ None ↦ members | Some m ↦ grown joins all count (m ∷ members) ]) =
      elim [
        | None ↦ λ p.
            each_implied (λ m. test m ≡ false) _
            (λ m is. either (has_birth members m.birth) (joins members m) is) all (find-None test all p)
        | Some m ↦ λ p.
            let here = find-Some test all m p in
            let parts = and_parts (not (has_birth members m.birth)) (joins members m) here.passes in
            let fewer = count-fewer (λ x. not (has_birth members x.birth)) (λ x. not (has_birth (m ∷ members) x.birth))
            (λ x. still (m.birth == x.birth) (has_birth members x.birth)) test all m p parts.0
            (ap (λ b. not (b || has_birth members m.birth)) (eq-eqb m.birth m.birth refl)) in
            closed-grown count (m ∷ members) (omega arith)
      ] in
      split (find test all) refl
    where
      either : (b c : Bool) → (not b && c) ≡ false → (b || not c) ≡ true
      either true c e = refl
      either false c e = ap not e

      still : (b c : Bool) → not (b || c) ≡ true → not c ≡ true
      still true c e = cc
      still false c e = e

few_living : (birth : ℕ) (objects : List Object) → length (living_from birth objects) ≤ length objects
few_living birth [] = omega arith
few_living birth (o ∷ os) =
    let rest = few_living (birth + 1) os in
    let split : (b : Bool)
    → length (cond b (numbered birth o ∷ living_from (birth + 1) os) (living_from (birth + 1) os)) ≤ length (o ∷ os) =
    elim [ true ↦ omega arith | false ↦ omega arith ] in
    split (is_live o)

-- all that joined are closed: no other live object would join them
pub joined_is_closed : (joins : Joining) (a : State) → is_closed joins a (joined joins a) ≡ true
joined_is_closed joins a =
    let most = few_living 0 a.objects in
    let some = count_by-le-length (λ (m : Numbered). not (has_birth [] m.birth)) (living a) in
    all_from_each (λ m. has_birth (joined joins a) m.birth || not (joins (joined joins a) m)) (living a)
    (closed-grown joins (living a) (length a.objects) [] (omega arith))

-- what holds of each object that joins such objects holds of each that joined
module _ (joins : Joining) (a : State) (In : ℕ → Type 0)
    (join : (members : List Numbered) (birth : ℕ) (object : Object) → AllByRecursion (IsMember a In) members
    → Lives a birth object → joins members (numbered birth object) ≡ true → In birth) where
  grown_each : (count : ℕ) (members : List Numbered) → AllByRecursion (IsMember a In) members
      → AllByRecursion (IsMember a In) (grown joins (living a) count members)
  grown_each zero members h = h
  grown_each (suc count) members h =
      let test : Numbered → Bool = λ m. not (has_birth members m.birth) && joins members m in
      let split : (o : Option Numbered) → find test (living a) ≡ o
      → AllByRecursion (IsMember a In)
      (elim o [ None ↦ members | Some m ↦ grown joins (living a) count (m ∷ members) ]) =
      elim [
        | None ↦ λ p. h
        | Some m ↦ λ p.
            let here = found (λ m. Lives a m.birth m.object) test (living a) m
            (each_living (λ m. Lives a m.birth m.object) a (λ birth object lives. lives)) p in
            let parts = and_parts (not (has_birth members m.birth)) (joins members m) here.1 in
            grown_each count (m ∷ members)
            (record { lives = here.0; in_set = join members m.birth m.object h here.0 parts.1 }, h)
      ] in
      split (find test (living a)) refl

  pub joined_each : AllByRecursion (IsMember a In) (joined joins a)
  joined_each = grown_each (length a.objects) [] tt

pub has_birth_if_closed : (joins : Joining) (a : State) (members : List Numbered)
    → is_closed joins a members ≡ true → (birth : ℕ) (object : Object) → Lives a birth object
    → joins members (numbered birth object) ≡ true → has_birth members birth ≡ true
has_birth_if_closed joins a members e birth object lives j =
    let here : (has_birth members birth || not (joins members (numbered birth object))) ≡ true =
    at_live (λ m. (has_birth members m.birth || not (joins members m)) ≡ true) a
    (each_from_all (λ m. has_birth members m.birth || not (joins members m)) (living a) e) birth object lives in
    ⊎_elim (λ (p : has_birth members birth ≡ true). p)
    (λ (p : not (joins members (numbered birth object)) ≡ true).
    let refuted : not true ≡ true = subst (λ b. not b ≡ true) j p in cc)
    (or_cases (has_birth members birth) (not (joins members (numbered birth object))) here)

-- Where an object passes and a member has its birth number, some member passes.
pub any_with_birth : (a : State) (In : ℕ → Type 0) (members : List Numbered) (test : Object → Bool) (birth : ℕ)
    (object : Object) → AllByRecursion (IsMember a In) members → Lives a birth object → test object ≡ true
    → has_birth members birth ≡ true → list_any (λ m. test m.object) members ≡ true
any_with_birth a In members test birth object h lives t e =
    any_implied (λ m. m.birth == birth) (λ m. test m.object) members
    (each_implied (IsMember a In) (λ m. (m.birth == birth) ≡ true → test m.object ≡ true)
    (λ m is same.
    let born : m.birth ≡ birth = eqb-true m.birth birth same in
    let there : slice_get a.objects birth ≡ Some m.object =
    subst (λ n. slice_get a.objects n ≡ Some m.object) born is.lives.is in
    let one : object ≡ m.object = one_some (slice_get a.objects birth) object m.object lives.is there in
    subst (λ o. test o ≡ true) one t)
    members h)
    e
  where
    one_some : (o : Option Object) (x y : Object) → o ≡ Some x → o ≡ Some y → x ≡ y
    one_some o x y p q = cc
