-- Tests of what a phase frees, and what they show.
use Rattle.std.proofs.Common.{◌≡◌, ℕ, ◌<◌, ◌==◌, nat_lt, Bool, true, false, not, ◌&&◌, ◌||◌, List, [], ◌∷◌, subst, ap}
use Rattle.std.proofs.Common.{⊎_elim, eqb-true, ltb-true}
use Rattle.std.specs.List.{list_any, list_all}
use Rattle.std.proofs.lemmas.Bool.{and_parts, and_from, or_cases, not_from_false, cases_Bool}
use Rattle.mm_model.specs.Object.{Object}
use Rattle.mm_model.specs.State.{State, Lives}
use Rattle.mm_model.specs.Words.{root_words}
use Rattle.mm_model.specs.Sets.Marking.{is_white, colour_in, with_grayed}
use Rattle.mm_model.specs.Phase.{lists, IsAscending, AreBasesOf, AreReaped, AreCollected, AreFinished}
use Rattle.mm_model.proofs.Decided.Members.{Numbered, numbered, living, has_birth, from_any, each_from_all}
use Rattle.mm_model.proofs.Decided.Members.{each_implied, at_live, each_living}
use Rattle.mm_model.proofs.Decided.Growth.{is_closed}
use Rattle.mm_model.proofs.Decided.Closures.{joins_reached, joins_kept, joins_reapable, reached_members, kept_members}
use Rattle.mm_model.proofs.Decided.Closures.{reapable_members, reached_from_member, member_from_reached}
use Rattle.mm_model.proofs.Decided.Closures.{kept_from_member, member_from_kept, reapable_from_member}
use Rattle.mm_model.proofs.Decided.Closures.{member_from_reapable, white_if}

abbrev pub is_ascending : List ℕ → Bool
is_ascending [] = true
is_ascending (base ∷ bases) = list_all (λ next. nat_lt base next) bases && is_ascending bases

ascending_from_test : (bases : List ℕ) → is_ascending bases ≡ true → IsAscending bases
ascending_from_test [] e = tt
ascending_from_test (base ∷ bases) e =
    let parts = and_parts (list_all (λ next. nat_lt base next) bases) (is_ascending bases) e in (
      each_implied (λ next. nat_lt base next ≡ true) (λ next. base < next) (λ next l. ltb-true base next l) bases
          (each_from_all (λ next. nat_lt base next) bases parts.0),
      ascending_from_test bases parts.1,
    )

-- a live object that passes has this base
abbrev has_base : State → (Numbered → Bool) → ℕ → Bool
has_base a test base = list_any (λ m. m.object.base == base && test m) (living a)

-- where the object passes, its base is listed
abbrev is_listed : (Numbered → Bool) → List ℕ → Numbered → Bool
is_listed test bases m = lists bases m.object.base || not (test m)

-- the bases are ascending, and those of exactly the live objects that pass
abbrev are_bases_of : State → (Numbered → Bool) → List ℕ → Bool
are_bases_of a test bases =
    is_ascending bases && (list_all (has_base a test) bases && list_all (is_listed test bases) (living a))

module _ (a : State) (Dead : ℕ → Type 0) (test : Numbered → Bool)
    (sound : (birth : ℕ) (object : Object) → Lives a birth object → test (numbered birth object) ≡ true → Dead birth)
    (complete : (birth : ℕ) (object : Object) → Lives a birth object → Dead birth
    → test (numbered birth object) ≡ true)
  where
    abbrev IsDeadAt : ℕ → Type 0
    IsDeadAt base = (birth : ℕ) × (object : Object) × Lives a birth object × (object.base ≡ base) × Dead birth

    dead_at : (base : ℕ) → has_base a test base ≡ true → IsDeadAt base
    dead_at base e =
        from_any (λ m. m.object.base == base && test m) (IsDeadAt base) (living a) e
        (each_living (λ m. (m.object.base == base && test m) ≡ true → IsDeadAt base) a
        (λ birth object lives t.
        let parts = and_parts (object.base == base) (test (numbered birth object)) t in
        (birth, object, lives, eqb-true object.base base parts.0, sound birth object lives parts.1)))

    bases_from_test : (bases : List ℕ) → are_bases_of a test bases ≡ true → AreBasesOf a Dead bases
    bases_from_test bases e =
        let parts = and_parts (is_ascending bases)
        (list_all (has_base a test) bases && list_all (is_listed test bases) (living a)) e in
        let sets = and_parts (list_all (has_base a test) bases) (list_all (is_listed test bases) (living a)) parts.1 in
        record {
          ascending = ascending_from_test bases parts.0;
          only = each_implied (λ base. has_base a test base ≡ true) IsDeadAt dead_at bases
              (each_from_all (has_base a test) bases sets.0);
          all = λ birth object lives dead.
              let here : is_listed test bases (numbered birth object) ≡ true =
              at_live (λ m. is_listed test bases m ≡ true) a (each_from_all (is_listed test bases) (living a) sets.1)
              birth object lives in
              ⊎_elim (λ (p : lists bases object.base ≡ true). p)
              (λ (p : not (test (numbered birth object)) ≡ true).
              let refuted : not true ≡ true = subst (λ b. not b ≡ true) (complete birth object lives dead) p in cc)
              (or_cases (lists bases object.base) (not (test (numbered birth object))) here);
        }

-- a reap frees the objects at these bases
abbrev reaps_among : State → List Numbered → List ℕ → Bool
reaps_among a members bases =
    is_closed (joins_reapable a) a members && are_bases_of a (λ m. has_birth members m.birth) bases

abbrev pub reaps : State → List ℕ → Bool
reaps a bases = reaps_among a (reapable_members a) bases

pub reaped_if : (a : State) (bases : List ℕ) → reaps a bases ≡ true → AreReaped a bases
reaped_if a bases e =
    let members = reapable_members a in
    let parts = and_parts (is_closed (joins_reapable a) a members)
    (are_bases_of a (λ m. has_birth members m.birth) bases) e in
    bases_from_test a _ (λ m. has_birth members m.birth) (λ birth object lives. reapable_from_member a birth)
    (λ birth object lives. member_from_reapable a parts.0 birth) bases parts.1

-- a full collection frees them
abbrev collects_among : State → List Numbered → List ℕ → Bool
collects_among a members bases =
    is_closed (joins_reached a) a members && are_bases_of a (λ m. not (has_birth members m.birth)) bases

abbrev pub collects : State → List ℕ → Bool
collects a bases = collects_among a (reached_members a) bases

pub collected_if : (a : State) (bases : List ℕ) → collects a bases ≡ true → AreCollected a bases
collected_if a bases e =
    let members = reached_members a in
    let parts = and_parts (is_closed (joins_reached a) a members)
    (are_bases_of a (λ m. not (has_birth members m.birth)) bases) e in
    bases_from_test a _ (λ m. not (has_birth members m.birth))
    (λ birth object lives p is.
    let refuted : not true ≡ true = subst (λ b. not b ≡ true) (member_from_reached a parts.0 birth is) p in cc)
    (λ birth object lives dead.
    ⊎_elim (λ (p : has_birth members birth ≡ true). absurd (dead (reached_from_member a birth p)))
    (λ (p : has_birth members birth ≡ false). not_from_false (has_birth members birth) p)
    (cases_Bool (has_birth members birth)))
    bases parts.1

-- the end of a cycle frees them, where the second state has what the roots name gray
abbrev is_unmarked : State → List Numbered → Numbered → Bool
is_unmarked g members m = is_white (colour_in g.cycle m.birth) && not (has_birth members m.birth)

abbrev finishes_among : State → State → List Numbered → List ℕ → Bool
finishes_among a g members bases =
    is_closed (joins_kept g) g members && are_bases_of a (is_unmarked g members) bases

abbrev pub finishes : State → List ℕ → Bool
finishes a bases = finishes_among a (with_grayed (root_words a) a) (kept_members (with_grayed (root_words a) a)) bases

pub finished_if : (a : State) (bases : List ℕ) → finishes a bases ≡ true → AreFinished a bases
finished_if a bases e =
    let g = with_grayed (root_words a) a in
    let members = kept_members g in
    let parts = and_parts (is_closed (joins_kept g) g members) (are_bases_of a (is_unmarked g members) bases) e in
    bases_from_test a _ (is_unmarked g members)
    (λ birth object lives p.
    let white = and_parts (is_white (colour_in g.cycle birth)) (not (has_birth members birth)) p in
    record {
      white = white_if (colour_in g.cycle birth) white.0;
      unmarked = λ is.
          let refuted : not true ≡ true =
          subst (λ b. not b ≡ true) (member_from_kept g parts.0 birth is) white.1 in cc;
    })
    (λ birth object lives dead.
    and_from (is_white (colour_in g.cycle birth)) (not (has_birth members birth)) (ap is_white dead.white)
    (⊎_elim (λ (p : has_birth members birth ≡ true). absurd (dead.unmarked (kept_from_member g birth p)))
    (λ (p : has_birth members birth ≡ false). not_from_false (has_birth members birth) p)
    (cases_Bool (has_birth members birth))))
    bases parts.1
