-- What a command other than `step` does and writes leaves no choice.
use Rattle.std.proofs.Common.{◌≡◌, ℕ, ◌<◌, Bool, true, false, ◌||◌, eqb-true, eq-eqb, List, [], ◌∷◌, ◌++◌, Option, Some}
use Rattle.std.proofs.Common.{None, refl, sym, ap, ◌∙◌, subst, ◌⊎◌, ⊎_elim, inl, inr, arith}
use Rattle.std.specs.Prelude.{◌==◌, ◌≢◌}
use Rattle.std.specs.List.{AllByRecursion}
use Rattle.mm_model.specs.Object.{Object}
use Rattle.mm_model.specs.State.{State, Lives}
use Rattle.std.proofs.lemmas.Option.{none-some, same_Some}
use Rattle.mm_model.specs.declared.command.Command.{Command}
use Rattle.mm_model.specs.declared.command.Command.TheVariants as commands
use Rattle.mm_model.specs.declared.refusal.Refusal.{Refusal}
use Rattle.mm_model.specs.declared.line.Line.{Line}
use Rattle.mm_model.specs.declared.line.Line.TheVariants as lines
use Rattle.mm_model.specs.declared.line.Phase.TheVariants.{Reap, Collect}
use Rattle.mm_model.specs.Places.SizeClass.{object_bytes, area_bytes}
use Rattle.mm_model.specs.Places.Place.{Family, Objects, Areas, live_pieces}
use Rattle.mm_model.specs.Good.{IsGood, IsPlaced}
use Rattle.mm_model.specs.Sets.Marking.{IsFreedAtFinish}
use Rattle.mm_model.specs.Sets.Reapable.{IsReapable}
use Rattle.mm_model.specs.Sets.Reached.{IsUnreached}
use Rattle.mm_model.specs.Phase.{lists, IsAscending, AreBasesOf, AreReaped, AreCollected, phase_lines, reaped}
use Rattle.mm_model.specs.Places.Search.{place_grown, Searches, At_once, After_reap, After_collection}
use Rattle.mm_model.specs.Effect.{Effect, new_effect, weak_effect, area_effect, pushes_object, plain_effect}
use Rattle.mm_model.specs.Refusing.{refusal}
use Rattle.mm_model.specs.Step.{Makes, IsPlain, MakesWeak, MakesWeakOf, Reaps, Carries, is_full, Ends, Refused_as_full}
use Rattle.mm_model.specs.Step.{Below_threshold, At_threshold, IsCarriedOut, IsStepUnless, IsStep}
use Rattle.mm_model.specs.After.{Row, row_after}
use Rattle.mm_model.proofs.Steps.Determining.{row_as, row-is}
use Rattle.mm_model.proofs.Lists.Truth.{no_other}
use Rattle.mm_model.proofs.Places.Placing.{some_with}

-- what stands in a list that begins with a base
listed : (x : ℕ) (xs : List ℕ) (base : ℕ) → lists (x ∷ xs) base ≡ true → (x ≡ base) ⊎ (lists xs base ≡ true)
listed x xs base e =
    let split : (b : Bool) → (x == base) ≡ b → (b || lists xs base) ≡ true → (x ≡ base) ⊎ (lists xs base ≡ true) =
    elim [ true ↦ λ h _. inl (eqb-true _ _ h) | false ↦ λ _ h. inr h ] in
    split (x == base) refl e

listed-first : (x : ℕ) (xs : List ℕ) → lists (x ∷ xs) x ≡ true
listed-first x xs = ap (λ b. b || lists xs x) (eq-eqb x x refl)

listed-later : (x : ℕ) (xs : List ℕ) (base : ℕ) → lists xs base ≡ true → lists (x ∷ xs) base ≡ true
listed-later x xs base e =
    let split : (b : Bool) → (b || lists xs base) ≡ true = elim [ true ↦ refl | false ↦ e ] in
    split (x == base)

later-above : (x : ℕ) (xs : List ℕ) → AllByRecursion (λ y. x < y) xs → (base : ℕ) → lists xs base ≡ true → x < base
later-above x xs above base e =
    let found = some_with (λ y. y == base) (λ y. x < y) xs e above in
    subst (λ y. x < y) (eqb-true _ _ found.1) found.2

-- two ascending lists of the same numbers are one
ascending-same : (xs ys : List ℕ) → IsAscending xs → IsAscending ys
    → ((base : ℕ) → lists xs base ≡ true → lists ys base ≡ true)
    → ((base : ℕ) → lists ys base ≡ true → lists xs base ≡ true) → xs ≡ ys
ascending-same [] [] p q f g = refl
ascending-same [] (y ∷ ys) p q f g = let none : false ≡ true = g y (listed-first y ys) in cc
ascending-same (x ∷ xs) [] p q f g = let none : false ≡ true = f x (listed-first x xs) in cc
ascending-same (x ∷ xs) (y ∷ ys) p q f g =
    let same : x ≡ y =
    ⊎_elim (λ (e : y ≡ x). sym e)
    (λ (there : lists ys x ≡ true).
    ⊎_elim (λ (e : x ≡ y). e)
    (λ (here : lists xs y ≡ true).
    absurd (omega (arith, later-above x xs p.0 y here, later-above y ys q.0 x there)))
    (listed x xs y (g y (listed-first y ys))))
    (listed y ys x (f x (listed-first x xs))) in
    let rest : xs ≡ ys =
    ascending-same xs ys p.1 q.1
    (λ base h.
    ⊎_elim (λ (e : y ≡ base). absurd (omega (arith, later-above x xs p.0 base h, same, e)))
    (λ (k : lists ys base ≡ true). k) (listed y ys base (f base (listed-later x xs base h))))
    (λ base h.
    ⊎_elim (λ (e : x ≡ base). absurd (omega (arith, later-above y ys q.0 base h, same, e)))
    (λ (k : lists xs base ≡ true). k) (listed x xs base (g base (listed-later y ys base h)))) in
    ap (λ (n : ℕ). n ∷ xs) same ∙ ap (λ (zs : List ℕ). y ∷ zs) rest

module _ (a : State) (Dead : ℕ → Type 0) where
  listed_in_both : (xs ys : List ℕ) → AreBasesOf a Dead xs → AreBasesOf a Dead ys → (base : ℕ)
      → lists xs base ≡ true → lists ys base ≡ true
  listed_in_both xs ys p q base h =
      let found = some_with (λ b. b == base)
      (λ b. (n : ℕ) × (o : Object) × Lives a n o × (o.base ≡ b) × Dead n) xs h p.only in
      let own = found.2 in
      let here : own.1.base ≡ base = own.3 ∙ eqb-true _ _ found.1 in
      subst (λ b. lists ys b ≡ true) here (q.all own.0 own.1 own.2 own.4)

  -- a set has one list of bases
  pub bases-same : (xs ys : List ℕ) → AreBasesOf a Dead xs → AreBasesOf a Dead ys → xs ≡ ys
  bases-same xs ys p q =
      ascending-same xs ys p.ascending q.ascending (listed_in_both xs ys p q) (listed_in_both ys xs q p)

module _ (a : State) (family : Family) (bytes : ℕ) where
  after_same : (dead gone : List ℕ) → AreReaped a dead → AreReaped a gone
      → place_grown (reaped dead a) family bytes ≡ place_grown (reaped gone a) family bytes
  after_same dead gone are also =
      ap (λ (bases : List ℕ). place_grown (reaped bases a) family bytes)
      (bases-same a (IsReapable a) dead gone are also)

  -- a search writes the same lines each time
  search-same : (log other : List Line) (b c : State) (found again : Option ℕ) → Searches a family bytes log b found
      → Searches a family bytes other c again → log ≡ other
  search-same log other b c found again (At_once base here none _ _) (At_once next there nothing _ _) =
      none ∙ sym nothing
  search-same log other b c found again (At_once base here _ _ _) (After_reap _ _ there _ _ _ _ _) =
      absurd (none-some base (sym there ∙ here))
  search-same log other b c found again (At_once base here _ _ _) (After_collection _ _ there _ _ _ _ _ _) =
      absurd (none-some base (sym there ∙ here))
  search-same log other b c found again (After_reap _ _ here _ _ _ _ _) (At_once base there _ _ _) =
      absurd (none-some base (sym here ∙ there))
  search-same log other b c found again (After_reap _ dead _ are _ is _ _) (After_reap _ gone _ also _ is_too _ _) =
      is ∙ ap (phase_lines Reap a) (bases-same a (IsReapable a) dead gone are also) ∙ sym is_too
  search-same log other b c found again (After_reap base dead _ are here _ _ _)
      (After_collection gone _ _ also there _ _ _ _) =
      absurd (none-some base (sym there ∙ after_same gone dead also are ∙ here))
  search-same log other b c found again (After_collection _ _ here _ _ _ _ _ _) (At_once base there _ _ _) =
      absurd (none-some base (sym here ∙ there))
  search-same log other b c found again (After_collection dead _ _ are here _ _ _ _)
      (After_reap base gone _ also there _ _ _) =
      absurd (none-some base (sym here ∙ after_same dead gone are also ∙ there))
  search-same log other b c found again (After_collection dead lost _ are _ left is _ _)
      (After_collection gone more _ also _ left_too is_too _ _) =
      let first = bases-same a (IsReapable a) dead gone are also in
      let second : lost ≡ more =
      bases-same (reaped dead a) (IsUnreached (reaped dead a)) lost more left
      (subst (λ (ds : List ℕ). AreCollected (reaped ds a) more) (sym first) left_too) in
      is ∙ ap (λ (ls : List ℕ). phase_lines Reap a dead ++ phase_lines Collect (reaped dead a) ls) second
      ∙ ap (λ (ds : List ℕ). phase_lines Reap a ds ++ phase_lines Collect (reaped ds a) more) first ∙ sym is_too

reap-same : (a : State) (log other : List Line) (b c : State) → Reaps a log b → Reaps a other c → log ≡ other
reap-same a log other b c p q =
    p.log_is ∙ ap (phase_lines Reap a) (bases-same a (IsReapable a) p.dead q.dead p.reapable q.reapable) ∙ sym q.log_is

makes-same : (a : State) (family : Family) (bytes : ℕ) (then : State → Option ℕ → Effect) (log other : List Line)
    (effect again : Effect) → Makes a family bytes then log effect → Makes a family bytes then other again
    → log ≡ other
makes-same a family bytes then log other effect again m n =
    search-same a family bytes log other m.state n.state m.found n.found m.search n.search

plain-same : (log other : List Line) (effect again is : Effect) → IsPlain log effect is → IsPlain other again is
    → log ≡ other
plain-same log other effect again is p q = p.no_lines ∙ sym q.no_lines

weak-same : (a : State) (target : ℕ) (partner : Option ℕ) (log other : List Line) (effect again : Effect)
    → MakesWeak a target partner log effect → MakesWeak a target partner other again → log ≡ other
weak-same a target (Some weak) log other effect again p q =
    plain-same log other effect again (pushes_object a weak) p q
weak-same a target None log other effect again p q =
    makes-same a Objects (object_bytes 0) (λ b found. weak_effect b target found) log other effect again p q

weak_of-same : (a : State) (i : ℕ) (log other : List Line) (effect again : Effect) → MakesWeakOf a i log effect
    → MakesWeakOf a i other again → log ≡ other
weak_of-same a i log other effect again p q =
    let target : q.target ≡ p.target = same_Some _ _ (sym q.target_is ∙ p.target_is) in
    let object : q.object ≡ p.object = same_Some _ _ (sym q.object_is ∙ p.object_is) in
    weak-same a p.target p.object.partner log other effect again p.makes
    (subst (λ (o : Object). MakesWeak a p.target o.partner other again) object
    (subst (λ (n : ℕ). MakesWeak a n q.object.partner other again) target q.makes))

-- each command's row writes the same lines each time
row-same : (a : State) (command : Command) (log other : List Line) (effect again : Effect)
    → ((k : ℕ) → command ≢ commands.Step k) → Carries a command log effect → Carries a command other again
    → log ≡ other
row-same a (commands.New shape) log other effect again not_step p q =
    makes-same a Objects (object_bytes shape.slots) (λ b found. new_effect b shape found) log other effect again p q
row-same a (commands.Weak i) log other effect again not_step p q = weak_of-same a i log other effect again p q
row-same a (commands.Root counted cells) log other effect again not_step p q =
    makes-same a Areas (area_bytes cells) (λ b found. area_effect b true counted cells found) log other effect again p q
row-same a (commands.Fixed cells) log other effect again not_step p q =
    makes-same a Areas (area_bytes cells) (λ b found. area_effect b false 0 cells found) log other effect again p q
row-same a commands.Reap log other effect again not_step p q = reap-same a log other effect.state again.state p.0 q.0
row-same a commands.Collect log other effect again not_step p q =
    let bases = bases-same a (IsUnreached a) p.0.lost q.0.lost p.0.unreached q.0.unreached in
    p.0.log_is ∙ ap (phase_lines Collect a) bases ∙ sym q.0.log_is
row-same a commands.Finish log other effect again not_step p q =
    let bases = bases-same a (IsFreedAtFinish a) p.0.lost q.0.lost p.0.unmarked q.0.unmarked in
    p.0.log_is ∙ ap (phase_lines Collect a) bases ∙ sym q.0.log_is
row-same a (commands.Step k) log other effect again not_step p q = absurd (not_step k refl)
row-same a command log other effect again not_step p q =
    plain-same log other effect again (plain_effect a command) p q

-- and so does its end
end-same : (a : State) (full : Bool) (log other : List Line) (b c : State) → Ends a full log b → Ends a full other c
    → log ≡ other
end-same a full log other b c (Refused_as_full _ none _) (Refused_as_full _ nothing _) = none ∙ sym nothing
end-same a full log other b c (Refused_as_full _ none _) (Below_threshold _ _ nothing _) = none ∙ sym nothing
end-same a full log other b c (Refused_as_full is _ _) (At_threshold not_full _ _) = absurd (no_other not_full is)
end-same a full log other b c (Below_threshold _ _ none _) (Refused_as_full _ nothing _) = none ∙ sym nothing
end-same a full log other b c (Below_threshold _ _ none _) (Below_threshold _ _ nothing _) = none ∙ sym nothing
end-same a full log other b c (Below_threshold _ below _ _) (At_threshold _ reached _) = absurd (omega arith)
end-same a full log other b c (At_threshold not_full _ _) (Refused_as_full is _ _) = absurd (no_other not_full is)
end-same a full log other b c (At_threshold _ reached _) (Below_threshold _ below _ _) = absurd (omega arith)
end-same a full log other b c (At_threshold _ _ p) (At_threshold _ _ q) = reap-same a log other b c p q

carried_out-same : (a : State) (command : Command) (group other : List Line) (b c : State)
    → IsPlaced a.settings.max (live_pieces a) → ((k : ℕ) → command ≢ commands.Step k)
    → IsCarriedOut a command group b → IsCarriedOut a command other c → group ≡ other
carried_out-same a command group other b c placed not_step p q =
    let log : p.log ≡ q.log = row-same a command p.log q.log p.effect q.effect not_step p.carries q.carries in
    let row : row_as p.effect [] ≡ row_as q.effect [] =
    sym (row-is a command p.log [] p.effect placed p.carries refl)
    ∙ ap (λ (lines : List Line). row_after a command (lines ++ [])) log
    ∙ row-is a command q.log [] q.effect placed q.carries refl in
    let effect : p.effect ≡ q.effect = ap (λ (r : Row). r.effect) row in
    let end : p.end_log ≡ q.end_log =
    end-same q.effect.state (is_full q.effect.reply) p.end_log q.end_log p.end q.end
    (subst (λ (e : Effect). Ends e.state (is_full e.reply) p.end_log p.end) effect p.ends) q.ends in
    p.group_is
    ∙ ap (λ (log : List Line). log ++ p.end_log ++ lines.Reply p.effect.reply ∷ []) log
    ∙ ap (λ (log : List Line). q.log ++ log ++ lines.Reply p.effect.reply ∷ []) end
    ∙ ap (λ (e : Effect). q.log ++ q.end_log ++ lines.Reply e.reply ∷ []) effect ∙ sym q.group_is

group-same : (a : State) (command : Command) (group other : List Line) (b c : State)
    → IsPlaced a.settings.max (live_pieces a) → ((k : ℕ) → command ≢ commands.Step k) → (refused : Option Refusal)
    → IsStepUnless refused a command group b → IsStepUnless refused a command other c → group ≡ other
group-same a command group other b c placed not_step None p q =
    carried_out-same a command group other b c placed not_step p q
group-same a command group other b c placed not_step (Some because) p q = p.group_is ∙ sym q.group_is

pub only_step_chooses : (a : State) (command : Command) (group other : List Line) (b c : State) → IsGood a
    → ((k : ℕ) → command ≢ commands.Step k) → IsStep a command group b → IsStep a command other c → group ≡ other
only_step_chooses a command group other b c good not_step p q =
    group-same a command group other b c good.placed not_step (refusal a command) p q
