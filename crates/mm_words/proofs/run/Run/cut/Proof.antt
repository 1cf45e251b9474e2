-- `cut` hands out the front of a run and the rest of it. Assumes `Logic`.
use Rattle.std.proofs.Common.{◌≡◌, ◌+◌, ◌-◌, ◌≤◌, List, [], ◌∷◌, ◌++◌, take, refl, ap, ◌∙◌, arith}
use lib.ListN.{length-take}
use mir.Syntax.{Fn}
use mir.Val.{Val, vint, vptr}
use base.Logic.{SProp, emp}
use prog.Wp.{Env, WpFn}
use contract.Monad.{fact, fact_i}
use contract.Running.{tables}
use types.Kit.{
  ‵,
  raw,
  ◌⊛◌,
  prop,
  at_ret,
  ◌$◌,
  ◌∵◌,
  !,
  qed,
  by,
  move,
  drop,
  use0,
  use1,
  use2,
  split,
  join,
  regoal,
  fsplit,
  fjoin,
}
use types.Part.{whole, sub, agg}
use types.Run.{stop, fld, of_opd, lit, bin, un, no_more, and_then, first, blocks, exec, returns, enter}
use types.ByLocal.{alloc_all, pass_all, free_all, look_at, get, get_in, sets, sets_last, env, is}
use denote.RattleType.{owns}
use denote.RawPtr.{Ptr}
use denote.Signature.{types_at}
use denote.Steps.{nothing, heard}
use denote.Struct.Tuple.{Tuple}
use denote.Triple.Entry.{alive}
use denote.Triple.Walked.{Stays, stay_dropped, walk_of, Goes-dropped}
use Rattle.core.proofs.alloc.Calls.{Goes-blank}
use Rattle.core.proofs.alloc.Shapes.{after}
use Rattle.std_alloc.proofs.Pairs.{pair_of, pair_val}
use Rattle.std.proofs.raw_atomic.Walks.{proved_at, leaves}
use Rattle.mm_words.proofs.Values.{slot_at, run_val, run_own, run_told, run_made}
use Rattle.mm_words.proofs.Runs.{run_cut}
use Rattle.mm_words.specs.Ownership.{run_owns, at_place}
use Rattle.mm_words.specs.contracts.run.Run as runs
use Rattle.mm_words.specs.contracts.run.Run.cut.{ended, clauses}
use Rattle.mm_words.specs.contracts.run.Run.cut.Key.{name as #self}
use Rattle.mm_words.proofs.run.Run.cut.Statement.{statement}
use Rattle.mm_words.proofs.run.Run.cut.Code as compiled

pub cut_spec : {M : Type 1} → statement M
cut_spec 𝓤 𝓛 𝓜 𝓡 wired =
    let H = 𝓛.H in
    let c = clauses 𝓛 𝓜.mem 𝓡.returns in
    let fn : Fn = compiled.function in
    let stays : Stays ended.signature.params ended.kept = (
      stay_dropped
          (slot_at 0 ended.signature.params) ended.kept.0,
      (
        stay_dropped
            (slot_at 1 ended.signature.params) ended.kept.1.0,
        tt,
      ),
    ) in
    let C = (tables 𝓤 H 𝓜 𝓡 𝓡.env).C in
    let Λ = (tables 𝓤 H 𝓜 𝓡 𝓡.env).Λ in
    proved_at 𝓛 ended stays c 𝓜 𝓡 (
      Goes-blank 𝓛 0 (slot_at 0 ended.signature.params) ended.kept.0 (λ κs x f. tt),
      (Goes-dropped 𝓛 0 (slot_at 1 ended.signature.params) ended.kept.1.0 (λ κs x f. refl), tt),
    ) #self fn
    (compiled.unfolded 𝓤 H 𝓜 𝓡 wired) (λ z are.
    let Post : Val → SProp 𝓤 = (walk_of 𝓛 ended stays c).post z in
    let x = z.0.3.0 in
    let n = z.0.3.1.0 in
    let vss = z.0.4 in
    let p : Ptr = at_place x.arena x.place in
    let next : Ptr = at_place x.arena (x.place + n) in
    let run = run_told x.ptr x.len vss.0 are.0.0 in
    let told : vss.0 ≡ run_val p x.len ∷ [] = run.0 ∙ ap (λ (r : Ptr). run_val r x.len ∷ []) x.lies in
    let fits = run.1 in
    let small = are.1.0.1 in
    let Asked : Type 0 = n ≤ x.len in
    qed 𝓛 ((raw (alive 𝓛 ended.signature z.0.0 z.0.1) ⊛ ‵ (owns
    (types_at ended.signature.params z.0.0) z.0.3 vss)) ∷ raw (fact 𝓤 Asked) ∷ []) ∵ move ! (1 ∷ []) $
    heard ! Asked (λ asked. split ! $ move ! (1 ∷ []) $
    fsplit ! $ fsplit ! $ drop ! $ move ! (1 ∷ []) $ drop ! $
    regoal ! (λ (us : List Val). prop (WpFn 𝓤 H C Λ fn us Post)) (λ i. told i ++ (are.1.0.0 i ++ [])) refl $
    enter ! C Λ fn (run_val p x.len ∷ vint _ n ∷ []) Post $
    alloc_all ! (λ l. pass_all ! refl (
      (tt, (tt, (record { fits = fits }, tt))),
      ((tt, record { fits = small }), tt),
    ) $ let En : Env 𝓤 𝓛.H = env fn.locals l in
    sets ! (of_opd ! (get_in ! (fld ! refl (stop !)) (sub ! 0 refl (whole !)))) refl (tt, tt) $
    sets ! (of_opd ! (get_in ! (fld ! refl (stop !)) (sub ! 1 refl (whole !)))) refl (tt, record { fits = fits }) $
    first ! $ blocks ! $
    sets ! (un ! (get ! refl) (record { fits = omega arith })) refl (tt, record { fits = omega arith }) $
    sets ! (bin ! (get ! refl) (lit ! tt) (omega arith)) refl (tt, record { fits = omega arith }) $
    sets_last ! (is ! (bin ! (get ! refl) (get ! refl) tt) (ap (vptr x.arena.block) (omega arith))) refl (tt, tt) $
    exec ! C Λ En (after 3 fn.body) (at_ret En Post) $
    sets ! (of_opd ! (get ! refl)) refl (tt, tt) $
    sets ! (bin ! (get ! refl) (get ! refl) asked) refl (tt, record { fits = omega arith }) $
    sets ! (agg ! (and_then ! (get ! refl) (and_then ! (get ! refl)
    (no_more !)))) refl (tt, (tt, (record { fits = omega arith }, tt))) $
    sets ! (of_opd ! (get ! refl)) refl (tt, (tt, (record { fits = omega arith }, tt))) $
    sets ! (agg ! (and_then ! (get ! refl) (and_then ! (get ! refl)
    (no_more !)))) refl (tt, (tt, (record { fits = small }, tt))) $
    sets ! (agg ! (and_then ! (get ! refl) (and_then ! (get ! refl)
    (no_more !)))) refl (tt, ((tt, (record { fits = omega arith }, tt)), ((tt, (record { fits = small }, tt)), tt))) $
    returns ! (look_at ! 0 refl) $ free_all ! refl $
    let left : (runs.the_row).Denot = record {
      ptr = next;
      len = x.len - n;
      arena = x.arena;
      place = x.place + n;
      words
          = [];
      lies = refl;
      within = omega arith;
    } in
    let front : (runs.the_row).Denot = record {
      ptr = p;
      len = n;
      arena = x.arena;
      place = x.place;
      words = take n
          x.words;
      lies = refl;
      within = omega (arith, length-take n x.words);
    } in
    let Left : Type 0 = (x.arena ≡ x.arena) × (x.place + n ≡ x.place + n) × (x.len - n ≡ x.len - n) ×
    (◌≡◌ {A = List _} left.words []) in
    let Front : Type 0 = (x.arena ≡ x.arena) × (x.place ≡ x.place) × (n ≡ n) × (take n x.words ≡ take n x.words) in
    use1 𝓛 (‵ (run_owns x.arena x.place n (take n x.words)) ⊛ ‵ (run_owns x.arena (x.place + n) (x.len - n) []))
    (run_cut 𝓛 x.arena x.place x.len n x.words x.within asked) $ split ! $ move ! (1 ∷ []) $
    use0 𝓛 (‵ (run_own next (x.len - n) (run_val next (x.len - n) ∷ []))) (run_made 𝓛 next (x.len - n)
    (omega arith)) $ fjoin ! $ move ! (1 ∷ []) $
    use0 𝓛 (‵ (run_own p n (run_val p n ∷ []))) (run_made 𝓛 p n small) $ fjoin ! $ move ! (1 ∷ 0 ∷ []) $
    use2 𝓛 (‵ ((Tuple (runs.the_row ∷ runs.the_row ∷ [])).own_val (left, front) (pair_val (run_val next (x.len - n))
    (run_val p n) ∷ []))) (pair_of 𝓛 runs.the_row runs.the_row left front (run_val next (x.len - n)) (run_val p n)) $
    use0 𝓛 (raw (fact 𝓤 Front)) (fact_i 𝓤 Front (emp 𝓤) (refl, refl, refl, refl)) $
    use0 𝓛 (raw (fact 𝓤 Left)) (fact_i 𝓤 Left (emp 𝓤) (refl, refl, refl, refl)) $ join ! $
    nothing ! $ nothing ! $ fjoin ! $ nothing ! $ fjoin ! $ move ! (3 ∷ 0 ∷ 2 ∷ 1 ∷ []) $
    by ! (leaves 𝓛 ended stays c z (pair_val (run_val next (x.len - n)) (run_val p n)) (left, front) (tt, (tt, tt))
    (tt, (tt, tt))))))
