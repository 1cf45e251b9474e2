-- `open` hands the words of a run to a vector. Assumes `Logic`.
use Rattle.std.proofs.Common.{◌≡◌, ℕ, ◌+◌, ◌*◌, List, [], ◌∷◌, ◌++◌, length, refl, sym, ap, subst, ◌∙◌, arith}
use mir.Syntax.{Fn}
use mir.Val.{Val, vint}
use base.Logic.{SProp, emp}
use prog.Wp.{Env, WpFn}
use contract.Monad.{fact, fact_i}
use contract.Running.{tables}
use types.Kit.{
  ‵,
  raw,
  ◌⊛◌,
  later,
  some,
  given,
  prop,
  at_ret,
  ◌$◌,
  ◌∵◌,
  !,
  qed,
  by,
  move,
  drop,
  use0,
  use1,
  use2,
  split,
  join,
  pick,
  learn,
  await,
  rewrite,
  regoal,
  fsplit,
  fjoin,
}
use types.Part.{whole, sub, agg}
use types.Run.{stop, fld, of_opd, un, no_more, and_then, first, blocks, exec, returns, enter}
use types.ByLocal.{alloc_all, pass_all, free_all, look_at, get, get_in, sets, lands_last, env}
use denote.Builtin.{u32}
use denote.Param.{layout}
use denote.RattleType.{owns}
use denote.RawPtr.{Ptr}
use denote.Signature.{types_at}
use denote.Steps.{nothing, heard, only}
use denote.Struct.Struct.{as_fields}
use denote.Struct.Tuple.{Tuple}
use denote.Triple.Call.{calls_at_last}
use denote.Triple.Entry.{alive}
use denote.Triple.Walked.{Stays, stay_dropped, walk_of, Goes-dropped}
use Rattle.core.proofs.alloc.Calls.{Goes-blank}
use Rattle.core.proofs.alloc.Shapes.{after}
use Rattle.core.proofs.atomic.Steps.{fm}
use Rattle.core.proofs.mem.Timeless.{timeless, timeless_laws}
use Rattle.std_alloc.proofs.Pairs.{pair_of, pair_val}
use Rattle.std_alloc.proofs.vec.lodge.Met as lodge_met
use Rattle.std_alloc.specs.declared.vec.Vec.{Vec}
use Rattle.std_alloc.specs.declared.vec.lodged.Lodged.{Lodged}
use Rattle.std_collections.proofs.TreeMemory.Lodging.{Good, Lodges, at_lodge, Lodged_as, lodge_gives, tells}
use Rattle.std.proofs.raw_atomic.Walks.{proved_at, leaves}
use Rattle.mm_words.proofs.Values.{slot_at, run_val, run_own, run_told, run_made}
use Rattle.mm_words.proofs.Runs.{word_laws, vector, lodges}
use Rattle.mm_words.proofs.Lodging.{Vector, vector_laws, lodge_goes}
use Rattle.std_alloc.specs.Vec.Ownership.{lodged}
use Rattle.mm_words.specs.Ownership.{word, debt, at_place}
use Rattle.mm_words.specs.Seated.{IsSeated}
use Rattle.mm_words.specs.contracts.loan.Loan as loan
use Rattle.mm_words.specs.contracts.run.Run.open.{ended, clauses}
use Rattle.mm_words.specs.contracts.run.Run.open.Key.{name as #self}
use Rattle.mm_words.proofs.run.Run.open.Statement.{statement}
use Rattle.mm_words.proofs.run.Run.open.Code as compiled

pub open_spec : {M : Type 1} → statement M
open_spec 𝓤 𝓛 𝓜 𝓡 wired =
    let H = 𝓛.H in
    let c = clauses 𝓛 𝓜.mem 𝓡.returns in
    let fn : Fn = compiled.function in
    let stays : Stays ended.signature.params ended.kept = (
      stay_dropped
          (slot_at 0 ended.signature.params) ended.kept.0,
      (
        stay_dropped
            (slot_at 1 ended.signature.params) ended.kept.1.0,
        tt,
      ),
    ) in
    let C = (tables 𝓤 H 𝓜 𝓡 𝓡.env).C in
    let Λ = (tables 𝓤 H 𝓜 𝓡 𝓡.env).Λ in
    proved_at 𝓛 ended stays c 𝓜 𝓡 (
      Goes-blank 𝓛 0 (slot_at 0 ended.signature.params) ended.kept.0 (λ κs x f. tt),
      (Goes-dropped 𝓛 0 (slot_at 1 ended.signature.params) ended.kept.1.0 (λ κs x f. refl), tt),
    ) #self fn
    (compiled.unfolded 𝓤 H 𝓜 𝓡 wired) (λ z are.
    let Post : Val → SProp 𝓤 = (walk_of 𝓛 ended stays c).post z in
    let x = z.0.3.0 in
    let k = z.0.3.1.0 in
    let n = x.len in
    let vss = z.0.4 in
    let p : Ptr = at_place x.arena x.place in
    let run = run_told x.ptr n vss.0 are.0.0 in
    let told : vss.0 ≡ run_val p n ∷ [] = run.0 ∙ ap (λ (r : Ptr). run_val r n ∷ []) x.lies in
    let fits = run.1 in
    let small = are.1.0.1 in
    let b = x.arena.block in
    let o = x.arena.start + 4 * x.place in
    let L = Lodges u32 𝓛 𝓜.mem 𝓡.returns in
    let y : L.Ghost = at_lodge u32 𝓛 𝓜.mem 𝓡.returns b o k n x.words in
    let Asked : Type 0 = k ≡ length x.words in
    qed 𝓛 ((raw (alive 𝓛 ended.signature z.0.0 z.0.1) ⊛ ‵ (owns
    (types_at ended.signature.params z.0.0) z.0.3 vss)) ∷ raw (fact 𝓤 Asked) ∷ []) ∵ move ! (1 ∷ []) $
    heard ! Asked (λ asked. split ! $ move ! (1 ∷ []) $
    fsplit ! $ fsplit ! $ drop ! $ move ! (1 ∷ []) $ drop ! $
    use1 𝓛 (‵ (vector 𝓛 x.arena x.place n x.words) ⊛ ‵ (debt x.arena x.place n))
    (lodges 𝓛 x.arena x.place n x.words fits) $ split ! $
    regoal ! (λ (us : List Val). prop (WpFn 𝓤 H C Λ fn us Post)) (λ i. told i ++ (are.1.0.0 i ++ [])) refl $
    enter ! C Λ fn (run_val p n ∷ vint _ k ∷ []) Post $
    alloc_all ! (λ l. pass_all ! refl (
      (tt, (tt, (record { fits = fits }, tt))),
      ((tt, record { fits = small }), tt),
    ) $ let En : Env 𝓤 𝓛.H = env fn.locals l in
    sets ! (of_opd ! (get_in ! (fld ! refl (stop !)) (sub ! 0 refl (whole !)))) refl (tt, tt) $
    sets ! (of_opd ! (get_in ! (fld ! refl (stop !)) (sub ! 1 refl (whole !)))) refl (tt, record { fits = fits }) $
    first ! $ blocks ! $
    sets ! (un ! (get ! refl) (record { fits = omega arith })) refl (tt, record { fits = omega arith }) $
    sets ! (un ! (get ! refl) (record { fits = omega arith })) refl (tt, record { fits = omega arith }) $
    rewrite ! 0 (λ (j : ℕ). ‵ (lodged word p j n x.words)) (sym asked) refl $
    use1 𝓛 (raw (L.pre y)) (lodge_goes 𝓛 𝓜.mem 𝓡.returns b o k n x.words asked (let w = x.within in
    omega arith) fits) $
    calls_at_last ! (fm 𝓛 𝓜 𝓡) L (lodge_met.met 𝓤 𝓛 𝓜 𝓡 (compiled.calls-std_alloc::vec::lodge 𝓡.env wired)
    (timeless u32) (timeless_laws u32 word_laws)) y (and_then ! (get ! refl) (and_then ! (get ! refl)
    (and_then ! (get ! refl) (no_more !)))) (λ v.
    use1 𝓛 (later (some (λ (r : Vec ℕ Lodged). given (Lodged_as u32 𝓛 𝓜.mem 𝓡.returns b o k n x.words r)
    (‵ (Vector.own_val r (v ∷ [])))))) (lodge_gives u32 𝓛 𝓜.mem 𝓡.returns b o k n x.words v) $ await ! tt $
    pick ! (λ r. learn ! (λ is.
    tells ! Vector vector_laws r (v ∷ []) (λ w e good. let good' : Good Vector v = subst (Good Vector)
    (sym (ap only e)) good in
    lands_last ! refl good' $ exec ! C Λ En (after 3 fn.body) (at_ret En Post) $
    sets ! (of_opd ! (get ! refl)) refl good' $
    sets ! (of_opd ! (get ! refl)) refl good' $
    sets ! (agg ! (and_then ! (get ! refl) (and_then ! (get ! refl)
    (no_more !)))) refl (tt, (tt, (record { fits = fits }, tt))) $
    sets ! (agg ! (and_then ! (get ! refl) (and_then ! (get ! refl)
    (no_more !)))) refl (as_fields (layout Vector ∷ layout loan.the_row ∷ []) (v ∷ run_val p n ∷ [])
    (good', ((tt, (tt, (record { fits = fits }, tt))), tt))) $
    returns ! (look_at ! 0 refl) $ free_all ! refl $
    let d : (loan.the_row).Denot = record { ptr = p; len = n; arena = x.arena; place = x.place; lies = refl } in
    let RowSaid : Type 0 = (r.items ≡ x.words) × (r.len ≡ k) × IsSeated r d in
    let LoanSaid : Type 0 = (x.arena ≡ x.arena) × (x.place ≡ x.place) × (n ≡ n) in
    rewrite ! 0 (λ (u : Val). ‵ (Vector.own_val r (u ∷ []))) (sym (ap only e)) refl $ move ! (1 ∷ []) $
    use0 𝓛 (‵ (run_own p n (run_val p n ∷ []))) (run_made 𝓛 p n fits) $ fjoin ! $ move ! (1 ∷ 0 ∷ []) $
    use2 𝓛 (‵ ((Tuple (Vector ∷ loan.the_row ∷ [])).own_val (r, d) (pair_val v (run_val p n) ∷ [])))
    (pair_of 𝓛 Vector loan.the_row r d v (run_val p n)) $
    use0 𝓛 (raw (fact 𝓤 LoanSaid)) (fact_i 𝓤 LoanSaid (emp 𝓤) (refl, refl, refl)) $
    use0 𝓛 (raw (fact 𝓤 RowSaid)) (fact_i 𝓤 RowSaid (emp 𝓤)
    (is.0, is.1, record { begins = is.3; room = is.2 })) $ join ! $
    nothing ! $ nothing ! $ fjoin ! $ nothing ! $ fjoin ! $ move ! (3 ∷ 0 ∷ 2 ∷ 1 ∷ []) $
    by ! (leaves 𝓛 ended stays c z (pair_val v (run_val p n)) (r, d) (tt, (tt, tt)) (tt, (tt, tt))))))))))
