-- `make` lends the one block for a new lifetime, and takes all its words out of the loan. Assumes `Logic`.
use Rattle.std.proofs.Common.{◌≡◌, ℕ, ◌+◌, ◌-◌, ◌*◌, ◌^◌, List, [], ◌∷◌, ◌++◌, refl, ap, arith, lit<, w32, Ok, Err}
use mir.Syntax.{Ty, Fn, Args, a_type, dcons, dnil}
use mir.Val.{Val, vint, vptr, vcons, vnil, vstruct}
use mir.MapTy.{inst_fn}
use base.Logic.{SProp, emp, id⊢}
use base.Fml.{Lft, Share, ftrue, froom, flft, flent}
use prog.Capped.{capped_is}
use prog.Wp.{Env, WpFn}
use contract.BorrowLft.{◌⊑◌, ⊑_trans}
use contract.Monad.{fact, fact_i}
use contract.Running.{tables}
use types.Kit.{
  ‵,
  raw,
  ◌⊛◌,
  later,
  prop,
  at_ret,
  ◌$◌,
  ◌∵◌,
  !,
  qed,
  by,
  move,
  drop,
  use0,
  use1,
  use2,
  split,
  split3,
  join,
  rewrite,
  regoal,
  fsplit,
  fjoin,
  fjoin3,
  await,
}
use types.Part.{whole, agg}
use types.Match.{live, vrt, in_variant}
use types.Run.{stop, fld, lit, of_opd, un, bin, no_more, and_then, first, switches_on, exec, returns, enter}
use types.ByLocal.{alloc_all, pass_all, free_all, look_at, get, get_in, get_tag, sets, sets_last, lands_as, env}
use types.Tokens.{lft_new}
use denote.RattleType.{RattleType, owns}
use denote.RawPtr.{Ptr, block_ptr}
use denote.Param.{param, bounded}
use denote.Signature.{types_at, type_at}
use denote.Steps.{nothing, heard}
use denote.Struct.Tuple.{Tuple}
use denote.Triple.Entry.{alive}
use denote.Triple.Call.{calls_at}
use denote.Triple.Walked.{Stays, stay_dropped, walk_of, Goes-dropped}
use Rattle.core.proofs.alloc.Calls.{Al, seen, Takes, at_takes, Answered, Takes-goes, Takes-gives, answers}
use Rattle.core.proofs.alloc.Shapes.{after, head, arm_body}
use Rattle.core.proofs.atomic.Steps.{fm}
use Rattle.std_alloc.proofs.ResultValues.{ok_of, err_of}
use Rattle.std_alloc.proofs.Pairs.{pair_of, pair_val}
use Rattle.std.proofs.raw_atomic.Walks.{proved_at, leaves}
use Rattle.core.specs.contracts.alloc.AllocError as alloc_error
use Rattle.mm_words.proofs.Walks.{then_runs}
use Rattle.mm_words.proofs.Values.{
  plainly,
  slot_at,
  run_val,
  run_own,
  run_made,
  allocation_val,
  allocation_own,
  allocation_made,
  none_made,
}
use Rattle.mm_words.proofs.Debts.{opened}
use Rattle.mm_words.proofs.Runs.{run_blank}
use Rattle.mm_words.specs.Piece.{Name}
use Rattle.mm_words.specs.Ownership.{words_type, words_room, debt, parts, run_owns}
use Rattle.mm_words.specs.Runs.{IsRun}
use Rattle.mm_words.specs.contracts.allocation.Allocation as allocation
use Rattle.mm_words.specs.contracts.run.Run as runs
use Rattle.mm_words.specs.contracts.allocation.Allocation.make.{ended, clauses}
use Rattle.mm_words.specs.contracts.allocation.Allocation.make.Key.{name as #self}
use Rattle.mm_words.proofs.allocation.Allocation.make.Statement.{statement}
use Rattle.mm_words.proofs.allocation.Allocation.make.Code as compiled

pub make_spec : {M : Type 1} → statement M
make_spec 𝓤 𝓛 𝓜 𝓡 wired A L g d dd met md =
    let H = 𝓛.H in
    let En₀ = ended A g d dd in
    let c = clauses A g d dd 𝓛 𝓜.mem 𝓡.returns in
    let args : Args = bounded (a_type ∷ []) (A, tt) (dcons d (dcons dd dnil)) in
    let fn : Fn = inst_fn args compiled.function in
    let stays : Stays En₀.signature.params En₀.kept = (
      stay_dropped (slot_at 0 En₀.signature.params) En₀.kept.0,
      (stay_dropped (slot_at 1 En₀.signature.params) En₀.kept.1.0, tt),
    ) in
    let C = (tables 𝓤 H 𝓜 𝓡 𝓡.env).C in
    let Λ = (tables 𝓤 H 𝓜 𝓡 𝓡.env).Λ in
    proved_at 𝓛 En₀ stays c 𝓜 𝓡 (
      Goes-dropped 𝓛 2 (slot_at 0 En₀.signature.params) En₀.kept.0 (λ κs x f. refl),
      (Goes-dropped 𝓛 2 (slot_at 1 En₀.signature.params) En₀.kept.1.0 (λ κs x f. refl), tt),
    )
    (#self args) fn (compiled.unfolded 𝓤 H 𝓜 𝓡 wired (A, tt) d dd) (λ z are.
    let Post : Val → SProp 𝓤 = (walk_of 𝓛 En₀ stays c).post z in
    let vss = z.0.4 in
    let Y : Al = record { row = A; laws = L; g = g; d = d; drops = dd } in
    let κ : Lft = z.0.0.0 in
    let q : Share = z.0.1.0 in
    let Z : RattleType = param 0 A in
    let h = z.0.3.0.now in
    let at = z.0.3.0.ref_ptr in
    let n = z.0.3.1.0 in
    let small = are.1.0.1 in
    let τ : Ty = words_type n in
    let t = g.dealloc_token h in
    let y = at_takes Y 𝓛 𝓜.mem 𝓡.returns κ q at h (n * 4) 4 τ in
    let Out : RattleType = type_at En₀.signature.result z.0.0 in
    let Pair : RattleType = Tuple (runs.the_row ∷ allocation.the_row Z g ∷ []) in
    qed 𝓛 ((raw (alive 𝓛 En₀.signature z.0.0 z.0.1) ⊛ ‵ (owns (types_at En₀.signature.params z.0.0) z.0.3 vss)) ∷
    (raw (fact 𝓤 (z.0.0.1.0 ⊑ A.lives)) ⊛ ‵ ftrue) ∷ []) ∵
    move ! (1 ∷ []) $ split ! $ heard ! (z.0.0.1.0 ⊑ A.lives) (λ le. drop ! $ split ! $ move ! (1 ∷ []) $
    fsplit ! $ fsplit ! $ drop ! $ move ! (1 ∷ []) $ drop ! $ use1 𝓛 (‵ (seen Y κ at h)) (id⊢ 𝓤 _) $
    move ! (1 ∷ []) $ use1 𝓛 (‵ (flft κ q) ⊛ ‵ (flft z.0.0.1.0 z.0.1.1.0) ⊛ ‵ ftrue) (id⊢ 𝓤 _) $ split ! $
    move ! (2 ∷ 0 ∷ []) $
    regoal ! (λ (us : List Val). prop (WpFn 𝓤 H C Λ fn us Post)) (λ i. are.0.0 i ++ (are.1.0.0 i ++ [])) refl $
    enter ! C Λ fn (vptr at.0 at.1 ∷ vint w32 n ∷ []) Post $
    alloc_all ! (λ l. pass_all ! refl ((tt, tt), ((tt, record { fits = small }), tt)) $
    let En : Env 𝓤 𝓛.H = env fn.locals l in
    sets ! (un ! (get ! refl) (record { fits = omega arith })) refl (tt, record { fits = omega arith }) $
    sets ! (bin ! (get ! refl) (lit ! tt) (record { fits = omega arith })) refl (tt, record { fits = omega arith }) $
    use2 𝓛 (raw ((Takes Y 𝓛 𝓜.mem 𝓡.returns).pre y)) (Takes-goes Y 𝓛 𝓜.mem 𝓡.returns κ q at h
    (⊑_trans κ z.0.0.1.0 A.lives z.0.2.0 le) (n * 4) 4 τ (capped_is (n * 4) (omega arith)) refl (omega arith)
    (lit< tt)) $
    calls_at ! (fm 𝓛 𝓜 𝓡) (Takes Y 𝓛 𝓜.mem 𝓡.returns) (met.allocate dd) y (and_then ! (get ! refl)
    (and_then ! (get ! refl) (and_then ! (lit ! tt) (no_more !)))) (λ v.
    use1 𝓛 (later (raw (Answered Y 𝓛 𝓜.mem 𝓡.returns h τ v) ⊛ ‵ (flft κ q)))
    (Takes-gives Y 𝓛 𝓜.mem 𝓡.returns κ q at h (n * 4) 4 τ v) $ await ! tt $ split ! $
    answers Y ! 𝓜.mem 𝓡.returns h τ v
    (λ b o e. move ! (2 ∷ 3 ∷ []) $ join ! $ move ! (1 ∷ 2 ∷ []) $
    lands_as ! e refl (tt, (record { fits = lit< tt }, (tt, tt))) $
    lft_new ! tt (λ α. let a : Name = record { life = α; block = b; start = o } in
    let start : o ≡ o + 4 * 0 = omega arith in
    rewrite ! 1 (λ (j : ℕ). ‵ (froom τ b j)) start refl $ rewrite ! 2 (λ (j : ℕ). ‵ (t τ (block_ptr b j))) start refl $
    use2 𝓛 (later (‵ (words_room a 0 n) ⊛ ‵ (debt a 0 n) ⊛ ‵ (parts a (2 ^ 33 - n)) ⊛ ‵ (flent (α ∷ [])
    (words_room a 0 n)))) (opened 𝓛 a n small) $ await ! tt $ split ! $ move ! (1 ∷ []) $ split3 ! $
    move ! (3 ∷ 0 ∷ []) $
    use2 𝓛 (‵ (run_owns a 0 n [])) (run_blank 𝓛 a 0 n) $ move ! (1 ∷ 2 ∷ 3 ∷ []) $ fjoin3 ! $
    -- [the allocation; the run; the tokens]
    first ! $ switches_on ! (get_tag ! (vrt ! refl (fld ! refl (stop !))) (whole !)) $
    exec ! C Λ En (arm_body 0 (head (after 3 fn.body))) (then_runs 𝓛 C Λ En (after 4 fn.body) (at_ret En Post)) $
    sets ! (of_opd ! (get_in ! (vrt ! refl (fld ! refl (stop !)))
    (in_variant ! 0 0 refl refl (whole !)))) refl (tt, tt) $
    sets ! (of_opd ! (get ! refl)) refl (tt, tt) $
    sets ! (agg ! (no_more !)) refl (tt, tt) $
    sets ! (agg ! (and_then ! (get ! refl) (and_then ! (get ! refl)
    (no_more !)))) refl (tt, (tt, (record { fits = small }, tt))) $
    sets ! (agg ! (and_then ! (get ! refl) (and_then ! (get ! refl) (and_then ! (get ! refl)
    (no_more !))))) refl (tt, (tt, (record { fits = small }, (tt, tt)))) $
    sets ! (agg ! (and_then ! (get ! refl) (and_then ! (get ! refl)
    (no_more !)))) refl (tt, ((tt, (record { fits = small }, tt)), ((tt, (record { fits = small }, (tt, tt))), tt))) $
    sets_last ! (agg ! (and_then ! (lit ! tt) (and_then ! (get ! refl)
    (no_more !)))) refl (
      tt,
      (
        record { fits = lit< tt },
        (
          (
            (tt, (record { fits = small }, tt)),
            (
              (
                tt,
                (record { fits = small }, (tt, tt)),
              ),
              tt,
            ),
          ),
          tt,
        ),
      ),
    ) $
    exec ! C Λ En (after 4 fn.body) (at_ret En Post) $
    sets ! (of_opd ! (get ! refl)) refl (
      tt,
      (
        record { fits = lit< tt },
        (
          (
            (tt, (record { fits = small }, tt)),
            ((tt, (record { fits = small }, (tt, tt))), tt),
          ),
          tt,
        ),
      ),
    ) $
    returns ! (look_at ! 0 refl) $ free_all ! refl $
    let p : Ptr = block_ptr b o in
    let x : (runs.the_row).Denot = record {
      ptr = p;
      len = n;
      arena = a;
      place = 0;
      words = [];
      lies = ap
          (block_ptr b) start;
      within = omega arith;
    } in
    let k : (allocation.the_row Z g).Denot = record {
      ptr = p;
      total = n;
      marker = record {};
      alloc = h;
      arena = a;
      owing
          = n;
      lies = ap (block_ptr b) start;
      within = omega arith;
    } in
    let pair : Val = pair_val (run_val p n) (allocation_val p n) in
    let RunSaid : Type 0 = IsRun x a 0 n [] in
    let AllocationSaid : Type 0 = (h ≡ h) × (n ≡ n) × (n ≡ n) in
    use0 𝓛 (‵ (allocation_own p n (allocation_val p n ∷ []))) (allocation_made 𝓛 p n small) $ fjoin ! $ move ! (1 ∷ [])
    $
    use0 𝓛 (‵ (run_own p n (run_val p n ∷ []))) (run_made 𝓛 p n small) $ fjoin ! $
    use2 𝓛 (‵ (Pair.own_val (x, k) (pair ∷ []))) (pair_of 𝓛 runs.the_row (allocation.the_row Z g) x k (run_val p n)
    (allocation_val p n)) $
    use1 𝓛 (‵ (Out.own_val (Ok (x, k)) (live 0 (vcons pair vnil) ∷ [])))
    (ok_of 𝓛 Pair alloc_error.the_row (x, k) pair) $
    use0 𝓛 (raw (fact 𝓤 AllocationSaid)) (fact_i 𝓤 AllocationSaid (emp 𝓤) (refl, refl, refl)) $
    use0 𝓛 (raw (fact 𝓤 RunSaid)) (fact_i 𝓤 RunSaid (emp 𝓤) (refl, refl, refl, refl)) $ join ! $
    nothing ! $ nothing ! $ fjoin ! $ nothing ! $ fjoin ! $ move ! (3 ∷ 0 ∷ 2 ∷ 1 ∷ []) $
    by ! (leaves 𝓛 En₀ stays c z (live 0 (vcons pair vnil)) (Ok (x, k)) (tt, (tt, tt)) (tt, (tt, tt)))))
    (λ e. join ! $ lands_as ! e refl (tt, (record { fits = lit< tt }, (tt, tt))) $
    first ! $ switches_on ! (get_tag ! (vrt ! refl (fld ! refl (stop !))) (whole !)) $
    exec ! C Λ En (arm_body 1 (head (after 3 fn.body))) (then_runs 𝓛 C Λ En (after 4 fn.body) (at_ret En Post)) $
    sets ! (of_opd ! (get_in ! (vrt ! refl (fld ! refl (stop !)))
    (in_variant ! 1 0 refl refl (whole !)))) refl (tt, tt) $
    sets_last ! (agg ! (and_then ! (lit ! tt) (and_then ! (get ! refl)
    (no_more !)))) refl (tt, (record { fits = lit< tt }, (tt, tt))) $
    exec ! C Λ En (after 4 fn.body) (at_ret En Post) $
    sets ! (of_opd ! (get ! refl)) refl (tt, (record { fits = lit< tt }, (tt, tt))) $
    returns ! (look_at ! 0 refl) $ free_all ! refl $
    use0 𝓛 (‵ ((plainly []).own_val tt (vstruct vnil ∷ []))) (none_made 𝓛) $
    use1 𝓛 (‵ (Out.own_val (Err (record {})) (live 1 (vcons (vstruct vnil) vnil) ∷ [])))
    (err_of 𝓛 Pair alloc_error.the_row (record {}) (vstruct vnil)) $
    use0 𝓛 (raw (fact 𝓤 (Unit {0}))) (fact_i 𝓤 (Unit {0}) (emp 𝓤) tt) $
    use0 𝓛 (raw (fact 𝓤 (Unit {0}))) (fact_i 𝓤 (Unit {0}) (emp 𝓤) tt) $ join ! $
    nothing ! $ nothing ! $ fjoin ! $ nothing ! $ fjoin ! $ move ! (3 ∷ 0 ∷ 2 ∷ 1 ∷ []) $
    by ! (leaves 𝓛 En₀ stays c z (live 1 (vcons (vstruct vnil) vnil)) (Err (record {})) (tt, (tt, tt))
    (tt, (tt, tt))))))))
