-- `end` has all parts of the token: the lifetime ends, and the block goes back. Assumes `Logic`.
use Rattle.std.proofs.Common.{◌≡◌, ℕ, ◌+◌, ◌-◌, ◌*◌, ◌^◌, List, [], ◌∷◌, ◌++◌, refl, ap, ◌∙◌, arith, lit<}
use mir.Syntax.{Ty, Fn, Args, a_type, dcons, dnil, place}
use mir.Val.{Val, vptr, vunit}
use mir.MapTy.{inst_fn}
use base.Logic.{SProp, id⊢}
use base.Fml.{Lft, Share, ftrue, flft, fdead}
use prog.Capped.{capped_is}
use prog.Wp.{Env, WpFn}
use contract.BorrowLft.{◌⊑◌, ⊑_trans}
use contract.Monad.{fact}
use contract.Running.{tables}
use types.Kit.{
  ‵,
  raw,
  ◌⊛◌,
  given,
  later,
  prop,
  settles,
  at_ret,
  ◌$◌,
  ◌∵◌,
  !,
  qed,
  by,
  move,
  drop,
  use1,
  use3,
  split,
  join,
  learn,
  rewrite,
  regoal,
  fsplit,
  fsplit3,
  fjoin,
  feq_i,
  await,
}
use types.Part.{whole, sub}
use types.Run.{stop, fld, lit, unit_lit, of_opd, un, bin, no_more, and_then, first, blocks, exec, returns, enter}
use types.ByLocal.{alloc_all, pass_all, free_all, look_at, get, get_in, sets, lands_last, env}
use types.Tokens.{lent_back}
use denote.RattleType.{owns}
use denote.RawPtr.{Ptr}
use denote.Param.{bounded}
use denote.Signature.{types_at}
use denote.Steps.{nothing, heard}
use denote.Triple.Entry.{alive}
use denote.Triple.Call.{calls_at_last}
use denote.Triple.Walked.{Stays, stay_dropped, walk_of, Goes-dropped}
use Rattle.core.proofs.alloc.Calls.{Al, seen, Goes-blank, Gives, at_gives, Gives-goes, Gives-Gives}
use Rattle.core.proofs.alloc.Shapes.{after}
use Rattle.core.proofs.atomic.Steps.{fm}
use Rattle.std.proofs.raw_atomic.Walks.{proved_at, leaves}
use Rattle.mm_words.proofs.Walks.{then_runs, out_of_block}
use Rattle.mm_words.proofs.Values.{slot_at, run_val, run_told, allocation_val, allocation_told}
use Rattle.mm_words.proofs.Debts.{ends}
use Rattle.mm_words.proofs.Runs.{run_blanks}
use Rattle.mm_words.specs.Piece.{Name}
use Rattle.mm_words.specs.Ownership.{words_type, words_room, debt, parts, run_owns, at_place}
use Rattle.mm_words.specs.contracts.allocation.Allocation.end.{ended, clauses}
use Rattle.mm_words.specs.contracts.allocation.Allocation.end.Key.{name as #self}
use Rattle.mm_words.proofs.allocation.Allocation.end.Statement.{statement}
use Rattle.mm_words.proofs.allocation.Allocation.end.Code as compiled

pub end_spec : {M : Type 1} → statement M
end_spec 𝓤 𝓛 𝓜 𝓡 wired A L g d dd met md =
    let H = 𝓛.H in
    let En₀ = ended A g d dd in
    let c = clauses A g d dd 𝓛 𝓜.mem 𝓡.returns in
    let args : Args = bounded (a_type ∷ []) (A, tt) (dcons d (dcons dd dnil)) in
    let fn : Fn = inst_fn args compiled.function in
    let stays : Stays En₀.signature.params En₀.kept = (
      stay_dropped (slot_at 0 En₀.signature.params) En₀.kept.0,
      (
        stay_dropped (slot_at 1 En₀.signature.params) En₀.kept.1.0,
        (
          stay_dropped
              (slot_at 2 En₀.signature.params) En₀.kept.1.1.0,
          tt,
        ),
      ),
    ) in
    let C = (tables 𝓤 H 𝓜 𝓡 𝓡.env).C in
    let Λ = (tables 𝓤 H 𝓜 𝓡 𝓡.env).Λ in
    proved_at 𝓛 En₀ stays c 𝓜 𝓡 (
      Goes-blank 𝓛 2 (slot_at 0 En₀.signature.params) En₀.kept.0 (λ κs x f. tt),
      (
        Goes-blank 𝓛 2 (slot_at 1 En₀.signature.params) En₀.kept.1.0 (λ κs x f. tt),
        (
          Goes-dropped 𝓛 2
              (slot_at 2 En₀.signature.params) En₀.kept.1.1.0 (λ κs x f. refl),
          tt,
        ),
      ),
    )
    (#self args) fn (compiled.unfolded 𝓤 H 𝓜 𝓡 wired (A, tt) d dd) (λ z are.
    let Post : Val → SProp 𝓤 = (walk_of 𝓛 En₀ stays c).post z in
    let vss = z.0.4 in
    let Y : Al = record { row = A; laws = L; g = g; d = d; drops = dd } in
    let κ : Lft = z.0.0.0 in
    let q : Share = z.0.1.0 in
    let x = z.0.3.0 in
    let y = z.0.3.1.0 in
    let h = z.0.3.1.1.0.now in
    let handle = z.0.3.1.1.0.ref_ptr in
    let a : Name = x.arena in
    let n = x.total in
    let τ : Ty = words_type n in
    let b = a.block in
    let o = a.start + 4 * 0 in
    let p : Ptr = at_place a 0 in
    let run = allocation_told x.ptr n vss.0 are.0.0 in
    let told : vss.0 ≡ allocation_val p n ∷ [] = run.0 ∙ ap (λ (r : Ptr). allocation_val r n ∷ []) x.lies in
    let fits = run.1 in
    let py : Ptr = at_place y.arena y.place in
    let runy = run_told y.ptr y.len vss.1.0 are.1.0.0 in
    let toldy : vss.1.0 ≡ run_val py y.len ∷ [] = runy.0 ∙ ap (λ (r : Ptr). run_val r y.len ∷ []) y.lies in
    let small = runy.1 in
    let Asked : Type 0 = (x.alloc ≡ h) × (y.arena ≡ a) × (x.owing ≡ y.len) in
    qed 𝓛 ((raw (alive 𝓛 En₀.signature z.0.0 z.0.1) ⊛ ‵ (owns (types_at En₀.signature.params z.0.0) z.0.3 vss)) ∷
    (raw (fact 𝓤 (z.0.0.1.0 ⊑ A.lives)) ⊛ raw (fact 𝓤 Asked)) ∷ []) ∵
    move ! (1 ∷ []) $ split ! $ heard ! (z.0.0.1.0 ⊑ A.lives) (λ le. heard ! Asked (λ asked. split ! $ move ! (1 ∷ []) $
    fsplit ! $ fsplit ! $ drop ! $ move ! (1 ∷ []) $ fsplit ! $ fsplit ! $ drop ! $ move ! (1 ∷ []) $ fsplit ! $
    fsplit ! $ drop ! $ move ! (1 ∷ []) $ drop ! $
    use1 𝓛 (‵ (seen Y κ handle h)) (id⊢ 𝓤 _) $ move ! (3 ∷ []) $
    use1 𝓛 (‵ (flft κ q) ⊛ ‵ (flft z.0.0.1.0 z.0.1.1.0) ⊛ ‵ ftrue) (id⊢ 𝓤 _) $ split ! $ move ! (2 ∷ 0 ∷ []) $
    join ! $
    -- [the handle; the other tokens; the rest; the allocation]
    regoal ! (λ (us : List Val). prop (WpFn 𝓤 H C Λ fn us Post))
    (λ i. told i ++ (toldy i ++ (are.1.1.0.0 i ++ []))) refl $
    enter ! C Λ fn (allocation_val p n ∷ run_val py y.len ∷ vptr handle.0 handle.1 ∷ []) Post $
    alloc_all ! (λ l. pass_all ! refl (
      (tt, (tt, (record { fits = fits }, (tt, tt)))),
      (
        (
          tt,
          (
            tt,
            (record { fits = small }, tt),
          ),
        ),
        ((tt, tt), tt),
      ),
    ) $ let En : Env 𝓤 𝓛.H = env fn.locals l in
    move ! (2 ∷ []) $ rewrite ! 0 (λ (u : Name). ‵ (run_owns u y.place y.len y.words)) asked.1 refl $
    use1 𝓛 (‵ (words_room a y.place y.len) ⊛ ‵ (debt a y.place y.len))
    (run_blanks 𝓛 a y.place y.len y.words y.within) $ split ! $ move ! (4 ∷ []) $ fsplit3 ! $
    rewrite ! 0 (λ (j : ℕ). ‵ (parts a (2 ^ 33 - j))) asked.2 refl $ move ! (3 ∷ 4 ∷ 0 ∷ []) $
    use3 𝓛 (later (‵ (fdead (a.life ∷ [])))) (ends 𝓛 a y.len y.place (omega arith)) $ await ! tt $ lent_back ! tt $
    rewrite ! 1 (λ (r : A.Denot). ‵ (g.dealloc_token r τ p)) asked.0 refl $
    -- [the block; the right to free it; the handle; the other tokens]
    let w = at_gives Y 𝓛 𝓜.mem 𝓡.returns κ q handle h b o (n * 4) 4 τ in
    sets ! (of_opd ! (get_in ! (fld ! refl (stop !)) (sub ! 0 refl (whole !)))) refl (tt, tt) $
    sets ! (of_opd ! (get_in ! (fld ! refl (stop !)) (sub ! 1 refl (whole !)))) refl (tt, record { fits = fits }) $
    first ! $ blocks ! $
    sets ! (of_opd ! (get ! refl)) refl (tt, tt) $
    sets ! (un ! (get ! refl) (record { fits = omega arith })) refl (tt, record { fits = omega arith }) $
    sets ! (bin ! (get ! refl) (lit ! tt) (record { fits = omega arith })) refl (tt, record { fits = omega arith }) $
    use3 𝓛 (raw ((Gives Y 𝓛 𝓜.mem 𝓡.returns).pre w)) (Gives-goes Y 𝓛 𝓜.mem 𝓡.returns κ q handle h
    (⊑_trans κ z.0.0.1.0 A.lives z.0.2.0 le) b o (n * 4) 4 τ (capped_is (n * 4) (omega arith)) refl (omega arith)
    (lit< tt)) $
    calls_at_last ! (fm 𝓛 𝓜 𝓡) (Gives Y 𝓛 𝓜.mem 𝓡.returns) (met.deallocate dd) w (and_then ! (get ! refl)
    (and_then ! (get ! refl) (and_then ! (get ! refl) (and_then ! (lit ! tt) (no_more !))))) (λ v.
    use1 𝓛 (later (given (v ≡ vunit) (‵ (flft κ q)))) (Gives-Gives Y 𝓛 𝓜.mem 𝓡.returns κ q handle h b o
    (n * 4) 4 τ v) $ await ! tt $ learn ! (λ e. join ! $
    regoal ! (λ (u : Val). settles En (place 6 []) u (out_of_block 𝓛 (then_runs 𝓛 C Λ En (after 3 fn.body)
    (at_ret En Post)))) e refl $ lands_last ! refl (tt, tt) $
    exec ! C Λ En (after 3 fn.body) (at_ret En Post) $
    sets ! (of_opd ! (unit_lit !)) refl (tt, tt) $
    returns ! (look_at ! 0 refl) $ free_all ! refl $
    feq_i ! (List Val) (vunit ∷ []) (vunit ∷ []) refl $ nothing ! $ nothing ! $ nothing ! $ fjoin ! $ nothing ! $
    fjoin ! $ nothing ! $ fjoin ! $ move ! (3 ∷ 0 ∷ 2 ∷ 1 ∷ []) $
    by ! (leaves 𝓛 En₀ stays c z vunit tt (tt, (tt, (tt, tt))) (tt, (tt, (tt, tt))))))))))
