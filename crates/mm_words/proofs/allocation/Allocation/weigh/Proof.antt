-- `weigh` finds that no more words are out than are owed: who had more parts could end the lifetime while one of them
-- holds. Assumes `Logic`.
use Rattle.std.proofs.Common.{◌≡◌, ◌+◌, ◌-◌, ◌^◌, ◌≤◌, List, [], ◌∷◌, ◌++◌, refl, ap, ◌∙◌, arith}
use mir.Syntax.{Fn, Args, a_type, dcons, dnil}
use mir.Val.{Val}
use mir.MapTy.{inst_fn}
use base.Logic.{SProp, emp, never, never_e}
use prog.Wp.{WpFn}
use contract.BorrowLft.{◌⊑◌}
use contract.Monad.{fact, fact_i}
use contract.Running.{tables}
use types.Kit.{
  ‵,
  raw,
  ◌⊛◌,
  later,
  prop,
  ◌$◌,
  ◌∵◌,
  !,
  qed,
  by,
  move,
  keep,
  drop,
  use0,
  use1,
  use2,
  use3,
  split,
  join,
  await,
  rewrite,
  regoal,
  fsplit,
  fjoin,
}
use types.Part.{agg}
use types.Run.{of_opd, no_more, and_then, returns, enter}
use types.ByLocal.{alloc_all, pass_all, free_all, look_at, get, sets}
use denote.RattleType.{RattleType, owns}
use denote.RawPtr.{Ptr}
use denote.Param.{param, bounded}
use denote.Signature.{types_at}
use denote.Steps.{nothing, heard}
use denote.Struct.Tuple.{Tuple}
use denote.Triple.Entry.{alive}
use denote.Triple.Walked.{Stays, stay_dropped, walk_of}
use Rattle.core.proofs.alloc.Calls.{Goes-blank}
use Rattle.std_alloc.proofs.Pairs.{pair_of, pair_val}
use Rattle.std.proofs.raw_atomic.Walks.{proved_at, leaves}
use Rattle.mm_words.proofs.Values.{
  slot_at,
  run_val,
  run_own,
  run_told,
  run_made,
  allocation_val,
  allocation_own,
  allocation_told,
  allocation_made,
}
use Rattle.mm_words.proofs.Debts.{settles, too_many}
use Rattle.mm_words.proofs.Runs.{by_order, run_blanks}
use Rattle.mm_words.specs.Piece.{Name}
use Rattle.mm_words.specs.Ownership.{words_room, debt, parts, run_owns, at_place}
use Rattle.mm_words.specs.contracts.allocation.Allocation as allocation
use Rattle.mm_words.specs.contracts.run.Run as runs
use Rattle.mm_words.specs.contracts.allocation.Allocation.weigh.{ended, clauses}
use Rattle.mm_words.specs.contracts.allocation.Allocation.weigh.Key.{name as #self}
use Rattle.mm_words.proofs.allocation.Allocation.weigh.Statement.{statement}
use Rattle.mm_words.proofs.allocation.Allocation.weigh.Code as compiled

pub weigh_spec : {M : Type 1} → statement M
weigh_spec 𝓤 𝓛 𝓜 𝓡 wired A L g d dd met md =
    let H = 𝓛.H in
    let En₀ = ended A g d dd in
    let c = clauses A g d dd 𝓛 𝓜.mem 𝓡.returns in
    let args : Args = bounded (a_type ∷ []) (A, tt) (dcons d (dcons dd dnil)) in
    let fn : Fn = inst_fn args compiled.function in
    let stays : Stays En₀.signature.params En₀.kept = (
      stay_dropped (slot_at 0 En₀.signature.params) En₀.kept.0,
      (
        stay_dropped (slot_at 1 En₀.signature.params) En₀.kept.1.0,
        (
          stay_dropped
              (slot_at 2 En₀.signature.params) En₀.kept.1.1.0,
          tt,
        ),
      ),
    ) in
    let C = (tables 𝓤 H 𝓜 𝓡 𝓡.env).C in
    let Λ = (tables 𝓤 H 𝓜 𝓡 𝓡.env).Λ in
    proved_at 𝓛 En₀ stays c 𝓜 𝓡 (
      Goes-blank 𝓛 1 (slot_at 0 En₀.signature.params) En₀.kept.0 (λ κs x f. tt),
      (
        Goes-blank 𝓛 1 (slot_at 1 En₀.signature.params) En₀.kept.1.0 (λ κs x f. tt),
        (
          Goes-blank 𝓛 1
              (slot_at 2 En₀.signature.params) En₀.kept.1.1.0 (λ κs x f. tt),
          tt,
        ),
      ),
    )
    (#self args) fn (compiled.unfolded 𝓤 H 𝓜 𝓡 wired (A, tt) d dd) (λ z are.
    let Post : Val → SProp 𝓤 = (walk_of 𝓛 En₀ stays c).post z in
    let x = z.0.3.0 in
    let w = z.0.3.1.0 in
    let y = z.0.3.1.1.0 in
    let vss = z.0.4 in
    let Z : RattleType = param 0 A in
    let a : Name = x.arena in
    let p : Ptr = at_place a 0 in
    let run = allocation_told x.ptr x.total vss.0 are.0.0 in
    let told : vss.0 ≡ allocation_val p x.total ∷ [] = run.0 ∙ ap (λ (q : Ptr). allocation_val q x.total ∷ []) x.lies in
    let fits = run.1 in
    let pw : Ptr = at_place w.arena w.place in
    let runw = run_told w.ptr w.len vss.1.0 are.1.0.0 in
    let toldw : vss.1.0 ≡ run_val pw w.len ∷ [] = runw.0 ∙ ap (λ (q : Ptr). run_val q w.len ∷ []) w.lies in
    let py : Ptr = at_place y.arena y.place in
    let runy = run_told y.ptr y.len vss.1.1.0 are.1.1.0.0 in
    let toldy : vss.1.1.0 ≡ run_val py y.len ∷ [] = runy.0 ∙ ap (λ (q : Ptr). run_val q y.len ∷ []) y.lies in
    let within = x.within in
    let k = 2 ^ 33 - x.owing in
    let Asked : Type 0 = (w.arena ≡ a) × (y.arena ≡ a) in
    qed 𝓛 ((raw (alive 𝓛 En₀.signature z.0.0 z.0.1) ⊛ ‵ (owns (types_at En₀.signature.params z.0.0) z.0.3 vss)) ∷
    (raw (fact 𝓤 (z.0.0.0 ⊑ A.lives)) ⊛ raw (fact 𝓤 Asked)) ∷ []) ∵
    move ! (1 ∷ []) $ split ! $ drop ! $ heard ! Asked (λ asked. split ! $ move ! (1 ∷ []) $
    fsplit ! $ fsplit ! $ drop ! $ move ! (1 ∷ []) $ fsplit ! $ fsplit ! $ drop ! $ move ! (1 ∷ []) $ fsplit ! $
    fsplit ! $ drop ! $ move ! (1 ∷ []) $ drop ! $
    -- [the rest; the run; the allocation]
    regoal ! (λ (us : List Val). prop (WpFn 𝓤 H C Λ fn us Post)) (λ i. told i ++ (toldw i ++ (toldy i ++ []))) refl $
    enter ! C Λ fn (allocation_val p x.total ∷ run_val pw w.len ∷ run_val py y.len ∷ []) Post $
    alloc_all ! (λ l. pass_all ! refl (
      (tt, (tt, (record { fits = fits }, (tt, tt)))),
      (
        (
          tt,
          (
            tt,
            (record { fits = runw.1 }, tt),
          ),
        ),
        ((tt, (tt, (record { fits = runy.1 }, tt))), tt),
      ),
    ) $
    -- [the rest; the run; the allocation]
    by_order x.owing (w.len + y.len)
    (λ over. move ! (1 ∷ []) $ rewrite ! 0 (λ (u : Name). ‵ (run_owns u w.place w.len w.words)) asked.0 refl $
    use1 𝓛 (‵ (words_room a w.place w.len) ⊛ ‵ (debt a w.place w.len))
    (run_blanks 𝓛 a w.place w.len w.words w.within) $ split ! $
    move ! (3 ∷ []) $ fsplit ! $ move ! (2 ∷ 3 ∷ 0 ∷ []) $
    -- [room for the run; its debt; the parts; the rest of the allocation; the rest]
    by_order x.owing w.len
    (λ more. use3 𝓛 (later (raw (never 𝓤))) (too_many 𝓛 a (never 𝓤) w.len w.place k (omega arith) (omega arith)
    (omega arith)) $ await ! tt $ keep ! (0 ∷ []) $ by ! (never_e 𝓤 _))
    (λ less. use3 𝓛 (later (‵ (parts a (k + w.len)))) (settles 𝓛 a w.len w.place k (omega arith) (omega arith)) $
    await ! tt $ move ! (2 ∷ []) $
    rewrite ! 0 (λ (u : Name). ‵ (run_owns u y.place y.len y.words)) asked.1 refl $
    use1 𝓛 (‵ (words_room a y.place y.len) ⊛ ‵ (debt a y.place y.len))
    (run_blanks 𝓛 a y.place y.len y.words y.within) $ split ! $ move ! (0 ∷ 1 ∷ 2 ∷ []) $
    use3 𝓛 (later (raw (never 𝓤))) (too_many 𝓛 a (never 𝓤) y.len y.place (k + w.len) (omega arith) (omega arith)
    (omega arith)) $ await ! tt $ keep ! (0 ∷ []) $ by ! (never_e 𝓤 _)))
    (λ enough.
    sets ! (of_opd ! (get ! refl)) refl (tt, (tt, (record { fits = fits }, (tt, tt)))) $
    sets ! (of_opd ! (get ! refl)) refl (tt, (tt, (record { fits = runw.1 }, tt))) $
    sets ! (of_opd ! (get ! refl)) refl (tt, (tt, (record { fits = runy.1 }, tt))) $
    sets ! (agg ! (and_then ! (get ! refl) (and_then ! (get ! refl)
    (no_more !)))) refl (tt, ((tt, (record { fits = runw.1 }, tt)), ((tt, (record { fits = runy.1 }, tt)), tt))) $
    sets ! (agg ! (and_then ! (get ! refl) (and_then ! (get ! refl)
    (no_more !)))) refl (
      tt,
      (
        (tt, (record { fits = fits }, (tt, tt))),
        (
          (
            (tt, (record { fits = runw.1 }, tt)),
            ((tt, (record { fits = runy.1 }, tt)), tt),
          ),
          tt,
        ),
      ),
    ) $
    returns ! (look_at ! 0 refl) $ free_all ! refl $
    let v : Val = allocation_val p x.total in
    let vw : Val = run_val pw w.len in
    let vy : Val = run_val py y.len in
    let Runs : RattleType = Tuple (runs.the_row ∷ runs.the_row ∷ []) in
    let Same : Type 0 = (x ≡ x) × (w ≡ w) × (y ≡ y) in
    let Owed : Type 0 = w.len + y.len ≤ x.owing in
    use0 𝓛 (‵ (run_own y.ptr y.len (run_val y.ptr y.len ∷ []))) (run_made 𝓛 y.ptr y.len runy.1) $
    rewrite ! 0 (λ (q : Ptr). ‵ (run_own y.ptr y.len (run_val q y.len ∷ []))) y.lies refl $ fjoin ! $
    move ! (1 ∷ []) $
    use0 𝓛 (‵ (run_own w.ptr w.len (run_val w.ptr w.len ∷ []))) (run_made 𝓛 w.ptr w.len runw.1) $
    rewrite ! 0 (λ (q : Ptr). ‵ (run_own w.ptr w.len (run_val q w.len ∷ []))) w.lies refl $ fjoin ! $
    use2 𝓛 (‵ (Runs.own_val (w, y) (pair_val vw vy ∷ []))) (pair_of 𝓛 runs.the_row runs.the_row w y vw vy) $
    move ! (1 ∷ []) $
    use0 𝓛 (‵ (allocation_own x.ptr x.total (allocation_val x.ptr x.total ∷ []))) (allocation_made 𝓛 x.ptr x.total fits)
    $
    rewrite ! 0 (λ (q : Ptr). ‵ (allocation_own x.ptr x.total (allocation_val q x.total ∷ []))) x.lies refl $ fjoin ! $
    use2 𝓛 (‵ ((Tuple (allocation.the_row Z g ∷ Runs ∷ [])).own_val (x, (w, y)) (pair_val v (pair_val vw vy) ∷ [])))
    (pair_of 𝓛 (allocation.the_row Z g) Runs x (w, y) v (pair_val vw vy)) $
    use0 𝓛 (raw (fact 𝓤 Owed)) (fact_i 𝓤 Owed (emp 𝓤) enough) $
    use0 𝓛 (raw (fact 𝓤 Same)) (fact_i 𝓤 Same (emp 𝓤) (refl, refl, refl)) $ join ! $
    nothing ! $ nothing ! $ fjoin ! $ nothing ! $ fjoin ! $ nothing ! $ fjoin ! $ move ! (3 ∷ 0 ∷ 2 ∷ 1 ∷ []) $
    by ! (leaves 𝓛 En₀ stays c z (pair_val v (pair_val vw vy)) (x, (w, y)) (tt, (tt, (tt, tt)))
    (tt, (tt, (tt, tt))))))))
