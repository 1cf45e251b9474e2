-- `apart` finds no word in both runs: its memory would be owned twice. Assumes `Logic`.
use Rattle.std.proofs.Common.{◌≡◌, ◌*◌, max, min, ◌+◌, List, [], ◌∷◌, ◌++◌, refl, ap, ◌∙◌, arith}
use mir.Syntax.{Fn}
use mir.Val.{Val}
use base.Logic.{SProp, emp, never, never_e}
use prog.Wp.{WpFn}
use contract.Monad.{fact, fact_i}
use contract.Running.{tables}
use types.Kit.{
  Sq,
  keep,
  join,
  use1,
  ‵,
  raw,
  ◌⊛◌,
  prop,
  ◌$◌,
  ◌∵◌,
  !,
  qed,
  by,
  move,
  drop,
  use0,
  use2,
  split,
  regoal,
  rewrite,
  fsplit,
  fjoin,
}
use types.Part.{agg}
use types.Run.{of_opd, no_more, and_then, returns, enter}
use types.ByLocal.{alloc_all, pass_all, free_all, look_at, get, sets}
use denote.RattleType.{owns}
use denote.RawPtr.{Ptr}
use denote.Signature.{types_at}
use denote.Steps.{nothing, heard}
use denote.Triple.Entry.{alive}
use denote.Triple.Walked.{Stays, stay_dropped, walk_of}
use Rattle.core.proofs.alloc.Calls.{Goes-blank}
use Rattle.std.proofs.raw_atomic.Walks.{proved_at, leaves}
use Rattle.mm_words.proofs.Values.{slot_at, run_val, run_own, run_told, run_made}
use Rattle.mm_words.proofs.Runs.{by_order, run_blanks}
use Rattle.mm_words.specs.Piece.{Name, SpansApart}
use Rattle.mm_words.specs.Ownership.{words_type, words_room, debt, run_owns, at_place}
use Rattle.std_alloc.proofs.Pairs.{pair_of, pair_val}
use denote.Struct.Tuple.{Tuple}
use Rattle.mm_words.specs.contracts.run.Run as runs
use Rattle.mm_words.specs.contracts.run.Run.apart.{ended, clauses}
use Rattle.mm_words.specs.contracts.run.Run.apart.Key.{name as #self}
use Rattle.mm_words.proofs.run.Run.apart.Statement.{statement}
use Rattle.mm_words.proofs.run.Run.apart.Code as compiled

pub apart_spec : {M : Type 1} → statement M
apart_spec 𝓤 𝓛 𝓜 𝓡 wired =
    let H = 𝓛.H in
    let c = clauses 𝓛 𝓜.mem 𝓡.returns in
    let fn : Fn = compiled.function in
    let stays : Stays ended.signature.params ended.kept = (
      stay_dropped
          (slot_at 0 ended.signature.params) ended.kept.0,
      (
        stay_dropped
            (slot_at 1 ended.signature.params) ended.kept.1.0,
        tt,
      ),
    ) in
    let C = (tables 𝓤 H 𝓜 𝓡 𝓡.env).C in
    let Λ = (tables 𝓤 H 𝓜 𝓡 𝓡.env).Λ in
    proved_at 𝓛 ended stays c 𝓜 𝓡 (
      Goes-blank 𝓛 0 (slot_at 0 ended.signature.params) ended.kept.0 (λ κs x f. tt),
      (Goes-blank 𝓛 0 (slot_at 1 ended.signature.params) ended.kept.1.0 (λ κs x f. tt), tt),
    ) #self fn
    (compiled.unfolded 𝓤 H 𝓜 𝓡 wired) (λ z are.
    let Post : Val → SProp 𝓤 = (walk_of 𝓛 ended stays c).post z in
    let x = z.0.3.0 in
    let y = z.0.3.1.0 in
    let vss = z.0.4 in
    let p : Ptr = at_place x.arena x.place in
    let run = run_told x.ptr x.len vss.0 are.0.0 in
    let told : vss.0 ≡ run_val p x.len ∷ [] = run.0 ∙ ap (λ (r : Ptr). run_val r x.len ∷ []) x.lies in
    let next : Ptr = at_place y.arena y.place in
    let run' = run_told y.ptr y.len vss.1.0 are.1.0.0 in
    let told' : vss.1.0 ≡ run_val next y.len ∷ [] = run'.0 ∙ ap (λ (r : Ptr). run_val r y.len ∷ []) y.lies in
    let vx : Val = run_val p x.len in
    let vy : Val = run_val next y.len in
    let Same : Type 0 = (x ≡ x) × (y ≡ y) in
    let Asked : Type 0 = y.arena ≡ x.arena in
    qed 𝓛 ((raw (alive 𝓛 ended.signature z.0.0 z.0.1) ⊛ ‵ (owns
    (types_at ended.signature.params z.0.0) z.0.3 vss)) ∷ raw (fact 𝓤 Asked) ∷ []) ∵
    move ! (1 ∷ []) $ heard ! Asked (λ asked. split ! $ move ! (1 ∷ []) $
    fsplit ! $ fsplit ! $ drop ! $ move ! (1 ∷ []) $ fsplit ! $ fsplit ! $ drop ! $ move ! (1 ∷ []) $ drop ! $
    regoal ! (λ (us : List Val). prop (WpFn 𝓤 H C Λ fn us Post)) (λ i. told i ++ (told' i ++ [])) refl $
    enter ! C Λ fn (run_val p x.len ∷ run_val next y.len ∷ []) Post $
    alloc_all ! (λ l. pass_all ! refl (
      (tt, (tt, (record { fits = run.1 }, tt))),
      (
        (
          tt,
          (
            tt,
            (record { fits = run'.1 }, tt),
          ),
        ),
        tt,
      ),
    ) $
    let finish : SpansApart x.place x.len y.place y.len → Sq 𝓛 (‵ (run_owns y.arena y.place y.len y.words) ∷ ‵
    (run_owns x.arena x.place x.len x.words) ∷ raw (alive 𝓛 ended.signature z.0.0 z.0.1) ∷ [])
    (prop (Post (pair_val vx vy))) = λ apart.
    use0 𝓛 (‵ (run_own y.ptr y.len (run_val y.ptr y.len ∷ []))) (run_made 𝓛 y.ptr y.len run'.1) $
    rewrite ! 0 (λ (q : Ptr). ‵ (run_own y.ptr y.len (run_val q y.len ∷ []))) y.lies refl $ fjoin ! $
    move ! (1 ∷ []) $
    use0 𝓛 (‵ (run_own x.ptr x.len (run_val x.ptr x.len ∷ []))) (run_made 𝓛 x.ptr x.len run.1) $
    rewrite ! 0 (λ (q : Ptr). ‵ (run_own x.ptr x.len (run_val q x.len ∷ []))) x.lies refl $ fjoin ! $
    use2 𝓛 (‵ ((Tuple (runs.the_row ∷ runs.the_row ∷ [])).own_val (x, y) (pair_val vx vy ∷ [])))
    (pair_of 𝓛 runs.the_row runs.the_row x y vx vy) $
    use0 𝓛 (raw (fact 𝓤 (SpansApart x.place x.len y.place y.len)))
    (fact_i 𝓤 (SpansApart x.place x.len y.place y.len) (emp 𝓤) apart) $
    use0 𝓛 (raw (fact 𝓤 Same)) (fact_i 𝓤 Same (emp 𝓤) (refl, refl)) $ join ! $
    nothing ! $ nothing ! $ fjoin ! $ nothing ! $ fjoin ! $ move ! (3 ∷ 0 ∷ 2 ∷ 1 ∷ []) $
    by ! (leaves 𝓛 ended stays c z (pair_val vx vy) (x, y) (tt, (tt, tt)) (tt, (tt, tt))) in
    sets ! (of_opd ! (get ! refl)) refl (tt, (tt, (record { fits = run.1 }, tt))) $
    sets ! (of_opd ! (get ! refl)) refl (tt, (tt, (record { fits = run'.1 }, tt))) $
    sets ! (agg ! (and_then ! (get ! refl) (and_then ! (get ! refl)
    (no_more !)))) refl (tt, ((tt, (record { fits = run.1 }, tt)), ((tt, (record { fits = run'.1 }, tt)), tt))) $
    returns ! (look_at ! 0 refl) $ free_all ! refl $
    by_order (max x.place y.place) (min (x.place + x.len) (y.place + y.len))
    (λ over. move ! (1 ∷ []) $ use1 𝓛 (‵ (words_room x.arena x.place x.len) ⊛ ‵ (debt x.arena x.place x.len))
    (run_blanks 𝓛 x.arena x.place x.len x.words x.within) $ split ! $ move ! (2 ∷ []) $
    rewrite ! 0 (λ (u : Name). ‵ (run_owns u y.place y.len y.words)) asked refl $
    use1 𝓛 (‵ (words_room x.arena y.place y.len) ⊛ ‵ (debt x.arena y.place y.len))
    (run_blanks 𝓛 x.arena y.place y.len y.words y.within) $ split ! $ keep ! (2 ∷ 0 ∷ []) $
    use2 𝓛 (raw (never 𝓤)) (𝓜.room-room (words_type x.len) (words_type y.len) x.arena.block
    (x.arena.start + 4 * x.place) (x.arena.start + 4 * y.place) (x.arena.start + 4 * max x.place y.place)
    (omega arith, omega arith) (omega arith, omega arith)) $
    by ! (never_e 𝓤 _))
    (λ clear. finish (λ i inside within. omega arith)))))
