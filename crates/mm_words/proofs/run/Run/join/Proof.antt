-- `join` makes one run of two that lie side by side. Assumes `Logic`.
use Rattle.std.proofs.Common.{◌≡◌, ◌+◌, ◌^◌, ◌<◌, List, [], ◌∷◌, ◌++◌, refl, ap, ◌∙◌, arith}
use mir.Syntax.{Fn}
use mir.Val.{Val}
use base.Logic.{SProp, emp}
use prog.Wp.{WpFn}
use contract.Monad.{fact, fact_i}
use contract.Running.{tables}
use types.Kit.{‵, raw, ◌⊛◌, prop, ◌$◌, ◌∵◌, !, qed, by, move, drop, use0, use2, split, regoal, rewrite, fsplit, fjoin}
use types.Part.{whole, sub, agg}
use types.Run.{stop, fld, of_opd, bin, no_more, and_then, returns, enter}
use types.ByLocal.{alloc_all, pass_all, free_all, look_at, get, get_in, sets}
use denote.RattleType.{owns}
use denote.RawPtr.{Ptr}
use denote.Signature.{types_at}
use denote.Steps.{nothing, heard}
use denote.Triple.Entry.{alive}
use denote.Triple.Walked.{Stays, stay_dropped, walk_of}
use Rattle.core.proofs.alloc.Calls.{Goes-blank}
use Rattle.std.proofs.raw_atomic.Walks.{proved_at, leaves}
use Rattle.mm_words.proofs.Values.{slot_at, run_val, run_own, run_told, run_made}
use Rattle.mm_words.proofs.Runs.{run_join}
use Rattle.mm_words.specs.Piece.{Name}
use Rattle.mm_words.specs.Ownership.{run_owns, at_place}
use Rattle.mm_words.specs.contracts.run.Run as runs
use Rattle.mm_words.specs.contracts.run.Run.join.{ended, clauses}
use Rattle.mm_words.specs.contracts.run.Run.join.Key.{name as #self}
use Rattle.mm_words.proofs.run.Run.join.Statement.{statement}
use Rattle.mm_words.proofs.run.Run.join.Code as compiled

pub join_spec : {M : Type 1} → statement M
join_spec 𝓤 𝓛 𝓜 𝓡 wired =
    let H = 𝓛.H in
    let c = clauses 𝓛 𝓜.mem 𝓡.returns in
    let fn : Fn = compiled.function in
    let stays : Stays ended.signature.params ended.kept = (
      stay_dropped
          (slot_at 0 ended.signature.params) ended.kept.0,
      (
        stay_dropped
            (slot_at 1 ended.signature.params) ended.kept.1.0,
        tt,
      ),
    ) in
    let C = (tables 𝓤 H 𝓜 𝓡 𝓡.env).C in
    let Λ = (tables 𝓤 H 𝓜 𝓡 𝓡.env).Λ in
    proved_at 𝓛 ended stays c 𝓜 𝓡 (
      Goes-blank 𝓛 0 (slot_at 0 ended.signature.params) ended.kept.0 (λ κs x f. tt),
      (Goes-blank 𝓛 0 (slot_at 1 ended.signature.params) ended.kept.1.0 (λ κs x f. tt), tt),
    ) #self fn
    (compiled.unfolded 𝓤 H 𝓜 𝓡 wired) (λ z are.
    let Post : Val → SProp 𝓤 = (walk_of 𝓛 ended stays c).post z in
    let x = z.0.3.0 in
    let y = z.0.3.1.0 in
    let vss = z.0.4 in
    let p : Ptr = at_place x.arena x.place in
    let run = run_told x.ptr x.len vss.0 are.0.0 in
    let told : vss.0 ≡ run_val p x.len ∷ [] = run.0 ∙ ap (λ (r : Ptr). run_val r x.len ∷ []) x.lies in
    let next : Ptr = at_place y.arena y.place in
    let run' = run_told y.ptr y.len vss.1.0 are.1.0.0 in
    let told' : vss.1.0 ≡ run_val next y.len ∷ [] = run'.0 ∙ ap (λ (r : Ptr). run_val r y.len ∷ []) y.lies in
    let Beside : Type 0 = (y.arena ≡ x.arena) × (y.place ≡ x.place + x.len) in
    let Small : Type 0 = x.len + y.len < 2 ^ 32 in
    qed 𝓛 ((raw (alive 𝓛 ended.signature z.0.0 z.0.1) ⊛ ‵ (owns
    (types_at ended.signature.params z.0.0) z.0.3 vss)) ∷ (raw (fact 𝓤 Beside) ⊛ raw (fact 𝓤 Small)) ∷ []) ∵
    move ! (1 ∷ []) $ split ! $ heard ! Beside (λ beside. heard ! Small (λ small. split ! $ move ! (1 ∷ []) $
    fsplit ! $ fsplit ! $ drop ! $ move ! (1 ∷ []) $ fsplit ! $ fsplit ! $ drop ! $ move ! (1 ∷ []) $ drop ! $
    regoal ! (λ (us : List Val). prop (WpFn 𝓤 H C Λ fn us Post)) (λ i. told i ++ (told' i ++ [])) refl $
    enter ! C Λ fn (run_val p x.len ∷ run_val next y.len ∷ []) Post $
    alloc_all ! (λ l. pass_all ! refl (
      (tt, (tt, (record { fits = run.1 }, tt))),
      (
        (
          tt,
          (
            tt,
            (record { fits = run'.1 }, tt),
          ),
        ),
        tt,
      ),
    ) $
    sets ! (of_opd ! (get_in ! (fld ! refl (stop !)) (sub ! 0 refl (whole !)))) refl (tt, tt) $
    sets ! (of_opd ! (get_in ! (fld ! refl (stop !)) (sub ! 1 refl (whole !)))) refl (tt, record { fits = run.1 }) $
    sets ! (of_opd ! (get_in ! (fld ! refl (stop !)) (sub ! 1 refl (whole !)))) refl (tt, record { fits = run'.1 }) $
    sets ! (bin ! (get ! refl) (get ! refl) (record { fits = small })) refl (tt, record { fits = small }) $
    sets ! (agg ! (and_then ! (get ! refl) (and_then ! (get ! refl)
    (no_more !)))) refl (tt, (tt, (record { fits = small }, tt))) $
    returns ! (look_at ! 0 refl) $ free_all ! refl $
    let both : (runs.the_row).Denot = record {
      ptr = p;
      len = x.len + y.len;
      arena = x.arena;
      place = x.place;
      words =
          x.words;
      lies = refl;
      within = let w = x.within in omega arith;
    } in
    let Said : Type 0 = (x.arena ≡ x.arena) × (x.place ≡ x.place) × (x.len + y.len ≡ x.len + y.len) ×
    (x.words ≡ x.words) in
    rewrite ! 0 (λ (u : Name). ‵ (run_owns u y.place y.len y.words)) beside.0 refl $
    rewrite ! 0 (λ (j : _). ‵ (run_owns x.arena j y.len y.words)) beside.1 refl $ move ! (1 ∷ 0 ∷ []) $
    use2 𝓛 (‵ (run_owns x.arena x.place (x.len + y.len) x.words))
    (run_join 𝓛 x.arena x.place x.len y.len x.words y.words x.within y.within) $
    use0 𝓛 (‵ (run_own p (x.len + y.len) (run_val p (x.len + y.len) ∷ []))) (run_made 𝓛 p (x.len + y.len) small) $
    fjoin ! $
    use0 𝓛 (raw (fact 𝓤 Said)) (fact_i 𝓤 Said (emp 𝓤) (refl, refl, refl, refl)) $
    nothing ! $ nothing ! $ fjoin ! $ nothing ! $ fjoin ! $ move ! (3 ∷ 0 ∷ 2 ∷ 1 ∷ []) $
    by ! (leaves 𝓛 ended stays c z (run_val p (x.len + y.len)) both (tt, (tt, tt)) (tt, (tt, tt)))))))
