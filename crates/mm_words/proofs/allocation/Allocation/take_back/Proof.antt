-- `take_back` has the words of a run back, and their parts of the token. Assumes `Logic`.
use Rattle.std.proofs.Common.{◌≡◌, ℕ, ◌+◌, ◌-◌, ◌^◌, ◌≤◌, List, [], ◌∷◌, ◌++◌, refl, ap, ◌∙◌, arith}
use mir.Syntax.{Fn, Args, a_type, dcons, dnil}
use mir.Val.{Val}
use mir.MapTy.{inst_fn}
use base.Logic.{SProp, emp}
use prog.Wp.{WpFn}
use contract.BorrowLft.{◌⊑◌}
use contract.Monad.{fact, fact_i}
use contract.Running.{tables}
use types.Kit.{
  ‵,
  raw,
  ◌⊛◌,
  later,
  prop,
  ◌$◌,
  ◌∵◌,
  !,
  qed,
  by,
  move,
  drop,
  use0,
  use1,
  use3,
  split,
  join,
  await,
  rewrite,
  regoal,
  fsplit,
  fjoin,
}
use types.Part.{whole, sub, agg}
use types.Run.{stop, fld, of_opd, no_more, and_then, returns, enter}
use types.ByLocal.{alloc_all, pass_all, free_all, look_at, get, get_in, sets}
use denote.RattleType.{RattleType, owns}
use denote.RawPtr.{Ptr}
use denote.Param.{param, bounded}
use denote.Signature.{types_at}
use denote.Steps.{nothing, heard}
use denote.Triple.Entry.{alive}
use denote.Triple.Walked.{Stays, stay_dropped, walk_of}
use Rattle.core.proofs.alloc.Calls.{Goes-blank}
use Rattle.std.proofs.raw_atomic.Walks.{proved_at, leaves}
use Rattle.mm_words.proofs.Values.{slot_at, run_val, run_told, allocation_val, allocation_own, allocation_told}
use Rattle.mm_words.proofs.Values.{allocation_made}
use Rattle.mm_words.proofs.Debts.{settles}
use Rattle.mm_words.proofs.Runs.{run_blanks}
use Rattle.mm_words.specs.Piece.{Name}
use Rattle.mm_words.specs.Ownership.{words_room, debt, parts, run_owns, at_place}
use Rattle.mm_words.specs.contracts.allocation.Allocation as allocation
use Rattle.mm_words.specs.contracts.allocation.Allocation.take_back.{ended, clauses}
use Rattle.mm_words.specs.contracts.allocation.Allocation.take_back.Key.{name as #self}
use Rattle.mm_words.proofs.allocation.Allocation.take_back.Statement.{statement}
use Rattle.mm_words.proofs.allocation.Allocation.take_back.Code as compiled

pub take_back_spec : {M : Type 1} → statement M
take_back_spec 𝓤 𝓛 𝓜 𝓡 wired A L g d dd met md =
    let H = 𝓛.H in
    let En₀ = ended A g d dd in
    let c = clauses A g d dd 𝓛 𝓜.mem 𝓡.returns in
    let args : Args = bounded (a_type ∷ []) (A, tt) (dcons d (dcons dd dnil)) in
    let fn : Fn = inst_fn args compiled.function in
    let stays : Stays En₀.signature.params En₀.kept = (
      stay_dropped (slot_at 0 En₀.signature.params) En₀.kept.0,
      (stay_dropped (slot_at 1 En₀.signature.params) En₀.kept.1.0, tt),
    ) in
    let C = (tables 𝓤 H 𝓜 𝓡 𝓡.env).C in
    let Λ = (tables 𝓤 H 𝓜 𝓡 𝓡.env).Λ in
    proved_at 𝓛 En₀ stays c 𝓜 𝓡 (
      Goes-blank 𝓛 1 (slot_at 0 En₀.signature.params) En₀.kept.0 (λ κs x f. tt),
      (Goes-blank 𝓛 1 (slot_at 1 En₀.signature.params) En₀.kept.1.0 (λ κs x f. tt), tt),
    )
    (#self args) fn (compiled.unfolded 𝓤 H 𝓜 𝓡 wired (A, tt) d dd) (λ z are.
    let Post : Val → SProp 𝓤 = (walk_of 𝓛 En₀ stays c).post z in
    let x = z.0.3.0 in
    let w = z.0.3.1.0 in
    let vss = z.0.4 in
    let Z : RattleType = param 0 A in
    let a : Name = x.arena in
    let t = g.dealloc_token x.alloc in
    let p : Ptr = at_place a 0 in
    let run = allocation_told x.ptr x.total vss.0 are.0.0 in
    let told : vss.0 ≡ allocation_val p x.total ∷ [] = run.0 ∙ ap (λ (q : Ptr). allocation_val q x.total ∷ []) x.lies in
    let fits = run.1 in
    let pw : Ptr = at_place w.arena w.place in
    let runw = run_told w.ptr w.len vss.1.0 are.1.0.0 in
    let toldw : vss.1.0 ≡ run_val pw w.len ∷ [] = runw.0 ∙ ap (λ (q : Ptr). run_val q w.len ∷ []) w.lies in
    let within = x.within in
    let k = 2 ^ 33 - x.owing in
    let Asked : Type 0 = (w.arena ≡ a) × (w.len ≤ x.owing) in
    qed 𝓛 ((raw (alive 𝓛 En₀.signature z.0.0 z.0.1) ⊛ ‵ (owns (types_at En₀.signature.params z.0.0) z.0.3 vss)) ∷
    (raw (fact 𝓤 (z.0.0.0 ⊑ A.lives)) ⊛ raw (fact 𝓤 Asked)) ∷ []) ∵
    move ! (1 ∷ []) $ split ! $ drop ! $ heard ! Asked (λ asked. split ! $ move ! (1 ∷ []) $
    fsplit ! $ fsplit ! $ drop ! $ move ! (1 ∷ []) $ fsplit ! $ fsplit ! $ drop ! $ move ! (1 ∷ []) $ drop ! $
    -- [the run; the allocation]
    regoal ! (λ (us : List Val). prop (WpFn 𝓤 H C Λ fn us Post)) (λ i. told i ++ (toldw i ++ [])) refl $
    enter ! C Λ fn (allocation_val p x.total ∷ run_val pw w.len ∷ []) Post $
    alloc_all ! (λ l. pass_all ! refl (
      (tt, (tt, (record { fits = fits }, (tt, tt)))),
      (
        (
          tt,
          (
            tt,
            (record { fits = runw.1 }, tt),
          ),
        ),
        tt,
      ),
    ) $
    rewrite ! 0 (λ (u : Name). ‵ (run_owns u w.place w.len w.words)) asked.0 refl $
    use1 𝓛 (‵ (words_room a w.place w.len) ⊛ ‵ (debt a w.place w.len))
    (run_blanks 𝓛 a w.place w.len w.words w.within) $ split ! $
    move ! (2 ∷ []) $ fsplit ! $ move ! (2 ∷ 3 ∷ 0 ∷ []) $
    use3 𝓛 (later (‵ (parts a (k + w.len)))) (settles 𝓛 a w.len w.place k (omega arith) (omega arith)) $ await ! tt $
    rewrite ! 0 (λ (j : ℕ). ‵ (parts a j)) (let e : k + w.len ≡ 2 ^ 33 - (x.owing - w.len) = omega arith in
    e) refl $ fjoin ! $
    sets ! (of_opd ! (get_in ! (fld ! refl (stop !)) (sub ! 0 refl (whole !)))) refl (tt, tt) $
    sets ! (of_opd ! (get_in ! (fld ! refl (stop !)) (sub ! 1 refl (whole !)))) refl (tt, record { fits = fits }) $
    sets ! (of_opd ! (get_in ! (fld ! refl (stop !)) (sub ! 2 refl (whole !)))) refl (tt, tt) $
    sets ! (agg ! (and_then ! (get ! refl) (and_then ! (get ! refl) (and_then ! (get ! refl)
    (no_more !))))) refl (tt, (tt, (record { fits = fits }, (tt, tt)))) $
    returns ! (look_at ! 0 refl) $ free_all ! refl $
    let new : (allocation.the_row Z g).Denot = record {
      ptr = p;
      total = x.total;
      marker = x.marker;
      alloc = x.alloc;
      arena = a;
      owing = x.owing - w.len;
      lies = refl;
      within = omega arith;
    } in
    let v : Val = allocation_val p x.total in
    let Settled : Type 0 = (x.alloc ≡ x.alloc) × (a ≡ a) × (x.total ≡ x.total) in
    let Owing : Type 0 = x.owing - w.len + w.len ≡ x.owing in
    use0 𝓛 (‵ (allocation_own p x.total (v ∷ []))) (allocation_made 𝓛 p x.total fits) $ fjoin ! $
    use0 𝓛 (raw (fact 𝓤 Owing)) (fact_i 𝓤 Owing (emp 𝓤) (omega arith)) $
    use0 𝓛 (raw (fact 𝓤 Settled)) (fact_i 𝓤 Settled (emp 𝓤) (refl, refl, refl)) $ join ! $
    nothing ! $ nothing ! $ fjoin ! $ nothing ! $ fjoin ! $ move ! (3 ∷ 0 ∷ 2 ∷ 1 ∷ []) $
    by ! (leaves 𝓛 En₀ stays c z v new (tt, (tt, tt)) (tt, (tt, tt))))))
