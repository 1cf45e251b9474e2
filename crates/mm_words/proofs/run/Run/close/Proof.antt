-- `close` has the memory of a vector back as a run. Assumes `Logic`.
use Rattle.std.proofs.Common.{◌≡◌, ℕ, ◌^◌, ◌<◌, ◌≤◌, List, [], ◌∷◌, ◌++◌, length, refl, ap, ◌∙◌, arith, w64}
use mir.Syntax.{Fn}
use mir.Val.{Val, vint}
use base.Logic.{SProp, emp}
use prog.Wp.{WpFn}
use contract.Monad.{fact, fact_i}
use contract.Running.{tables}
use types.Kit.{
  ‵,
  raw,
  ◌⊛◌,
  later,
  given,
  prop,
  ◌$◌,
  ◌∵◌,
  !,
  qed,
  by,
  move,
  drop,
  use0,
  use1,
  use2,
  split,
  learn,
  await,
  rewrite,
  regoal,
  fsplit,
  fjoin,
}
use types.Part.{whole, sub, agg}
use types.Run.{stop, fld, of_opd, no_more, and_then, returns, enter}
use types.ByLocal.{alloc_all, pass_all, free_all, look_at, get, get_in, sets, lands_as}
use denote.Builtin.{u32}
use denote.RattleType.{owns}
use denote.RawPtr.{Ptr}
use denote.Signature.{types_at}
use denote.Steps.{nothing, heard}
use denote.Triple.Call.{calls_at}
use denote.Triple.Entry.{alive}
use denote.Triple.Walked.{Stays, stay_dropped, walk_of}
use Rattle.core.proofs.alloc.Calls.{Goes-blank}
use Rattle.core.proofs.atomic.Steps.{fm}
use Rattle.core.proofs.mem.Timeless.{timeless, timeless_laws}
use Rattle.std_alloc.proofs.vec.lodged.Vec+T+Lodged.dislodge.Met as dislodge_met
use Rattle.std_alloc.specs.Vec.Ownership.{lodged}
use Rattle.std_collections.proofs.TreeMemory.Lodging.{Dislodges, at_dislodge, dislodge_goes, dislodge_gives, tells}
use Rattle.std.proofs.raw_atomic.Walks.{proved_at, leaves}
use Rattle.mm_words.proofs.Values.{slot_at, run_val, run_own, run_told, run_made}
use Rattle.mm_words.proofs.Runs.{word_laws, dislodges}
use Rattle.mm_words.proofs.Lodging.{Vector, vector_laws}
use Rattle.mm_words.specs.Ownership.{word, run_owns, at_place}
use Rattle.mm_words.specs.Seated.{IsSeated}
use Rattle.mm_words.specs.contracts.run.Run as runs
use Rattle.mm_words.specs.contracts.run.Run.close.{ended, clauses}
use Rattle.mm_words.specs.contracts.run.Run.close.Key.{name as #self}
use Rattle.mm_words.proofs.run.Run.close.Statement.{statement}
use Rattle.mm_words.proofs.run.Run.close.Code as compiled

pub close_spec : {M : Type 1} → statement M
close_spec 𝓤 𝓛 𝓜 𝓡 wired =
    let H = 𝓛.H in
    let c = clauses 𝓛 𝓜.mem 𝓡.returns in
    let fn : Fn = compiled.function in
    let stays : Stays ended.signature.params ended.kept = (
      stay_dropped
          (slot_at 0 ended.signature.params) ended.kept.0,
      (
        stay_dropped
            (slot_at 1 ended.signature.params) ended.kept.1.0,
        tt,
      ),
    ) in
    let C = (tables 𝓤 H 𝓜 𝓡 𝓡.env).C in
    let Λ = (tables 𝓤 H 𝓜 𝓡 𝓡.env).Λ in
    proved_at 𝓛 ended stays c 𝓜 𝓡 (
      Goes-blank 𝓛 0 (slot_at 0 ended.signature.params) ended.kept.0 (λ κs x f. tt),
      (Goes-blank 𝓛 0 (slot_at 1 ended.signature.params) ended.kept.1.0 (λ κs x f. tt), tt),
    ) #self fn
    (compiled.unfolded 𝓤 H 𝓜 𝓡 wired) (λ z are.
    let Post : Val → SProp 𝓤 = (walk_of 𝓛 ended stays c).post z in
    let r = z.0.3.0 in
    let d = z.0.3.1.0 in
    let n = d.len in
    let vss = z.0.4 in
    let p : Ptr = at_place d.arena d.place in
    let run = run_told d.ptr n vss.1.0 are.1.0.0 in
    let told : vss.1.0 ≡ run_val p n ∷ [] = run.0 ∙ ap (λ (q : Ptr). run_val q n ∷ []) d.lies in
    let fits = run.1 in
    let D = Dislodges u32 𝓛 𝓜.mem 𝓡.returns in
    let Asked : Type 0 = IsSeated r d in
    qed 𝓛 ((raw (alive 𝓛 ended.signature z.0.0 z.0.1) ⊛ ‵ (owns
    (types_at ended.signature.params z.0.0) z.0.3 vss)) ∷ raw (fact 𝓤 Asked) ∷ []) ∵ move ! (1 ∷ []) $
    heard ! Asked (λ asked. split ! $ move ! (1 ∷ []) $
    fsplit ! $ tells ! Vector vector_laws r vss.0 (λ v e good. move ! (1 ∷ []) $ fsplit ! $ fsplit ! $ drop ! $
    move ! (1 ∷ []) $ drop ! $
    regoal ! (λ (us : List Val). prop (WpFn 𝓤 H C Λ fn us Post)) (λ i. e i ++ (told i ++ [])) refl $
    enter ! C Λ fn (v ∷ run_val p n ∷ []) Post $
    alloc_all ! (λ l. pass_all ! refl (good, ((tt, (tt, (record { fits = fits }, tt))), tt)) $
    sets ! (of_opd ! (get ! refl)) refl good $ move ! (1 ∷ []) $
    use1 𝓛 (raw (D.pre (at_dislodge u32 𝓛 𝓜.mem 𝓡.returns r v))) (dislodge_goes u32 𝓛 𝓜.mem 𝓡.returns r v) $
    calls_at ! (fm 𝓛 𝓜 𝓡) D (dislodge_met.met 𝓤 𝓛 𝓜 𝓡 (compiled.calls-std_alloc::vec::lodged::Vec+T+Lodged::dislodge
    𝓡.env wired) (timeless u32) (timeless_laws u32 word_laws)) (at_dislodge u32 𝓛 𝓜.mem 𝓡.returns r v) (and_then !
    (get ! refl) (no_more !)) (λ u.
    use1 𝓛 (later (given ((u ≡ vint w64 r.len) × (r.len < 2 ^ 64)) (‵ (lodged word r.ptr r.len r.cap r.items))))
    (dislodge_gives u32 𝓛 𝓜.mem 𝓡.returns r v u) $ await ! tt $ learn ! (λ is.
    lands_as ! is.0 refl (tt, record { fits = is.1 }) $
    sets ! (of_opd ! (get_in ! (fld ! refl (stop !)) (sub ! 0 refl (whole !)))) refl (tt, tt) $
    sets ! (of_opd ! (get_in ! (fld ! refl (stop !)) (sub ! 1 refl (whole !)))) refl (tt, record { fits = fits }) $
    sets ! (agg ! (and_then ! (get ! refl) (and_then ! (get ! refl)
    (no_more !)))) refl (tt, (tt, (record { fits = fits }, tt))) $
    returns ! (look_at ! 0 refl) $ free_all ! refl $
    let at : r.ptr ≡ p = asked.begins ∙ d.lies in
    let within : length r.items ≤ n = let ok = r.ok in let room = asked.room in omega arith in
    let x : (runs.the_row).Denot = record {
      ptr = p;
      len = n;
      arena = d.arena;
      place = d.place;
      words = r.items;
      lies =
          refl;
      within = within;
    } in
    let Said : Type 0 = (d.arena ≡ d.arena) × (d.place ≡ d.place) × (n ≡ n) × (r.items ≡ r.items) in
    rewrite ! 0 (λ (q : Ptr). ‵ (lodged word q r.len r.cap r.items)) at refl $
    rewrite ! 0 (λ (j : ℕ). ‵ (lodged word p j r.cap r.items)) r.ok.0 refl $
    rewrite ! 0 (λ (j : ℕ). ‵ (lodged word p (length r.items) j r.items)) asked.room refl $
    use2 𝓛 (‵ (run_owns d.arena d.place n r.items)) (dislodges 𝓛 d.arena d.place n r.items within) $
    use0 𝓛 (‵ (run_own p n (run_val p n ∷ []))) (run_made 𝓛 p n fits) $ fjoin ! $
    use0 𝓛 (raw (fact 𝓤 Said)) (fact_i 𝓤 Said (emp 𝓤) (refl, refl, refl, refl)) $
    nothing ! $ nothing ! $ fjoin ! $ nothing ! $ fjoin ! $ move ! (3 ∷ 0 ∷ 2 ∷ 1 ∷ []) $
    by ! (leaves 𝓛 ended stays c z (run_val p n) x (tt, (tt, tt)) (tt, (tt, tt)))))))))
