-- `empty` has the loose box back from the handle, which is closed then. Assumes `Logic`.
use Rattle.std.proofs.Common.{◌≡◌, List, [], ◌∷◌, ◌++◌, refl, ap, ◌∙◌}
use mir.Syntax.{Fn}
use mir.Raw.{raw as bare}
use mir.Val.{Val, vptr}
use base.Logic.{SProp, emp, never, fst∗}
use prog.Wp.{WpFn}
use contract.Monad.{fact, fact_i}
use contract.Running.{tables}
use types.Kit.{‵, raw, ◌⊛◌, prop, ◌$◌, ◌∵◌, !, qed, by, move, keep, drop, use0, use2, split, join, regoal, rewrite}
use types.Kit.{fsplit, fjoin}
use types.Logic.{sem}
use types.Part.{whole, sub, agg}
use types.Run.{stop, fld, of_opd, no_more, and_then, returns, enter}
use types.ByLocal.{alloc_all, pass_all, free_all, look_at, get, get_in, sets}
use denote.Memory.{lone}
use denote.Param.{layout}
use denote.RattleType.{RattleType, owns}
use denote.RawPtr.{Ptr, block_ptr, null_ptr, in_a_block}
use denote.Signature.{types_at}
use denote.Steps.{nothing, heard}
use denote.Struct.Struct.{as_fields}
use denote.Struct.Tuple.{Tuple}
use denote.Triple.Entry.{alive}
use denote.Triple.Walked.{Stays, stay_dropped, walk_of}
use Rattle.core.proofs.alloc.Calls.{Goes-blank, handle_tells}
use Rattle.std.specs.Prelude.{Option, Some, None}
use Rattle.std.proofs.raw_atomic.Walks.{proved_at, leaves}
use Rattle.std_alloc.proofs.Pairs.{pair_of, pair_val}
use Rattle.std_alloc.specs.Box.Ownership.{box_owns}
use Rattle.std_heap.specs.contracts.Global as heap
use Rattle.std_heap.proofs.Global.TheLaws as heap_laws
use Rattle.std_heap.specs.contracts.GlobalAllocator.TheImpl.{ghosts}
use Rattle.mm_c.specs.Holds.{token, holds}
use Rattle.mm_c.proofs.Held.{slot_at, held_val, held_own, held_told, held_made}
use Rattle.mm_c.proofs.Values.{both, al, Loose, loose_good, loose_in}
use Rattle.mm_c.specs.contracts.owned.Owned as owned
use Rattle.mm_c.specs.contracts.handle.Held as held
use Rattle.mm_c.specs.contracts.handle.empty.{ended, clauses}
use Rattle.mm_c.specs.contracts.handle.empty.Key.{name as #self}
use Rattle.mm_c.proofs.handle.empty.Statement.{statement}
use Rattle.mm_c.proofs.handle.empty.Code as compiled

pub empty_spec : {M : Type 1} → statement M
empty_spec 𝓤 𝓛 𝓜 𝓡 wired =
    let H = 𝓛.H in
    let c = clauses 𝓛 𝓜.mem 𝓡.returns in
    let fn : Fn = compiled.function in
    let stays : Stays ended.signature.params ended.kept = (
      stay_dropped (slot_at 0 ended.signature.params) ended.kept.0,
      (stay_dropped (slot_at 1 ended.signature.params) ended.kept.1.0, tt),
    ) in
    let C = (tables 𝓤 H 𝓜 𝓡 𝓡.env).C in
    let Λ = (tables 𝓤 H 𝓜 𝓡 𝓡.env).Λ in
    let R : RattleType = owned.the_row in
    let Z : RattleType = heap.the_row in
    let LZ = heap_laws.the_row_laws in
    let Lr : RattleType = Loose R Z LZ ghosts in
    proved_at 𝓛 ended stays c 𝓜 𝓡 (
      Goes-blank 𝓛 0 (slot_at 0 ended.signature.params) ended.kept.0 (λ κs x f. tt),
      (Goes-blank 𝓛 0 (slot_at 1 ended.signature.params) ended.kept.1.0 (λ κs x f. tt), tt),
    ) #self fn
    (compiled.unfolded 𝓤 H 𝓜 𝓡 wired) (λ z are.
    let Post : Val → SProp 𝓤 = (walk_of 𝓛 ended stays c).post z in
    let h = z.0.3.0 in
    let a = z.0.3.1.0 in
    let vss = z.0.4 in
    let Asked : Type 0 = (x : R.Denot) × (h.value ≡ Some x) in
    qed 𝓛 ((raw (alive 𝓛 ended.signature z.0.0 z.0.1) ⊛ ‵ (owns
    (types_at ended.signature.params z.0.0) z.0.3 vss)) ∷ raw (fact 𝓤 Asked) ∷ []) ∵ move ! (1 ∷ []) $
    heard ! Asked (λ asked. let x = asked.0 in split ! $ move ! (1 ∷ []) $ fsplit ! $ fsplit ! $ drop ! $
    -- [what the handle owns; the allocator; alive]
    rewrite ! 0 (λ (v : Option R.Denot). ‵ (holds R h.at v)) asked.1 refl $
    in_a_block ! h.at (λ p. box_owns token R p x) (fst∗ 𝓤 (never 𝓤) (sem 𝓛 (token (bare (lone R.mir)) null_ptr)))
    (λ b o e.
    move ! (1 ∷ []) $ fsplit ! $ handle_tells (al R Z LZ ghosts) ! a vss.1.0 (λ hv ea fits.
    -- [the allocator; true; the box; alive]
    let told : vss.0 ≡ held_val (block_ptr b o) ∷ [] = held_told h.at vss.0 are.0.0 ∙ ap (λ
    (q : Ptr). held_val q ∷ []) e in
    regoal ! (λ (us : List Val). prop (WpFn 𝓤 H C Λ fn us Post)) (λ i. told i ++ (ea i ++ [])) refl $
    enter ! C Λ fn (held_val (block_ptr b o) ∷ hv ∷ []) Post $
    alloc_all ! (λ loc. pass_all ! refl ((tt, (tt, tt)), (fits, tt)) $
    sets ! (of_opd ! (get_in ! (fld ! refl (stop !)) (sub ! 0 refl (whole !)))) refl (tt, tt) $
    sets ! (agg ! (and_then ! (get ! refl) (no_more !))) refl (tt, (tt, tt)) $
    sets ! (of_opd ! (get ! refl)) refl (tt, tt) $
    sets ! (agg ! (and_then ! (get ! refl) (and_then ! (get ! refl) (no_more !)))) refl
    (loose_good R Z LZ ghosts b o hv fits) $
    let v : Val = held_val (block_ptr b o) in
    let w : Val = both (vptr b o) hv in
    sets ! (agg ! (and_then ! (get ! refl) (and_then ! (get ! refl) (no_more !)))) refl
    (as_fields (layout held.the_row ∷ layout Lr ∷ []) (v ∷ w ∷ []) (
      (tt, (tt, tt)),
      (loose_good R Z LZ ghosts b o hv fits, tt),
    )) $
    returns ! (look_at ! 0 refl) $ free_all ! refl $
    let dh : (held.the_row).Denot = record { at = block_ptr b o; value = None } in
    let dl : Lr.Denot = record { at = block_ptr b o; alloc = a; value = x } in
    move ! (2 ∷ 0 ∷ []) $ loose_in R Z LZ ghosts ! b o hv a x $
    nothing ! $ use0 𝓛 (‵ (held_own (block_ptr b o) (v ∷ []))) (held_made 𝓛 (block_ptr b o)) $ fjoin ! $
    use2 𝓛 (‵ ((Tuple (held.the_row ∷ Lr ∷ [])).own_val (dh, dl) (pair_val v w ∷ [])))
    (pair_of 𝓛 held.the_row Lr dh dl v w) $
    let Opened : Type 0 = h.value ≡ Some x in
    let Closed : Type 0 = dh.value ≡ None in
    use0 𝓛 (raw (fact 𝓤 Opened)) (fact_i 𝓤 Opened (emp 𝓤) asked.1) $
    use0 𝓛 (raw (fact 𝓤 Closed)) (fact_i 𝓤 Closed (emp 𝓤) refl) $ join ! $
    nothing ! $ nothing ! $ fjoin ! $ nothing ! $ fjoin ! $
    -- [has; said; the pair; true; alive]
    keep ! (4 ∷ 0 ∷ 2 ∷ 1 ∷ []) $
    by ! (leaves 𝓛 ended stays c z (pair_val v w) (dh, dl) (tt, (tt, tt)) (tt, (tt, tt))))))))
