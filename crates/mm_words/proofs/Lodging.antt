-- A run's words go to a vector and come back, at a call. Assumes `Logic`.
use Rattle.std.proofs.Common.{◌≡◌, ℕ, ◌^◌, ◌<◌, ◌≤◌, List, [], ◌∷◌, length, refl, arith, w64}
use seplogic.Ra.Ura.{Ura}
use mir.Val.{Val, vint, vptr}
use base.Logic.{SProp, ent, emp}
use base.Fraction.{full_share}
use base.Fml.{flft}
use prog.Memory.{Memory}
use prog.Routine.{Routine}
use types.Logic.{Logic, sem}
use types.Kit.{‵, raw, ◌$◌, ◌∵◌, !, qed, use0, join, fjoin, feq_i, flt_i, done}
use contract.Monad.{Fun, fact, fact_i}
use contract.BorrowLft.{◌⊑◌, ⊑_refl}
use denote.Builtin.{u32}
use denote.Param.Laws.{Laws, param_laws}
use denote.RattleType.{RattleType}
use denote.RawPtr.{block_ptr}
use denote.Steps.{nothing}
use Rattle.std_alloc.specs.Vec.Ownership.{lodged}
use Rattle.std_collections.proofs.TreeMemory.Lodging.{Row, row_laws, Lodges, at_lodge}
use Rattle.mm_words.specs.Ownership.{word}
use Rattle.mm_words.proofs.Runs.{word_laws}

-- a vector of words
abbrev pub Vector : RattleType
Vector = Row word

pub vector_laws : Laws Vector
vector_laws = row_laws word (param_laws 0 u32 word_laws)

module _ {M : Type 1} {𝓤 : Ura M} (𝓛 : Logic 𝓤) (at_mem : Memory → SProp 𝓤) (run : Routine → Fun 𝓤) where
  pub lodge_goes : (b o n c : ℕ) (xs : List ℕ) → n ≡ length xs → n ≤ c → c < 2 ^ 32
      → ent 𝓤 (sem 𝓛 (lodged word (block_ptr b o) n c xs)) ((Lodges u32 𝓛 at_mem run).pre
      (at_lodge u32 𝓛 at_mem run b o n c xs))
  lodge_goes b o n c xs e le few =
      let Asked : Type 0 = (n ≡ length xs) × (n ≤ c) × (c < 2 ^ 63) in
      qed 𝓛 (‵ (lodged word (block_ptr b o) n c xs) ∷ []) ∵
      use0 𝓛 (raw (fact 𝓤 Asked)) (fact_i 𝓤 Asked (emp 𝓤) (e, le, omega arith)) $ join ! $
      use0 𝓛 (raw (fact 𝓤 ([] ⊑ []))) (fact_i 𝓤 ([] ⊑ []) (emp 𝓤) (⊑_refl [])) $ join ! $
      nothing ! $ flt_i ! c (2 ^ 64) (omega arith) $ feq_i ! (List Val) (vint w64 c ∷ []) (vint w64 c ∷ []) refl $
      fjoin ! $ fjoin ! $
      flt_i ! n (2 ^ 64) (omega arith) $ feq_i ! (List Val) (vint w64 n ∷ []) (vint w64 n ∷ []) refl $ fjoin ! $
      fjoin ! $
      feq_i ! (List Val) (vptr b o ∷ []) (vptr b o ∷ []) refl $ fjoin ! $ nothing ! $
      use0 𝓛 (‵ (flft [] full_share)) (𝓛.lfts.lft-nil full_share) $ join ! $ join ! $ done !
