-- The machine value of a handle: what is owned tells it, and is made of nothing. Assumes `Logic`.
use Rattle.std.proofs.Common.{◌≡◌, ℕ, List, [], ◌∷◌, ◌++◌, ◌∙◌, refl, zero, suc}
use mathlib.Core.Bool.{true, ◌&&◌}
use lib.Dec.{T}
use seplogic.Ra.Ura.{Ura}
use mir.Syntax.{ty_ptr}
use mir.Val.{Val, vstruct, vcons, vnil, of_list, has_ty, WT}
use base.Logic.{ent, emp}
use base.Fml.{Fml}
use types.Logic.{Logic, sem}
use denote.RattleType.{RattleType}
use denote.Builtin.{unit}
use denote.RawPtr.{Ptr, RawPtr, ptr_val}
use denote.Shadow.{shadow, makes_shadow}
use denote.Signature.{Slot, plain}
use denote.Struct.Struct.{Struct}
use Rattle.core.proofs.atomic.Steps.{Ptr-Good}
use Rattle.std_alloc.proofs.ResultValues.{and_tt}

abbrev pub plainly : List RattleType → RattleType
plainly Rs = Struct (record { name = []; args = []; types = []; fields = Rs })

abbrev pub slot_at : {n : ℕ} → ℕ → List (Slot n) → Slot n
slot_at k [] = plain (λ _. unit)
slot_at zero (s ∷ ss) = s
slot_at (suc k) (s ∷ ss) = slot_at k ss

abbrev pub held_val : Ptr → Val
held_val p = vstruct (vcons (ptr_val p) vnil)

abbrev pub held_own : Ptr → List Val → Fml
held_own p = (plainly (RawPtr ∷ [])).own_val (p, tt)

pub held_told : (p : Ptr) (vs : List Val) → shadow (held_own p vs) → vs ≡ held_val p ∷ []
held_told p vs s = s.1.0 ∙ (λ i. vstruct (of_list (s.1.1.0 i ++ [])) ∷ [])

pub held_made : {M : Type 1} {𝓤 : Ura M} (𝓛 : Logic 𝓤) (p : Ptr) → ent 𝓤 (emp 𝓤) (sem 𝓛 (held_own p (held_val p ∷ [])))
held_made 𝓛 p = makes_shadow 𝓛 (held_own p (held_val p ∷ [])) (λ _. (tt, (tt, tt))) (
  (ptr_val p ∷ [], tt),
  (
    refl,
    (refl, tt),
  ),
)

pub held_good : (p : Ptr) → T (has_ty ty_ptr (ptr_val p) && true) × WT (held_val p)
held_good p = (and_tt (has_ty ty_ptr (ptr_val p)) (Ptr-Good p).0, ((Ptr-Good p).1, tt))
