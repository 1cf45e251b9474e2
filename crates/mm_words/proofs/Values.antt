-- The machine values of the crate's structs: what is owned tells them, and is made of nothing. Assumes `Logic`.
use Rattle.std.proofs.Common.{◌≡◌, ℕ, ◌^◌, ◌<◌, List, [], ◌∷◌, ◌++◌, ◌∙◌, w32, refl, zero, suc}
use seplogic.Ra.Ura.{Ura}
use mir.Val.{Val, vint, vstruct, vcons, vnil, of_list}
use base.Logic.{ent, emp}
use base.Fml.{Fml}
use types.Logic.{Logic, sem}
use denote.RattleType.{RattleType}
use denote.Builtin.{u32, unit}
use denote.RawPtr.{Ptr, RawPtr, ptr_val}
use denote.Shadow.{shadow, makes_shadow}
use denote.Signature.{Slot, plain}
use denote.Struct.Struct.{Struct}

-- a struct by its fields alone: what it owns does not read its name
abbrev pub plainly : List RattleType → RattleType
plainly Rs = Struct (record { name = []; args = []; types = []; fields = Rs })

abbrev pub slot_at : {n : ℕ} → ℕ → List (Slot n) → Slot n
slot_at k [] = plain (λ _. unit)
slot_at zero (s ∷ ss) = s
slot_at (suc k) (s ∷ ss) = slot_at k ss

-- a `Run` or a `Loan`
abbrev pub run_val : Ptr → ℕ → Val
run_val p n = vstruct (vcons (ptr_val p) (vcons (vint w32 n) vnil))

abbrev pub run_own : Ptr → ℕ → List Val → Fml
run_own p n = (plainly (RawPtr ∷ u32 ∷ [])).own_val (p, (n, tt))

pub run_told : (p : Ptr) (n : ℕ) (vs : List Val) → shadow (run_own p n vs) → (vs ≡ run_val p n ∷ []) × (n < 2 ^ 32)
run_told p n vs s = (s.1.0 ∙ (λ i. vstruct (of_list (s.1.1.0 i ++ (s.1.1.1.0.0 i ++ []))) ∷ []), s.1.1.1.0.1)

pub run_made : {M : Type 1} {𝓤 : Ura M} (𝓛 : Logic 𝓤) (p : Ptr) (n : ℕ) → (n < 2 ^ 32)
    → ent 𝓤 (emp 𝓤) (sem 𝓛 (run_own p n (run_val p n ∷ [])))
run_made 𝓛 p n f = makes_shadow 𝓛 (run_own p n (run_val p n ∷ [])) (λ _. (tt, (tt, ((tt, tt), tt))))
    ((ptr_val p ∷ [], (vint w32 n ∷ [], tt)), (refl, (refl, ((refl, f), tt))))

-- a `Allocation`
abbrev pub allocation_val : Ptr → ℕ → Val
allocation_val p n = vstruct (vcons (ptr_val p) (vcons (vint w32 n) (vcons (vstruct vnil) vnil)))

abbrev pub allocation_own : Ptr → ℕ → List Val → Fml
allocation_own p n = (plainly (RawPtr ∷ u32 ∷ plainly [] ∷ [])).own_val (p, (n, (tt, tt)))

pub allocation_told : (p : Ptr) (n : ℕ) (vs : List Val) → shadow (allocation_own p n vs)
    → (vs ≡ allocation_val p n ∷ []) × (n < 2 ^ 32)
allocation_told p n vs s = (
  s.1.0 ∙ (λ i. vstruct (of_list (s.1.1.0 i ++ (s.1.1.1.0.0 i ++
      (s.1.1.1.1.0.1.0 i ++ [])))) ∷ []),
  s.1.1.1.0.1,
)

pub allocation_made : {M : Type 1} {𝓤 : Ura M} (𝓛 : Logic 𝓤) (p : Ptr) (n : ℕ) → (n < 2 ^ 32)
    → ent 𝓤 (emp 𝓤) (sem 𝓛 (allocation_own p n (allocation_val p n ∷ [])))
allocation_made 𝓛 p n f = makes_shadow 𝓛 (allocation_own p n (allocation_val p n ∷ []))
    (λ _. (tt, (tt, ((tt, tt), ((λ _. (tt, tt)), tt))))) (
      (
        ptr_val p ∷ [],
        (
          vint w32 n ∷ [],
          (vstruct vnil ∷ [], tt),
        ),
      ),
      (refl, (refl, ((refl, f), ((tt, (refl, tt)), tt)))),
    )

-- an `AllocError`
pub none_made : {M : Type 1} {𝓤 : Ura M} (𝓛 : Logic 𝓤) → ent 𝓤 (emp 𝓤)
    (sem 𝓛 ((plainly []).own_val tt (vstruct vnil ∷ [])))
none_made 𝓛 = makes_shadow 𝓛 ((plainly []).own_val tt (vstruct vnil ∷ [])) (λ _. (tt, tt)) (tt, (refl, tt))
