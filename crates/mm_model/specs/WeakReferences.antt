-- Which object a weak reference was made for.
use Rattle.std.specs.Prelude.{◌≡◌, ℕ, IsTrue, Some, None, slice_get}
use Rattle.mm_model.specs.Object.{Object, is_weak}
use Rattle.mm_model.specs.State.{State}
use Rattle.mm_model.specs.Logs.Course.{IsGone}

-- The weak reference has the target as its partner. Or it is empty, and the target was freed.
pub data IsTarget (a : State) (weak : Object) (target : ℕ) : Type 0 where
  Partner : weak.partner ≡ Some target → IsTarget a weak target
  Freed : weak.partner ≡ None → IsGone a target → IsTarget a weak target

-- The object with the first birth number, freed or not, is a weak reference whose target is that with the second.
pub record IsMadeFor (a : State) (weak target : ℕ) : Type 0 where
  pub object : Object
  pub is : slice_get a.objects weak ≡ Some object
  pub is_weak : IsTrue (is_weak object.kind)
  pub of_target : IsTarget a object target
