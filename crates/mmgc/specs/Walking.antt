-- The work of the objects of a view, counted up by ascending base.
use Rattle.std.specs.Prelude.{◌≡◌, ℕ, ◌+◌, ◌<◌, if◌then◌else◌, nat_lt, length}
use Rattle.std.specs.List.{sum_by}
use Rattle.mm_model.specs.Views.ByBase.{Begins, based}
use Rattle.mm_model.specs.Views.ObjectView.{ObjectView, ObjectsByBase, scanned_words_of}

-- one for an object, and one for each of its scanned slots
abbrev pub object_work : ObjectView → ℕ
object_work object = 1 + length (scanned_words_of object)

-- the work of the objects that begin below an address
abbrev pub work_below : ℕ → ObjectsByBase → ℕ
work_below end objects = sum_by (λ o. if nat_lt o.base end then object_work o.value else 0) (based objects)

-- it is the work of all of them
pub record IsWalked (objects : ObjectsByBase) (work : ℕ) : Type 0 where
  pub end : ℕ
  pub behind_all : (base : ℕ) (object : ObjectView) → Begins objects base object → base < end
  pub work_is : work ≡ work_below end objects
