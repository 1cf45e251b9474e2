-- What becomes sticky where one more counted place holds a base.
use Rattle.std.specs.Prelude.{ℕ, ◌==◌, ◌&&◌, ◌||◌, nat_le, Option, Some}
use Rattle.mm_model.specs.Object.{is_counted}
use Rattle.mm_model.specs.Views.ByBase.{changed}
use Rattle.mm_model.specs.Views.ObjectView.{ObjectView, ObjectsByBase}
use Rattle.mm_model.specs.Views.SetsByBase.{count_at}

-- The object at this base becomes sticky, for good, where 255 counted places hold it.
abbrev pub made_sticky : ObjectsByBase → (ℕ → ℕ) → ℕ → ℕ → ObjectView → Option ObjectView
made_sticky objects outside word base object =
    Some (record object {
      sticky = object.sticky ||
          (is_counted object.kind && base == word && nat_le 255 (count_at objects outside base));
    })

abbrev pub with_sticky : (ℕ → ℕ) → ℕ → ObjectsByBase → ObjectsByBase
with_sticky outside word objects = changed (made_sticky objects outside word) objects
