-- How often objects are referenced from counted places, and which are zero-count objects.
use Rattle.std.specs.Prelude.{ℕ, Bool, not, ◌&&◌, ◌||◌, ◌==◌, nat_le, map}
use Rattle.std.specs.List.{list_any, count_by}
use Rattle.mm_model.specs.Object.{Object, is_live, is_counted}
use Rattle.mm_model.specs.State.{State}
use Rattle.mm_model.specs.Words.{counted_words}

-- how many counted places hold this base
abbrev pub refs : State → ℕ → ℕ
refs a base = count_by (λ word. word == base) (counted_words a)

-- a live counted object that isn't sticky and that no counted place holds
abbrev pub is_zero_count : State → Object → Bool
is_zero_count a object =
    is_live object && is_counted object.kind && not object.sticky && refs a object.base == 0

abbrev pub zero_count : State → ℕ
zero_count a = count_by (is_zero_count a) a.objects

-- whether a live counted object begins at the word
abbrev pub begins_counted : ℕ → Object → Bool
begins_counted word object = is_live object && is_counted object.kind && object.base == word

abbrev pub names_counted : State → ℕ → Bool
names_counted a word = list_any (begins_counted word) a.objects

-- The object at this base becomes sticky, for good, where 255 counted places hold it.
abbrev pub made_sticky : State → ℕ → Object → Object
made_sticky a base object =
    record object { sticky = object.sticky || (begins_counted base object && nat_le 255 (refs a base)) }

abbrev pub with_sticky : ℕ → State → State
with_sticky base a = record a { objects = map (made_sticky a base) a.objects }
