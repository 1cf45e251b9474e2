-- Each command that looks for no place, scans nothing and frees nothing keeps a state good, if it isn't refused.
use Rattle.std.proofs.Common.{◌≡◌, ℕ, ◌<◌, Bool, false, ◌||◌, ◌∷◌, length, drop, Option, Some, None, refl, sym, ap, ◌∙◌}
use Rattle.std.proofs.Common.{subst, arith}
use Rattle.std.proofs.lemmas.Bool.Decides.{nat_tests}
use Rattle.std.specs.Prelude.{IfSome, slice_get, nat_le}
use Rattle.std.specs.Option.{option_map_or, option_and_then}
use Rattle.mm_model.specs.declared.command.Command.{Command}
use Rattle.mm_model.specs.declared.command.Command.TheVariants as commands
use Rattle.mm_model.specs.declared.refusal.Refusal.TheVariants as refusals
use Rattle.mm_model.specs.Value.{Value, reference}
use Rattle.mm_model.specs.Object.{Object}
use Rattle.mm_model.specs.State.{State, Area, Lives}
use Rattle.mm_model.specs.Words.{slot_kind, cell_kind}
use Rattle.mm_model.specs.Meaning.{meant_at, object_meant}
use Rattle.mm_model.specs.Areas.{area_at}
use Rattle.mm_model.specs.Store.{refuses_word}
use Rattle.mm_model.specs.Refusing.{refusal, no_cell, no_area, means_nothing, has_no_slot, refuses_in_slot}
use Rattle.mm_model.specs.Refusing.{has_no_area_cell, refuses_in_cell, word_at}
use Rattle.mm_model.specs.Effect.{Effect, pushes, with_some, look_effect, put_effect, area_put_effect, plain_effect}
use Rattle.mm_model.specs.Good.{IsReferring, IsPaired, IsGood}
use Rattle.mm_model.proofs.Good.Writing.AreaStores.{area_stands, area_put_is_good}
use Rattle.mm_model.proofs.Good.Around.{good-stack}
use Rattle.mm_model.proofs.Good.Beginning.{begun_is_good}
use Rattle.mm_model.proofs.Good.Writing.CountedStores.{any_put_is_good}
use Rattle.mm_model.proofs.Places.Falling.{falls_at_base}
use Rattle.mm_model.proofs.Good.Living.{lives_extent}
use Rattle.mm_model.proofs.Good.OtherAreas.{dropped_is_good}
use Rattle.mm_model.proofs.Good.Meanings.{is_meant, refers_at}
use Rattle.mm_model.proofs.Good.Allowed.{all_allowed, word_at-value, inner_refers}
use Rattle.mm_model.proofs.Lists.Parts.{each_drop}

-- a test that doesn't hold of what was found
fails_of : {X : Type 0} (test : X → Bool) (found : Option X) (x : X) → option_map_or test found false ≡ false
    → found ≡ Some x → test x ≡ false
fails_of test found x e is = ap (λ f. option_map_or test f false) (sym is) ∙ e

below : (s n : ℕ) → nat_le n s ≡ false → s < n
below s n e = grind (arith, nat_tests)

module _ (a : State) (good : IsGood a) where
  some_is_good : {X : Type 0} (found : Option X) (effect : X → Effect)
      → ((x : X) → found ≡ Some x → IsGood (effect x).state) → IsGood (with_some found a effect).state
  some_is_good None effect h = good
  some_is_good (Some x) effect h = h x refl

  pushed_is_good : (value : Value) → IsReferring a value → IsGood (pushes value a).state
  pushed_is_good value refers = good-stack a (value ∷ a.stack) good (refers, good.referred.stack)

  get_is_good : (i s : ℕ) → IsGood (plain_effect a (commands.Get i s)).state
  get_is_good i s =
      some_is_good (object_meant a i) _
      (λ object is.
      some_is_good (slice_get object.slots s) _
      (λ value e.
      let one = is_meant a good i object is in
      pushed_is_good value (good.referred.slots one.0 object one.1.lives s value e).refers))

  put_is_good : (i s j : ℕ) → refusal a (commands.Put i s j) ≡ None → IsGood (plain_effect a (commands.Put i s j)).state
  put_is_good i s j allowed =
      let row = all_allowed (no_cell a i || no_cell a j) (means_nothing a i) (has_no_slot a i s)
      (refuses_in_slot a i s j) refusals.NoCell refusals.Nothing refusals.NoSlot refusals.NotCounted allowed in
      some_is_good (meant_at a i) _
      (λ birth meant.
      some_is_good (slice_get a.objects birth) _
      (λ object is.
      some_is_good (slice_get a.stack j) (put_effect a birth object s)
      (λ value cell.
      let found : object_meant a i ≡ Some object = ap (option_and_then (slice_get a.objects)) meant ∙ is in
      let one = is_meant a good i object found in
      let first = one.1.meant_is in
      let same : one.0 ≡ birth = cc in
      any_put_is_good a good birth object (subst (λ n. Lives a n object) same one.1.lives) s value
      (refers_at a good j value cell)
      (below s (length object.slots)
      (fails_of (λ (o : Object). nat_le (length o.slots) s) (object_meant a i) object row.third_is found))
      (ap (refuses_word a (slot_kind object s)) (sym (word_at-value a j value cell))
      ∙ fails_of (λ (o : Object). refuses_word a (slot_kind o s) (word_at a j)) (object_meant a i) object row.fourth_is
      found))))

  -- the partner of an object lives, and a reference to it falls in it
  look_is_good : (i : ℕ) → IsGood (plain_effect a (commands.Look i)).state
  look_is_good i =
      some_is_good (object_meant a i) _
      (λ object is.
      let one = is_meant a good i object is in
      split one.0 object object.partner (good.paired one.0 object one.1.lives))
    where
      split : (birth : ℕ) (object : Object) (partner : Option ℕ) → IfSome partner (IsPaired a birth object)
          → IsGood (look_effect a partner).state
      split birth object None h = pushed_is_good _ tt
      split birth object (Some target) h =
          some_is_good (slice_get a.objects target) _
          (λ other is.
          let first = h.lives.is in
          let same : h.partner ≡ other = cc in
          let lives = subst (Lives a target) same h.lives in
          pushed_is_good (reference other.base target)
          (other, lives, falls_at_base other.base other.extent (lives_extent a good.placed target other lives)))

  area_get_is_good : (number s : ℕ) → IsGood (plain_effect a (commands.AreaGet number s)).state
  area_get_is_good number s =
      some_is_good (area_at a number) _
      (λ area is.
      some_is_good (slice_get area.cells s) _
      (λ value e.
      let stands = area_stands a number area is in
      pushed_is_good value (good.referred.cells stands.0 area stands.1 s value e).refers))

  area_put : (number s j : ℕ) → refusal a (commands.AreaPut number s j) ≡ None
      → IsGood (plain_effect a (commands.AreaPut number s j)).state
  area_put number s j allowed =
      let row = all_allowed (no_cell a j) (no_area a number) (has_no_area_cell a number s)
      (refuses_in_cell a number s j) refusals.NoCell refusals.NoArea refusals.NoSlot refusals.NotCounted allowed in
      some_is_good (area_at a number) _
      (λ area is.
      some_is_good (slice_get a.stack j) (area_put_effect a area s)
      (λ value cell.
      let stands = area_stands a number area is in
      area_put_is_good a good stands.0 area stands.1 s value (refers_at a good j value cell)
      (below s (length area.cells)
      (fails_of (λ (x : Area). nat_le (length x.cells) s) (area_at a number) area row.third_is is))
      (ap (refuses_word a (cell_kind area s)) (sym (word_at-value a j value cell))
      ∙ fails_of (λ (x : Area). refuses_word a (cell_kind x s) (word_at a j)) (area_at a number) area row.fourth_is
      is)))

  by_command : (command : Command) → refusal a command ≡ None → IsGood (plain_effect a command).state
  by_command (commands.New shape) allowed = good
  by_command (commands.Push word) allowed = pushed_is_good _ tt
  by_command (commands.Dup i) allowed =
      some_is_good (slice_get a.stack i) _ (λ value e. pushed_is_good value (refers_at a good i value e))
  by_command (commands.Pop k) allowed =
      good-stack a (drop k a.stack) good (each_drop (IsReferring a) k a.stack good.referred.stack)
  by_command (commands.Inner i bytes) allowed =
      some_is_good (slice_get a.stack i) _ (λ value e. pushed_is_good _ (inner_refers a good i bytes allowed value e))
  by_command (commands.Get i s) allowed = get_is_good i s
  by_command (commands.Put i s j) allowed = put_is_good i s j allowed
  by_command (commands.Weak i) allowed = good
  by_command (commands.Look i) allowed = look_is_good i
  by_command (commands.Root counted cells) allowed = good
  by_command (commands.Fixed cells) allowed = good
  by_command (commands.DropArea number) allowed = dropped_is_good a number good
  by_command (commands.AreaGet number s) allowed = area_get_is_good number s
  by_command (commands.AreaPut number s j) allowed = area_put number s j allowed
  by_command commands.Reap allowed = good
  by_command commands.Collect allowed = good
  by_command commands.Begin allowed = begun_is_good a good
  by_command (commands.Step k) allowed = good
  by_command commands.Finish allowed = good
  by_command (commands.Map i) allowed = good
  by_command commands.Stat allowed = good

pub plain_is_good : (a : State) (command : Command) → IsGood a → refusal a command ≡ None
    → IsGood (plain_effect a command).state
plain_is_good a command good allowed = by_command a good command allowed
