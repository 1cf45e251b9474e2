-- What the commands that push, pop, read and count do to a view, they do to its state.
use Rattle.std.proofs.Common.{◌≡◌, ℕ, Option, Some, None, refl, sym, ap, ◌∙◌, subst}
use Rattle.std.proofs.lemmas.List.{length-map}
use Rattle.std.proofs.lemmas.Option.{slice_get-map}
use Rattle.std.specs.Prelude.{IfSome, slice_get}
use Rattle.std.specs.List.{drop-map}
use Rattle.std.specs.Option.{option_map, option_and_then}
use Rattle.mm_model.specs.declared.command.Command.TheVariants as commands
use Rattle.mm_model.specs.declared.reply.Reply.TheVariants as replies
use Rattle.mm_model.specs.Value.{Value, words_of, reference}
use Rattle.mm_model.specs.Object.{Object}
use Rattle.mm_model.specs.State.{State}
use Rattle.mm_model.specs.Meaning.{meant_at, object_meant}
use Rattle.mm_model.specs.Effect.{Effect, pushes, with_some, look_effect, map_reply, plain_effect}
use Rattle.mm_model.specs.Good.{IsPaired, IsGood}
use Rattle.mm_model.specs.Views.ByBase.{Based}
use Rattle.mm_model.specs.Views.ObjectView.{ObjectView}
use Rattle.mm_model.specs.Views.View.{base_of, seen_area, view_of}
use Rattle.mm_model.specs.Views.ViewWords.{view_meant}
use Rattle.mm_model.specs.Views.ViewEffect.{ViewEffect, with_found, view_look_effect, view_map_reply, view_plain_effect}
use Rattle.mm_model.proofs.View.ByBase.Seen.{seen_based}
use Rattle.mm_model.proofs.View.Words.{view_zero_count-seen}
use Rattle.mm_model.proofs.View.Room.{view_free_pages-seen}
use Rattle.mm_model.proofs.View.Meaning.{based_birth, view_meant-seen}
use Rattle.mm_model.proofs.Good.Meanings.{IsMeant, is_meant_at}
use Rattle.mm_model.proofs.View.Commands.SameEffects.{SameEffect, nothing-same, found-same}

module _ (a : State) where
  -- an effect on the word of a cell, and one on its value
  pub cell-same : (i : ℕ) (on_word : ℕ → ViewEffect) (on_value : Value → Effect)
      → ((value : Value) → slice_get a.stack i ≡ Some value → SameEffect (on_word value.word) (on_value value))
      → SameEffect (with_found (slice_get (words_of a.stack) i) (view_of a) on_word)
      (with_some (slice_get a.stack i) a on_value)
  cell-same i on_word on_value same =
      found-same a (λ value. value.word) (slice_get (words_of a.stack) i) (slice_get a.stack i)
      (slice_get-map (λ (value : Value). value.word) a.stack i) on_word on_value same

  pub push-seen : (word : ℕ)
      → SameEffect (view_plain_effect (view_of a) (commands.Push word)) (plain_effect a (commands.Push word))
  push-seen word = record { view = refl; reply = refl }

  pub dup-seen : (i : ℕ)
      → SameEffect (view_plain_effect (view_of a) (commands.Dup i)) (plain_effect a (commands.Dup i))
  dup-seen i = cell-same i _ _ (λ value e. record { view = refl; reply = refl })

  pub pop-seen : (k : ℕ)
      → SameEffect (view_plain_effect (view_of a) (commands.Pop k)) (plain_effect a (commands.Pop k))
  pop-seen k =
      record {
        view = ap (λ stack. record (view_of a) { stack = stack }) (drop-map (λ (v : Value). v.word) k a.stack);
        reply = refl;
      }

  pub inner-seen : (i bytes : ℕ)
      → SameEffect (view_plain_effect (view_of a) (commands.Inner i bytes)) (plain_effect a (commands.Inner i bytes))
  inner-seen i bytes = cell-same i _ _ (λ value e. record { view = refl; reply = refl })

module _ (a : State) (good : IsGood a) where
  -- an effect on the object that a cell means, in words and with its birth number
  pub meant_birth-same : (i : ℕ) (on_seen : Based ObjectView → ViewEffect) (on_own : ℕ → Object → Effect)
      → ((birth : ℕ) (object : Object) → IsMeant a i birth object
      → SameEffect (on_seen (seen_based a birth object)) (on_own birth object))
      → SameEffect (with_found (view_meant (view_of a) i) (view_of a) on_seen)
      (with_some (meant_at a i) a (λ birth. with_some (slice_get a.objects birth) a (on_own birth)))
  meant_birth-same i on_seen on_own same =
      subst
      (λ found. SameEffect (with_found found (view_of a) on_seen)
      (with_some (meant_at a i) a (λ birth. with_some (slice_get a.objects birth) a (on_own birth))))
      (sym (view_meant-seen a good i)) (split (meant_at a i) refl)
    where
      split : (found : Option ℕ) → meant_at a i ≡ found
          → SameEffect (with_found (option_and_then (based_birth a) found) (view_of a) on_seen)
          (with_some found a (λ birth. with_some (slice_get a.objects birth) a (on_own birth)))
      split None e = nothing-same a
      split (Some birth) e =
          let one = is_meant_at a good i birth e in
          subst
          (λ found. SameEffect (with_found (option_map (seen_based a birth) found) (view_of a) on_seen)
          (with_some found a (on_own birth))) (sym one.1.lives.is) (same birth one.0 one.1)

  pub meant-same : (i : ℕ) (on_seen : Based ObjectView → ViewEffect) (on_own : Object → Effect)
      → ((birth : ℕ) (object : Object) → IsMeant a i birth object
      → SameEffect (on_seen (seen_based a birth object)) (on_own object))
      → SameEffect (with_found (view_meant (view_of a) i) (view_of a) on_seen) (with_some (object_meant a i) a on_own)
  meant-same i on_seen on_own same =
      subst (SameEffect (with_found (view_meant (view_of a) i) (view_of a) on_seen)) (join (meant_at a i))
      (meant_birth-same i on_seen (λ birth object. on_own object) same)
    where
      join : (found : Option ℕ)
          → with_some found a (λ birth. with_some (slice_get a.objects birth) a on_own)
          ≡ with_some (option_and_then (slice_get a.objects) found) a on_own
      join None = refl
      join (Some birth) = refl

  pub get_slot-seen : (i s : ℕ)
      → SameEffect (view_plain_effect (view_of a) (commands.Get i s)) (plain_effect a (commands.Get i s))
  get_slot-seen i s =
      meant-same i _ _ (λ birth object one.
      found-same a (λ value. value.word) (slice_get (words_of object.slots) s) (slice_get object.slots s)
      (slice_get-map (λ (value : Value). value.word) object.slots s) _ _
      (λ value e. record { view = refl; reply = refl }))

  -- the target of a weak reference, or 0
  look_effect-seen : (birth : ℕ) (object : Object) (partner : Option ℕ) → IfSome partner (IsPaired a birth object)
      → SameEffect (view_look_effect (view_of a) (option_and_then (base_of a) partner)) (look_effect a partner)
  look_effect-seen birth object None paired = record { view = refl; reply = refl }
  look_effect-seen birth object (Some target) paired =
      subst
      (λ found. SameEffect (view_look_effect (view_of a) (option_map (λ (o : Object). o.base) found))
      (with_some found a (λ object. pushes (reference object.base target) a)))
      (sym paired.lives.is) (record { view = refl; reply = refl })

  pub look-seen : (i : ℕ)
      → SameEffect (view_plain_effect (view_of a) (commands.Look i)) (plain_effect a (commands.Look i))
  look-seen i =
      meant-same i _ _ (λ birth object one.
      look_effect-seen birth object object.partner (good.paired birth object one.lives))

  pub map-seen : (i : ℕ)
      → SameEffect (view_plain_effect (view_of a) (commands.Map i)) (plain_effect a (commands.Map i))
  map-seen i = record { view = refl; reply = ap view_map_reply (view_meant-seen a good i) ∙ split (meant_at a i) }
    where
      second : (birth : ℕ) (found : Option Object)
          → view_map_reply (option_map (seen_based a birth) found) ≡ map_reply found
      second birth None = refl
      second birth (Some object) = refl

      split : (found : Option ℕ)
          → view_map_reply (option_and_then (based_birth a) found)
          ≡ map_reply (option_and_then (slice_get a.objects) found)
      split None = refl
      split (Some birth) = second birth (slice_get a.objects birth)

  pub stat-seen : SameEffect (view_plain_effect (view_of a) commands.Stat) (plain_effect a commands.Stat)
  stat-seen =
      let zero = view_zero_count-seen a good.placed in
      let areas = length-map a.areas seen_area in
      let free = view_free_pages-seen a good.placed in
      record {
        view = refl;
        reply = λ t.
            replies.Stat (record { objects = (view_of a).totals.live; zero = zero t; areas = areas t; free = free t });
      }
