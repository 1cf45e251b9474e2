-- What references on the stack mean, and what is read through them.
use Rattle.std.proofs.Common.{◌≡◌, ℕ, ◌<◌, ◌≤◌, Bool, true, false, not, ⊎_elim, get_or, List, [], ◌∷◌, ◌++◌, length}
use Rattle.std.proofs.Common.{Some, None, ap, ◌∙◌, subst}
use Rattle.std.proofs.Common.{arith}
use Rattle.std.proofs.lemmas.Bool.Decides.{nat_tests}
use Rattle.std.proofs.lemmas.Option.{slice_get_within, slice_get_cases}
use Rattle.std.specs.Prelude.{IsTrue, IfSome, is_some, nat_le, slice_get}
use Rattle.std.specs.Option.{option_and_then, option_or, option_map_or}
use Rattle.mm_model.specs.declared.command.Command.TheVariants as commands
use Rattle.mm_model.specs.declared.refusal.Refusal.TheVariants as refusals
use Rattle.mm_model.specs.declared.reply.Reply.TheVariants as replies
use Rattle.mm_model.specs.declared.line.Line.{Line}
use Rattle.mm_model.specs.declared.line.Line.TheVariants as lines
use Rattle.mm_model.specs.Value.{Value}
use Rattle.mm_model.specs.Object.{Object}
use Rattle.mm_model.specs.State.{State, Lives}
use Rattle.mm_model.specs.Words.{falls}
use Rattle.mm_model.specs.Meaning.{resolved, meant, object_meant}
use Rattle.mm_model.specs.Refusing.{first_refusal, refusal, means_nothing, has_no_slot, is_stack_full}
use Rattle.mm_model.specs.Effect.{Effect, pushes, with_some, plain_effect}
use Rattle.mm_model.specs.Good.{IsReferring, IsGood}
use Rattle.mm_model.specs.Step.{IsStepUnless, IsCarriedOut, IsStep}
use Rattle.mm_model.proofs.Lists.Keyed.{refuted}
use Rattle.mm_model.proofs.Good.Living.{each_get}
use Rattle.mm_model.proofs.Good.Meanings.{resolved-lives}

module _ (a : State) (i birth : ℕ) (value : Value) (good : IsGood a) (cell : slice_get a.stack i ≡ Some value)
    (origin : value.origin ≡ Some birth) where
  origin_lives : (object : Object) × Lives a birth object × IsTrue (falls value.word object.base object.extent)
  origin_lives =
      subst
      (λ o. IfSome o (λ n. (x : Object) × Lives a n x × IsTrue (falls value.word x.base x.extent)))
      origin (each_get (IsReferring a) a.stack i value good.referred.stack cell)

  pub lives-reference : (object : Object) × Lives a birth object
  lives-reference = (origin_lives.0, origin_lives.1)

  pub resolved-reference : resolved a value.word ≡ Some birth
  resolved-reference = resolved-lives a good.placed birth origin_lives.0 value.word origin_lives.1 origin_lives.2

-- an index at which something stands isn't past the end
pub within-get : {X : Type 0} (xs : List X) (k : ℕ) (x : X) → slice_get xs k ≡ Some x → nat_le (length xs) k ≡ false
within-get xs k x e =
    refuted (nat_le (length xs) k) (λ p.
    let less = slice_get_within xs k x e in
    let past : length xs ≤ k = grind (arith, nat_tests) in
    omega arith)

pub past-get : {X : Type 0} (xs : List X) (k : ℕ) → slice_get xs k ≡ None → nat_le (length xs) k ≡ true
past-get {X = X} xs k e =
    ⊎_elim
    (λ (l : (x : X) × (k < length xs) × (slice_get xs k ≡ Some x) × (get_or xs k x ≡ x)).
    let first = l.2 in cc)
    (λ (r : (length xs ≤ k) × (slice_get xs k ≡ None)). let past = r.0 in grind (arith, nat_tests))
    (slice_get_cases xs k).1

module _ (a : State) (i s birth : ℕ) (value : Value) (object : Object) (read : Value)
    (cell : slice_get a.stack i ≡ Some value) (origin : value.origin ≡ Some birth)
    (is : slice_get a.objects birth ≡ Some object) (slot : slice_get object.slots s ≡ Some read)
    (room : is_stack_full a ≡ false) where
  meant_object : object_meant a i ≡ Some object
  meant_object =
      ap (λ c. option_and_then (slice_get a.objects) (option_and_then (meant a) c)) cell
      ∙ ap (λ o. option_and_then (slice_get a.objects) (option_or o (resolved a value.word))) origin ∙ is

  allowed : refusal a (commands.Get i s) ≡ None
  allowed =
      let row = λ (none nothing missing full : Bool).
      first_refusal ((none, refusals.NoCell) ∷ (nothing, refusals.Nothing) ∷ (missing, refusals.NoSlot)
      ∷ (full, refusals.StackFull) ∷ []) in
      let something : means_nothing a i ≡ false = ap (λ o. not (is_some o)) meant_object in
      let there : has_no_slot a i s ≡ false =
      ap (λ o. option_map_or (λ (x : Object). nat_le (length x.slots) s) o false) meant_object
      ∙ within-get object.slots s read slot in
      λ t. row (within-get a.stack i value cell t) (something t) (there t) (room t)

  effect-get : plain_effect a (commands.Get i s) ≡ pushes read a
  effect-get =
      ap (λ o. with_some o a (λ (x : Object). with_some (slice_get x.slots s) a (λ v. pushes v a))) meant_object
      ∙ ap (λ v. with_some v a (λ v. pushes v a)) slot

  pub get-reference : (group : List Line) (b : State) → IsStep a (commands.Get i s) group b
      → (reaped : List Line) × (group ≡ reaped ++ lines.Reply (replies.Word read.word) ∷ [])
  get-reference group b step = carried (subst (λ r. IsStepUnless r a (commands.Get i s) group b) allowed step)
    where
      carried : IsCarriedOut a (commands.Get i s) group b
          → (reaped : List Line) × (group ≡ reaped ++ lines.Reply (replies.Word read.word) ∷ [])
      carried c =
          let reply : c.effect.reply ≡ replies.Word read.word =
          ap (λ (e : Effect). e.reply) (c.carries.effect_is ∙ effect-get) in
          (c.log ++ c.end_log, c.group_is ∙ ap (λ r. c.log ++ c.end_log ++ lines.Reply r ∷ []) reply)
