-- What a command without a search replies: a word, what is told of an object or the heap, `ok`, `loose` or `nothing`.
use Rattle.std.proofs.Common.{◌≡◌, ℕ, ◌+◌, Bool, true, false, cond, Option, Some, None}
use Rattle.std.specs.Prelude.{slice_get}
use Rattle.mm_model.specs.declared.command.Command.{Command}
use Rattle.mm_model.specs.declared.command.Command.TheVariants as commands
use Rattle.mm_model.specs.declared.reply.Reply.{Reply}
use Rattle.mm_model.specs.declared.reply.Reply.TheVariants as replies
use Rattle.mm_model.specs.declared.reply.Mapped.{Mapped}
use Rattle.mm_model.specs.declared.reply.Stat.{Stat}
use Rattle.mm_model.specs.Object.{Object}
use Rattle.mm_model.specs.State.{State}
use Rattle.mm_model.specs.Words.{SlotKind}
use Rattle.mm_model.specs.Meaning.{meant_at, object_meant}
use Rattle.mm_model.specs.Areas.{area_at}
use Rattle.mm_model.specs.Store.{is_loose, store_reply}
use Rattle.mm_model.specs.Effect.{Effect, with_some, map_reply, look_effect, pushes_object, stat_of, plain_effect}

-- a test that none of these replies passes
pub record IsQuietReply (test : Reply → Bool) : Type 0 where
  pub done : test replies.Done ≡ false
  pub loose : test replies.Loose ≡ false
  pub word : (word : ℕ) → test (replies.Word word) ≡ false
  pub nothing : test replies.Nothing ≡ false
  pub object : (found : Mapped) → test (replies.Object found) ≡ false
  pub stat : (stat : Stat) → test (replies.Stat stat) ≡ false

module _ (test : Reply → Bool) (quiet : IsQuietReply test) where
  some-replies : {X : Type 0} (found : Option X) (a : State) (effect : X → Effect)
      → ((x : X) → test (effect x).reply ≡ false) → test (with_some found a effect).reply ≡ false
  some-replies None a effect h = quiet.nothing
  some-replies (Some x) a effect h = h x

  store-replies : (a : State) (kind : SlotKind) (word : ℕ) → test (store_reply a kind word) ≡ false
  store-replies a kind word = split (is_loose a kind word)
    where
      split : (b : Bool) → test (cond b replies.Loose replies.Done) ≡ false
      split true = quiet.loose
      split false = quiet.done

  pub object-replies : (a : State) (birth : ℕ) → test (pushes_object a birth).reply ≡ false
  object-replies a birth = some-replies (slice_get a.objects birth) a _ (λ object. quiet.word object.base)

  pub plain-replies : (a : State) (command : Command) → test (plain_effect a command).reply ≡ false
  plain-replies a (commands.Push word) = quiet.done
  plain-replies a (commands.Dup i) = some-replies (slice_get a.stack i) a _ (λ value. quiet.done)
  plain-replies a (commands.Pop k) = quiet.done
  plain-replies a (commands.Inner i bytes) =
      some-replies (slice_get a.stack i) a _ (λ value. quiet.word (value.word + bytes))
  plain-replies a (commands.Get i s) =
      some-replies (object_meant a i) a _
      (λ object. some-replies (slice_get object.slots s) a _ (λ value. quiet.word value.word))
  plain-replies a (commands.Put i s j) =
      some-replies (meant_at a i) a _
      (λ birth. some-replies (slice_get a.objects birth) a _
      (λ object. some-replies (slice_get a.stack j) a _ (λ value. store-replies a _ value.word)))
  plain-replies a (commands.Look i) = some-replies (object_meant a i) a _ (λ object. look object.partner)
    where
      look : (target : Option ℕ) → test (look_effect a target).reply ≡ false
      look None = quiet.word 0
      look (Some target) = object-replies a target
  plain-replies a (commands.DropArea number) = quiet.done
  plain-replies a (commands.AreaGet number s) =
      some-replies (area_at a number) a _
      (λ area. some-replies (slice_get area.cells s) a _ (λ value. quiet.word value.word))
  plain-replies a (commands.AreaPut number s j) =
      some-replies (area_at a number) a _
      (λ area. some-replies (slice_get a.stack j) a _ (λ value. store-replies a _ value.word))
  plain-replies a commands.Begin = quiet.done
  plain-replies a (commands.Map i) = split (object_meant a i)
    where
      split : (found : Option Object) → test (map_reply found) ≡ false
      split None = quiet.nothing
      split (Some object) = quiet.object _
  plain-replies a commands.Stat = quiet.stat (stat_of a)
  plain-replies a command = quiet.nothing
