-- `put` does to a view what it does to its state.
use Rattle.std.proofs.Common.{◌≡◌, ℕ, Bool, true, false, not, refl, sym, ap, ◌∙◌}
use Rattle.std.proofs.lemmas.List.{length-set, length-map}
use Rattle.std.specs.Prelude.{IfSome, slice_index, ◌&&◌, ◌==◌, if◌then◌else◌}
use Rattle.mm_model.specs.declared.command.Command.TheVariants as commands
use Rattle.mm_model.specs.declared.reply.Reply.TheVariants as replies
use Rattle.mm_model.specs.Value.{Value, words_of}
use Rattle.mm_model.specs.Object.{Object}
use Rattle.mm_model.specs.State.{State, Lives}
use Rattle.mm_model.specs.Words.{SlotKind, slot_kind}
use Rattle.mm_model.specs.Effect.{plain_effect}
use Rattle.mm_model.specs.Sets.Marking.{barrier}
use Rattle.mm_model.specs.Count.{made_sticky, with_sticky}
use Rattle.mm_model.specs.Places.Place.{live_pieces}
use Rattle.mm_model.specs.Store.{is_counted_slot, with_slot, put_in_slot, store_reply}
use Rattle.mm_model.specs.Good.{IsPlaced, IsColoured, IsGood}
use Rattle.mm_model.specs.Views.View.{view_of}
use Rattle.mm_model.specs.Views.ViewStore.{view_recounted, view_barrier, view_put, view_store_reply}
use Rattle.mm_model.specs.Views.ViewEffect.{view_plain_effect}
use Rattle.mm_model.proofs.Good.Around.{if_some-weaker}
use Rattle.mm_model.proofs.View.Marking.Barrier.{view_barrier-seen}
use Rattle.mm_model.proofs.View.Marking.Graying.{HasColours}
use Rattle.mm_model.proofs.View.Commands.Reads.{cell-same, meant_birth-same}
use Rattle.mm_model.proofs.View.Commands.SameEffects.{SameEffect}
use Rattle.mm_model.proofs.View.ByBase.Seen.{seen_based}
use Rattle.mm_model.proofs.View.Commands.Sticky.{CountsAlike, bases, view_recounted-seen}
use Rattle.mm_model.proofs.View.Commands.Stores.{store, placed-store, bases-store, view_with_word-seen}
use Rattle.mm_model.proofs.View.Words.{count_at-seen, falls_in_counted_of-seen}

module _ (a : State) (placed : IsPlaced a.settings.max (live_pieces a)) where
  module _ (birth : ℕ) (object : Object) (lives : Lives a birth object) (s : ℕ) (value : Value)
      (coloured : IfSome a.cycle (IsColoured a)) where
    abbrev after : State
    after = store a placed birth object lives s value

    colours-after : IfSome a.cycle (HasColours after)
    colours-after =
        if_some-weaker (IsColoured a) (HasColours after)
        (λ cycle h. h.each ∙ sym (length-set a.objects birth (with_slot a object s value))) a.cycle coloured

    barrier-after : (b : Bool) → view_barrier (seen_based a birth object) s value.word
        (view_of (if b then with_sticky value.word after else after))
        ≡ view_of (barrier (slot_kind object s) birth s value.word (if b then with_sticky value.word after else after))
    barrier-after true =
        view_barrier-seen a placed birth object lives s (with_sticky value.word after) refl
        (bases after value.word ∙ bases-store a placed birth object lives s value) coloured
        (if_some-weaker (HasColours after) (HasColours (with_sticky value.word after))
        (λ cycle h. h ∙ sym (length-map after.objects (made_sticky after value.word))) a.cycle colours-after) value.word
    barrier-after false =
        view_barrier-seen a placed birth object lives s after refl (bases-store a placed birth object lives s value)
        coloured colours-after value.word

    pub view_put-seen : CountsAlike after
        → view_put (view_of a) (seen_based a birth object) s value.word ≡ view_of (put_in_slot a birth object s value)
    view_put-seen counts =
        let old = slice_index (words_of object.slots) s in
        ap (λ view. view_barrier (seen_based a birth object) s value.word
        (view_recounted (slot_kind object s) old value.word view))
        (view_with_word-seen a placed birth object lives s value)
        ∙ ap (view_barrier (seen_based a birth object) s value.word)
        (view_recounted-seen after value.word counts (slot_kind object s) old)
        ∙ barrier-after (is_counted_slot (slot_kind object s) && not (old == value.word))

  pub view_store_reply-seen : (kind : SlotKind) (word : ℕ)
      → view_store_reply (view_of a) kind word ≡ store_reply a kind word
  view_store_reply-seen kind word =
      ap (λ loose. if not (is_counted_slot kind) && loose then replies.Loose else replies.Done)
      (falls_in_counted_of-seen a placed word)

-- `put`
pub put-seen : (a : State) → IsGood a → (i s j : ℕ)
    → SameEffect (view_plain_effect (view_of a) (commands.Put i s j)) (plain_effect a (commands.Put i s j))
put-seen a good i s j =
    meant_birth-same a good i _ _ (λ birth object one.
    cell-same a j _ _ (λ value cell.
    let lives = one.lives in
    record {
      view = view_put-seen a good.placed birth object lives s value good.coloured
          (count_at-seen (store a good.placed birth object lives s value)
          (placed-store a good.placed birth object lives s value));
      reply = view_store_reply-seen a good.placed (slot_kind object s) value.word;
    }))
