-- `put`: its refusals, and what it leaves.
use Rattle.std.proofs.Common.{◌≡◌, ℕ, ◌<◌, ◌≤◌, true, [], map, length, Some, Ok, sym}
use Rattle.std.proofs.Common.{ap, ◌∙◌, subst, arith}
use Rattle.std.specs.Prelude.{slice_get}
use Rattle.std.specs.Option.{option_map}
use Rattle.std.proofs.lemmas.List.{length-map}
use Rattle.mm_model.specs.declared.command.Command.TheVariants as commands
use Rattle.mm_model.specs.declared.object.Shape.{Shape}
use Rattle.mm_model.specs.declared.refusal.Refusal.{Refusal}
use Rattle.mm_model.specs.declared.refusal.Refusal.TheVariants as refusals
use Rattle.mm_model.specs.declared.reply.Put.{Put}
use Rattle.mm_model.specs.declared.reply.Reply.{Reply}
use Rattle.mm_model.specs.declared.reply.Reply.TheVariants as replies
use Rattle.mm_model.specs.Views.ByBase.{Begins, Based}
use Rattle.mm_model.specs.Views.ObjectView.{ObjectView, ObjectsByBase}
use Rattle.mm_model.specs.Views.View.{View}
use Rattle.mm_model.specs.Views.ViewWords.{outside_references}
use Rattle.mm_model.specs.Views.ViewStep.{IsViewRow}
use Rattle.mm_model.specs.Views.ViewStore.{view_barrier, view_put}
use Rattle.mm_model.proofs.View.ByBase.MappedEntries.{begins_mapped, mapped_begins, IsMapped}
use Rattle.mm_object.specs.declared.heap.Found.{Found}
use Rattle.mm_object.specs.Object.{view_of_stored, views_of}
use Rattle.mm_object.specs.Heap.{Heap, HasSlot, IsSound}
use Rattle.mm_count.specs.Table.{Table, IsSameTable}
use Rattle.mm_mark.specs.Marker.{Marker, AreKnown, KeepsGray, IsUnderScan, IsSameButQueue, marking}
use Rattle.mm_mark.specs.Stale.{KeepsFewStale}
use Rattle.mm_gc.specs.Gc.{Gc, view_of_gc}
use Rattle.mm_gc.specs.Kept.{KeepsGc}
use Rattle.mm_gc.specs.Refused.{IsMeant}
use Rattle.mm_gc.specs.Replies.{put_reply}
use Rattle.mm_gc.specs.Rows.{Answers}
use Rattle.mm_gc.specs.Counts.{HasCounts}
use Rattle.mm_gc.specs.Stores.{Store, IsCounting, IsStored, IsNotCounted, view_stored, cycle_with}
use Rattle.mm_gc.proofs.Colours.Outlines.{if_some-map}
use Rattle.mm_gc.proofs.Marking.Begun.{keeps-gray}
use Rattle.mm_gc.proofs.Keeping.Changed.{with_parts, keeps-objects, view-objects}
use Rattle.mm_gc.proofs.Keeping.KeptParts.{counts-kept}
use Rattle.mm_gc.proofs.Meaning.{means-object}
use Rattle.mm_gc.proofs.Colours.Outlined.{outlined, extents_of, outlined-stored, outline-now, extents-stored}
use Rattle.mm_gc.proofs.Colours.Outlined.{extents-barrier}
use Rattle.mm_gc.proofs.Colours.Outlined.{pieces-same, barrier-outlined, barrier-rest, stored-rest, known-outlined}
use Rattle.mm_gc.proofs.Colours.Outlined.{few-outlined}
use Rattle.mm_gc.proofs.Colours.Outlined.{scan-outlined}
use Rattle.mm_gc.proofs.Pushing.{refused-answers}
use Rattle.mm_gc.proofs.Rows.Writing.{put-no_slot, put-refused, put-row}
use Rattle.mm_gc.proofs.Shown.{row-of, row-shows, showing-good}

pub counting-kept : (gc : Gc) → KeepsGc gc → IsCounting gc.table gc.region.heap
counting-kept gc keeps =
    record {
      outside = outside_references (view_of_gc gc);
      counts = counts-kept gc keeps;
      tight = (showing-good (view_of_gc gc) keeps.shown).tight;
    }

module _ (gc : Gc) (keeps : KeepsGc gc) (i s j word value : ℕ) (found : Found) (meant : IsMeant gc i word found)
    (cell : slice_get gc.stack.words j ≡ Some value) where
  abbrev pub holder : Based ObjectView
  holder = record { base = found.base; value = view_of_stored meant.object }

  abbrev pub store : Store
  store = record { holder = holder; slot = s; word = value }

  abbrev view : View
  view = view_of_gc gc

  pub holder-begins : Begins view.objects found.base (view_of_stored meant.object)
  holder-begins = begins_mapped view_of_stored gc.region.heap.objects found.base meant.object meant.begins

  slots-are : found.shape.slots ≡ length meant.object.words
  slots-are = ap (λ (shape : Shape). shape.slots) meant.shape

  pub put-out : found.shape.slots ≤ s → Answers gc gc (commands.Put i s j) (replies.Refused refusals.NoSlot)
  put-out past =
      let is = slots-are in
      refused-answers gc (commands.Put i s j) refusals.NoSlot
      (put-no_slot view i s j word value holder (means-object gc i word found meant) cell (omega arith))

  module _ (inside : s < found.shape.slots) where
    within : s < length meant.object.words
    within = let is = slots-are in omega arith

    pub has_slot : HasSlot gc.region.heap found.base s
    has_slot = record { object = meant.object; begins = meant.begins; within = within }

    pub put-not_counted : (heap : Heap) (table : Table) (because : Refusal) → heap ≡ gc.region.heap
        → table ≡ gc.table → IsNotCounted view store because
        → Answers gc (with_parts gc heap table gc.marker) (commands.Put i s j) (replies.Refused because)
    put-not_counted heap table because same_heap same_table refused =
        subst (λ (h : Heap). Answers gc (with_parts gc h table gc.marker) (commands.Put i s j)
        (replies.Refused because)) (sym same_heap)
        (subst (λ (t : Table). Answers gc (with_parts gc gc.region.heap t gc.marker) (commands.Put i s j)
        (replies.Refused because)) (sym same_table)
        (subst (λ (why : Refusal). Answers gc gc (commands.Put i s j) (replies.Refused why)) (sym refused.because_is)
        (refused-answers gc (commands.Put i s j) refusals.NotCounted
        (put-refused view i s j word value holder (means-object gc i word found meant) cell within refused.refused))))

    -- between the store and the barrier
    module _ (heap : Heap) (put : Put) (stored : IsStored view store (views_of heap.objects) put)
        (rest : heap ≡ record gc.region.heap { objects = heap.objects }) where
      same_outlines : map (option_map outlined) (views_of heap.objects) ≡ map (option_map outlined) view.objects
      same_outlines =
          ap (λ (vs : ObjectsByBase). map (option_map outlined) vs) stored.objects
          ∙ outlined-stored store view holder-begins

      pub gray-stored : gc.marker.running ≡ true → KeepsGray gc.marker (views_of heap.objects)
      gray-stored runs =
          let gray = keeps-gray gc keeps in
          record {
            known = known-outlined view.objects (views_of heap.objects) same_outlines gc.marker gray.known;
            partly = if_some-map (IsUnderScan view.objects) (IsUnderScan (views_of heap.objects))
                (scan-outlined view.objects (views_of heap.objects) same_outlines) gc.marker.partly gray.partly;
          }

      pub known-stored : AreKnown gc.marker (views_of heap.objects)
      known-stored = known-outlined view.objects (views_of heap.objects) same_outlines gc.marker keeps.marking.known

      now : IsMapped outlined (views_of heap.objects) found.base (outlined (view_of_stored meant.object))
      now = outline-now view.objects (views_of heap.objects) same_outlines found.base (view_of_stored meant.object)
          holder-begins

      pub slot-stored : HasSlot heap found.base s
      slot-stored =
          let m = mapped_begins view_of_stored heap.objects found.base now.value now.begins in
          let first = length-map {B = ℕ} m.value.words (λ (word : ℕ). 0) in
          let second = length-map {B = ℕ} meant.object.words (λ (word : ℕ). 0) in
          let same : length (outlined (view_of_stored m.value)).words
          ≡ length (outlined (view_of_stored meant.object)).words =
          ap (λ (x : ObjectView). length (outlined x).words) m.is ∙ ap (λ (x : ObjectView). length x.words) now.is in
          let fits = within in
          record { object = m.value; begins = m.begins; within = omega arith }

      -- after the barrier
      module _ (after : Heap) (table : Table) (marker : Marker)
          (barred : (view : View) (gone : ℕ) (object : ObjectView) → view.objects ≡ views_of heap.objects
          → view.cycle ≡ cycle_with gone gc.marker → Begins view.objects found.base object
          → views_of after.objects
          ≡ (view_barrier (record { base = found.base; value = object }) s value view).objects)
          (after_rest : after ≡ record heap { objects = after.objects }) (queue : IsSameButQueue gc.marker marker) where
        abbrev middle : View
        middle = view_stored store view

        objects-put : views_of after.objects ≡ (view_put view holder s value).objects
        objects-put =
            barred middle gc.gone_before now.value (sym stored.objects)
            (ap (λ (v : View). v.cycle) (stored-rest store view))
            (subst (λ (vs : ObjectsByBase). Begins vs found.base now.value) stored.objects now.begins)
            ∙ ap (λ (v : View). v.objects)
            (barrier-outlined found.base s value now.value (view_of_stored meant.object) middle now.is)

        pub all_rest : after ≡ record gc.region.heap { objects = after.objects }
        all_rest = after_rest ∙ ap (λ (h : Heap). record h { objects = after.objects }) rest

        view-put : view_of_gc (with_parts gc after table marker) ≡ view_put view holder s value
        view-put =
            view-objects gc after table marker all_rest queue
            ∙ ap (λ (vs : ObjectsByBase). record view { objects = vs }) objects-put
            ∙ sym (barrier-rest holder s value middle
            ∙ ap (λ (v : View). record v { objects = (view_put view holder s value).objects }) (stored-rest store view))

        row : IsViewRow view (commands.Put i s j) []
            (record { view = view_of_gc (with_parts gc after table marker); reply = put_reply (Ok put) })
        row =
            subst (λ (v : View). IsViewRow view (commands.Put i s j) [] (record {
              view = v;
              reply = put_reply
                  (Ok put);
            }))
            (sym view-put)
            (subst (λ (reply : Reply).
            IsViewRow view (commands.Put i s j) [] (record { view = view_put view holder s value; reply = reply }))
            (sym stored.reply)
            (put-row view i s j word value holder (means-object gc i word found meant) cell within stored.taken))

        pub put-answers : Answers gc (with_parts gc after table marker) (commands.Put i s j) (put_reply (Ok put))
        put-answers =
            row-of view (view_of_gc (with_parts gc after table marker)) (commands.Put i s j) []
            (put_reply (Ok put)) row

        pub put-keeps : IsSameTable gc.table table → IsSound after
            → HasCounts table after (outside_references (view_of_gc gc)) → AreKnown marker (views_of after.objects)
            → KeepsFewStale (marking gc.marker heap) (marking marker after) → KeepsGc (with_parts gc after table marker)
        put-keeps entries sound counts known few =
            keeps-objects gc keeps after table marker all_rest entries queue
            (pieces-same view.objects (views_of after.objects)
            (ap extents_of objects-put ∙ extents-barrier holder s value middle
            ∙ extents-stored store view holder-begins))
            sound counts known
            (λ stale h.
            few stale (few-outlined view.objects (views_of heap.objects) same_outlines gc.marker stale h))
            (row-shows view (view_of_gc (with_parts gc after table marker)) (commands.Put i s j) [] (put_reply (Ok put))
            keeps.shown row)
