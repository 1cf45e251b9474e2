-- What a store into a slot of an object or into a cell of an area does to a view.
use Rattle.std.specs.Prelude.{ℕ, ◌==◌, ◌&&◌, ◌||◌, Bool, false, not, if◌then◌else◌, nat_lt, nat_le, List, [], ◌∷◌, map}
use Rattle.std.specs.Prelude.{Option, Some, None, slice_index, slice_set}
use Rattle.mm_model.specs.declared.reply.Reply.{Reply}
use Rattle.mm_model.specs.declared.reply.Reply.TheVariants as replies
use Rattle.mm_model.specs.Object.{is_counted}
use Rattle.mm_model.specs.Words.{SlotKind}
use Rattle.mm_model.specs.Sets.Marking.{is_black, is_raw}
use Rattle.mm_model.specs.Store.{is_counted_slot}
use Rattle.mm_model.specs.Views.ByBase.{Based, with_entry, changed}
use Rattle.mm_model.specs.Views.ObjectView.{ObjectView, slot_kind_of}
use Rattle.mm_model.specs.Views.SetsByBase.{count_at, with_grayed_objects}
use Rattle.mm_model.specs.Views.View.{View, AreaView, CycleView, PartlyScannedView}
use Rattle.mm_model.specs.Views.ViewWords.{falls_in_counted_of, cell_kind_of, outside_references}

-- The object at this base becomes sticky, for good, where 255 counted places hold it.
abbrev pub view_made_sticky : View → ℕ → ℕ → ObjectView → Option ObjectView
view_made_sticky view word base object =
    Some (record object {
      sticky = object.sticky ||
          (is_counted object.kind && base == word && nat_le 255 (count_at view.objects (outside_references view) base));
    })

abbrev pub view_with_sticky : ℕ → View → View
view_with_sticky word view = record view { objects = changed (view_made_sticky view word) view.objects }

-- where a counted place gets another word
abbrev pub view_recounted : SlotKind → ℕ → ℕ → View → View
view_recounted kind old new view =
    if is_counted_slot kind && not (old == new) then view_with_sticky new view else view

-- the slot is among those that are done of the partly scanned object
abbrev pub is_slot_done : Option PartlyScannedView → ℕ → ℕ → Bool
is_slot_done None base s = false
is_slot_done (Some partly_scanned) base s = partly_scanned.base == base && nat_lt s partly_scanned.slots_done

-- marking has passed the slot: the object is black, or partly scanned with the slot among those that are done
abbrev pub view_is_passed : Option CycleView → Based ObjectView → ℕ → Bool
view_is_passed None o s = false
view_is_passed (Some cycle) o s = is_black o.value.colour || is_slot_done cycle.partly_scanned o.base s

-- the white objects in which one of the words falls become gray
abbrev pub view_with_grayed : List ℕ → View → View
view_with_grayed words view = record view { objects = with_grayed_objects words view.objects }

-- the write barrier
abbrev pub view_barrier : Based ObjectView → ℕ → ℕ → View → View
view_barrier o s word view =
    if not (is_raw (slot_kind_of o.value s)) && view_is_passed view.cycle o s
    then view_with_grayed (word ∷ []) view else view

abbrev pub view_with_word : Based ObjectView → ℕ → ℕ → View → View
view_with_word o s word view =
    record view {
      objects = with_entry o.base (Some (record o.value { words = slice_set o.value.words s word })) view.objects;
    }

-- `put`: the word is stored, the counts follow, and marking is told
abbrev pub view_put : View → Based ObjectView → ℕ → ℕ → View
view_put view o s word =
    view_barrier o s word
    (view_recounted (slot_kind_of o.value s) (slice_index o.value.words s) word (view_with_word o s word view))

abbrev pub view_with_area : AreaView → View → View
view_with_area new view =
    record view { areas = map (λ area. if area.number == new.number then new else area) view.areas }

-- `aput`
abbrev pub view_area_put : View → AreaView → ℕ → ℕ → View
view_area_put view area s word =
    view_recounted (cell_kind_of area s) (slice_index area.words s) word
    (view_with_area (record area { words = slice_set area.words s word }) view)

abbrev pub view_store_reply : View → SlotKind → ℕ → Reply
view_store_reply view kind word =
    if not (is_counted_slot kind) && falls_in_counted_of view.objects word then replies.Loose else replies.Done
