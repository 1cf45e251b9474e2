-- What commands do to a view that are not refused and that free nothing.
use Rattle.std.specs.Prelude.{ℕ, ◌+◌, ◌-◌, ◌*◌, ◌==◌, Bool, false, not, if◌then◌else◌, nat_lt, List, [], ◌∷◌, drop}
use Rattle.std.specs.Prelude.{length, replicate, Option, Some, None, is_some, unwrap_or, slice_get}
use Rattle.std.specs.List.{count_by, range_with_len, filter}
use Rattle.std.specs.Option.{option_map_or}
use Rattle.mm_model.specs.declared.object.Colour.{Colour}
use Rattle.mm_model.specs.declared.object.Colour.TheVariants.{White, Black}
use Rattle.mm_model.specs.declared.object.Shape.{Shape}
use Rattle.mm_model.specs.declared.line.Totals.{Totals}
use Rattle.mm_model.specs.declared.command.Command.{Command}
use Rattle.mm_model.specs.declared.command.Command.TheVariants as commands
use Rattle.mm_model.specs.declared.refusal.Refusal.TheVariants as refusals
use Rattle.mm_model.specs.declared.reply.Reply.{Reply}
use Rattle.mm_model.specs.declared.reply.Reply.TheVariants as replies
use Rattle.mm_model.specs.declared.reply.Stat.{Stat}
use Rattle.mm_model.specs.Places.SizeClass.{extent_of, object_bytes, area_bytes}
use Rattle.mm_model.specs.Places.Place.{is_vacant, first_from}
use Rattle.mm_model.specs.Areas.{most_areas}
use Rattle.mm_model.specs.Effect.{weak_shape}
use Rattle.mm_model.specs.Views.ByBase.{Based, with_entry, changed}
use Rattle.mm_model.specs.Views.ObjectView.{ObjectView, slot_kind_of}
use Rattle.mm_model.specs.Views.SetsByBase.{with_grayed_objects}
use Rattle.mm_model.specs.Views.View.{View, AreaView, CycleView}
use Rattle.mm_model.specs.Views.ViewWords.{object_at, view_meant, area_in, cell_kind_of, marking_words, view_zero_count}
use Rattle.mm_model.specs.Views.ViewWords.{view_pieces, view_region_pages}
use Rattle.mm_model.specs.Views.ViewStore.{view_put, view_area_put, view_store_reply}

-- what a command leaves and answers
pub record ViewEffect : Type 0 where
  pub view : View
  pub reply : Reply

abbrev pub view_nothing_done : View → ViewEffect
view_nothing_done view = record { view = view; reply = replies.Nothing }

abbrev pub view_done : View → ViewEffect
view_done view = record { view = view; reply = replies.Done }

abbrev pub view_full : View → ViewEffect
view_full view = record { view = view; reply = replies.Refused refusals.Full }

abbrev pub view_pushed : ℕ → View → View
view_pushed word view = record view { stack = word ∷ view.stack }

-- the word is pushed, and is the reply
abbrev pub view_pushes : ℕ → View → ViewEffect
view_pushes word view = record { view = view_pushed word view; reply = replies.Word word }

-- An effect that asks for something. Where there is none, the command was refused.
abbrev pub with_found : {X : Type 0} → Option X → View → (X → ViewEffect) → ViewEffect
with_found found view effect = option_map_or effect found (view_nothing_done view)

-- an object that is born in a cycle is black
abbrev pub birth_colour : Option CycleView → Colour
birth_colour None = White
birth_colour (Some cycle) = Black

-- an object as it is born: each word is 0
abbrev pub newborn_view : Shape → Option CycleView → ObjectView
newborn_view shape cycle =
    record {
      extent = extent_of (object_bytes shape.slots);
      kind = shape.kind;
      finalize = shape.finalize;
      counted = shape.counted;
      words = replicate shape.slots 0;
      sticky = false;
      partner = None;
      colour = birth_colour cycle;
    }

abbrev pub one_more_born : Totals → Totals
one_more_born totals = record totals { born = totals.born + 1; live = totals.live + 1 }

-- an object is born at a base and pushed
abbrev pub view_with_born : ℕ → ObjectView → View → View
view_with_born base object view =
    record view {
      objects = with_entry base (Some object) view.objects;
      stack = base ∷ view.stack;
      totals = one_more_born view.totals;
    }

-- `new`, once a place was looked for
abbrev pub view_new_effect : View → Shape → Option ℕ → ViewEffect
view_new_effect view shape None = view_full view
view_new_effect view shape (Some base) =
    record { view = view_with_born base (newborn_view shape view.cycle) view; reply = replies.New base }

-- the new weak reference and its target become partners
abbrev pub view_weak_made : View → Based ObjectView → ℕ → View
view_weak_made view target base =
    view_with_born base (record (newborn_view weak_shape view.cycle) { partner = Some target.base })
    (record view { objects = with_entry target.base (Some (record target.value { partner = Some base })) view.objects })

-- `weak` where the target, which begins at a base, had no weak reference, once a place was looked for
abbrev pub view_weak_effect : View → ℕ → Option ℕ → ViewEffect
view_weak_effect view target None = view_full view
view_weak_effect view target (Some base) =
    with_found (object_at view.objects target) view
    (λ o. record { view = view_weak_made view o base; reply = replies.New base })

-- `look`: the base of the target of a weak reference, or 0
abbrev pub view_look_effect : View → Option ℕ → ViewEffect
view_look_effect view None = view_pushes 0 view
view_look_effect view (Some base) = view_pushes base view

-- the lowest number that no area has
abbrev pub view_free_number : View → ℕ
view_free_number view =
    unwrap_or (first_from (λ number. not (is_some (area_in view number))) 0 most_areas) most_areas

abbrev pub new_area_view : ℕ → ℕ → Bool → ℕ → ℕ → AreaView
new_area_view number base scanned counted cells =
    record {
      number = number;
      base = base;
      extent = extent_of (area_bytes cells);
      scanned = scanned;
      counted = counted;
      words = replicate cells 0;
    }

-- one more area, in its place by number
abbrev pub view_area_inserted : AreaView → List AreaView → List AreaView
view_area_inserted new [] = new ∷ []
view_area_inserted new (area ∷ areas) =
    if nat_lt new.number area.number then new ∷ area ∷ areas else area ∷ view_area_inserted new areas

-- `root` and `fixed`, once a place was looked for
abbrev pub view_area_effect : View → Bool → ℕ → ℕ → Option ℕ → ViewEffect
view_area_effect view scanned counted cells None = view_full view
view_area_effect view scanned counted cells (Some base) =
    let number = view_free_number view in
    record {
      view = record view {
        areas = view_area_inserted (new_area_view number base scanned counted cells) view.areas;
      };
      reply = replies.Area (record { number = number; base = base });
    }

abbrev pub view_without_area : ℕ → View → View
view_without_area number view = record view { areas = filter (λ area. not (area.number == number)) view.areas }

abbrev pub view_put_effect : View → Based ObjectView → ℕ → ℕ → ViewEffect
view_put_effect view o s word =
    record { view = view_put view o s word; reply = view_store_reply view (slot_kind_of o.value s) word }

abbrev pub view_area_put_effect : View → AreaView → ℕ → ℕ → ViewEffect
view_area_put_effect view area s word =
    record { view = view_area_put view area s word; reply = view_store_reply view (cell_kind_of area s) word }

abbrev pub view_map_reply : Option (Based ObjectView) → Reply
view_map_reply None = replies.Nothing
view_map_reply (Some o) =
    replies.Object
    (record { base = o.base; kind = o.value.kind; finalize = o.value.finalize; extent = o.value.extent })

abbrev pub view_free_pages : View → ℕ
view_free_pages view =
    count_by (λ page. is_vacant (view_pieces view) (4096 * page) 4096)
    (range_with_len 1 (view_region_pages view - 1))

abbrev pub view_stat : View → Stat
view_stat view =
    record {
      objects = view.totals.live;
      zero = view_zero_count view;
      areas = length view.areas;
      free = view_free_pages view;
    }

abbrev pub with_colour : Colour → ℕ → ObjectView → Option ObjectView
with_colour colour base object = Some (record object { colour = colour })

abbrev pub view_with_white : View → View
view_with_white view = record view { objects = changed (with_colour White) view.objects }

-- `begin`: each object in which a stack word or a word of a scanned area falls is gray, and the others are white
abbrev pub view_begun : View → View
view_begun view =
    record view {
      objects = with_grayed_objects (marking_words view) (changed (with_colour White) view.objects);
      cycle = Some (record { gone_before = view.totals.freed; partly_scanned = None });
    }

-- what a command does that looks for no place, scans nothing and frees nothing
abbrev pub view_plain_effect : View → Command → ViewEffect
view_plain_effect view (commands.Push word) = view_done (view_pushed word view)
view_plain_effect view (commands.Dup i) =
    with_found (slice_get view.stack i) view (λ word. view_done (view_pushed word view))
view_plain_effect view (commands.Pop k) = view_done (record view { stack = drop k view.stack })
view_plain_effect view (commands.Inner i bytes) =
    with_found (slice_get view.stack i) view (λ word. view_pushes (word + bytes) view)
view_plain_effect view (commands.Get i s) =
    with_found (view_meant view i) view
    (λ o. with_found (slice_get o.value.words s) view (λ word. view_pushes word view))
view_plain_effect view (commands.Put i s j) =
    with_found (view_meant view i) view
    (λ o. with_found (slice_get view.stack j) view (view_put_effect view o s))
view_plain_effect view (commands.Look i) =
    with_found (view_meant view i) view (λ o. view_look_effect view o.value.partner)
view_plain_effect view (commands.DropArea number) = view_done (view_without_area number view)
view_plain_effect view (commands.AreaGet number s) =
    with_found (area_in view number) view
    (λ area. with_found (slice_get area.words s) view (λ word. view_pushes word view))
view_plain_effect view (commands.AreaPut number s j) =
    with_found (area_in view number) view
    (λ area. with_found (slice_get view.stack j) view (view_area_put_effect view area s))
view_plain_effect view commands.Begin = view_done (view_begun view)
view_plain_effect view (commands.Map i) = record { view = view; reply = view_map_reply (view_meant view i) }
view_plain_effect view commands.Stat = record { view = view; reply = replies.Stat (view_stat view) }
-- those that look for a place, scan or free have rows of their own
view_plain_effect view (commands.New shape) = view_nothing_done view
view_plain_effect view (commands.Weak i) = view_nothing_done view
view_plain_effect view (commands.Root counted cells) = view_nothing_done view
view_plain_effect view (commands.Fixed cells) = view_nothing_done view
view_plain_effect view commands.Reap = view_nothing_done view
view_plain_effect view commands.Collect = view_nothing_done view
view_plain_effect view (commands.Step k) = view_nothing_done view
view_plain_effect view commands.Finish = view_nothing_done view
