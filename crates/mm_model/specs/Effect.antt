-- What commands do that are not refused and that free nothing.
use Rattle.std.specs.Prelude.{ℕ, ◌+◌, ◌-◌, ◌*◌, Bool, false, length, drop, Option, Some, None, slice_get}
use Rattle.std.specs.List.{count_by, range_with_len}
use Rattle.std.specs.Option.{option_map_or}
use Rattle.mm_model.specs.declared.object.Kind.TheVariants.{Weak}
use Rattle.mm_model.specs.declared.object.Shape.{Shape}
use Rattle.mm_model.specs.declared.command.Command.{Command}
use Rattle.mm_model.specs.declared.command.Command.TheVariants as commands
use Rattle.mm_model.specs.declared.refusal.Refusal.TheVariants as refusals
use Rattle.mm_model.specs.declared.reply.Reply.{Reply}
use Rattle.mm_model.specs.declared.reply.Reply.TheVariants as replies
use Rattle.mm_model.specs.declared.reply.Stat.{Stat}
use Rattle.mm_model.specs.Value.{Value, integer, reference}
use Rattle.mm_model.specs.Object.{Object, newborn}
use Rattle.mm_model.specs.State.{State, Area, live_count, pushed, with_born}
use Rattle.mm_model.specs.Words.{slot_kind, cell_kind}
use Rattle.mm_model.specs.Meaning.{meant_at, object_meant}
use Rattle.mm_model.specs.Count.{zero_count}
use Rattle.mm_model.specs.Sets.Marking.{begun}
use Rattle.mm_model.specs.Places.Place.{is_vacant, live_pieces, region_pages}
use Rattle.mm_model.specs.Areas.{area_at, free_number, new_area, with_area, without_area}
use Rattle.mm_model.specs.Store.{with_object, put_in_slot, put_in_cell, store_reply}

-- what a command leaves and answers
pub record Effect : Type 0 where
  pub state : State
  pub reply : Reply

abbrev pub nothing_done : State → Effect
nothing_done a = record { state = a; reply = replies.Nothing }

abbrev pub done : State → Effect
done a = record { state = a; reply = replies.Done }

-- the value is pushed, and the reply is its word
abbrev pub pushes : Value → State → Effect
pushes value a = record { state = pushed value a; reply = replies.Word value.word }

-- An effect that asks for something. Where there is none, the command was refused.
abbrev pub with_some : {X : Type 0} → Option X → State → (X → Effect) → Effect
with_some found a effect = option_map_or effect found (nothing_done a)

-- an object is born at a place and pushed
abbrev pub made_at : State → Shape → ℕ → State
made_at a shape base = pushed (reference base (length a.objects)) (with_born (newborn shape base) a)

-- `new`, once a place was looked for
abbrev pub new_effect : State → Shape → Option ℕ → Effect
new_effect a shape None = record { state = a; reply = replies.Refused refusals.Full }
new_effect a shape (Some base) = record { state = made_at a shape base; reply = replies.New base }

abbrev pub weak_shape : Shape
weak_shape = record { kind = Weak; finalize = false; counted = 0; slots = 0 }

-- the new weak reference and its target become partners
abbrev pub weak_made : State → ℕ → Object → ℕ → State
weak_made a target object base =
    pushed (reference base (length a.objects))
    (with_born (record (newborn weak_shape base) { partner = Some target })
    (with_object target (record object { partner = Some (length a.objects) }) a))

-- `weak` where the target had no weak reference, once a place was looked for
abbrev pub weak_effect : State → ℕ → Option ℕ → Effect
weak_effect a target None = record { state = a; reply = replies.Refused refusals.Full }
weak_effect a target (Some base) =
    with_some (slice_get a.objects target) a
    (λ object. record { state = weak_made a target object base; reply = replies.New base })

-- a reference to the object with a birth number
abbrev pub pushes_object : State → ℕ → Effect
pushes_object a birth = with_some (slice_get a.objects birth) a (λ object. pushes (reference object.base birth) a)

-- `look`: the target of a weak reference, or 0 once it is freed
abbrev pub look_effect : State → Option ℕ → Effect
look_effect a None = pushes (integer 0) a
look_effect a (Some target) = pushes_object a target

-- `root` and `fixed`, once a place was looked for
abbrev pub area_effect : State → Bool → ℕ → ℕ → Option ℕ → Effect
area_effect a scanned counted cells None = record { state = a; reply = replies.Refused refusals.Full }
area_effect a scanned counted cells (Some base) =
    record {
      state = with_area (new_area (free_number a) base scanned counted cells) a;
      reply = replies.Area (record { number = free_number a; base = base });
    }

abbrev pub put_effect : State → ℕ → Object → ℕ → Value → Effect
put_effect a birth object s value =
    record { state = put_in_slot a birth object s value; reply = store_reply a (slot_kind object s) value.word }

abbrev pub area_put_effect : State → Area → ℕ → Value → Effect
area_put_effect a area s value =
    record { state = put_in_cell a area s value; reply = store_reply a (cell_kind area s) value.word }

abbrev pub map_reply : Option Object → Reply
map_reply None = replies.Nothing
map_reply (Some object) =
    replies.Object
    (record { base = object.base; kind = object.kind; finalize = object.finalize; extent = object.extent })

-- the pages from 1 to the end of the region in which nothing lies
abbrev pub free_pages : State → ℕ
free_pages a =
    count_by (λ page. is_vacant (live_pieces a) (4096 * page) 4096) (range_with_len 1 (region_pages a - 1))

abbrev pub stat_of : State → Stat
stat_of a =
    record { objects = live_count a; zero = zero_count a; areas = length a.areas; free = free_pages a }

-- what a command does that looks for no place, scans nothing and frees nothing
abbrev pub plain_effect : State → Command → Effect
plain_effect a (commands.Push word) = done (pushed (integer word) a)
plain_effect a (commands.Dup i) = with_some (slice_get a.stack i) a (λ value. done (pushed value a))
plain_effect a (commands.Pop k) = done (record a { stack = drop k a.stack })
plain_effect a (commands.Inner i bytes) =
    with_some (slice_get a.stack i) a (λ value. pushes (record value { word = value.word + bytes }) a)
plain_effect a (commands.Get i s) =
    with_some (object_meant a i) a (λ object. with_some (slice_get object.slots s) a (λ value. pushes value a))
plain_effect a (commands.Put i s j) =
    with_some (meant_at a i) a
    (λ birth. with_some (slice_get a.objects birth) a
    (λ object. with_some (slice_get a.stack j) a (put_effect a birth object s)))
plain_effect a (commands.Look i) = with_some (object_meant a i) a (λ object. look_effect a object.partner)
plain_effect a (commands.DropArea number) = done (without_area number a)
plain_effect a (commands.AreaGet number s) =
    with_some (area_at a number) a (λ area. with_some (slice_get area.cells s) a (λ value. pushes value a))
plain_effect a (commands.AreaPut number s j) =
    with_some (area_at a number) a (λ area. with_some (slice_get a.stack j) a (area_put_effect a area s))
plain_effect a commands.Begin = done (begun a)
plain_effect a (commands.Map i) = record { state = a; reply = map_reply (object_meant a i) }
plain_effect a commands.Stat = record { state = a; reply = replies.Stat (stat_of a) }
plain_effect a command = nothing_done a
