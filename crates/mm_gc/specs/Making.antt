-- What takes room: an object, a weak object for a target, or an area.
use Rattle.std.specs.Prelude.{◌≡◌, ◌≢◌, ◌<◌, ◌-◌, ◌^◌, ⊤, ℕ, false, if◌then◌else◌, IsTrue, List, length, Option, Some}
use Rattle.std.specs.Prelude.{None}
use Rattle.mm_model.specs.declared.object.Kind.{Kind}
use Rattle.mm_model.specs.declared.line.Line.{Line}
use Rattle.mm_model.specs.declared.command.Command.{Command}
use Rattle.mm_model.specs.declared.command.Command.TheVariants as commands
use Rattle.mm_model.specs.Areas.{most_areas}
use Rattle.mm_model.specs.Object.{is_weak}
use Rattle.mm_model.specs.Refusing.{is_bad_shape, is_bad_area}
use Rattle.mm_model.specs.Views.ByBase.{Begins}
use Rattle.mm_model.specs.Views.ObjectView.{ObjectView, names_at}
use Rattle.mm_object.specs.Object.{StoredObject, StoredObjects}
use Rattle.mm_sweep.specs.Told.{Told, IsToldOf}
use Rattle.mm_gc.specs.Gc.{Gc, view_of_gc}
use Rattle.mm_gc.specs.declared.wanted.AreaWanted.{AreaWanted}
use Rattle.mm_model.specs.declared.object.Shape.{Shape}
use Rattle.mm_model.specs.declared.reply.Reply.{Reply}
use Rattle.mm_model.specs.declared.reply.Reply.TheVariants as replies
use Rattle.mm_model.specs.declared.refusal.Refusal.TheVariants as refusals
use Rattle.mm_model.specs.Places.SizeClass.{object_bytes, area_bytes}
use Rattle.mm_model.specs.Places.Place.{Family, Objects, Areas}
use Rattle.mm_model.specs.Views.View.{View}
use Rattle.mm_model.specs.Views.ViewEffect.{ViewEffect, view_new_effect, view_weak_effect, view_area_effect}
use Rattle.mm_model.specs.Views.ViewStep.{ViewMakes, view_place_now, view_place_grown}
use Rattle.mm_gc.specs.declared.wanted.Wanted.{Wanted}
use Rattle.mm_gc.specs.declared.wanted.Wanted.TheVariants as wanted
use Rattle.mm_gc.specs.declared.wanted.Made.{Made}
use Rattle.mm_gc.specs.declared.wanted.Made.TheVariants as made
use Rattle.mm_gc.specs.declared.wanted.Reach.{Reach}
use Rattle.mm_gc.specs.declared.wanted.Reach.TheVariants as reach

abbrev pub family_of : Wanted → Family
family_of (wanted.Object shape) = Objects
family_of (wanted.WeakOf target) = Objects
family_of (wanted.Area shape) = Areas

abbrev pub bytes_of : Wanted → ℕ
bytes_of (wanted.Object shape) = object_bytes shape.slots
bytes_of (wanted.WeakOf target) = object_bytes 0
bytes_of (wanted.Area shape) = area_bytes shape.cells

-- what follows once a place was looked for
abbrev pub effect_of : Wanted → View → Option ℕ → ViewEffect
effect_of (wanted.Object shape) view found = view_new_effect view shape found
effect_of (wanted.WeakOf target) view found = view_weak_effect view target found
effect_of (wanted.Area shape) view found = view_area_effect view shape.scanned shape.counted shape.cells found

-- where an object is wanted, one more birth can be counted
abbrev pub CanBear : Wanted → ℕ → Type 0
CanBear (wanted.Object shape) born = born < 2 ^ 64 - 1
CanBear (wanted.WeakOf target) born = born < 2 ^ 64 - 1
CanBear (wanted.Area shape) born = ⊤

-- where it goes
abbrev pub place_in_reach : Reach → View → Wanted → Option ℕ
place_in_reach reach.Now view wanted = view_place_now view (family_of wanted) (bytes_of wanted)
place_in_reach reach.Grown view wanted = view_place_grown view (family_of wanted) (bytes_of wanted)

-- the reply that an answer stands for
abbrev pub made_reply : Option Made → Reply
made_reply None = replies.Refused refusals.Full
made_reply (Some (made.Object base)) = replies.New base
made_reply (Some (made.Area area)) = replies.Area area

-- an object of this kind begins at a base whose composite word is 0 still
pub record IsNewAt (objects : StoredObjects) (base : ℕ) (kind : Kind) : Type 0 where
  pub object : StoredObject
  pub begins : Begins objects base object
  pub kind_is : object.kind ≡ kind
  pub blank : object.composite ≡ 0

-- one more word may be pushed
abbrev pub HasRoom : View → Type 0
HasRoom view = length view.stack ≢ view.settings.stack

-- An object has a shape that is allowed, and its base can be pushed.
pub record IsWantedObject (view : View) (shape : Shape) : Type 0 where
  pub fine : is_bad_shape shape ≡ false
  pub room : HasRoom view

-- A target isn't weak and has no weak object, a stack word falls in it, and one more can be pushed.
pub record IsWantedWeak (view : View) (base : ℕ) : Type 0 where
  pub target : ObjectView
  pub begins : Begins view.objects base target
  pub strong : is_weak target.kind ≡ false
  pub alone : target.partner ≡ None
  pub named : IsTrue (names_at view.stack base target)
  pub room : HasRoom view

-- An area has a shape that is allowed, counted cells only where it's scanned, and a number that is free.
pub record IsWantedArea (view : View) (area : AreaWanted) : Type 0 where
  pub fine : is_bad_area area.counted area.cells ≡ false
  pub raw : area.scanned ≡ false → area.counted ≡ 0
  pub few : length view.areas < most_areas

abbrev pub IsWanted : View → Wanted → Type 0
IsWanted view (wanted.Object shape) = IsWantedObject view shape
IsWanted view (wanted.WeakOf target) = IsWantedWeak view target
IsWanted view (wanted.Area area) = IsWantedArea view area

-- What is wanted was made where the reach has a place for it. Where there is none, nothing changed.
abbrev pub IsMade : View → Wanted → Reach → View → Option Made → Type 0
IsMade view wanted reach new result =
    effect_of wanted view (place_in_reach reach view wanted) ≡ record { view = new; reply = made_reply result }

-- A place was looked for, with lines of which the journal heard, and what is wanted was made there.
pub record Searches (old new : Gc) (wanted : Wanted) (result : Option Made) (heard : List Told → Type 0) : Type 0
  where
    pub log : List Line
    pub makes : ViewMakes (view_of_gc old) (family_of wanted) (bytes_of wanted) (effect_of wanted) log
        (record { view = view_of_gc new; reply = made_reply result })
    pub told : IsToldOf heard (view_of_gc old).objects log

-- the command that asks for an area
abbrev pub area_command : AreaWanted → Command
area_command area = if area.scanned then commands.Root area.counted area.cells else commands.Fixed area.cells
