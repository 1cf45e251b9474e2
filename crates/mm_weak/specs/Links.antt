-- Weak objects and their targets, which name each other by their links.
use Rattle.std.specs.Prelude.{◌≡◌, ℕ, ◌/◌, ◌==◌, ◌&&◌, Bool, true, false, not, Option, Some, None, Result, Ok, Err}
use Rattle.std.specs.Prelude.{slice_get, slice_set}
use Rattle.mm_model.specs.declared.object.Colour.{Colour}
use Rattle.mm_model.specs.declared.reply.WeakAnswer.{WeakAnswer}
use Rattle.mm_model.specs.declared.reply.WeakAnswer.TheVariants.{Made, Kept}
use Rattle.mm_model.specs.Object.{is_weak}
use Rattle.mm_model.specs.Effect.{weak_shape}
use Rattle.mm_model.specs.Views.ByBase.{Begins, with_entry}
use Rattle.mm_model.specs.Views.GoodView.{ArePaired}
use Rattle.mm_object.specs.Object.{StoredObject, newly_stored, view_of_stored, views_of}
use Rattle.mm_object.specs.Heap.{Heap, with_object, TakesWords}

-- of a target its weak object, of a weak object its target
abbrev pub partner_of : StoredObject → Option ℕ
partner_of object = (view_of_stored object).partner

-- a target that has a weak object
abbrev pub is_linked_target : StoredObject → Bool
is_linked_target object = not (is_weak object.kind) && not (object.link == 0)

-- Each object with a link has as its partner an object whose partner it is, and one of the two is weak. HAS_WEAK is set
-- exactly on the targets that have a weak object.
pub record IsLinked (h : Heap) : Type 0 where
  pub paired : ArePaired (views_of h.objects)
  pub flagged : (base : ℕ) (object : StoredObject) → Begins h.objects base object
      → object.has_weak ≡ is_linked_target object

-- an object begins at a base that isn't a weak one
pub record IsTarget (h : Heap) (base : ℕ) : Type 0 where
  pub object : StoredObject
  pub begins : Begins h.objects base object
  pub kind : is_weak object.kind ≡ false

-- one begins there that is
pub record IsWeakAt (h : Heap) (w : ℕ) : Type 0 where
  pub object : StoredObject
  pub begins : Begins h.objects w object
  pub kind : is_weak object.kind ≡ true

-- one begins there that has no partner
pub record IsAlone (h : Heap) (base : ℕ) : Type 0 where
  pub object : StoredObject
  pub begins : Begins h.objects base object
  pub link : object.link ≡ 0

-- the object at a base is the target of the weak object at w
pub record IsTargetOf (h : Heap) (w base : ℕ) : Type 0 where
  pub object : StoredObject
  pub begins : Begins h.objects base object
  pub kind : is_weak object.kind ≡ false
  pub has_weak : object.has_weak ≡ true
  pub link : object.link ≡ w

-- the weak object that was answered, by whether it was made or lived already
abbrev pub made_in : {E : Type 0} → Result WeakAnswer E → Option ℕ
made_in (Ok (Made w)) = Some w
made_in (Ok (Kept w)) = None
made_in (Err refused) = None

abbrev pub kept_in : {E : Type 0} → Result WeakAnswer E → Option ℕ
kept_in (Ok (Made w)) = None
kept_in (Ok (Kept w)) = Some w
kept_in (Err refused) = None

-- a target once it has a weak object, and a weak object as it is made
abbrev pub with_weak : ℕ → StoredObject → StoredObject
with_weak w object = record object { link = w; has_weak = true }

abbrev pub newly_weak : ℕ → Colour → StoredObject
newly_weak base colour = record (newly_stored weak_shape colour) { link = base }

-- the same heap, but with these objects at two bases
abbrev pub with_partners : Heap → ℕ → StoredObject → ℕ → StoredObject → Heap
with_partners h base target w weak = with_object (with_object h w (Some weak)) base (Some target)

-- A weak object of this colour was made at w for the object at a base. No other entry changed.
pub record IsWeakMade (before : Heap) (base : ℕ) (colour : Colour) (w : ℕ) (after : Heap) : Type 0 where
  pub target : StoredObject
  pub begins : Begins before.objects base target
  pub was_none : slice_get before.objects (w / 16) ≡ Some None
  pub same : after ≡ record before {
    objects = with_entry base (Some (with_weak w target)) (with_entry w (Some (newly_weak base colour)) before.objects);
    runs = slice_set before.runs (w / 4096) 1;
    raw = after.raw;
  }
  pub raw : TakesWords before.raw after.raw w 16

-- a target without a weak object
abbrev pub unlinked : StoredObject → StoredObject
unlinked object = record object { link = 0; has_weak = false }

-- The object at a base and its weak object at w are partners no more. All else stays.
pub record IsParted (before : Heap) (base w : ℕ) (after : Heap) : Type 0 where
  pub target : StoredObject
  pub weak : StoredObject
  pub target_begins : Begins before.objects base target
  pub weak_begins : Begins before.objects w weak
  pub same : after ≡ with_partners before base (unlinked target) w (record weak { link = 0 })
