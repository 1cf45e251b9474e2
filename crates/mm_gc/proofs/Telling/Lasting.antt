-- The words of objects last through a command: what begins after it and isn't named by the stack began before it with
-- the same words.
use Rattle.std.proofs.Common.{◌≡◌, ◌⊎◌, inl, inr, ℕ, zero, suc, ◌+◌, ◌*◌, ◌/◌, ◌≤◌, Bool, true, false, ◌&&◌, ◌||◌}
use Rattle.std.proofs.Common.{List, [], ◌∷◌, length, Option, Some, None, refl, sym, ap, ◌∙◌, subst, arith}
use Rattle.std.specs.Prelude.{slice_get, slice_set, slice_index, if◌then◌else◌, ◌==◌, nat_le, not, IsTrue}
use Rattle.std.specs.List.{list_any, find}
use Rattle.std.specs.Option.{option_map, option_and_then}
use Rattle.mm_model.specs.declared.command.Command.{Command}
use Rattle.mm_model.specs.declared.command.Command.TheVariants as commands
use Rattle.mm_model.specs.declared.line.Line.{Line}
use Rattle.mm_model.specs.declared.object.Colour.{Colour}
use Rattle.mm_model.specs.declared.object.Colour.TheVariants.{White, Gray, Black}
use Rattle.mm_model.specs.declared.object.Shape.{Shape}
use Rattle.mm_model.specs.declared.refusal.Refusal.{Refusal}
use Rattle.mm_model.specs.declared.reply.Reply.TheVariants as replies
use Rattle.mm_model.specs.Effect.{weak_shape}
use Rattle.mm_model.specs.Object.{is_counted}
use Rattle.mm_model.specs.Phase.{lists}
use Rattle.mm_model.specs.Places.Place.{Family, Objects, Areas}
use Rattle.mm_model.specs.Places.SizeClass.{object_bytes, area_bytes}
use Rattle.mm_model.specs.Sets.Marking.{is_white, is_raw}
use Rattle.mm_model.specs.Store.{is_counted_slot}
use Rattle.mm_model.specs.Words.{SlotKind, falls}
use Rattle.mm_model.specs.Views.ByBase.{Begins, Based, based, with_entry, changed}
use Rattle.mm_model.specs.Views.ObjectView.{ObjectView, ObjectsByBase, names_at, scanned_words_of, slot_kind_of}
use Rattle.mm_model.specs.Views.SetsByBase.{IsReapableAt, only_slots_hold_at, grayed_at, count_at}
use Rattle.mm_model.specs.Views.View.{View, AreaView, CycleView}
use Rattle.mm_model.specs.Views.ViewEffect.{ViewEffect, with_found, view_plain_effect, view_pushes, view_with_born}
use Rattle.mm_model.specs.Views.ViewEffect.{view_new_effect, view_weak_effect, view_weak_made, view_area_effect}
use Rattle.mm_model.specs.Views.ViewEffect.{newborn_view, with_colour, view_look_effect, view_begun}
use Rattle.mm_model.specs.Views.ViewEffect.{view_done, view_pushed, view_put_effect, view_area_put_effect}
use Rattle.mm_model.specs.Views.ViewEffect.{view_without_area}
use Rattle.mm_model.specs.Views.ViewPhase.{unless_listed, view_after_release, view_released, view_reaped}
use Rattle.mm_model.specs.Views.ViewPhase.{view_collected}
use Rattle.mm_model.specs.Views.ViewStep.{IsViewRow, ViewRowUnless, ViewCarries, ViewSearches, ViewMakes, ViewMakesWeak}
use Rattle.mm_model.specs.Views.ViewStep.{view_part_done, view_part_slots, slots_done_in, with_partly, ViewScansAll}
use Rattle.mm_model.specs.Views.ViewStep.{ViewIsPlain}
use Rattle.mm_model.specs.Views.ViewStore.{view_made_sticky, view_with_sticky, view_recounted, view_is_passed}
use Rattle.mm_model.specs.Views.ViewStore.{view_barrier, view_with_word, view_put, view_area_put}
use Rattle.mm_model.specs.Views.ViewStore.{view_with_area, view_with_grayed}
use Rattle.mm_model.specs.Views.ViewTests.{view_refusal}
use Rattle.mm_model.specs.Views.ViewWords.{object_at, resolved_in, view_meant, area_in, outside_references}
use Rattle.mm_model.specs.Views.ViewWords.{cell_kind_of, marking_words}
use Rattle.mm_model.proofs.Lists.Growing.{find-Some, any_from_get}
use Rattle.mm_model.proofs.Places.Choosing.{extent_of-enough}
use Rattle.mm_model.proofs.Places.Falling.{falls_within}
use Rattle.mm_model.proofs.View.ByBase.ChangedEntries.{changed_begins}
use Rattle.mm_model.proofs.View.ByBase.Entries.{begins_at, begins_same}

-- an object at this base is among others with the same words and bytes
abbrev pub HasTwin : ObjectsByBase → ObjectsByBase → ℕ → Type 0
HasTwin now before base =
    (object : ObjectView) → Begins now base object
    → (twin : ObjectView) × Begins before base twin × (object.words ≡ twin.words) × (object.extent ≡ twin.extent)

abbrev pub HaveTwins : ObjectsByBase → ObjectsByBase → Type 0
HaveTwins now before = (base : ℕ) → HasTwin now before base

-- that is so of what the stack doesn't name
abbrev pub LastsUnnamed : View → View → Type 0
LastsUnnamed new old =
    (base : ℕ) (object : ObjectView) → Begins new.objects base object → names_at new.stack base object ≡ false
    → (twin : ObjectView) × Begins old.objects base twin × (object.words ≡ twin.words) × (object.extent ≡ twin.extent)

lasts : (new old : View) → HaveTwins new.objects old.objects → LastsUnnamed new old
lasts new old twins base object begins unnamed = twins base object begins

twins-same : (objects : ObjectsByBase) → HaveTwins objects objects
twins-same objects base object begins = (object, begins, refl, refl)

twins-on : (last next first : ObjectsByBase) → HaveTwins last next → HaveTwins next first → HaveTwins last first
twins-on last next first later sooner base object begins =
    let middle = later base object begins in
    let twin = sooner base middle.0 middle.1 in
    (twin.0, twin.1, middle.2 ∙ twin.2, middle.3 ∙ twin.3)

-- the words and the extent of what a function left in its place
abbrev KeepsWords : (ℕ → ObjectView → Option ObjectView) → Type 0
KeepsWords f =
    (base : ℕ) (x y : ObjectView) → f base x ≡ Some y → (y.words ≡ x.words) × (y.extent ≡ x.extent)

kept-by : (x y z : ObjectView) → ◌≡◌ {A = Option ObjectView} (Some z) (Some y) → z.words ≡ x.words
    → z.extent ≡ x.extent → (y.words ≡ x.words) × (y.extent ≡ x.extent)
kept-by x y z e words extent =
    let same : y ≡ z = cc in
    (ap (λ (o : ObjectView). o.words) same ∙ words, ap (λ (o : ObjectView). o.extent) same ∙ extent)

twins-changed : (f : ℕ → ObjectView → Option ObjectView) → KeepsWords f → (objects : ObjectsByBase)
    → HaveTwins (changed f objects) objects
twins-changed f keeps objects base object begins =
    let one = changed_begins f objects base object begins in
    let kept = keeps base one.before object one.is in (one.before, one.begins, kept.0, kept.1)

released-keeps : (bases : List ℕ) → KeepsWords (view_after_release bases)
released-keeps bases base x y e = split (lists bases base) e
  where
    split : (b : Bool) → (if b then None else Some (record x { partner = unless_listed bases x.partner })) ≡ Some y
        → (y.words ≡ x.words) × (y.extent ≡ x.extent)
    split true e = cc
    split false e = kept-by x y (record x { partner = unless_listed bases x.partner }) e refl refl

coloured-keeps : (colour : Colour) → KeepsWords (with_colour colour)
coloured-keeps colour base x y e = kept-by x y (record x { colour = colour }) e refl refl

grayed-keeps : (words : List ℕ) → KeepsWords (grayed_at words)
grayed-keeps words base x y e = split (is_white x.colour && names_at words base x) e
  where
    split : (b : Bool)
        → ◌≡◌ {A = Option ObjectView} (Some (if b then record x { colour = Gray } else x)) (Some y)
        → (y.words ≡ x.words) × (y.extent ≡ x.extent)
    split true e = kept-by x y (record x { colour = Gray }) e refl refl
    split false e = kept-by x y x e refl refl

sticky-keeps : (view : View) (word : ℕ) → KeepsWords (view_made_sticky view word)
sticky-keeps view word base x y e =
    kept-by x y
    (record x {
      sticky = x.sticky ||
          (is_counted x.kind && base == word && nat_le 255 (count_at view.objects (outside_references view) base));
    })
    e refl refl

-- one more entry, in a list by base
entry-cases : {X : Type 0} (entries : List (Option X)) (grain : ℕ) (entry : Option X) (k : ℕ) (x : X)
    → slice_get (slice_set entries grain entry) k ≡ Some (Some x)
    → ((k ≡ grain) × (entry ≡ Some x)) ⊎ (slice_get entries k ≡ Some (Some x))
entry-cases [] grain entry k x is = inr is
entry-cases (e ∷ entries) zero entry zero x is = inl (refl, cc)
entry-cases (e ∷ entries) zero entry (suc k) x is = inr is
entry-cases (e ∷ entries) (suc grain) entry zero x is = inr is
entry-cases (e ∷ entries) (suc grain) entry (suc k) x is =
    elim (entry-cases entries grain entry k x is)
    as (λ _. ((suc k ≡ suc grain) × (entry ≡ Some x)) ⊎ (slice_get (e ∷ entries) (suc k) ≡ Some (Some x))) [
      | inl here ↦ inl (ap suc here.0, here.1)
      | inr there ↦ inr there
    ]

-- what begins in it is the new one, in the grain of its base, or began before
born-cases : (objects : ObjectsByBase) (base : ℕ) (new : ObjectView) (b : ℕ) (object : ObjectView)
    → Begins (with_entry base (Some new) objects) b object
    → ((b ≡ 16 * (base / 16)) × (object ≡ new)) ⊎ Begins objects b object
born-cases objects base new b object begins =
    elim (entry-cases objects (base / 16) (Some new) begins.grain object begins.is)
    as (λ _. ((b ≡ 16 * (base / 16)) × (object ≡ new)) ⊎ Begins objects b object) [
      | inl here ↦ inl (begins.aligned ∙ ap (λ (n : ℕ). 16 * n) here.0, cc)
      | inr there ↦ inr (record { grain = begins.grain; aligned = begins.aligned; is = there })
    ]

-- an object that is entered in its own place, with its words
twins-entered : (now before : ObjectsByBase) (o : Based ObjectView) (new : ObjectView) → Begins before o.base o.value
    → new.words ≡ o.value.words → new.extent ≡ o.value.extent → HaveTwins now before
    → HaveTwins (with_entry o.base (Some new) now) before
twins-entered now before o new there words extent twins base object begins =
    elim (born-cases now o.base new base object begins)
    as (λ _. (twin : ObjectView) × Begins before base twin × (object.words ≡ twin.words)
    × (object.extent ≡ twin.extent)) [
      | inl here ↦
          let aligned = there.aligned in
          let at = here.0 in
          let same : o.base ≡ base = omega (arith, aligned, at) in (
            o.value,
            subst (λ (b : ℕ). Begins before b o.value) same there,
            ap (λ (x : ObjectView). x.words) here.1 ∙ words,
            ap (λ (x : ObjectView). x.extent) here.1 ∙ extent,
          )
      | inr was ↦ twins base object was
    ]

found-begins : (objects : ObjectsByBase) (test : Based ObjectView → Bool) (o : Based ObjectView)
    → find test (based objects) ≡ Some o → Begins objects o.base o.value
found-begins objects test o found =
    let place = find-Some test (based objects) o found in begins_at objects place.place o place.is

-- what phases leave
twins-released : (dead : List ℕ) (view : View) → HaveTwins (view_released dead view).objects view.objects
twins-released dead view = twins-changed (view_after_release dead) (released-keeps dead) view.objects

pub reaped-twins : (dead : List ℕ) (view : View) → HaveTwins (view_reaped dead view).objects view.objects
reaped-twins dead view = twins-released dead view

pub collected-twins : (dead : List ℕ) (view : View) → HaveTwins (view_collected dead view).objects view.objects
collected-twins dead view =
    twins-on (view_collected dead view).objects (view_released dead view).objects view.objects
    (twins-changed (with_colour White) (coloured-keeps White) (view_released dead view).objects)
    (twins-released dead view)

-- what a reap frees isn't named by the stack
unnamed : (stack : List ℕ) (outside : ℕ → ℕ) (base : ℕ) (object : ObjectView)
    → IsTrue (only_slots_hold_at stack outside base object) → names_at stack base object ≡ false
unnamed stack outside base object only = split (names_at stack base object) refl
  where
    never : (a b c : Bool) → IsTrue (a && b && false && c) → ⊥
    never true true c h = cc
    never true false c h = cc
    never false b c h = cc

    split : (b : Bool) → names_at stack base object ≡ b → names_at stack base object ≡ false
    split false e = e
    split true e =
        absurd (never (is_counted object.kind) (not object.sticky) (outside base == 0)
        (subst
        (λ (named : Bool). IsTrue (is_counted object.kind && not object.sticky && not named && outside base == 0))
        e only))

pub reapable-unnamed : (objects : ObjectsByBase) (stack : List ℕ) (outside : ℕ → ℕ) (base : ℕ)
    → IsReapableAt objects stack outside base → (object : ObjectView) → Begins objects base object
    → names_at stack base object ≡ false
reapable-unnamed objects stack outside base (IsReapableAt.Reapable _ there begins only holders) object here =
    let same = begins_same objects base there object begins here in
    subst (λ (o : ObjectView). names_at stack base o ≡ false) same (unnamed stack outside base there only)

clash : {A : Type 0} → true ≡ false → A
clash e = cc

-- a newborn object is named, since its base was pushed
born-lasts : (left : View) (base : ℕ) (new : ObjectView) → 16 ≤ new.extent
    → LastsUnnamed (view_with_born base new left) left
born-lasts left base new large b object begins free =
    elim (born-cases left.objects base new b object begins)
    as (λ _. (twin : ObjectView) × Begins left.objects b twin × (object.words ≡ twin.words)
    × (object.extent ≡ twin.extent)) [
      | inl here ↦
          let at = here.0 in
          let extent = ap (λ (x : ObjectView). x.extent) here.1 in
          let inside : falls base b object.extent ≡ true =
          falls_within base b object.extent (omega (arith, at)) (omega (arith, at, extent, large)) in
          let named : names_at (base ∷ left.stack) b object ≡ true =
          ap (λ (t : Bool). t || names_at left.stack b object) inside in
          clash (sym named ∙ free)
      | inr before ↦ (object, before, refl, refl)
    ]

newborn-large : (shape : Shape) (cycle : Option CycleView) → 16 ≤ (newborn_view shape cycle).extent
newborn-large shape cycle =
    let enough = extent_of-enough (object_bytes shape.slots) in omega (arith, enough)

lasts-on : (new left old : View) → LastsUnnamed new left → HaveTwins left.objects old.objects → LastsUnnamed new old
lasts-on new left old later sooner base object begins free =
    let middle = later base object begins free in
    let twin = sooner base middle.0 middle.1 in
    (twin.0, twin.1, middle.2 ∙ twin.2, middle.3 ∙ twin.3)

-- what a search leaves
searched-twins : (view : View) (family : Family) (bytes : ℕ) (log : List Line) (left : View) (found : Option ℕ)
    → ViewSearches view family bytes log left found → HaveTwins left.objects view.objects
searched-twins view family bytes log left found (ViewSearches.At_once base place none same is) =
    subst (λ (v : View). HaveTwins v.objects view.objects) (sym same) (twins-same view.objects)
searched-twins view family bytes log left found
    (ViewSearches.After_reap base dead none reaps place lines same is) =
    subst (λ (v : View). HaveTwins v.objects view.objects) (sym same) (reaped-twins dead view)
searched-twins view family bytes log left found
    (ViewSearches.After_collection dead lost none reaps nowhere collects lines same is) =
    subst (λ (v : View). HaveTwins v.objects view.objects) (sym same)
    (twins-on (view_collected lost (view_reaped dead view)).objects (view_reaped dead view).objects view.objects
    (collected-twins lost (view_reaped dead view)) (reaped-twins dead view))

-- the words of what commands leave that look for a place
new-lasts : (old left : View) (shape : Shape) (found : Option ℕ) → HaveTwins left.objects old.objects
    → LastsUnnamed (view_new_effect left shape found).view old
new-lasts old left shape None twins = lasts left old twins
new-lasts old left shape (Some base) twins =
    let new = newborn_view shape left.cycle in
    lasts-on (view_with_born base new left) left old (born-lasts left base new (newborn-large shape left.cycle)) twins

weak_made-lasts : (old left : View) (o : Based ObjectView) (base : ℕ) → Begins left.objects o.base o.value
    → HaveTwins left.objects old.objects → LastsUnnamed (view_weak_made left o base) old
weak_made-lasts old left o base begins twins =
    let target = record o.value { partner = Some base } in
    let middle : View = record left { objects = with_entry o.base (Some target) left.objects } in
    let new = record (newborn_view weak_shape left.cycle) { partner = Some o.base } in
    lasts-on (view_with_born base new middle) middle old
    (born-lasts middle base new (newborn-large weak_shape left.cycle))
    (twins-on middle.objects left.objects old.objects
    (twins-entered left.objects left.objects o target begins refl refl (twins-same left.objects)) twins)

weak-lasts : (old left : View) (target : ℕ) (found : Option ℕ) → HaveTwins left.objects old.objects
    → LastsUnnamed (view_weak_effect left target found).view old
weak-lasts old left target None twins = lasts left old twins
weak-lasts old left target (Some base) twins = split (object_at left.objects target) refl
  where
    split : (o : Option (Based ObjectView)) → object_at left.objects target ≡ o
        → LastsUnnamed (with_found o left
        (λ o. record { view = view_weak_made left o base; reply = replies.New base })).view old
    split None e = lasts left old twins
    split (Some o) e =
        weak_made-lasts old left o base (found-begins left.objects (λ (b : Based ObjectView). b.base == target) o e)
        twins

area-lasts : (old left : View) (scanned : Bool) (counted cells : ℕ) (found : Option ℕ)
    → HaveTwins left.objects old.objects → LastsUnnamed (view_area_effect left scanned counted cells found).view old
area-lasts old left scanned counted cells None twins = lasts left old twins
area-lasts old left scanned counted cells (Some base) twins =
    lasts (view_area_effect left scanned counted cells (Some base)).view old twins

makes-lasts : (old : View) (family : Family) (bytes : ℕ) (after : View → Option ℕ → ViewEffect) (log : List Line)
    (effect : ViewEffect)
    → ((left : View) (found : Option ℕ) → HaveTwins left.objects old.objects → LastsUnnamed (after left found).view old)
    → ViewMakes old family bytes after log effect → LastsUnnamed effect.view old
makes-lasts old family bytes after log effect each m =
    subst (λ (e : ViewEffect). LastsUnnamed e.view old) (sym m.effect_is)
    (each m.left m.found (searched-twins old family bytes log m.left m.found m.search))

-- what stores leave
sticky-twins : (word : ℕ) (view : View) → HaveTwins (view_with_sticky word view).objects view.objects
sticky-twins word view = twins-changed (view_made_sticky view word) (sticky-keeps view word) view.objects

recounted-twins : (kind : SlotKind) (old new : ℕ) (view : View)
    → HaveTwins (view_recounted kind old new view).objects view.objects
recounted-twins kind old new view = split (is_counted_slot kind && not (old == new))
  where
    split : (b : Bool) → HaveTwins (if b then view_with_sticky new view else view).objects view.objects
    split true = sticky-twins new view
    split false = twins-same view.objects

area_put-lasts : (old : View) (area : AreaView) (s word : ℕ) → LastsUnnamed (view_area_put old area s word) old
area_put-lasts old area s word =
    lasts (view_area_put old area s word) old
    (recounted-twins (cell_kind_of area s) (slice_index area.words s) word
    (view_with_area (record area { words = slice_set area.words s word }) old))

barrier-twins : (o : Based ObjectView) (s word : ℕ) (view : View)
    → HaveTwins (view_barrier o s word view).objects view.objects
barrier-twins o s word view = split (not (is_raw (slot_kind_of o.value s)) && view_is_passed view.cycle o s)
  where
    split : (b : Bool) → HaveTwins (if b then view_with_grayed (word ∷ []) view else view).objects view.objects
    split true = twins-changed (grayed_at (word ∷ [])) (grayed-keeps (word ∷ [])) view.objects
    split false = twins-same view.objects

-- stores leave the stack
recounted-stack : (kind : SlotKind) (old new : ℕ) (view : View) → (view_recounted kind old new view).stack ≡ view.stack
recounted-stack kind old new view = split (is_counted_slot kind && not (old == new))
  where
    split : (b : Bool) → (if b then view_with_sticky new view else view).stack ≡ view.stack
    split true = refl
    split false = refl

barrier-stack : (o : Based ObjectView) (s word : ℕ) (view : View) → (view_barrier o s word view).stack ≡ view.stack
barrier-stack o s word view = split (not (is_raw (slot_kind_of o.value s)) && view_is_passed view.cycle o s)
  where
    split : (b : Bool) → (if b then view_with_grayed (word ∷ []) view else view).stack ≡ view.stack
    split true = refl
    split false = refl

-- an object that is written to is named
put-lasts : (old : View) (o : Based ObjectView) (s word : ℕ) → Begins old.objects o.base o.value
    → names_at old.stack o.base o.value ≡ true → LastsUnnamed (view_put old o s word) old
put-lasts old o s word there named base object begins free =
    let kind = slot_kind_of o.value s in
    let was = slice_index o.value.words s in
    let stored = view_with_word o s word old in
    let counted = view_recounted kind was word stored in
    let left = twins-on (view_put old o s word).objects counted.objects stored.objects (barrier-twins o s word counted)
    (recounted-twins kind was word stored) base object begins in
    elim (born-cases old.objects o.base (record o.value { words = slice_set o.value.words s word }) base left.0 left.1)
    as (λ _. (twin : ObjectView) × Begins old.objects base twin × (object.words ≡ twin.words)
    × (object.extent ≡ twin.extent)) [
      | inl here ↦
          let aligned = there.aligned in
          let at = here.0 in
          let same : o.base ≡ base = omega (arith, aligned, at) in
          let stack = barrier-stack o s word counted ∙ recounted-stack kind was word stored in
          let extent = left.3 ∙ ap (λ (x : ObjectView). x.extent) here.1 in
          let still : names_at (view_put old o s word).stack base object ≡ true =
          ap (λ (words : List ℕ). names_at words base object) stack
          ∙ ap (λ (n : ℕ). list_any (λ w. falls w base n) old.stack) extent
          ∙ ap (λ (b : ℕ). list_any (λ w. falls w b o.value.extent) old.stack) (sym same) ∙ named in
          clash (sym still ∙ free)
      | inr before ↦ (left.0, before, left.2, left.3)
    ]

-- what marking leaves
begun-twins : (old : View) → HaveTwins (view_begun old).objects old.objects
begun-twins old =
    let white = changed (with_colour White) old.objects in
    twins-on (view_begun old).objects white old.objects
    (twins-changed (grayed_at (marking_words old)) (grayed-keeps (marking_words old)) white)
    (twins-changed (with_colour White) (coloured-keeps White) old.objects)

part-twins : (view : View) (o : Based ObjectView) → Begins view.objects o.base o.value
    → HaveTwins (view_part_done view o).objects view.objects
part-twins view o begins = split (done == length (scanned_words_of o.value))
  where
    slots : List ℕ
    slots = view_part_slots view o

    done : ℕ
    done = slots_done_in view.cycle o.base + length slots

    grayed : View
    grayed = view_with_grayed slots view

    twins : HaveTwins grayed.objects view.objects
    twins = twins-changed (grayed_at slots) (grayed-keeps slots) view.objects

    split : (b : Bool)
        → HaveTwins (if b
        then record grayed {
          objects = with_entry o.base (Some (record o.value { colour = Black })) grayed.objects;
          cycle = option_map (with_partly None) view.cycle;
        }
        else record grayed {
          cycle = option_map (with_partly (Some (record { base = o.base; slots_done = done }))) view.cycle;
        }).objects view.objects
    split true = twins-entered grayed.objects view.objects o (record o.value { colour = Black }) begins refl refl twins
    split false = twins

scanned-twins : (view : View) (objects : List (Based ObjectView)) (log : List Line) (left : View)
    → ViewScansAll view objects log left → HaveTwins left.objects view.objects
scanned-twins view [] log left all =
    subst (λ (v : View). HaveTwins v.objects view.objects) (sym all.1) (twins-same view.objects)
scanned-twins view (o ∷ os) log left all =
    twins-on left.objects (view_part_done view o).objects view.objects
    (scanned-twins (view_part_done view o) os all.0 left all.3) (part-twins view o all.1.begins)

-- what any command leaves
found-lasts : {X : Type 0} (old : View) (found : Option X) (effect : X → ViewEffect)
    → ((x : X) → found ≡ Some x → LastsUnnamed (effect x).view old)
    → LastsUnnamed (with_found found old effect).view old
found-lasts old None effect each = lasts old old (twins-same old.objects)
found-lasts old (Some x) effect each = each x refl

meant-begins : (view : View) (i : ℕ) (o : Based ObjectView) → view_meant view i ≡ Some o
    → Begins view.objects o.base o.value × (names_at view.stack o.base o.value ≡ true)
meant-begins view i o means = split (slice_get view.stack i) refl means
  where
    split : (cell : Option ℕ) → slice_get view.stack i ≡ cell → option_and_then (resolved_in view.objects) cell ≡ Some o
        → Begins view.objects o.base o.value × (names_at view.stack o.base o.value ≡ true)
    split None e found = cc
    split (Some word) e found = (
      found-begins view.objects (λ (b : Based ObjectView). falls word b.base b.value.extent) o found,
      any_from_get (λ w. falls w o.base o.value.extent) view.stack i word e
          (find-Some (λ (b : Based ObjectView). falls word b.base b.value.extent) (based view.objects) o found).passes,
    )

-- all objects stay
still : (new old : View) → new.objects ≡ old.objects → LastsUnnamed new old
still new old same =
    lasts new old (subst (λ (objects : ObjectsByBase). HaveTwins objects old.objects) (sym same) (twins-same old.objects))

look-lasts : (old : View) (partner : Option ℕ) → LastsUnnamed (view_look_effect old partner).view old
look-lasts old None = still (view_look_effect old None).view old refl
look-lasts old (Some base) = still (view_look_effect old (Some base)).view old refl

plain-lasts : (old : View) (command : Command) → LastsUnnamed (view_plain_effect old command).view old
plain-lasts old (commands.Push word) = still (view_pushed word old) old refl
plain-lasts old (commands.Dup i) =
    found-lasts old (slice_get old.stack i) (λ word. view_done (view_pushed word old))
    (λ word e. still (view_pushed word old) old refl)
plain-lasts old (commands.Pop k) = still (view_plain_effect old (commands.Pop k)).view old refl
plain-lasts old (commands.Inner i bytes) =
    found-lasts old (slice_get old.stack i) (λ word. view_pushes (word + bytes) old)
    (λ word e. still (view_pushed (word + bytes) old) old refl)
plain-lasts old (commands.Get i s) =
    found-lasts old (view_meant old i) (λ o. with_found (slice_get o.value.words s) old (λ word. view_pushes word old))
    (λ o e. found-lasts old (slice_get o.value.words s) (λ word. view_pushes word old)
    (λ word f. still (view_pushed word old) old refl))
plain-lasts old (commands.Put i s j) =
    found-lasts old (view_meant old i) (λ o. with_found (slice_get old.stack j) old (view_put_effect old o s))
    (λ o e. found-lasts old (slice_get old.stack j) (view_put_effect old o s)
    (λ word f. let begins = meant-begins old i o e in put-lasts old o s word begins.0 begins.1))
plain-lasts old (commands.Look i) =
    found-lasts old (view_meant old i) (λ o. view_look_effect old o.value.partner)
    (λ o e. look-lasts old o.value.partner)
plain-lasts old (commands.DropArea number) = still (view_without_area number old) old refl
plain-lasts old (commands.AreaGet number s) =
    found-lasts old (area_in old number)
    (λ area. with_found (slice_get area.words s) old (λ word. view_pushes word old))
    (λ area e. found-lasts old (slice_get area.words s) (λ word. view_pushes word old)
    (λ word f. still (view_pushed word old) old refl))
plain-lasts old (commands.AreaPut number s j) =
    found-lasts old (area_in old number)
    (λ area. with_found (slice_get old.stack j) old (view_area_put_effect old area s))
    (λ area e. found-lasts old (slice_get old.stack j) (view_area_put_effect old area s)
    (λ word f. area_put-lasts old area s word))
plain-lasts old commands.Begin = lasts (view_begun old) old (begun-twins old)
plain-lasts old (commands.Map i) = still old old refl
plain-lasts old commands.Stat = still old old refl
plain-lasts old (commands.New shape) = still old old refl
plain-lasts old (commands.Weak i) = still old old refl
plain-lasts old (commands.Root counted cells) = still old old refl
plain-lasts old (commands.Fixed cells) = still old old refl
plain-lasts old commands.Reap = still old old refl
plain-lasts old commands.Collect = still old old refl
plain-lasts old (commands.Step k) = still old old refl
plain-lasts old commands.Finish = still old old refl

plainly : (old : View) (command : Command) (log : List Line) (effect : ViewEffect)
    → ViewIsPlain log effect (view_plain_effect old command) → LastsUnnamed effect.view old
plainly old command log effect p =
    subst (λ (e : ViewEffect). LastsUnnamed e.view old) (sym p.effect_is) (plain-lasts old command)

weakly : (old : View) (target : ℕ) (partner : Option ℕ) (log : List Line) (effect : ViewEffect)
    → ViewMakesWeak old target partner log effect → LastsUnnamed effect.view old
weakly old target (Some weak) log effect p =
    subst (λ (e : ViewEffect). LastsUnnamed e.view old) (sym p.effect_is) (still (view_pushed weak old) old refl)
weakly old target None log effect makes =
    makes-lasts old Objects (object_bytes 0) (λ left found. view_weak_effect left target found) log effect
    (λ left found. weak-lasts old left target found) makes

freed-lasts : (left after old : View) → left ≡ after → HaveTwins after.objects old.objects → LastsUnnamed left old
freed-lasts left after old same twins =
    lasts left old (subst (λ (v : View). HaveTwins v.objects old.objects) (sym same) twins)

carries-lasts : (old : View) (command : Command) (log : List Line) (effect : ViewEffect)
    → ViewCarries old command log effect → LastsUnnamed effect.view old
carries-lasts old (commands.New shape) log effect makes =
    makes-lasts old Objects (object_bytes shape.slots) (λ left found. view_new_effect left shape found) log effect
    (λ left found. new-lasts old left shape found) makes
carries-lasts old (commands.Weak i) log effect m = weakly old m.target.base m.target.value.partner log effect m.makes
carries-lasts old (commands.Root counted cells) log effect makes =
    makes-lasts old Areas (area_bytes cells) (λ left found. view_area_effect left true counted cells found) log effect
    (λ left found. area-lasts old left true counted cells found) makes
carries-lasts old (commands.Fixed cells) log effect makes =
    makes-lasts old Areas (area_bytes cells) (λ left found. view_area_effect left false 0 cells found) log effect
    (λ left found. area-lasts old left false 0 cells found) makes
carries-lasts old commands.Reap log effect once =
    freed-lasts effect.view (view_reaped once.0.dead old) old once.0.left_is (reaped-twins once.0.dead old)
carries-lasts old commands.Collect log effect once =
    freed-lasts effect.view (view_collected once.0.lost old) old once.0.left_is (collected-twins once.0.lost old)
carries-lasts old (commands.Step k) log effect s =
    lasts effect.view old (scanned-twins old s.0.objects log effect.view s.0.scanned)
carries-lasts old commands.Finish log effect once =
    freed-lasts effect.view (view_collected once.0.lost old) old once.0.left_is (collected-twins once.0.lost old)
carries-lasts old (commands.Push word) log effect p = plainly old (commands.Push word) log effect p
carries-lasts old (commands.Dup i) log effect p = plainly old (commands.Dup i) log effect p
carries-lasts old (commands.Pop k) log effect p = plainly old (commands.Pop k) log effect p
carries-lasts old (commands.Inner i bytes) log effect p = plainly old (commands.Inner i bytes) log effect p
carries-lasts old (commands.Get i s) log effect p = plainly old (commands.Get i s) log effect p
carries-lasts old (commands.Put i s j) log effect p = plainly old (commands.Put i s j) log effect p
carries-lasts old (commands.Look i) log effect p = plainly old (commands.Look i) log effect p
carries-lasts old (commands.DropArea number) log effect p = plainly old (commands.DropArea number) log effect p
carries-lasts old (commands.AreaGet number s) log effect p = plainly old (commands.AreaGet number s) log effect p
carries-lasts old (commands.AreaPut number s j) log effect p = plainly old (commands.AreaPut number s j) log effect p
carries-lasts old commands.Begin log effect p = plainly old commands.Begin log effect p
carries-lasts old (commands.Map i) log effect p = plainly old (commands.Map i) log effect p
carries-lasts old commands.Stat log effect p = plainly old commands.Stat log effect p

pub row-lasts : (old : View) (command : Command) (log : List Line) (effect : ViewEffect)
    → IsViewRow old command log effect → LastsUnnamed effect.view old
row-lasts old command log effect row = split (view_refusal old command) row
  where
    split : (refusal : Option Refusal) → ViewRowUnless refusal old command log effect → LastsUnnamed effect.view old
    split (Some because) r =
        subst (λ (e : ViewEffect). LastsUnnamed e.view old) (sym r.effect_is) (lasts old old (twins-same old.objects))
    split None r = carries-lasts old command log effect r
