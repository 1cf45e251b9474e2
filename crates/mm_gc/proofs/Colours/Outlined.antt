-- What a store keeps of the objects that a view has: each is where it was, with its room, its kind and its colour.
use Rattle.std.proofs.Common.{◌≡◌, ℕ, ◌+◌, ◌/◌, Bool, true, false, not, List, [], ◌∷◌, map, length, Option, Some}
use Rattle.std.proofs.Common.{None, refl, sym, ap, ◌∙◌, subst, arith}
use Rattle.std.proofs.lemmas.List.{length-map, length-set}
use Rattle.std.proofs.lemmas.Option.{slice_get-map}
use Rattle.std.specs.Prelude.{◌&&◌, ◌||◌, ◌==◌, if◌then◌else◌, slice_get, slice_set, slice_index}
use Rattle.std.specs.Option.{option_map}
use Rattle.mm_model.specs.declared.object.Colour.TheVariants.{Gray}
use Rattle.mm_model.specs.Object.{is_scanned}
use Rattle.mm_model.specs.Places.Place.{Piece, Objects}
use Rattle.mm_model.specs.Words.{SlotKind}
use Rattle.mm_model.specs.Store.{is_counted_slot}
use Rattle.mm_model.specs.Views.ByBase.{Begins, Based, based_from, with_entry, changed}
use Rattle.mm_model.specs.Views.ObjectView.{ObjectView, ObjectsByBase, pieces_of_objects, piece_of_object}
use Rattle.mm_model.specs.Views.ObjectView.{scanned_words_of}
use Rattle.mm_model.specs.Views.ObjectView.{slot_kind_of, names_at}
use Rattle.mm_model.specs.Views.View.{View, CycleView, PartlyScannedView}
use Rattle.mm_model.specs.Views.ViewStore.{view_made_sticky, view_barrier, view_is_passed, view_with_grayed}
use Rattle.mm_model.specs.Views.ViewStore.{is_slot_done}
use Rattle.mm_model.specs.Views.SetsByBase.{grayed_at}
use Rattle.mm_model.specs.Sets.Marking.{is_raw, is_white, is_black}
use Rattle.mm_model.proofs.Lists.Replaced.{map-set_alike}
use Rattle.mm_model.proofs.View.ByBase.ChangedEntries.{map-changed, changed-none}
use Rattle.mm_model.proofs.View.ByBase.ReplacedEntries.{begins_get}
use Rattle.mm_model.proofs.View.ByBase.MappedEntries.{begins_mapped, mapped_begins, IsMapped}
use Rattle.mm_mark.specs.Marker.{Marker, AreKnown, IsUnderScan, has_gray, is_gray_entry}
use Rattle.mm_mark.specs.Stale.{KeepsFewStale}
use Rattle.mm_mark.proofs.Keeping.{few-kept}
use Rattle.mm_gc.specs.Stores.{Store, store_kind, view_stored}

-- what each entry is by a function that a change doesn't alter
pub mapped-changed : {Y : Type 0} (of : ObjectView → Y) (f : ℕ → ObjectView → Option ObjectView)
    → ((base : ℕ) (x : ObjectView) → option_map of (f base x) ≡ Some (of x)) → (objects : ObjectsByBase)
    → map (option_map of) (changed f objects) ≡ map (option_map of) objects
mapped-changed {Y} of f same objects =
    map-changed of f (λ base y. Some y) same objects
    ∙ changed-none (λ (base : ℕ) (y : Y). Some y) (map (option_map of) objects) (λ base y begins. refl)

-- a function that neither other words nor a sticky mark alter
module _ {Y : Type 0} (of : ObjectView → Y)
    (words : (v : ObjectView) (ws : List ℕ) → length ws ≡ length v.words → of (record v { words = ws }) ≡ of v)
    (sticky : (v : ObjectView) (b : Bool) → of (record v { sticky = b }) ≡ of v) where
  pub mapped-stored : (store : Store) (view : View) → Begins view.objects store.holder.base store.holder.value
      → map (option_map of) (view_stored store view).objects ≡ map (option_map of) view.objects
  mapped-stored store view begins =
      split (is_counted_slot (store_kind store) && not (slice_index store.holder.value.words store.slot == store.word))
    where
      now : ObjectsByBase
      now =
          with_entry store.holder.base (Some (record store.holder.value {
            words = slice_set store.holder.value.words store.slot store.word;
          })) view.objects

      written : map (option_map of) now ≡ map (option_map of) view.objects
      written =
          map-set_alike (option_map of) view.objects (store.holder.base / 16) (Some store.holder.value)
          (Some (record store.holder.value { words = slice_set store.holder.value.words store.slot store.word }))
          (begins_get view.objects store.holder.base store.holder.value begins)
          (ap (λ (y : Y). Some y) (words store.holder.value
          (slice_set store.holder.value.words store.slot store.word)
          (length-set store.holder.value.words store.slot store.word)))

      split : (b : Bool) → map (option_map of) (if b then record view {
        objects = changed (view_made_sticky (record view { objects = now }) store.word) now;
      } else record view { objects = now }).objects ≡ map (option_map of) view.objects
      split true =
          mapped-changed of (view_made_sticky (record view { objects = now }) store.word)
          (λ base x. ap (λ (y : Y). Some y) (sticky x _)) now ∙ written
      split false = written

-- an object but for its words and its mark
abbrev pub outlined : ObjectView → ObjectView
outlined v = record v { words = map (λ (word : ℕ). 0) v.words; sticky = false }

pub blank-length : (xs ys : List ℕ) → length xs ≡ length ys
    → map {B = ℕ} (λ (word : ℕ). 0) xs ≡ map {B = ℕ} (λ (word : ℕ). 0) ys
blank-length [] [] e = refl
blank-length [] (y ∷ ys) e = absurd (omega arith)
blank-length (x ∷ xs) [] e = absurd (omega arith)
blank-length (x ∷ xs) (y ∷ ys) e = ap (λ zs. 0 ∷ zs) (blank-length xs ys (omega arith))

pub outlined-stored : (store : Store) (view : View) → Begins view.objects store.holder.base store.holder.value
    → map (option_map outlined) (view_stored store view).objects ≡ map (option_map outlined) view.objects
outlined-stored store view begins =
    mapped-stored outlined
    (λ v ws e. ap (λ zs. record (outlined v) { words = zs }) (blank-length ws v.words e))
    (λ v b. refl) store view begins

-- where outlines are the same
module _ (before after : ObjectsByBase) (same : map (option_map outlined) after ≡ map
    (option_map outlined) before) where
  pub outline-was : (base : ℕ) (v : ObjectView) → Begins after base v → IsMapped outlined before base (outlined v)
  outline-was base v begins =
      mapped_begins outlined before base (outlined v)
      (subst (λ (objects : ObjectsByBase). Begins objects base (outlined v)) same
      (begins_mapped outlined after base v begins))

  pub outline-now : (base : ℕ) (v : ObjectView) → Begins before base v → IsMapped outlined after base (outlined v)
  outline-now base v begins =
      mapped_begins outlined after base (outlined v)
      (subst (λ (objects : ObjectsByBase). Begins objects base (outlined v)) (sym same)
      (begins_mapped outlined before base v begins))

  pub known-outlined : (marker : Marker) → AreKnown marker before → AreKnown marker after
  known-outlined marker known base v begins gray =
      let w = outline-was base v begins in
      known base w.value w.begins (ap (λ (x : ObjectView). x.colour) w.is ∙ gray)

  pub few-outlined : (marker : Marker)
      → KeepsFewStale (record { marker = marker; objects = before }) (record { marker = marker; objects = after })
  few-outlined marker stale few =
      let first = length-map after (option_map outlined) in
      let second = length-map before (option_map outlined) in
      let size : length (map (option_map outlined) after) ≡ length (map (option_map outlined) before) =
      ap length same in
      few-kept marker before after stale (omega (arith, first, second, size))
      (λ base white.
      let w = outline-was base white.object white.begins in
      record { object = w.value; begins = w.begins; is = ap (λ (x : ObjectView). x.colour) w.is ∙ white.is })
      (λ base gray.
      let w = outline-now base gray.object gray.begins in
      record { object = w.value; begins = w.begins; is = ap (λ (x : ObjectView). x.colour) w.is ∙ gray.is })
      few

  scanned-length : (v : ObjectView) → length (scanned_words_of (outlined v)) ≡ length (scanned_words_of v)
  scanned-length v = split (is_scanned v.kind)
    where
      split : (b : Bool) → length {A = ℕ} (if b then map {B = ℕ} (λ (word : ℕ). 0) v.words else []) ≡ length
          (if b then v.words else [])
      split true = length-map {B = ℕ} v.words (λ (word : ℕ). 0)
      split false = refl

  pub scan-outlined : (partly : PartlyScannedView) → IsUnderScan before partly → IsUnderScan after partly
  scan-outlined partly scan =
      record {
        aligned = scan.aligned;
        gray = gray-told after partly.base
            ∙ ap (λ (os : ObjectsByBase). has_gray os partly.base) same
            ∙ sym (gray-told before partly.base) ∙ scan.gray;
        some_done = scan.some_done;
        some_left = λ object begins.
            let w = outline-was partly.base object begins in
            let left = scan.some_left w.value w.begins in
            let first = scanned-length w.value in
            let second = scanned-length object in
            let is : length (scanned_words_of (outlined w.value)) ≡ length (scanned_words_of (outlined object)) =
            ap (λ (x : ObjectView). length (scanned_words_of x)) w.is in
            omega arith;
      }
    where
      each : (entry : Option (Option ObjectView)) → is_gray_entry entry
          ≡ is_gray_entry (option_map (option_map outlined) entry)
      each None = refl
      each (Some None) = refl
      each (Some (Some v)) = refl

      gray-told : (objects : ObjectsByBase) (base : ℕ)
          → has_gray objects base ≡ has_gray (map (option_map outlined) objects) base
      gray-told objects base =
          each (slice_get objects (base / 16))
          ∙ ap is_gray_entry (sym (slice_get-map (option_map outlined) objects (base / 16)))

-- The room that objects take is told by their extents.
abbrev piece_with : Based ℕ → Piece
piece_with o = record { base = o.base; extent = o.value; family = Objects }

abbrev pub extents_of : ObjectsByBase → List (Option ℕ)
extents_of objects = map (option_map (λ (v : ObjectView). v.extent)) objects

pieces-extents : (low : ℕ) (objects : ObjectsByBase)
    → map piece_of_object (based_from low objects) ≡ map piece_with (based_from low (extents_of objects))
pieces-extents low [] = refl
pieces-extents low (None ∷ objects) = pieces-extents (low + 16) objects
pieces-extents low (Some v ∷ objects) =
    ap (λ (ps : List Piece). piece_of_object (record { base = low; value = v }) ∷ ps) (pieces-extents
    (low + 16) objects)

pub pieces-same : (before after : ObjectsByBase) → extents_of after ≡ extents_of before
    → pieces_of_objects after ≡ pieces_of_objects before
pieces-same before after same =
    pieces-extents 0 after ∙ ap (λ entries. map piece_with (based_from 0 entries)) same ∙ sym (pieces-extents 0 before)

pub extents-stored : (store : Store) (view : View) → Begins view.objects store.holder.base store.holder.value
    → extents_of (view_stored store view).objects ≡ extents_of view.objects
extents-stored store view begins =
    mapped-stored (λ (v : ObjectView). v.extent) (λ v ws e. refl) (λ v b. refl) store view begins

pub extents-barrier : (o : Based ObjectView) (s word : ℕ) (view : View)
    → extents_of (view_barrier o s word view).objects ≡ extents_of view.objects
extents-barrier o s word view = split (not (is_raw (slot_kind_of o.value s)) && view_is_passed view.cycle o s)
  where
    split : (b : Bool) → extents_of (if b then record view { objects = changed (grayed_at (word ∷ [])) view.objects }
        else view).objects ≡ extents_of view.objects
    split true =
        mapped-changed (λ (v : ObjectView). v.extent) (grayed_at (word ∷ [])) (λ base x. each base x) view.objects
      where
        each : (base : ℕ) (x : ObjectView)
            → option_map (λ (v : ObjectView). v.extent) (grayed_at (word ∷ []) base x) ≡ Some x.extent
        each base x = either (is_white x.colour && names_at (word ∷ []) base x)
          where
            either : (b : Bool) → option_map (λ (v : ObjectView). v.extent)
                (Some (if b then record x { colour = Gray } else x)) ≡ Some x.extent
            either true = refl
            either false = refl
    split false = refl

-- the barrier looks at what the outline has alone
pub barrier-outlined : (base s word : ℕ) (v w : ObjectView) (view : View) → outlined v ≡ outlined w
    → view_barrier (record { base = base; value = v }) s word view
    ≡ view_barrier (record { base = base; value = w }) s word view
barrier-outlined base s word v w view e =
    ap (λ (kind : SlotKind). if not (is_raw kind) && view_is_passed view.cycle (record { base = base; value = v }) s
    then view_with_grayed (word ∷ []) view else view) (ap (λ (x : ObjectView). slot_kind_of x s) e)
    ∙ ap (λ (b : Bool). if not (is_raw (slot_kind_of w s)) && b then view_with_grayed (word ∷ []) view else view)
    (passed view.cycle)
  where
    passed : (cycle : Option CycleView) → view_is_passed cycle (record { base = base; value = v }) s
        ≡ view_is_passed cycle (record { base = base; value = w }) s
    passed None = refl
    passed (Some cycle) =
        ap (λ (x : ObjectView). is_black x.colour || is_slot_done cycle.partly_scanned base s) e

-- and changes objects alone
pub barrier-rest : (o : Based ObjectView) (s word : ℕ) (view : View)
    → view_barrier o s word view ≡ record view { objects = (view_barrier o s word view).objects }
barrier-rest o s word view = split (not (is_raw (slot_kind_of o.value s)) && view_is_passed view.cycle o s)
  where
    split : (b : Bool) → ◌≡◌ {A = View}
        (if b then record view { objects = changed (grayed_at (word ∷ [])) view.objects } else view)
        (record view {
          objects = (if b then record view {
            objects = changed (grayed_at
                (word ∷ [])) view.objects;
          } else view).objects;
        })
    split true = refl
    split false = refl

pub stored-rest : (store : Store) (view : View)
    → view_stored store view ≡ record view { objects = (view_stored store view).objects }
stored-rest store view =
    split (is_counted_slot (store_kind store) && not (slice_index store.holder.value.words store.slot == store.word))
  where
    now : ObjectsByBase
    now =
        with_entry store.holder.base (Some (record store.holder.value {
          words = slice_set store.holder.value.words store.slot store.word;
        })) view.objects

    now_view : View
    now_view = record view { objects = now }

    sticky : View
    sticky = record view { objects = changed (view_made_sticky now_view store.word) now }

    split : (b : Bool) → ◌≡◌ {A = View} (if b then sticky else now_view)
        (record view { objects = (if b then sticky else now_view).objects })
    split true = refl
    split false = refl
