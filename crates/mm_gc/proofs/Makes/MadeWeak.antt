-- What a heap keeps once a weak object was made in its region.
use Rattle.std.proofs.Common.{◌≡◌, ◌≢◌, ⊎_elim, ℕ, zero, suc, ◌+◌, ◌-◌, ◌*◌, ◌/◌, ◌≤◌, Bool, true, false, List, []}
use Rattle.std.proofs.Common.{◌∷◌, Option, Some, None, refl, sym, ap, ◌∙◌, subst, IsTrue, arith}
use Rattle.std.specs.Prelude.{◌==◌, slice_get, slice_set, if◌then◌else◌, IfSome}
use Rattle.std.specs.Option.{option_map}
use Rattle.mm_model.specs.declared.object.Colour.{Colour}
use Rattle.mm_model.specs.declared.reply.Reply.TheVariants as replies
use Rattle.mm_model.specs.Object.{is_counted, is_weak}
use Rattle.mm_model.specs.Effect.{weak_shape}
use Rattle.mm_model.specs.Views.ByBase.{Begins, Based, with_entry}
use Rattle.mm_model.specs.Views.ObjectView.{ObjectView, ObjectsByBase, references_in}
use Rattle.mm_model.specs.Views.SetsByBase.{count_at}
use Rattle.mm_model.specs.Views.View.{View, AreaView}
use Rattle.mm_model.specs.Views.ViewWords.{outside_references}
use Rattle.mm_model.specs.Views.ViewEffect.{ViewEffect, with_found, birth_colour, newborn_view, view_weak_made}
use Rattle.mm_model.specs.Views.ViewEffect.{view_weak_effect}
use Rattle.mm_model.proofs.Lists.Replaced.{get-set_same, get-set_other, map-set}
use Rattle.mm_model.specs.Views.GoodView.{IsPairedAt}
use Rattle.mm_model.proofs.View.ByBase.Entries.{begins_same}
use Rattle.mm_model.proofs.View.GoodRoom.{object_at-begins}
use Rattle.mm_model.proofs.View.ByBase.ReplacedEntries.{begins_get, begins_here, begins_cases}
use Rattle.mm_model.proofs.View.ByBase.MappedEntries.{begins_mapped, mapped_begins}
use Rattle.mm_roots.specs.Stack.{Cells, pushed}
use Rattle.mm_object.specs.Object.{StoredObject, StoredObjects, view_of_stored, views_of}
use Rattle.mm_object.specs.Heap.{Heap}
use Rattle.mm_count.specs.Composite.{composite_in}
use Rattle.mm_count.specs.Table.{IsSpelled, IsRight, composite_of}
use Rattle.mm_count.specs.Counts.{counts_of, IsCountedBy}
use Rattle.mm_count.specs.Listed.{IsListedAtZero, AllListed, NonePinned}
use Rattle.mm_count.proofs.Born.{right-born}
use Rattle.mm_count.proofs.Composites.{differs, refutes}
use Rattle.mm_count.proofs.Counted.{counts_of-begins}
use Rattle.mm_count.proofs.Null.{none_begins}
use Rattle.mm_count.proofs.References.{references_of, references-with_entry}
use Rattle.mm_count.proofs.Right.{right-kept}
use Rattle.mm_mark.specs.Colours.{IsGrayAt}
use Rattle.mm_mark.specs.Stale.{HasFewStale}
use Rattle.mm_mark.proofs.Keeping.{known-kept}
use Rattle.mm_weak.specs.Links.{IsLinked, partner_of, with_weak, newly_weak}
use Rattle.mm_gc.specs.declared.wanted.Wanted.TheVariants as wanted
use Rattle.mm_gc.specs.declared.wanted.Made.TheVariants as made_variants
use Rattle.mm_gc.specs.declared.wanted.Reach.{Reach}
use Rattle.mm_gc.specs.Gc.{Region, Gc, view_of_gc, cycle_in, totals_in, areas_in, objects_in, freed_since}
use Rattle.mm_gc.specs.Kept.{IsSettled, KeepsGc}
use Rattle.mm_gc.specs.Making.{place_in_reach, IsMade, IsWantedWeak}
use Rattle.mm_gc.specs.Regions.{IsSameRegion}
use Rattle.mm_gc.specs.Showing.{IsShowing}
use Rattle.mm_gc.proofs.Makes.Births.{weak-shows}
use Rattle.mm_gc.proofs.Marking.FewStale.{birth-black, none-seen, few-born, few-recast}
use Rattle.mm_gc.proofs.Makes.Made.{freed-most, made, rooms-made, pieces-made}
use Rattle.mm_gc.proofs.Makes.MadeObjects.{birth_colour-not_gray, gray-born}
use Rattle.mm_count.proofs.Newborn.{IsBlank, IsBornOr, born-or, begins-still, views-born, counted-born, listed-born}
use Rattle.mm_count.proofs.Newborn.{unpinned-born, listed-uncounted}
use Rattle.mm_gc.proofs.Frees.Unheld.{references-none, outside-none}
use Rattle.mm_gc.proofs.Makes.Reaching.{place_in_reach-is}
use Rattle.mm_gc.proofs.Shown.{showing-good}

-- entries at two places may be replaced in any order
set-swapped : {X : Type 0} (xs : List X) (i j : ℕ) (x y : X) → i ≢ j
    → slice_set (slice_set xs i x) j y ≡ slice_set (slice_set xs j y) i x
set-swapped [] i j x y other = refl
set-swapped (z ∷ zs) zero zero x y other = absurd (other refl)
set-swapped (z ∷ zs) zero (suc j) x y other = refl
set-swapped (z ∷ zs) (suc i) zero x y other = refl
set-swapped (z ∷ zs) (suc i) (suc j) x y other = ap (λ ws. z ∷ ws) (set-swapped zs i j x y (λ e. other (ap suc e)))

-- what is gray was gray where a changed object has its colour
gray-kept : (objects : ObjectsByBase) (base : ℕ) (x y : ObjectView) → Begins objects base x → y.colour ≡ x.colour
    → (b : ℕ) → IsGrayAt (with_entry base (Some y) objects) b → IsGrayAt objects b
gray-kept objects base x y begins colour b gray =
    ⊎_elim
    (λ (own : (b ≡ base) × (gray.object ≡ y)).
    record {
      object = x;
      begins = subst (λ n. Begins objects n x) (sym own.0) begins;
      is = sym colour ∙ sym (ap (λ (v : ObjectView). v.colour) own.1) ∙ gray.is;
    })
    (λ (old : (b ≢ base) × Begins objects b gray.object). record { object = gray.object; begins = old.1; is = gray.is })
    (begins_cases objects base x y begins b gray.object gray.begins)

partner-some : (link : ℕ) → link ≢ 0 → (if link == 0 then None else Some link) ≡ Some link
partner-some link some = ap (λ (b : Bool). if b then None else Some link) (refutes link 0 some)

-- a link that is told
partner-told : (link other : ℕ) → (if link == 0 then None else Some link) ≡ Some other → (link ≢ 0) × (link ≡ other)
partner-told link other e = split (link == 0) refl e
  where
    split : (b : Bool) → (link == 0) ≡ b → (if b then None else Some link) ≡ Some other → (link ≢ 0) × (link ≡ other)
    split true h told = cc
    split false h told = let same : link ≡ other = cc in (differs link 0 h, same)

-- counts, the table and pins where an object gets a weak object
module _ (objects : StoredObjects) (base w : ℕ) (x : StoredObject) (begins : Begins objects base x) where
  abbrev joined : StoredObjects
  joined = with_entry base (Some (with_weak w x)) objects

  module _ (outside : ℕ → ℕ) (right : IsCountedBy objects outside) where
    record IsCount (b : ℕ) : Type 0 where
      exact : counts_of joined b ≡ count_at (views_of joined) outside b
      few : counts_of joined b ≤ 254

    references-same : (b : ℕ) → references_in (views_of joined) b ≡ references_in (views_of objects) b
    references-same b =
        let sums = references-with_entry (views_of objects) base (view_of_stored x) (view_of_stored (with_weak w x))
        (begins_mapped view_of_stored objects base x begins) b in
        let own : references_of (view_of_stored (with_weak w x)) b ≡ references_of (view_of_stored x) b = refl in
        let seen : references_in (views_of joined) b
        ≡ references_in (with_entry base (Some (view_of_stored (with_weak w x))) (views_of objects)) b =
        ap (λ (vs : ObjectsByBase). references_in vs b)
        (map-set (option_map view_of_stored) objects (base / 16) (Some (with_weak w x))) in
        omega (arith, sums, own, seen)

    count-as : (b : ℕ) (y z : StoredObject) → Begins joined b y → Begins objects b z → y.composite ≡ z.composite
        → IsTrue (is_counted z.kind) → (composite_of z).sticky ≡ false → IsCount b
    count-as b y z now was same counted exact =
        let told = counts_of-begins joined b y now in
        let was_told = counts_of-begins objects b z was in
        let seen = begins_mapped view_of_stored objects b z was in
        let old = right.exact b (view_of_stored z) seen counted exact in
        let most = right.few b (view_of_stored z) seen counted exact in
        let refs = references-same b in
        let count : (composite_of y).count ≡ (composite_of z).count =
        ap (λ (word : ℕ). (composite_in word).count) same in
        record {
          exact = omega (arith, told, was_told, old, refs, count);
          few = omega (
            arith,
            told,
            was_told,
            most,
            count,
          );
        }

    count-stored : (b : ℕ) (y : StoredObject) → Begins joined b y → IsTrue (is_counted y.kind)
        → (composite_of y).sticky ≡ false → IsCount b
    count-stored b y now counted exact =
        ⊎_elim
        (λ (own : (b ≡ base) × (y ≡ with_weak w x)).
        count-as b y x now (subst (λ n. Begins objects n x) (sym own.0) begins)
        (ap (λ (o : StoredObject). o.composite) own.1)
        (subst (λ (o : StoredObject). IsTrue (is_counted o.kind)) own.1 counted)
        (sym (ap (λ (o : StoredObject). (composite_of o).sticky) own.1) ∙ exact))
        (λ (old : (b ≢ base) × Begins objects b y). count-as b y y now old.1 refl counted exact)
        (begins_cases objects base x (with_weak w x) begins b y now)

    count-seen : (b : ℕ) (v : ObjectView) → Begins (views_of joined) b v → IsTrue (is_counted v.kind)
        → v.sticky ≡ false → IsCount b
    count-seen b v there counted exact =
        let m = mapped_begins view_of_stored joined b v there in
        count-stored b m.value m.begins
        (subst (λ k. IsTrue (is_counted k)) (sym (ap (λ (z : ObjectView). z.kind) m.is)) counted)
        (ap (λ (z : ObjectView). z.sticky) m.is ∙ exact)

    counted-linked : IsCountedBy joined outside
    counted-linked =
        record {
          exact = λ b v there counted exact. (count-seen b v there counted exact).exact;
          few = λ b v there counted exact. (count-seen b v there counted exact).few;
        }

  listed-linked : AllListed objects → AllListed joined
  listed-linked all = record {
    listed = λ b y there.
        ⊎_elim
        (λ (own : (b ≡ base) × (y ≡ with_weak w x)). subst IsListedAtZero (sym own.1) (all.listed base x begins))
        (λ (old : (b ≢ base) × Begins objects b y). all.listed b y old.1)
        (begins_cases objects base x (with_weak w x) begins b y there);
  }

  unpinned-linked : NonePinned objects → NonePinned joined
  unpinned-linked all = record {
    unpinned = λ b y there.
        ⊎_elim
        (λ (own : (b ≡ base) × (y ≡ with_weak w x)).
        ap (λ (o : StoredObject). (composite_of o).pinned) own.1 ∙ all.unpinned base x begins)
        (λ (old : (b ≢ base) × Begins objects b y). all.unpinned b y old.1)
        (begins_cases objects base x (with_weak w x) begins b y there);
  }

module _ (gc : Gc) (keeps : KeepsGc gc) (r : Region) (same : IsSameRegion gc.region r) (settled : IsSettled r)
    (target w : ℕ) (t : StoredObject) where
  abbrev old : StoredObjects
  old = gc.region.heap.objects

  abbrev new : StoredObject
  new = newly_weak target (birth_colour (cycle_in gc))

  abbrev mid : StoredObjects
  mid = with_entry w (Some new) old

  blank : IsBlank new
  blank = record { slots = 0; words = refl; composite = refl }

  module _ (begins : Begins old target t) (none : slice_get old (w / 16) ≡ Some None)
      (done : r.heap.objects ≡ with_entry target (Some (with_weak w t)) mid) (linked : IsLinked r.heap)
      (areas : areas_in r ≡ areas_in gc.region) where
    apart : w / 16 ≢ target / 16
    apart e =
        let is = begins_get old target t begins in
        let no : ◌≡◌ {A = Option (Option StoredObject)} (Some None) (Some (Some t)) =
        sym none ∙ ap (slice_get old) e ∙ is in
        cc

    some-target : target ≢ 0
    some-target =
        none_begins gc.region.heap keeps.settled.keeps.sound.heap 0 refl target (view_of_stored t)
        (begins_mapped view_of_stored old target t begins)

    -- its own link tells where it lies
    weak-at : (w ≢ 0) × (w ≡ 16 * (w / 16))
    weak-at =
        let here : slice_get r.heap.objects (w / 16) ≡ Some (Some new) =
        ap (λ (os : StoredObjects). slice_get os (w / 16)) done
        ∙ get-set_other mid (target / 16) (w / 16) (Some (with_weak w t)) apart
        ∙ get-set_same old (w / 16) None (Some new) none in
        let stands : Begins r.heap.objects (16 * (w / 16)) new = record { grain = w / 16; aligned = refl; is = here } in
        let seen = begins_mapped view_of_stored r.heap.objects (16 * (w / 16)) new stands in
        let paired = subst (λ partner. IfSome partner (IsPairedAt (views_of r.heap.objects) (16 * (w / 16))
        (view_of_stored new)))
        (partner-some target some-target) (linked.paired (16 * (w / 16)) (view_of_stored new) seen) in
        let now : Begins r.heap.objects target (with_weak w t) =
        subst (λ os. Begins os target (with_weak w t)) (sym done) (begins_here mid target t (with_weak w t) still) in
        let is = begins_same (views_of r.heap.objects) target paired.partner (view_of_stored (with_weak w t))
        paired.begins
        (begins_mapped view_of_stored r.heap.objects target (with_weak w t) now) in
        partner-told w (16 * (w / 16)) (sym (ap (λ (v : ObjectView). v.partner) is) ∙ paired.back)
      where
        still : Begins mid target t
        still =
            let a = begins.aligned in
            record {
              grain = begins.grain;
              aligned = a;
              is = get-set_other old (w / 16) begins.grain (Some new) (λ e. apart (omega (arith, a, e))) ∙ begins.is;
            }

    there : Begins mid w new
    there = record { grain = w / 16; aligned = weak-at.1; is = get-set_same old (w / 16) None (Some new) none }

    still : Begins mid target t
    still = begins-still old w new none there blank target t begins

    spelled : IsSpelled (with_weak w t)
    spelled =
        let s = keeps.counts.right.spelled target t begins in
        record { word = s.word; counted = s.counted; other = s.other }

    abbrev between : Heap
    between = record r.heap { objects = mid }

    weak-right : IsRight gc.table r.heap
    weak-right =
        let right = right-born gc.region.heap between w new none refl refl gc.table same.heap_pages
        keeps.counts.right in
        subst (λ (os : StoredObjects). IsRight gc.table (record r.heap { objects = os })) (sym done)
        (right-kept between target t (with_weak w t) still refl spelled gc.table right refl refl)

    somewhere : (b : ℕ) (x : StoredObject) → Begins mid b x → b ≢ 0
    somewhere b x begun = split (born-or old w new none there blank b x begun)
      where
        split : IsBornOr old w new none there blank b x → b ≢ 0
        split (IsBornOr.Newborn at is) = λ e. weak-at.0 (sym at ∙ e)
        split (IsBornOr.There was) =
            none_begins gc.region.heap keeps.settled.keeps.sound.heap 0 refl b (view_of_stored x)
            (begins_mapped view_of_stored old b x was)

    nothing : (object : ObjectView) → Begins (objects_in gc.region) w object → ⊥
    nothing object begun =
        let m = mapped_begins view_of_stored old w object begun in
        let is = begins_get old w m.value m.begins in
        let no : ◌≡◌ {A = Option (Option StoredObject)} (Some None) (Some (Some m.value)) = sym none ∙ is in
        cc

    weak-counted : IsCountedBy r.heap.objects (outside_references (view_of_gc gc))
    weak-counted =
        let view = view_of_gc gc in
        let good = showing-good view keeps.shown in
        subst (λ os. IsCountedBy os (outside_references view)) (sym done)
        (counted-linked mid target w t still (outside_references view)
        (counted-born old w new none there blank (outside_references view) keeps.counts.counted somewhere
        (references-none view good w weak-at.0 nothing) (outside-none view good w weak-at.0 nothing)))

    weak-listed : AllListed r.heap.objects
    weak-listed =
        subst AllListed (sym done)
        (listed-linked mid target w t still
        (listed-uncounted mid w new there refl (listed-born old w new none there blank keeps.counts.listed)))

    weak-unpinned : NonePinned r.heap.objects
    weak-unpinned =
        subst NonePinned (sym done)
        (unpinned-linked mid target w t still (unpinned-born old w new none there blank keeps.counts.unpinned))

    abbrev seen : ObjectView
    seen = record (newborn_view weak_shape (cycle_in gc)) { partner = Some target }

    abbrev seen_target : ObjectView
    seen_target = record (view_of_stored t) { partner = Some w }

    views-new : views_of r.heap.objects
        ≡ with_entry target (Some (view_of_stored (with_weak w t))) (with_entry w (Some (view_of_stored new))
        (objects_in gc.region))
    views-new =
        ap views_of done ∙ map-set (option_map view_of_stored) mid (target / 16) (Some (with_weak w t))
        ∙ ap (λ (vs : ObjectsByBase). with_entry target (Some (view_of_stored (with_weak w t))) vs)
        (views-born old w new none there blank)

    views-made : views_of r.heap.objects
        ≡ with_entry w (Some seen) (with_entry target (Some seen_target) (objects_in gc.region))
    views-made =
        views-new
        ∙ ap (λ (partner : Option ℕ). with_entry target (Some (record (view_of_stored t) { partner = partner }))
        (with_entry w (Some (view_of_stored new)) (objects_in gc.region))) (partner-some w weak-at.0)
        ∙ ap (λ (partner : Option ℕ). with_entry target (Some seen_target)
        (with_entry w (Some (record (newborn_view weak_shape (cycle_in gc)) { partner = partner })) (objects_in
        gc.region)))
        (partner-some target some-target)
        ∙ set-swapped (objects_in gc.region) (w / 16) (target / 16) (Some seen) (Some seen_target) apart

    abbrev after : Gc
    after = made gc r gc.table (pushed gc.stack w) (gc.born + 1)

    abbrev target_seen : Based ObjectView
    target_seen = record { base = target; value = view_of_stored t }

    view-weak : view_of_gc after ≡ view_weak_made (view_of_gc gc) target_seen w
    view-weak =
        let most = freed-most gc keeps.shown in
        let live : gc.born + 1 - gc.freed ≡ gc.born - gc.freed + 1 = omega (arith, most) in
        ap (λ (vs : ObjectsByBase). record (view_of_gc after) { objects = vs }) views-made
        ∙ ap
        (λ (views : List AreaView). record (view_weak_made (view_of_gc gc) target_seen w) {
          areas = views;
          totals =
              totals_in after;
        })
        areas
        ∙ ap
        (λ (n : ℕ). record (view_weak_made (view_of_gc gc) target_seen w) {
          totals = record (totals_in after) {
            live
                = n;
          };
        })
        live

    seen_begins : Begins (objects_in gc.region) target (view_of_stored t)
    seen_begins = begins_mapped view_of_stored old target t begins

    module _ (r' : Reach) (alone : (view_of_stored t).partner ≡ None) (strong : is_weak t.kind ≡ false)
        (place : place_in_reach r' (view_of_gc gc) (wanted.WeakOf target) ≡ Some w) where
      effect-is : view_weak_effect (view_of_gc gc) target (place_in_reach r' (view_of_gc gc) (wanted.WeakOf target))
          ≡ record { view = view_of_gc after; reply = replies.New w }
      effect-is =
          let view = view_of_gc gc in
          ap (view_weak_effect view target) place
          ∙ ap
          (λ (found : Option (Based ObjectView)). with_found found view
          (λ o. record { view = view_weak_made view o w; reply = replies.New w }))
          (object_at-begins view target (view_of_stored t) seen_begins)
          ∙ ap (λ (v : View). record { view = v; reply = replies.New w }) (sym view-weak)

      pub weak-made : IsMade (view_of_gc gc) (wanted.WeakOf target) r' (view_of_gc after) (Some (made_variants.Object
          w))
      weak-made = effect-is

      pub weak-keeps : KeepsGc after
      weak-keeps =
          let view = view_of_gc gc in
          record {
            shown = subst (λ (v : ViewEffect). IsShowing v.view) effect-is
                (weak-shows view keeps.shown target (view_of_stored t) seen_begins alone strong
                (place_in_reach r' view (wanted.WeakOf target)) (place_in_reach-is r' view (wanted.WeakOf target)));
            settled = settled;
            counts = record {
              right = weak-right;
              counted = subst
                  (λ (views : List AreaView). IsCountedBy r.heap.objects
                  (outside_references (record (view_of_gc after) { areas = views })))
                  (sym areas) weak-counted;
              listed = weak-listed;
              unpinned = weak-unpinned;
            };
            linked = linked;
            marking = record {
              known = known-kept gc.marker (objects_in gc.region) (views_of r.heap.objects)
                  (λ b gray. was-gray b (subst (λ vs. IsGrayAt vs b) views-new gray)) keeps.marking.known;
              idle = keeps.marking.idle;
              since = keeps.marking.since;
              few = λ runs room.
                  subst (λ vs. HasFewStale (record { marker = gc.marker; objects = vs }) (freed_since gc))
                  (sym views-new)
                  (few-recast gc.marker (with_entry w (Some (view_of_stored new)) (objects_in gc.region)) target
                  (view_of_stored t) (view_of_stored (with_weak w t)) target-still refl (freed_since gc)
                  (few-born gc.marker (objects_in gc.region) w (view_of_stored new) (none-seen old (w / 16) none)
                  (birth-black gc runs) (freed_since gc) (keeps.marking.few runs room)));
            };
            rooms = rooms-made gc keeps r same gc.table refl (pushed gc.stack w) refl refl (gc.born + 1);
            pieces = pieces-made gc keeps r same gc.table refl (pushed gc.stack w) refl refl (gc.born + 1);
          }
        where
          target-still : Begins (with_entry w (Some (view_of_stored new)) (objects_in gc.region)) target
              (view_of_stored t)
          target-still =
              subst (λ vs. Begins vs target (view_of_stored t)) (views-born old w new none there blank)
              (begins_mapped view_of_stored mid target t still)

          was-gray : (b : ℕ)
              → IsGrayAt (with_entry target (Some (view_of_stored (with_weak w t)))
              (with_entry w (Some (view_of_stored new)) (objects_in gc.region))) b → IsGrayAt (objects_in gc.region) b
          was-gray b gray =
              gray-born (objects_in gc.region) w (view_of_stored new) (birth_colour-not_gray (cycle_in gc)) b
              (gray-kept (with_entry w (Some (view_of_stored new)) (objects_in gc.region)) target (view_of_stored t)
              (view_of_stored (with_weak w t))
              target-still refl b gray)

-- what is asked of a target, of the stored object
pub record IsTargetAsked (gc : Gc) (base : ℕ) : Type 0 where
  pub object : StoredObject
  pub begins : Begins gc.region.heap.objects base object
  pub strong : is_weak object.kind ≡ false
  pub alone : (view_of_stored object).partner ≡ None

pub target-asked : (gc : Gc) (base : ℕ) → IsWantedWeak (view_of_gc gc) base → IsTargetAsked gc base
target-asked gc base asked =
    let m = mapped_begins view_of_stored gc.region.heap.objects base asked.target asked.begins in
    record {
      object = m.value;
      begins = m.begins;
      strong = ap (λ (v : ObjectView). is_weak v.kind) m.is ∙ asked.strong;
      alone = ap (λ (v : ObjectView). v.partner) m.is ∙ asked.alone;
    }

pub target-alone : (gc : Gc) (base : ℕ) → IsTargetAsked gc base → (object : StoredObject)
    → Begins gc.region.heap.objects base object → partner_of object ≡ None
target-alone gc base asked object begins =
    ap (λ (o : StoredObject). partner_of o)
    (begins_same gc.region.heap.objects base object asked.object begins asked.begins)
    ∙ asked.alone

-- with the colour of births
pub linked-weak : (before after : StoredObjects) (target w : ℕ) (t : StoredObject) (a b : Colour) → a ≡ b
    → after ≡ with_entry target (Some (with_weak w t)) (with_entry w (Some (newly_weak target a)) before)
    → after ≡ with_entry target (Some (with_weak w t)) (with_entry w (Some (newly_weak target b)) before)
linked-weak before now target w t a b e is =
    is
    ∙ ap (λ (colour : Colour). with_entry target (Some (with_weak w t)) (with_entry w (Some (newly_weak target
    colour)) before)) e

module _ (gc : Gc) (keeps : KeepsGc gc) (r : Region) (same : IsSameRegion gc.region r) (settled : IsSettled r)
    (target w : ℕ) (asked : IsTargetAsked gc target) (none : slice_get gc.region.heap.objects (w / 16) ≡ Some None)
    (made_is : r.heap.objects ≡ with_entry target (Some (with_weak w asked.object))
    (with_entry w (Some (newly_weak target (birth_colour (cycle_in gc)))) gc.region.heap.objects))
    (linked : IsLinked r.heap) (areas : areas_in r ≡ areas_in gc.region) (stack : Cells)
    (is : stack ≡ pushed gc.stack w) (r' : Reach)
    (place : place_in_reach r' (view_of_gc gc) (wanted.WeakOf target) ≡ Some w) where
  abbrev done : Cells → Gc
  done cells = made gc r gc.table cells (gc.born + 1)

  pub weak-done : KeepsGc (done stack)
  weak-done =
      subst (λ cells. KeepsGc (done cells)) (sym is)
      (weak-keeps gc keeps r same settled target w asked.object asked.begins none made_is linked areas r' asked.alone
      asked.strong place)

  pub weak-answered : IsMade (view_of_gc gc) (wanted.WeakOf target) r' (view_of_gc (done stack))
      (Some (made_variants.Object w))
  weak-answered =
      subst
      (λ cells. IsMade (view_of_gc gc) (wanted.WeakOf target) r' (view_of_gc (done cells)) (Some
      (made_variants.Object w)))
      (sym is)
      (weak-made gc keeps r same settled target w asked.object asked.begins none made_is linked areas r' asked.alone
      asked.strong place)
