-- What a heap keeps once an object was made in its region.
use Rattle.std.proofs.Common.{◌≡◌, ◌≢◌, ⊎_elim, ℕ, ◌+◌, ◌-◌, ◌/◌, Bool, true, false, not, ◌&&◌, List, Option, Some}
use Rattle.std.proofs.Common.{None, refl, sym, ap, ◌∙◌, subst, arith}
use Rattle.std.specs.Prelude.{◌==◌, slice_get}
use Rattle.mm_model.specs.declared.object.Colour.{Colour}
use Rattle.mm_model.specs.declared.object.Colour.TheVariants.{Gray}
use Rattle.mm_model.specs.declared.object.Shape.{Shape}
use Rattle.mm_model.specs.declared.reply.Reply.TheVariants as replies
use Rattle.mm_model.specs.Object.{is_weak}
use Rattle.mm_model.specs.Refusing.{is_bad_shape}
use Rattle.mm_model.specs.Views.ByBase.{Begins, with_entry}
use Rattle.mm_model.specs.Views.ObjectView.{ObjectView, ObjectsByBase}
use Rattle.mm_model.specs.Views.View.{View, AreaView, CycleView}
use Rattle.mm_model.specs.Views.ViewWords.{outside_references}
use Rattle.mm_model.specs.Views.ViewEffect.{birth_colour, newborn_view, view_with_born, view_new_effect}
use Rattle.mm_model.proofs.Lists.Replaced.{get-set_cases}
use Rattle.mm_model.proofs.View.ByBase.MappedEntries.{begins_mapped, mapped_begins}
use Rattle.mm_roots.specs.Stack.{Cells, pushed}
use Rattle.mm_object.specs.Object.{StoredObject, StoredObjects, newly_stored, view_of_stored, views_of}
use Rattle.mm_object.specs.Heap.{Heap, IsSound}
use Rattle.mm_count.specs.Table.{Table, IsRight, IsSameTable}
use Rattle.mm_count.specs.Counts.{IsCountedBy, KeepsObjects}
use Rattle.mm_count.specs.Listed.{AllListed, AllListedBut, NonePinned}
use Rattle.mm_count.proofs.Born.{right-born}
use Rattle.mm_count.proofs.Null.{none_begins}
use Rattle.mm_mark.specs.Colours.{IsGrayAt}
use Rattle.mm_mark.specs.Stale.{HasFewStale}
use Rattle.mm_mark.proofs.Keeping.{known-kept}
use Rattle.mm_weak.specs.Links.{is_linked_target}
use Rattle.mm_gc.specs.declared.wanted.Wanted.TheVariants as wanted
use Rattle.mm_gc.specs.declared.wanted.Made.TheVariants as made_variants
use Rattle.mm_gc.specs.declared.wanted.Reach.{Reach}
use Rattle.mm_gc.specs.Gc.{Region, Gc, view_of_gc, cycle_in, totals_in, areas_in, objects_in, freed_since}
use Rattle.mm_gc.specs.Kept.{IsSettled, KeepsGc}
use Rattle.mm_gc.specs.Making.{place_in_reach, IsMade}
use Rattle.mm_gc.specs.Regions.{IsSameRegion}
use Rattle.mm_gc.specs.Showing.{IsShowing}
use Rattle.mm_gc.proofs.Makes.Births.{object-shows}
use Rattle.mm_gc.proofs.Marking.FewStale.{birth-black, none-seen, few-born}
use Rattle.mm_gc.proofs.Makes.Made.{AreFlagged, settled-entered, freed-most, made, rooms-made, pieces-made}
use Rattle.mm_count.proofs.Newborn.{IsBlank, IsBornOr, born-or, views-born, counted-born, listed-born, unpinned-born}
use Rattle.mm_gc.proofs.Frees.Unheld.{references-none, outside-none}
use Rattle.mm_gc.proofs.Makes.Reaching.{place_in_reach-is}
use Rattle.mm_gc.proofs.Shown.{showing-good}

clash : false ≡ true → ⊥
clash e = cc

-- an object that is born isn't gray
pub birth_colour-not_gray : (cycle : Option CycleView) → birth_colour cycle ≢ Gray
birth_colour-not_gray None e = cc
birth_colour-not_gray (Some cycle) e = cc

-- so what is gray was gray
pub gray-born : (objects : ObjectsByBase) (base : ℕ) (new : ObjectView) → new.colour ≢ Gray → (b : ℕ)
    → IsGrayAt (with_entry base (Some new) objects) b → IsGrayAt objects b
gray-born objects base new other b gray =
    let begins = gray.begins in
    ⊎_elim
    (λ (own : (begins.grain ≡ base / 16) × (Some new ≡ Some gray.object)).
    let is = own.1 in
    let same : new ≡ gray.object = cc in
    absurd (other (ap (λ (v : ObjectView). v.colour) same ∙ gray.is)))
    (λ (old : slice_get objects begins.grain ≡ Some (Some gray.object)).
    record {
      object = gray.object;
      begins = record { grain = begins.grain; aligned = begins.aligned; is = old };
      is = gray.is;
    })
    (get-set_cases objects (base / 16) begins.grain (Some new) (Some gray.object) begins.is)

neither : (b : Bool) → (b && false) ≡ false
neither true = refl
neither false = refl

-- an object without a link has no weak object
unlinked-is : (object : StoredObject) → object.link ≡ 0 → is_linked_target object ≡ false
unlinked-is object alone =
    ap (λ (link : ℕ). not (is_weak object.kind) && not (link == 0)) alone ∙ neither (not (is_weak object.kind))

module _ (gc : Gc) (keeps : KeepsGc gc) (r : Region) (same : IsSameRegion gc.region r) (settled : IsSettled r)
    (base : ℕ) (shape : Shape) where
  abbrev new : StoredObject
  new = newly_stored shape (birth_colour (cycle_in gc))

  abbrev old : StoredObjects
  old = gc.region.heap.objects

  blank : IsBlank new
  blank = record { slots = shape.slots; words = refl; composite = refl }

  module _ (none : slice_get old (base / 16) ≡ Some None) (created : r.heap.objects ≡ with_entry base (Some new) old)
      (begins : Begins r.heap.objects base new) where
    there : Begins (with_entry base (Some new) old) base new
    there = subst (λ os. Begins os base new) created begins

    pub new-right : IsRight gc.table r.heap
    new-right =
        right-born gc.region.heap r.heap base new none created refl gc.table same.heap_pages keeps.counts.right

    pub new-listed : AllListedBut base r.heap.objects
    new-listed =
        subst (AllListedBut base) (sym created) (listed-born old base new none there blank keeps.counts.listed)

    pub new-unpinned : NonePinned r.heap.objects
    new-unpinned =
        subst NonePinned (sym created) (unpinned-born old base new none there blank keeps.counts.unpinned)

    based-somewhere : (b : ℕ) (x : StoredObject) → Begins (with_entry base (Some new) old) b x → b ≢ 0
    based-somewhere b x begun =
        none_begins r.heap settled.keeps.sound.heap 0 refl b (view_of_stored x)
        (begins_mapped view_of_stored r.heap.objects b x (subst (λ os. Begins os b x) (sym created) begun))

    nothing : (object : ObjectView) → Begins (objects_in gc.region) base object → ⊥
    nothing object begun =
        let m = mapped_begins view_of_stored old base object begun in
        let a = m.begins.aligned in
        let grain : m.begins.grain ≡ base / 16 = omega (arith, a) in
        let no : ◌≡◌ {A = Option (Option StoredObject)} (Some (Some m.value)) (Some None) =
        sym m.begins.is ∙ ap (slice_get old) grain ∙ none in
        cc

    pub new-counted : IsCountedBy r.heap.objects (outside_references (view_of_gc gc))
    new-counted =
        let view = view_of_gc gc in
        let good = showing-good view keeps.shown in
        let some = based-somewhere base new there in
        subst (λ os. IsCountedBy os (outside_references view)) (sym created)
        (counted-born old base new none there blank (outside_references view) keeps.counts.counted based-somewhere
        (references-none view good base some nothing) (outside-none view good base some nothing))

    -- it is entered into the table, where it's counted
    module _ (areas : areas_in r ≡ areas_in gc.region) (objects : StoredObjects) (table : Table)
        (kept : KeepsObjects r.heap.objects objects) (views : views_of objects ≡ views_of r.heap.objects) where
      abbrev region : Region
      region = record r { heap = record r.heap { objects = objects } }

      abbrev after : Gc
      after = made gc region table (pushed gc.stack base) (gc.born + 1)

      abbrev seen : ObjectView
      seen = newborn_view shape (cycle_in gc)

      views-new : views_of objects ≡ with_entry base (Some seen) (objects_in gc.region)
      views-new = views ∙ ap views_of created ∙ views-born old base new none there blank

      pub view-object : view_of_gc after ≡ view_with_born base seen (view_of_gc gc)
      view-object =
          let most = freed-most gc keeps.shown in
          let live : gc.born + 1 - gc.freed ≡ gc.born - gc.freed + 1 = omega (arith, most) in
          ap (λ (vs : ObjectsByBase). record (view_of_gc after) { objects = vs }) views-new
          ∙ ap
          (λ (views : List AreaView). record (view_with_born base seen (view_of_gc gc)) {
            areas = views;
            totals =
                totals_in after;
          })
          areas
          ∙ ap
          (λ (n : ℕ). record (view_with_born base seen (view_of_gc gc)) {
            totals = record (totals_in after) {
              live =
                  n;
            };
          })
          live

      flagged : AreFlagged objects
      flagged b object begun =
          let back = kept.back b object begun in
          split b (record object { composite = back.0 }) (born-or old base new none there blank b
          (record object { composite = back.0 })
          (subst (λ os. Begins os b (record object { composite = back.0 })) created back.1))
        where
          split : (b : ℕ) (x : StoredObject) → IsBornOr old base new none there blank b x → x.has_weak ≡
              is_linked_target x
          split b x (IsBornOr.Newborn at is) =
              ap (λ (o : StoredObject). o.has_weak) is
              ∙ sym (unlinked-is x (ap (λ (o : StoredObject). o.link) is))
          split b x (IsBornOr.There was) = keeps.linked.flagged b x was

      module _ (r' : Reach) (fine : is_bad_shape shape ≡ false)
          (place : place_in_reach r' (view_of_gc gc) (wanted.Object shape) ≡ Some base) where
        object-shown : IsShowing (view_of_gc after)
        object-shown =
            let view = view_of_gc gc in
            subst IsShowing (sym view-object)
            (subst (λ found. IsShowing (view_new_effect view shape found).view) place
            (object-shows view keeps.shown shape fine (place_in_reach r' view (wanted.Object shape))
            (place_in_reach-is r' view (wanted.Object shape))))

        pub object-made : IsMade (view_of_gc gc) (wanted.Object shape) r' (view_of_gc after)
            (Some (made_variants.Object base))
        object-made =
            let view = view_of_gc gc in
            ap (view_new_effect view shape) place
            ∙ ap (λ (v : View). record { view = v; reply = replies.New base }) (sym view-object)

        pub object-keeps : IsSameTable gc.table table → IsRight table region.heap
            → IsCountedBy objects (outside_references (view_of_gc gc)) → AllListed objects → NonePinned objects
            → IsSound region.heap → KeepsGc after
        object-keeps table_same right counted listed unpinned sound =
            let good = showing-good (view_of_gc after) object-shown in
            record {
              shown = object-shown;
              settled = settled-entered r objects settled views sound;
              counts = record {
                right = right;
                counted = subst
                    (λ (views : List AreaView). IsCountedBy objects
                    (outside_references (record (view_of_gc after) { areas = views })))
                    (sym areas) counted;
                listed = listed;
                unpinned = unpinned;
              };
              linked = record { paired = good.paired; flagged = flagged };
              marking = record {
                known = known-kept gc.marker (objects_in gc.region) (views_of objects)
                    (λ b gray. gray-born (objects_in gc.region) base seen (birth_colour-not_gray (cycle_in gc)) b
                    (subst (λ vs. IsGrayAt vs b) views-new gray))
                    keeps.marking.known;
                idle = keeps.marking.idle;
                since = keeps.marking.since;
                few = λ runs room.
                    subst (λ vs. HasFewStale (record { marker = gc.marker; objects = vs }) (freed_since gc))
                    (sym views-new)
                    (few-born gc.marker (objects_in gc.region) base seen (none-seen old (base / 16) none)
                    (birth-black gc runs) (freed_since gc) (keeps.marking.few runs room));
              };
              rooms = rooms-made gc keeps region same' table table_same (pushed gc.stack base) refl refl (gc.born + 1);
              pieces = pieces-made gc keeps region same' table table_same (pushed gc.stack base) refl refl (gc.born +
                  1);
            }
          where
            same' : IsSameRegion gc.region region
            same' = record {
              name = same.name;
              out = same.out;
              pages = same.pages;
              cells = same.cells;
              fixed = same.fixed;
              areas = same.areas;
              least = same.least;
              most = same.most;
              heap_pages = same.heap_pages;
            }

-- what entering a new object into the table leaves, where it's counted
pub record IsEntered (before after : Heap) (table now : Table) : Type 0 where
  pub right : IsRight now after
  pub counts : (outside : ℕ → ℕ) → IsCountedBy before.objects outside → IsCountedBy after.objects outside
  pub listed : AllListed after.objects
  pub unpinned : NonePinned before.objects → NonePinned after.objects
  pub objects : KeepsObjects before.objects after.objects
  pub rest : after ≡ record before { objects = after.objects }
  pub views : views_of after.objects ≡ views_of before.objects
  pub table_same : IsSameTable table now
  pub sound : IsSound after

-- an object of the colour of births
pub coloured : (before after : StoredObjects) (base : ℕ) (shape : Shape) (a b : Colour) → a ≡ b
    → after ≡ with_entry base (Some (newly_stored shape a)) before
    → after ≡ with_entry base (Some (newly_stored shape b)) before
coloured before after base shape a b e is =
    is ∙ ap (λ (colour : Colour). with_entry base (Some (newly_stored shape colour)) before) e

module _ (gc : Gc) (keeps : KeepsGc gc) (r : Region) (same : IsSameRegion gc.region r) (settled : IsSettled r)
    (base : ℕ) (shape : Shape) (none : slice_get gc.region.heap.objects (base / 16) ≡ Some None)
    (created : r.heap.objects
    ≡ with_entry base (Some (newly_stored shape (birth_colour (cycle_in gc)))) gc.region.heap.objects)
    (begins : Begins r.heap.objects base (newly_stored shape (birth_colour (cycle_in gc))))
    (areas : areas_in r ≡ areas_in gc.region) (h : Heap) (now : Table) (e : IsEntered r.heap h gc.table now)
    (stack : Cells) (is : stack ≡ pushed gc.stack base) (r' : Reach) (fine : is_bad_shape shape ≡ false)
    (place : place_in_reach r' (view_of_gc gc) (wanted.Object shape) ≡ Some base) where
  abbrev done : Heap → Cells → Gc
  done heap cells = made gc (record r { heap = heap }) now cells (gc.born + 1)

  pub object-done : KeepsGc (done h stack)
  object-done =
      subst (λ cells. KeepsGc (done h cells)) (sym is)
      (subst (λ heap. KeepsGc (done heap (pushed gc.stack base))) (sym e.rest)
      (object-keeps gc keeps r same settled base shape none created begins areas h.objects now e.objects e.views r' fine
      place e.table_same (subst (IsRight now) e.rest e.right)
      (e.counts (outside_references (view_of_gc gc))
      (new-counted gc keeps r same settled base shape none created begins))
      e.listed (e.unpinned (new-unpinned gc keeps r same settled base shape none created begins))
      (subst IsSound e.rest e.sound)))

  pub object-answered : IsMade (view_of_gc gc) (wanted.Object shape) r' (view_of_gc (done h stack))
      (Some (made_variants.Object base))
  object-answered =
      subst
      (λ cells. IsMade (view_of_gc gc) (wanted.Object shape) r' (view_of_gc (done h cells)) (Some
      (made_variants.Object base)))
      (sym is)
      (subst
      (λ heap. IsMade (view_of_gc gc) (wanted.Object shape) r' (view_of_gc (done heap (pushed gc.stack base)))
      (Some (made_variants.Object base)))
      (sym e.rest)
      (object-made gc keeps r same settled base shape none created begins areas h.objects now e.objects e.views r' fine
      place))
