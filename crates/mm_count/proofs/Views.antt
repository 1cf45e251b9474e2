-- What the views, the heap besides, the pins and the table's members are once one object was given another composite.
use Rattle.std.proofs.Common.{◌⊎◌, ◌≡◌, ◌≢◌, ⊎_elim, inl, inr, ℕ, ◌-◌, ◌/◌, Bool, true, false, cond, [], ◌∷◌}
use Rattle.std.proofs.Common.{Option, Some, refl, sym, ap, ◌∙◌, subst, arith}
use Rattle.std.specs.Prelude.{◌==◌, ◌||◌, IsTrue}
use Rattle.std.proofs.lemmas.Bool.{cases_eq}
use Rattle.mm_model.specs.Object.{is_counted}
use Rattle.mm_model.specs.Views.ByBase.{Begins, with_entry}
use Rattle.mm_model.specs.Views.ObjectView.{ObjectView}
use Rattle.mm_model.proofs.View.ByBase.Entries.{begins_same}
use Rattle.mm_model.proofs.View.ByBase.ReplacedEntries.{begins_get}
use Rattle.mm_model.proofs.View.ByBase.MappedEntries.{begins_mapped}
use Rattle.mm_object.specs.Object.{StoredObject, StoredObjects, view_of_stored, views_of}
use Rattle.mm_object.specs.Heap.{Heap}
use Rattle.mm_count.specs.declared.composite.Composite.{Composite}
use Rattle.mm_count.specs.Composite.{composite_in, word_of, FitsWord, IsComposite}
use Rattle.mm_count.specs.Table.{composite_of}
use Rattle.mm_count.specs.Counts.{IsCountedBy, one_more, raised, lowered, entered, left, with_pin, changed_at}
use Rattle.mm_count.specs.Counts.{unplaced, without_places, KeepsObjects}
use Rattle.mm_count.specs.Sticky.{with_sticky, made_sticky}
use Rattle.mm_count.specs.Listed.{AllListed, AllListedBut, NonePinned, KeepsPins, ListsNamed}
use Rattle.mm_count.proofs.Words.{composite_in-word_of}
use Rattle.mm_count.proofs.Composites.{clash, decides, one_above, raised-sticky, raised-exact}
use Rattle.mm_count.proofs.Places.{set_same, bare, composite_of-bare, new, cases, IsOwn, IsOther, composite_of-own}
use Rattle.mm_count.proofs.Places.{composite_of-other, keeps}
use Rattle.mm_count.proofs.Counted.{counts_of-begins, views-is, one_more-here, fits-raised, fits-lowered, fits-now}
use Rattle.mm_count.proofs.Sticky.{made_sticky-counted, made_sticky-sticky, with_sticky-one}

-- the rest of the heap is as it was
pub rest-changed : (h h' : Heap) (f : Composite → Composite) (base : ℕ)
    → without_places h' ≡ changed_at f base (without_places h) → h' ≡ record h { objects = h'.objects }
rest-changed h h' f base e = ap (λ (g : Heap). record g { objects = h'.objects }) e

module _ (h h' : Heap) (f : Composite → Composite) (base : ℕ) (o : StoredObject) (begins : Begins h.objects base o)
    (e : without_places h' ≡ changed_at f base (without_places h)) (fits : FitsWord (f (unplaced (composite_of o))))
  where
    abbrev now : Composite
    now = f (unplaced (composite_of o))

    view-new : view_of_stored (new h h' f base o begins e) ≡ record (view_of_stored o) { sticky = now.sticky }
    view-new =
        let told : composite_in (word_of (f (composite_of (bare o)))) ≡ now =
        ap (λ (c : Composite). composite_in (word_of (f c))) (composite_of-bare o) ∙ composite_in-word_of now fits in
        ap (λ (c : Composite). record (view_of_stored o) { sticky = c.sticky }) told

    pub views-changed : views_of h'.objects
        ≡ with_entry base (Some (record (view_of_stored o) { sticky = now.sticky })) (views_of h.objects)
    views-changed =
        views-is h h' f base o begins e
        ∙ ap (λ (v : ObjectView). with_entry base (Some v) (views_of h.objects)) view-new

    -- where it doesn't become sticky
    pub views-kept : now.sticky ≡ (composite_of o).sticky → views_of h'.objects ≡ views_of h.objects
    views-kept same =
        views-changed
        ∙ ap (λ (b : Bool). with_entry base (Some (record (view_of_stored o) { sticky = b })) (views_of h.objects)) same
        ∙ set_same (views_of h.objects) (base / 16) (Some (view_of_stored o))
        (begins_get (views_of h.objects) base (view_of_stored o) (begins_mapped view_of_stored h.objects base o begins))

    -- what an object says now, and what it said
    pub record IsSaid (b : ℕ) (before after : Composite) : Type 0 where
      pub own : b ≡ base → unplaced after ≡ f (unplaced before)
      pub other : b ≢ base → unplaced after ≡ unplaced before

    pub said : (b : ℕ) (x x' : StoredObject) → Begins h.objects b x → Begins h'.objects b x'
        → IsSaid b (composite_of x) (composite_of x')
    said b x x' was there =
        ⊎_elim
        (λ (c : IsOwn h h' f base o begins e b x').
        let same : x ≡ o = begins_same h.objects b x o was (subst (λ n. Begins h.objects n o) (sym c.at) begins) in
        record {
          own = λ at.
              composite_of-own h h' f base o begins e x' fits c.is
              ∙ ap (λ (y : StoredObject). f (unplaced (composite_of y))) (sym same);
          other = λ apart. absurd (apart c.at);
        })
        (λ (c : IsOther h h' f base o begins e b x').
        let same : c.object ≡ x = begins_same h.objects b c.object x c.begun was in
        record {
          own = λ at. absurd (c.apart at);
          other = λ apart.
              sym (composite_of-other h h' f base o begins e c.object x' c.is)
              ∙ ap (λ (y : StoredObject). unplaced (composite_of y)) same;
        })
        (cases h h' f base o begins e b x' there)

    pub keeps-pins : ((c : Composite) → (f c).pinned ≡ c.pinned) → KeepsPins h.objects h'.objects
    keeps-pins same =
        record {
          same = λ b x x' was there.
              let s = said b x x' was there in
              ⊎_elim
              (λ (e : b ≡ base). ap (λ (c : Composite). c.pinned) (s.own e) ∙ same (unplaced (composite_of x)))
              (λ (n : b ≡ base → ⊥). ap (λ (c : Composite). c.pinned) (s.other n)) (cases_eq b base);
        }

    -- where the object itself is in the table if its count is 0
    pub all-listed : (now.sticky ≡ false → now.count ≡ 0 → now.listed ≡ true) → AllListedBut base h.objects
        → AllListed h'.objects
    all-listed zero all =
        record {
          listed = λ b x' there.
              ⊎_elim
              (λ (c : IsOwn h h' f base o begins e b x').
              let says = composite_of-own h h' f base o begins e x' fits c.is in
              λ counted exact none.
              ap (λ (c : Composite). c.listed) says
              ∙ zero (sym (ap (λ (c : Composite). c.sticky) says) ∙ exact)
              (sym (ap (λ (c : Composite). c.count) says) ∙ none))
              (λ (c : IsOther h h' f base o begins e b x').
              let says = composite_of-other h h' f base o begins e c.object x' c.is in
              let kind : x'.kind ≡ c.object.kind = ap (λ (z : StoredObject). z.kind) (sym c.is) in
              λ counted exact none.
              sym (ap (λ (c : Composite). c.listed) says)
              ∙ all.listed b c.object c.apart c.begun (subst (λ k. IsTrue (is_counted k)) kind counted)
              (ap (λ (c : Composite). c.sticky) says ∙ exact) (ap (λ (c : Composite). c.count) says ∙ none))
              (cases h h' f base o begins e b x' there);
        }

pub listed-but : (base : ℕ) (objects : StoredObjects) → AllListed objects → AllListedBut base objects
listed-but base objects all = record { listed = λ b x other begins. all.listed b x begins }

pub none-pinned : (before after : StoredObjects) → KeepsObjects before after → KeepsPins before after
    → NonePinned before → NonePinned after
none-pinned before after objects pins none =
    record {
      unpinned = λ b x' there.
          let old = objects.back b x' there in
          pins.same b (record x' { composite = old.0 }) x' old.1 there
          ∙ none.unpinned b (record x' { composite = old.0 }) old.1;
    }

-- the pin of a composite stays through each change but `with_pin`
pub raised-pin : (c : Composite) → (raised c).pinned ≡ c.pinned
raised-pin c = split c.sticky
  where
    split : (b : Bool) → (cond b c (one_above c)).pinned ≡ c.pinned
    split true = refl
    split false = refl

pub lowered-pin : (c : Composite) → (lowered c).pinned ≡ c.pinned
lowered-pin c = split c.sticky
  where
    split : (b : Bool) → (cond b c (record c { count = c.count - 1; listed = c.count == 1 })).pinned ≡ c.pinned
    split true = refl
    split false = refl

module _ (h h' : Heap) (base : ℕ) (o : StoredObject) (begins : Begins h.objects base o)
    (is : IsComposite (composite_of o)) where
  abbrev c : Composite
  c = composite_of o

  abbrev v : ObjectView
  v = view_of_stored o

  begun : Begins (views_of h.objects) base v
  begun = begins_mapped view_of_stored h.objects base o begins

  module _ (e : without_places h' ≡ changed_at raised base (without_places h)) where
    fits-up : FitsWord (raised (unplaced c))
    fits-up = fits-raised h h' base o begins is

    pub raised-pins : KeepsPins h.objects h'.objects
    raised-pins = keeps-pins h h' raised base o begins e fits-up raised-pin

    pub raised-unpinned : NonePinned h.objects → NonePinned h'.objects
    raised-unpinned = none-pinned h.objects h'.objects (keeps h h' raised base o begins e) raised-pins

    pub raised-listed : AllListed h.objects → AllListed h'.objects
    raised-listed all =
        all-listed h h' raised base o begins e fits-up (split c.sticky refl) (listed-but base h.objects all)
      where
        split : (b : Bool) → c.sticky ≡ b → (cond b (unplaced c) (one_above (unplaced c))).sticky ≡ false
            → (cond b (unplaced c) (one_above (unplaced c))).count ≡ 0
            → (cond b (unplaced c) (one_above (unplaced c))).listed ≡ true
        split true s exact none = clash (sym exact ∙ s)
        split false s exact none = absurd (omega arith)

    pub raised-views : IsTrue (is_counted o.kind) → (outside : ℕ → ℕ) → IsCountedBy h.objects outside
        → views_of h'.objects ≡ with_sticky (one_more outside base) base (views_of h.objects)
    raised-views counted outside right =
        views-changed h h' raised base o begins e fits-up
        ∙ ap (λ (entry : Option ObjectView). with_entry base entry (views_of h.objects)) (sym (made c.sticky refl))
        ∙ sym (with_sticky-one (one_more outside base) base (views_of h.objects) v begun)
      where
        made : (b : Bool) → c.sticky ≡ b
            → made_sticky (views_of h.objects) (one_more outside base) base base v
            ≡ Some (record v { sticky = (raised (unplaced c)).sticky })
        made true s =
            made_sticky-sticky (views_of h.objects) (one_more outside base) base v s
            ∙ ap (λ (d : Composite). Some (record v { sticky = d.sticky })) (sym (raised-sticky (unplaced c) s))
        made false s =
            let exact = right.exact base v begun counted s in
            let told = counts_of-begins h.objects base o begins in
            let more = one_more-here outside base in
            made_sticky-counted (views_of h.objects) (one_more outside base) base c.count v counted s (is.exact s)
            (omega arith)
            ∙ ap (λ (d : Composite). Some (record v { sticky = d.sticky })) (sym (raised-exact (unplaced c) s))

  module _ (e : without_places h' ≡ changed_at lowered base (without_places h)) where
    fits-down : FitsWord (lowered (unplaced c))
    fits-down = fits-lowered h h' base o begins is

    pub lowered-views : views_of h'.objects ≡ views_of h.objects
    lowered-views = views-kept h h' lowered base o begins e fits-down (split c.sticky)
      where
        split : (b : Bool)
            → (cond b (unplaced c) (record (unplaced c) { count = c.count - 1; listed = c.count == 1 })).sticky
            ≡ c.sticky
        split true = refl
        split false = refl

    pub lowered-pins : KeepsPins h.objects h'.objects
    lowered-pins = keeps-pins h h' lowered base o begins e fits-down lowered-pin

    pub lowered-unpinned : NonePinned h.objects → NonePinned h'.objects
    lowered-unpinned = none-pinned h.objects h'.objects (keeps h h' lowered base o begins e) lowered-pins

    module _ (some : c.sticky ≡ false → c.count ≢ 0) where
      pub lowered-listed : AllListed h.objects → AllListed h'.objects
      lowered-listed all =
          all-listed h h' lowered base o begins e fits-down (split c.sticky refl) (listed-but base h.objects all)
        where
          split : (b : Bool) → c.sticky ≡ b
              → (cond b (unplaced c) (record (unplaced c) { count = c.count - 1; listed = c.count == 1 })).sticky ≡
              false
              → (cond b (unplaced c) (record (unplaced c) { count = c.count - 1; listed = c.count == 1 })).count ≡ 0
              → (cond b (unplaced c) (record (unplaced c) { count = c.count - 1; listed = c.count == 1 })).listed
              ≡ true
          split true s exact none = clash (sym exact ∙ s)
          split false s exact none = let ne = some s in decides c.count 1 (omega arith)

      pub lowered-names : ListsNamed (base ∷ []) h.objects h'.objects
      lowered-names =
          record {
            still = λ b x x' was there listed.
                let s = said h h' lowered base o begins e fits-down b x x' was there in
                ⊎_elim
                (λ (at : b ≡ base).
                let same : x ≡ o =
                begins_same h.objects b x o was (subst (λ n. Begins h.objects n o) (sym at) begins) in
                ap (λ (d : Composite). d.listed) (s.own at)
                ∙ ap (λ (y : StoredObject). (lowered (unplaced (composite_of y))).listed) same
                ∙ split c.sticky refl (sym (ap (λ (y : StoredObject). (composite_of y).listed) same) ∙ listed))
                (λ (n : b ≡ base → ⊥). ap (λ (d : Composite). d.listed) (s.other n) ∙ listed) (cases_eq b base);
            only = λ b x x' was there listed.
                let s = said h h' lowered base o begins e fits-down b x x' was there in
                ⊎_elim (λ (at : b ≡ base). inr (ap (λ (t : Bool). t || false) (decides base b (sym at))))
                (λ (n : b ≡ base → ⊥). inl (sym (ap (λ (d : Composite). d.listed) (s.other n)) ∙ listed))
                (cases_eq b base);
            zeros = λ b x x' was there none.
                let s = said h h' lowered base o begins e fits-down b x x' was there in
                ⊎_elim
                (λ (at : b ≡ base).
                let same : x ≡ o =
                begins_same h.objects b x o was (subst (λ n. Begins h.objects n o) (sym at) begins) in
                let now = s.own at ∙ ap (λ (y : StoredObject). lowered (unplaced (composite_of y))) same in
                falls c.sticky refl (composite_of x') (ap (λ (d : Composite). d.count) now)
                (ap (λ (d : Composite). d.listed) now) none (ap (λ (y : StoredObject). (composite_of y).count) same))
                (λ (n : b ≡ base → ⊥). inl (sym (ap (λ (d : Composite). d.count) (s.other n)) ∙ none))
                (cases_eq b base);
          }
        where
          falls : (b : Bool) → c.sticky ≡ b → (d : Composite)
              → d.count
              ≡ (cond b (unplaced c) (record (unplaced c) { count = c.count - 1; listed = c.count == 1 })).count
              → d.listed
              ≡ (cond b (unplaced c) (record (unplaced c) { count = c.count - 1; listed = c.count == 1 })).listed
              → d.count ≡ 0 → {n : ℕ} → n ≡ c.count → (n ≡ 0) ⊎ (d.listed ≡ true)
          falls true s d count listed none same = inl (same ∙ sym count ∙ none)
          falls false s d count listed none same =
              let ne = some s in inr (listed ∙ decides c.count 1 (omega arith))

          split : (b : Bool) → c.sticky ≡ b → c.listed ≡ true
              → (cond b (unplaced c) (record (unplaced c) { count = c.count - 1; listed = c.count == 1 })).listed
              ≡ true
          split true s listed = listed
          split false s listed = absurd (some s (is.listed listed))

  module _ (e : without_places h' ≡ changed_at entered base (without_places h)) where
    fits-in : FitsWord (entered (unplaced c))
    fits-in = let fits = fits-now h h' base o begins is in record { count = fits.count; place = fits.place }

    pub entered-views : views_of h'.objects ≡ views_of h.objects
    entered-views = views-kept h h' entered base o begins e fits-in refl

    pub entered-unpinned : NonePinned h.objects → NonePinned h'.objects
    entered-unpinned =
        none-pinned h.objects h'.objects (keeps h h' entered base o begins e)
        (keeps-pins h h' entered base o begins e fits-in (λ d. refl))

    pub entered-listed : AllListedBut base h.objects → AllListed h'.objects
    entered-listed = all-listed h h' entered base o begins e fits-in (λ exact none. refl)

  module _ (e : without_places h' ≡ changed_at left base (without_places h)) where
    fits-out : FitsWord (left (unplaced c))
    fits-out = let fits = fits-now h h' base o begins is in record { count = fits.count; place = fits.place }

    pub left-views : views_of h'.objects ≡ views_of h.objects
    left-views = views-kept h h' left base o begins e fits-out refl

    pub left-unpinned : NonePinned h.objects → NonePinned h'.objects
    left-unpinned =
        none-pinned h.objects h'.objects (keeps h h' left base o begins e)
        (keeps-pins h h' left base o begins e fits-out (λ d. refl))

  module _ (pinned : Bool) (e : without_places h' ≡ changed_at (with_pin pinned) base (without_places h)) where
    pub pinned-views : views_of h'.objects ≡ views_of h.objects
    pinned-views =
        let fits = fits-now h h' base o begins is in
        views-kept h h' (with_pin pinned) base o begins e (record { count = fits.count; place = fits.place }) refl
