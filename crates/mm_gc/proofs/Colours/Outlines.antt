-- Heaps whose objects are the same but for their words and their colours.
use Rattle.std.proofs.Common.{◌≡◌, ℕ, ◌+◌, ◌≤◌, false, [], ◌∷◌, map, Option, Some, None, refl, sym, ap}
use Rattle.std.proofs.Common.{◌∙◌, subst, arith}
use Rattle.std.specs.Prelude.{IsTrue, IfSome, slice_get, ◌==◌, ◌++◌}
use Rattle.std.specs.List.{flat_map, count_by}
use Rattle.std.specs.Option.{option_map}
use Rattle.mm_model.specs.declared.object.Colour.TheVariants.{White}
use Rattle.mm_model.specs.Object.{is_counted, is_weak}
use Rattle.mm_model.specs.Views.ByBase.{Begins, Based, based_from}
use Rattle.mm_model.specs.Views.ObjectView.{ObjectView, counted_words_of, references_in}
use Rattle.mm_model.specs.Views.SetsByBase.{count_at}
use Rattle.mm_model.specs.Views.GoodView.{IsPairedAt}
use Rattle.mm_model.proofs.View.ByBase.MappedEntries.{begins_mapped, mapped_begins, IsMapped}
use Rattle.mm_object.specs.Object.{StoredObject, StoredObjects, view_of_stored, views_of}
use Rattle.mm_object.specs.Heap.{Heap}
use Rattle.mm_object.specs.Colours.{white_object}
use Rattle.mm_count.specs.Table.{Table, composite_of, IsSpelled, IsRight}
use Rattle.mm_count.specs.Counts.{counts_of, IsCountedBy, KeepsObjects}
use Rattle.mm_count.specs.Listed.{IsListedAtZero, AllListed, NonePinned}
use Rattle.mm_count.proofs.Counted.{counts_of-begins}
use Rattle.mm_weak.specs.Links.{IsLinked, is_linked_target}

-- an object but for its words and its colour
abbrev pub framed : StoredObject → StoredObject
framed object = record object { words = map (λ (word : ℕ). 0) object.words; colour = White }

abbrev pub HaveOneOutline : StoredObjects → StoredObjects → Type 0
HaveOneOutline before after = map (option_map framed) after ≡ map (option_map framed) before

pub if_some-map : {X : Type 0} (P Q : X → Type 0) → ((x : X) → P x → Q x) → (found : Option X) → IfSome found P
    → IfSome found Q
if_some-map P Q to None h = h
if_some-map P Q to (Some x) h = to x h

spelled-to : (object : StoredObject) → IsSpelled object → IsSpelled (framed object)
spelled-to object s = record { word = s.word; counted = s.counted; other = s.other }

spelled-from : (object : StoredObject) → IsSpelled (framed object) → IsSpelled object
spelled-from object s = record { word = s.word; counted = s.counted; other = s.other }

module _ (before after : StoredObjects) (alike : HaveOneOutline before after) where
  pub was : (base : ℕ) (x : StoredObject) → Begins after base x → IsMapped framed before base (framed x)
  was base x begins =
      mapped_begins framed before base (framed x)
      (subst (λ (objects : StoredObjects). Begins objects base (framed x)) alike
      (begins_mapped framed after base x begins))

  pub now : (base : ℕ) (x : StoredObject) → Begins before base x → IsMapped framed after base (framed x)
  now base x begins =
      mapped_begins framed after base (framed x)
      (subst (λ (objects : StoredObjects). Begins objects base (framed x)) (sym alike)
      (begins_mapped framed before base x begins))

  pub alike-listed : AllListed before → AllListed after
  alike-listed all =
      record {
        listed = λ base x begins.
            let w = was base x begins in subst IsListedAtZero w.is (all.listed base w.value w.begins);
      }

  pub alike-unpinned : NonePinned before → NonePinned after
  alike-unpinned none =
      record {
        unpinned = λ base x begins.
            let w = was base x begins in
            subst (λ (o : StoredObject). (composite_of o).pinned ≡ false) w.is (none.unpinned base w.value w.begins);
      }

  -- what is seen at a base, and was seen there before with the same count
  record IsSeenBefore (base : ℕ) (v : ObjectView) : Type 0 where
    object : ObjectView
    begins : Begins (views_of before) base object
    count : counts_of after base ≡ counts_of before base
    kind : object.kind ≡ v.kind
    sticky : object.sticky ≡ v.sticky

  seen_before : (base : ℕ) (v : ObjectView) → Begins (views_of after) base v → IsSeenBefore base v
  seen_before base v begins =
      let m = mapped_begins view_of_stored after base v begins in
      let w = was base m.value m.begins in
      record {
        object = view_of_stored w.value;
        begins = begins_mapped view_of_stored before base w.value w.begins;
        count = counts_of-begins after base m.value m.begins
            ∙ ap (λ (o : StoredObject). (composite_of o).count) (sym w.is)
            ∙ sym (counts_of-begins before base w.value w.begins);
        kind = ap (λ (o : StoredObject). o.kind) w.is ∙ ap (λ (x : ObjectView). x.kind) m.is;
        sticky = ap (λ (o : StoredObject). (view_of_stored o).sticky) w.is
            ∙ ap (λ (x : ObjectView). x.sticky) m.is;
      }

  -- where each base is held as often, slots and places outside taken together
  pub alike-counted : (outside outside' : ℕ → ℕ)
      → ((b : ℕ) → count_at (views_of after) outside' b ≡ count_at (views_of before) outside b)
      → IsCountedBy before outside → IsCountedBy after outside'
  alike-counted outside outside' same right =
      record {
        exact = λ base v begins counted exact.
            let one = seen_before base v begins in
            one.count
            ∙ right.exact base one.object one.begins (subst (λ k. IsTrue (is_counted k)) (sym one.kind) counted)
            (one.sticky ∙ exact)
            ∙ sym (same base);
        few = λ base v begins counted exact.
            let one = seen_before base v begins in
            subst (λ (n : ℕ). n ≤ 254) (sym one.count)
            (right.few base one.object one.begins (subst (λ k. IsTrue (is_counted k)) (sym one.kind) counted)
            (one.sticky ∙ exact));
      }

module _ (h h' : Heap) (alike : HaveOneOutline h.objects h'.objects) where
  pub alike-right : (table : Table) → h'.pages ≡ h.pages → IsRight table h → IsRight table h'
  alike-right table pages right =
      record {
        pages = let most = right.pages in omega arith;
        spelled = λ base x begins.
            let w = was h.objects h'.objects alike base x begins in
            spelled-from x (subst IsSpelled w.is (spelled-to w.value (right.spelled base w.value w.begins)));
        entered = λ base x begins listed.
            let w = was h.objects h'.objects alike base x begins in
            ap (λ (o : StoredObject). slice_get table.entries (composite_of o).place) (sym w.is)
            ∙ right.entered base w.value w.begins
            (ap (λ (o : StoredObject). (composite_of o).listed) w.is ∙ listed);
        entries = λ place base is.
            let e = right.entries place base is in
            let n = now h.objects h'.objects alike base e.object e.begins in
            record {
              object = n.value;
              begins = n.begins;
              counted = subst (λ (o : StoredObject). IsTrue (is_counted o.kind)) (sym n.is) e.counted;
              listed = ap (λ (o : StoredObject). (composite_of o).listed) n.is ∙ e.listed;
              stands = ap (λ (o : StoredObject). (composite_of o).place) n.is ∙ e.stands;
            };
      }

-- an object of the same kind, link and flag begins at a base
pub record IsLinkedAlike (objects : StoredObjects) (base : ℕ) (x : StoredObject) : Type 0 where
  pub object : StoredObject
  pub begins : Begins objects base object
  pub kind : object.kind ≡ x.kind
  pub link : object.link ≡ x.link
  pub has_weak : object.has_weak ≡ x.has_weak

-- Links stay right where each object has its kind, its link and its flag.
pub record KeepsLinks (before after : StoredObjects) : Type 0 where
  pub was : (base : ℕ) (x : StoredObject) → Begins after base x → IsLinkedAlike before base x
  pub now : (base : ℕ) (x : StoredObject) → Begins before base x → IsLinkedAlike after base x

pub linked-kept : (h h' : Heap) → KeepsLinks h.objects h'.objects → IsLinked h → IsLinked h'
linked-kept h h' keeps linked =
    record {
      paired = λ base v begins.
          let m = mapped_begins view_of_stored h'.objects base v begins in
          let w = keeps.was base m.value m.begins in
          let partner : (view_of_stored w.object).partner ≡ v.partner =
          ap (λ link. (view_of_stored (record w.object { link = link })).partner) w.link
          ∙ ap (λ (x : ObjectView). x.partner) m.is in
          let kind : w.object.kind ≡ v.kind = w.kind ∙ ap (λ (x : ObjectView). x.kind) m.is in
          if_some-map (IsPairedAt (views_of h.objects) base (view_of_stored w.object))
          (IsPairedAt (views_of h'.objects) base v) (paired base v (view_of_stored w.object) kind) v.partner
          (subst (λ p. IfSome p (IsPairedAt (views_of h.objects) base (view_of_stored w.object))) partner
          (linked.paired base (view_of_stored w.object)
          (begins_mapped view_of_stored h.objects base w.object w.begins)));
      flagged = λ base x begins.
          let w = keeps.was base x begins in
          sym w.has_weak ∙ linked.flagged base w.object w.begins
          ∙ ap (λ kind. is_linked_target (record w.object { kind = kind })) w.kind
          ∙ ap (λ link. is_linked_target (record x { link = link })) w.link;
    }
  where
    paired : (base : ℕ) (v u : ObjectView) → u.kind ≡ v.kind → (other : ℕ) → IsPairedAt
        (views_of h.objects) base u other
        → IsPairedAt (views_of h'.objects) base v other
    paired base v u kind other p =
        let m = mapped_begins view_of_stored h.objects other p.partner p.begins in
        let n = keeps.now other m.value m.begins in
        record {
          partner = view_of_stored n.object;
          begins = begins_mapped view_of_stored h'.objects other n.object n.begins;
          back = ap (λ link. (view_of_stored (record n.object { link = link })).partner) n.link
              ∙ ap (λ (x : ObjectView). x.partner) m.is ∙ p.back;
          one_weak = λ e. p.one_weak
              (ap is_weak (sym (n.kind ∙ ap (λ (x : ObjectView). x.kind) m.is)) ∙ e ∙ ap is_weak (sym kind));
        }

pub alike-links : (before after : StoredObjects) → HaveOneOutline before after → KeepsLinks before after
alike-links before after alike =
    record {
      was = λ base x begins. from before base x (was before after alike base x begins);
      now = λ base x begins. from after base x (now before after alike base x begins);
    }
  where
    from : (objects : StoredObjects) (base : ℕ) (x : StoredObject) → IsMapped framed objects base (framed x)
        → IsLinkedAlike objects base x
    from objects base x w =
        record {
          object = w.value;
          begins = w.begins;
          kind = ap (λ (o : StoredObject). o.kind) w.is;
          link = ap (λ (o : StoredObject). o.link) w.is;
          has_weak = ap (λ (o : StoredObject). o.has_weak) w.is;
        }

-- composites alone differ
pub keeps-links : (before after : StoredObjects) → KeepsObjects before after → KeepsLinks before after
keeps-links before after keeps =
    record {
      was = λ base x begins.
          let w = keeps.back base x begins in
          record {
            object = record x { composite = w.0 };
            begins = w.1;
            kind = refl;
            link = refl;
            has_weak = refl;
          };
      now = λ base x begins.
          let w = keeps.to base x begins in
          record {
            object = record x { composite = w.0 };
            begins = w.1;
            kind = refl;
            link = refl;
            has_weak = refl;
          };
    }

-- Where colours alone differ.
framed-white : (objects : StoredObjects)
    → map (option_map framed) (map (option_map white_object) objects) ≡ map (option_map framed) objects
framed-white [] = refl
framed-white (None ∷ objects) = ap (λ (os : StoredObjects). None ∷ os) (framed-white objects)
framed-white (Some x ∷ objects) = ap (λ (os : StoredObjects). Some (framed x) ∷ os) (framed-white objects)

pub white-alike : (before after : StoredObjects)
    → map (option_map white_object) after ≡ map (option_map white_object) before → HaveOneOutline before after
white-alike before after same =
    sym (framed-white after) ∙ ap (map (option_map framed)) same ∙ framed-white before

references-white : (base : ℕ) (objects : StoredObjects)
    → references_in (views_of (map (option_map white_object) objects)) base ≡ references_in (views_of objects) base
references-white base objects = ap (count_by (λ word. word == base)) (words 0 objects)
  where
    words : (low : ℕ) (objects : StoredObjects)
        → flat_map (λ (o : Based ObjectView). counted_words_of o.value)
        (based_from low (views_of (map (option_map white_object) objects)))
        ≡ flat_map (λ (o : Based ObjectView). counted_words_of o.value) (based_from low (views_of objects))
    words low [] = refl
    words low (None ∷ objects) = words (low + 16) objects
    words low (Some x ∷ objects) = ap (λ ws. counted_words_of (view_of_stored x) ++ ws) (words (low + 16) objects)

pub references-coloured : (before after : StoredObjects)
    → map (option_map white_object) after ≡ map (option_map white_object) before → (base : ℕ)
    → references_in (views_of after) base ≡ references_in (views_of before) base
references-coloured before after same base =
    sym (references-white base after) ∙ ap (λ (os : StoredObjects). references_in (views_of os) base) same
    ∙ references-white base before
