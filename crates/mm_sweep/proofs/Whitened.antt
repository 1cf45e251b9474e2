-- All objects become white.
use Rattle.std.proofs.Common.{◌≡◌, ℕ, ◌+◌, ◌≤◌, Bool, true, false, List, [], ◌∷◌, map, Option, Some, None, refl}
use Rattle.std.proofs.Common.{sym, ap, subst, ◌∙◌}
use Rattle.std.specs.Prelude.{slice_get, if◌then◌else◌, IsTrue}
use Rattle.std.specs.Option.{option_map}
use Rattle.mm_model.specs.declared.object.Colour.TheVariants.{White}
use Rattle.mm_model.specs.Object.{is_counted}
use Rattle.mm_model.specs.Phase.{lists}
use Rattle.mm_model.specs.Views.ByBase.{Begins, changed_from, changed}
use Rattle.mm_model.specs.Views.ObjectView.{ObjectsByBase}
use Rattle.mm_model.specs.Views.SetsByBase.{count_at}
use Rattle.mm_model.specs.Views.ViewEffect.{with_colour}
use Rattle.mm_model.proofs.View.ByBase.ChangedEntries.{changed-map}
use Rattle.mm_model.proofs.View.ByBase.MappedEntries.{begins_mapped, mapped_begins}
use Rattle.mm_object.specs.Object.{StoredObject, StoredObjects, view_of_stored, views_of}
use Rattle.mm_object.specs.Heap.{Heap}
use Rattle.mm_object.specs.Colours.{white_object, all_whitened}
use Rattle.mm_count.specs.Composite.{composite_in}
use Rattle.mm_count.specs.Table.{Table, IsRight, IsSpelled}
use Rattle.mm_count.specs.Counts.{KeepsObjects}
use Rattle.mm_count.specs.Listed.{NonePinned}
use Rattle.mm_count.specs.Apart.{unless_dead, without_dead, AreCountsApart}
use Rattle.mm_count.specs.DeadApart.{AreDeadApart, IsRecounted}
use Rattle.mm_sweep.specs.Sweep.{KeepsWhitened}
use Rattle.mm_sweep.proofs.CountedWords.{words_told, references-alike}

abbrev pub whitened : StoredObjects → StoredObjects
whitened objects = map (option_map white_object) objects

views_from-whitened : (low : ℕ) (objects : StoredObjects)
    → views_of (whitened objects) ≡ changed_from (with_colour White) low (views_of objects)
views_from-whitened low [] = refl
views_from-whitened low (None ∷ objects) =
    ap (λ (vs : ObjectsByBase). None ∷ vs) (views_from-whitened (low + 16) objects)
views_from-whitened low (Some object ∷ objects) =
    ap (λ (vs : ObjectsByBase). Some (view_of_stored (white_object object)) ∷ vs)
    (views_from-whitened (low + 16) objects)

pub views-whitened : (objects : StoredObjects)
    → views_of (whitened objects) ≡ changed (with_colour White) (views_of objects)
views-whitened objects = views_from-whitened 0 objects

-- references don't look at colours
told-white : (dead : Bool) (object : StoredObject)
    → words_told (if dead then None else Some (white_object object)) ≡ words_told (if dead then None else Some object)
told-white true object = refl
told-white false object = refl

counts_at-whitened : (bases : List ℕ) (objects : StoredObjects) (outside : ℕ → ℕ) (base : ℕ)
    → count_at (views_of (without_dead bases (whitened objects))) outside base
    ≡ count_at (views_of (without_dead bases objects)) outside base
counts_at-whitened bases objects outside base =
    let white : ℕ → StoredObject → Option StoredObject = λ at object. unless_dead bases at (white_object object) in
    ap (λ (os : StoredObjects). count_at (views_of os) outside base)
    (changed-map white_object (unless_dead bases) objects)
    ∙ ap (λ (n : ℕ). n + outside base)
    (references-alike white (unless_dead bases) (λ at object. told-white (lists bases at) object) objects base)

-- what begins in it, and what began before
pub record IsWhitened (objects : StoredObjects) (base : ℕ) (now : StoredObject) : Type 0 where
  pub was : StoredObject
  pub begins : Begins objects base was
  pub kind : now.kind ≡ was.kind
  pub composite : now.composite ≡ was.composite
  pub is : now ≡ white_object was

pub whitened-begins : (objects : StoredObjects) (base : ℕ) (now : StoredObject) → Begins (whitened objects) base now
    → IsWhitened objects base now
whitened-begins objects base now begins =
    let s = mapped_begins white_object objects base now begins in
    record {
      was = s.value;
      begins = s.begins;
      kind = ap (λ (o : StoredObject). o.kind) (sym s.is);
      composite = ap (λ (o : StoredObject). o.composite) (sym s.is);
      is = sym s.is;
    }

module _ (objects : StoredObjects) where
  pub apart-whitened : (bases : List ℕ) (outside : ℕ → ℕ) → AreCountsApart bases objects outside
      → AreCountsApart bases (whitened objects) outside
  apart-whitened bases outside apart =
      record {
        exact = λ base now begins counted exact.
            let w = whitened-begins objects base now begins in
            ap (λ (word : ℕ). (composite_in word).count) w.composite
            ∙ apart.exact base w.was w.begins (subst (λ k. IsTrue (is_counted k)) w.kind counted)
            (sym (ap (λ (word : ℕ). (composite_in word).sticky) w.composite) ∙ exact)
            ∙ sym (counts_at-whitened bases objects outside base);
        few = λ base now begins counted exact.
            let w = whitened-begins objects base now begins in
            subst (λ (word : ℕ). (composite_in word).count ≤ 254) (sym w.composite)
            (apart.few base w.was w.begins (subst (λ k. IsTrue (is_counted k)) w.kind counted)
            (sym (ap (λ (word : ℕ). (composite_in word).sticky) w.composite) ∙ exact));
      }

  pub dead-whitened : (bases : List ℕ) → AreDeadApart bases objects → AreDeadApart bases (whitened objects)
  dead-whitened bases dead =
      record {
        left = λ base now begins listed.
            let w = whitened-begins objects base now begins in
            ap (λ (word : ℕ). (composite_in word).listed) w.composite ∙ dead.left base w.was w.begins listed;
        listed = λ base now begins counted exact zero out.
            let w = whitened-begins objects base now begins in
            ap (λ (word : ℕ). (composite_in word).listed) w.composite
            ∙ dead.listed base w.was w.begins (subst (λ k. IsTrue (is_counted k)) w.kind counted)
            (sym (ap (λ (word : ℕ). (composite_in word).sticky) w.composite) ∙ exact)
            (sym (ap (λ (word : ℕ). (composite_in word).count) w.composite) ∙ zero) out;
      }

  pub unpinned-whitened : NonePinned objects → NonePinned (whitened objects)
  unpinned-whitened none =
      record {
        unpinned = λ base now begins.
            let w = whitened-begins objects base now begins in
            ap (λ (word : ℕ). (composite_in word).pinned) w.composite ∙ none.unpinned base w.was w.begins;
      }

pub right-whitened : (table : Table) (h : Heap) → IsRight table h → IsRight table (all_whitened h)
right-whitened table h right =
    record {
      pages = right.pages;
      spelled = λ base now begins.
          let w = whitened-begins h.objects base now begins in
          let was = right.spelled base w.was w.begins in
          subst IsSpelled (sym w.is) (record { word = was.word; counted = was.counted; other = was.other });
      entered = λ base now begins listed.
          let w = whitened-begins h.objects base now begins in
          ap (λ (word : ℕ). slice_get table.entries (composite_in word).place) w.composite
          ∙ right.entered base w.was w.begins (sym (ap (λ (word : ℕ). (composite_in word).listed) w.composite)
          ∙ listed);
      entries = λ place base is.
          let e = right.entries place base is in
          record {
            object = white_object e.object;
            begins = begins_mapped white_object h.objects base e.object e.begins;
            counted = e.counted;
            listed = e.listed;
            stands = e.stands;
          };
    }

-- the objects are the same but for colours and composite words
pub keeps-whitened : (before middle : StoredObjects) → KeepsObjects before middle
    → KeepsWhitened before (whitened middle)
keeps-whitened before middle keeps =
    record {
      to = λ base object begins.
          let k = keeps.to base object begins in
          (k.0, begins_mapped white_object middle base (record object { composite = k.0 }) k.1);
      back = λ base object begins.
          let w = whitened-begins middle base object begins in
          let k = keeps.back base w.was w.begins in (
            k.0,
            w.was.colour,
            subst (λ (o : StoredObject). Begins before base (record o { composite = k.0; colour = w.was.colour }))
                (sym w.is) k.1,
          );
    }

-- what a sweep leaves, once counts were dropped and the objects found have left the table
pub record IsSwept (before middle after : Heap) : Type 0 where
  pub views : views_of after.objects ≡ changed (with_colour White) (views_of before.objects)
  pub objects : KeepsWhitened before.objects after.objects
  pub rest : after ≡ record before { objects = after.objects }

pub swept-whitened : (before middle after : Heap) → IsRecounted before middle → after ≡ all_whitened middle
    → IsSwept before middle after
swept-whitened before middle after recounted white =
    subst (λ (h : Heap). IsSwept before middle h) (sym white)
    (record {
      views =
          views-whitened middle.objects
          ∙ ap (λ (vs : ObjectsByBase). changed (with_colour White) vs) recounted.views;
      objects = keeps-whitened before.objects middle.objects recounted.objects;
      rest = ap (λ (h : Heap). record h { objects = whitened middle.objects }) recounted.rest;
    })
