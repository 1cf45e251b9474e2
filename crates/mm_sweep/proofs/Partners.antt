-- Who is whose partner, by links.
use Rattle.std.proofs.Common.{◌≡◌, ◌≢◌, ℕ, Bool, true, false, eqb-true, Some, None, refl, sym, ap, subst, ◌∙◌}
use Rattle.std.specs.Prelude.{◌==◌, not, ◌&&◌, IfSome, if◌then◌else◌}
use Rattle.std.proofs.lemmas.Bool.{eq-eqb}
use Rattle.mm_model.specs.Views.ByBase.{Begins}
use Rattle.mm_model.specs.Object.{is_weak}
use Rattle.mm_model.specs.Views.ObjectView.{ObjectView}
use Rattle.mm_model.specs.Views.GoodView.{IsPairedAt}
use Rattle.mm_model.proofs.View.ByBase.Entries.{begins_same}
use Rattle.mm_model.proofs.View.ByBase.MappedEntries.{begins_mapped, mapped_begins}
use Rattle.mm_object.specs.Object.{StoredObject, view_of_stored, views_of}
use Rattle.mm_object.specs.Heap.{Heap}
use Rattle.mm_weak.specs.Links.{IsLinked, partner_of, is_linked_target}

partner-link : (object : StoredObject) → object.link ≢ 0 → partner_of object ≡ Some object.link
partner-link object some = split (object.link == 0) refl
  where
    split : (b : Bool) → (object.link == 0) ≡ b → partner_of object ≡ Some object.link
    split true e = absurd (some (eqb-true object.link 0 e))
    split false e = ap (λ b. if b then None else Some object.link) e

-- a link to another object
pub record IsLinkTo (object : StoredObject) (other : ℕ) : Type 0 where
  pub link : object.link ≡ other
  pub some : object.link ≢ 0

clash : false ≡ true → ⊥
clash e = cc

link-partner : (object : StoredObject) (other : ℕ) → partner_of object ≡ Some other → IsLinkTo object other
link-partner object other e = split (object.link == 0) refl
  where
    split : (b : Bool) → (object.link == 0) ≡ b → IsLinkTo object other
    split true is =
        let none : partner_of object ≡ None = ap (λ b. if b then None else Some object.link) is in absurd (cc)
    split false is =
        let own : partner_of object ≡ Some object.link = ap (λ b. if b then None else Some object.link) is in
        record { link = cc; some = λ zero. clash (sym is ∙ eq-eqb object.link 0 zero) }

-- the partner of an object whose link isn't 0
pub record HasPartner (h : Heap) (base : ℕ) (object : StoredObject) : Type 0 where
  pub partner : StoredObject
  pub begins : Begins h.objects object.link partner
  pub back : IsLinkTo partner base
  pub one_weak : is_weak partner.kind ≢ is_weak object.kind

pub partner-linked : (h : Heap) (base : ℕ) (object : StoredObject) → IsLinked h → Begins h.objects base object
    → object.link ≢ 0 → HasPartner h base object
partner-linked h base object linked begins some =
    let p : IsPairedAt (views_of h.objects) base (view_of_stored object) object.link =
    subst (λ o. IfSome o (IsPairedAt (views_of h.objects) base (view_of_stored object))) (partner-link object some)
    (linked.paired base (view_of_stored object) (begins_mapped view_of_stored h.objects base object begins)) in
    let s = mapped_begins view_of_stored h.objects object.link p.partner p.begins in
    record {
      partner = s.value;
      begins = s.begins;
      back = link-partner s.value base (ap (λ (v : ObjectView). v.partner) s.is ∙ p.back);
      one_weak = λ same. p.one_weak (ap (λ (v : ObjectView). is_weak v.kind) (sym s.is) ∙ same);
    }

-- whose link is a base is the partner of what begins there
pub named-linked : (h : Heap) (base : ℕ) (object : StoredObject) (at : ℕ) (other : StoredObject) → IsLinked h
    → Begins h.objects base object → base ≢ 0 → Begins h.objects at other → other.link ≡ base → IsLinkTo object at
named-linked h base object at other linked begins some there e =
    let p = partner-linked h at other linked there (λ zero. some (sym e ∙ zero)) in
    let one = begins_same h.objects base p.partner object
    (subst (λ (n : ℕ). Begins h.objects n p.partner) e p.begins) begins in
    subst (λ (o : StoredObject). IsLinkTo o at) one p.back

-- a weak object has no weak object, nor has an object without a link
pub flag-weak : (h : Heap) (base : ℕ) (object : StoredObject) → IsLinked h → Begins h.objects base object
    → is_weak object.kind ≡ true → object.has_weak ≡ false
flag-weak h base object linked begins kind =
    linked.flagged base object begins ∙ ap (λ (k : Bool). not k && not (object.link == 0)) kind

-- a target whose flag isn't set has no link
pub link-unflagged : (h : Heap) (base : ℕ) (object : StoredObject) → IsLinked h → Begins h.objects base object
    → is_weak object.kind ≡ false → object.has_weak ≡ false → object.link ≡ 0
link-unflagged h base object linked begins kind flag = split (object.link == 0) refl
  where
    told : is_linked_target object ≡ false
    told = sym (linked.flagged base object begins) ∙ flag

    split : (b : Bool) → (object.link == 0) ≡ b → object.link ≡ 0
    split true e = eqb-true object.link 0 e
    split false e =
        absurd (clash (sym told ∙ ap (λ (k : Bool). not k && not (object.link == 0)) kind
        ∙ ap (λ (b : Bool). not false && not b) e))

-- one whose flag is set is a target with a link
pub record IsFlagged (object : StoredObject) : Type 0 where
  pub kind : is_weak object.kind ≡ false
  pub some : object.link ≢ 0

pub link-flagged : (h : Heap) (base : ℕ) (object : StoredObject) → IsLinked h → Begins h.objects base object
    → object.has_weak ≡ true → IsFlagged object
link-flagged h base object linked begins flag = split (is_weak object.kind) (object.link == 0) refl refl
  where
    told : is_linked_target object ≡ true
    told = sym (linked.flagged base object begins) ∙ flag

    split : (k b : Bool) → is_weak object.kind ≡ k → (object.link == 0) ≡ b → IsFlagged object
    split true b kind link =
        absurd (clash (sym (ap (λ (x : Bool). not x && not (object.link == 0)) kind) ∙ told))
    split false true kind link =
        absurd (clash (sym (ap (λ (x : Bool). not x && not (object.link == 0)) kind
        ∙ ap (λ (x : Bool). not false && not x) link) ∙ told))
    split false false kind link =
        record { kind = kind; some = λ zero. clash (sym link ∙ eq-eqb object.link 0 zero) }
