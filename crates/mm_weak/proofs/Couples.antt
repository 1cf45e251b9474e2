-- Targets with their weak objects: what is known of both, and how a heap stays linked where a couple is made or parted.
use Rattle.std.proofs.Common.{◌≡◌, ◌≢◌, ℕ, ◌*◌, Bool, true, false, eqb-true, Option, Some, None, refl, sym, ap, subst}
use Rattle.std.proofs.Common.{◌∙◌, arith}
use Rattle.std.specs.Prelude.{slice_get, ◌==◌, ◌&&◌, not}
use Rattle.std.proofs.lemmas.Bool.{eq-eqb}
use Rattle.mm_model.specs.declared.object.Colour.{Colour}
use Rattle.mm_model.specs.Object.{is_weak}
use Rattle.mm_model.specs.Views.ByBase.{Begins, with_entry}
use Rattle.mm_model.proofs.View.ByBase.Entries.{begins_same}
use Rattle.mm_model.specs.Views.GoodView.{ArePaired}
use Rattle.mm_object.specs.Object.{StoredObject, StoredObjects, views_of}
use Rattle.mm_object.specs.Heap.{Heap}
use Rattle.mm_weak.specs.Links.{IsLinked, IsTargetOf, IsParted, partner_of, is_linked_target, with_weak, newly_weak}
use Rattle.mm_weak.specs.Links.{unlinked, with_partners}
use Rattle.mm_weak.proofs.Partners.{partner-link, partner-no_link, link-partner, ArePartners, AreFlagged}
use Rattle.mm_weak.proofs.Partners.{partners-paired, paired-partners, partners-changed, flagged-changed}

-- a target and its weak object
pub record IsCouple (objects : StoredObjects) (base w : ℕ) : Type 0 where
  pub target : StoredObject
  pub weak : StoredObject
  pub target_begins : Begins objects base target
  pub weak_begins : Begins objects w weak
  pub target_kind : is_weak target.kind ≡ false
  pub weak_kind : is_weak weak.kind ≡ true
  pub target_link : target.link ≡ w
  pub weak_link : weak.link ≡ base
  pub target_flag : target.has_weak ≡ true

pub not_both : false ≡ true → ⊥
not_both e = cc

not_true : (b : Bool) → b ≢ true → b ≡ false
not_true true h = absurd (h refl)
not_true false h = refl

not_false : (b : Bool) → b ≢ false → b ≡ true
not_false true h = refl
not_false false h = absurd (h refl)

flag_of : (object : StoredObject) → is_weak object.kind ≡ false → object.link ≢ 0 → is_linked_target object ≡ true
flag_of object kind some = split (object.link == 0) refl
  where
    split : (b : Bool) → (object.link == 0) ≡ b → is_linked_target object ≡ true
    split true e = absurd (some (eqb-true object.link 0 e))
    split false e =
        ap (λ (k : Bool). not k && not (object.link == 0)) kind ∙ ap (λ (b : Bool). not false && not b) e

pub couple-of_weak : (h : Heap) (w : ℕ) (weak : StoredObject) → IsLinked h → Begins h.objects w weak
    → is_weak weak.kind ≡ true → weak.link ≢ 0 → IsCouple h.objects weak.link w
couple-of_weak h w weak linked begins kind some =
    let p = partners-paired h.objects linked.paired w weak weak.link begins (partner-link weak some) in
    let back = link-partner p.partner w p.back in
    let target_kind = not_true (is_weak p.partner.kind) (λ same. p.one_weak (same ∙ sym kind)) in
    record {
      target = p.partner;
      weak = weak;
      target_begins = p.begins;
      weak_begins = begins;
      target_kind = target_kind;
      weak_kind = kind;
      target_link = back.link;
      weak_link = refl;
      target_flag =
          linked.flagged weak.link p.partner p.begins
          ∙ flag_of p.partner target_kind (λ zero. back.some (sym back.link ∙ zero));
    }

pub target-of_couple : (h : Heap) (base w : ℕ) → IsCouple h.objects base w → IsTargetOf h w base
target-of_couple h base w couple =
    record {
      object = couple.target;
      begins = couple.target_begins;
      kind = couple.target_kind;
      has_weak = couple.target_flag;
      link = couple.target_link;
    }

record IsLinkedTarget (object : StoredObject) : Type 0 where
  kind : is_weak object.kind ≡ false
  some : object.link ≢ 0

linked_target : (object : StoredObject) → is_linked_target object ≡ true → IsLinkedTarget object
linked_target object e = split (is_weak object.kind) (object.link == 0) refl refl
  where
    split : (k b : Bool) → is_weak object.kind ≡ k → (object.link == 0) ≡ b → IsLinkedTarget object
    split true b kind link =
        absurd (not_both (sym (ap (λ (x : Bool). not x && not (object.link == 0)) kind) ∙ e))
    split false true kind link =
        absurd (not_both (sym (ap (λ (x : Bool). not x && not (object.link == 0)) kind
        ∙ ap (λ (x : Bool). not false && not x) link) ∙ e))
    split false false kind link =
        record { kind = kind; some = λ zero. not_both (sym link ∙ eq-eqb object.link 0 zero) }

pub couple-of_target : (h : Heap) (base : ℕ) (target : StoredObject) → IsLinked h → Begins h.objects base target
    → target.has_weak ≡ true → IsCouple h.objects base target.link
couple-of_target h base target linked begins flag =
    let one = linked_target target (sym (linked.flagged base target begins) ∙ flag) in
    let p = partners-paired h.objects linked.paired base target target.link begins (partner-link target one.some) in
    record {
      target = target;
      weak = p.partner;
      target_begins = begins;
      weak_begins = p.begins;
      target_kind = one.kind;
      weak_kind = not_false (is_weak p.partner.kind) (λ same. p.one_weak (same ∙ sym one.kind));
      target_link = refl;
      weak_link = (link-partner p.partner base p.back).link;
      target_flag = flag;
    }

pub couple-at : (h : Heap) (base : ℕ) (target : StoredObject) (w : ℕ) → IsLinked h → Begins h.objects base target
    → target.has_weak ≡ true → w ≡ target.link → IsCouple h.objects base w
couple-at h base target w linked begins flag link =
    subst (λ (n : ℕ). IsCouple h.objects base n) (sym link) (couple-of_target h base target linked begins flag)

pub couple-named : (h : Heap) (w : ℕ) (weak : StoredObject) (base : ℕ) → IsLinked h → Begins h.objects w weak
    → is_weak weak.kind ≡ true → partner_of weak ≡ Some base → IsCouple h.objects base w
couple-named h w weak base linked begins kind e =
    let to = link-partner weak base e in
    subst (λ (n : ℕ). IsCouple h.objects n w) to.link
    (couple-of_weak h w weak linked begins kind (λ none. to.some (sym to.link ∙ none)))

-- the two lie apart
pub couple-apart : (objects : StoredObjects) (base w : ℕ) → IsCouple objects base w → base ≡ w → ⊥
couple-apart objects base w couple same =
    let one =
    begins_same objects w couple.target couple.weak
    (subst (λ (n : ℕ). Begins objects n couple.target) same couple.target_begins)
    couple.weak_begins in
    not_both (sym couple.target_kind ∙ ap (λ (o : StoredObject). is_weak o.kind) one ∙ couple.weak_kind)

-- who has one of two partners as its partner is the other
named_by : (objects : StoredObjects) (at other : ℕ) (object partner : StoredObject) → ArePartners objects
    → Begins objects at object → Begins objects other partner → partner_of object ≡ Some other → partner.link ≡ at
named_by objects at other object partner partners begins there e =
    let p = partners at object other begins e in
    let same = begins_same objects other p.partner partner p.begins there in
    ap (λ (o : StoredObject). o.link) (sym same) ∙ (link-partner p.partner at p.back).link

pub IsLinked-parted : (h after : Heap) (base w : ℕ) (couple : IsCouple h.objects base w) → IsLinked h
    → after ≡ with_partners h base (unlinked couple.target) w (record couple.weak { link = 0 }) → IsLinked after
IsLinked-parted h after base w couple linked e = subst IsLinked (sym e) there
  where
    partners : ArePartners h.objects
    partners = partners-paired h.objects linked.paired

    none : {n : ℕ} → ◌≡◌ {A = Option ℕ} None (Some n) → ⊥
    none e = cc

    there : IsLinked (with_partners h base (unlinked couple.target) w (record couple.weak { link = 0 }))
    there =
        record {
          paired =
              paired-partners _
              (partners-changed h.objects base couple.target_begins.grain w couple.weak_begins.grain
              (Some couple.target)
              (Some couple.weak) (unlinked couple.target) (record couple.weak { link = 0 }) couple.target_begins.aligned
              couple.weak_begins.aligned
              (couple-apart h.objects base w couple) couple.target_begins.is couple.weak_begins.is partners
              (λ at object begins not_base not_w e.
              not_w (sym (named_by h.objects at base object couple.target partners begins couple.target_begins e)
              ∙ couple.target_link))
              (λ at object begins not_base not_w e.
              not_base (sym (named_by h.objects at w object couple.weak partners begins couple.weak_begins e)
              ∙ couple.weak_link))
              (record {
                to_weak = λ other e. absurd (none e);
                to_target = λ other e. absurd (none e);
                one_weak = λ same. not_both (sym couple.target_kind ∙ sym same ∙ couple.weak_kind);
              }));
          flagged =
              flagged-changed h.objects base couple.target_begins.grain w couple.weak_begins.grain (Some couple.target)
              (Some couple.weak) (unlinked couple.target) (record couple.weak { link = 0 }) couple.target_begins.aligned
              couple.weak_begins.aligned
              (couple-apart h.objects base w couple) couple.target_begins.is couple.weak_begins.is linked.flagged
              (sym (ap (λ (k : Bool). not k && false) couple.target_kind))
              (linked.flagged w couple.weak couple.weak_begins
              ∙ ap (λ (k : Bool). not k && not (couple.weak.link == 0)) couple.weak_kind
              ∙ sym (ap (λ (k : Bool). not k && false) couple.weak_kind));
        }

pub IsParted-couple : (h after : Heap) (base w : ℕ) (couple : IsCouple h.objects base w)
    → after ≡ with_partners h base (unlinked couple.target) w (record couple.weak { link = 0 })
    → IsParted h base w after
IsParted-couple h after base w couple e =
    record {
      target = couple.target;
      weak = couple.weak;
      target_begins = couple.target_begins;
      weak_begins = couple.weak_begins;
      same = e;
    }

pub IsLinked-made : (h after : Heap) (base w j : ℕ) (colour : Colour) (target : StoredObject) → IsLinked h
    → Begins h.objects base target → is_weak target.kind ≡ false → target.link ≡ 0 → base ≢ 0 → w ≢ 0 → base ≢ w
    → w ≡ 16 * j → slice_get h.objects j ≡ Some None
    → after.objects ≡ with_entry base (Some (with_weak w target))
    (with_entry w (Some (newly_weak base colour)) h.objects)
    → IsLinked after
IsLinked-made h after base w j colour target linked begins kind alone some_base some_w apart at was_none e =
    record {
      paired = subst (λ objects. ArePaired (views_of objects)) (sym e) (paired-partners _ partners_there);
      flagged = subst (λ objects. AreFlagged objects) (sym e) flagged_there;
    }
  where
    partners : ArePartners h.objects
    partners = partners-paired h.objects linked.paired

    named : (object : StoredObject) (at other : ℕ) → Begins h.objects at object → partner_of object ≡ Some other
        → other ≡ base → ⊥
    named object at other begins_at e same =
        let p = partners at object other begins_at e in
        let own = begins_same h.objects base p.partner target
        (subst (λ (n : ℕ). Begins h.objects n p.partner) same p.begins) begins in
        no_partner (sym (partner-no_link target alone) ∙ ap partner_of (sym own) ∙ p.back)
      where
        no_partner : {n : ℕ} → ◌≡◌ {A = Option ℕ} None (Some n) → ⊥
        no_partner e = cc

    missing : (object : StoredObject) (at other : ℕ) → Begins h.objects at object → partner_of object ≡ Some other
        → other ≡ w → ⊥
    missing object at_object other begins_at e same =
        let p = partners at_object object other begins_at e in
        let aligned = p.begins.aligned in
        let grain : p.begins.grain ≡ j = omega arith in
        empty (sym was_none ∙ ap (slice_get h.objects) (sym grain) ∙ p.begins.is)
      where
        empty : {x : StoredObject} → ◌≡◌ {A = Option (Option StoredObject)} (Some None) (Some (Some x)) → ⊥
        empty e = cc

    to_weak : partner_of (with_weak w target) ≡ Some w
    to_weak = partner-link (with_weak w target) some_w

    to_target : partner_of (newly_weak base colour) ≡ Some base
    to_target = partner-link (newly_weak base colour) some_base

    inner : {m n : ℕ} → ◌≡◌ {A = Option ℕ} (Some m) (Some n) → n ≡ m
    inner e = cc

    partners_there : ArePartners
        (with_entry base (Some (with_weak w target)) (with_entry w (Some (newly_weak base colour)) h.objects))
    partners_there =
        partners-changed h.objects base begins.grain w j (Some target) None (with_weak w target)
        (newly_weak base colour)
        begins.aligned at apart begins.is was_none partners
        (λ at_object object begins_at not_base not_w e. named object at_object base begins_at e refl)
        (λ at_object object begins_at not_base not_w e. missing object at_object w begins_at e refl)
        (record {
          to_weak = λ other e. (inner (sym to_weak ∙ e), to_target);
          to_target = λ other e. (inner (sym to_target ∙ e), to_weak);
          one_weak = λ same. not_both (sym kind ∙ sym same);
        })

    flagged_there : AreFlagged
        (with_entry base (Some (with_weak w target)) (with_entry w (Some (newly_weak base colour)) h.objects))
    flagged_there =
        flagged-changed h.objects base begins.grain w j (Some target) None (with_weak w target) (newly_weak base colour)
        begins.aligned at apart begins.is was_none linked.flagged (sym (flag_of (with_weak w target) kind some_w)) refl
