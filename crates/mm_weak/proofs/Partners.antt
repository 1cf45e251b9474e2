-- Partners of stored objects, and what stays of them where two entries change.
use Rattle.std.proofs.Common.{◌≡◌, ◌≢◌, ℕ, ◌*◌, Bool, true, false, eqb-true, Option, Some, None, inl, inr, refl, sym}
use Rattle.std.proofs.Common.{ap, subst, ◌∙◌, arith}
use Rattle.std.specs.Prelude.{slice_get, IfSome, ◌==◌, if◌then◌else◌}
use Rattle.std.specs.Option.{option_map}
use Rattle.std.proofs.lemmas.Bool.{eq-eqb}
use Rattle.std.proofs.lemmas.Option.{slice_get-map}
use Rattle.mm_model.specs.Object.{is_weak}
use Rattle.mm_model.specs.Views.ObjectView.{ObjectView}
use Rattle.mm_model.specs.Views.ByBase.{Begins, with_entry}
use Rattle.mm_model.specs.Views.GoodView.{ArePaired, IsPairedAt}
use Rattle.mm_object.specs.Object.{StoredObject, StoredObjects, view_of_stored, views_of}
use Rattle.mm_weak.specs.Links.{partner_of, is_linked_target}
use Rattle.mm_weak.proofs.Entries.{begins-entry, begins-other_entry, get-other_entry, begins-entry_cases, IsOld}

-- a link other than 0 is the partner
pub partner-link : (object : StoredObject) → object.link ≢ 0 → partner_of object ≡ Some object.link
partner-link object some = split (object.link == 0) refl
  where
    split : (b : Bool) → (object.link == 0) ≡ b → partner_of object ≡ Some object.link
    split true e = absurd (some (eqb-true object.link 0 e))
    split false e = ap (λ b. if b then None else Some object.link) e

pub partner-no_link : (object : StoredObject) → object.link ≡ 0 → partner_of object ≡ None
partner-no_link object none = ap (λ b. if b then None else Some object.link) (eq-eqb object.link 0 none)

pub none-not_some : {n : ℕ} → ◌≡◌ {A = Option ℕ} None (Some n) → ⊥
none-not_some e = cc

-- and the partner is the link
pub record IsLinkTo (object : StoredObject) (other : ℕ) : Type 0 where
  pub link : object.link ≡ other
  pub some : other ≢ 0

pub link-partner : (object : StoredObject) (other : ℕ) → partner_of object ≡ Some other → IsLinkTo object other
link-partner object other e = split (object.link == 0) refl
  where
    split : (b : Bool) → (object.link == 0) ≡ b → IsLinkTo object other
    split true is =
        let none : partner_of object ≡ None = ap (λ b. if b then None else Some object.link) is in absurd (cc)
    split false is =
        let own : partner_of object ≡ Some object.link = ap (λ b. if b then None else Some object.link) is in
        let same : object.link ≡ other = cc in
        record { link = same; some = λ zero. clash (sym (eq-eqb object.link 0 (same ∙ zero)) ∙ is) }
      where
        clash : true ≡ false → ⊥
        clash e = cc

pub partner-none : (object : StoredObject) → partner_of object ≡ None → object.link ≡ 0
partner-none object e = split (object.link == 0) refl
  where
    split : (b : Bool) → (object.link == 0) ≡ b → object.link ≡ 0
    split true is = eqb-true object.link 0 is
    split false is =
        let some : partner_of object ≡ Some object.link = ap (λ b. if b then None else Some object.link) is in
        absurd (cc)

begins-view : (objects : StoredObjects) (base : ℕ) (object : StoredObject) → Begins objects base object
    → Begins (views_of objects) base (view_of_stored object)
begins-view objects base object h =
    record {
      grain = h.grain;
      aligned = h.aligned;
      is = slice_get-map (option_map view_of_stored) objects h.grain ∙ ap (option_map (option_map view_of_stored)) h.is;
    }

record IsSeen (objects : StoredObjects) (base : ℕ) (view : ObjectView) : Type 0 where
  object : StoredObject
  begins : Begins objects base object
  is : view_of_stored object ≡ view

view-begins : (objects : StoredObjects) (base : ℕ) (view : ObjectView) → Begins (views_of objects) base view
    → IsSeen objects base view
view-begins objects base view h = split (slice_get objects h.grain) refl
  where
    told : (entry : Option (Option StoredObject)) → slice_get objects h.grain ≡ entry
        → option_map (option_map view_of_stored) entry ≡ Some (Some view)
    told entry e =
        sym (slice_get-map (option_map view_of_stored) objects h.grain
        ∙ ap (option_map (option_map view_of_stored)) e)
        ∙ h.is

    split : (entry : Option (Option StoredObject)) → slice_get objects h.grain ≡ entry → IsSeen objects base view
    split None e = let none = told None e in absurd (cc)
    split (Some None) e = let none = told (Some None) e in absurd (cc)
    split (Some (Some object)) e =
        let both : ◌≡◌ {A = Option (Option ObjectView)} (Some (Some (view_of_stored object))) (Some (Some view)) =
        told (Some (Some object)) e in
        record {
          object = object;
          begins = record { grain = h.grain; aligned = h.aligned; is = e };
          is = cc;
        }

-- the partner of an object, by what is stored
pub record IsPairedWith (objects : StoredObjects) (base : ℕ) (object : StoredObject) (other : ℕ) : Type 0 where
  pub partner : StoredObject
  pub begins : Begins objects other partner
  pub back : partner_of partner ≡ Some base
  pub one_weak : is_weak partner.kind ≢ is_weak object.kind

abbrev pub ArePartners : StoredObjects → Type 0
ArePartners objects =
    (base : ℕ) (object : StoredObject) (other : ℕ) → Begins objects base object → partner_of object ≡ Some other
    → IsPairedWith objects base object other

pub partners-paired : (objects : StoredObjects) → ArePaired (views_of objects) → ArePartners objects
partners-paired objects paired base object other h e =
    let p : IsPairedAt (views_of objects) base (view_of_stored object) other =
    subst (λ o. IfSome o (IsPairedAt (views_of objects) base (view_of_stored object))) e
    (paired base (view_of_stored object) (begins-view objects base object h)) in
    let s = view-begins objects other p.partner p.begins in
    record {
      partner = s.object;
      begins = s.begins;
      back = ap (λ (v : ObjectView). v.partner) s.is ∙ p.back;
      one_weak = λ same. p.one_weak (ap (λ (v : ObjectView). is_weak v.kind) (sym s.is) ∙ same);
    }

pub paired-partners : (objects : StoredObjects) → ArePartners objects → ArePaired (views_of objects)
paired-partners objects partners base view h =
    let s = view-begins objects base view h in
    subst (λ (v : ObjectView). IfSome v.partner (IsPairedAt (views_of objects) base v)) s.is
    (from s.object s.begins (partner_of s.object) refl)
  where
    from : (object : StoredObject) → Begins objects base object → (partner : Option ℕ) → partner_of object ≡ partner
        → IfSome partner (IsPairedAt (views_of objects) base (view_of_stored object))
    from object begins None e = tt
    from object begins (Some other) e =
        let p = partners base object other begins e in
        record {
          partner = view_of_stored p.partner;
          begins = begins-view objects other p.partner p.begins;
          back = p.back;
          one_weak = p.one_weak;
        }

abbrev pub AreFlagged : StoredObjects → Type 0
AreFlagged objects =
    (base : ℕ) (object : StoredObject) → Begins objects base object → object.has_weak ≡ is_linked_target object

-- no object but those at two bases has the first of them as its partner
abbrev pub NamesNot : StoredObjects → ℕ → ℕ → ℕ → Type 0
NamesNot objects base w named =
    (at : ℕ) (object : StoredObject) → Begins objects at object → (at ≡ base → ⊥) → (at ≡ w → ⊥)
    → partner_of object ≡ Some named → ⊥

-- Two new entries: if one has a partner, it is the other.
pub record AreApart (target weak : StoredObject) (base w : ℕ) : Type 0 where
  pub to_weak : (other : ℕ) → partner_of target ≡ Some other → (other ≡ w) × (partner_of weak ≡ Some base)
  pub to_target : (other : ℕ) → partner_of weak ≡ Some other → (other ≡ base) × (partner_of target ≡ Some w)
  pub one_weak : is_weak weak.kind ≢ is_weak target.kind

module _ (objects : StoredObjects) (base k w j : ℕ) (old_target old_weak : Option StoredObject)
    (target weak : StoredObject) (base_at : base ≡ 16 * k) (w_at : w ≡ 16 * j) (apart : base ≡ w → ⊥)
    (target_was : slice_get objects k ≡ Some old_target) (weak_was : slice_get objects j ≡ Some old_weak) where
  abbrev middle : StoredObjects
  middle = with_entry w (Some weak) objects

  abbrev changed : StoredObjects
  changed = with_entry base (Some target) middle

  middle_was : slice_get middle k ≡ Some old_target
  middle_was = get-other_entry objects w j k (Some weak) w_at (λ same. apart (omega arith)) ∙ target_was

  begins-target : Begins changed base target
  begins-target = begins-entry middle base k old_target target base_at middle_was

  begins-weak : Begins changed w weak
  begins-weak =
      begins-other_entry middle base k (Some target) w weak base_at
      (begins-entry objects w j old_weak weak w_at weak_was) (λ same. apart (sym same))

  begins-rest : (at : ℕ) (object : StoredObject) → Begins objects at object → (at ≡ base → ⊥) → (at ≡ w → ⊥)
      → Begins changed at object
  begins-rest at object h not_base not_w =
      begins-other_entry middle base k (Some target) at object base_at
      (begins-other_entry objects w j (Some weak) at object w_at h not_w) not_base

  pub partners-changed : ArePartners objects → NamesNot objects base w base → NamesNot objects base w w
      → AreApart target weak base w → ArePartners changed
  partners-changed partners no_base no_w couple at object other h e =
      elim (begins-entry_cases middle base k target at object base_at h) [
        | inl own ↦
            let to = couple.to_weak other (ap partner_of own.1 ∙ e) in
            record {
              partner = weak;
              begins = subst (λ (n : ℕ). Begins changed n weak) (sym to.0) begins-weak;
              back = to.1 ∙ ap (λ (n : ℕ). Some n) (sym own.0);
              one_weak = λ same. couple.one_weak (same ∙ ap (λ (o : StoredObject). is_weak o.kind) (sym own.1));
            }
        | inr rest ↦ others rest
      ]
    where
      others : IsOld middle base at object → IsPairedWith changed at object other
      others rest =
          elim (begins-entry_cases objects w j weak at object w_at rest.begins) [
            | inl own ↦
                let to = couple.to_target other (ap partner_of own.1 ∙ e) in
                record {
                  partner = target;
                  begins = subst (λ (n : ℕ). Begins changed n target) (sym to.0) begins-target;
                  back = to.1 ∙ ap (λ (n : ℕ). Some n) (sym own.0);
                  one_weak = λ same. couple.one_weak
                      (ap (λ (o : StoredObject). is_weak o.kind) own.1 ∙ sym same);
                }
            | inr old ↦
                let p = partners at object other old.begins e in
                record {
                  partner = p.partner;
                  begins =
                      begins-rest other p.partner p.begins
                      (λ same. no_base at object old.begins rest.apart old.apart (e ∙ ap (λ (n : ℕ). Some n) same))
                      (λ same. no_w at object old.begins rest.apart old.apart (e ∙ ap (λ (n : ℕ). Some n) same));
                  back = p.back;
                  one_weak = p.one_weak;
                }
          ]

  pub flagged-changed : AreFlagged objects → target.has_weak ≡ is_linked_target target
      → weak.has_weak ≡ is_linked_target weak → AreFlagged changed
  flagged-changed flagged of_target of_weak at object h =
      elim (begins-entry_cases middle base k target at object base_at h) [
        | inl own ↦ subst (λ (o : StoredObject). o.has_weak ≡ is_linked_target o) own.1 of_target
        | inr rest ↦ others rest
      ]
    where
      others : IsOld middle base at object → object.has_weak ≡ is_linked_target object
      others rest =
          elim (begins-entry_cases objects w j weak at object w_at rest.begins) [
            | inl own ↦ subst (λ (o : StoredObject). o.has_weak ≡ is_linked_target o) own.1 of_weak
            | inr old ↦ flagged at object old.begins
          ]
