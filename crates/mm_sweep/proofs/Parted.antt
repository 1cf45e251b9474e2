-- What calls leave that part an object from its weak object.
use Rattle.std.proofs.Common.{◌≡◌, ◌≢◌, ℕ, Bool, true, false, [], ◌∷◌, Some, None, refl, sym, ap, subst, ◌∙◌, arith}
use Rattle.std.specs.Prelude.{slice_get}
use Rattle.mm_model.specs.Object.{is_weak}
use Rattle.mm_model.specs.Views.ByBase.{Begins, with_entry, changed}
use Rattle.mm_model.proofs.View.ByBase.Entries.{begins_same}
use Rattle.mm_object.specs.Object.{StoredObject, StoredObjects}
use Rattle.mm_object.specs.Heap.{Heap, IsSound}
use Rattle.mm_weak.specs.Links.{IsLinked, IsParted, unlinked}
use Rattle.mm_sweep.specs.Release.{after_release}
use Rattle.mm_sweep.proofs.Partners.{partner-linked, link-flagged, flag-weak}
use Rattle.mm_sweep.proofs.Cuts.{Cuts, get_same, get_other, erased-alone, erased-cut}

module _ (h after : Heap) (base w : ℕ) (parted : IsParted h base w after) (apart : base ≡ w → ⊥) where
  abbrev weak_now : StoredObject
  weak_now = record parted.weak { link = 0 }

  abbrev middle : StoredObjects
  middle = with_entry w (Some weak_now) h.objects

  objects_is : after.objects ≡ with_entry base (Some (unlinked parted.target)) middle
  objects_is = ap (λ (x : Heap). x.objects) parted.same

  other_grain : parted.target_begins.grain ≡ parted.weak_begins.grain → ⊥
  other_grain same =
      let at = parted.target_begins.aligned in
      let there = parted.weak_begins.aligned in
      apart (omega arith)

  target_is : slice_get after.objects parted.target_begins.grain ≡ Some (Some (unlinked parted.target))
  target_is =
      ap (λ (os : StoredObjects). slice_get os parted.target_begins.grain) objects_is
      ∙ get_same middle base parted.target_begins.grain (Some parted.target) (Some (unlinked parted.target))
      parted.target_begins.aligned
      (get_other h.objects w parted.weak_begins.grain parted.target_begins.grain (Some weak_now)
      parted.weak_begins.aligned other_grain ∙ parted.target_begins.is)

  weak_is : slice_get after.objects parted.weak_begins.grain ≡ Some (Some weak_now)
  weak_is =
      ap (λ (os : StoredObjects). slice_get os parted.weak_begins.grain) objects_is
      ∙ get_other middle base parted.target_begins.grain parted.weak_begins.grain (Some (unlinked parted.target))
      parted.target_begins.aligned (λ same. other_grain (sym same))
      ∙ get_same h.objects w parted.weak_begins.grain (Some parted.weak) (Some weak_now) parted.weak_begins.aligned
      parted.weak_begins.is

  rest_is : (k : ℕ) → (k ≡ parted.target_begins.grain → ⊥) → (k ≡ parted.weak_begins.grain → ⊥)
      → slice_get after.objects k ≡ slice_get h.objects k
  rest_is k not_target not_weak =
      ap (λ (os : StoredObjects). slice_get os k) objects_is
      ∙ get_other middle base parted.target_begins.grain k (Some (unlinked parted.target)) parted.target_begins.aligned
      not_target
      ∙ get_other h.objects w parted.weak_begins.grain k (Some weak_now) parted.weak_begins.aligned not_weak

  pub rest-parted : after ≡ record h { objects = after.objects }
  rest-parted = parted.same ∙ ap (λ (os : StoredObjects). record h { objects = os }) (sym objects_is)

  -- the weak object is the one that goes
  pub cuts-weak : parted.weak.link ≡ base → parted.target.link ≡ w → Cuts h.objects after.objects w base
  cuts-weak named back =
      record {
        object = parted.weak;
        partner = parted.target;
        begins = parted.weak_begins;
        there = parted.target_begins;
        apart = λ same. apart (sym same);
        named = named;
        back = back;
        now = weak_now;
        now_is = weak_is;
        alone = refl;
        cut = target_is;
        rest = λ k not_weak not_target. rest_is k not_target not_weak;
      }

  -- the target is
  pub cuts-target : parted.target.link ≡ w → parted.weak.link ≡ base → parted.weak.has_weak ≡ false
      → Cuts h.objects after.objects base w
  cuts-target named back flag =
      record {
        object = parted.target;
        partner = parted.weak;
        begins = parted.target_begins;
        there = parted.weak_begins;
        apart = apart;
        named = named;
        back = back;
        now = unlinked parted.target;
        now_is = target_is;
        alone = refl;
        cut =
            weak_is
            ∙ ap (λ (f : Bool). Some (Some (record parted.weak { link = 0; has_weak = f }))) flag;
        rest = rest_is;
      }

-- a partner lies elsewhere
apart-partner : (h : Heap) (base : ℕ) (object : StoredObject) → IsLinked h → Begins h.objects base object
    → object.link ≢ 0 → object.link ≡ base → ⊥
apart-partner h base object linked begins some same =
    let p = partner-linked h base object linked begins some in
    let one = begins_same h.objects base p.partner object
    (subst (λ (n : ℕ). Begins h.objects n p.partner) same p.begins) begins in
    p.one_weak (ap (λ (o : StoredObject). is_weak o.kind) one)

-- what goes has lost its partner, and all but the objects is as it was
pub record IsCut (h after : Heap) (base : ℕ) : Type 0 where
  pub other : ℕ
  pub cuts : Cuts h.objects after.objects base other
  pub rest : after ≡ record h { objects = after.objects }

pub cut-weak : (h after : Heap) (w : ℕ) (weak : StoredObject) → IsLinked h → Begins h.objects w weak
    → weak.link ≢ 0 → IsParted h weak.link w after → IsCut h after w
cut-weak h after w weak linked begins some parted =
    let p = partner-linked h w weak linked begins some in
    let apart = apart-partner h w weak linked begins some in
    let own = begins_same h.objects w parted.weak weak parted.weak_begins begins in
    let target = begins_same h.objects weak.link p.partner parted.target p.begins parted.target_begins in
    record {
      other = weak.link;
      cuts =
          cuts-weak h after weak.link w parted apart (ap (λ (o : StoredObject). o.link) own)
          (ap (λ (o : StoredObject). o.link) (sym target) ∙ p.back.link);
      rest = rest-parted h after weak.link w parted apart;
    }

not_false : (b : Bool) → b ≢ false → b ≡ true
not_false true h = refl
not_false false h = absurd (h refl)

pub cut-target : (h after : Heap) (base : ℕ) (target : StoredObject) → IsLinked h → Begins h.objects base target
    → target.has_weak ≡ true → IsParted h base target.link after → IsCut h after base
cut-target h after base target linked begins flag parted =
    let is = link-flagged h base target linked begins flag in
    let p = partner-linked h base target linked begins is.some in
    let apart = λ (same : base ≡ target.link). apart-partner h base target linked begins is.some (sym same) in
    let own = begins_same h.objects base parted.target target parted.target_begins begins in
    let weak = begins_same h.objects target.link p.partner parted.weak p.begins parted.weak_begins in
    let kind = not_false (is_weak p.partner.kind) (λ same. p.one_weak (same ∙ sym is.kind)) in
    record {
      other = target.link;
      cuts =
          cuts-target h after base target.link parted apart (ap (λ (o : StoredObject). o.link) own)
          (ap (λ (o : StoredObject). o.link) (sym weak) ∙ p.back.link)
          (flag-weak h target.link parted.weak linked parted.weak_begins
          (ap (λ (o : StoredObject). is_weak o.kind) (sym weak) ∙ kind));
      rest = rest-parted h after base target.link parted apart;
    }

-- what an object's unlinking promises
pub record IsUnlinked (h after : Heap) (base : ℕ) : Type 0 where
  pub objects : with_entry base None after.objects ≡ changed (after_release (base ∷ [])) h.objects
  pub object : StoredObject
  pub begins : Begins after.objects base object
  pub alone : object.link ≡ 0
  pub rest : after ≡ record h { objects = after.objects }

pub unlinked-cut : (h after : Heap) (base : ℕ) (object : StoredObject) → IsLinked h → Begins h.objects base object
    → base ≢ 0 → IsCut h after base → IsUnlinked h after base
unlinked-cut h after base object linked begins some cut =
    record {
      objects = erased-cut h base object linked begins some after.objects cut.other cut.cuts;
      object = cut.cuts.now;
      begins = record { grain = cut.cuts.begins.grain; aligned = cut.cuts.begins.aligned; is = cut.cuts.now_is };
      alone = cut.cuts.alone;
      rest = cut.rest;
    }

pub unlinked-alone : (h after : Heap) (base : ℕ) (object : StoredObject) → IsLinked h → Begins h.objects base object
    → base ≢ 0 → object.link ≡ 0 → after ≡ h → IsUnlinked h after base
unlinked-alone h after base object linked begins some alone same =
    subst (λ (x : Heap). IsUnlinked h x base) (sym same)
    (record {
      objects = erased-alone h base object linked begins some alone;
      object = object;
      begins = begins;
      alone = alone;
      rest = refl;
    })

-- a base isn't 0
pub base_some : (h : Heap) (base : ℕ) (object : StoredObject) → IsSound h → Begins h.objects base object → base ≢ 0
base_some h base object sound begins zero = let from = (sound.inside base object begins).from in omega arith
