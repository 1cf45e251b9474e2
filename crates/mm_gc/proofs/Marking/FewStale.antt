-- No entry of the queue becomes stale where an object is born in a cycle, or where one gets a weak object.
use Rattle.std.proofs.Common.{◌≡◌, ◌≢◌, ⊎_elim, ℕ, ◌/◌, Bool, true, Option, Some, None, sym, ap, ◌∙◌, subst}
use Rattle.std.specs.Prelude.{slice_get, if◌then◌else◌}
use Rattle.std.proofs.lemmas.Bool.{cases_eq}
use Rattle.std.proofs.lemmas.List.{length-set}
use Rattle.std.proofs.lemmas.Option.{slice_get-map}
use Rattle.std.specs.Option.{option_map}
use Rattle.mm_model.specs.declared.object.Colour.TheVariants.{White, Black}
use Rattle.mm_model.specs.Views.ByBase.{Begins, with_entry}
use Rattle.mm_model.specs.Views.ObjectView.{ObjectView, ObjectsByBase}
use Rattle.mm_model.specs.Views.ViewEffect.{birth_colour}
use Rattle.mm_model.proofs.Lists.Replaced.{get-set_other, get-set_cases}
use Rattle.mm_model.proofs.View.ByBase.Entries.{begins_same}
use Rattle.mm_model.proofs.View.ByBase.ReplacedEntries.{begins_here, begins_there, begins_cases}
use Rattle.mm_mark.specs.Marker.{Marker}
use Rattle.mm_mark.specs.Colours.{IsGrayAt, IsWhiteAt}
use Rattle.mm_mark.specs.Stale.{KeepsFewStale}
use Rattle.mm_mark.proofs.Keeping.{few-kept}
use Rattle.mm_object.specs.Object.{StoredObjects, view_of_stored, views_of}
use Rattle.mm_gc.specs.Gc.{Gc, cycle_in}

-- what is born in a cycle is black
pub birth-black : (gc : Gc) → gc.marker.running ≡ true → birth_colour (cycle_in gc) ≡ Black
birth-black gc runs =
    ap (λ (b : Bool). birth_colour
    (if b then Some (record { gone_before = gc.gone_before; partly_scanned = gc.marker.partly }) else None)) runs

-- where nothing is stored, nothing is seen
pub none-seen : (objects : StoredObjects) (n : ℕ) → slice_get objects n ≡ Some None
    → slice_get (views_of objects) n ≡ Some None
none-seen objects n none =
    slice_get-map (option_map view_of_stored) objects n ∙ ap (option_map (option_map view_of_stored)) none

pub few-born : (marker : Marker) (objects : ObjectsByBase) (base : ℕ) (new : ObjectView)
    → slice_get objects (base / 16) ≡ Some None → new.colour ≡ Black
    → KeepsFewStale (record { marker = marker; objects = objects })
    (record { marker = marker; objects = with_entry base (Some new) objects })
few-born marker objects base new none black stale few =
    few-kept marker objects (with_entry base (Some new) objects) stale (length-set objects (base / 16) (Some new)) white
    gray few
  where
    white : (b : ℕ) → IsWhiteAt (with_entry base (Some new) objects) b → IsWhiteAt objects b
    white b h =
        ⊎_elim
        (λ (own : (h.begins.grain ≡ base / 16) × (Some new ≡ Some h.object)).
        let is = own.1 in
        let same : new ≡ h.object = cc in
        clash (sym black ∙ ap (λ (v : ObjectView). v.colour) same ∙ h.is))
        (λ (old : slice_get objects h.begins.grain ≡ Some (Some h.object)).
        record {
          object = h.object;
          begins = record { grain = h.begins.grain; aligned = h.begins.aligned; is = old };
          is = h.is;
        })
        (get-set_cases objects (base / 16) h.begins.grain (Some new) (Some h.object) h.begins.is)
      where
        clash : {A : Type 0} → Black ≡ White → A
        clash e = cc

    gray : (b : ℕ) → IsGrayAt objects b → IsGrayAt (with_entry base (Some new) objects) b
    gray b h = record {
      object = h.object;
      begins = record {
        grain = h.begins.grain;
        aligned = h.begins.aligned;
        is = get-set_other objects (base / 16) h.begins.grain (Some new) apart ∙ h.begins.is;
      };
      is = h.is;
    }
      where
        apart : h.begins.grain ≢ base / 16
        apart e =
            let no : ◌≡◌ {A = Option (Option ObjectView)} (Some None) (Some (Some h.object)) =
            sym none ∙ ap (slice_get objects) (sym e) ∙ h.begins.is in
            cc

pub few-recast : (marker : Marker) (objects : ObjectsByBase) (base : ℕ) (x y : ObjectView) → Begins objects base x
    → y.colour ≡ x.colour
    → KeepsFewStale (record { marker = marker; objects = objects })
    (record { marker = marker; objects = with_entry base (Some y) objects })
few-recast marker objects base x y begins colour stale few =
    few-kept marker objects (with_entry base (Some y) objects) stale (length-set objects (base / 16) (Some y)) white
    gray few
  where
    white : (b : ℕ) → IsWhiteAt (with_entry base (Some y) objects) b → IsWhiteAt objects b
    white b h =
        ⊎_elim
        (λ (own : (b ≡ base) × (h.object ≡ y)).
        record {
          object = x;
          begins = subst (λ (n : ℕ). Begins objects n x) (sym own.0) begins;
          is = sym colour ∙ sym (ap (λ (v : ObjectView). v.colour) own.1) ∙ h.is;
        })
        (λ (old : (b ≢ base) × Begins objects b h.object). record { object = h.object; begins = old.1; is = h.is })
        (begins_cases objects base x y begins b h.object h.begins)

    gray : (b : ℕ) → IsGrayAt objects b → IsGrayAt (with_entry base (Some y) objects) b
    gray b h =
        ⊎_elim
        (λ (own : b ≡ base).
        let same : x ≡ h.object =
        begins_same objects base x h.object begins (subst (λ (n : ℕ). Begins objects n h.object) own h.begins) in
        record {
          object = y;
          begins =
              subst (λ (n : ℕ). Begins (with_entry base (Some y) objects) n y) (sym own)
              (begins_here objects base x y begins);
          is = colour ∙ ap (λ (v : ObjectView). v.colour) same ∙ h.is;
        })
        (λ (other : b ≢ base).
        record {
          object = h.object;
          begins = begins_there objects base x y begins b h.object other h.begins;
          is = h.is;
        })
        (cases_eq b base)
