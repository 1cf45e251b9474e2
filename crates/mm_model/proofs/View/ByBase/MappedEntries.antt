-- Lists by base of which each value is told by a function.
use Rattle.std.proofs.Common.{◌≡◌, ℕ, List, map, Option, Some, None, refl, sym, ap, ◌∙◌}
use Rattle.std.specs.Prelude.{slice_get}
use Rattle.std.specs.Option.{option_map}
use Rattle.std.proofs.lemmas.Option.{slice_get-map}
use Rattle.mm_model.specs.Views.ByBase.{Begins}

-- what a function tells of what begins at a base
pub begins_mapped : {X Y : Type 0} (f : X → Y) (entries : List (Option X)) (base : ℕ) (x : X) → Begins entries base x
    → Begins (map (option_map f) entries) base (f x)
begins_mapped f entries base x begins =
    record {
      grain = begins.grain;
      aligned = begins.aligned;
      is = slice_get-map (option_map f) entries begins.grain ∙ ap (option_map (option_map f)) begins.is;
    }

pub record IsMapped {X Y : Type 0} (f : X → Y) (entries : List (Option X)) (base : ℕ) (y : Y) : Type 0 where
  pub value : X
  pub begins : Begins entries base value
  pub is : f value ≡ y

pub mapped_begins : {X Y : Type 0} (f : X → Y) (entries : List (Option X)) (base : ℕ) (y : Y)
    → Begins (map (option_map f) entries) base y → IsMapped f entries base y
mapped_begins {X} {Y} f entries base y begins =
    split (slice_get entries begins.grain) refl
    (sym (slice_get-map (option_map f) entries begins.grain) ∙ begins.is)
  where
    split : (e : Option (Option X)) → slice_get entries begins.grain ≡ e
        → option_map (option_map f) e ≡ Some (Some y) → IsMapped f entries base y
    split None p q = cc
    split (Some None) p q = cc
    split (Some (Some x)) p q =
        let same : f x ≡ y = cc in
        record {
          value = x;
          begins = record { grain = begins.grain; aligned = begins.aligned; is = p };
          is = same;
        }
