use Rattle.std.proofs.Common.{◌≡◌, ℕ, Option, Some, None, replicate, get_or, refl, sym, ap, ◌∙◌, subst}
use Rattle.std.specs.Prelude.{is_some}
use Rattle.std.specs.List.{count_by}
use Rattle.std.proofs.lemmas.List.{length-replicate}
use Rattle.mm_model.specs.Areas.{most_areas}
use Rattle.mm_words.specs.Location.{Location, location_of}
use Rattle.mm_fixed.specs.Fixed.{Fixed, IsSoundFixed}
use Rattle.mm_roots.specs.declared.area_shape.AreaShape.{AreaShape}
use Rattle.mm_roots.specs.Areas.{Areas, fresh, IsSoundAreas}
use Rattle.mm_roots.specs.Kept.{AreaRows, areas_of}
use Rattle.mm_roots.proofs.Counts.{none-fresh, count-fresh}
use Rattle.mm_roots.proofs.areas.Areas.make.Goals as goal

-- no number has an area
no_area : (number : ℕ) (area : AreaShape) → get_or (replicate most_areas None) number None ≡ Some area → ⊥
no_area number area lives =
    let none : Option AreaShape = None in
    absurd (cc (none-fresh most_areas number none refl, lives))

fresh-sound : (table : Location) (fixed : Fixed) → IsSoundFixed fixed → IsSoundAreas (fresh table fixed)
fresh-sound table fixed sound =
    let none : Option AreaShape = None in
    record {
      entries = length-replicate most_areas none;
      fixed = sound;
      shapes = λ number area lives. absurd (no_area number area lives);
      blocks = λ number area lives. absurd (no_area number area lives);
      bases = λ number other area another lives other_lives apart. absurd (no_area number area lives);
    }

rows : (made : AreaRows) (table : Location) (fixed : Fixed) → made.location ≡ table
    → made.areas ≡ replicate most_areas None → areas_of made fixed ≡ fresh table fixed
rows made table fixed location areas = cc

pub returns-clause-value : goal.returns-clause-value
returns-clause-value c =
    rows c.make.result (location_of c.args.table) c.args.fixed c.make.ensures.location c.make.ensures.areas

pub invariant_of-result : goal.invariant_of-result
invariant_of-result c =
    let is = rows c.make.result (location_of c.args.table) c.args.fixed c.make.ensures.location c.make.ensures.areas in
    let none : Option AreaShape = None in
    record {
      sound = subst IsSoundAreas (sym is) (fresh-sound (location_of c.args.table) c.args.fixed c.requires.sound);
      live = sym (ap (λ (a : Areas). count_by is_some a.areas) is ∙ count-fresh most_areas none refl);
    }

pub returns-clause-owns : goal.returns-clause-owns
returns-clause-owns c = λ none base block begins. absurd (none base block begins)

pub returns-clause-sound : goal.returns-clause-sound
returns-clause-sound c =
    let is = rows c.make.result (location_of c.args.table) c.args.fixed c.make.ensures.location c.make.ensures.areas in
    subst IsSoundAreas (sym is) (fresh-sound (location_of c.args.table) c.args.fixed c.requires.sound)
