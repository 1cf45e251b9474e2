-- The place that a search finds in a region is the view's.
use Rattle.std.proofs.Common.{◌≡◌, ℕ, inl, inr, refl, sym, ap}
use Rattle.std.specs.List.{fold}
use Rattle.mm_model.specs.Places.SizeClass.{size_of}
use Rattle.mm_model.specs.Places.Place.{place_among, page_end}
use Rattle.mm_model.specs.Views.View.{View}
use Rattle.mm_gc.specs.declared.wanted.Wanted.{Wanted}
use Rattle.mm_gc.specs.declared.wanted.Reach.{Reach}
use Rattle.mm_gc.specs.declared.wanted.Reach.TheVariants as reach
use Rattle.mm_gc.specs.Gc.{Gc, view_of_gc, pieces_in}
use Rattle.mm_gc.specs.Kept.{KeepsGc}
use Rattle.mm_gc.specs.Regions.{limit_in}
use Rattle.mm_gc.specs.Making.{family_of, bytes_of, place_in_reach}
use Rattle.mm_gc.proofs.Makes.Births.{IsPlaceOf}

pub place_in_reach-region : (gc : Gc) → KeepsGc gc → (r : Reach) (w : Wanted)
    → place_in_reach r (view_of_gc gc) w
    ≡ place_among (pieces_in gc.region) (limit_in r gc.region) (family_of w) (size_of (bytes_of w))
place_in_reach-region gc keeps reach.Now w =
    ap
    (λ (least : ℕ). place_among (pieces_in gc.region) (fold page_end least (pieces_in gc.region)) (family_of w)
    (size_of (bytes_of w)))
    (sym keeps.rooms.least)
place_in_reach-region gc keeps reach.Grown w =
    ap (λ (most : ℕ). place_among (pieces_in gc.region) most (family_of w) (size_of (bytes_of w)))
    (sym keeps.rooms.most)

pub place_in_reach-is : (r : Reach) (view : View) (w : Wanted)
    → IsPlaceOf view (family_of w) (bytes_of w) (place_in_reach r view w)
place_in_reach-is reach.Now view w = inl refl
place_in_reach-is reach.Grown view w = inr refl
