use Rattle.std.proofs.Common.{◌≡◌, Option, Some, None, refl, sym, subst, ◌∙◌, arith}
use Rattle.std.specs.Prelude.{IfSome, MatchOption}
use Rattle.mm_model.specs.Views.ObjectView.{ObjectsByBase}
use Rattle.mm_model.specs.Views.View.{PartlyScannedView}
use Rattle.mm_object.specs.Object.{views_of}
use Rattle.mm_mark.specs.Marker.{IsUnderScan}
use Rattle.mm_mark.specs.Parts.{NoneIsGray}
use Rattle.mm_mark.proofs.Known.{told-under}
use Rattle.mm_mark.specs.Stale.{stale_of}
use Rattle.mm_mark.specs.Marker.{marking}
use Rattle.mm_mark.proofs.PartsDone.{part-in_views}
use Rattle.mm_mark.proofs.marker.Marker.scan_part.Goals as goal

pub returns-clause-part : goal.returns-clause-part
returns-clause-part g c =
    part-in_views _ _ (marking c.args.self.now c.args.heap.now) (marking c.scan_next.new.self c.scan_next.new.heap)
    c.scan_next.result c.scan_next.ensures.part

-- what is told where there is no part
told-none : {X A : Type 0} → (B : X → Type 0) (result : Option X) → MatchOption result A B → result ≡ None → A
told-none {X} {A} B result told none = subst (λ (r : Option X). MatchOption r A B) none told

-- where no object is gray, none is scanned in part
none-partly : (objects : ObjectsByBase) (partly : Option PartlyScannedView) → IfSome partly (IsUnderScan objects)
    → NoneIsGray objects → partly ≡ None
none-partly objects None under none = refl
none-partly objects (Some p) under none =
    let there = told-under objects p under in absurd (none p.base there.object there.begins there.gray)

pub returns-clause-stays : goal.returns-clause-stays
returns-clause-stays g c none = (told-none _ c.scan_next.result c.scan_next.ensures.part none).1

pub returns-clause-partly : goal.returns-clause-partly
returns-clause-partly g c none =
    let told = told-none _ c.scan_next.result c.scan_next.ensures.part none in
    told.2 ∙ sym (none-partly (views_of c.args.heap.now.objects) c.args.self.now.partly c.requires.keeps.partly told.0)

pub returns-clause-few : goal.returns-clause-few
returns-clause-few g c = λ stale h.
    let after = marking c.scan_next.new.self c.scan_next.new.heap in
    let few = h.few in
    let paid = c.scan_next.ensures.paid h.tidy in
    record {
      left = stale_of after;
      few = record { tidy = c.scan_next.ensures.tidy h.tidy; few = omega arith };
      paid = omega (arith, few, paid);
    }
