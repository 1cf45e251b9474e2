use Rattle.std.proofs.Common.{Bool, None, ap, sym, subst}
use Rattle.std.specs.Prelude.{IfSome, MatchBool}
use Rattle.mm_object.specs.Object.{views_of}
use Rattle.mm_mark.specs.Marker.{Marker, marker_of, IsUnderScan}
use Rattle.mm_mark.specs.Parts.{IsFreed}
use Rattle.mm_mark.specs.Marker.{marking}
use Rattle.mm_mark.specs.Stale.{HasFewStale}
use Rattle.mm_mark.proofs.Tidy.{forgotten-tidy}
use Rattle.mm_mark.proofs.Forgotten.{forgotten-known}
use Rattle.mm_mark.proofs.marker.Marker.forget_freed.Goals as goal

pub returns-then-is_freed-clause-keeps : goal.returns-then-is_freed-clause-keeps
returns-then-is_freed-clause-keeps g c =
    let objects = views_of c.args.heap.now.objects in
    let freed : IsFreed c.args.self.now objects =
    subst (λ (b : Bool). MatchBool b (IsFreed c.args.self.now objects)
    (IfSome c.args.self.now.partly (IsUnderScan objects)))
    c.if-is_freed.true c.is_freed.ensures.freed in
    let now : Marker = marker_of c.self.inside.queue c.self.inside.left_out c.self.inside.running None in
    record {
      known =
          forgotten-known c.args.self.now now objects freed (ap (λ (m : Marker). record m { partly = None })
          c.self.view_is)
          c.requires.known;
      partly = tt;
    }

pub returns-then-is_freed-clause-few : goal.returns-then-is_freed-clause-few
returns-then-is_freed-clause-few g c = λ stale h.
    subst (λ (m : Marker). HasFewStale (marking m c.args.heap.now) stale)
    (sym (ap (λ (m : Marker). record m { partly = None }) c.self.view_is))
    (record { tidy = forgotten-tidy c.args.self.now (views_of c.args.heap.now.objects) h.tidy; few = h.few })
