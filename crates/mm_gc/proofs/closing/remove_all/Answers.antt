use Rattle.std.proofs.Common.{◌≡◌, inl, inr, ap, ◌∙◌, arith}
use Rattle.std.proofs.lemmas.Bool.{cases_lt}
use Rattle.mm_roots.specs.Areas.{area_at}
use Rattle.mm_gc.proofs.Frees.Emptied.{unparked-again, in-place-again}
use Rattle.mm_gc.proofs.closing.remove_all.Goals as goal

pub loop-a-preserved : goal.loop-a-preserved
loop-a-preserved g c =
    let inv = c.loop-a.invariant in
    let now = c.remove_any.ensures in
    record {
      none = λ number below. elim (cases_lt number c.loop-a.a) [
        | inl before ↦ now.others number (inv.none number before)
        | inr last ↦
            let same : number ≡ c.loop-a.a = omega (arith, below, last) in
            ap (area_at c.remove_any.new.areas) same ∙ now.gone
      ];
      parked = now.parked;
      all_parked = λ others all. now.all_parked others (inv.all_parked others all);
      pages = unparked-again c.args.pages.now c.loop-a.pages c.remove_any.new.pages inv.pages now.pages;
      place = in-place-again c.args.areas.now c.loop-a.areas c.remove_any.new.areas inv.place now.place;
      owns = λ owns. now.owns (inv.owns owns);
      sound = λ some. now.sound;
    }
