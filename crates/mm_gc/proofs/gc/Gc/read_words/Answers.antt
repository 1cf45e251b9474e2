use Rattle.std.proofs.Common.{◌≡◌, ◌+◌, length, sym, ap, ◌∙◌, subst, arith}
use Rattle.std.specs.Prelude.{slice_range}
use Rattle.mm_model.specs.Views.ByBase.{Begins}
use Rattle.mm_object.specs.Object.{view_of_stored}
use Rattle.mm_gc.specs.Gc.{Gc, view_of_gc}
use Rattle.mm_gc.proofs.BareWords.Lists.{range-is}
use Rattle.mm_gc.proofs.BareWords.Meant.{holds-words}
use Rattle.mm_gc.proofs.gc.Gc.read_words.Goals as goal

pub returns-clause-read : goal.returns-clause-read
returns-clause-read g c =
    let at = c.in_ok-base.ensures.answer in
    let object = at.slots.object in
    let base = c.in_ok-base.base in
    let begins = subst (λ (gc : Gc). Begins gc.region.heap.objects base object) (sym c.self.view_is) at.slots.begins in
    let size : length c.read_slots.new.into ≡ length c.args.into.now = c.read_slots.auto.into in
    let words = range-is object.words c.args.s c.read_slots.new.into (omega (arith, size, at.slots.within))
    (λ k below. c.read_slots.ensures.words object k begins (omega (arith, size, below))) in
    record {
      object = record { base = base; value = view_of_stored object };
      bare = at.bare;
      words = words ∙ ap (λ n. slice_range object.words c.args.s (c.args.s + n)) size;
      states = holds-words (view_of_gc c.args.self.now) c.args.i c.args.s
          (record { base = base; value = view_of_stored object }) at.bare.meant c.read_slots.new.into words;
    }
