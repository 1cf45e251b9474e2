use Rattle.std.proofs.Common.{sym, ap, ◌∙◌, subst}
use Rattle.mm_object.specs.Object.{StoredObjects, views_of}
use Rattle.mm_count.specs.Counts.{IsCountedBy}
use Rattle.mm_count.specs.Listed.{AllListed, NonePinned}
use Rattle.mm_roots.proofs.Kept.{views-kept}
use Rattle.mm_gc.proofs.Regions.Changed.{stays-heap, keeps-heap, clear-all_parked}
use Rattle.mm_gc.proofs.Regions.SameObjects.{linked-same, right-same}
use Rattle.mm_gc.proofs.region.Region.release.Goals as goal

pub settle-requires : goal.settle-requires
settle-requires g c =
    let r = c.args.self.now in
    let keeps = c.requires.settled.keeps in
    keeps-heap r c.release.new.heap c.release.new.pages keeps
    (stays-heap r c.release.new.heap c.release.new.pages c.release.ensures.rest c.release.ensures.pages_rest)
    c.release.ensures.sound (c.release.ensures.pages_sound keeps.sound.pages) c.release.ensures.fits
    (c.release.ensures.others r.areas.fixed.runs
    (clear-all_parked r.pages r.heap.runs r.areas.fixed.runs keeps.placed.heap.parked keeps.placed.all_parked)
    keeps.placed.areas)
    (c.release.ensures.all_parked r.areas.fixed.runs keeps.placed.all_parked)

pub returns-clause-released : goal.returns-clause-released
returns-clause-released g c =
    let r = c.args.self.now in
    let mid = c.release.new.heap in
    let same = c.settle.ensures.inside.objects in
    record {
      objects = same ∙ c.release.ensures.objects;
      views = ap views_of same ∙ c.release.ensures.views;
      right = λ table right.
          right-same mid c.settle.new.self.heap same table c.settle.ensures.same.heap_pages
          (c.release.ensures.right table right);
      counts = λ outside apart.
          subst (λ (objects : StoredObjects). IsCountedBy objects outside) (sym same)
          (c.release.ensures.counts outside apart);
      listed = λ apart. subst AllListed (sym same) (c.release.ensures.listed apart);
      unpinned = λ none. subst NonePinned (sym same) (c.release.ensures.unpinned none);
      linked = linked-same mid c.settle.new.self.heap same c.release.ensures.linked;
    }

pub returns-clause-areas : goal.returns-clause-areas
returns-clause-areas g c =
    let r = c.args.self.now in
    let keeps = c.requires.settled.keeps in
    c.settle.ensures.inside.areas
    ∙ views-kept r.areas keeps.sound.areas r.heap keeps.sound.heap keeps.placed.beside c.release.new.heap.raw
    c.release.ensures.raw
