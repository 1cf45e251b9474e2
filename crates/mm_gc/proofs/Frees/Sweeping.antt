-- What a reap or a sweep has found can be released.
use Rattle.std.proofs.Common.{ℕ, ◌≤◌, List, [], ◌∷◌, take, length, sym, ap}
use Rattle.std.specs.List.{AllByRecursion}
use Rattle.mm_model.specs.Views.ByBase.{Begins}
use Rattle.mm_model.specs.Views.ObjectView.{ObjectView, ObjectsByBase}
use Rattle.mm_model.specs.Views.SetsByBase.{AreBasesAt}
use Rattle.mm_model.proofs.View.ByBase.MappedEntries.{mapped_begins}
use Rattle.mm_object.specs.Object.{view_of_stored, views_of}
use Rattle.mm_object.specs.Heap.{Heap}
use Rattle.mm_weak.specs.Links.{IsLinked}
use Rattle.mm_count.specs.DeadApart.{AreDeadApart, IsRecounted}
use Rattle.mm_sweep.specs.Release.{AreObjects}
use Rattle.mm_sweep.specs.Sweep.{KeepsWhitened}
use Rattle.mm_gc.specs.Regions.{IsReleasable}
use Rattle.mm_gc.proofs.Colours.Alike.{all_white, AreAlike, paired-alike, begins-alike}

-- the bases of objects that have the same places in another heap are those of its objects
objects-alike : (Dead : ℕ → Type 0) (views : ObjectsByBase) (h : Heap) → AreAlike (views_of h.objects) views
    → (bases : List ℕ) → AllByRecursion (λ base. (object : ObjectView) × Begins views base object × Dead base) bases
    → AreObjects h bases
objects-alike Dead views h same [] only = tt
objects-alike Dead views h same (base ∷ bases) only =
    let first = only.0 in
    let there = begins-alike (views_of h.objects) views same base first.0 first.1 in
    let stored = mapped_begins view_of_stored h.objects base (record first.0 { colour = there.0 }) there.1 in
    ((stored.value, stored.begins), objects-alike Dead views h same bases only.1)

pub releasable : (Dead : ℕ → Type 0) (views : ObjectsByBase) (h : Heap) (words : List ℕ) (k : ℕ) → k ≤ length words
    → AreAlike (views_of h.objects) views → AreBasesAt views Dead (take k words)
    → AreDeadApart (take k words) h.objects → IsLinked h → IsReleasable h words k
releasable Dead views h words k within same bases apart linked =
    record {
      within = within;
      ascending = bases.ascending;
      objects = objects-alike Dead views h same (take k words) bases.only;
      left = apart.left;
      linked = linked;
    }

-- composite words and colours don't tell of links
pub linked-whitened : (before after : Heap) → AreAlike (views_of before.objects) (views_of after.objects)
    → KeepsWhitened before.objects after.objects → IsLinked before → IsLinked after
linked-whitened before after same keeps linked =
    record {
      paired = paired-alike (views_of before.objects) (views_of after.objects) same linked.paired;
      flagged = λ base object begins.
          let was = keeps.back base object begins in
          linked.flagged base (record object { composite = was.0; colour = was.1 }) was.2;
    }

pub linked-recounted : (before after : Heap) → IsRecounted before after → IsLinked before → IsLinked after
linked-recounted before after recounted linked =
    record {
      paired = paired-alike (views_of before.objects) (views_of after.objects)
          (ap all_white (sym recounted.views)) linked.paired;
      flagged = λ base object begins.
          let was = recounted.objects.back base object begins in
          linked.flagged base (record object { composite = was.0 }) was.1;
    }
