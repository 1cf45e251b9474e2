use Rattle.std.proofs.Common.{refl}
use Rattle.mm_gc.proofs.Regions.Resized.{keeps-resized, inside-resized}
use Rattle.mm_gc.proofs.region.Region.move_end.Goals as goal

pub returns-then-size-clause-inside : goal.returns-then-size-clause-inside
returns-then-size-clause-inside c =
    inside-resized c.args.self.now _ c.args.size c.requires.keeps (record {
      heap = c.resize.ensures.heap;
      last = c.resize.ensures.last;
      arena = c.resize.ensures.arena;
      pages = c.set_limit.ensures.limit;
      areas = refl;
      least = refl;
      most = refl;
      pages_sound = c.set_limit.ensures.sound;
      heap_sound = c.resize.ensures.sound;
    })

pub returns-then-size-clause-keeps : goal.returns-then-size-clause-keeps
returns-then-size-clause-keeps c =
    keeps-resized c.args.self.now _ c.args.size c.requires.keeps (record {
      heap = c.resize.ensures.heap;
      last = c.resize.ensures.last;
      arena = c.resize.ensures.arena;
      pages = c.set_limit.ensures.limit;
      areas = refl;
      least = refl;
      most = refl;
      pages_sound = c.set_limit.ensures.sound;
      heap_sound = c.resize.ensures.sound;
    }) c.requires.most

pub returns-else-size-clause-inside : goal.returns-else-size-clause-inside
returns-else-size-clause-inside c =
    inside-resized c.args.self.now _ c.args.size c.requires.keeps (record {
      heap = c.resize-else-size.ensures.heap;
      last = c.resize-else-size.ensures.last;
      arena = c.resize-else-size.ensures.arena;
      pages = c.set_limit-else-size.ensures.limit;
      areas = refl;
      least = refl;
      most = refl;
      pages_sound = c.set_limit-else-size.ensures.sound;
      heap_sound = c.resize-else-size.ensures.sound;
    })

pub returns-else-size-clause-keeps : goal.returns-else-size-clause-keeps
returns-else-size-clause-keeps c =
    keeps-resized c.args.self.now _ c.args.size c.requires.keeps (record {
      heap = c.resize-else-size.ensures.heap;
      last = c.resize-else-size.ensures.last;
      arena = c.resize-else-size.ensures.arena;
      pages = c.set_limit-else-size.ensures.limit;
      areas = refl;
      least = refl;
      most = refl;
      pages_sound = c.set_limit-else-size.ensures.sound;
      heap_sound = c.resize-else-size.ensures.sound;
    }) c.requires.most
