use Rattle.std.proofs.Common.{◌≡◌, ℕ, ◌+◌, ◌*◌, ◌<◌, ◌≤◌, ◌^◌, List, [], ◌∷◌, map, length, take, sym, ap, subst, arith}
use Rattle.std.specs.Prelude.{slice_index}
use Rattle.std.proofs.lemmas.Nat.{rows}
use Rattle.mm_pages.specs.Pages.{Pages}
use Rattle.mm_object.specs.Heap.{IsObject}
use Rattle.mm_sweep.specs.Release.{Frees}
use Rattle.mm_sweep.specs.Told.{Told, Free}
use Rattle.mm_sweep.proofs.Bases.{each_at, take-next, lists-before, frees_told-next}
use Rattle.mm_sweep.proofs.Freed.{frees-none, frees-more, stays-object}
use Rattle.mm_sweep.proofs.freeing.free_objects.Goals as goal

one_more : (a b c m i : ℕ) → b ≤ a + m * i → c ≤ b + m → c ≤ a + m * (i + 1)
one_more a b c m i first next =
    let more = mul-suc m i in
    omega arith
  where
    mul-suc : (m i : ℕ) → m * (i + 1) ≡ m * i + m
    mul-suc m i = grind (arith, rows)

pub loop-i-init : goal.loop-i-init
loop-i-init g c =
    record {
      told = g.met.J.Finalizer.tells_nothing c.args.journal.now;
      frees = frees-none c.args.heap.now c.args.pages.now;
      linked = c.requires.linked;
      fits = c.requires.fits;
      sound = c.requires.sound;
      cost = λ digits few. omega arith;
    }

pub free_object-requires-clause-object : goal.free_object-requires-clause-object
free_object-requires-clause-object g c =
    let words = c.args.dead.now.words in
    let i = c.loop-i.i in
    let within : i < length words = omega (arith, c.requires.within) in
    subst (IsObject c.loop-i.heap) (sym c.get.ensures)
    (stays-object (take i words) (slice_index words i) c.args.heap.now c.loop-i.heap c.loop-i.invariant.frees.objects
    (lists-before words c.args.k i c.requires.ascending (omega arith) within)
    (each_at (IsObject c.args.heap.now) words c.args.k i c.requires.objects (omega arith) within))

pub loop-i-preserved : goal.loop-i-preserved
loop-i-preserved g c =
    let words = c.args.dead.now.words in
    let i = c.loop-i.i in
    let within : i < length words = omega (arith, c.requires.within) in
    record {
      told =
          subst
          (λ (told : List Told). g.J.Finalizer.tells c.args.journal.now c.free_object.new.journal told)
          (frees_told-next words i within)
          (g.met.J.Finalizer.tells_on c.args.journal.now c.loop-i.journal c.free_object.new.journal
          (map Free (take i words)) (Free (slice_index words i) ∷ []) c.loop-i.invariant.told
          (subst
          (λ (base : ℕ). g.J.Finalizer.tells c.loop-i.journal c.free_object.new.journal (Free base ∷ []))
          c.get.ensures c.free_object.ensures.told));
      frees =
          subst
          (λ (bases : List ℕ). Frees bases c.args.heap.now c.free_object.new.heap c.args.pages.now
          c.free_object.new.pages)
          (sym (take-next words i within))
          (frees-more (take i words) (slice_index words i ∷ []) c.args.heap.now c.loop-i.heap c.free_object.new.heap
          c.args.pages.now c.loop-i.pages c.free_object.new.pages c.loop-i.invariant.frees
          (subst
          (λ (base : ℕ). Frees (base ∷ []) c.loop-i.heap c.free_object.new.heap c.loop-i.pages c.free_object.new.pages)
          c.get.ensures c.free_object.ensures.frees));
      linked = c.free_object.ensures.linked;
      fits = c.free_object.ensures.fits;
      sound = c.free_object.ensures.sound;
      cost = λ digits few.
          let same = ap (λ (p : Pages). p.pages) c.loop-i.invariant.frees.pages_rest in
          one_more c.args.steps.now c.loop-i.steps c.free_object.new.steps (9 + 7 * digits) i
          (c.loop-i.invariant.cost digits few)
          (let one = c.free_object.ensures.cost digits (subst (λ (n : ℕ). n < 2 ^ digits)
          (sym same) few) in omega arith);
    }
