use Rattle.std.proofs.Common.{◌≡◌, ℕ, [], ◌∷◌, ◌++◌, map, length, take, sym, ap, subst, ◌∙◌}
use Rattle.std.specs.List.{flat_map}
use Rattle.std.proofs.lemmas.List.{length-take-le}
use Rattle.mm_model.specs.declared.line.Line.TheVariants as lines
use Rattle.mm_model.specs.Views.ObjectView.{ObjectsByBase}
use Rattle.mm_model.specs.Views.ViewPhase.{view_final_lines}
use Rattle.mm_model.specs.Views.ViewWords.{object_at}
use Rattle.mm_object.specs.Object.{views_of}
use Rattle.mm_sweep.specs.Release.{finals_told}
use Rattle.mm_sweep.specs.Told.{PhaseOf, Free, IsToldOf}
use Rattle.mm_sweep.proofs.CountsLeft.{counted-released, listed-released, unpinned-released}
use Rattle.mm_sweep.proofs.Released.{views-released}
use Rattle.mm_sweep.proofs.Right.{right-released}
use Rattle.mm_sweep.proofs.Telling.{phase-lines, phase-words}
use Rattle.mm_sweep.proofs.releasing.release.Goals as goal

pub returns-clause-told : goal.returns-clause-told
returns-clause-told g c =
    let bases = take c.args.k c.args.dead.now.words in
    let objects = views_of c.args.heap.now.objects in
    let count : length bases ≡ c.args.k = length-take-le c.args.k c.args.dead.now.words c.requires.within in
    λ view shown.
    subst
    (λ (os : ObjectsByBase). IsToldOf (g.J.Finalizer.tells c.args.journal.now c.free_objects.new.journal) os
    (flat_map (λ base. view_final_lines (object_at os base)) bases
    ++ lines.Phase c.args.what (length bases) ∷ map lines.Free bases))
    (sym shown)
    (record {
      told = finals_told objects bases ++ PhaseOf c.args.what (length bases) ∷ map Free bases;
      was =
          g.met.J.Finalizer.tells_on c.args.journal.now c.run_finalizers.new.journal c.free_objects.new.journal
          (finals_told objects bases) (PhaseOf c.args.what (length bases) ∷ map Free bases)
          c.run_finalizers.ensures.told
          (g.met.J.Finalizer.tells_on c.run_finalizers.new.journal c.phase.new.self c.free_objects.new.journal
          (PhaseOf c.args.what (length bases) ∷ []) (map Free bases)
          (subst
          (λ (n : ℕ). g.J.Finalizer.tells c.run_finalizers.new.journal c.phase.new.self (PhaseOf c.args.what n ∷ []))
          (sym count) c.phase.ensures)
          c.free_objects.ensures.told);
      lines_are = phase-lines c.args.what objects bases;
      words_are = phase-words c.args.what (length bases) c.args.heap.now bases c.requires.objects;
    })

pub returns-clause-views : goal.returns-clause-views
returns-clause-views g c =
    ap views_of c.free_objects.ensures.frees.objects
    ∙ views-released (take c.args.k c.args.dead.now.words) c.args.heap.now.objects

pub returns-clause-right : goal.returns-clause-right
returns-clause-right g c =
    λ table.
    right-released (take c.args.k c.args.dead.now.words) c.args.heap.now c.free_objects.new.heap table
    c.free_objects.ensures.frees.rest c.free_objects.ensures.frees.objects c.requires.left

pub returns-clause-counts : goal.returns-clause-counts
returns-clause-counts g c =
    λ outside apart.
    counted-released (take c.args.k c.args.dead.now.words) c.args.heap.now.objects c.free_objects.new.heap.objects
    c.free_objects.ensures.frees.objects outside apart

pub returns-clause-listed : goal.returns-clause-listed
returns-clause-listed g c =
    listed-released (take c.args.k c.args.dead.now.words) c.args.heap.now.objects c.free_objects.new.heap.objects
    c.free_objects.ensures.frees.objects

pub returns-clause-unpinned : goal.returns-clause-unpinned
returns-clause-unpinned g c =
    unpinned-released (take c.args.k c.args.dead.now.words) c.args.heap.now.objects c.free_objects.new.heap.objects
    c.free_objects.ensures.frees.objects
