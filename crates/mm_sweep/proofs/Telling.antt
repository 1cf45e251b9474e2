-- What a journal is told of a phase: the lines of it, and the words of its objects.
use Rattle.std.proofs.Common.{◌≡◌, ℕ, ◌%◌, ◌^◌, Bool, true, false, List, [], ◌∷◌, ◌++◌, map, length, sum, Option, Some}
use Rattle.std.proofs.Common.{None, refl, sym, ap, subst, ◌∙◌}
use Rattle.std.specs.Prelude.{if◌then◌else◌}
use Rattle.std.specs.List.{AllByRecursion, flat_map}
use Rattle.std.proofs.lemmas.List.{map-append}
use Rattle.mm_model.specs.declared.line.Line.{Line}
use Rattle.mm_model.specs.declared.line.Line.TheVariants as lines
use Rattle.mm_model.specs.declared.line.Phase.{Phase}
use Rattle.mm_model.specs.Views.ByBase.{Based}
use Rattle.mm_model.specs.Views.ObjectView.{ObjectView, ObjectsByBase}
use Rattle.mm_model.specs.Views.ViewPhase.{view_final_lines}
use Rattle.mm_model.specs.Views.ViewWords.{object_at}
use Rattle.mm_model.proofs.View.ByBase.MappedEntries.{begins_mapped}
use Rattle.mm_object.specs.Object.{view_of_stored, views_of}
use Rattle.mm_object.specs.Heap.{Heap, IsObject}
use Rattle.mm_sweep.specs.Release.{AreObjects, final_told, finals_told}
use Rattle.mm_sweep.specs.Told.{Told, Finalize, PhaseOf, Free, line_told, HasItsWords}
use Rattle.mm_sweep.proofs.Finals.{stored_at-begins}

-- the lines of all calls
frees-lines : (bases : List ℕ) → map line_told (map Free bases) ≡ map lines.Free bases
frees-lines [] = refl
frees-lines (base ∷ bases) = ap (λ (ls : List Line). lines.Free base ∷ ls) (frees-lines bases)

final-lines : (o : Option (Based ObjectView)) → map line_told (final_told o) ≡ view_final_lines o
final-lines None = refl
final-lines (Some o) = either o.value.finalize
  where
    either : (b : Bool) → map line_told (if b then Finalize o.base o.value.words ∷ [] else [])
        ≡ (if b then lines.Final o.base (length o.value.words) (sum o.value.words % 2 ^ 32) ∷ [] else [])
    either true = refl
    either false = refl

finals-lines : (objects : ObjectsByBase) (bases : List ℕ) → map line_told (finals_told objects bases)
    ≡ flat_map (λ base. view_final_lines (object_at objects base)) bases
finals-lines objects [] = refl
finals-lines objects (base ∷ bases) =
    map-append line_told (final_told (object_at objects base)) (finals_told objects bases)
    ∙ ap (λ (ls : List Line). ls ++ map line_told (finals_told objects bases)) (final-lines (object_at objects base))
    ∙ ap (λ (ls : List Line). view_final_lines (object_at objects base) ++ ls) (finals-lines objects bases)

pub phase-lines : (what : Phase) (objects : ObjectsByBase) (bases : List ℕ)
    → map line_told (finals_told objects bases ++ PhaseOf what (length bases) ∷ map Free bases)
    ≡ flat_map (λ base. view_final_lines (object_at objects base)) bases
    ++ lines.Phase what (length bases) ∷ map lines.Free bases
phase-lines what objects bases =
    map-append line_told (finals_told objects bases) (PhaseOf what (length bases) ∷ map Free bases)
    ∙ ap (λ (ls : List Line). ls ++ lines.Phase what (length bases) ∷ map line_told (map Free bases))
    (finals-lines objects bases)
    ∙ ap (λ (ls : List Line). flat_map (λ base. view_final_lines (object_at objects base)) bases
    ++ lines.Phase what (length bases) ∷ ls) (frees-lines bases)

-- the words of all calls
all-append : (P : Told → Type 0) (xs ys : List Told) → AllByRecursion P xs → AllByRecursion P ys
    → AllByRecursion P (xs ++ ys)
all-append P [] ys left right = right
all-append P (x ∷ xs) ys left right = (left.0, all-append P xs ys left.1 right)

frees-words : (objects : ObjectsByBase) (bases : List ℕ) → AllByRecursion (HasItsWords objects) (map Free bases)
frees-words objects [] = tt
frees-words objects (base ∷ bases) = (tt, frees-words objects bases)

final-words : (heap : Heap) (base : ℕ) → IsObject heap base
    → AllByRecursion (HasItsWords (views_of heap.objects)) (final_told (object_at (views_of heap.objects) base))
final-words heap base (object, begins) =
    subst
    (λ (o : Option (Based ObjectView)). AllByRecursion (HasItsWords (views_of heap.objects)) (final_told o))
    (sym (stored_at-begins heap.objects base object begins))
    (either object.finalize)
  where
    either : (b : Bool) → AllByRecursion (HasItsWords (views_of heap.objects))
        (if b then Finalize base object.words ∷ [] else [])
    either true = ((view_of_stored object, begins_mapped view_of_stored heap.objects base object begins, refl), tt)
    either false = tt

finals-words : (heap : Heap) (bases : List ℕ) → AreObjects heap bases
    → AllByRecursion (HasItsWords (views_of heap.objects)) (finals_told (views_of heap.objects) bases)
finals-words heap [] all = tt
finals-words heap (base ∷ bases) all =
    all-append (HasItsWords (views_of heap.objects)) (final_told (object_at (views_of heap.objects) base))
    (finals_told (views_of heap.objects) bases) (final-words heap base all.0) (finals-words heap bases all.1)

pub phase-words : (what : Phase) (freed : ℕ) (heap : Heap) (bases : List ℕ) → AreObjects heap bases
    → AllByRecursion (HasItsWords (views_of heap.objects))
    (finals_told (views_of heap.objects) bases ++ PhaseOf what freed ∷ map Free bases)
phase-words what freed heap bases all =
    all-append (HasItsWords (views_of heap.objects)) (finals_told (views_of heap.objects) bases)
    (PhaseOf what freed ∷ map Free bases) (finals-words heap bases all)
    (tt, frees-words (views_of heap.objects) bases)
