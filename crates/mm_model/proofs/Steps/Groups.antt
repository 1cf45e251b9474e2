-- What is read out of the lines of a group.
use Rattle.std.proofs.Common.{◌≡◌, ℕ, ◌%◌, ◌^◌, Bool, true, false, cond, List, [], ◌∷◌, ◌++◌, length, take, map, Option}
use Rattle.std.proofs.Common.{Some, None, refl, ap, ◌∙◌, append_assoc}
use Rattle.std.specs.Prelude.{sum}
use Rattle.std.specs.List.{flat_map, find}
use Rattle.mm_model.specs.declared.line.Line.{Line}
use Rattle.mm_model.specs.declared.line.Line.TheVariants as lines
use Rattle.mm_model.specs.declared.line.Phase.{Phase}
use Rattle.mm_model.specs.Value.{words_of}
use Rattle.mm_model.specs.Object.{Object}
use Rattle.mm_model.specs.State.{State, lives_at}
use Rattle.mm_model.specs.Phase.{final_lines, phase_lines}
use Rattle.mm_model.specs.After.{freed_bases, phases_in, scanned_bases}

-- a reading of logs that passes over the lines of finalizers
module _ {X : Type 0} (read : List Line → X)
    (over_final : (base slots words : ℕ) (rest : List Line) → read (lines.Final base slots words ∷ rest) ≡ read rest)
  where
    read-final : (found : Option Object) (rest : List Line) → read (final_lines found ++ rest) ≡ read rest
    read-final None rest = refl
    read-final (Some object) rest =
        let split : (b : Bool)
        → read (cond b (lines.Final object.base (length object.slots) (sum (words_of object.slots) % 2 ^ 32) ∷ []) []
        ++ rest) ≡ read rest =
        elim [
          | true ↦ over_final object.base (length object.slots) (sum (words_of object.slots) % 2 ^ 32) rest
          | false ↦ refl
        ] in
        split object.finalize

    read-finals : (a : State) (bases : List ℕ) (rest : List Line)
        → read (flat_map (λ base. final_lines (find (lives_at base) a.objects)) bases ++ rest) ≡ read rest
    read-finals a [] rest = refl
    read-finals a (base ∷ bases) rest =
        let others : List Line = flat_map (λ base. final_lines (find (lives_at base) a.objects)) bases in
        ap read (append_assoc (final_lines (find (lives_at base) a.objects)) others rest)
        ∙ read-final (find (lives_at base) a.objects) (others ++ rest)
        ∙ read-finals a bases rest

    -- what is read of a phase begins at its own line
    read-phase : (what : Phase) (a : State) (bases : List ℕ) (rest : List Line)
        → read (phase_lines what a bases ++ rest)
        ≡ read (lines.Phase what (length bases) ∷ map lines.Free bases ++ rest)
    read-phase what a bases rest =
        ap read
        (append_assoc (flat_map (λ base. final_lines (find (lives_at base) a.objects)) bases)
        (lines.Phase what (length bases) ∷ map lines.Free bases) rest)
        ∙ read-finals a bases (lines.Phase what (length bases) ∷ map lines.Free bases ++ rest)

-- and over the lines of freed objects
module _ {X : Type 0} (read : List Line → X)
    (over_final : (base slots words : ℕ) (rest : List Line) → read (lines.Final base slots words ∷ rest) ≡ read rest)
    (over_free : (base : ℕ) (rest : List Line) → read (lines.Free base ∷ rest) ≡ read rest) where
  read-frees : (bases : List ℕ) (rest : List Line) → read (map lines.Free bases ++ rest) ≡ read rest
  read-frees [] rest = refl
  read-frees (base ∷ bases) rest = over_free base (map lines.Free bases ++ rest) ∙ read-frees bases rest

  -- Where it passes over a phase's own line too, it passes over the phase.
  pub over-phase : ((what : Phase) (count : ℕ) (rest : List Line) → read (lines.Phase what count ∷ rest) ≡ read rest)
      → (what : Phase) (a : State) (bases : List ℕ) (rest : List Line)
      → read (phase_lines what a bases ++ rest) ≡ read rest
  over-phase over_own what a bases rest =
      read-phase read over_final what a bases rest
      ∙ over_own what (length bases) (map lines.Free bases ++ rest)
      ∙ read-frees bases rest

freed_bases-take : (bases : List ℕ) (rest : List Line)
    → freed_bases (take (length bases) (map lines.Free bases ++ rest)) ≡ bases
freed_bases-take [] rest = refl
freed_bases-take (base ∷ bases) rest = ap (λ (others : List ℕ). base ∷ others) (freed_bases-take bases rest)

-- a phase is read back as what it frees
pub phases_in-phase_lines : (what : Phase) (a : State) (bases : List ℕ) (rest : List Line)
    → phases_in (phase_lines what a bases ++ rest) ≡ bases ∷ phases_in rest
phases_in-phase_lines what a bases rest =
    read-phase phases_in (λ _ _ _ _. refl) what a bases rest
    ∙ ap (λ (freed : List ℕ). freed ∷ phases_in (map lines.Free bases ++ rest)) (freed_bases-take bases rest)
    ∙ ap (λ (later : List (List ℕ)). bases ∷ later)
    (read-frees phases_in (λ _ _ _ _. refl) (λ _ _. refl) bases rest)

-- a phase scans nothing
pub scanned_bases-phase_lines : (what : Phase) (a : State) (bases : List ℕ) (rest : List Line)
    → scanned_bases (phase_lines what a bases ++ rest) ≡ scanned_bases rest
scanned_bases-phase_lines = over-phase scanned_bases (λ _ _ _ _. refl) (λ _ _. refl) (λ _ _ _. refl)

freed_bases-frees : (bases : List ℕ) (rest : List Line)
    → freed_bases (map lines.Free bases ++ rest) ≡ bases ++ freed_bases rest
freed_bases-frees [] rest = refl
freed_bases-frees (base ∷ bases) rest = ap (λ (others : List ℕ). base ∷ others) (freed_bases-frees bases rest)

-- its lines tell what it frees
pub freed_bases-phase_lines : (what : Phase) (a : State) (bases : List ℕ) (rest : List Line)
    → freed_bases (phase_lines what a bases ++ rest) ≡ bases ++ freed_bases rest
freed_bases-phase_lines what a bases rest =
    read-phase freed_bases (λ _ _ _ _. refl) what a bases rest ∙ freed_bases-frees bases rest

pub freed_bases-append : (log rest : List Line) → freed_bases (log ++ rest) ≡ freed_bases log ++ freed_bases rest
freed_bases-append [] rest = refl
freed_bases-append (lines.Free base ∷ log) rest = ap (λ (others : List ℕ). base ∷ others) (freed_bases-append log rest)
freed_bases-append (lines.Scan base slots ∷ log) rest = freed_bases-append log rest
freed_bases-append (lines.Final base slots total ∷ log) rest = freed_bases-append log rest
freed_bases-append (lines.Phase what count ∷ log) rest = freed_bases-append log rest
freed_bases-append (lines.Reply reply ∷ log) rest = freed_bases-append log rest
freed_bases-append (lines.Total totals ∷ log) rest = freed_bases-append log rest
