-- Scans one after the other, and when they are enough.
use Rattle.std.proofs.Common.{◌≡◌, ℕ, ◌+◌, ◌-◌, ◌<◌, ◌≤◌, List, [], ◌∷◌, ◌++◌, take, length, sum, refl, sym, ap, ◌∙◌}
use Rattle.std.proofs.Common.{subst, arith}
use Rattle.std.proofs.Math.Seq.{take-append_seam}
use Rattle.std.proofs.lemmas.List.{length-append, length-map}
use Rattle.std.proofs.lemmas.List.Sums.{sum_by-append, sum_by-cons}
use Rattle.mm_model.specs.declared.line.Line.{Line}
use Rattle.mm_model.specs.declared.line.Line.TheVariants as lines
use Rattle.mm_model.specs.Sets.Scan.{cost, costs}
use Rattle.mm_model.specs.Views.ByBase.{Based}
use Rattle.mm_model.specs.Views.ObjectView.{ObjectView}
use Rattle.mm_model.specs.Views.View.{View}
use Rattle.mm_model.specs.Views.ViewStep.{view_part_slots, view_part_done, ViewMayScan, ViewScansAll, ViewIsEnough}
use Rattle.mm_model.specs.Views.ViewStep.{NoGray}

-- one more part
pub scans-push : (view left : View) (os : List (Based ObjectView)) (o : Based ObjectView) (log : List Line)
    → ViewScansAll view os log left → ViewMayScan left o
    → ViewScansAll view (os ++ o ∷ []) (log ++ lines.Scan o.base (length (view_part_slots left o)) ∷ [])
    (view_part_done left o)
scans-push view left [] o log h may =
    subst (λ now. ViewScansAll view (o ∷ []) (log ++ lines.Scan o.base (length (view_part_slots now o)) ∷ [])
    (view_part_done now o))
    (sym h.1) (
      [],
      subst (λ now. ViewMayScan now o) h.1 may,
      ap (λ (l : List Line). l ++ lines.Scan o.base (length (view_part_slots view o)) ∷ []) h.0,
      (refl, refl),
    )
scans-push view left (p ∷ os) o log h may =
    let line = lines.Scan o.base (length (view_part_slots left o)) in (
      h.0 ++ line ∷ [],
      h.1,
      ap (λ (l : List Line). l ++ line ∷ []) h.2,
      scans-push (view_part_done view p) left os o h.0 h.3 may,
    )

costs-push : (log : List Line) (base slots : ℕ)
    → costs (log ++ lines.Scan base slots ∷ []) ≡ costs log ++ (1 + slots) ∷ []
costs-push [] base slots = refl
costs-push (line ∷ log) base slots = ap (λ ns. cost line ∷ ns) (costs-push log base slots)

sum-push : (ns : List ℕ) (n : ℕ) → sum (ns ++ n ∷ []) ≡ sum ns + n
sum-push ns n =
    let both = sum_by-append (λ (m : ℕ). m) ns (n ∷ []) in
    let one = sum_by-cons (λ (m : ℕ). m) n [] in
    omega (arith, both, one)

take-before : (ns : List ℕ) (n : ℕ) → take (length (ns ++ n ∷ []) - 1) (ns ++ n ∷ []) ≡ ns
take-before ns n =
    let all = length-append ns (n ∷ []) in
    let less : length (ns ++ n ∷ []) - 1 ≡ length ns = omega arith in
    ap (λ m. take m (ns ++ n ∷ [])) less ∙ take-append_seam ns (n ∷ [])

-- the costs so far, with a part of so many slots
pub cost-push : (log : List Line) (base slots : ℕ)
    → sum (costs (log ++ lines.Scan base slots ∷ [])) ≡ sum (costs log) + (1 + slots)
cost-push log base slots = ap sum (costs-push log base slots) ∙ sum-push (costs log) (1 + slots)

-- the costs but for the last
pub last-below : (k : ℕ) (log : List Line) (base slots : ℕ) → sum (costs log) < k
    → sum (take (length (log ++ lines.Scan base slots ∷ []) - 1) (costs (log ++ lines.Scan base slots ∷ []))) < k
last-below k log base slots below =
    let line = lines.Scan base slots in
    let same : length (log ++ line ∷ []) ≡ length (costs log ++ (1 + slots) ∷ []) =
    sym (length-map (log ++ line ∷ []) cost) ∙ ap length (costs-push log base slots) in
    let last : take (length (log ++ line ∷ []) - 1) (costs (log ++ line ∷ [])) ≡ costs log =
    ap (λ n. take (n - 1) (costs (log ++ line ∷ []))) same
    ∙ ap (λ ns. take (length (costs log ++ (1 + slots) ∷ []) - 1) ns) (costs-push log base slots)
    ∙ take-before (costs log) (1 + slots) in
    subst (λ ns. sum ns < k) (sym last) below

-- The last part reaches what was asked.
pub enough-reached : (k : ℕ) (log : List Line) (base slots : ℕ) (left : View) → sum (costs log) < k
    → k ≤ sum (costs log) + (1 + slots) → ViewIsEnough k (log ++ lines.Scan base slots ∷ []) left
enough-reached k log base slots left below reaches =
    let total = cost-push log base slots in
    ViewIsEnough.Cost_reached (omega (arith, total)) (last-below k log base slots below)

-- nothing is gray any more
pub enough-drained : (k : ℕ) (log : List Line) (left : View) → sum (costs log) < k → NoGray left
    → ViewIsEnough k log left
enough-drained k log left below none = ViewIsEnough.Nothing_left below none
