-- What one more turn does to the turns since a cycle began or ended, and to the last `begin`.
use Rattle.std.proofs.Common.{◌≡◌, ℕ, ◌+◌, Bool, true, false, cond, List, [], ◌∷◌, ◌++◌, Some, refl, sym, ap}
use Rattle.std.proofs.Common.{◌∙◌, zero-add}
use Rattle.std.specs.Prelude.{◌||◌, reverse}
use Rattle.std.specs.List.{list_any, find, sum_by}
use Rattle.std.specs.Option.{option_map_or}
use Rattle.std.proofs.lemmas.List.{reverse-append, append-nil}
use Rattle.std.proofs.lemmas.List.Folds.{list_any-append}
use Rattle.std.proofs.lemmas.List.Sums.{sum_by-append}
use Rattle.std.proofs.lemmas.Grind.{flat_map-append}
use Rattle.mm_model.specs.Logs.Turns.{Turn, births_of, births_in, begins}
use Rattle.mm_pace.specs.Work.{work_of}
use Rattle.mm_pace.specs.Recent.{extent_born, changes_cycle, recent, since, work_begun}

any-more : (test : Turn → Bool) (turns : List Turn) (turn : Turn)
    → list_any test (turns ++ turn ∷ []) ≡ (list_any test turns || (test turn || false))
any-more test turns turn = list_any-append test turns (turn ∷ [])

pub recent-more : (turns : List Turn) (turn : Turn)
    → recent (turns ++ turn ∷ []) ≡ cond (changes_cycle turn) (turn ∷ []) (recent turns ++ turn ∷ [])
recent-more [] turn = split (changes_cycle turn)
  where
    split : (c : Bool) → turn ∷ [] ≡ cond c (turn ∷ []) (turn ∷ [])
    split true = refl
    split false = refl
recent-more (x ∷ turns) turn =
    ap (λ c. cond c (recent (turns ++ turn ∷ [])) (x ∷ turns ++ turn ∷ [])) (any-more changes_cycle turns turn)
    ∙ ap (λ rest. cond (list_any changes_cycle turns || (changes_cycle turn || false)) rest (x ∷ turns ++ turn ∷ []))
    (recent-more turns turn)
    ∙ split (list_any changes_cycle turns) (changes_cycle turn)
  where
    split : (any here : Bool)
        → cond (any || (here || false)) (cond here (turn ∷ []) (recent turns ++ turn ∷ [])) (x ∷ turns ++ turn ∷ [])
        ≡ cond here (turn ∷ []) (cond any (recent turns) (x ∷ turns) ++ turn ∷ [])
    split true true = refl
    split true false = refl
    split false true = refl
    split false false = refl

-- the bytes born in a turn
abbrev pub bytes_in : Turn → ℕ
bytes_in turn = sum_by extent_born (births_of turn)

bytes-more : (turns : List Turn) (turn : Turn)
    → sum_by extent_born (births_in (turns ++ turn ∷ [])) ≡ sum_by extent_born (births_in turns) + bytes_in turn
bytes-more turns turn =
    ap (sum_by extent_born) (flat_map-append births_of turns (turn ∷ []))
    ∙ sum_by-append extent_born (births_in turns) (births_of turn ++ [])
    ∙ ap (λ births. sum_by extent_born (births_in turns) + sum_by extent_born births) (append-nil (births_of turn))

-- Bytes are counted on, from 0 where a cycle begins or ends in the turn.
pub since-more : (turns : List Turn) (turn : Turn)
    → since (turns ++ turn ∷ []) ≡ cond (changes_cycle turn) 0 (since turns) + bytes_in turn
since-more turns turn =
    ap (λ rest. sum_by extent_born (births_in rest)) (recent-more turns turn) ∙ split (changes_cycle turn)
  where
    split : (c : Bool) → sum_by extent_born (births_in (cond c (turn ∷ []) (recent turns ++ turn ∷ [])))
        ≡ cond c 0 (since turns) + bytes_in turn
    split true = ap (sum_by extent_born) (append-nil (births_of turn)) ∙ sym (zero-add (bytes_in turn))
    split false = bytes-more (recent turns) turn

pub work_begun-more : (turns : List Turn) (turn : Turn)
    → work_begun (turns ++ turn ∷ []) ≡ cond (begins turn) (work_of turn.before) (work_begun turns)
work_begun-more turns turn =
    ap (λ back. option_map_or (λ (t : Turn). work_of t.before) (find begins back) 0)
    (reverse-append turns (turn ∷ []))
    ∙ split (begins turn)
  where
    split : (c : Bool)
        → option_map_or (λ (t : Turn). work_of t.before) (cond c (Some turn) (find begins (reverse turns))) 0
        ≡ cond c (work_of turn.before) (work_begun turns)
    split true = refl
    split false = refl
