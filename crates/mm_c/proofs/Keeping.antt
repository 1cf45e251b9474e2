-- What is kept of one finalizer, and what is handed out.
use Rattle.std.proofs.Common.{◌≡◌, ℕ, ◌+◌, ◌<◌, ◌≤◌, Bool, false, List, [], ◌∷◌, ◌++◌, length, refl, sym, ap, ◌∙◌}
use Rattle.std.proofs.Common.{⊎_elim, subst, get_or, suc, arith}
use Rattle.std.specs.Prelude.{drop, Some, None, slice_get, Result, Ok, Err, is_ok, is_err, if◌then◌else◌}
use Rattle.std.proofs.Math.Seq.{drop-cons}
use Rattle.std.proofs.lemmas.Bool.{false≢true}
use Rattle.std.proofs.lemmas.List.{append-nil, drop-append-le, drop_all}
use Rattle.std.proofs.lemmas.Option.{slice_get_within, slice_get_cases, get_or_from_slice_get}
use Rattle.mm_sweep.specs.Told.{Finalize}
use Rattle.mm_c.specs.declared.finals.MmFinal.{MmFinal}
use Rattle.mm_c.specs.declared.status.Status.{Status}
use Rattle.mm_c.specs.Finals.{Waiting, Keeps, IsTaken, Took_none, final_of, status_at_end}
use Rattle.mm_c.specs.Following.{lost-nothing, lost-some}

-- the records that wait behind those that were handed out
abbrev pub waiting : List MmFinal → ℕ → Bool → Waiting
waiting items told lost = record { records = drop told items; lost = lost }

-- a record is put behind the others, where there is memory
pub record IsPushed (before : Waiting) (items : List MmFinal) (told : ℕ) (one : MmFinal) : Type 0 where
  pub before_is : before.records ≡ drop told items
  pub none_lost : before.lost ≡ false
  pub within : told ≤ length items

pub keeps-one : {X Y : Type 0} (before : Waiting) (items left : List MmFinal) (told base : ℕ) (words : List ℕ)
    (one : MmFinal) (pushed : Result X Y) (lost : Bool) → IsPushed before items told one → one ≡ final_of base words
    → left ≡ (if is_ok pushed then items ++ one ∷ [] else items) → lost ≡ is_err pushed
    → Keeps before (waiting left told lost) (Finalize base words ∷ [])
keeps-one before items left told base words one (Ok x) lost is one_is left_is lost_is =
    record {
      kept = final_of base words ∷ [];
      lost = [];
      all_are = refl;
      records_are = ap (drop told) left_is ∙ drop-append-le told items (one ∷ []) is.within
          ∙ ap (λ (it : MmFinal). drop told items ++ it ∷ []) one_is
          ∙ ap (λ (records : List MmFinal). records ++ final_of base words ∷ []) (sym is.before_is);
      lost_is = lost_is ∙ sym is.none_lost ∙ sym (lost-nothing before.lost);
      none_after = λ e. absurd (false≢true (sym is.none_lost ∙ e));
    }
keeps-one before items left told base words one (Err y) lost is one_is left_is lost_is =
    record {
      kept = [];
      lost = final_of base words ∷ [];
      all_are = refl;
      records_are = ap (drop told) left_is ∙ sym is.before_is ∙ sym (append-nil before.records);
      lost_is = lost_is ∙ sym (lost-some before.lost (final_of base words) []);
      none_after = λ _. refl;
    }

pub drop-next : (items : List MmFinal) (i : ℕ) (next : MmFinal) → slice_get items i ≡ Some next
    → drop i items ≡ next ∷ drop (i + 1) items
drop-next items i next e =
    let more : suc i ≡ i + 1 = omega arith in
    drop-cons items i next (slice_get_within items i next e)
    ∙ ap (λ (j : ℕ). get_or items i next ∷ drop j items) more
    ∙ ap (λ (it : MmFinal). it ∷ drop (i + 1) items) (get_or_from_slice_get items i next next e)

pub drop-none : (items : List MmFinal) (i : ℕ) → slice_get items i ≡ None → drop i items ≡ []
drop-none items i e =
    ⊎_elim
    (λ (within : (it : MmFinal) × (i < length items) × (slice_get items i ≡ Some it) × (get_or items i it ≡ it)).
    let other = within.2 in cc)
    (λ (past : (length items ≤ i) × (slice_get items i ≡ None)). drop_all i items past.0)
    (slice_get_cases items i).1

pub takes-none : (before : Waiting) (left : List MmFinal) (lost : Bool) (status : Status) → before.records ≡ []
    → before.lost ≡ lost → left ≡ [] → status ≡ status_at_end lost
    → IsTaken before (waiting left 0 false) (Err status)
takes-none before left lost status none lost_is left_is status_is =
    subst (λ (it : Status). IsTaken before (waiting left 0 false) (Err it)) (sym status_is)
    (Took_none lost (λ i. record { records = none i; lost = lost_is i })
    (ap (λ (items : List MmFinal). waiting items 0 false) left_is))
