-- What is kept of finalizers follows one call after another.
use Rattle.std.specs.Prelude.{◌≡◌, Bool, true, false, List, [], ◌∷◌, ◌++◌}
use Rattle.std.proofs.Common.{refl, sym, ap, ◌∙◌}
use Rattle.std.proofs.lemmas.List.{append-nil, append_assoc}
use Rattle.mm_sweep.specs.Told.{Told, Finalize, PhaseOf, Free, Scan}
use Rattle.mm_c.specs.declared.finals.MmFinal.{MmFinal}
use Rattle.mm_c.specs.Finals.{Waiting, Keeps, final_of, finals_of, is_lost}

pub lost-nothing : (before : Bool) → is_lost before [] ≡ before
lost-nothing true = refl
lost-nothing false = refl

pub lost-some : (before : Bool) (one : MmFinal) (more : List MmFinal) → is_lost before (one ∷ more) ≡ true
lost-some true one more = refl
lost-some false one more = refl

finals_of-append : (earlier later : List Told) → finals_of (earlier ++ later) ≡ finals_of earlier ++ finals_of later
finals_of-append [] later = refl
finals_of-append (Finalize base words ∷ told) later =
    ap (λ (finals : List MmFinal). final_of base words ∷ finals) (finals_of-append told later)
finals_of-append (PhaseOf what freed ∷ told) later = finals_of-append told later
finals_of-append (Free base ∷ told) later = finals_of-append told later
finals_of-append (Scan base slots ∷ told) later = finals_of-append told later

-- where nothing was lost at first
after-all : (first next last : Waiting) (earlier later : List Told) (a : Keeps first next earlier)
    → Keeps next last later → a.lost ≡ [] → Keeps first last (earlier ++ later)
after-all first next last earlier later a b e =
    let same : next.lost ≡ first.lost =
    a.lost_is ∙ ap (λ (lost : List MmFinal). is_lost first.lost lost) e ∙ lost-nothing first.lost in
    let all : a.kept ≡ finals_of earlier =
    sym (append-nil a.kept) ∙ ap (λ (lost : List MmFinal). a.kept ++ lost) (sym e) ∙ a.all_are in
    record {
      kept = a.kept ++ b.kept;
      lost = b.lost;
      all_are = append_assoc a.kept b.kept b.lost ∙ ap (λ (finals : List MmFinal). a.kept ++ finals) b.all_are
          ∙ ap (λ (finals : List MmFinal). finals ++ finals_of later) all ∙ sym (finals_of-append earlier later);
      records_are = b.records_are ∙ ap (λ (records : List MmFinal). records ++ b.kept) a.records_are
          ∙ append_assoc first.records a.kept b.kept;
      lost_is = b.lost_is ∙ ap (λ (before : Bool). is_lost before b.lost) same;
      none_after = λ lost. ap (λ (kept : List MmFinal). kept ++ b.kept) (a.none_after lost)
          ∙ b.none_after (same ∙ lost);
    }

-- where some were
after-some : (first next last : Waiting) (earlier later : List Told) (a : Keeps first next earlier)
    → Keeps next last later → (one : MmFinal) (more : List MmFinal) → a.lost ≡ one ∷ more
    → Keeps first last (earlier ++ later)
after-some first next last earlier later a b one more e =
    let lost : next.lost ≡ true =
    a.lost_is ∙ ap (λ (lost : List MmFinal). is_lost first.lost lost) e ∙ lost-some first.lost one more in
    let none : b.kept ≡ [] = b.none_after lost in
    let all : b.lost ≡ finals_of later = sym (ap (λ (kept : List MmFinal). kept ++ b.lost) none) ∙ b.all_are in
    record {
      kept = a.kept;
      lost = (one ∷ more) ++ b.lost;
      all_are = ap (λ (lost : List MmFinal). a.kept ++ (lost ++ b.lost)) (sym e)
          ∙ sym (append_assoc a.kept a.lost b.lost) ∙ ap (λ (finals : List MmFinal). finals ++ b.lost) a.all_are
          ∙ ap (λ (finals : List MmFinal). finals_of earlier ++ finals) all ∙ sym (finals_of-append earlier later);
      records_are = b.records_are ∙ ap (λ (kept : List MmFinal). next.records ++ kept) none
          ∙ append-nil next.records ∙ a.records_are;
      lost_is = b.lost_is ∙ ap (λ (before : Bool). is_lost before b.lost) lost
          ∙ sym (lost-some first.lost one (more ++ b.lost));
      none_after = a.none_after;
    }

after : (first next last : Waiting) (earlier later : List Told) (a : Keeps first next earlier)
    → Keeps next last later → (lost : List MmFinal) → a.lost ≡ lost → Keeps first last (earlier ++ later)
after first next last earlier later a b [] e = after-all first next last earlier later a b e
after first next last earlier later a b (one ∷ more) e =
    after-some first next last earlier later a b one more e

pub keeps_on : (first next last : Waiting) (earlier later : List Told) → Keeps first next earlier
    → Keeps next last later → Keeps first last (earlier ++ later)
keeps_on first next last earlier later a b = after first next last earlier later a b a.lost refl

pub keeps_nothing : (waiting : Waiting) → Keeps waiting waiting []
keeps_nothing waiting =
    record {
      kept = [];
      lost = [];
      all_are = refl;
      records_are = sym (append-nil waiting.records);
      lost_is = sym (lost-nothing waiting.lost);
      none_after = λ _. refl;
    }
