-- One object more is followed.
use Rattle.std.proofs.Common.{◌≡◌, ℕ, zero, suc, ◌+◌, ◌*◌, ◌<◌, List, [], ◌∷◌, ◌++◌, length, take, Option, Some}
use Rattle.std.proofs.Common.{inl, inr, sym, ap, subst, ◌∙◌, arith, length-append}
use Rattle.std.specs.Prelude.{slice_get}
use Rattle.std.proofs.lemmas.Bool.{cases_eq}
use Rattle.std.proofs.lemmas.List.{take-append-le}
use Rattle.std.proofs.lemmas.Option.{slice_get_within}
use Rattle.mm_model.specs.Views.ByBase.{Begins}
use Rattle.mm_model.specs.Views.ObjectView.{ObjectView, ObjectsByBase, scanned_words_of}
use Rattle.mm_why.specs.declared.found.Found.{Found}
use Rattle.mm_why.specs.Queue.{Queue, AreShort, IsSoundQueue, IsGrown}
use Rattle.mm_why.specs.Search.{AreWordsFound, AreFollowed, slots_at, cost_of}
use Rattle.mm_why.proofs.Noted.{found-grown, grown-get}
use Rattle.mm_why.proofs.Costs.{cost-more}

-- what stands in front of what grew was there before
grown-was : (before after : List Found) (i : ℕ) (entry : Found) → IsGrown before after → i < length before
    → slice_get after i ≡ Some entry → slice_get before i ≡ Some entry
grown-was before after i entry grown low h =
    front before i low (sym (ap (λ (xs : List Found). slice_get xs i) grown.is) ∙ h)
  where
    front : (zs : List Found) (k : ℕ) → k < length zs → slice_get (zs ++ grown.more) k ≡ Some entry
        → slice_get zs k ≡ Some entry
    front [] k low e = absurd (omega arith)
    front (z ∷ zs) zero low e = e
    front (z ∷ zs) (suc k) low e = front zs k (omega arith) e

pub none-followed : (objects : ObjectsByBase) (found : List Found) → AreShort found 1 → AreFollowed objects found 0
none-followed objects found short = record {
  within = omega arith;
  slots = λ i entry holder low h begins. absurd (omega arith);
  level = λ entry h i other is. let one = short i other is in omega arith;
}

pub one-followed : (objects : ObjectsByBase) (before : List Found) (q : Queue) (next : ℕ) (by : Found)
    → AreFollowed objects before next → slice_get before next ≡ Some by → IsGrown before q.found → IsSoundQueue q
    → ((holder : ObjectView) → Begins objects by.base holder
    → AreWordsFound objects q.found (scanned_words_of holder) (by.lead.length + 1))
    → AreShort q.found (by.lead.length + 1) → AreFollowed objects q.found (next + 1)
one-followed objects before q next by old is grown sound own short = record {
  within =
      let inside = slice_get_within before next by is in
      let size = ap length grown.is ∙ length-append before grown.more in
      omega arith;
  slots = λ i entry holder low h begins. elim (cases_eq i next) [
    | inl e ↦
        let same : ◌≡◌ {A = Option Found} (Some entry) (Some by) =
        sym h ∙ ap (slice_get q.found) e ∙ grown-get before q.found next by grown is in
        let one : by ≡ entry = cc in
        subst (λ (f : Found). AreWordsFound objects q.found (scanned_words_of holder) (f.lead.length + 1)) one
        (own holder (subst (λ (f : Found). Begins objects f.base holder) (sym one) begins))
    | inr ne ↦
        let inside = slice_get_within before next by is in
        let below : i < next = omega arith in
        let was = grown-was before q.found i entry grown (omega arith) h in
        found-grown objects before q.found (scanned_words_of holder) (entry.lead.length + 1) grown
        (old.slots i entry holder below was begins)
  ];
  level = λ entry h i other there.
      let order = sound.ordered next (next + 1) by entry (omega arith) (grown-get before q.found next by grown is) h in
      let bound = short i other there in
      omega arith;
}

take-next : (xs : List Found) (i : ℕ) (x : Found) → slice_get xs i ≡ Some x → take (i + 1) xs ≡ take i xs ++ x ∷ []
take-next [] i x e = cc
take-next (y ∷ ys) zero x e = let same : y ≡ x = cc in ap (λ (z : Found). z ∷ []) same
take-next (y ∷ ys) (suc i) x e =
    let next : suc i + 1 ≡ suc (i + 1) = omega arith in
    ap (λ (n : ℕ). take n (y ∷ ys)) next ∙ ap (λ (zs : List Found). y ∷ zs) (take-next ys i x e)

pub cost-followed : (objects : ObjectsByBase) (before after : List Found) (next : ℕ) (by : Found)
    → slice_get before next ≡ Some by → IsGrown before after
    → cost_of objects (take (next + 1) after) ≡ cost_of objects (take next before) + (1 + 2 * slots_at objects by.base)
cost-followed objects before after next by is grown =
    let inside = slice_get_within before next by is in
    ap (λ (xs : List Found). cost_of objects (take (next + 1) xs)) grown.is
    ∙ ap (cost_of objects) (take-append-le (next + 1) before grown.more (omega arith) ∙ take-next before next by is)
    ∙ cost-more objects (take next before) by
