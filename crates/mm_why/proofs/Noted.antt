-- What a search knows once one more word is noted.
use Rattle.std.proofs.Common.{◌≡◌, ℕ, ◌+◌, ◌<◌, ◌≤◌, List, [], ◌∷◌, ◌++◌, length, take, Option, Some, inl, inr}
use Rattle.std.proofs.Common.{sym, ap, subst, ◌∙◌, arith, append_assoc, append-nil}
use Rattle.std.specs.Prelude.{slice_get, slice_index}
use Rattle.std.proofs.Math.Seq.{take-append_seam}
use Rattle.std.proofs.lemmas.Bool.{cases_eq}
use Rattle.std.proofs.lemmas.List.{take-append-le, take_all}
use Rattle.std.proofs.lemmas.Option.{slice_get_within, slice_get-get_or}
use Rattle.mm_model.specs.Views.ByBase.{Begins}
use Rattle.mm_model.specs.Views.ObjectView.{ObjectsByBase}
use Rattle.mm_model.proofs.Lists.Growing.{get-front, get-push, get-last}
use Rattle.mm_model.proofs.Lists.Fronts.{get-take, get-take_within}
use Rattle.mm_why.specs.declared.found.Lead.{Lead}
use Rattle.mm_why.specs.declared.found.Found.{Found}
use Rattle.mm_why.specs.Path.{Shown, FallsIn}
use Rattle.mm_why.specs.Queue.{AreShort, IsGrown}
use Rattle.mm_why.specs.Search.{IsLead, IsReason, HaveReasons, AreLive, IsNoted, IsFoundWithin, AreWordsFound}

-- a word that is read of a list
pub get-index : (words : List ℕ) (i word : ℕ) → i < length words → word ≡ slice_index words i
    → slice_get words i ≡ Some word
get-index words i word below is = slice_get-get_or words i 0 below ∙ ap Some (sym is)

-- nothing is lost where a list grows
pub grown-same : (found : List Found) → IsGrown found found
grown-same found = record { more = []; is = sym (append-nil found) }

pub grown-then : (first second third : List Found) → IsGrown first second → IsGrown second third → IsGrown first third
grown-then first second third one two = record {
  more = one.more ++ two.more;
  is = two.is ∙ ap (λ (xs : List Found). xs ++ two.more) one.is ∙ append_assoc first one.more two.more;
}

pub grown-get : (before after : List Found) (i : ℕ) (entry : Found) → IsGrown before after
    → slice_get before i ≡ Some entry → slice_get after i ≡ Some entry
grown-get before after i entry grown h =
    ap (λ (xs : List Found). slice_get xs i) grown.is ∙ get-front before grown.more i entry h

pub found-grown : (objects : ObjectsByBase) (before after : List Found) (words : List ℕ) (most : ℕ)
    → IsGrown before after → AreWordsFound objects before words most → AreWordsFound objects after words most
found-grown objects before after words most grown found k word base h falls =
    let at = found k word base h falls in
    record {
      place = at.place;
      entry = at.entry;
      is = grown-get before after at.place at.entry grown at.is;
      at = at.at;
      short = at.short;
    }

-- no words name nothing
pub none-found : (objects : ObjectsByBase) (found : List Found) (most : ℕ) → AreWordsFound objects found [] most
none-found objects found most k word base h falls = cc

module _ (objects : ObjectsByBase) (before after : List Found) (word : ℕ) (lead : Lead)
    (noted : IsNoted objects before after word lead) where
  pub noted-grown : IsGrown before after
  noted-grown = go noted
    where
      go : IsNoted objects before after word lead → IsGrown before after
      go (IsNoted.Falls_in_none none same) = record { more = []; is = same ∙ sym (append-nil before) }
      go (IsNoted.Was_found base only found same) = record { more = []; is = same ∙ sym (append-nil before) }
      go (IsNoted.Is_new base only falls new) =
          record { more = record { lead = lead; base = base } ∷ []; is = new }

  pub noted-short : (most : ℕ) → AreShort before most → lead.length ≤ most → AreShort after most
  noted-short most short within = go noted
    where
      go : IsNoted objects before after word lead → AreShort after most
      go (IsNoted.Falls_in_none none same) = subst (λ (xs : List Found). AreShort xs most) (sym same) short
      go (IsNoted.Was_found base only found same) = subst (λ (xs : List Found). AreShort xs most) (sym same) short
      go (IsNoted.Is_new base only falls new) = λ i entry h.
          elim (get-push before (record { lead = lead; base = base }) i entry
          (sym (ap (λ (xs : List Found). slice_get xs i) new) ∙ h)) [
            | inl old ↦ short i entry old
            | inr last ↦ let same = ap (λ (f : Found). f.lead.length) last.1 in omega arith
          ]

  pub noted-live : AreLive objects before → AreLive objects after
  noted-live live = go noted
    where
      go : IsNoted objects before after word lead → AreLive objects after
      go (IsNoted.Falls_in_none none same) = subst (AreLive objects) (sym same) live
      go (IsNoted.Was_found base only found same) = subst (AreLive objects) (sym same) live
      go (IsNoted.Is_new base only falls new) = λ i entry h.
          elim (get-push before (record { lead = lead; base = base }) i entry
          (sym (ap (λ (xs : List Found). slice_get xs i) new) ∙ h)) [
            | inl old ↦ live i entry old
            | inr last ↦ (
              falls.object,
              subst (λ (f : Found). Begins objects f.base falls.object) last.1 falls.begins,
            )
          ]

  -- what the word falls in is found, with a path of at most this length
  pub noted-found : (most : ℕ) → AreShort before most → lead.length ≤ most → (base : ℕ) → FallsIn objects word base
      → IsFoundWithin after base most
  noted-found most short within base falls = go noted
    where
      go : IsNoted objects before after word lead → IsFoundWithin after base most
      go (IsNoted.Falls_in_none none same) = absurd (none base falls)
      go (IsNoted.Was_found one only found same) = record {
        place = found.place;
        entry = found.entry;
        is = ap (λ (xs : List Found). slice_get xs found.place) same ∙ found.is;
        at = found.at ∙ sym (only base falls);
        short = short found.place found.entry found.is;
      }
      go (IsNoted.Is_new one only own new) = record {
        place = length before;
        entry = record { lead = lead; base = one };
        is = ap (λ (xs : List Found). slice_get xs (length before)) new
            ∙ get-last before (record { lead = lead; base = one });
        at = sym (only base falls);
        short = within;
      }

  -- one word more
  pub noted-words : (words : List ℕ) (i most : ℕ) → AreShort before most → lead.length ≤ most
      → slice_get words i ≡ Some word → AreWordsFound objects before (take i words) most
      → AreWordsFound objects after (take (i + 1) words) most
  noted-words words i most short within is found k other base h falls =
      let below : k < i + 1 = get-take_within (i + 1) k words other h in
      let there = sym (get-take (i + 1) k words below) ∙ h in
      elim (cases_eq k i) [
        | inl e ↦
            let same : ◌≡◌ {A = Option ℕ} (Some other) (Some word) = sym there ∙ ap (slice_get words) e ∙ is in
            let one : other ≡ word = cc in
            noted-found most short within base (subst (λ (w : ℕ). FallsIn objects w base) one falls)
        | inr ne ↦
            let low : k < i = omega arith in
            found-grown objects before after (take i words) most noted-grown found k other base
            (get-take i k words low ∙ there) falls
      ]

-- each object is found for a reason
pub noted-reasons : (shown : Shown) (before after : List Found) (word : ℕ) (lead : Lead)
    → IsNoted shown.objects before after word lead → IsLead shown before lead word → HaveReasons shown before
    → HaveReasons shown after
noted-reasons shown before after word lead noted own reasons = go noted
  where
    go : IsNoted shown.objects before after word lead → HaveReasons shown after
    go (IsNoted.Falls_in_none none same) = subst (HaveReasons shown) (sym same) reasons
    go (IsNoted.Was_found base only found same) = subst (HaveReasons shown) (sym same) reasons
    go (IsNoted.Is_new base only falls new) = subst (HaveReasons shown) (sym new) longer
      where
        entry : Found
        entry = record { lead = lead; base = base }

        reason : IsReason shown before entry
        reason = record { word = word; lead = own; falls = falls }

        longer : HaveReasons shown (before ++ entry ∷ [])
        longer i x h = elim (get-push before entry i x h) [
          | inl old ↦
              let below = slice_get_within before i x old in
              subst (λ (front : List Found). IsReason shown front x)
              (sym (take-append-le i before (entry ∷ []) (omega arith))) (reasons i x old)
          | inr last ↦
              let front : before ≡ take i (before ++ entry ∷ []) =
              sym (ap (λ (n : ℕ). take n (before ++ entry ∷ [])) last.0 ∙ take-append_seam before (entry ∷ [])) in
              subst (λ (xs : List Found). IsReason shown xs x) front
              (subst (λ (e : Found). IsReason shown before e) last.1 reason)
        ]

pub no-reasons : (shown : Shown) (found : List Found) → found ≡ [] → HaveReasons shown found
no-reasons shown found none i entry h =
    let no : slice_get [] i ≡ Some entry = sym (ap (λ (xs : List Found). slice_get xs i) none) ∙ h in cc

pub none-short : (found : List Found) (most : ℕ) → found ≡ [] → AreShort found most
none-short found most none i entry h =
    let no : slice_get [] i ≡ Some entry = sym (ap (λ (xs : List Found). slice_get xs i) none) ∙ h in cc

pub reasons-live : (shown : Shown) (found : List Found) → HaveReasons shown found → AreLive shown.objects found
reasons-live shown found reasons i entry h =
    let r = reasons i entry h in (r.falls.object, r.falls.begins)

-- all words were noted
pub whole-found : (objects : ObjectsByBase) (found : List Found) (words : List ℕ) (i most : ℕ) → length words ≤ i
    → AreWordsFound objects found (take i words) most → AreWordsFound objects found words most
whole-found objects found words i most all h =
    subst (λ (ws : List ℕ). AreWordsFound objects found ws most) (take_all i words all) h
