-- What words resolve to among objects by base, and among those that are kept.
use Rattle.std.proofs.Common.{◌≡◌, ℕ, ◌+◌, ◌*◌, ◌/◌, ◌%◌, ◌<◌, ◌≤◌, Bool, true, List, length, Option, Some, None}
use Rattle.std.proofs.Common.{eqb-true, refl, sym, ap, ◌∙◌, subst, arith}
use Rattle.std.specs.Prelude.{slice_get, ◌==◌}
use Rattle.std.specs.List.{find}
use Rattle.std.specs.Option.{option_map}
use Rattle.std.proofs.lemmas.Bool.{eq-eqb}
use Rattle.std.proofs.lemmas.Option.{slice_get_within}
use Rattle.mm_model.specs.Words.{falls}
use Rattle.mm_model.specs.Views.ByBase.{Begins, Based, based}
use Rattle.mm_model.specs.Views.ObjectView.{ObjectView, ObjectsByBase}
use Rattle.mm_model.specs.Views.ViewWords.{object_at, resolved_in}
use Rattle.mm_model.proofs.Lists.Growing.{find-Some, find-only}
use Rattle.mm_model.proofs.Places.Falling.{falls_from, falls_within}
use Rattle.mm_model.proofs.View.ByBase.Entries.{based_at, begins_at, begins_same}
use Rattle.mm_audit.specs.declared.header.Header.{Header}
use Rattle.mm_audit.specs.declared.header.Found.{Found}
use Rattle.mm_audit.specs.Objects.{header_of, found_of, object_in, shown, KeepsObjects}
use Rattle.mm_audit.proofs.Changed.{header-shown, inside_same}
use Rattle.mm_audit.proofs.Shown.{begins-kept, kept-begins}

-- what begins at a base that alone passes a test
pub find-begins : {X : Type 0} (test : Based X → Bool) (entries : List (Option X)) (base : ℕ) (x : X)
    → Begins entries base x → test (record { base = base; value = x }) ≡ true
    → ((b : ℕ) (y : X) → Begins entries b y → test (record { base = b; value = y }) ≡ true → b ≡ base)
    → find test (based entries) ≡ Some (record { base = base; value = x })
find-begins {X} test entries base x begins passes only =
    let at = based_at entries base x begins in
    find-only test (based entries) at.0 (record { base = base; value = x }) at.1 passes
    (λ j o is there.
    let own = begins_at entries j o is in
    let same : o.base ≡ base = only o.base o.value own there in
    let value : o.value ≡ x =
    begins_same entries base o.value x (subst (λ b. Begins entries b o.value) same own) begins in
    λ i. record { base = same i; value = value i })

-- what passes a test begins somewhere
pub found-begins : {X : Type 0} (test : Based X → Bool) (entries : List (Option X)) (o : Based X)
    → find test (based entries) ≡ Some o → Begins entries o.base o.value × (test o ≡ true)
found-begins test entries o is =
    let found = find-Some test (based entries) o is in
    (begins_at entries found.place o found.is, found.passes)

pub none_found : {X : Type 0} (found : Option X) → ((x : X) → found ≡ Some x → ⊥) → found ≡ None
none_found None never = refl
none_found (Some x) never = absurd (never x refl)

pub object_at-begins : (objects : ObjectsByBase) (base : ℕ) (object : ObjectView) → Begins objects base object
    → object_at objects base ≡ Some (record { base = base; value = object })
object_at-begins objects base object begins =
    find-begins (λ o. o.base == base) objects base object begins (eq-eqb base base refl)
    (λ b other there passes. eqb-true b base passes)

pub object_at-none : (objects : ObjectsByBase) (base : ℕ)
    → ((object : ObjectView) → Begins objects base object → ⊥) → object_at objects base ≡ None
object_at-none objects base never =
    none_found (object_at objects base)
    (λ o is.
    let found = found-begins (λ (o : Based ObjectView). o.base == base) objects o is in
    let same : o.base ≡ base = eqb-true o.base base found.1 in
    never o.value (subst (λ b. Begins objects b o.value) same found.0))

module _ (entries : List (Option Header)) (begins words : List ℕ) (keeps : KeepsObjects entries begins words) where
  -- a word falls in the object that begins at a grain
  pub record FallsAt (word grain : ℕ) (header : Header) : Type 0 where
    pub is : slice_get entries grain ≡ Some (Some header)
    pub from : 16 * grain ≤ word
    pub to : word < 16 * grain + header.extent

  -- the grain of the word tells where
  pub falls_told : (word grain : ℕ) (header : Header) → FallsAt word grain header
      → slice_get begins (word / 16) ≡ Some grain
  falls_told word grain header at =
      let from = at.from in
      let to = at.to in
      keeps.told grain header at.is (word / 16) (omega arith) (omega arith)

  pub falls_below : (word grain : ℕ) (header : Header) → FallsAt word grain header → word / 16 < length begins
  falls_below word grain header at = slice_get_within begins (word / 16) grain (falls_told word grain header at)

  falls_at : (word base : ℕ) (object : ObjectView) → Begins (shown words entries) base object
      → falls word base object.extent ≡ true
      → (grain : ℕ) × (header : Header) × FallsAt word grain header × (base ≡ 16 * grain)
  falls_at word base object is falls =
      let kept = begins-kept words entries base object is in
      let range = falls_from word base object.extent falls in
      let from = range.0 in
      let to = range.1 in
      let at = kept.at in
      let extent : kept.header.extent ≡ object.extent = ap (λ (o : ObjectView). o.extent) kept.object_is in
      (base / 16, kept.header, record { is = kept.is; from = omega arith; to = omega arith }, at)

  pub resolved-kept : (word grain : ℕ) (header : Header) → FallsAt word grain header
      → resolved_in (shown words entries) word
      ≡ Some (record { base = 16 * grain; value = object_in words grain header })
  resolved-kept word grain header at =
      find-begins (λ o. falls word o.base o.value.extent) (shown words entries) (16 * grain)
      (object_in words grain header) (kept-begins words entries grain header at.is)
      (falls_within word (16 * grain) header.extent at.from at.to)
      (λ b other there passes.
      let own = falls_at word b other there passes in
      let same : own.0 ≡ grain =
      inside own.0 grain (sym (falls_told word own.0 own.1 own.2) ∙ falls_told word grain header at) in
      own.3 ∙ ap (λ n. 16 * n) same)
    where
      inside : (m n : ℕ) → ◌≡◌ {A = Option ℕ} (Some m) (Some n) → m ≡ n
      inside m n e = cc

  -- a word that falls in no kept object resolves to none
  pub resolved-none : (word : ℕ) → ((grain : ℕ) (header : Header) → FallsAt word grain header → ⊥)
      → resolved_in (shown words entries) word ≡ None
  resolved-none word never =
      none_found (resolved_in (shown words entries) word)
      (λ o is.
      let found = found-begins (λ (o : Based ObjectView). falls word o.base o.value.extent) (shown words entries) o is
      in
      let own = falls_at word o.base o.value found.0 found.1 in
      never own.0 own.1 own.2)

  -- it falls in one object alone
  pub falls-once : (word base other : ℕ) (object more : ObjectView) → Begins (shown words entries) base object
      → Begins (shown words entries) other more → falls word base object.extent ≡ true
      → falls word other more.extent ≡ true → other ≡ base
  falls-once word base other object more is also here there =
      let one = falls_at word base object is here in
      let two = falls_at word other more also there in
      let same = inside_same two.0 one.0
      (sym (falls_told word two.0 two.1 two.2) ∙ falls_told word one.0 one.1 one.2) in
      two.3 ∙ ap (λ n. 16 * n) same ∙ sym one.3

  pub resolved-alone : (word base : ℕ) (object : ObjectView) → Begins (shown words entries) base object
      → falls word base object.extent ≡ true
      → resolved_in (shown words entries) word ≡ Some (record { base = base; value = object })
  resolved-alone word base object is here =
      find-begins (λ o. falls word o.base o.value.extent) (shown words entries) base object is here
      (λ other more also there. falls-once word base other object more is also here there)

  -- an entry tells what begins at its base
  pub object_at-told : (base : ℕ) → base % 16 ≡ 0 → (told : Option Header)
      → slice_get entries (base / 16) ≡ Some told
      → told ≡ option_map (λ (o : Based ObjectView). header_of o.value) (object_at (shown words entries) base)
  object_at-told base aligned None is =
      ap (option_map (λ (o : Based ObjectView). header_of o.value))
      (sym
      (object_at-none (shown words entries) base
      (λ object there.
      let kept = begins-kept words entries base object there in
      clash kept.header (sym is ∙ kept.is))))
    where
      clash : (header : Header) → Some None ≡ Some (Some header) → ⊥
      clash header e = cc
  object_at-told base aligned (Some header) is =
      let at : 16 * (base / 16) ≡ base = omega arith in
      let object = object_in words (base / 16) header in
      let there = subst (λ b. Begins (shown words entries) b object) at
      (kept-begins words entries (base / 16) header is) in
      ap (λ (h : Header). Some h) (sym (header-shown entries begins words keeps (base / 16) header is))
      ∙ ap (option_map (λ (o : Based ObjectView). header_of o.value))
      (sym (object_at-begins (shown words entries) base object there))

  -- a word whose grain tells of an object in which it doesn't fall, or of none
  pub resolved-unless : (word grain : ℕ) → slice_get begins (word / 16) ≡ Some grain → (told : Option Header)
      → slice_get entries grain ≡ Some told
      → ((header : Header) → told ≡ Some header → word < 16 * grain + header.extent → ⊥)
      → resolved_in (shown words entries) word ≡ None
  resolved-unless word grain tells told is never =
      resolved-none word
      (λ other header at.
      let same : grain ≡ other = inside_same grain other (sym tells ∙ falls_told word other header at) in
      let entry = inside_same told (Some header) (sym is ∙ ap (slice_get entries) same ∙ at.is) in
      let to = at.to in
      never header entry (omega arith))

-- what was found begins at its base, and the word falls in it
pub record IsTold (objects : ObjectsByBase) (word : ℕ) (found : Found) : Type 0 where
  pub object : ObjectView
  pub begins : Begins objects found.base object
  pub here : falls word found.base object.extent ≡ true
  pub header_is : header_of object ≡ found.header
  pub resolves : resolved_in objects word ≡ Some (record { base = found.base; value = object })

pub told-found : (objects : ObjectsByBase) (word : ℕ) (found : Found)
    → Some found ≡ option_map found_of (resolved_in objects word) → IsTold objects word found
told-found objects word found is = split (resolved_in objects word) refl is
  where
    split : (told : Option (Based ObjectView)) → resolved_in objects word ≡ told
        → Some found ≡ option_map found_of told → IsTold objects word found
    split None e is = cc
    split (Some o) e is =
        let own = found-begins (λ (o : Based ObjectView). falls word o.base o.value.extent) objects o e in
        let same : found ≡ found_of o = cc in
        let base : found.base ≡ o.base = ap (λ (f : Found). f.base) same in
        record {
          object = o.value;
          begins = subst (λ b. Begins objects b o.value) (sym base) own.0;
          here = subst (λ b. falls word b o.value.extent ≡ true) (sym base) own.1;
          header_is = sym (ap (λ (f : Found). f.header) same);
          resolves = e ∙ ap (λ b. Some (record { base = b; value = o.value })) (sym base);
        }
