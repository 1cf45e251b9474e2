-- Lists by base of which each entry is changed by a function that is told its base.
use Rattle.std.proofs.Common.{◌≡◌, ◌≢◌, ⊎_elim, ℕ, ◌*◌, ◌/◌, List, map, Option, Some, None, refl, sym, ap, ◌∙◌, arith}
use Rattle.std.specs.Prelude.{slice_get, slice_set}
use Rattle.std.specs.Option.{option_map, option_and_then}
use Rattle.std.proofs.lemmas.Bool.{cases_eq}
use Rattle.std.proofs.lemmas.Option.{slice_get-map}
use Rattle.mm_model.specs.Views.ByBase.{Begins, with_entry, changed}
use Rattle.mm_model.proofs.Lists.Replaced.{get-set_same, get-set_other}
use Rattle.mm_model.proofs.View.ByBase.Entries.{get-changed, same_entries}
use Rattle.mm_model.proofs.View.ByBase.ReplacedEntries.{begins_get}

-- what a function makes of an entry that isn't there, is empty, or holds something
abbrev pub change_told : {X : Type 0} → (ℕ → X → Option X) → ℕ → Option (Option X) → Option (Option X)
change_told f k told = option_map (option_and_then (f (16 * k))) told

-- what begins somewhere begins there changed, if it's still there
pub begins_changed : {X : Type 0} (f : ℕ → X → Option X) (entries : List (Option X)) (base : ℕ) (x y : X)
    → Begins entries base x → f base x ≡ Some y → Begins (changed f entries) base y
begins_changed {X} f entries base x y h e =
    record {
      grain = h.grain;
      aligned = h.aligned;
      is = get-changed f entries h.grain ∙ ap (option_map (option_and_then (f (16 * h.grain)))) h.is
          ∙ ap (λ b. Some (f b x)) (sym h.aligned) ∙ ap (λ (found : Option X). Some found) e;
    }

-- what begins in the changed list
pub record IsChangedFrom {X : Type 0} (f : ℕ → X → Option X) (entries : List (Option X)) (base : ℕ)
    (y : X) : Type 0 where
  pub before : X
  pub begins : Begins entries base before
  pub is : f base before ≡ Some y

pub changed_begins : {X : Type 0} (f : ℕ → X → Option X) (entries : List (Option X)) (base : ℕ) (y : X)
    → Begins (changed f entries) base y → IsChangedFrom f entries base y
changed_begins {X} f entries base y h =
    split (slice_get entries h.grain) refl (sym (get-changed f entries h.grain) ∙ h.is)
  where
    split : (found : Option (Option X)) → slice_get entries h.grain ≡ found
        → option_map (option_and_then (f (16 * h.grain))) found ≡ Some (Some y) → IsChangedFrom f entries base y
    split None e is = cc
    split (Some None) e is = cc
    split (Some (Some x)) e is =
        record {
          before = x;
          begins = record { grain = h.grain; aligned = h.aligned; is = e };
          is = ap (λ b. f b x) h.aligned ∙ inner is;
        }
      where
        inner : ◌≡◌ {A = Option (Option X)} (Some (f (16 * h.grain) x)) (Some (Some y)) → f (16 * h.grain) x ≡ Some y
        inner e = cc

-- what the function made of what began at a base
pub changed_value : {X : Type 0} (f : ℕ → X → Option X) (entries : List (Option X)) (base : ℕ) (x y : X)
    → Begins entries base x → Begins (changed f entries) base y → f base x ≡ Some y
changed_value {X} f entries base x y begins there =
    let a = begins.aligned in
    let at : 16 * (base / 16) ≡ base = omega arith in
    let was = get-changed f entries (base / 16)
    ∙ ap (change_told f (base / 16)) (begins_get entries base x begins) in
    let now = begins_get (changed f entries) base y there in
    ap (λ (b : ℕ). f b x) (sym at) ∙ inner (f (16 * (base / 16)) x) (sym was ∙ now)
  where
    inner : (e : Option X) → ◌≡◌ {A = Option (Option X)} (Some e) (Some (Some y)) → e ≡ Some y
    inner e same = cc

-- functions that do the same to all that begins somewhere
pub changed-alike : {X : Type 0} (f g : ℕ → X → Option X) (entries : List (Option X))
    → ((base : ℕ) (x : X) → Begins entries base x → f base x ≡ g base x) → changed f entries ≡ changed g entries
changed-alike {X} f g entries alike =
    same_entries (changed f entries) (changed g entries)
    (λ k. get-changed f entries k ∙ split k (slice_get entries k) refl ∙ sym (get-changed g entries k))
  where
    split : (k : ℕ) (told : Option (Option X)) → slice_get entries k ≡ told → change_told f k told ≡ change_told g k
        told
    split k None e = refl
    split k (Some None) e = refl
    split k (Some (Some x)) e =
        ap (λ (y : Option X). Some y) (alike (16 * k) x (record { grain = k; aligned = refl; is = e }))

-- a function that changes nothing but what begins at a base
pub changed-one : {X : Type 0} (f : ℕ → X → Option X) (entries : List (Option X)) (base : ℕ) (x : X)
    → Begins entries base x → ((b : ℕ) (y : X) → b ≢ base → Begins entries b y → f b y ≡ Some y)
    → changed f entries ≡ with_entry base (f base x) entries
changed-one {X} f entries base x begins others =
    same_entries (changed f entries) (with_entry base (f base x) entries)
    (λ k. get-changed f entries k ∙ ⊎_elim (here k) (there k) (cases_eq k (base / 16)))
  where
    here : (k : ℕ) → k ≡ base / 16
        → change_told f k (slice_get entries k) ≡ slice_get (slice_set entries (base / 16) (f base x)) k
    here k e =
        let a = begins.aligned in
        let at : 16 * k ≡ base = omega arith in
        let is = ap (slice_get entries) e ∙ begins_get entries base x begins in
        ap (change_told f k) is ∙ ap (λ (b : ℕ). Some (f b x)) at
        ∙ sym (get-set_same entries (base / 16) (Some x) (f base x) (begins_get entries base x begins))
        ∙ ap (slice_get (slice_set entries (base / 16) (f base x))) (sym e)

    kept : (k : ℕ) → k ≢ base / 16 → (told : Option (Option X)) → slice_get entries k ≡ told
        → change_told f k told ≡ told
    kept k other None e = refl
    kept k other (Some None) e = refl
    kept k other (Some (Some y)) e =
        let a = begins.aligned in
        ap (λ (z : Option X). Some z)
        (others (16 * k) y (λ same. other (omega arith)) (record { grain = k; aligned = refl; is = e }))

    there : (k : ℕ) → k ≢ base / 16
        → change_told f k (slice_get entries k) ≡ slice_get (slice_set entries (base / 16) (f base x)) k
    there k other =
        kept k other (slice_get entries k) refl ∙ sym (get-set_other entries (base / 16) k (f base x) other)

-- a function that changes nothing
pub changed-none : {X : Type 0} (f : ℕ → X → Option X) (entries : List (Option X))
    → ((b : ℕ) (y : X) → Begins entries b y → f b y ≡ Some y) → changed f entries ≡ entries
changed-none {X} f entries none =
    same_entries (changed f entries) entries (λ k. get-changed f entries k ∙ split k (slice_get entries k) refl)
  where
    split : (k : ℕ) (told : Option (Option X)) → slice_get entries k ≡ told → change_told f k told ≡ told
    split k None e = refl
    split k (Some None) e = refl
    split k (Some (Some y)) e =
        ap (λ (z : Option X). Some z) (none (16 * k) y (record { grain = k; aligned = refl; is = e }))

-- one entry is replaced before, or after
pub changed-with_entry : {X : Type 0} (f : ℕ → X → Option X) (entries : List (Option X)) (base : ℕ) (x y : X)
    → Begins entries base x → changed f (with_entry base (Some y) entries) ≡ with_entry base (f base y) (changed f
    entries)
changed-with_entry {X} f entries base x y begins =
    same_entries (changed f (with_entry base (Some y) entries)) (with_entry base (f base y) (changed f entries))
    (λ k. get-changed f (with_entry base (Some y) entries) k ∙ ⊎_elim (here k) (there k) (cases_eq k (base / 16)))
  where
    is : slice_get entries (base / 16) ≡ Some (Some x)
    is = begins_get entries base x begins

    here : (k : ℕ) → k ≡ base / 16
        → change_told f k (slice_get (slice_set entries (base / 16) (Some y)) k)
        ≡ slice_get (slice_set (changed f entries) (base / 16) (f base y)) k
    here k e =
        let a = begins.aligned in
        let at : 16 * k ≡ base = omega arith in
        let old = get-changed f entries (base / 16) ∙ ap (change_told f (base / 16)) is in
        ap (λ n. change_told f k (slice_get (slice_set entries (base / 16) (Some y)) n)) e
        ∙ ap (change_told f k) (get-set_same entries (base / 16) (Some x) (Some y) is)
        ∙ ap (λ (b : ℕ). Some (f b y)) at
        ∙ sym (get-set_same (changed f entries) (base / 16) (f (16 * (base / 16)) x) (f base y) old)
        ∙ ap (slice_get (slice_set (changed f entries) (base / 16) (f base y))) (sym e)

    there : (k : ℕ) → k ≢ base / 16
        → change_told f k (slice_get (slice_set entries (base / 16) (Some y)) k)
        ≡ slice_get (slice_set (changed f entries) (base / 16) (f base y)) k
    there k other =
        ap (change_told f k) (get-set_other entries (base / 16) k (Some y) other) ∙ sym (get-changed f entries k)
        ∙ sym (get-set_other (changed f entries) (base / 16) k (f base y) other)

-- a function of what stands in a list, before or after
pub map-changed : {X Y : Type 0} (v : X → Y) (f : ℕ → X → Option X) (g : ℕ → Y → Option Y)
    → ((base : ℕ) (x : X) → option_map v (f base x) ≡ g base (v x)) → (entries : List (Option X))
    → map (option_map v) (changed f entries) ≡ changed g (map (option_map v) entries)
map-changed {X} {Y} v f g alike entries =
    same_entries (map (option_map v) (changed f entries)) (changed g (map (option_map v) entries))
    (λ k. slice_get-map (option_map v) (changed f entries) k ∙ ap (option_map (option_map v)) (get-changed f entries k)
    ∙ split k (slice_get entries k)
    ∙ sym (get-changed g (map (option_map v) entries) k
    ∙ ap (change_told g k) (slice_get-map (option_map v) entries k)))
  where
    split : (k : ℕ) (told : Option (Option X))
        → option_map (option_map v) (change_told f k told) ≡ change_told g k (option_map (option_map v) told)
    split k None = refl
    split k (Some None) = refl
    split k (Some (Some x)) = ap (λ (y : Option Y). Some y) (alike (16 * k) x)

-- a change of a change
abbrev pub one_after : {X : Type 0} → (ℕ → X → Option X) → (ℕ → X → Option X) → ℕ → X → Option X
one_after f g base x = option_and_then (f base) (g base x)

pub changed-changed : {X : Type 0} (f g : ℕ → X → Option X) (entries : List (Option X))
    → changed f (changed g entries) ≡ changed (one_after f g) entries
changed-changed {X} f g entries =
    same_entries (changed f (changed g entries)) (changed (one_after f g) entries)
    (λ k. get-changed f (changed g entries) k ∙ ap (change_told f k) (get-changed g entries k)
    ∙ split k (slice_get entries k) ∙ sym (get-changed (one_after f g) entries k))
  where
    split : (k : ℕ) (told : Option (Option X))
        → change_told f k (change_told g k told) ≡ change_told (one_after f g) k told
    split k None = refl
    split k (Some None) = refl
    split k (Some (Some x)) = refl

-- a change of a list that was told by a function
pub changed-map : {X : Type 0} (v : X → X) (g : ℕ → X → Option X) (entries : List (Option X))
    → changed g (map (option_map v) entries) ≡ changed (λ base x. g base (v x)) entries
changed-map {X} v g entries =
    same_entries (changed g (map (option_map v) entries)) (changed (λ base x. g base (v x)) entries)
    (λ k. get-changed g (map (option_map v) entries) k
    ∙ ap (change_told g k) (slice_get-map (option_map v) entries k) ∙ split k (slice_get entries k)
    ∙ sym (get-changed (λ base x. g base (v x)) entries k))
  where
    split : (k : ℕ) (told : Option (Option X))
        → change_told g k (option_map (option_map v) told) ≡ change_told (λ base x. g base (v x)) k told
    split k None = refl
    split k (Some None) = refl
    split k (Some (Some x)) = refl

-- a list with the entries that a change makes is the changed list
pub changed-entries : {X : Type 0} (f : ℕ → X → Option X) (entries after : List (Option X))
    → ((k : ℕ) → slice_get after k ≡ option_map (option_and_then (f (16 * k))) (slice_get entries k))
    → after ≡ changed f entries
changed-entries f entries after each = same_entries after (changed f entries)
    (λ k. each k ∙ sym (get-changed f entries k))
