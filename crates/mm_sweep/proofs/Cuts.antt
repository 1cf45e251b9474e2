-- An object loses its partner, and then it is taken away.
use Rattle.std.proofs.Common.{◌≡◌, ◌≢◌, ℕ, ◌*◌, ◌/◌, List, [], ◌∷◌, Option, Some, None, inl, inr, refl, sym, ap, ◌∙◌}
use Rattle.std.proofs.Common.{arith}
use Rattle.std.specs.Prelude.{slice_get, slice_set}
use Rattle.std.specs.Option.{option_map, option_and_then}
use Rattle.std.proofs.lemmas.Bool.{cases_eq}
use Rattle.mm_model.specs.Views.ByBase.{Begins, with_entry, changed}
use Rattle.mm_model.proofs.Lists.Replaced.{get-set_same, get-set_other}
use Rattle.mm_model.proofs.View.ByBase.Entries.{begins_same}
use Rattle.mm_model.proofs.View.ByBase.ChangedEntries.{changed-entries}
use Rattle.mm_object.specs.Object.{StoredObject, StoredObjects}
use Rattle.mm_object.specs.Heap.{Heap}
use Rattle.mm_weak.specs.Links.{IsLinked, unlinked}
use Rattle.mm_sweep.specs.Release.{after_release}
use Rattle.mm_sweep.proofs.Released.{released-gone, released-cut, released-kept}
use Rattle.mm_sweep.proofs.Partners.{named-linked}

-- an entry of a list by base at its grain
pub grain_of : (base k : ℕ) → base ≡ 16 * k → base / 16 ≡ k
grain_of base k e = omega arith

pub get_same : {X : Type 0} (entries : List (Option X)) (base k : ℕ) (old entry : Option X) → base ≡ 16 * k
    → slice_get entries k ≡ Some old → slice_get (with_entry base entry entries) k ≡ Some entry
get_same entries base k old entry at is =
    ap (λ (n : ℕ). slice_get (slice_set entries n entry) k) (grain_of base k at) ∙ get-set_same entries k old entry is

pub get_other : {X : Type 0} (entries : List (Option X)) (base j k : ℕ) (entry : Option X) → base ≡ 16 * j
    → (k ≡ j → ⊥) → slice_get (with_entry base entry entries) k ≡ slice_get entries k
get_other entries base j k entry at apart =
    ap (λ (n : ℕ). slice_get (slice_set entries n entry) k) (grain_of base j at) ∙ get-set_other entries j k entry apart

-- two partners have lost their links
pub record Cuts (before after : StoredObjects) (base other : ℕ) : Type 0 where
  pub object : StoredObject
  pub partner : StoredObject
  pub begins : Begins before base object
  pub there : Begins before other partner
  pub apart : base ≡ other → ⊥
  pub named : object.link ≡ other
  pub back : partner.link ≡ base
  pub now : StoredObject
  pub now_is : slice_get after begins.grain ≡ Some (Some now)
  pub alone : now.link ≡ 0
  pub cut : slice_get after there.grain ≡ Some (Some (unlinked partner))
  pub rest : (k : ℕ) → (k ≡ begins.grain → ⊥) → (k ≡ there.grain → ⊥) → slice_get after k ≡ slice_get before k

-- entries that a release doesn't change
kept : (h : Heap) (base k : ℕ) → (k ≡ base / 16 → ⊥) → base ≡ 16 * (base / 16)
    → ((object : StoredObject) → Begins h.objects (16 * k) object → object.link ≡ base → ⊥)
    → slice_get h.objects k ≡ option_map (option_and_then (after_release (base ∷ []) (16 * k))) (slice_get h.objects k)
kept h base k apart aligned none = split (slice_get h.objects k) refl
  where
    split : (e : Option (Option StoredObject)) → slice_get h.objects k ≡ e
        → e ≡ option_map (option_and_then (after_release (base ∷ []) (16 * k))) e
    split None is = refl
    split (Some None) is = refl
    split (Some (Some object)) is =
        ap (λ (e : Option StoredObject). Some e)
        (sym (released-kept base (16 * k) object (λ same. apart (omega arith))
        (none object (record { grain = k; aligned = refl; is = is }))))

module _ (h : Heap) (base : ℕ) (object : StoredObject) (linked : IsLinked h) (begins : Begins h.objects base object)
    (some : base ≢ 0) where
  whole : base ≡ 16 * (base / 16)
  whole = let at = begins.aligned in omega arith

  gone : (after : StoredObjects) (k : ℕ) → k ≡ begins.grain → slice_get after begins.grain ≡ Some None
      → slice_get after k ≡ option_map (option_and_then (after_release (base ∷ []) (16 * k))) (slice_get h.objects k)
  gone after k same is =
      let at = begins.aligned in
      ap (slice_get after) same ∙ is
      ∙ ap (λ (e : Option StoredObject). Some e) (sym (released-gone base (16 * k) object (omega arith)))
      ∙ ap (option_map (option_and_then (after_release (base ∷ []) (16 * k))))
      (sym begins.is ∙ ap (slice_get h.objects) (sym same))

  -- one without a partner
  pub erased-alone : object.link ≡ 0 → with_entry base None h.objects ≡ changed (after_release (base ∷ [])) h.objects
  erased-alone alone =
      changed-entries (after_release (base ∷ [])) h.objects (with_entry base None h.objects) each
    where
      each : (k : ℕ) → slice_get (with_entry base None h.objects) k
          ≡ option_map (option_and_then (after_release (base ∷ []) (16 * k))) (slice_get h.objects k)
      each k =
          let at = begins.aligned in
          elim (cases_eq k begins.grain) [
            | inl same ↦
                gone (with_entry base None h.objects) k same
                (get_same h.objects base begins.grain (Some object) None begins.aligned begins.is)
            | inr other ↦
                get_other h.objects base begins.grain k None begins.aligned other
                ∙ kept h base k (λ same. other (omega arith)) whole
                (λ there is e.
                (named-linked h base object (16 * k) there linked begins some is e).some alone)
          ]

  -- one whose partner has lost its link
  pub erased-cut : (after : StoredObjects) (other : ℕ) (cuts : Cuts h.objects after base other)
      → with_entry base None after ≡ changed (after_release (base ∷ [])) h.objects
  erased-cut after other cuts =
      changed-entries (after_release (base ∷ [])) h.objects (with_entry base None after) each
    where
      same_object : cuts.object ≡ object
      same_object = begins_same h.objects base cuts.object object cuts.begins begins

      own_grain : cuts.begins.grain ≡ begins.grain
      own_grain = let at = begins.aligned in let was = cuts.begins.aligned in omega arith

      now_is : slice_get after begins.grain ≡ Some (Some cuts.now)
      now_is = ap (slice_get after) (sym own_grain) ∙ cuts.now_is

      partner_at : (k : ℕ) → k ≡ cuts.there.grain → slice_get after k
          ≡ option_map (option_and_then (after_release (base ∷ []) (16 * k))) (slice_get h.objects k)
      partner_at k same =
          let at = cuts.there.aligned in
          let apart = cuts.apart in
          ap (slice_get after) same ∙ cuts.cut
          ∙ ap (λ (e : Option StoredObject). Some e)
          (sym (released-cut base (16 * k) cuts.partner (λ equal. apart (omega arith)) cuts.back))
          ∙ ap (option_map (option_and_then (after_release (base ∷ []) (16 * k))))
          (sym cuts.there.is ∙ ap (slice_get h.objects) (sym same))

      kept_at : (k : ℕ) → (k ≡ begins.grain → ⊥) → (k ≡ cuts.there.grain → ⊥) → slice_get after k
          ≡ option_map (option_and_then (after_release (base ∷ []) (16 * k))) (slice_get h.objects k)
      kept_at k not_base not_partner =
          let at = begins.aligned in
          let there = cuts.there.aligned in
          cuts.rest k (λ same. not_base (same ∙ own_grain)) not_partner
          ∙ kept h base k (λ same. not_base (omega arith)) whole
          (λ named is e.
          let one = (named-linked h base object (16 * k) named linked begins some is e).link in
          let link = cuts.named in
          let equal : object.link ≡ cuts.object.link = ap (λ (o : StoredObject). o.link) (sym same_object) in
          not_partner (omega arith))

      each : (k : ℕ) → slice_get (with_entry base None after) k
          ≡ option_map (option_and_then (after_release (base ∷ []) (16 * k))) (slice_get h.objects k)
      each k =
          elim (cases_eq k begins.grain) [
            | inl same ↦
                gone (with_entry base None after) k same
                (get_same after base begins.grain (Some cuts.now) None begins.aligned now_is)
            | inr other ↦
                get_other after base begins.grain k None begins.aligned other
                ∙ elim (cases_eq k cuts.there.grain) [
                  | inl same ↦ partner_at k same
                  | inr rest ↦ kept_at k other rest
                ]
          ]
