-- What the objects say of their counts once one of them was pinned or has left the table.
use Rattle.std.proofs.Common.{◌≡◌, ◌≢◌, ⊎_elim, ℕ, Bool, refl, sym, ap, ◌∙◌, arith}
use Rattle.std.proofs.lemmas.Bool.{cases_eq}
use Rattle.mm_object.specs.Heap.{Heap}
use Rattle.mm_count.specs.declared.composite.Composite.{Composite}
use Rattle.mm_count.specs.Composite.{FitsWord}
use Rattle.mm_count.specs.Table.{composite_of, IsCountedAt}
use Rattle.mm_count.specs.Counts.{composite_at, counts_of, left, with_pin, changed_at, unplaced, without_places}
use Rattle.mm_count.specs.Counts.{KeepsObjects}
use Rattle.mm_count.proofs.Words.{fits-composite_in}
use Rattle.mm_count.proofs.Places.{IsOwn, IsOther, cases, composite_of-own, composite_of-other}
use Rattle.mm_reap.specs.Pins.{HasLeft}
use Rattle.mm_reap.proofs.Recounted.{composite_at-begins}

module _ (h h' : Heap) (f : Composite → Composite) (base : ℕ) (k : IsCountedAt h.objects base)
    (e : without_places h' ≡ changed_at f base (without_places h)) (keeps : KeepsObjects h.objects h'.objects)
    (fits : FitsWord (f (unplaced (composite_of k.object)))) where
  -- the object itself says what it was given
  pub own-says : unplaced (composite_at h'.objects base) ≡ f (unplaced (composite_at h.objects base))
  own-says =
      let o = k.object in
      let now = keeps.to base o k.begins in
      let x = record o { composite = now.0 } in
      ap unplaced (composite_at-begins h'.objects base x now.1)
      ∙ ⊎_elim
      (λ (c : IsOwn h h' f base o k.begins e base x). composite_of-own h h' f base o k.begins e x fits c.is)
      (λ (c : IsOther h h' f base o k.begins e base x). absurd (c.apart refl))
      (cases h h' f base o k.begins e base x now.1)
      ∙ ap (λ (c : Composite). f (unplaced c)) (sym (composite_at-begins h.objects base o k.begins))

  -- the others say what they said
  pub other-says : (b : ℕ) → IsCountedAt h.objects b → b ≢ base
      → unplaced (composite_at h'.objects b) ≡ unplaced (composite_at h.objects b)
  other-says b j other =
      let o = k.object in
      let now = keeps.to b j.object j.begins in
      let x = record j.object { composite = now.0 } in
      ap unplaced (composite_at-begins h'.objects b x now.1)
      ∙ ⊎_elim
      (λ (c : IsOwn h h' f base o k.begins e b x). absurd (other c.at))
      (λ (c : IsOther h h' f base o k.begins e b x).
      sym (composite_of-other h h' f base o k.begins e c.object x c.is)
      ∙ ap unplaced (sym (composite_at-begins h.objects b c.object c.begun)))
      (cases h h' f base o k.begins e b x now.1)

module _ (h h' : Heap) (base : ℕ) (k : IsCountedAt h.objects base)
    (e : without_places h' ≡ changed_at left base (without_places h)) (keeps : KeepsObjects h.objects h'.objects) where
  fits-left : FitsWord (left (unplaced (composite_of k.object)))
  fits-left =
      let fits = fits-composite_in k.object.composite in let n = fits.count in record { count = n; place = omega arith }

  alike : {X : Type 0} (f : Composite → X)
      → ((c : Composite) → f (left c) ≡ f c) → ((c : Composite) → f (unplaced c) ≡ f c)
      → (b : ℕ) → IsCountedAt h.objects b → f (composite_at h'.objects b) ≡ f (composite_at h.objects b)
  alike f own bare b j =
      ⊎_elim
      (λ (same : b ≡ base).
      ap (λ n. f (composite_at h'.objects n)) same ∙ sym (bare (composite_at h'.objects base))
      ∙ ap f (own-says h h' left base k e keeps fits-left)
      ∙ own (unplaced (composite_at h.objects base)) ∙ bare (composite_at h.objects base)
      ∙ ap (λ n. f (composite_at h.objects n)) (sym same))
      (λ (other : b ≢ base).
      sym (bare (composite_at h'.objects b)) ∙ ap f (other-says h h' left base k e keeps fits-left b j other)
      ∙ bare (composite_at h.objects b))
      (cases_eq b base)

  pub has-left : HasLeft h.objects h'.objects base
  has-left =
      record {
        own = ap (λ (c : Composite). c.listed) (own-says h h' left base k e keeps fits-left);
        others = λ b j other.
            ap (λ (c : Composite). c.listed) (other-says h h' left base k e keeps fits-left b j other);
        pins = λ b j. alike (λ (c : Composite). c.pinned) (λ c. refl) (λ c. refl) b j;
        counts = λ b j. alike (λ (c : Composite). c.count) (λ c. refl) (λ c. refl) b j;
      }

module _ (h h' : Heap) (pinned : Bool) (base : ℕ) (k : IsCountedAt h.objects base)
    (e : without_places h' ≡ changed_at (with_pin pinned) base (without_places h))
    (keeps : KeepsObjects h.objects h'.objects) where
  fits-pin : FitsWord (with_pin pinned (unplaced (composite_of k.object)))
  fits-pin =
      let fits = fits-composite_in k.object.composite in let n = fits.count in record { count = n; place = omega arith }

  alike-pin : {X : Type 0} (f : Composite → X)
      → ((c : Composite) → f (with_pin pinned c) ≡ f c) → ((c : Composite) → f (unplaced c) ≡ f c)
      → (b : ℕ) → IsCountedAt h.objects b → f (composite_at h'.objects b) ≡ f (composite_at h.objects b)
  alike-pin f own bare b j =
      ⊎_elim
      (λ (same : b ≡ base).
      ap (λ n. f (composite_at h'.objects n)) same ∙ sym (bare (composite_at h'.objects base))
      ∙ ap f (own-says h h' (with_pin pinned) base k e keeps fits-pin)
      ∙ own (unplaced (composite_at h.objects base)) ∙ bare (composite_at h.objects base)
      ∙ ap (λ n. f (composite_at h.objects n)) (sym same))
      (λ (other : b ≢ base).
      sym (bare (composite_at h'.objects b))
      ∙ ap f (other-says h h' (with_pin pinned) base k e keeps fits-pin b j other) ∙ bare (composite_at h.objects b))
      (cases_eq b base)

  pub pinned-own : (composite_at h'.objects base).pinned ≡ pinned
  pinned-own = ap (λ (c : Composite). c.pinned) (own-says h h' (with_pin pinned) base k e keeps fits-pin)

  pub pinned-other : (b : ℕ) → IsCountedAt h.objects b → b ≢ base
      → (composite_at h'.objects b).pinned ≡ (composite_at h.objects b).pinned
  pinned-other b j other =
      ap (λ (c : Composite). c.pinned) (other-says h h' (with_pin pinned) base k e keeps fits-pin b j other)

  pub pinned-listed : (b : ℕ) → IsCountedAt h.objects b
      → (composite_at h'.objects b).listed ≡ (composite_at h.objects b).listed
  pinned-listed b j = alike-pin (λ (c : Composite). c.listed) (λ c. refl) (λ c. refl) b j

  pub pinned-counts : (b : ℕ) → IsCountedAt h.objects b → counts_of h'.objects b ≡ counts_of h.objects b
  pinned-counts b j = alike-pin (λ (c : Composite). c.count) (λ c. refl) (λ c. refl) b j
