-- A heap that shades a word grays what the word falls in, and a marker that notes it keeps its gray objects.
use Rattle.std.proofs.Common.{◌≡◌, ◌≢◌, ℕ, ◌+◌, ◌*◌, ◌/◌, ◌<◌, ◌≤◌, ◌⊎◌, Bool, true, false, [], ◌∷◌, Option, Some, None}
use Rattle.std.proofs.Common.{inl, inr, refl, sym, ap, subst, ◌∙◌, arith}
use Rattle.std.specs.Prelude.{slice_get, slice_set, IsTrue, ◌&&◌, ◌||◌, ◌==◌}
use Rattle.std.specs.List.{list_any}
use Rattle.std.specs.Option.{option_map, option_and_then}
use Rattle.std.proofs.lemmas.Bool.{cases_eq, eq-eqb}
use Rattle.std.proofs.lemmas.Option.{slice_get-map}
use Rattle.mm_model.specs.declared.object.Colour.{Colour}
use Rattle.mm_model.specs.declared.object.Colour.TheVariants.{White, Gray, Black}
use Rattle.mm_model.specs.Sets.Marking.{is_white}
use Rattle.mm_model.specs.Words.{falls}
use Rattle.mm_model.specs.Views.ByBase.{Begins}
use Rattle.mm_model.specs.Views.ObjectView.{ObjectView}
use Rattle.mm_model.specs.Views.SetsByBase.{grayed_at, with_grayed_objects}
use Rattle.mm_model.proofs.Lists.Replaced.{get-set_same, get-set_other, map-set_alike}
use Rattle.mm_model.proofs.Places.Falling.{falls_from, falls_within}
use Rattle.mm_model.proofs.View.ByBase.Entries.{get-changed, same_entries}
use Rattle.mm_object.specs.Object.{StoredObject, view_of_stored, views_of}
use Rattle.mm_object.specs.Heap.{Heap, Covers, IsSound}
use Rattle.mm_object.specs.Colours.{NoWhite, Shades, all_whitened, white_object}
use Rattle.mm_mark.specs.Marker.{Marker, IsNoted, AreKnown, is_known, with_left_out}
use Rattle.mm_mark.specs.Parts.{IsKnown}
use Rattle.mm_mark.proofs.Known.{known-told, told-known}
use Rattle.mm_mark.specs.Colours.{IsGrayed}
use Rattle.mm_mark.proofs.Grayed.{grayed_at-marks, grayed_at-spares}
use Rattle.mm_mark.proofs.Told.{viewed-stored, stored-viewed, one_covering}

-- an object in which the word doesn't fall, or that isn't white, stays as it is
spared : (word base : ℕ) (object : StoredObject)
    → (object.colour ≡ White → base ≤ word → word < base + object.extent → ⊥)
    → grayed_at (word ∷ []) base (view_of_stored object) ≡ Some (view_of_stored object)
spared word base object none =
    grayed_at-spares (word ∷ []) base (view_of_stored object)
    (split object.colour refl (falls word base object.extent) refl)
  where
    split : (c : Colour) → object.colour ≡ c → (b : Bool) → falls word base object.extent ≡ b
        → (is_white c && (b || false)) ≡ false
    split White e true f = let at = falls_from word base object.extent f in absurd (none e at.0 at.1)
    split White e false f = refl
    split Gray e b f = refl
    split Black e b f = refl

-- of an entry of both
entry-spared : (word k : ℕ) (e : Option (Option StoredObject))
    → ((object : StoredObject) → e ≡ Some (Some object) → object.colour ≡ White → 16 * k ≤ word
    → word < 16 * k + object.extent → ⊥)
    → option_map (option_map view_of_stored) e
    ≡ option_map (option_and_then (grayed_at (word ∷ []) (16 * k))) (option_map (option_map view_of_stored) e)
entry-spared word k None none = refl
entry-spared word k (Some None) none = refl
entry-spared word k (Some (Some object)) none = ap Some (sym (spared word (16 * k) object (none object refl)))

-- the word falls in nothing white
pub none-grayed : (h : Heap) (word : ℕ) → NoWhite h word → IsGrayed h h (word ∷ [])
none-grayed h word none = record { grayed = same_entries _ _ at; rest = refl }
  where
    at : (k : ℕ) → slice_get (views_of h.objects) k ≡ slice_get (with_grayed_objects (word ∷ []) (views_of h.objects)) k
    at k =
        slice_get-map (option_map view_of_stored) h.objects k
        ∙ entry-spared word k (slice_get h.objects k) (λ object e white from to. none (16 * k) object
        (record { begins = record { grain = k; aligned = refl; is = e }; from = from; to = to }) white)
        ∙ ap (option_map (option_and_then (grayed_at (word ∷ []) (16 * k))))
        (sym (slice_get-map (option_map view_of_stored) h.objects k))
        ∙ sym (get-changed (grayed_at (word ∷ [])) (views_of h.objects) k)

module _ (before after : Heap) (word base : ℕ) (s : Shades before after word base) where
  abbrev pub gray : StoredObject
  gray = record s.object { colour = Gray }

  abbrev grain : ℕ
  grain = s.covers.begins.grain

  objects : after.objects ≡ slice_set before.objects grain (Some gray)
  objects =
      let at : base ≡ 16 * grain = s.covers.begins.aligned in
      let place : base / 16 ≡ grain = omega arith in
      ap (λ (h : Heap). h.objects) s.now ∙ ap (λ n. slice_set before.objects n (Some gray)) place

  here : slice_get after.objects grain ≡ Some (Some gray)
  here =
      ap (λ os. slice_get os grain) objects
      ∙ get-set_same before.objects grain (Some s.object) (Some gray) s.covers.begins.is

  other : (k : ℕ) → k ≢ grain → slice_get after.objects k ≡ slice_get before.objects k
  other k d = ap (λ os. slice_get os k) objects ∙ get-set_other before.objects grain k (Some gray) d

  pub at_gray : Begins after.objects base gray
  at_gray = record { grain = grain; aligned = s.covers.begins.aligned; is = here }

  pub shaded-grayed : IsSound after → IsGrayed before after (word ∷ [])
  shaded-grayed sound = record { grayed = same_entries _ _ at; rest = rest }
    where
      covering : Covers after word base gray
      covering = record { begins = at_gray; from = s.covers.from; to = s.covers.to }

      marked : grayed_at (word ∷ []) (16 * grain) (view_of_stored s.object) ≡ Some (view_of_stored gray)
      marked =
          let from : 16 * grain ≤ word = omega (arith, s.covers.from, s.covers.begins.aligned) in
          let to : word < 16 * grain + s.object.extent = omega (arith, s.covers.to, s.covers.begins.aligned) in
          grayed_at-marks (word ∷ []) (16 * grain) (view_of_stored s.object)
          (ap (λ x. x || false) (falls_within word (16 * grain) s.object.extent from to)) s.white

      entry : (k : ℕ) → k ≡ grain ⊎ k ≢ grain
          → option_map (option_map view_of_stored) (slice_get after.objects k)
          ≡ option_map (option_and_then (grayed_at (word ∷ []) (16 * k)))
          (option_map (option_map view_of_stored) (slice_get before.objects k))
      entry k (inl e) =
          subst (λ n. option_map (option_map view_of_stored) (slice_get after.objects n)
          ≡ option_map (option_and_then (grayed_at (word ∷ []) (16 * n)))
          (option_map (option_map view_of_stored) (slice_get before.objects n))) (sym e)
          (ap (option_map (option_map view_of_stored)) here ∙ ap Some (sym marked)
          ∙ ap (λ x. option_map (option_and_then (grayed_at (word ∷ []) (16 * grain)))
          (option_map (option_map view_of_stored) x)) (sym s.covers.begins.is))
      entry k (inr d) =
          ap (option_map (option_map view_of_stored)) (other k d)
          ∙ entry-spared word k (slice_get before.objects k) (λ object e white from to.
          let one = one_covering after sound word (16 * k) base object gray
          (record { begins = record { grain = k; aligned = refl; is = other k d ∙ e }; from = from; to = to })
          covering in
          let at = s.covers.begins.aligned in
          d (omega arith))

      at : (k : ℕ) → slice_get (views_of after.objects) k
          ≡ slice_get (with_grayed_objects (word ∷ []) (views_of before.objects)) k
      at k =
          slice_get-map (option_map view_of_stored) after.objects k ∙ entry k (cases_eq k grain)
          ∙ ap (option_map (option_and_then (grayed_at (word ∷ []) (16 * k))))
          (sym (slice_get-map (option_map view_of_stored) before.objects k))
          ∙ sym (get-changed (grayed_at (word ∷ [])) (views_of before.objects) k)

      rest : all_whitened after ≡ all_whitened before
      rest =
          let at : base ≡ 16 * grain = s.covers.begins.aligned in
          let place : grain ≡ base / 16 = omega arith in
          let is : slice_get before.objects (base / 16) ≡ Some (Some s.object) =
          ap (slice_get before.objects) (sym place) ∙ s.covers.begins.is in
          ap all_whitened s.now
          ∙ ap (λ os. record before { objects = os })
          (map-set_alike (option_map white_object) before.objects (base / 16) (Some s.object) (Some gray) is refl)

  -- what was gray is known still, and what became gray is known now
  pub shaded-known : (old new : Marker) → IsNoted old new base → AreKnown old (views_of before.objects)
      → AreKnown new (views_of after.objects)
  shaded-known old new noted was_known = known
    where
      later : (b : ℕ) (own : Bool) → IsTrue (list_any (λ entry. entry == b) old.queue)
          → IsTrue (own || list_any (λ entry. entry == b) old.queue)
      later b true h = refl
      later b false h = h

      first : (b : ℕ) → (base == b) ≡ true → IsTrue (base == b || list_any (λ entry. entry == b) old.queue)
      first b e = subst (λ (x : Bool). IsTrue (x || list_any (λ entry. entry == b) old.queue)) (sym e) refl

      still : (b : ℕ) → IsNoted old new base → IsKnown old b → IsKnown new b
      still b (IsNoted.Is_newest e) (IsKnown.Is_queued h) =
          subst (λ (m : Marker). IsKnown m b) (sym e) (IsKnown.Is_queued (later b (base == b) h))
      still b (IsNoted.Is_newest e) (IsKnown.Is_partly_scanned p f at) =
          subst (λ (m : Marker). IsKnown m b) (sym e) (IsKnown.Is_partly_scanned p f at)
      still b (IsNoted.Is_newest e) (IsKnown.Is_left_out next f from) =
          subst (λ (m : Marker). IsKnown m b) (sym e) (IsKnown.Is_left_out next f from)
      still b (IsNoted.Is_left_out full e) (IsKnown.Is_queued h) =
          subst (λ (m : Marker). IsKnown m b) (sym e) (IsKnown.Is_queued h)
      still b (IsNoted.Is_left_out full e) (IsKnown.Is_partly_scanned p f at) =
          subst (λ (m : Marker). IsKnown m b) (sym e) (IsKnown.Is_partly_scanned p f at)
      still b (IsNoted.Is_left_out full e) (IsKnown.Is_left_out next f from) =
          subst (λ (m : Marker). IsKnown m b) (sym e)
          (IsKnown.Is_left_out (with_left_out old.left_out base) refl
          (subst (λ (o : Option ℕ). with_left_out o base ≤ b) (sym f) (omega arith)))

      now : (b : ℕ) → b ≡ base → IsNoted old new base → IsKnown new b
      now b e (IsNoted.Is_newest f) = subst (λ (m : Marker). IsKnown m b) (sym f)
          (IsKnown.Is_queued (first b (eq-eqb base b (sym e))))
      now b e (IsNoted.Is_left_out full f) = subst (λ (m : Marker). IsKnown m b) (sym f)
          (IsKnown.Is_left_out (with_left_out old.left_out base) refl (reached old.left_out))
        where
          reached : (o : Option ℕ) → with_left_out o base ≤ b
          reached None = omega arith
          reached (Some next) = omega arith

      known : (b : ℕ) (view : ObjectView) → Begins (views_of after.objects) b view → view.colour ≡ Gray
          → IsTrue (is_known new b)
      known b view begins is =
          let stored = viewed-stored after.objects b view begins in
          elim (cases_eq b base) [
            | inl e ↦ known-told new b (now b e noted)
            | inr d ↦
                let at = s.covers.begins.aligned in
                let here = stored.begins.aligned in
                let apart : stored.begins.grain ≢ grain = λ e. d (omega arith) in
                let was : Begins before.objects b stored.object = record {
                  grain = stored.begins.grain;
                  aligned = stored.begins.aligned;
                  is = sym (other stored.begins.grain apart) ∙ stored.begins.is;
                } in
                known-told new b (still b noted (told-known old b (was_known b (view_of_stored stored.object)
                (stored-viewed before.objects b stored.object was)
                (ap (λ (v : ObjectView). v.colour) stored.is ∙ is))))
          ]
