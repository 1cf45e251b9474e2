-- The objects of a state's view: each live object at its base, and nothing else.
use Rattle.std.proofs.Common.{◌≡◌, ℕ, ◌*◌, ◌/◌, ◌%◌, ◌<◌, ◌≤◌, Bool, true, false, cond, eqb-true, map, length, Option}
use Rattle.std.proofs.Common.{Some, None, refl, sym, ap, ◌∙◌, subst, ⊎_elim, arith, zero-add}
use Rattle.std.proofs.lemmas.Bool.{cases_lt, eq-eqb}
use Rattle.std.proofs.lemmas.List.{length-map, length-set}
use Rattle.std.proofs.lemmas.List.FromFn.{length-range_with_len, get_or-range_with_len}
use Rattle.std.proofs.lemmas.Nat.Gcd.{dvd_of_mod-eq-zero, mod-eq-zero_of_dvd, dvd_trans}
use Rattle.std.proofs.lemmas.Option.{slice_get-map, slice_get-get_or, slice_get_past, slice_get_within}
use Rattle.std.specs.Prelude.{◌&&◌, slice_get, nat_eq}
use Rattle.std.specs.List.{list_any, find, sum_by, count_by, range_with_len}
use Rattle.std.specs.Option.{option_map, option_and_then}
use Rattle.mm_model.specs.Object.{Object, is_live, live_objects}
use Rattle.mm_model.specs.State.{State, Lives, lives_at}
use Rattle.mm_model.specs.After.{birth_at}
use Rattle.mm_model.specs.Places.Place.{Piece, object_piece, live_pieces}
use Rattle.mm_model.specs.Good.{IsCell, IsPages, IsInside, IsPlaced}
use Rattle.mm_model.specs.Views.ByBase.{Begins, Based, with_entry, based, changed}
use Rattle.mm_model.specs.Views.ObjectView.{ObjectView, ObjectsByBase}
use Rattle.mm_model.specs.Views.View.{seen, seen_at, seen_objects}
use Rattle.mm_model.proofs.Lists.Growing.{find-Some, find-only, position_from-Some}
use Rattle.mm_model.proofs.Lists.Keyed.{at, keyed-get, any-map, seen_alike}
use Rattle.mm_model.proofs.Lists.KeyedSums.{sums_alike}
use Rattle.mm_model.proofs.Places.Placing.{both}
use Rattle.mm_model.proofs.Places.SizeClasses.{class_bounds}
use Rattle.mm_model.proofs.Good.Living.{some_extent, lives_same, lives_inside, lives_where}
use Rattle.mm_model.proofs.Good.LiveLists.{find-live, any-live, count-live, keyed-lives, birth_at-lives, find-lives_at}
use Rattle.mm_model.proofs.View.ByBase.Entries.{get-changed, length-changed, get-with_entry, same_entries, based_at}
use Rattle.mm_model.proofs.View.ByBase.Entries.{begins_at}
use Rattle.mm_model.proofs.View.ByBase.Entries.{keyed-based}

-- a live object as it stands in the view
abbrev pub seen_based : State → ℕ → Object → Based ObjectView
seen_based a birth object = record { base = object.base; value = seen a birth object }

-- a live object that the view has at a base
pub record IsSeen (a : State) (base : ℕ) (o : ObjectView) : Type 0 where
  pub birth : ℕ
  pub object : Object
  pub lives : Lives a birth object
  pub at : object.base ≡ base
  pub is : o ≡ seen a birth object

module _ (a : State) where
  pub length-seen : length (seen_objects a) ≡ 256 * a.settings.max
  length-seen =
      length-map (map (λ grain. 16 * grain) (range_with_len 0 (256 * a.settings.max))) (seen_at a)
      ∙ length-map (range_with_len 0 (256 * a.settings.max)) (λ grain. 16 * grain)
      ∙ length-range_with_len 0 (256 * a.settings.max)

  pub get-seen : (k : ℕ) → k < 256 * a.settings.max → slice_get (seen_objects a) k ≡ Some (seen_at a (16 * k))
  get-seen k below =
      let grains = range_with_len 0 (256 * a.settings.max) in
      let within : k < length grains = let all = length-range_with_len 0 (256 * a.settings.max) in omega arith in
      let here : slice_get grains k ≡ Some k =
      slice_get-get_or grains k 0 within
      ∙ ap (λ (n : ℕ). Some n) (get_or-range_with_len 0 (256 * a.settings.max) k 0 below ∙ zero-add k) in
      slice_get-map (seen_at a) (map (λ grain. 16 * grain) grains) k
      ∙ ap (option_map (seen_at a)) (slice_get-map (λ (grain : ℕ). 16 * grain) grains k)
      ∙ ap (λ found. option_map (seen_at a) (option_map (λ (grain : ℕ). 16 * grain) found)) here

  pub get-beyond : (k : ℕ) → 256 * a.settings.max ≤ k → slice_get (seen_objects a) k ≡ None
  get-beyond k past = let all = length-seen in slice_get_past (seen_objects a) k (omega arith)

  -- what the view has at a base is a live object that begins there
  pub seen_at-some : (base : ℕ) (o : ObjectView) → seen_at a base ≡ Some o → IsSeen a base o
  seen_at-some base o e = split (birth_at a base) refl e
    where
      second : (birth : ℕ) → birth_at a base ≡ Some birth
          → (found : Option Object) → slice_get a.objects birth ≡ found → option_map (seen a birth) found ≡ Some o
          → IsSeen a base o
      second birth p None q r = cc
      second birth p (Some object) q r =
          let place = position_from-Some (lives_at base) a.objects birth p in
          let one = place.1 in
          let same : place.0 ≡ object = cc in
          let passes : lives_at base object ≡ true = subst (λ x. lives_at base x ≡ true) same place.2 in
          record {
            birth = birth;
            object = object;
            lives = lives_where a birth object _ q passes;
            at = eqb-true _ _ (both _ _ passes).1;
            is = cc;
          }

      split : (found : Option ℕ) → birth_at a base ≡ found
          → option_and_then (λ birth. option_map (seen a birth) (slice_get a.objects birth)) found ≡ Some o
          → IsSeen a base o
      split None p q = cc
      split (Some birth) p q = second birth p (slice_get a.objects birth) refl q

  pub seen-begins : (base : ℕ) (o : ObjectView) → Begins (seen_objects a) base o → IsSeen a base o
  seen-begins base o h =
      let within : h.grain < 256 * a.settings.max =
      let all = length-seen in
      let less = slice_get_within (seen_objects a) h.grain (Some o) h.is in
      omega arith in
      let there : seen_at a (16 * h.grain) ≡ Some o = same_inside (sym (get-seen h.grain within) ∙ h.is) in
      seen_at-some base o (ap (seen_at a) h.aligned ∙ there)
    where
      same_inside : {x y : Option ObjectView} → ◌≡◌ {A = Option (Option ObjectView)} (Some x) (Some y) → x ≡ y
      same_inside e = cc

-- each piece begins at a multiple of 16 bytes, and below the end of the greatest region
pub piece_grain : (limit : ℕ) (p : Piece) → IsInside limit p
    → (grain : ℕ) × (p.base ≡ 16 * grain) × (grain < 256 * limit)
piece_grain limit p h =
    let even : p.base % 16 ≡ 0 =
    ⊎_elim (λ (cell : IsCell p).
    let size = class_bounds p.extent cell.class in
    let whole = mod-eq-zero_of_dvd 16
    (dvd_trans 16 (dvd_of_mod-eq-zero 16 size.even) (dvd_of_mod-eq-zero p.extent cell.grid)) in
    omega arith)
    (λ (pages : IsPages p). let page = pages.page in omega arith) h.placed in
    let some = some_extent limit p h in
    let to = h.to in
    (p.base / 16, omega arith, omega arith)

based_path : {b c : ℕ} {x y : ObjectView} → b ≡ c → y ≡ x
    → ◌≡◌ {A = Based ObjectView} (record { base = c; value = y }) (record { base = b; value = x })
based_path {b = b} {y = y} p q =
    ap (λ c. record { base = c; value = y }) (sym p) ∙ ap (λ z. record { base = b; value = z }) q

module _ (a : State) (placed : IsPlaced a.settings.max (live_pieces a)) where
  pub seen_at-lives : (birth : ℕ) (object : Object) → Lives a birth object
      → seen_at a object.base ≡ Some (seen a birth object)
  seen_at-lives birth object h =
      ap (option_and_then (λ birth. option_map (seen a birth) (slice_get a.objects birth)))
      (birth_at-lives a placed birth object h)
      ∙ ap (option_map (seen a birth)) h.is

  pub begins-seen : (birth : ℕ) (object : Object) → Lives a birth object
      → Begins (seen_objects a) object.base (seen a birth object)
  begins-seen birth object h =
      let grain = piece_grain a.settings.max (object_piece object) (lives_inside a placed birth object h) in
      record {
        grain = grain.0;
        aligned = grain.1;
        is = get-seen a grain.0 grain.2
            ∙ ap (λ (found : Option ObjectView). Some found)
            (ap (seen_at a) (sym grain.1) ∙ seen_at-lives birth object h);
      }

  -- what stands in the view's list is a live object
  pub seen-based : (n : ℕ) (o : Based ObjectView) → slice_get (based (seen_objects a)) n ≡ Some o
      → (birth : ℕ) × (object : Object) × Lives a birth object × (o ≡ seen_based a birth object)
  seen-based n o e =
      let one = seen-begins a o.base o.value (begins_at (seen_objects a) n o e) in
      (one.birth, one.object, one.lives, based_path one.at one.is)

module _ (a : State) (placed : IsPlaced a.settings.max (live_pieces a)) where
  -- what tells the same of each live object and of what the view has of it tells the same under each base
  same_under : {P : Type 0} (f : Based ObjectView → P) (own : Object → P)
      → ((birth : ℕ) (object : Object) → Lives a birth object → f (seen_based a birth object) ≡ own object)
      → (k : ℕ) → option_map f (at (λ o. o.base) (based (seen_objects a)) k)
      ≡ option_map own (at (λ o. o.base) (live_objects a.objects) k)
  same_under {P} f own same k = split (find (lives_at k) a.objects) refl ∙ ap (option_map own) (find-live a.objects k)
    where
      none : find (lives_at k) a.objects ≡ None → (found : Option (Based ObjectView))
          → at (λ (o : Based ObjectView). o.base) (based (seen_objects a)) k ≡ found → option_map f found ≡ None
      none e None p = refl
      none e (Some o) p =
          let place = find-Some (λ (o : Based ObjectView). nat_eq o.base k) (based (seen_objects a)) o p in
          let one = seen-based a placed place.place o place.is in
          let base : one.1.base ≡ k = ap (λ (o : Based ObjectView). o.base) (sym one.3) ∙ eqb-true _ _ place.passes in
          let found = find-lives_at a placed one.0 one.1 one.2 in
          let some : find (lives_at k) a.objects ≡ Some one.1 =
          ap (λ n. find (lives_at n) a.objects) (sym base) ∙ found in
          cc

      split : (found : Option Object) → find (lives_at k) a.objects ≡ found
          → option_map f (at (λ o. o.base) (based (seen_objects a)) k) ≡ option_map own (find (lives_at k) a.objects)
      split None e = none e _ refl ∙ ap (option_map own) (sym e)
      split (Some object) e =
          let place = find-Some (lives_at k) a.objects object e in
          let lives = lives_where a place.place object _ place.is place.passes in
          let base : object.base ≡ k = eqb-true _ _ (both _ _ place.passes).1 in
          let stands = based_at (seen_objects a) object.base (seen a place.place object)
          (begins-seen a placed place.place object lives) in
          let found = keyed-get (λ (o : Based ObjectView). o.base) (based (seen_objects a))
          (keyed-based (seen_objects a)) stands.0 (seen_based a place.place object) stands.1 in
          ap (λ n. option_map f (at (λ o. o.base) (based (seen_objects a)) n)) (sym base) ∙ ap (option_map f) found
          ∙ ap (λ p. Some p) (same place.place object lives) ∙ ap (option_map own) (sym e)

  pub any-seen : (test : Based ObjectView → Bool) (own : Object → Bool)
      → ((birth : ℕ) (object : Object) → Lives a birth object → test (seen_based a birth object) ≡ own object)
      → list_any test (based (seen_objects a)) ≡ list_any (λ o. is_live o && own o) a.objects
  any-seen test own same =
      sym (any-map test (λ b. b) (based (seen_objects a)))
      ∙ seen_alike (λ o. o.base) (λ o. o.base) test own (based (seen_objects a)) (live_objects a.objects)
      (keyed-based (seen_objects a)) (keyed-lives a placed) (same_under test own same) (λ b. b)
      ∙ any-map own (λ b. b) (live_objects a.objects) ∙ any-live own a.objects

  pub sum-seen : (f : Based ObjectView → ℕ) (own : Object → ℕ)
      → ((birth : ℕ) (object : Object) → Lives a birth object → f (seen_based a birth object) ≡ own object)
      → sum_by f (based (seen_objects a)) ≡ sum_by own (live_objects a.objects)
  sum-seen f own same =
      sums_alike (λ o. o.base) (λ o. o.base) f own (based (seen_objects a)) (live_objects a.objects)
      (keyed-based (seen_objects a)) (keyed-lives a placed) (same_under f own same) (λ n. n)

  pub count-seen : (test : Based ObjectView → Bool) (own : Object → Bool)
      → ((birth : ℕ) (object : Object) → Lives a birth object → test (seen_based a birth object) ≡ own object)
      → count_by test (based (seen_objects a)) ≡ count_by (λ o. is_live o && own o) a.objects
  count-seen test own same =
      sum-seen (λ o. cond (test o) 1 0) (λ o. cond (own o) 1 0)
      (λ birth object lives. ap (λ b. cond b 1 0) (same birth object lives))
      ∙ count-live own a.objects

  pub find-seen : (test : Based ObjectView → Bool) (birth : ℕ) (object : Object) → Lives a birth object
      → test (seen_based a birth object) ≡ true
      → ((other : ℕ) (o : Object) → Lives a other o → test (seen_based a other o) ≡ true → other ≡ birth)
      → find test (based (seen_objects a)) ≡ Some (seen_based a birth object)
  find-seen test birth object h passes only =
      let stands = based_at (seen_objects a) object.base (seen a birth object) (begins-seen a placed birth object h) in
      find-only test (based (seen_objects a)) stands.0 (seen_based a birth object) stands.1 passes
      (λ i other is t.
      let one = seen-based a placed i other is in
      let birth_is : one.0 ≡ birth = only one.0 one.1 one.2 (subst (λ o. test o ≡ true) one.3 t) in
      let same : one.1 ≡ object =
      lives_same a birth one.1 object (subst (λ n. Lives a n one.1) birth_is one.2) h in
      one.3 ∙ ap (λ n. seen_based a n one.1) birth_is ∙ ap (seen_based a birth) same)

  pub find-seen-none : (test : Based ObjectView → Bool)
      → ((birth : ℕ) (object : Object) → Lives a birth object → test (seen_based a birth object) ≡ true → ⊥)
      → find test (based (seen_objects a)) ≡ None
  find-seen-none test none = split (find test (based (seen_objects a))) refl
    where
      split : (found : Option (Based ObjectView)) → find test (based (seen_objects a)) ≡ found → found ≡ None
      split None e = refl
      split (Some o) e =
          let place = find-Some test (based (seen_objects a)) o e in
          let one = seen-based a placed place.place o place.is in
          absurd (none one.0 one.1 one.2 (subst (λ o. test o ≡ true) one.3 place.passes))

module _ (a b : State) (limit : b.settings.max ≡ a.settings.max) where
  get_seen-of : (k : ℕ) → k < 256 * a.settings.max → slice_get (seen_objects b) k ≡ Some (seen_at b (16 * k))
  get_seen-of k below = get-seen b k (subst (λ n. k < 256 * n) (sym limit) below)

  get_beyond-of : (k : ℕ) → 256 * a.settings.max ≤ k → slice_get (seen_objects b) k ≡ None
  get_beyond-of k past = get-beyond b k (subst (λ n. 256 * n ≤ k) (sym limit) past)

  -- lists that have what the view has at each base below the end are the view's
  pub seen_objects-entries : (entries : ObjectsByBase) → length entries ≡ 256 * a.settings.max
      → ((k : ℕ) → k < 256 * a.settings.max → slice_get entries k ≡ Some (seen_at b (16 * k)))
      → seen_objects b ≡ entries
  seen_objects-entries entries all same =
      same_entries (seen_objects b) entries
      (λ k. ⊎_elim (λ (below : k < 256 * a.settings.max). get_seen-of k below ∙ sym (same k below))
      (λ (past : 256 * a.settings.max ≤ k).
      get_beyond-of k past ∙ sym (slice_get_past entries k (omega arith)))
      (cases_lt k (256 * a.settings.max)))

  -- two states that have the same at each base
  pub seen_objects-same : ((k : ℕ) → k < 256 * a.settings.max → seen_at b (16 * k) ≡ seen_at a (16 * k))
      → seen_objects b ≡ seen_objects a
  seen_objects-same same =
      seen_objects-entries (seen_objects a) (length-seen a)
      (λ k below. get-seen a k below ∙ ap (λ (o : Option ObjectView). Some o) (sym (same k below)))

  -- each object changed by a function of its base and of what is seen of it
  pub seen_objects-changed : (f : ℕ → ObjectView → Option ObjectView)
      → ((k : ℕ) → k < 256 * a.settings.max → seen_at b (16 * k) ≡ option_and_then (f (16 * k)) (seen_at a (16 * k)))
      → seen_objects b ≡ changed f (seen_objects a)
  seen_objects-changed f same =
      seen_objects-entries (changed f (seen_objects a)) (length-changed f (seen_objects a) ∙ length-seen a)
      (λ k below.
      get-changed f (seen_objects a) k ∙ ap (option_map (option_and_then (f (16 * k)))) (get-seen a k below)
      ∙ ap (λ (o : Option ObjectView). Some o) (sym (same k below)))

  -- another entry for one base
  pub seen_objects-with_entry : (grain : ℕ) (entry : Option ObjectView) → grain < 256 * a.settings.max
      → seen_at b (16 * grain) ≡ entry
      → ((k : ℕ) → k < 256 * a.settings.max → (k ≡ grain → ⊥) → seen_at b (16 * k) ≡ seen_at a (16 * k))
      → seen_objects b ≡ with_entry (16 * grain) entry (seen_objects a)
  seen_objects-with_entry grain entry inside here same =
      seen_objects-entries (with_entry (16 * grain) entry (seen_objects a))
      (length-set (seen_objects a) (16 * grain / 16) entry ∙ length-seen a)
      (λ k below.
      let all = length-seen a in
      get-with_entry (seen_objects a) grain entry k (omega arith) ∙ split k below (nat_eq k grain) refl)
    where
      some : {x y : Option ObjectView} → x ≡ y → ◌≡◌ {A = Option (Option ObjectView)} (Some x) (Some y)
      some e = ap (λ (o : Option ObjectView). Some o) e

      split : (k : ℕ) → k < 256 * a.settings.max → (c : Bool) → nat_eq k grain ≡ c
          → cond c (Some entry) (slice_get (seen_objects a) k) ≡ Some (seen_at b (16 * k))
      split k below true e =
          let is : k ≡ grain = eqb-true k grain e in
          some (sym here ∙ ap (λ n. seen_at b (16 * n)) (sym is))
      split k below false e =
          let apart : k ≡ grain → ⊥ = λ is. clash (sym (eq-eqb k grain is) ∙ e) in
          get-seen a k below ∙ some (sym (same k below apart))
        where
          clash : true ≡ false → ⊥
          clash e = cc
