-- There is room in the table for each object that isn't in it.
use Rattle.std.proofs.Common.{◌≡◌, ◌≢◌, ◌⊎◌, ⊎_elim, inl, inr, ℕ, zero, suc, ◌+◌, ◌-◌, ◌*◌, ◌/◌, ◌<◌, ◌≤◌, Bool, true}
use Rattle.std.proofs.Common.{false, cond, List, [], ◌∷◌, ◌++◌, length, Some, refl, sym, ap, ◌∙◌, subst}
use Rattle.std.proofs.Common.{length-append, arith}
use Rattle.std.specs.Prelude.{slice_get, slice_index, nat_lt, if◌then◌else◌}
use Rattle.std.proofs.lemmas.Bool.Decides.{nat_tests}
use Rattle.std.proofs.lemmas.Option.{slice_get-get_or}
use Rattle.mm_model.specs.Views.ByBase.{Begins}
use Rattle.mm_model.proofs.Lists.Growing.{get-push}
use Rattle.mm_model.proofs.View.ByBase.Entries.{begins_same}
use Rattle.mm_object.specs.Object.{StoredObject}
use Rattle.mm_object.specs.Heap.{Heap, IsSound}
use Rattle.mm_count.specs.Table.{Table, composite_of, IsEntry, IsRight}

-- a number as it is told once another is left out
abbrev skip : ℕ → ℕ → ℕ
skip v x = if nat_lt v x then x - 1 else x

skip_cases : (v x : ℕ) → ((v < x) × (skip v x ≡ x - 1)) ⊎ ((x ≤ v) × (skip v x ≡ x))
skip_cases v x = split (nat_lt v x) refl
  where
    split : (b : Bool) → nat_lt v x ≡ b
        → ((v < x) × (cond (nat_lt v x) (x - 1) x ≡ x - 1)) ⊎ ((x ≤ v) × (cond (nat_lt v x) (x - 1) x ≡ x))
    split true e =
        let lt : v < x = grind (arith, nat_tests) in inl (lt, ap (λ b. cond b (x - 1) x) e)
    split false e =
        let ge : x ≤ v = grind (arith, nat_tests) in inr (ge, ap (λ b. cond b (x - 1) x) e)

-- numbers that all differ are no more than they have values
pub pigeons : (m n : ℕ) (f : ℕ → ℕ) → ((i : ℕ) → i < m → f i < n)
    → ((i j : ℕ) → i < m → j < m → f i ≡ f j → i ≡ j) → m ≤ n
pigeons zero n f below apart = omega arith
pigeons (suc m) zero f below apart = absurd (let h = below 0 (omega arith) in omega arith)
pigeons (suc m) (suc n) f below apart =
    let other : (i : ℕ) → i < m → f i ≢ f m = λ i h e. (let same = apart i m (omega arith) (omega arith) e in omega
    arith) in
    let rest = pigeons m n (λ i. skip (f m) (f i))
    (λ i h. (let lt = below i (omega arith) in
    let last = below m (omega arith) in
    let ne = other i h in
    ⊎_elim (λ (c : (f m < f i) × (skip (f m) (f i) ≡ f i - 1)). (let a = c.0 in let b = c.1 in omega arith))
    (λ (c : (f i ≤ f m) × (skip (f m) (f i) ≡ f i)). (let a = c.0 in let b = c.1 in omega arith))
    (skip_cases (f m) (f i))))
    (λ i j h k e. apart i j (omega arith) (omega arith) (back (f m) (f i) (f j) (other i h) (other j k) e)) in
    omega arith
  where
    back : (v x y : ℕ) → x ≢ v → y ≢ v → skip v x ≡ skip v y → x ≡ y
    back v x y p q e =
        ⊎_elim
        (λ (c : (v < x) × (skip v x ≡ x - 1)).
        ⊎_elim (λ (d : (v < y) × (skip v y ≡ y - 1)). (let c0 = c.0 in let c1 = c.1 in let d0 = d.0 in let d1 = d.1 in
        omega arith))
        (λ (d : (y ≤ v) × (skip v y ≡ y)). (let c0 = c.0 in let c1 = c.1 in let d0 = d.0 in let d1 = d.1 in omega
        arith))
        (skip_cases v y))
        (λ (c : (x ≤ v) × (skip v x ≡ x)).
        ⊎_elim (λ (d : (v < y) × (skip v y ≡ y - 1)). (let c0 = c.0 in let c1 = c.1 in let d0 = d.0 in let d1 = d.1 in
        omega arith))
        (λ (d : (y ≤ v) × (skip v y ≡ y)). (let c0 = c.0 in let c1 = c.1 in let d0 = d.0 in let d1 = d.1 in omega
        arith))
        (skip_cases v y))
        (skip_cases v x)

-- where an object begins
pub record IsRoom (h : Heap) (base : ℕ) : Type 0 where
  pub grain : ℕ
  pub aligned : base ≡ 16 * grain
  pub from : 256 ≤ grain
  pub to : grain < 256 * h.size

pub begins_room : (h : Heap) → IsSound h → (base : ℕ) (o : StoredObject) → Begins h.objects base o → IsRoom h base
begins_room h sound base o begins =
    let inside = sound.inside base o begins in
    let room = sound.room base o begins in
    let a = begins.aligned in
    let from = inside.from in
    let to = inside.to in
    record { grain = begins.grain; aligned = a; from = omega arith; to = omega arith }

module _ (table : Table) (h : Heap) (right : IsRight table h) (sound : IsSound h) (base : ℕ) (o : StoredObject)
    (begins : Begins h.objects base o) (out : (composite_of o).listed ≡ false) where
  abbrev all : List ℕ
  all = table.entries ++ base ∷ []

  abbrev at : ℕ → ℕ
  at i = slice_index all i

  -- the object at each place, or the one that isn't in the table
  data Seat (i b : ℕ) : Type 0 where
    entry : IsEntry h.objects i b → Seat i b
    own : i ≡ length table.entries → b ≡ base → Seat i b

  clash : false ≡ true → ⊥
  clash e = cc

  seat : (i : ℕ) → i < length table.entries + 1 → Seat i (at i)
  seat i below =
      let size : length all ≡ length table.entries + 1 = length-append table.entries (base ∷ []) in
      let is = slice_get-get_or all i 0 (omega arith) in
      ⊎_elim (λ (e : slice_get table.entries i ≡ Some (at i)). entry (right.entries i (at i) e))
      (λ (e : (i ≡ length table.entries) × (base ≡ at i)). own e.0 (sym e.1))
      (get-push table.entries base i (at i) is)

  seat_room : (i b : ℕ) → Seat i b → IsRoom h b
  seat_room i b (entry e) = begins_room h sound b e.object e.begins
  seat_room i b (own e same) = subst (IsRoom h) (sym same) (begins_room h sound base o begins)

  not_listed : (i b : ℕ) → IsEntry h.objects i b → b ≡ base → ⊥
  not_listed i b e is =
      let same = begins_same h.objects base e.object o (subst (λ n. Begins h.objects n e.object) is e.begins) begins in
      clash (sym out ∙ subst (λ (x : StoredObject). (composite_of x).listed ≡ true) same e.listed)

  same_seat : (i j b : ℕ) → Seat i b → Seat j b → i ≡ j
  same_seat i j b (entry e) (entry f) =
      let same = begins_same h.objects b e.object f.object e.begins f.begins in
      sym e.stands ∙ ap (λ (x : StoredObject). (composite_of x).place) same ∙ f.stands
  same_seat i j b (entry e) (own q is) = absurd (not_listed i b e is)
  same_seat i j b (own p is) (entry f) = absurd (not_listed j b f is)
  same_seat i j b (own p is) (own q js) = p ∙ sym q

  pub room_left : length table.entries < 256 * (h.size - 1)
  room_left =
      let m = length table.entries + 1 in
      let f = λ (i : ℕ). at i / 16 - 256 in
      let two = sound.two in
      let most = pigeons m (256 * (h.size - 1)) f
      (λ i below. (let r = seat_room i (at i) (seat i below) in
      let a = r.aligned in let from = r.from in let to = r.to in omega arith))
      (λ i j p q e. (let r = seat_room i (at i) (seat i p) in
      let s = seat_room j (at j) (seat j q) in
      let a = r.aligned in let b = s.aligned in let c = r.from in let d = s.from in
      let same : at i ≡ at j = omega arith in
      same_seat i j (at j) (subst (Seat i) same (seat i p)) (seat j q))) in
      omega arith
