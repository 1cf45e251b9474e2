-- The work of a state, object by object in the order of their bases.
use Rattle.std.proofs.Common.{◌≡◌, ℕ, suc, ◌+◌, ◌<◌, ◌≤◌, Bool, true, false, not, cond, List, [], ◌∷◌, Some}
use Rattle.std.proofs.Common.{length, refl, sym, ap, ◌∙◌, subst, ⊎_elim, arith}
use Rattle.std.proofs.lemmas.Bool.{cases_lt, eq-eqb}
use Rattle.std.proofs.lemmas.Bool.Decides.{nat_tests}
use Rattle.std.proofs.lemmas.List.Sums.{sum_by-cons}
use Rattle.std.specs.Prelude.{slice_get, nat_eq, nat_lt}
use Rattle.std.specs.List.{sum_by}
use Rattle.mm_model.specs.declared.object.Shape.{Shape}
use Rattle.mm_model.specs.Object.{is_scanned, live_objects}
use Rattle.mm_model.specs.State.{State}
use Rattle.mm_model.specs.Words.{scanned_slots}
use Rattle.mm_model.specs.Good.{IsGood}
use Rattle.mm_model.specs.Views.ByBase.{Begins, Based, based}
use Rattle.mm_model.specs.Views.ObjectView.{ObjectView, ObjectsByBase}
use Rattle.mm_model.specs.Views.View.{Shows, seen_objects}
use Rattle.mm_model.proofs.Lists.Keyed.{keyed-get}
use Rattle.mm_model.proofs.Lists.KeyedSums.{without, sum-without}
use Rattle.mm_model.proofs.View.ByBase.Entries.{based_at, begins_at, keyed-based}
use Rattle.mm_model.proofs.View.ByBase.MappedEntries.{begins_mapped, mapped_begins}
use Rattle.mm_model.proofs.View.ByBase.Seen.{sum-seen}
use Rattle.mm_cells.specs.Cells as cells
use Rattle.mm_cells.specs.Cells.{Taken}
use Rattle.mm_object.specs.Heap.{Heap, IsObject, IsSound, cell_of, cells_in}
use Rattle.mm_object.specs.Object.{StoredObject, shape_of, view_of_stored, views_of}
use Rattle.mm_gc.specs.Gc.{Gc, view_of_gc}
use Rattle.mm_pace.specs.Work.{work_of}
use Rattle.mmgc.specs.Walking.{IsWalked, object_work, work_below}

-- sums of what is the same for each element
sum-alike : {X : Type 0} (f g : X → ℕ) (xs : List X)
    → ((i : ℕ) (x : X) → slice_get xs i ≡ Some x → f x ≡ g x) → sum_by f xs ≡ sum_by g xs
sum-alike f g [] same = refl
sum-alike f g (x ∷ xs) same =
    let own = same 0 x refl in
    let rest = sum-alike f g xs (λ i y e. same (suc i) y e) in
    let all_f = sum_by-cons f x xs in
    let all_g = sum_by-cons g x xs in
    omega arith

-- the same, where what stands under one number is left out
sum-alike_without : {X : Type 0} (key : X → ℕ) (f g : X → ℕ) (k : ℕ) (xs : List X)
    → ((i : ℕ) (x : X) → slice_get xs i ≡ Some x → (key x ≡ k → ⊥) → f x ≡ g x)
    → sum_by f (without key k xs) ≡ sum_by g (without key k xs)
sum-alike_without key f g k [] same = refl
sum-alike_without {X} key f g k (x ∷ xs) same =
    split (sum-alike_without key f g k xs (λ i y e. same (suc i) y e)) (nat_eq (key x) k) refl
  where
    clash : true ≡ false → ⊥
    clash e = cc

    split : sum_by f (without key k xs) ≡ sum_by g (without key k xs) → (b : Bool) → nat_eq (key x) k ≡ b
        → sum_by f (cond (not b) (x ∷ without key k xs) (without key k xs))
        ≡ sum_by g (cond (not b) (x ∷ without key k xs) (without key k xs))
    split rest true e = rest
    split rest false e =
        let own = same 0 x refl (λ is. clash (sym (eq-eqb (key x) k is) ∙ e)) in
        let all_f = sum_by-cons f x (without key k xs) in
        let all_g = sum_by-cons g x (without key k xs) in
        omega (arith, rest)

abbrev base_of : Based ObjectView → ℕ
base_of o = o.base

abbrev below : ℕ → Based ObjectView → ℕ
below end o = cond (nat_lt o.base end) (object_work o.value) 0

below-yes : (end : ℕ) (o : Based ObjectView) → o.base < end → below end o ≡ object_work o.value
below-yes end o less =
    let yes : nat_lt o.base end ≡ true = grind (arith, nat_tests) in
    ap (λ b. cond b (object_work o.value) 0) yes

below-no : (end : ℕ) (o : Based ObjectView) → end ≤ o.base → below end o ≡ 0
below-no end o past =
    let no : nat_lt o.base end ≡ false = grind (arith, nat_tests) in
    ap (λ b. cond b (object_work o.value) 0) no

-- no object begins below 0
pub work_below-none : (objects : ObjectsByBase) → work_below 0 objects ≡ 0
work_below-none objects = none (based objects)
  where
    none : (xs : List (Based ObjectView)) → sum_by (below 0) xs ≡ 0
    none [] = refl
    none (x ∷ xs) =
        let own = below-no 0 x (omega arith) in
        let rest = none xs in
        let all = sum_by-cons (below 0) x xs in
        omega arith

-- One object more: none begins between, and none after it below the new end.
pub work_below-next : (objects : ObjectsByBase) (from base next : ℕ) (object : ObjectView)
    → Begins objects base object → from ≤ base → base < next
    → ((lower : ℕ) (other : ObjectView) → Begins objects lower other → from ≤ lower → base ≤ lower)
    → ((higher : ℕ) (other : ObjectView) → Begins objects higher other → base < higher → next ≤ higher)
    → work_below next objects ≡ work_below from objects + object_work object
work_below-next objects from base next object begins reached moves least apart =
    let o : Based ObjectView = record { base = base; value = object } in
    let place = based_at objects base object begins in
    let found = keyed-get base_of (based objects) (keyed-based objects) place.0 o place.1 in
    let after = sum-without base_of (below next) base (based objects) o (keyed-based objects) found in
    let before = sum-without base_of (below from) base (based objects) o (keyed-based objects) found in
    let own = below-yes next o moves in
    let own_before = below-no from o reached in
    let others = sum-alike_without base_of (below next) (below from) base (based objects) same in
    omega arith
  where
    same : (i : ℕ) (x : Based ObjectView) → slice_get (based objects) i ≡ Some x → (x.base ≡ base → ⊥)
        → below next x ≡ below from x
    same i x e other =
        let starts = begins_at objects i x e in
        ⊎_elim
        (λ (lower : x.base < base).
        ⊎_elim
        (λ (done : x.base < from). below-yes next x (omega arith) ∙ sym (below-yes from x done))
        (λ (past : from ≤ x.base).
        let no = least x.base x.value starts past in absurd (omega (arith, no, lower)))
        (cases_lt x.base from))
        (λ (higher : base ≤ x.base).
        let more : base < x.base = strict x.base higher other in
        below-no next x (apart x.base x.value starts more) ∙ sym (below-no from x (omega arith)))
        (cases_lt x.base base)
      where
        strict : (b : ℕ) → base ≤ b → (b ≡ base → ⊥) → base < b
        strict b least_of apart_from =
            ⊎_elim
            (λ (less : base < b). less)
            (λ (most : b ≤ base). absurd (apart_from (omega arith)))
            (cases_lt base b)

-- one for each and what each has
sum-one_each : {X : Type 0} (f : X → ℕ) (xs : List X) → sum_by (λ x. 1 + f x) xs ≡ length xs + sum_by f xs
sum-one_each f [] = refl
sum-one_each f (x ∷ xs) =
    let rest = sum-one_each f xs in
    let all = sum_by-cons (λ y. 1 + f y) x xs in
    let own = sum_by-cons f x xs in
    omega arith

-- Where no object begins behind, it is the work of the state that is seen.
pub work_below-all : (a : State) → IsGood a → (end : ℕ)
    → ((base : ℕ) (object : ObjectView) → Begins (seen_objects a) base object → base < end)
    → work_below end (seen_objects a) ≡ work_of a
work_below-all a good end before =
    sum-alike (below end) (λ o. object_work o.value) (based (seen_objects a))
    (λ i o e. below-yes end o (before o.base o.value (begins_at (seen_objects a) i o e)))
    ∙ sum-seen a good.placed (λ o. object_work o.value) (λ object. 1 + length (scanned_slots object))
    (λ birth object lives. refl)
    ∙ sum-one_each (λ object. length (scanned_slots object)) (live_objects a.objects)

-- The objects of a heap, whose cells are walked over.
module _ (h : Heap) (sound : IsSound h) where
  -- a taken cell is that of an object
  pub taken-object : (base : ℕ) (cell : Taken) → cells.Begins (cells_in h) base cell → IsObject h base
  taken-object base cell b =
      let m = mapped_begins cell_of h.objects base cell
      (record { grain = b.grain; aligned = b.aligned; is = b.is }) in
      (m.value, m.begins)

  object-taken : (base : ℕ) (object : StoredObject) → Begins h.objects base object
      → cells.Begins (cells_in h) base (cell_of object)
  object-taken base object b =
      let m = begins_mapped cell_of h.objects base object b in
      record { grain = m.grain; aligned = m.aligned; is = m.is }

  -- what is seen at a base is an object there
  seen-object : (base : ℕ) (object : ObjectView) → Begins (views_of h.objects) base object → IsObject h base
  seen-object base object b =
      let m = mapped_begins view_of_stored h.objects base object b in
      (m.value, m.begins)

  pub walk-inside : (base : ℕ) (object : StoredObject) → Begins h.objects base object
      → base + object.extent ≤ 16777216
  walk-inside base object b =
      let to = (sound.inside base object b).to in
      let size = sound.size in
      let most = sound.most in
      omega arith

  -- the next object
  pub walk-next : (from base : ℕ) → cells.IsNextTaken (cells_in h) from base → (object : StoredObject)
      → Begins h.objects base object → work_below (base + object.extent) (views_of h.objects)
      ≡ work_below from (views_of h.objects) + object_work (view_of_stored object)
  walk-next from base next object begins =
      let room = sound.room base object begins in
      work_below-next (views_of h.objects) from base (base + object.extent) (view_of_stored object)
      (begins_mapped view_of_stored h.objects base object begins) next.reached (omega arith)
      (λ lower other b past.
      let o = seen-object lower other b in next.least lower (cell_of o.0) (object-taken lower o.0 o.1) past)
      (λ higher other b above.
      let o = seen-object higher other b in
      let apart = sound.apart base higher object o.0 begins o.1 (λ same. omega (arith, same, above)) in
      ⊎_elim (λ (behind : base + object.extent ≤ higher). behind)
      (λ (before : higher + o.0.extent ≤ base). absurd (omega (arith, before, above))) apart.disjoint)

  -- there is none behind
  pub walk-all : (from : ℕ) → cells.NoneTakenFrom (cells_in h) from → (base : ℕ) (object : ObjectView)
      → Begins (views_of h.objects) base object → base < from
  walk-all from none base object b =
      let o = seen-object base object b in none base (cell_of o.0) (object-taken base o.0 o.1)

-- the work of an object, by its shape
pub work-scanned : (object : StoredObject) (shape : Shape) → shape ≡ shape_of object → is_scanned shape.kind ≡ true
    → 1 + shape.slots ≡ object_work (view_of_stored object)
work-scanned object shape same scanned =
    let kind : is_scanned object.kind ≡ true = ap (λ (s : Shape). is_scanned s.kind) (sym same) ∙ scanned in
    ap (λ (s : Shape). 1 + s.slots) same ∙ ap (λ b. 1 + length (cond b object.words [])) (sym kind)

-- the walk's work is that of each state that the heap shows
pub walked : (gc : Gc) (work : ℕ) → IsWalked (views_of gc.region.heap.objects) work → (a : State) → IsGood a
    → Shows (view_of_gc gc) a → work ≡ work_of a
walked gc work w a good shows =
    w.work_is ∙ ap (work_below w.end) shows.objects
    ∙ work_below-all a good w.end
    (λ base object b. w.behind_all base object
    (subst (λ (objects : ObjectsByBase). Begins objects base object) (sym shows.objects) b))
