-- What a composite that is written makes of the heap and of the table.
use Rattle.std.proofs.Common.{◌≡◌, ◌≢◌, ℕ, ◌-◌, ◌<◌, ◌≤◌, Bool, true, false, [], ◌∷◌, ◌++◌, length, Some, refl}
use Rattle.std.proofs.Common.{sym, ap, ◌∙◌, subst, arith}
use Rattle.std.specs.Prelude.{slice_get, slice_index, ◌==◌}
use Rattle.std.proofs.lemmas.Option.{slice_get_within, slice_get-get_or}
use Rattle.mm_object.specs.Object.{StoredObject, StoredObjects}
use Rattle.mm_object.specs.Heap.{Heap, with_object}
use Rattle.mm_count.specs.declared.composite.Composite.{Composite}
use Rattle.mm_count.specs.Composite.{word_of, FitsWord, IsComposite}
use Rattle.mm_count.specs.Table.{Table, with_entries, without_place, composite_of, IsCountedAt, IsEntry, IsRight}
use Rattle.mm_count.specs.Counts.{composite_told, composite_at, raised, lowered, entered, left, with_pin, changed_at}
use Rattle.mm_count.specs.Counts.{unplaced, without_places}
use Rattle.mm_count.specs.Kept.{gives, with_entry_word, HasGap}
use Rattle.mm_count.proofs.Entries.{entry_at-begins, length-without_place}
use Rattle.mm_count.proofs.Places.{gives-changed, kept-changed, gives-same}
use Rattle.mm_count.proofs.Composites.{clash, decides, refutes, one_above, one_below, raised-sticky, raised-exact}
use Rattle.mm_count.proofs.Composites.{lowered-sticky, lowered-exact, composite_of-new, spelled-new}
use Rattle.mm_count.proofs.Right.{right-kept, gap-left, right-entered, right-closed}

pub composite_at-counted : (objects : StoredObjects) (base : ℕ) (k : IsCountedAt objects base)
    → composite_at objects base ≡ composite_of k.object
composite_at-counted objects base k = ap composite_told (entry_at-begins objects base k.object k.begins)

module _ (h : Heap) (base : ℕ) (k : IsCountedAt h.objects base) (r : Composite) (says : r ≡ composite_of k.object) where
  pub composite-said : (table : Table) → IsRight table h → IsComposite r
  composite-said table right =
      subst IsComposite (sym says) ((right.spelled base k.object k.begins).counted k.counted)

  pub place-within : (table : Table) → IsRight table h → r.listed ≡ true → r.place < length table.entries
  place-within table right listed =
      let place : r.place ≡ (composite_of k.object).place = ap (λ (c : Composite). c.place) says in
      let within = slice_get_within table.entries (composite_of k.object).place base
      (right.entered base k.object k.begins (sym (ap (λ (c : Composite). c.listed) says) ∙ listed)) in
      omega arith

  pub raise-kept : r.sticky ≡ true → without_places h ≡ changed_at raised base (without_places h)
  raise-kept e =
      kept-changed h base k.object k.begins raised
      (sym (raised-sticky (unplaced (composite_of k.object)) (sym (ap (λ (c : Composite). c.sticky) says) ∙ e)))

  pub lower-kept : r.sticky ≡ true → without_places h ≡ changed_at lowered base (without_places h)
  lower-kept e =
      kept-changed h base k.object k.begins lowered
      (sym (lowered-sticky (unplaced (composite_of k.object)) (sym (ap (λ (c : Composite). c.sticky) says) ∙ e)))

  pub leave-kept : r.listed ≡ false → without_places h ≡ changed_at left base (without_places h)
  leave-kept e =
      kept-changed h base k.object k.begins left
      (ap (λ (l : Bool). record (unplaced (composite_of k.object)) { listed = l })
      (sym (ap (λ (c : Composite). c.listed) says) ∙ e))

  module _ (h' : Heap) (r' : Composite) (writes : h' ≡ gives h base r' k.object) (fits : FitsWord r') where
    gives-by : (f : Composite → Composite) → unplaced r' ≡ f (unplaced (composite_of k.object))
        → without_places h' ≡ changed_at f base (without_places h)
    gives-by f same = ap without_places writes ∙ gives-changed h base k.object k.begins f r' fits same

    pub raise-gives : r' ≡ one_above r → r.sticky ≡ false
        → without_places h' ≡ changed_at raised base (without_places h)
    raise-gives is exact =
        gives-by raised
        (ap unplaced is ∙ ap (λ (c : Composite). one_above (unplaced c)) says
        ∙ sym (raised-exact (unplaced (composite_of k.object)) (sym (ap (λ (c : Composite). c.sticky) says) ∙ exact)))

    lower-by : unplaced r' ≡ record (unplaced r) { count = r.count - 1; listed = r.count == 1 } → r.sticky ≡ false
        → without_places h' ≡ changed_at lowered base (without_places h)
    lower-by is exact =
        gives-by lowered
        (is ∙ ap (λ (c : Composite). record (unplaced c) { count = c.count - 1; listed = c.count == 1 }) says
        ∙ sym (lowered-exact (unplaced (composite_of k.object)) (sym (ap (λ (c : Composite). c.sticky) says) ∙ exact)))

    pub lower-gives : r' ≡ one_below r → r.sticky ≡ false → r.listed ≡ false → r.count ≢ 1
        → without_places h' ≡ changed_at lowered base (without_places h)
    lower-gives is exact out more =
        lower-by
        (ap unplaced is
        ∙ ap (λ (l : Bool). record (unplaced r) { count = r.count - 1; listed = l })
        (out ∙ sym (refutes r.count 1 more)))
        exact

    pub lower-enters : (place : ℕ) → r' ≡ with_entry_word place (one_below r) → r.sticky ≡ false → r.count ≡ 1
        → without_places h' ≡ changed_at lowered base (without_places h)
    lower-enters place is exact one =
        lower-by
        (ap unplaced is
        ∙ ap (λ (l : Bool). record (unplaced r) { count = r.count - 1; listed = l }) (sym (decides r.count 1 one)))
        exact

    pub born-enters : (place : ℕ) → r' ≡ with_entry_word place r
        → without_places h' ≡ changed_at entered base (without_places h)
    born-enters place is =
        gives-by entered (ap unplaced is ∙ ap (λ (c : Composite). entered (unplaced c)) says)

    pub leave-gives : r' ≡ left r → without_places h' ≡ changed_at left base (without_places h)
    leave-gives is = gives-by left (ap unplaced is ∙ ap (λ (c : Composite). left (unplaced c)) says)

    pub pin-gives : (pinned : Bool) → r' ≡ with_pin pinned r
        → without_places h' ≡ changed_at (with_pin pinned) base (without_places h)
    pin-gives pinned is =
        gives-by (with_pin pinned) (ap unplaced is ∙ ap (λ (c : Composite). with_pin pinned (unplaced c)) says)

    abbrev now : StoredObject
    now = record k.object { composite = word_of r' }

    tells : composite_of now ≡ r'
    tells = composite_of-new k.object r' fits

    pub kept-right : (table : Table) → IsComposite r' → r'.listed ≡ r.listed → r'.place ≡ r.place → IsRight table h
        → IsRight table h'
    kept-right table is listed place right =
        subst (IsRight table) (sym writes)
        (right-kept h base k.object now k.begins refl (spelled-new k.object r' fits is k.counted) table right
        (ap (λ (c : Composite). c.listed) tells ∙ listed ∙ ap (λ (c : Composite). c.listed) says)
        (ap (λ (c : Composite). c.place) tells ∙ place ∙ ap (λ (c : Composite). c.place) says))

    pub left-gap : (table : Table) → IsComposite r' → r.listed ≡ true → r'.listed ≡ false → IsRight table h
        → HasGap table h' r.place
    left-gap table is was out right =
        subst (λ (g : Heap). HasGap table g r.place) (sym writes)
        (subst (λ n. HasGap table (with_object h base (Some now)) n) (sym (ap (λ (c : Composite). c.place) says))
        (gap-left h base k.object now k.begins refl (spelled-new k.object r' fits is k.counted) table right
        (sym (ap (λ (c : Composite). c.listed) says) ∙ was) (ap (λ (c : Composite). c.listed) tells ∙ out)))

    pub entered-right : (table : Table) → IsComposite r' → r.listed ≡ false → r'.listed ≡ true
        → r'.place ≡ length table.entries → IsRight table h
        → IsRight (with_entries table (table.entries ++ base ∷ [])) h'
    entered-right table is was listed place right =
        subst (IsRight (with_entries table (table.entries ++ base ∷ []))) (sym writes)
        (right-entered h base k.object now k.begins refl (spelled-new k.object r' fits is k.counted) table right
        k.counted (sym (ap (λ (c : Composite). c.listed) says) ∙ was)
        (ap (λ (c : Composite). c.listed) tells ∙ listed) (ap (λ (c : Composite). c.place) tells ∙ place))

-- the last entry comes into the gap
module _ (table : Table) (h : Heap) (gap : ℕ) (has : HasGap table h gap) (below : gap < length table.entries - 1)
    (moved : ℕ) (last : moved ≡ slice_index table.entries (length table.entries - 1)) where
  pub last-is : slice_get table.entries (length table.entries - 1) ≡ Some moved
  last-is =
      slice_get-get_or table.entries (length table.entries - 1) 0 (omega arith)
      ∙ ap (λ (n : ℕ). Some n) (sym last)

  pub last-entry : IsEntry h.objects (length table.entries - 1) moved
  last-entry = has.entries (length table.entries - 1) moved last-is (λ e. omega arith)

  abbrev pub last-counted : IsCountedAt h.objects moved
  last-counted = record { object = last-entry.object; begins = last-entry.begins; counted = last-entry.counted }

  last-listed : (composite_of last-counted.object).listed ≡ true
  last-listed = last-entry.listed

  module _ (r r' : Composite) (says : r ≡ composite_of last-counted.object) (is : r' ≡ with_entry_word gap r)
      (fits : FitsWord r') (h' : Heap) (writes : h' ≡ gives h moved r' last-counted.object) where
    pub closed-same : without_places h' ≡ without_places h
    closed-same =
        let o = last-counted.object in
        let listed : true ≡ (composite_of o).listed = sym last-listed in
        ap without_places writes
        ∙ gives-same h moved o last-counted.begins r' fits
        (ap unplaced is ∙ ap (λ (c : Composite). record (unplaced c) { listed = true }) says
        ∙ ap (λ (l : Bool). record (unplaced (composite_of o)) { listed = l }) listed)

    pub closed-right : IsRight (with_entries table (without_place table.entries gap)) h'
    closed-right =
        let o = last-counted.object in
        let c = (has.spelled moved o last-counted.begins).counted last-counted.counted in
        let own : IsComposite (with_entry_word gap r) =
        record {
          sticky = λ e. full c e;
          exact = λ e. exact c e;
          listed = λ e. zero c;
          unlisted = λ e. clash (sym e);
        } in
        let spelled = spelled-new o r' fits (subst IsComposite (sym is) own) last-counted.counted in
        let tells = composite_of-new o r' fits in
        subst (IsRight (with_entries table (without_place table.entries gap))) (sym writes)
        (right-closed table h gap has below moved last o (record o { composite = word_of r' }) last-counted.begins refl
        spelled (ap (λ (c : Composite). c.listed) (tells ∙ is)) (ap (λ (c : Composite). c.place) (tells ∙ is)) last-is)
      where
        count-said : r.count ≡ (composite_of last-counted.object).count
        count-said = ap (λ (c : Composite). c.count) says

        exact : IsComposite (composite_of last-counted.object) → r.sticky ≡ false → r.count ≤ 254
        exact c e =
            let most = c.exact (sym (ap (λ (c : Composite). c.sticky) says) ∙ e) in
            let n = count-said in omega arith

        zero : IsComposite (composite_of last-counted.object) → r.count ≡ 0
        zero c = count-said ∙ c.listed last-listed

        full : IsComposite (composite_of last-counted.object) → r.sticky ≡ true → r.count ≡ 255
        full c e = count-said ∙ c.sticky (sym (ap (λ (c : Composite). c.sticky) says) ∙ e)

pub below-last : (table new : Table) (gap len : ℕ) → new ≡ with_entries table (without_place table.entries gap)
    → len ≡ length new.entries → gap < length table.entries → gap ≢ len → gap < length table.entries - 1
below-last table new gap len is size within other =
    let left : len ≡ length table.entries - 1 =
    size ∙ ap (λ (t : Table). length t.entries) is ∙ length-without_place table.entries gap in
    omega arith

-- what a condition on the count at a base says of the object there
pub some-said : (objects : StoredObjects) (base : ℕ) (k : IsCountedAt objects base)
    → ((composite_at objects base).sticky ≡ false → (composite_at objects base).count ≢ 0)
    → (composite_of k.object).sticky ≡ false → (composite_of k.object).count ≢ 0
some-said objects base k some =
    subst (λ (c : Composite). c.sticky ≡ false → c.count ≢ 0) (composite_at-counted objects base k) some

-- an object with references isn't in the table
pub out-said : (h : Heap) (base : ℕ) (k : IsCountedAt h.objects base) (r : Composite) → r ≡ composite_of k.object
    → IsComposite r → ((composite_of k.object).sticky ≡ false → (composite_of k.object).count ≢ 0)
    → r.sticky ≡ false → r.listed ≡ false
out-said h base k r says is some exact = split r.listed refl
  where
    split : (b : Bool) → r.listed ≡ b → b ≡ false
    split false e = refl
    split true e =
        absurd
        (some (sym (ap (λ (c : Composite). c.sticky) says) ∙ exact)
        (sym (ap (λ (c : Composite). c.count) says) ∙ is.listed e))
