-- The table stays right where one object's composite changes and the table with it.
use Rattle.std.proofs.Common.{◌≡◌, ◌≢◌, ◌⊎◌, ⊎_elim, ℕ, ◌-◌, ◌<◌, true, false, [], ◌∷◌, ◌++◌, length, Option, Some}
use Rattle.std.proofs.Common.{sym, ap, ◌∙◌, subst, arith}
use Rattle.std.specs.Prelude.{slice_get, slice_index, IsTrue}
use Rattle.std.proofs.lemmas.Bool.{cases_eq}
use Rattle.std.proofs.lemmas.Option.{slice_get_within}
use Rattle.mm_model.specs.Object.{is_counted}
use Rattle.mm_model.specs.Views.ByBase.{Begins}
use Rattle.mm_model.proofs.Lists.Growing.{get-front, get-push, get-last}
use Rattle.mm_model.proofs.View.ByBase.Entries.{begins_same}
use Rattle.mm_model.proofs.View.ByBase.ReplacedEntries.{begins_here, begins_there, begins_cases}
use Rattle.mm_object.specs.Object.{StoredObject}
use Rattle.mm_object.specs.Heap.{Heap, with_object}
use Rattle.mm_count.specs.Table.{Table, with_entries, without_place, composite_of, IsEntry, IsSpelled, IsRight}
use Rattle.mm_count.specs.Kept.{HasGap}
use Rattle.mm_count.proofs.Entries.{without_place_within}
use Rattle.mm_count.proofs.Entries.{without_place_other, without_place_gap}

clash : false ≡ true → ⊥
clash e = cc

module _ (h : Heap) (base : ℕ) (o o' : StoredObject) (begins : Begins h.objects base o) where
  abbrev h' : Heap
  h' = with_object h base (Some o')

  spelled-with : ((b : ℕ) (x : StoredObject) → Begins h.objects b x → IsSpelled x) → IsSpelled o'
      → (b : ℕ) (x : StoredObject) → Begins h'.objects b x → IsSpelled x
  spelled-with all own b x there =
      ⊎_elim (λ (e : (b ≡ base) × (x ≡ o')). subst IsSpelled (sym e.1) own)
      (λ (n : (b ≢ base) × Begins h.objects b x). all b x n.1) (begins_cases h.objects base o o' begins b x there)

  -- an entry of another object is still one
  entry-other : (place b : ℕ) → IsEntry h.objects place b → b ≢ base → IsEntry h'.objects place b
  entry-other place b e other =
      record {
        object = e.object;
        begins = begins_there h.objects base o o' begins b e.object other e.begins;
        counted = e.counted;
        listed = e.listed;
        stands = e.stands;
      }

  module _ (kind : o'.kind ≡ o.kind) (spelled : IsSpelled o') where
    -- that of the object itself is one where it says so
    entry-own : (place : ℕ) → IsTrue (is_counted o.kind) → (composite_of o').listed ≡ true
        → (composite_of o').place ≡ place → IsEntry h'.objects place base
    entry-own place counted listed at =
        record {
          object = o';
          begins = begins_here h.objects base o o' begins;
          counted = subst (λ k. IsTrue (is_counted k)) (sym kind) counted;
          listed = listed;
          stands = at;
        }

    module _ (table : Table) (right : IsRight table h) where
      own-counted : (place : ℕ) → slice_get table.entries place ≡ Some base → IsTrue (is_counted o.kind)
      own-counted place is =
          let e = right.entries place base is in
          subst (λ (x : StoredObject). IsTrue (is_counted x.kind)) (begins_same h.objects base e.object o e.begins
          begins)
          e.counted

      own-place : (place : ℕ) → slice_get table.entries place ≡ Some base → (composite_of o).place ≡ place
      own-place place is =
          let e = right.entries place base is in
          subst (λ (x : StoredObject). (composite_of x).place ≡ place)
          (begins_same h.objects base e.object o e.begins begins) e.stands

      own-listed : (place : ℕ) → slice_get table.entries place ≡ Some base → (composite_of o).listed ≡ true
      own-listed place is =
          let e = right.entries place base is in
          subst (λ (x : StoredObject). (composite_of x).listed ≡ true)
          (begins_same h.objects base e.object o e.begins begins) e.listed

      -- where the object stays in its place, or out of the table
      pub right-kept : (composite_of o').listed ≡ (composite_of o).listed
          → (composite_of o').place ≡ (composite_of o).place → IsRight table h'
      right-kept listed at =
          record {
            pages = right.pages;
            spelled = spelled-with right.spelled spelled;
            entered = λ b x there is.
                ⊎_elim
                (λ (e : (b ≡ base) × (x ≡ o')).
                let now = subst (λ (x : StoredObject). (composite_of x).listed ≡ true) e.1 is in
                let old = right.entered base o begins (sym listed ∙ now) in
                let place : (composite_of x).place ≡ (composite_of o).place =
                ap (λ (x : StoredObject). (composite_of x).place) e.1 ∙ at in
                ap (slice_get table.entries) place ∙ old ∙ ap (λ (n : ℕ). Some n) (sym e.0))
                (λ (n : (b ≢ base) × Begins h.objects b x). right.entered b x n.1 is)
                (begins_cases h.objects base o o' begins b x there);
            entries = λ place b is.
                ⊎_elim
                (λ (e : b ≡ base).
                let own = is ∙ ap (λ (n : ℕ). Some n) e in
                subst (λ n. IsEntry h'.objects place n) (sym e)
                (entry-own place (own-counted place own) (listed ∙ own-listed place own) (at ∙ own-place place own)))
                (λ (n : b ≢ base). entry-other place b (right.entries place b is) n) (cases_eq b base);
          }

      -- where it leaves the table
      pub gap-left : (composite_of o).listed ≡ true → (composite_of o').listed ≡ false
          → HasGap table h' (composite_of o).place
      gap-left was now =
          let gap = (composite_of o).place in
          let there = right.entered base o begins was in
          record {
            pages = right.pages;
            spelled = spelled-with right.spelled spelled;
            entered = λ b x begun is.
                ⊎_elim
                (λ (e : (b ≡ base) × (x ≡ o')).
                absurd (clash (sym now ∙ subst (λ (x : StoredObject). (composite_of x).listed ≡ true) e.1 is)))
                (λ (n : (b ≢ base) × Begins h.objects b x). right.entered b x n.1 is)
                (begins_cases h.objects base o o' begins b x begun);
            elsewhere = λ b x begun is at.
                ⊎_elim
                (λ (e : (b ≡ base) × (x ≡ o')).
                absurd (clash (sym now ∙ subst (λ (x : StoredObject). (composite_of x).listed ≡ true) e.1 is)))
                (λ (n : (b ≢ base) × Begins h.objects b x).
                let other = right.entered b x n.1 is in
                let same : ◌≡◌ {A = Option ℕ} (Some b) (Some base) =
                sym other ∙ ap (slice_get table.entries) at ∙ there in
                n.0 (cc))
                (begins_cases h.objects base o o' begins b x begun);
            entries = λ place b is other.
                ⊎_elim
                (λ (e : b ≡ base). absurd (other (sym (own-place place (is ∙ ap (λ (n : ℕ). Some n) e)))))
                (λ (n : b ≢ base). entry-other place b (right.entries place b is) n) (cases_eq b base);
          }

      -- where it comes into the table
      pub right-entered : IsTrue (is_counted o.kind) → (composite_of o).listed ≡ false
          → (composite_of o').listed ≡ true → (composite_of o').place ≡ length table.entries
          → IsRight (with_entries table (table.entries ++ base ∷ [])) h'
      right-entered counted was now at =
          record {
            pages = right.pages;
            spelled = spelled-with right.spelled spelled;
            entered = λ b x there is.
                ⊎_elim
                (λ (e : (b ≡ base) × (x ≡ o')).
                let place : (composite_of x).place ≡ length table.entries =
                ap (λ (x : StoredObject). (composite_of x).place) e.1 ∙ at in
                ap (slice_get (table.entries ++ base ∷ [])) place ∙ get-last table.entries base
                ∙ ap (λ (n : ℕ). Some n) (sym e.0))
                (λ (n : (b ≢ base) × Begins h.objects b x).
                get-front table.entries (base ∷ []) (composite_of x).place b (right.entered b x n.1 is))
                (begins_cases h.objects base o o' begins b x there);
            entries = λ place b is. new place b (get-push table.entries base place b is);
          }
        where
          new : (place b : ℕ)
              → (slice_get table.entries place ≡ Some b) ⊎ ((place ≡ length table.entries) × (base ≡ b))
              → IsEntry h'.objects place b
          new place b =
              ⊎_elim
              (λ (is : slice_get table.entries place ≡ Some b).
              ⊎_elim
              (λ (e : b ≡ base).
              absurd (clash (sym was ∙ own-listed place (is ∙ ap (λ (n : ℕ). Some n) e))))
              (λ (n : b ≢ base). entry-other place b (right.entries place b is) n) (cases_eq b base))
              (λ (l : (place ≡ length table.entries) × (base ≡ b)).
              subst (λ n. IsEntry h'.objects place n) l.1 (entry-own place counted now (at ∙ sym l.0)))

-- the gap is closed by dropping the last entry, where it's that one
pub right-closed_last : (table : Table) (h : Heap) (gap : ℕ) → HasGap table h gap → gap ≡ length table.entries - 1
    → IsRight (with_entries table (without_place table.entries gap)) h
right-closed_last table h gap has at =
    record {
      pages = has.pages;
      spelled = has.spelled;
      entered = λ b x there is.
          let old = has.entered b x there is in
          let other = has.elsewhere b x there is in
          let within = slice_get_within table.entries (composite_of x).place b old in
          without_place_other table.entries gap (composite_of x).place (omega arith) other ∙ old;
      entries = λ place b is.
          let below = without_place_within table.entries gap place b is in
          let other : place ≢ gap = λ e. omega arith in
          has.entries place b (sym (without_place_other table.entries gap place below other) ∙ is) other;
    }

-- or else by moving it there
module _ (table : Table) (h : Heap) (gap : ℕ) (has : HasGap table h gap) (below : gap < length table.entries - 1)
    (moved : ℕ) (last : moved ≡ slice_index table.entries (length table.entries - 1)) (o o' : StoredObject)
    (begins : Begins h.objects moved o) (kind : o'.kind ≡ o.kind) (spelled : IsSpelled o')
    (listed : (composite_of o').listed ≡ true) (at : (composite_of o').place ≡ gap)
    (moved-last : slice_get table.entries (length table.entries - 1) ≡ Some moved) where
  moved-entry : IsEntry h.objects (length table.entries - 1) moved
  moved-entry = has.entries (length table.entries - 1) moved moved-last (λ e. omega arith)

  same-moved : moved-entry.object ≡ o
  same-moved = begins_same h.objects moved moved-entry.object o moved-entry.begins begins

  moved-counted : IsTrue (is_counted o.kind)
  moved-counted = subst (λ (x : StoredObject). IsTrue (is_counted x.kind)) same-moved moved-entry.counted

  pub right-closed : IsRight (with_entries table (without_place table.entries gap)) (with_object h moved (Some o'))
  right-closed =
      record {
        pages = has.pages;
        spelled = spelled-with h moved o o' begins has.spelled spelled;
        entered = λ b x there is.
            ⊎_elim
            (λ (e : (b ≡ moved) × (x ≡ o')).
            ap (slice_get (without_place table.entries gap)) (ap (λ (x : StoredObject). (composite_of x).place) e.1 ∙
            at)
            ∙ without_place_gap table.entries gap below ∙ ap (λ (n : ℕ). Some n) (sym last ∙ sym e.0))
            (λ (n : (b ≢ moved) × Begins h.objects b x).
            let old = has.entered b x n.1 is in
            let other = has.elsewhere b x n.1 is in
            let within = slice_get_within table.entries (composite_of x).place b old in
            let inner : (composite_of x).place ≢ length table.entries - 1 = λ e.
            let same : ◌≡◌ {A = Option ℕ} (Some b) (Some moved) =
            sym old ∙ ap (slice_get table.entries) e ∙ moved-last in
            n.0 (cc) in
            without_place_other table.entries gap (composite_of x).place (omega arith) other ∙ old)
            (begins_cases h.objects moved o o' begins b x there);
        entries = λ place b is.
            let within = without_place_within table.entries gap place b is in
            ⊎_elim
            (λ (e : place ≡ gap).
            let here : ◌≡◌ {A = Option ℕ} (Some b) (Some moved) =
            sym is ∙ ap (slice_get (without_place table.entries gap)) e ∙ without_place_gap table.entries gap below
            ∙ ap (λ (n : ℕ). Some n) (sym last) in
            let same : b ≡ moved = cc in
            subst (λ n. IsEntry (with_object h moved (Some o')).objects place n) (sym same)
            (entry-own h moved o o' begins kind spelled place moved-counted listed (at ∙ sym e)))
            (λ (n : place ≢ gap).
            let old = sym (without_place_other table.entries gap place within n) ∙ is in
            let e = has.entries place b old n in
            entry-other h moved o o' begins place b e
            (λ same.
            let k = begins_same h.objects b e.object moved-entry.object e.begins
            (subst (λ n. Begins h.objects n moved-entry.object) (sym same) moved-entry.begins) in
            let p : place ≡ length table.entries - 1 =
            sym e.stands ∙ ap (λ (x : StoredObject). (composite_of x).place) k ∙ moved-entry.stands in
            omega arith))
            (cases_eq place gap);
      }
