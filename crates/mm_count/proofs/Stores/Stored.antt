-- One counted slot is written, between the raise of the new word and the lowering of the old one.
use Rattle.std.proofs.Common.{◌≡◌, ◌≢◌, ⊎_elim, ℕ, ◌+◌, ◌*◌, ◌/◌, ◌<◌, ◌≤◌, Bool, true, false, cond, List, [], take}
use Rattle.std.proofs.Common.{length, Option, Some, None, refl, sym, ap, ◌∙◌, subst, get_or, arith}
use Rattle.std.specs.Prelude.{slice_get, slice_set, slice_index, nat_lt, ◌==◌, if◌then◌else◌, IsTrue}
use Rattle.std.specs.List.{count_by}
use Rattle.std.specs.Option.{option_map, option_and_then}
use Rattle.std.proofs.lemmas.Option.{slice_get-map}
use Rattle.std.proofs.lemmas.Bool.{cases_eq}
use Rattle.std.proofs.lemmas.Bool.Decides.{nat_tests}
use Rattle.std.proofs.lemmas.List.{length-take, get_or-take}
use Rattle.std.proofs.lemmas.List.Sums.{sum_by-set}
use Rattle.std.proofs.Math.Seq.{take-set-lt}
use Rattle.mm_model.specs.Object.{is_counted, is_scanned}
use Rattle.mm_model.specs.Words.{CountedSlot, WordSlot, slot_kind_at}
use Rattle.mm_model.specs.Views.ByBase.{Begins, with_entry}
use Rattle.mm_model.specs.Views.ObjectView.{ObjectView, ObjectsByBase, counted_words_of, references_in}
use Rattle.mm_model.specs.Views.SetsByBase.{count_at}
use Rattle.mm_model.proofs.Lists.Replaced.{get-set_same, get-set_other, map-set}
use Rattle.mm_model.proofs.View.ByBase.Entries.{begins_same}
use Rattle.mm_model.proofs.View.ByBase.ReplacedEntries.{begins_get, begins_here, begins_there, begins_cases}
use Rattle.mm_model.proofs.View.ByBase.MappedEntries.{begins_mapped, mapped_begins}
use Rattle.mm_object.specs.Object.{StoredObject, StoredObjects, view_of_stored, views_of}
use Rattle.mm_object.specs.Heap.{Heap, with_object}
use Rattle.mm_count.specs.declared.composite.Composite.{Composite}
use Rattle.mm_count.specs.Table.{Table, composite_of, IsCountedAt, IsRight}
use Rattle.mm_count.specs.Counts.{composite_told, composite_at, counts_of, IsCountedBy, one_more, raised, changed_at}
use Rattle.mm_count.specs.Counts.{with_word, written_at, unplaced, without_places, table_lowered, entry_at}
use Rattle.mm_count.specs.Counts.{with_composite, KeepsObjects, NamesCounted, HasCountedSlot, HasReference}
use Rattle.mm_count.proofs.Entries.{entry_at-begins}
use Rattle.mm_count.proofs.Composites.{decides, refutes}
use Rattle.mm_count.proofs.Counted.{counts_of-begins, one_more-other}
use Rattle.mm_count.proofs.References.{references_of, references-with_entry}
use Rattle.mm_count.proofs.Places.{bare, bared, composite_of-bare}
use Rattle.mm_count.proofs.Right.{right-kept}

-- a word that is replaced, in a count of those that are a base
abbrev pub one_if : Bool → ℕ
one_if b = if b then 1 else 0

count-set : (words : List ℕ) (s word b : ℕ) → s < length words
    → count_by (λ w. w == b) (slice_set words s word) + one_if (get_or words s 0 == b)
    ≡ count_by (λ w. w == b) words + one_if (word == b)
count-set words s word b within = sum_by-set (λ (w : ℕ). one_if (w == b)) words s word 0 within

one_more-is : (outside : ℕ → ℕ) (base b : ℕ) → one_more outside base b ≡ outside b + one_if (base == b)
one_more-is outside base b =
    ⊎_elim
    (λ (e : b ≡ base).
    let one : one_if (base == b) ≡ 1 = ap one_if (decides base b (sym e)) in
    let more : one_more outside base b ≡ outside b + 1 =
    ap (λ t. cond t (outside b + 1) (outside b)) (decides b base e) in
    omega arith)
    (λ (n : b ≡ base → ⊥).
    let none : one_if (base == b) ≡ 0 = ap one_if (refutes base b (λ e. n (sym e))) in
    let same = one_more-other outside base b n in
    omega arith)
    (cases_eq b base)

module _ (h : Heap) (base : ℕ) (o : StoredObject) (begins : Begins h.objects base o) (s word : ℕ) where
  abbrev o' : StoredObject
  o' = with_word s word o

  abbrev pub stored : Heap
  stored = with_object h base (Some o')

  -- the table stays right
  pub stored-right : (table : Table) → IsRight table h → IsRight table stored
  stored-right table right =
      let old = right.spelled base o begins in
      right-kept h base o o' begins refl (record { word = old.word; counted = old.counted; other = old.other }) table
      right refl refl

  pub stored-places : without_places stored ≡ written_at base s word (without_places h)
  stored-places =
      ap (λ (objects : StoredObjects). record h { objects = objects })
      (map-set (option_map bare) h.objects (base / 16) (Some o')
      ∙ ap (λ (e : Option StoredObject). with_entry base (option_map (with_word s word) e) (bared h.objects))
      (sym (entry_at-begins (bared h.objects) base (bare o) (begins_mapped bare h.objects base o begins))))

  module _ (scanned : is_scanned o.kind ≡ true) (below : s < o.counted) (within : s < length o.words) where
    counted-words : counted_words_of (view_of_stored o) ≡ take o.counted o.words
    counted-words = ap (λ b. cond b (take o.counted o.words) []) scanned

    counted-words_now : counted_words_of (view_of_stored o') ≡ slice_set (take o.counted o.words) s word
    counted-words_now =
        ap (λ b. cond b (take o.counted (slice_set o.words s word)) []) scanned
        ∙ take-set-lt o.counted o.words s word below

    references : (b : ℕ)
        → references_of (view_of_stored o') b + one_if (slice_index o.words s == b)
        ≡ references_of (view_of_stored o) b + one_if (word == b)
    references b =
        let size : s < length (take o.counted o.words) = omega (arith, length-take o.counted o.words) in
        let front : get_or (take o.counted o.words) s 0 ≡ slice_index o.words s =
        get_or-take o.counted o.words s 0 below in
        let now : references_of (view_of_stored o') b
        ≡ count_by (λ w. w == b) (slice_set (take o.counted o.words) s word) =
        ap (count_by (λ w. w == b)) counted-words_now in
        let was : references_of (view_of_stored o) b ≡ count_by (λ w. w == b) (take o.counted o.words) =
        ap (count_by (λ w. w == b)) counted-words in
        let told : one_if (get_or (take o.counted o.words) s 0 == b) ≡ one_if (slice_index o.words s == b) =
        ap (λ (n : ℕ). one_if (n == b)) front in
        let sums = count-set (take o.counted o.words) s word b size in
        omega arith

    abbrev old : ℕ
    old = slice_index o.words s

    pub all-references : (b : ℕ)
        → references_in (views_of stored.objects) b + one_if (old == b)
        ≡ references_in (views_of h.objects) b + one_if (word == b)
    all-references b =
        let after : references_in (views_of stored.objects) b
        ≡ references_in (with_entry base (Some (view_of_stored o')) (views_of h.objects)) b =
        ap (λ (vs : ObjectsByBase). references_in vs b)
        (map-set (option_map view_of_stored) h.objects (base / 16) (Some o')) in
        let sums = references-with_entry (views_of h.objects) base (view_of_stored o) (view_of_stored o')
        (begins_mapped view_of_stored h.objects base o begins) b in
        let own = references b in
        omega arith

    -- what is counted stays right, where the new word was raised and the old one isn't lowered yet
    module _ (outside : ℕ → ℕ) (right : IsCountedBy h.objects (one_more outside word)) where
      record IsCount (b : ℕ) : Type 0 where
        exact : counts_of stored.objects b ≡ count_at (views_of stored.objects) (one_more outside old) b
        few : counts_of stored.objects b ≤ 254

      one : (b : ℕ) (x y : StoredObject) → Begins stored.objects b x → Begins h.objects b y → x.kind ≡ y.kind
          → x.composite ≡ y.composite → IsTrue (is_counted x.kind) → (composite_of x).sticky ≡ false → IsCount b
      one b x y there begun kind same counted exact =
          let own = begins_mapped view_of_stored h.objects b y begun in
          let tells = subst (λ k. IsTrue (is_counted k)) kind counted in
          let sticky : (composite_of y).sticky ≡ false =
          ap (λ (w : ℕ). (composite_of (record y { composite = w })).sticky) (sym same) ∙ exact in
          let before = right.exact b (view_of_stored y) own tells sticky in
          let limit = right.few b (view_of_stored y) own tells sticky in
          let was = counts_of-begins h.objects b y begun in
          let now = counts_of-begins stored.objects b x there in
          let count : (composite_of x).count ≡ (composite_of y).count =
          ap (λ (w : ℕ). (composite_of (record y { composite = w })).count) same in
          let refs = all-references b in
          let more = one_more-is outside word b in
          let less = one_more-is outside old b in
          record { exact = omega arith; few = omega arith }

      count-now : (b : ℕ) (v : ObjectView) → Begins (views_of stored.objects) b v → IsTrue (is_counted v.kind)
          → v.sticky ≡ false → IsCount b
      count-now b v there counted exact =
          let m = mapped_begins view_of_stored stored.objects b v there in
          let kind : m.value.kind ≡ v.kind = ap (λ (z : ObjectView). z.kind) m.is in
          let sticky : (composite_of m.value).sticky ≡ false = ap (λ (z : ObjectView). z.sticky) m.is ∙ exact in
          let tells = subst (λ k. IsTrue (is_counted k)) (sym kind) counted in
          ⊎_elim
          (λ (e : (b ≡ base) × (m.value ≡ o')).
          one b m.value o m.begins (subst (λ n. Begins h.objects n o) (sym e.0) begins)
          (ap (λ (z : StoredObject). z.kind) e.1) (ap (λ (z : StoredObject). z.composite) e.1) tells sticky)
          (λ (n : (b ≢ base) × Begins h.objects b m.value).
          one b m.value m.value m.begins n.1 refl refl tells sticky)
          (begins_cases h.objects base o o' begins b m.value m.begins)

      pub stored-counted : IsCountedBy stored.objects (one_more outside old)
      stored-counted =
          record {
            exact = λ b v there tells exact. (count-now b v there tells exact).exact;
            few = λ b v there tells exact. (count-now b v there tells exact).few;
          }

-- what counting says at a base whose object got another word
module _ (h : Heap) (base : ℕ) (o : StoredObject) (begins : Begins h.objects base o) (s word : ℕ) where
  pub stored-composite : (b : ℕ)
      → composite_at (stored h base o begins s word).objects b ≡ composite_at h.objects b
  stored-composite b =
      ⊎_elim
      (λ (e : b / 16 ≡ base / 16).
      let is = begins_get h.objects base o begins in
      ap (λ n. composite_told (option_and_then (λ (x : Option StoredObject). x)
      (slice_get (slice_set h.objects (base / 16) (Some (with_word s word o))) n))) e
      ∙ ap (λ (x : Option (Option StoredObject)). composite_told (option_and_then (λ (x : Option StoredObject). x) x))
      (get-set_same h.objects (base / 16) (Some o) (Some (with_word s word o)) is)
      ∙ sym (ap (λ n. composite_told (option_and_then (λ (x : Option StoredObject). x) (slice_get h.objects n))) e
      ∙ ap (λ (x : Option (Option StoredObject)). composite_told (option_and_then (λ (x : Option StoredObject). x) x))
      is))
      (λ (n : b / 16 ≡ base / 16 → ⊥).
      ap (λ (x : Option (Option StoredObject)). composite_told (option_and_then (λ (x : Option StoredObject). x) x))
      (get-set_other h.objects (base / 16) (b / 16) (Some (with_word s word o)) n))
      (cases_eq (b / 16) (base / 16))

  -- counted objects stay where they are
  pub stored-keeps : (b : ℕ) → IsCountedAt h.objects b → IsCountedAt (stored h base o begins s word).objects b
  stored-keeps b k =
      ⊎_elim
      (λ (e : b ≡ base).
      let same = begins_same h.objects b k.object o k.begins (subst (λ n. Begins h.objects n o) (sym e) begins) in
      record {
        object = with_word s word o;
        begins = subst (λ n. Begins (stored h base o begins s word).objects n (with_word s word o)) (sym e)
            (begins_here h.objects base o (with_word s word o) begins);
        counted = subst (λ (x : StoredObject). IsTrue (is_counted x.kind)) same k.counted;
      })
      (λ (n : b ≡ base → ⊥).
      record {
        object = k.object;
        begins = begins_there h.objects base o (with_word s word o) begins b k.object n k.begins;
        counted = k.counted;
      })
      (cases_eq b base)

-- What counting says at another base than the one where an object's composite changed.
pub other-composite : (h h' : Heap) (f : Composite → Composite) (base b : ℕ)
    → without_places h' ≡ changed_at f base (without_places h) → b / 16 ≢ base / 16
    → unplaced (composite_at h'.objects b) ≡ unplaced (composite_at h.objects b)
other-composite h h' f base b e apart =
    let entry = option_map (with_composite f) (entry_at (bared h.objects) base) in
    sym (composite_at-bared h'.objects b) ∙ ap (λ (g : Heap). composite_at g.objects b) e
    ∙ ap (λ (x : Option (Option StoredObject)). composite_told (option_and_then (λ (x : Option StoredObject). x) x))
    (get-set_other (bared h.objects) (base / 16) (b / 16) entry apart)
    ∙ composite_at-bared h.objects b
  where
    composite_at-bared : (objects : StoredObjects) (b : ℕ)
        → composite_at (bared objects) b ≡ unplaced (composite_at objects b)
    composite_at-bared objects b =
        ap (λ (x : Option (Option StoredObject)). composite_told (option_and_then (λ (x : Option StoredObject). x) x))
        (slice_get-map (option_map bare) objects (b / 16))
        ∙ split (slice_get objects (b / 16))
      where
        split : (x : Option (Option StoredObject))
            → composite_told (option_and_then (λ (x : Option StoredObject). x) (option_map (option_map bare) x))
            ≡ unplaced (composite_told (option_and_then (λ (x : Option StoredObject). x) x))
        split None = refl
        split (Some None) = refl
        split (Some (Some x)) = composite_of-bare x

-- counted objects stay counted where composites alone change
pub kept-counted : (before after : StoredObjects) → KeepsObjects before after → (b : ℕ) → IsCountedAt before b
    → IsCountedAt after b
kept-counted before after keeps b k =
    let now = keeps.to b k.object k.begins in
    record { object = record k.object { composite = now.0 }; begins = now.1; counted = k.counted }

-- words that differ and name something lie apart
pub named-apart : (objects : StoredObjects) (v w : ℕ) → NamesCounted objects v → NamesCounted objects w → v ≢ w
    → v / 16 ≢ w / 16
named-apart objects v w p q other e =
    let a = multiple v p in
    let b = multiple w q in
    other (omega arith)
  where
    multiple : (word : ℕ) → NamesCounted objects word → word ≡ 16 * (word / 16)
    multiple word named =
        ⊎_elim (λ (e : word ≡ 0). omega arith)
        (λ (n : word ≡ 0 → ⊥). let a = (named n).begins.aligned in omega arith) (cases_eq word 0)

-- a counted slot is scanned, and comes before the word slots
pub counted-slot : (scanned : Bool) (counted s : ℕ) → slot_kind_at scanned counted s ≡ CountedSlot
    → (scanned ≡ true) × (s < counted)
counted-slot false counted s e = cc
counted-slot true counted s e = split (nat_lt s counted) refl e
  where
    split : (b : Bool) → nat_lt s counted ≡ b → (if b then CountedSlot else WordSlot) ≡ CountedSlot
        → (true ≡ true) × (s < counted)
    split true t e = let lt : s < counted = grind (arith, nat_tests) in (refl, lt)
    split false t e = cc

-- The heap between the raise and the lowering.
module _ (h raised_heap written : Heap) (base s word : ℕ) (slot : HasCountedSlot h.objects base s)
    (keeps : KeepsObjects h.objects raised_heap.objects)
    (raises : without_places raised_heap ≡ changed_at raised word (without_places h))
    (writes : (object : StoredObject) → Begins raised_heap.objects base object
    → written ≡ with_object raised_heap base (Some (record object { words = slice_set object.words s word }))) where
  abbrev pub first : (composite : ℕ) × Begins raised_heap.objects base (record slot.object { composite = composite })
  first = keeps.to base slot.object slot.begins

  abbrev pub object-now : StoredObject
  object-now = record slot.object { composite = first.0 }

  pub is : written ≡ stored raised_heap base object-now first.1 s word
  is = writes object-now first.1

  pub between-right : (table : Table) → IsRight table raised_heap → IsRight table written
  between-right table right =
      subst (IsRight table) (sym is) (stored-right raised_heap base object-now first.1 s word table right)

  pub between-places : without_places written ≡ written_at base s word (changed_at raised word (without_places h))
  between-places =
      ap without_places is ∙ stored-places raised_heap base object-now first.1 s word
      ∙ ap (written_at base s word) raises

  pub between-counted : (outside : ℕ → ℕ) → IsCountedBy raised_heap.objects (one_more outside word)
      → IsCountedBy written.objects (one_more outside (slice_index slot.object.words s))
  between-counted outside right =
      let at = counted-slot (is_scanned slot.object.kind) slot.object.counted s slot.kind in
      subst (λ (g : Heap). IsCountedBy g.objects (one_more outside (slice_index slot.object.words s))) (sym is)
      (stored-counted raised_heap base object-now first.1 s word at.0 at.1 slot.within outside right)

  module _ (old : ℕ) (named : NamesCounted h.objects old) (new : NamesCounted h.objects word) (other : old ≢ word) where
    told : unplaced (composite_at written.objects old) ≡ unplaced (composite_at h.objects old)
    told =
        ap unplaced
        (ap (λ (g : Heap). composite_at g.objects old) is
        ∙ stored-composite raised_heap base object-now first.1 s word old)
        ∙ other-composite h raised_heap raised word old raises (named-apart h.objects old word named new other)

    pub between-named : NamesCounted written.objects old
    between-named some =
        subst (λ (g : Heap). IsCountedAt g.objects old) (sym is)
        (stored-keeps raised_heap base object-now first.1 s word old
        (kept-counted h.objects raised_heap.objects keeps old (named some)))

    pub between-reference : HasReference h.objects old → HasReference written.objects old
    between-reference some exact none =
        some (sym (ap (λ (c : Composite). c.sticky) told) ∙ exact) (sym (ap (λ (c : Composite). c.count) told) ∙ none)

    pub between-table : (table : Table)
        → table_lowered table (composite_at written.objects old) old
        ≡ table_lowered table (composite_at h.objects old) old
    between-table table = ap (λ (c : Composite). table_lowered table c old) told
