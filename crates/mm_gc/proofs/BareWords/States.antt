-- Words written into raw slots keep a state good, do to its view what they do to it, and are as many single puts.
use Rattle.std.proofs.Common.{◌≡◌, ℕ, ◌+◌, ◌≤◌, false, List, [], ◌∷◌, map, length, Option, Some, sym, ap, ◌∙◌, subst}
use Rattle.std.proofs.Common.{◌/◌, arith}
use Rattle.std.proofs.lemmas.List.{length-map, length-set, set-set}
use Rattle.std.specs.Prelude.{slice_index, slice_set}
use Rattle.std.specs.Option.{option_map_or, option_and_then}
use Rattle.mm_model.specs.Value.{Value, words_of, integer}
use Rattle.mm_model.specs.Object.{Object, is_scanned}
use Rattle.mm_model.specs.State.{State, Lives}
use Rattle.mm_model.specs.Words.{SlotKind, RawSlot, slot_kind, slot_kind_at}
use Rattle.mm_model.specs.Meaning.{stored}
use Rattle.mm_model.specs.Sets.Marking.{barrier}
use Rattle.mm_model.specs.Store.{refuses_word, recounted, with_object, put_in_slot}
use Rattle.mm_model.specs.Good.{IsGood}
use Rattle.mm_model.specs.Views.ByBase.{with_entry}
use Rattle.mm_model.specs.Views.ObjectView.{ObjectView, ObjectsByBase}
use Rattle.mm_model.specs.Views.View.{seen, seen_objects, view_of}
use Rattle.mm_model.specs.Views.ViewStore.{view_with_word}
use Rattle.mm_model.proofs.Good.Writing.CountedStores.{any_put_is_good}
use Rattle.mm_model.proofs.Lists.Replaced.{get-set_same, map-set}
use Rattle.mm_model.proofs.View.ByBase.ReplacedEntries.{begins_get}
use Rattle.mm_model.proofs.View.ByBase.Seen.{seen_based, begins-seen}
use Rattle.mm_model.proofs.View.Commands.Stores.{bases-store, view_with_word-seen}
use Rattle.mm_count.proofs.Places.{set_same}
use Rattle.mm_weak.proofs.Entries.{with_entry-twice}
use Rattle.mm_gc.specs.BareWords.{overwritten, view_with_words, with_integers, put_each}
use Rattle.mm_gc.proofs.BareWords.Lists.{overwritten-none, overwritten-more}

-- a word as an integer in one slot
module _ (a : State) (good : IsGood a) (birth : ℕ) (object : Object) (lives : Lives a birth object)
    (raw : is_scanned object.kind ≡ false) (s word : ℕ) (within : s + 1 ≤ length object.slots) where
  abbrev pub one : Object
  one = record object { slots = slice_set object.slots s (integer word) }

  abbrev pub next : State
  next = with_object birth one a

  kind-raw : slot_kind object s ≡ RawSlot
  kind-raw = ap (λ scanned. slot_kind_at scanned object.counted s) raw

  pub put-raw : put_in_slot a birth object s (integer word) ≡ next
  put-raw =
      ap
      (λ (kind : SlotKind). barrier kind birth s word
      (recounted kind (slice_index (words_of object.slots) s) word
      (with_object birth (record object { slots = slice_set object.slots s (stored a kind (integer word)) }) a)))
      kind-raw

  pub next-good : IsGood next
  next-good =
      subst IsGood put-raw
      (any_put_is_good a good birth object lives s (integer word) tt (omega arith)
      (ap (λ (kind : SlotKind). refuses_word a kind word) kind-raw))

  pub next-lives : Lives next birth one
  next-lives = record { is = get-set_same a.objects birth object one lives.is; live = lives.live }

  -- it is seen with that word
  pub next-seen : seen next birth one
      ≡ record (seen a birth object) { words = slice_set (words_of object.slots) s word }
  next-seen =
      ap
      (λ (base : ℕ → Option ℕ). record (seen a birth one) { partner = option_and_then base object.partner })
      (bases-store a good.placed birth object lives s (integer word))
      ∙ ap (λ (words : List ℕ). record (seen a birth object) { words = words })
      (map-set (λ (v : Value). v.word) object.slots s (integer word))

  pub next-view : view_with_word (seen_based a birth object) s word (view_of a) ≡ view_of next
  next-view = view_with_word-seen a good.placed birth object lives s (integer word)

  -- the words behind it are seen as if they were written to what it leaves
  pub more-seen : (words : List ℕ)
      → view_with_words (seen_based a birth object) s (word ∷ words) (view_of a)
      ≡ view_with_words (seen_based next birth one) (s + 1) words (view_of next)
  more-seen words =
      let size = length-map object.slots (λ (v : Value). v.word) in
      ap (λ (v : ObjectView). record (view_of a) { objects = with_entry object.base (Some v) (seen_objects a) })
      (ap (λ (ws : List ℕ). record own { words = ws })
      (overwritten-more (words_of object.slots) s word words (omega arith)))
      ∙ ap (λ (objects : ObjectsByBase). record (view_of a) { objects = objects })
      (sym (with_entry-twice (seen_objects a) object.base
      (Some (record changed { words = overwritten changed.words (s + 1) words })) (Some changed)))
      ∙ ap (view_with_words (record { base = object.base; value = changed }) (s + 1) words) next-view
      ∙ ap (λ (v : ObjectView). view_with_words (record { base = object.base; value = v }) (s + 1) words
      (view_of next)) (sym next-seen)
    where
      own : ObjectView
      own = seen a birth object

      changed : ObjectView
      changed = record own { words = slice_set (words_of object.slots) s word }

-- What writing the words does to a good state.
pub record IsEachWritten (a : State) (birth : ℕ) (object : Object) (s : ℕ) (words : List ℕ) : Type 0 where
  pub good : IsGood (with_integers birth object s words a)
  pub view : view_with_words (seen_based a birth object) s words (view_of a)
      ≡ view_of (with_integers birth object s words a)
  pub puts : put_each birth s words a ≡ with_integers birth object s words a

-- no word
module _ (a : State) (good : IsGood a) (birth : ℕ) (object : Object) (lives : Lives a birth object) (s : ℕ) where
  none-written : with_integers birth object s [] a ≡ a
  none-written =
      ap (λ slots. with_object birth (record object { slots = slots }) a) (overwritten-none object.slots s)
      ∙ ap (λ objects. record a { objects = objects }) (set_same a.objects birth object lives.is)

  none-seen : view_with_words (seen_based a birth object) s [] (view_of a) ≡ view_of a
  none-seen =
      ap
      (λ (words : List ℕ). record (view_of a) {
        objects = with_entry object.base (Some (record (seen a birth object) { words = words })) (seen_objects a);
      }) (overwritten-none (words_of object.slots) s)
      ∙ ap (λ (objects : ObjectsByBase). record (view_of a) { objects = objects })
      (set_same (seen_objects a) (object.base / 16) (Some (seen a birth object))
      (begins_get (seen_objects a) object.base (seen a birth object)
      (begins-seen a good.placed birth object lives)))

  none-each : IsEachWritten a birth object s []
  none-each =
      record {
        good = subst IsGood (sym none-written) good;
        view = none-seen ∙ ap view_of (sym none-written);
        puts = sym none-written;
      }

pub each-written : (words : List ℕ) (a : State) → IsGood a → (birth : ℕ) (object : Object) → Lives a birth object
    → is_scanned object.kind ≡ false → (s : ℕ) → s + length words ≤ length object.slots
    → IsEachWritten a birth object s words
each-written [] a good birth object lives raw s fits = none-each a good birth object lives s
each-written (word ∷ words) a good birth object lives raw s fits =
    let first : s + 1 ≤ length object.slots = omega arith in
    let size = length-set object.slots s (integer word) in
    let o = one a good birth object lives raw s word first in
    let b = next a good birth object lives raw s word first in
    let rest = each-written words b (next-good a good birth object lives raw s word first) birth o
    (next-lives a good birth object lives raw s word first) raw (s + 1) (omega arith) in
    let joined : with_integers birth o (s + 1) words b ≡ with_integers birth object s (word ∷ words) a =
    ap (λ objects. record a { objects = objects })
    (set-set a.objects birth o (record object { slots = overwritten o.slots (s + 1) (map integer words) }))
    ∙ ap (λ slots. with_object birth (record object { slots = slots }) a)
    (sym (overwritten-more object.slots s (integer word) (map integer words) (omega arith))) in
    record {
      good = subst IsGood joined rest.good;
      view = more-seen a good birth object lives raw s word first words ∙ rest.view ∙ ap view_of joined;
      puts = ap (λ found. put_each birth (s + 1) words
          (option_map_or (λ object. put_in_slot a birth object s (integer word)) found a)) lives.is
          ∙ ap (put_each birth (s + 1) words) (put-raw a good birth object lives raw s word first)
          ∙ rest.puts ∙ joined;
    }
