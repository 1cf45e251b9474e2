use Rattle.std.proofs.Common.{◌≡◌, ℕ, ◌+◌, Some, List, length, refl, sym, ap, subst, ◌∙◌, arith}
use Rattle.std.specs.Prelude.{slice_get, slice_index}
use Rattle.std.proofs.lemmas.Option.{slice_get_within}
use Rattle.mm_object.specs.Object.{view_of_stored, views_of}
use Rattle.mm_why.specs.declared.hop.Via.TheVariants.{Slot}
use Rattle.mm_why.specs.declared.found.Lead.{Lead}
use Rattle.mm_why.specs.Search.{shown_with, AreWordsFound, IsNoted}
use Rattle.mm_why.proofs.Objects.{seen-object, few-slots, length-scanned, scanned-seen, slots-at}
use Rattle.mm_why.proofs.Noted.{get-index, grown-then, grown-get, noted-grown, noted-live, noted-reasons, noted-words}
use Rattle.mm_why.proofs.Noted.{noted-short, whole-found}
use Rattle.mm_why.proofs.queue.Queue.note_slots.Goals as goal

pub scanned-words-requires : goal.scanned-words-requires
scanned-words-requires g c =
    let holder = c.requires.live c.args.from c.args.by c.requires.there in
    seen-object c.args.heap.now c.args.by.base holder.0 holder.1

pub overflow_add-length : goal.overflow_add-length
overflow_add-length g c =
    let bound = c.requires.sound.bounded c.args.from c.args.by c.requires.there in
    let inside = slice_get_within c.args.self.now.found c.args.from c.args.by c.requires.there in
    let few = c.requires.sound.few in
    let short = c.requires.sound.short in
    omega arith

pub overflow_cast-lead : goal.overflow_cast-lead
overflow_cast-lead g c =
    let holder = c.requires.live c.args.from c.args.by c.requires.there in
    let stored = seen-object c.args.heap.now c.args.by.base holder.0 holder.1 in
    let words = ap length (c.scanned-words.ensures.words stored.0 stored.1) in
    let few = few-slots c.args.heap.now c.scanned-words.ensures.sound c.args.by.base stored.0 stored.1 in
    let scanned = length-scanned (view_of_stored stored.0) in
    omega arith

pub note-requires-clause-length : goal.note-requires-clause-length
note-requires-clause-length g c = record {
  by = c.args.by;
  is = grown-get c.args.self.now.found c.loop-slot.self.found c.args.from c.args.by c.loop-slot.invariant.grown
      c.requires.there;
  longer = refl;
}

pub loop-slot-preserved : goal.loop-slot-preserved
loop-slot-preserved g c =
    let heap = c.args.heap.now in
    let objects = views_of heap.objects in
    let words = c.scanned-words.result.now in
    let before = c.loop-slot.self.found in
    let after = c.note.new.self.found in
    let h = c.loop-slot.invariant in
    let holder = c.requires.live c.args.from c.args.by c.requires.there in
    let are = scanned-seen heap c.args.by.base words c.scanned-words.ensures.words holder.0 holder.1 in
    let word = slice_index words c.loop-slot.slot in
    let lead : Lead = record { via = Slot c.loop-slot.slot; from = c.args.from; length = c.args.by.lead.length + 1 } in
    let is : slice_get words c.loop-slot.slot ≡ Some word =
    get-index words c.loop-slot.slot word c.loop-slot-test.true refl in
    let noted : IsNoted objects before after word lead = c.note.ensures.noted in
    let most = c.args.by.lead.length + 1 in
    record {
      reasons = λ stack areas old.
          noted-reasons (shown_with objects stack areas) before after word lead noted
          (record {
            by = c.args.by;
            is = grown-get c.args.self.now.found before c.args.from c.args.by h.grown c.requires.there;
            holder = holder.0;
            begins = holder.1;
            holds = sym (ap (λ (ws : List ℕ). slice_get ws c.loop-slot.slot) are) ∙ is;
          }) (h.reasons stack areas old);
      found = noted-words objects before after word lead noted words c.loop-slot.slot most h.short (omega arith) is
          h.found;
      short = noted-short objects before after word lead noted most h.short (omega arith);
      live = noted-live objects before after word lead noted h.live;
      grown = grown-then c.args.self.now.found before after h.grown
          (noted-grown objects before after word lead noted);
      places = c.note.ensures.places ∙ h.places;
      ticked =
          let a = h.ticked in
          let b = c.note.ensures.cost in
          omega arith;
    }

pub returns-clause-found : goal.returns-clause-found
returns-clause-found g c = λ holder begins.
    let heap = c.args.heap.now in
    let words = c.scanned-words.result.now in
    let are = scanned-seen heap c.args.by.base words c.scanned-words.ensures.words holder begins in
    subst (λ (ws : List ℕ). AreWordsFound (views_of heap.objects) c.loop-slot.self.found ws
    (c.args.by.lead.length + 1)) are
    (whole-found (views_of heap.objects) c.loop-slot.self.found words c.loop-slot.slot _ (omega arith)
    c.loop-slot.invariant.found)

pub returns-clause-cost : goal.returns-clause-cost
returns-clause-cost g c =
    let heap = c.args.heap.now in
    let holder = c.requires.live c.args.from c.args.by c.requires.there in
    let are = ap length (scanned-seen heap c.args.by.base c.scanned-words.result.now c.scanned-words.ensures.words
    holder.0 holder.1) in
    let slots = slots-at (views_of heap.objects) c.args.by.base holder.0 holder.1 in
    let ticked = c.loop-slot.invariant.ticked in
    omega arith
