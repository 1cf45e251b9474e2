-- A stack cell means the object in which its word falls.
use Rattle.std.proofs.Common.{◌≡◌, ℕ, ◌+◌, ◌-◌, ◌^◌, ◌<◌, ◌≤◌, Bool, true, false, eqb-true, List, [], length, Option}
use Rattle.std.proofs.Common.{Some, None, Result, Err, refl, sym, ap, ◌∙◌, subst, arith}
use Rattle.std.proofs.lemmas.Bool.{false_from_ne_true}
use Rattle.std.proofs.lemmas.Option.{slice_get-get_or}
use Rattle.std.specs.Prelude.{◌==◌, slice_get, slice_index, if◌then◌else◌}
use Rattle.std.specs.Option.{option_and_then}
use Rattle.mm_model.specs.declared.command.Command.{Command}
use Rattle.mm_model.specs.declared.command.Command.TheVariants as commands
use Rattle.mm_model.specs.declared.object.Shape.{Shape}
use Rattle.mm_model.specs.Object.{is_weak}
use Rattle.mm_model.specs.declared.refusal.Refusal.{Refusal}
use Rattle.mm_model.specs.declared.refusal.Refusal.TheVariants as refusals
use Rattle.mm_model.specs.declared.reply.Reply.TheVariants as replies
use Rattle.mm_model.specs.Words.{falls}
use Rattle.mm_model.specs.Views.ByBase.{Begins, Based}
use Rattle.mm_model.specs.Views.ObjectView.{ObjectView}
use Rattle.mm_model.specs.Views.View.{View}
use Rattle.mm_model.specs.Views.ViewWords.{resolved_in}
use Rattle.mm_model.specs.Views.ViewEffect.{ViewEffect, view_pushes, view_look_effect, view_map_reply}
use Rattle.mm_model.specs.Views.ViewStep.{IsViewRow}
use Rattle.mm_model.proofs.Places.Falling.{falls_from, falls_within}
use Rattle.mm_model.proofs.View.GoodRoom.{resolved_in-falls, resolved_in-begins}
use Rattle.mm_model.proofs.View.ByBase.MappedEntries.{begins_mapped, mapped_begins}
use Rattle.mm_object.specs.declared.heap.Found.{Found}
use Rattle.mm_object.specs.Object.{StoredObject, view_of_stored, shape_of}
use Rattle.mm_object.specs.Heap.{Heap, IsSound, Covers, FallsInNone}
use Rattle.mm_gc.specs.Gc.{Gc, view_of_gc}
use Rattle.mm_gc.specs.Rows.{Answers}
use Rattle.mm_gc.specs.Refused.{IsMeant, MeansNothing, MeantAnswer, PushAnswer}
use Rattle.mm_gc.specs.Replies.{word_reply}
use Rattle.mm_gc.specs.Showing.{IsShowing}
use Rattle.mm_gc.proofs.Pushing.{refused-answers, word-answers}
use Rattle.mm_gc.proofs.Refusals.{RefusesIn}
use Rattle.mm_gc.proofs.Rows.Reading as rows
use Rattle.mm_gc.proofs.Shown.{row-of, showing-good}

-- a word that falls in a stored object resolves to it
pub resolved_in-covers : (gc : Gc) (word base : ℕ) (object : StoredObject) → IsShowing (view_of_gc gc)
    → Covers gc.region.heap word base object
    → resolved_in (view_of_gc gc).objects word ≡ Some (record { base = base; value = view_of_stored object })
resolved_in-covers gc word base object shown covers =
    let view = view_of_gc gc in
    resolved_in-falls view (showing-good view shown).placed word base (view_of_stored object)
    (begins_mapped view_of_stored gc.region.heap.objects base object covers.begins)
    (falls_within word base object.extent covers.from covers.to)

-- one that falls in none resolves to nothing
pub resolved_in-none : (gc : Gc) (word : ℕ) → FallsInNone gc.region.heap word
    → resolved_in (view_of_gc gc).objects word ≡ None
resolved_in-none gc word none = split (resolved_in (view_of_gc gc).objects word) refl
  where
    split : (found : Option (Based ObjectView)) → resolved_in (view_of_gc gc).objects word ≡ found → found ≡ None
    split None e = refl
    split (Some o) e =
        let there = resolved_in-begins (view_of_gc gc) word o e in
        let stored = mapped_begins view_of_stored gc.region.heap.objects o.base o.value there.0 in
        let within = falls_from word o.base o.value.extent there.1 in
        let extent : stored.value.extent ≡ o.value.extent = ap (λ (v : ObjectView). v.extent) stored.is in
        absurd (none o.base stored.value
        (record { begins = stored.begins; from = within.0; to = omega (arith, within.1, extent) }))

-- the same of the word of a cell
pub cell_get : (words : List ℕ) (i word : ℕ) → i < length words → word ≡ slice_index words i
    → slice_get words i ≡ Some word
cell_get words i word within is = slice_get-get_or words i 0 within ∙ ap Some (sym is)

pub meant-covers : (gc : Gc) (i word : ℕ) (found : Found) (object : StoredObject) → IsShowing (view_of_gc gc)
    → slice_get gc.stack.words i ≡ Some word → Covers gc.region.heap word found.base object
    → found.shape ≡ shape_of object → IsMeant gc i word found
meant-covers gc i word found object shown cell covers shape =
    record {
      cell = cell;
      object = object;
      begins = covers.begins;
      shape = shape;
      falls = falls_within word found.base object.extent covers.from covers.to;
      meant = ap (option_and_then (resolved_in (view_of_gc gc).objects)) cell
          ∙ resolved_in-covers gc word found.base object shown covers;
    }

pub meant-none : (gc : Gc) (i word : ℕ) → slice_get gc.stack.words i ≡ Some word
    → FallsInNone gc.region.heap word → MeansNothing gc i
meant-none gc i word cell none =
    record {
      word = word;
      cell = cell;
      nothing = ap (option_and_then (resolved_in (view_of_gc gc).objects)) cell ∙ resolved_in-none gc word none;
    }

-- the object where the same heap is read
pub begins-read : (gc read : Gc) (i word : ℕ) (found : Found) → read ≡ gc → (m : IsMeant gc i word found)
    → Begins read.region.heap.objects found.base m.object
begins-read gc read i word found same m =
    subst (λ (heap : Gc). Begins heap.region.heap.objects found.base m.object) (sym same) m.begins

-- an address in an object is a word
pub address_small : (heap : Heap) (base word d extent : ℕ) (object : StoredObject) → IsSound heap
    → Begins heap.objects base object → extent ≡ object.extent → base ≤ word → d < extent - (word - base)
    → word + d < 2 ^ 32
address_small heap base word d extent object sound begins is from inside =
    let within = sound.inside base object begins in
    omega (arith, within.to, sound.size, sound.most, is, from, inside)

-- as the rows of commands read it
pub means-object : (gc : Gc) (i word : ℕ) (found : Found) → (meant : IsMeant gc i word found)
    → rows.MeansObject (view_of_gc gc) i word (record { base = found.base; value = view_of_stored meant.object })
means-object gc i word found meant = record { cell = meant.cell; meant = meant.meant }

pub means-nothing : (gc : Gc) (i : ℕ) → MeansNothing gc i → rows.MeansNothing (view_of_gc gc) i
means-nothing gc i h = record { word = h.word; cell = h.cell; meant = h.nothing }

-- what a look pushes
look_effect-link : (view : View) (link : ℕ)
    → view_look_effect view (if link == 0 then None else Some link) ≡ view_pushes link view
look_effect-link view link = split (link == 0) refl
  where
    split : (none : Bool) → (link == 0) ≡ none
        → view_look_effect view (if none then None else Some link) ≡ view_pushes link view
    split true e = ap (λ (w : ℕ). view_pushes w view) (sym (eqb-true link 0 e))
    split false e = refl

-- a command that asks for the object that a cell means, where there is none
pub unmeant-answers : (gc : Gc) (i : ℕ) (command : Command) (because : Refusal) → MeantAnswer gc i (Err because)
    → (length gc.stack.words ≤ i → RefusesIn (view_of_gc gc) command (Some refusals.NoCell))
    → (rows.MeansNothing (view_of_gc gc) i → RefusesIn (view_of_gc gc) command (Some refusals.Nothing))
    → Answers gc gc command (replies.Refused because)
unmeant-answers gc i command refusals.NoCell a no_cell nothing =
    refused-answers gc command refusals.NoCell (no_cell a)
unmeant-answers gc i command refusals.Nothing a no_cell nothing =
    refused-answers gc command refusals.Nothing (nothing (means-nothing gc i a))
unmeant-answers gc i command refusals.Shape a no_cell nothing = absurd a
unmeant-answers gc i command refusals.NoArea a no_cell nothing = absurd a
unmeant-answers gc i command refusals.Outside a no_cell nothing = absurd a
unmeant-answers gc i command refusals.NoWeak a no_cell nothing = absurd a
unmeant-answers gc i command refusals.NoSlot a no_cell nothing = absurd a
unmeant-answers gc i command refusals.NotCounted a no_cell nothing = absurd a
unmeant-answers gc i command refusals.StackFull a no_cell nothing = absurd a
unmeant-answers gc i command refusals.AreasFull a no_cell nothing = absurd a
unmeant-answers gc i command refusals.Full a no_cell nothing = absurd a
unmeant-answers gc i command refusals.Busy a no_cell nothing = absurd a
unmeant-answers gc i command refusals.Idle a no_cell nothing = absurd a

-- map
pub map-found : (gc : Gc) (i word extent : ℕ) (found : Found) (m : IsMeant gc i word found) → extent ≡ m.object.extent
    → Answers gc gc (commands.Map i) (replies.Object (record {
      base = found.base;
      kind = found.shape.kind;
      finalize = found.shape.finalize;
      extent = extent;
    }))
map-found gc i word extent found m is =
    let view = view_of_gc gc in
    let o : Based ObjectView = record { base = found.base; value = view_of_stored m.object } in
    subst
    (λ (shape : Shape). Answers gc gc (commands.Map i)
    (replies.Object (record { base = found.base; kind = shape.kind; finalize = shape.finalize; extent = extent })))
    (sym m.shape)
    (subst
    (λ (bytes : ℕ). Answers gc gc (commands.Map i) (replies.Object (record {
      base = found.base;
      kind = m.object.kind;
      finalize = m.object.finalize;
      extent = bytes;
    })))
    (sym is)
    (row-of view view (commands.Map i) [] (view_map_reply (Some o)) (rows.map-row view i word (Some o) m.cell m.meant)))

pub map-none : (gc : Gc) (i : ℕ) → MeansNothing gc i → Answers gc gc (commands.Map i) replies.Nothing
map-none gc i h =
    let view = view_of_gc gc in
    row-of view view (commands.Map i) [] replies.Nothing (rows.map-row view i h.word None h.cell h.nothing)

-- The commands that push what they read through the cell's object. What is read is given by an equation.
module _ (gc : Gc) (i word : ℕ) (found : Found) (m : IsMeant gc i word found) where
  abbrev view : View
  view = view_of_gc gc

  abbrev o : Based ObjectView
  o = record { base = found.base; value = view_of_stored m.object }

  means : rows.MeansObject view i word o
  means = means-object gc i word found m

  pub base_below : found.base ≤ word
  base_below = (falls_from word found.base m.object.extent m.falls).0

  -- inner
  module _ (d extent : ℕ) (is : extent ≡ m.object.extent) where
    pub offset_within : word - found.base ≤ extent
    offset_within =
        let within = falls_from word found.base m.object.extent m.falls in
        omega (arith, within.0, within.1, is)

    pub inner-out : extent - (word - found.base) ≤ d
        → Answers gc gc (commands.Inner i d) (replies.Refused refusals.Outside)
    inner-out past =
        let within = falls_from word found.base m.object.extent m.falls in
        refused-answers gc (commands.Inner i d) refusals.Outside
        (rows.inner-outside view i word d o means
        (false_from_ne_true (falls (word + d) found.base m.object.extent)
        (λ e. let there = falls_from (word + d) found.base m.object.extent e in
        omega (arith, within.0, within.1, there.0, there.1, is, past))))

    pub inner-within : d < extent - (word - found.base) → falls (word + d) found.base m.object.extent ≡ true
    inner-within inside =
        let within = falls_from word found.base m.object.extent m.falls in
        falls_within (word + d) found.base m.object.extent (omega (arith, within.0))
        (omega (arith, within.0, within.1, is, inside))

    pub inner-answers : (new : Gc) (result : Result ℕ Refusal) → d < extent - (word - found.base)
        → PushAnswer gc new (word + d) result → Answers gc new (commands.Inner i d) (word_reply result)
    inner-answers new result inside push =
        word-answers gc new (word + d) (commands.Inner i d)
        (rows.inner-full view i word d o means (inner-within inside)) result push
        (rows.inner-row view i word d o means (inner-within inside))

  -- get
  pub get-out : (s : ℕ) → found.shape.slots ≤ s → Answers gc gc (commands.Get i s) (replies.Refused refusals.NoSlot)
  get-out s past =
      refused-answers gc (commands.Get i s) refusals.NoSlot
      (rows.get-no_slot view i word s o means (subst (λ (shape : Shape). shape.slots ≤ s) m.shape past))

  pub get-answers : (s value : ℕ) (new : Gc) (result : Result ℕ Refusal) → s < found.shape.slots
      → value ≡ slice_index m.object.words s → PushAnswer gc new value result
      → Answers gc new (commands.Get i s) (word_reply result)
  get-answers s value new result inside is push =
      let within : s < length m.object.words = subst (λ (shape : Shape). s < shape.slots) m.shape inside in
      word-answers gc new value (commands.Get i s) (rows.get-full view i word s o means within) result push
      (rows.get-row view i word s o means value (cell_get m.object.words s value within is))

  -- look
  kind_is : {b : Bool} → is_weak found.shape.kind ≡ b → is_weak m.object.kind ≡ b
  kind_is {b} e = subst (λ (shape : Shape). is_weak shape.kind ≡ b) m.shape e

  pub look-out : is_weak found.shape.kind ≡ false → Answers gc gc (commands.Look i) (replies.Refused refusals.NoWeak)
  look-out strong =
      refused-answers gc (commands.Look i) refusals.NoWeak (rows.look-strong view i word o means (kind_is strong))

  pub look-answers : (value : ℕ) (new : Gc) (result : Result ℕ Refusal) → is_weak found.shape.kind ≡ true
      → value ≡ m.object.link → PushAnswer gc new value result → Answers gc new (commands.Look i) (word_reply result)
  look-answers value new result weak is push =
      word-answers gc new value (commands.Look i) (rows.look-full view i word o means (kind_is weak)) result push
      (λ room. subst (λ (effect : ViewEffect). IsViewRow view (commands.Look i) [] effect)
      (look_effect-link view m.object.link ∙ ap (λ (w : ℕ). view_pushes w view) (sym is))
      (rows.look-row view i word o means (kind_is weak) room))
