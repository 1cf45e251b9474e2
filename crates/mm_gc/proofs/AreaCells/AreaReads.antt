-- A cell of an area is read.
use Rattle.std.proofs.Common.{◌≡◌, ℕ, ◌/◌, Option, Some, None, Result, Err, refl, sym, ap, ◌∙◌}
use Rattle.std.proofs.Common.{subst, arith}
use Rattle.std.proofs.lemmas.Option.{slice_get-get_or}
use Rattle.std.specs.Prelude.{slice_index}
use Rattle.std.specs.Option.{option_map}
use Rattle.mm_model.specs.declared.command.Command.{Command}
use Rattle.mm_model.specs.declared.command.Command.TheVariants as commands
use Rattle.mm_model.specs.declared.refusal.Refusal.{Refusal}
use Rattle.mm_model.specs.declared.refusal.Refusal.TheVariants as refusals
use Rattle.mm_model.specs.declared.reply.Reply.TheVariants as replies
use Rattle.mm_model.specs.Views.ViewWords.{area_in, cell_kind_of}
use Rattle.mm_model.specs.Words.{SlotKind, CountedSlot, WordSlot, RawSlot}
use Rattle.mm_object.specs.declared.slot.Slot.{Slot}
use Rattle.mm_object.specs.Object.{slot_with}
use Rattle.mm_roots.specs.declared.area_shape.AreaRefusal.{AreaRefusal}
use Rattle.mm_roots.specs.declared.area_shape.AreaShape.{AreaShape}
use Rattle.mm_roots.specs.Areas.{Areas, area_at, CellCause, HasCell, HasNoCell}
use Rattle.mm_roots.specs.Views.{view_of_area, slot_in}
use Rattle.mm_roots.proofs.Views.{view_numbered-views_from}
use Rattle.mm_roots.proofs.Words.{length-words_from}
use Rattle.mm_gc.specs.AreaCells.{IsAreaCell, HasNoAreaCell, AreaCellAnswer, word_in}
use Rattle.mm_gc.specs.Gc.{Gc, view_of_gc}
use Rattle.mm_gc.specs.Refused.{PushAnswer}
use Rattle.mm_gc.specs.Replies.{word_reply}
use Rattle.mm_gc.specs.Rows.{Answers}
use Rattle.mm_gc.proofs.Pushing.{refused-answers, word-answers}
use Rattle.mm_gc.proofs.Refusals.{RefusesIn}
use Rattle.mm_gc.proofs.Rows.Areas.{area_get-full, area_get-row}

-- the cause of a refusal that is known
pub cause-is : (areas : Areas) (number s : ℕ) (because why : AreaRefusal) → because ≡ why
    → CellCause {X = Slot} areas number s (Err because) → CellCause {X = Slot} areas number s (Err why)
cause-is areas number s because why e cause =
    subst (λ (b : AreaRefusal). CellCause {X = Slot} areas number s (Err b)) e cause

-- the area that a view has under a number
pub area_in-is : (gc : Gc) (number : ℕ) (found : Option AreaShape) → area_at gc.region.areas number ≡ found
    → area_in (view_of_gc gc) number ≡ option_map (view_of_area gc.region.heap.raw number) found
area_in-is gc number found e =
    view_numbered-views_from gc.region.heap.raw 0 number number gc.region.areas.areas (omega arith)
    ∙ ap (option_map (view_of_area gc.region.heap.raw number)) e

pub cell-read : (gc : Gc) (number s : ℕ) (slot : Slot) (cell : HasCell gc.region.areas number s)
    → ((area : AreaShape) → area_at gc.region.areas number ≡ Some area
    → slot ≡ slot_in (view_of_area gc.region.heap.raw number area) s) → IsAreaCell (view_of_gc gc) number s slot
cell-read gc number s slot cell is =
    let size = length-words_from gc.region.heap.raw (cell.area.base / 4) cell.area.cells in
    let within = cell.within in
    record {
      area = view_of_area gc.region.heap.raw number cell.area;
      lives = area_in-is gc number (Some cell.area) cell.lives;
      within = omega arith;
      slot_is = is cell.area cell.lives;
    }

pub no_cell-read : (gc : Gc) (number s : ℕ) → HasNoCell gc.region.areas number s
    → HasNoAreaCell (view_of_gc gc) number s
no_cell-read gc number s none =
    let size = length-words_from gc.region.heap.raw (none.area.base / 4) none.area.cells in
    let past = none.past in
    record {
      area = view_of_area gc.region.heap.raw number none.area;
      lives = area_in-is gc number (Some none.area) none.lives;
      past = omega arith;
    }

-- a command on a cell of an area, where there is none
pub no_area_cell-answers : (gc : Gc) (number s : ℕ) (command : Command) (because : Refusal)
    → AreaCellAnswer (view_of_gc gc) number s (Err because)
    → (area_in (view_of_gc gc) number ≡ None → RefusesIn (view_of_gc gc) command (Some refusals.NoArea))
    → (HasNoAreaCell (view_of_gc gc) number s → RefusesIn (view_of_gc gc) command (Some refusals.NoSlot))
    → Answers gc gc command (replies.Refused because)
no_area_cell-answers gc number s command refusals.NoArea a no_area no_slot =
    refused-answers gc command refusals.NoArea (no_area a)
no_area_cell-answers gc number s command refusals.NoSlot a no_area no_slot =
    refused-answers gc command refusals.NoSlot (no_slot a)
no_area_cell-answers gc number s command refusals.NoCell a no_area no_slot = absurd a
no_area_cell-answers gc number s command refusals.Nothing a no_area no_slot = absurd a
no_area_cell-answers gc number s command refusals.Shape a no_area no_slot = absurd a
no_area_cell-answers gc number s command refusals.Outside a no_area no_slot = absurd a
no_area_cell-answers gc number s command refusals.NoWeak a no_area no_slot = absurd a
no_area_cell-answers gc number s command refusals.NotCounted a no_area no_slot = absurd a
no_area_cell-answers gc number s command refusals.StackFull a no_area no_slot = absurd a
no_area_cell-answers gc number s command refusals.AreasFull a no_area no_slot = absurd a
no_area_cell-answers gc number s command refusals.Busy a no_area no_slot = absurd a
no_area_cell-answers gc number s command refusals.Idle a no_area no_slot = absurd a
no_area_cell-answers gc number s command refusals.Full a no_area no_slot = absurd a

pub word_in-with : (kind : SlotKind) (word : ℕ) → word_in (slot_with kind word) ≡ word
word_in-with CountedSlot word = refl
word_in-with WordSlot word = refl
word_in-with RawSlot word = refl

pub word_in-cell : (gc : Gc) (number s : ℕ) (slot : Slot) (cell : IsAreaCell (view_of_gc gc) number s slot)
    → word_in slot ≡ slice_index cell.area.words s
word_in-cell gc number s slot cell =
    ap word_in cell.slot_is ∙ word_in-with (cell_kind_of cell.area s) (slice_index cell.area.words s)

pub area_get-answers : (gc new : Gc) (number s word : ℕ) (slot : Slot) → IsAreaCell (view_of_gc gc) number s slot
    → word ≡ word_in slot → (result : Result ℕ Refusal) → PushAnswer gc new word result
    → Answers gc new (commands.AreaGet number s) (word_reply result)
area_get-answers gc new number s word slot cell is result push =
    word-answers gc new word (commands.AreaGet number s)
    (area_get-full (view_of_gc gc) number s cell.area cell.lives cell.within) result push
    (area_get-row (view_of_gc gc) number s cell.area cell.lives word
    (slice_get-get_or cell.area.words s 0 cell.within
    ∙ ap (λ (w : ℕ). Some w) (sym (is ∙ word_in-cell gc number s slot cell))))
