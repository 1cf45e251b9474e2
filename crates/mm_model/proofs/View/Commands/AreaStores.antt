-- `aput` does to a view what it does to its state.
use Rattle.std.proofs.Common.{◌≡◌, ℕ, ◌+◌, Bool, true, false, cond, List, [], ◌∷◌, map, refl, sym, ap, ◌∙◌}
use Rattle.std.proofs.lemmas.List.Sums.{sum_by-append}
use Rattle.std.specs.Prelude.{slice_set, slice_index, ◌==◌, if◌then◌else◌}
use Rattle.std.specs.List.{count_by, flat_map}
use Rattle.mm_model.specs.declared.command.Command.TheVariants as commands
use Rattle.mm_model.specs.Value.{Value, words_of}
use Rattle.mm_model.specs.Object.{live_objects}
use Rattle.mm_model.specs.State.{State, Area}
use Rattle.mm_model.specs.Words.{counted_slots, counted_cell_words, cell_kind}
use Rattle.mm_model.specs.Meaning.{stored}
use Rattle.mm_model.specs.Areas.{area_at, with_changed_area}
use Rattle.mm_model.specs.Places.Place.{live_pieces}
use Rattle.mm_model.specs.Store.{with_cell, put_in_cell}
use Rattle.mm_model.specs.Effect.{plain_effect}
use Rattle.mm_model.specs.Good.{IsPlaced}
use Rattle.mm_model.specs.Views.View.{AreaView, seen_area, view_of}
use Rattle.mm_model.specs.Views.ViewWords.{outside_references, area_in}
use Rattle.mm_model.specs.Views.ViewStore.{view_recounted, view_with_area, view_area_put}
use Rattle.mm_model.specs.Views.ViewEffect.{view_plain_effect}
use Rattle.mm_model.proofs.Lists.Replaced.{map-set}
use Rattle.mm_model.proofs.View.Commands.Puts.{view_store_reply-seen}
use Rattle.mm_model.proofs.View.Commands.Reads.{cell-same}
use Rattle.mm_model.proofs.View.Commands.SameEffects.{SameEffect, found-same}
use Rattle.mm_model.proofs.View.Commands.Sticky.{CountsAlike, view_recounted-seen}
use Rattle.mm_model.proofs.View.Words.{area_in-seen, references_in-seen, outside_references-seen}

changed-seen : (new : Area) (areas : List Area)
    → map (λ (area : AreaView). if area.number == new.number then seen_area new else area) (map seen_area areas)
    ≡ map seen_area (map (λ (area : Area). if area.number == new.number then new else area) areas)
changed-seen new [] = refl
changed-seen new (area ∷ areas) =
    ap (λ first. first ∷ map (λ (area : AreaView). if area.number == new.number then seen_area new else area)
    (map seen_area areas)) (split (area.number == new.number))
    ∙ ap (λ rest. seen_area (if area.number == new.number then new else area) ∷ rest) (changed-seen new areas)
  where
    split : (b : Bool) → (if b then seen_area new else seen_area area) ≡ seen_area (if b then new else area)
    split true = refl
    split false = refl

module _ (a : State) (placed : IsPlaced a.settings.max (live_pieces a)) where
  -- other areas hold other words
  pub counts-areas : (areas : List Area) → CountsAlike (record a { areas = areas })
  counts-areas areas base =
      let b = record a { areas = areas } in
      let slots = flat_map counted_slots (live_objects a.objects) in
      ap (λ n. n + outside_references (view_of b) base) (references_in-seen a placed base)
      ∙ ap (λ n. count_by (λ word. word == base) slots + n) (outside_references-seen b base)
      ∙ sym (sum_by-append (λ (word : ℕ). cond (word == base) 1 0) slots (counted_cell_words b))

  module _ (area : Area) (s : ℕ) (value : Value) where
    abbrev after : State
    after = with_changed_area (with_cell a area s value) a

    view_with_area-seen :
        view_with_area (record (seen_area area) { words = slice_set (words_of area.cells) s value.word }) (view_of a)
        ≡ view_of after
    view_with_area-seen =
        ap (λ words. view_with_area (record (seen_area area) { words = words }) (view_of a))
        (sym (map-set (λ (v : Value). v.word) area.cells s (stored a (cell_kind area s) value)))
        ∙ ap (λ areas. record (view_of a) { areas = areas }) (changed-seen (with_cell a area s value) a.areas)

    pub view_area_put-seen : view_area_put (view_of a) (seen_area area) s value.word
        ≡ view_of (put_in_cell a area s value)
    view_area_put-seen =
        let old = slice_index (words_of area.cells) s in
        ap (view_recounted (cell_kind area s) old value.word) view_with_area-seen
        ∙ view_recounted-seen after value.word (counts-areas after.areas) (cell_kind area s) old

  pub area_put-seen : (number s j : ℕ)
      → SameEffect (view_plain_effect (view_of a) (commands.AreaPut number s j))
      (plain_effect a (commands.AreaPut number s j))
  area_put-seen number s j =
      found-same a seen_area (area_in (view_of a) number) (area_at a number) (area_in-seen a number) _ _
      (λ area is.
      cell-same a j _ _ (λ value e.
      record {
        view = view_area_put-seen area s value;
        reply = view_store_reply-seen a placed (cell_kind area s) value.word;
      }))
