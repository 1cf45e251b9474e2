-- What the commands on areas do to a view, they do to its state, but for the store into a cell.
use Rattle.std.proofs.Common.{◌≡◌, ℕ, zero, suc, Bool, true, false, not, cond, List, [], ◌∷◌, map, replicate, Option}
use Rattle.std.proofs.Common.{Some, None, refl, sym, ap, ◌∙◌}
use mathlib.Core.Path.{fun_ext}
use Rattle.std.proofs.lemmas.Option.{slice_get-map}
use Rattle.std.specs.Prelude.{is_some, nat_lt, slice_get, unwrap_or, ◌==◌, if◌then◌else◌}
use Rattle.std.specs.List.{filter}
use Rattle.std.specs.Option.{option_map}
use Rattle.mm_model.specs.declared.command.Command.TheVariants as commands
use Rattle.mm_model.specs.declared.reply.Reply.TheVariants as replies
use Rattle.mm_model.specs.Value.{Value, integer, words_of}
use Rattle.mm_model.specs.State.{State, Area}
use Rattle.mm_model.specs.Places.Place.{first_from}
use Rattle.mm_model.specs.Areas.{most_areas, area_at, free_number, new_area, area_inserted}
use Rattle.mm_model.specs.Effect.{area_effect, plain_effect}
use Rattle.mm_model.specs.Views.View.{seen_area, view_of}
use Rattle.mm_model.specs.Views.ViewWords.{area_in}
use Rattle.mm_model.specs.Views.ViewEffect.{view_free_number, new_area_view, view_area_inserted, view_area_effect}
use Rattle.mm_model.specs.Views.ViewEffect.{view_plain_effect}
use Rattle.mm_model.proofs.View.Commands.SameEffects.{SameEffect, found-same}
use Rattle.mm_model.proofs.View.Words.{area_in-seen}

filter-map : {X Y : Type 0} (f : X → Y) (test : Y → Bool) (xs : List X)
    → filter test (map f xs) ≡ map f (filter (λ x. test (f x)) xs)
filter-map f test [] = refl
filter-map f test (x ∷ xs) =
    let rest = filter-map f test xs in
    let split : (b : Bool) → cond b (f x ∷ filter test (map f xs)) (filter test (map f xs))
    ≡ map f (cond b (x ∷ filter (λ y. test (f y)) xs) (filter (λ y. test (f y)) xs)) =
    elim [ true ↦ ap (λ ys. f x ∷ ys) rest | false ↦ rest ] in
    split (test (f x))

pub words_of-zeros : (n : ℕ) → words_of (replicate n (integer 0)) ≡ replicate n 0
words_of-zeros zero = refl
words_of-zeros (suc n) = ap (λ ws. 0 ∷ ws) (words_of-zeros n)

module _ (a : State) where
  taken-seen : (number : ℕ) → is_some (area_in (view_of a) number) ≡ is_some (area_at a number)
  taken-seen number = ap is_some (area_in-seen a number) ∙ split (area_at a number)
    where
      split : (found : Option Area) → is_some (option_map seen_area found) ≡ is_some found
      split None = refl
      split (Some area) = refl

  free_number-seen : (count : ℕ)
      → first_from (λ number. not (is_some (area_in (view_of a) number))) 0 count
      ≡ first_from (λ number. not (is_some (area_at a number))) 0 count
  free_number-seen count =
      ap (λ taken. first_from (λ number. not (taken number)) 0 count) (fun_ext (λ number. taken-seen number))

  pub view_free_number-seen : view_free_number (view_of a) ≡ free_number a
  view_free_number-seen = ap (λ found. unwrap_or found most_areas) (free_number-seen most_areas)

  -- `adrop`
  pub drop_area-seen : (number : ℕ)
      → SameEffect (view_plain_effect (view_of a) (commands.DropArea number))
      (plain_effect a (commands.DropArea number))
  drop_area-seen number =
      record {
        view = ap (λ areas. record (view_of a) { areas = areas })
            (filter-map seen_area (λ area. not (area.number == number)) a.areas);
        reply = refl;
      }

  -- `aget`
  pub area_get-seen : (number s : ℕ)
      → SameEffect (view_plain_effect (view_of a) (commands.AreaGet number s))
      (plain_effect a (commands.AreaGet number s))
  area_get-seen number s =
      found-same a seen_area (area_in (view_of a) number) (area_at a number) (area_in-seen a number) _ _
      (λ area is.
      found-same a (λ value. value.word) (slice_get (words_of area.cells) s) (slice_get area.cells s)
      (slice_get-map (λ (value : Value). value.word) area.cells s) _ _
      (λ value e. record { view = refl; reply = refl }))

inserted-seen : (new : Area) (areas : List Area)
    → view_area_inserted (seen_area new) (map seen_area areas) ≡ map seen_area (area_inserted new areas)
inserted-seen new [] = refl
inserted-seen new (area ∷ areas) =
    let split : (b : Bool) → (if b then seen_area new ∷ seen_area area ∷ map seen_area areas
    else seen_area area ∷ view_area_inserted (seen_area new) (map seen_area areas))
    ≡ map seen_area (if b then new ∷ area ∷ areas else area ∷ area_inserted new areas) =
    elim [ true ↦ refl | false ↦ ap (λ rest. seen_area area ∷ rest) (inserted-seen new areas) ] in
    split (nat_lt new.number area.number)

-- `root` and `fixed`, once a place was looked for
pub area_effect-seen : (a : State) (scanned : Bool) (counted cells : ℕ) (found : Option ℕ)
    → SameEffect (view_area_effect (view_of a) scanned counted cells found) (area_effect a scanned counted cells found)
area_effect-seen a scanned counted cells None = record { view = refl; reply = refl }
area_effect-seen a scanned counted cells (Some base) =
    let number = view_free_number-seen a in
    record {
      view = ap (λ areas. record (view_of a) { areas = areas })
          (ap (λ number. view_area_inserted (new_area_view number base scanned counted cells) (map seen_area a.areas))
          number
          ∙ ap (λ words. view_area_inserted
          (record (new_area_view (free_number a) base scanned counted cells) { words = words }) (map seen_area a.areas))
          (sym (words_of-zeros cells))
          ∙ inserted-seen (new_area (free_number a) base scanned counted cells) a.areas);
      reply = ap (λ number. replies.Area (record { number = number; base = base })) number;
    }
