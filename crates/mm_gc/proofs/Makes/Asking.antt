-- What the commands that make something answer, once it was looked for.
use Rattle.std.proofs.Common.{◌≡◌, ◌≢◌, ℕ, Bool, true, false, List, [], length, Option, Some, None, refl, sym, ap, ◌∙◌}
use Rattle.std.proofs.Common.{subst}
use Rattle.std.specs.Prelude.{◌==◌, if◌then◌else◌}
use Rattle.mm_model.specs.declared.command.Command.{Command}
use Rattle.mm_model.specs.declared.command.Command.TheVariants as commands
use Rattle.mm_model.specs.declared.object.Shape.{Shape}
use Rattle.mm_model.specs.declared.refusal.Refusal.{Refusal}
use Rattle.mm_model.specs.declared.refusal.Refusal.TheVariants as refusals
use Rattle.mm_model.specs.declared.reply.AreaAnswer.{AreaAnswer}
use Rattle.mm_model.specs.declared.reply.Reply.{Reply}
use Rattle.mm_model.specs.declared.reply.Reply.TheVariants as replies
use Rattle.mm_model.specs.Areas.{most_areas}
use Rattle.mm_model.specs.Places.Place.{Areas}
use Rattle.mm_model.specs.Places.SizeClass.{area_bytes}
use Rattle.mm_model.specs.Object.{is_weak}
use Rattle.mm_model.specs.Refusing.{is_bad_shape, is_bad_area}
use Rattle.mm_model.specs.Views.ByBase.{Based}
use Rattle.mm_model.specs.Views.ObjectView.{ObjectView}
use Rattle.mm_model.specs.Views.View.{View}
use Rattle.mm_model.specs.Views.ViewWords.{object_at}
use Rattle.mm_model.specs.Views.ViewEffect.{ViewEffect, with_found, view_area_effect, view_weak_made}
use Rattle.mm_model.specs.Views.ViewStep.{IsViewRow, ViewMakes}
use Rattle.mm_count.proofs.Composites.{decides, refutes}
use Rattle.mm_sweep.specs.Told.{Told}
use Rattle.mm_gc.specs.declared.wanted.AreaWanted.{AreaWanted}
use Rattle.mm_gc.specs.declared.wanted.Wanted.{Wanted}
use Rattle.mm_gc.specs.declared.wanted.Wanted.TheVariants as wanted
use Rattle.mm_gc.specs.declared.wanted.Made.{Made}
use Rattle.mm_gc.specs.declared.wanted.Made.TheVariants as made_variants
use Rattle.mm_gc.specs.Gc.{Gc, view_of_gc}
use Rattle.mm_gc.specs.Making.{Searches, effect_of, made_reply, area_command}
use Rattle.mm_gc.specs.Rows.{Tells, Answers}
use Rattle.mm_gc.proofs.Pushing.{refused-answers}
use Rattle.mm_gc.proofs.Refusals.{RefusesIn}
use Rattle.mm_gc.proofs.Rows.Making as rows
use Rattle.mm_gc.proofs.Rows.Reading.{MeansObject}
use Rattle.mm_gc.proofs.Shown.{row-of}
use Rattle.mm_gc.proofs.Telling.Heard.{heard-nothing}

-- a call that wrote no lines
pub tells-answered : (old new : Gc) (command : Command) (reply : Reply) (heard : List Told → Type 0) → heard []
    → Answers old new command reply → Tells old new command reply heard
tells-answered old new command reply heard nothing answers =
    record { log = []; answers = answers; told = heard-nothing heard (view_of_gc old).objects nothing }

-- one that was refused
pub tells-refused : (gc : Gc) (command : Command) (because : Refusal) (heard : List Told → Type 0) → heard []
    → RefusesIn (view_of_gc gc) command (Some because) → Tells gc gc command (replies.Refused because) heard
tells-refused gc command because heard nothing refuses =
    tells-answered gc gc command (replies.Refused because) heard nothing (refused-answers gc command because refuses)

module _ (old new : Gc) (w : Wanted) (result : Option Made) (heard : List Told → Type 0)
    (s : Searches old new w result heard) where
  -- a command whose row holds of what was found
  pub tells-searched : (command : Command)
      → IsViewRow (view_of_gc old) command s.log (record { view = view_of_gc new; reply = made_reply result })
      → Tells old new command (made_reply result) heard
  tells-searched command row =
      record {
        log = s.log;
        answers = row-of (view_of_gc old) (view_of_gc new) command s.log (made_reply result) row;
        told = s.told;
      }

-- no object is answered as an area
abbrev pub is_area_reply : Reply → Bool
is_area_reply (replies.Area area) = true
is_area_reply _ = false

abbrev pub is_new_reply : Reply → Bool
is_new_reply (replies.New base) = true
is_new_reply _ = false

weak-not_area : (view : View) (base : ℕ) (found : Option (Based ObjectView))
    → is_area_reply (with_found found view (λ o. record {
      view = view_weak_made view o base;
      reply = replies.New base;
    })).reply
    ≡ false
weak-not_area view base None = refl
weak-not_area view base (Some o) = refl

object-reply : (shape : Shape) (view : View) (place : Option ℕ)
    → is_area_reply (effect_of (wanted.Object shape) view place).reply ≡ false
object-reply shape view None = refl
object-reply shape view (Some base) = refl

weak-reply : (target : ℕ) (view : View) (place : Option ℕ)
    → is_area_reply (effect_of (wanted.WeakOf target) view place).reply ≡ false
weak-reply target view None = refl
weak-reply target view (Some base) = weak-not_area view base (object_at view.objects target)

clash : {A : Type 0} → true ≡ false → A
clash e = cc

module _ (old new : Gc) (heard : List Told → Type 0) where
  pub object-not_area : (shape : Shape) (area : AreaAnswer)
      → Searches old new (wanted.Object shape) (Some (made_variants.Area area)) heard → ⊥
  object-not_area shape area s =
      clash (ap (λ (v : ViewEffect). is_area_reply v.reply) s.makes.effect_is
      ∙ object-reply shape s.makes.left s.makes.found)

  pub weak-no_area : (target : ℕ) (area : AreaAnswer)
      → Searches old new (wanted.WeakOf target) (Some (made_variants.Area area)) heard → ⊥
  weak-no_area target area s =
      clash (ap (λ (v : ViewEffect). is_area_reply v.reply) s.makes.effect_is
      ∙ weak-reply target s.makes.left s.makes.found)

  -- `new`, once a place was looked for
  pub create-tells : (shape : Shape) (result : Option Made) → is_bad_shape shape ≡ false
      → (length old.stack.words == old.settings.stack) ≡ false
      → Searches old new (wanted.Object shape) result heard
      → Tells old new (commands.New shape) (made_reply result) heard
  create-tells shape result fine room s =
      tells-searched old new (wanted.Object shape) result heard s (commands.New shape)
      (rows.new-row (view_of_gc old) shape s.log (record { view = view_of_gc new; reply = made_reply result }) fine
      room s.makes)

  -- `weak`
  pub weak-tells : (i word : ℕ) (o : Based ObjectView) (result : Option Made) → MeansObject (view_of_gc old) i word o
      → is_weak o.value.kind ≡ false → (length old.stack.words == old.settings.stack) ≡ false → o.value.partner ≡ None
      → Searches old new (wanted.WeakOf o.base) result heard
      → Tells old new (commands.Weak i) (made_reply result) heard
  weak-tells i word o result means strong room alone s =
      tells-searched old new (wanted.WeakOf o.base) result heard s (commands.Weak i)
      (rows.weak-made (view_of_gc old) i word o means s.log (record {
        view = view_of_gc new;
        reply = made_reply
            result;
      })
      strong room alone s.makes)

  -- `root` and `fixed`
  pub area-tells : (area : AreaWanted) (result : Option Made) → is_bad_area area.counted area.cells ≡ false
      → (area.scanned ≡ false → area.counted ≡ 0) → (length (view_of_gc old).areas == most_areas) ≡ false
      → Searches old new (wanted.Area area) result heard
      → Tells old new (area_command area) (made_reply result) heard
  area-tells area result fine raw few s =
      tells-searched old new (wanted.Area area) result heard s (area_command area) (row area.scanned refl)
    where
      row : (scanned : Bool) → area.scanned ≡ scanned
          → IsViewRow (view_of_gc old) (area_command area) s.log (record {
            view = view_of_gc new;
            reply = made_reply
                result;
          })
      row true e =
          subst
          (λ command. IsViewRow (view_of_gc old) command s.log (record {
            view = view_of_gc new;
            reply = made_reply
                result;
          }))
          (sym (ap (λ (b : Bool). if b then commands.Root area.counted area.cells else commands.Fixed area.cells) e))
          (rows.root-row (view_of_gc old) area.counted area.cells s.log
          (record { view = view_of_gc new; reply = made_reply result }) fine few
          (subst
          (λ (scanned : Bool). ViewMakes (view_of_gc old) Areas (area_bytes area.cells)
          (λ left found. view_area_effect left scanned area.counted area.cells found) s.log
          (record { view = view_of_gc new; reply = made_reply result }))
          e s.makes))
      row false e =
          let none = raw e in
          subst
          (λ command. IsViewRow (view_of_gc old) command s.log (record {
            view = view_of_gc new;
            reply = made_reply
                result;
          }))
          (sym (ap (λ (b : Bool). if b then commands.Root area.counted area.cells else commands.Fixed area.cells) e))
          (rows.fixed-row (view_of_gc old) area.cells s.log
          (record { view = view_of_gc new; reply = made_reply result })
          (subst (λ counted. is_bad_area counted area.cells ≡ false) none fine) few
          (subst
          (λ (counted : ℕ). ViewMakes (view_of_gc old) Areas (area_bytes area.cells)
          (λ left found. view_area_effect left false counted area.cells found) s.log
          (record { view = view_of_gc new; reply = made_reply result }))
          none
          (subst
          (λ (scanned : Bool). ViewMakes (view_of_gc old) Areas (area_bytes area.cells)
          (λ left found. view_area_effect left scanned area.counted area.cells found) s.log
          (record { view = view_of_gc new; reply = made_reply result }))
          e s.makes)))

-- its refusals
pub area-bad : (view : View) (area : AreaWanted) → is_bad_area area.counted area.cells ≡ true
    → (area.scanned ≡ false → area.counted ≡ 0) → RefusesIn view (area_command area) (Some refusals.Shape)
area-bad view area bad raw = split area.scanned refl
  where
    split : (scanned : Bool) → area.scanned ≡ scanned → RefusesIn view (area_command area) (Some refusals.Shape)
    split true e =
        subst (λ command. RefusesIn view command (Some refusals.Shape))
        (sym (ap (λ (b : Bool). if b then commands.Root area.counted area.cells else commands.Fixed area.cells) e))
        (rows.root-shape view area.counted area.cells bad)
    split false e =
        subst (λ command. RefusesIn view command (Some refusals.Shape))
        (sym (ap (λ (b : Bool). if b then commands.Root area.counted area.cells else commands.Fixed area.cells) e))
        (rows.fixed-shape view area.cells (subst (λ counted. is_bad_area counted area.cells ≡ true) (raw e) bad))

pub area-full : (view : View) (area : AreaWanted) → is_bad_area area.counted area.cells ≡ false
    → (area.scanned ≡ false → area.counted ≡ 0) → (length view.areas == most_areas) ≡ true
    → RefusesIn view (area_command area) (Some refusals.AreasFull)
area-full view area fine raw full = split area.scanned refl
  where
    split : (scanned : Bool) → area.scanned ≡ scanned → RefusesIn view (area_command area) (Some refusals.AreasFull)
    split true e =
        subst (λ command. RefusesIn view command (Some refusals.AreasFull))
        (sym (ap (λ (b : Bool). if b then commands.Root area.counted area.cells else commands.Fixed area.cells) e))
        (rows.root-full view area.counted area.cells fine full)
    split false e =
        subst (λ command. RefusesIn view command (Some refusals.AreasFull))
        (sym (ap (λ (b : Bool). if b then commands.Root area.counted area.cells else commands.Fixed area.cells) e))
        (rows.fixed-full view area.cells (subst (λ counted. is_bad_area counted area.cells ≡ false) (raw e) fine) full)

-- how many areas there are, as a heap is told by its parts
module _ (gc parts : Gc) (live : ℕ) (e : parts ≡ gc) (is : live ≡ length (view_of_gc parts).areas) where
  pub areas-full : live ≡ most_areas → (length (view_of_gc gc).areas == most_areas) ≡ true
  areas-full full =
      decides (length (view_of_gc gc).areas) most_areas
      (ap (λ (gc : Gc). length (view_of_gc gc).areas) (sym e) ∙ sym is ∙ full)

  pub areas-few : live ≢ most_areas → (length (view_of_gc gc).areas == most_areas) ≡ false
  areas-few other =
      refutes (length (view_of_gc gc).areas) most_areas
      (λ full. other (is ∙ ap (λ (gc : Gc). length (view_of_gc gc).areas) e ∙ full))
