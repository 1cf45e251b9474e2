-- The row of each command on a view is one on its state.
use Rattle.std.proofs.Common.{◌≡◌, ℕ, Bool, true, false, List, Option, Some, None, refl, subst}
use Rattle.mm_model.specs.declared.command.Command.{Command}
use Rattle.mm_model.specs.declared.command.Command.TheVariants as commands
use Rattle.mm_model.specs.declared.line.Line.{Line}
use Rattle.mm_model.specs.declared.refusal.Refusal.{Refusal}
use Rattle.mm_model.specs.declared.reply.Reply.TheVariants as replies
use Rattle.mm_model.specs.Places.SizeClass.{object_bytes, area_bytes}
use Rattle.mm_model.specs.State.{State}
use Rattle.mm_model.specs.Places.Place.{Objects, Areas}
use Rattle.mm_model.specs.Refusing.{refusal}
use Rattle.mm_model.specs.Effect.{Effect, new_effect, area_effect, plain_effect}
use Rattle.mm_model.specs.Step.{IsPlain, Makes, Reaps, Collects, Finishes, Scans, Carries, RowUnless, IsRow}
use Rattle.mm_model.specs.Good.{IsGood}
use Rattle.mm_model.specs.Views.View.{view_of}
use Rattle.mm_model.specs.Views.ViewEffect.{ViewEffect, view_new_effect, view_area_effect, view_plain_effect}
use Rattle.mm_model.specs.Views.ViewStep.{ViewIsPlain, ViewMakes, ViewCarries, ViewRowUnless, IsViewRow}
use Rattle.mm_model.proofs.Good.Allowed.{cycle_runs}
use Rattle.mm_model.proofs.View.Commands.Areas.{area_effect-seen}
use Rattle.mm_model.proofs.View.Commands.Makes.{RowShown, same-is, makes-shown}
use Rattle.mm_model.proofs.View.Commands.NewObjects.{new-seen}
use Rattle.mm_model.proofs.View.Marking.Parts.{scans-shown}
use Rattle.mm_model.proofs.View.Marking.Phases.{reap-shown, collection-shown, finish-shown}
use Rattle.mm_model.proofs.View.Commands.Plain.{plain_effect-seen}
use Rattle.mm_model.proofs.View.Commands.SameEffects.{SameEffect}
use Rattle.mm_model.proofs.View.Commands.Tests.{view_refusal-seen}
use Rattle.mm_model.proofs.View.Commands.WeakRows.{makes_weak_of-shown}

module _ (a : State) (good : IsGood a) where
  area-shown : (scanned : Bool) (counted cells : ℕ) (log : List Line) (v : ViewEffect)
      → ViewMakes (view_of a) Areas (area_bytes cells)
      (λ left found. view_area_effect left scanned counted cells found) log v
      → RowShown (Makes a Areas (area_bytes cells) (λ b found. area_effect b scanned counted cells found) log) v
  area-shown scanned counted cells =
      makes-shown a good Areas (area_bytes cells)
      (λ left found. view_area_effect left scanned counted cells found)
      (λ b found. area_effect b scanned counted cells found)
      (λ b found f. area_effect-seen b scanned counted cells found)

  effect-shown : (log : List Line) (v w : ViewEffect) (e : Effect) → SameEffect w e → ViewIsPlain log v w
      → RowShown (λ effect. IsPlain log effect e) v
  effect-shown log v w e same m =
      record {
        effect = e;
        row = record { no_lines = m.no_lines; effect_is = refl };
        same = same-is v w e m.effect_is same;
      }

  plain-shown : (command : Command) (log : List Line) (v : ViewEffect)
      → ViewIsPlain log v (view_plain_effect (view_of a) command)
      → RowShown (λ effect. IsPlain log effect (plain_effect a command)) v
  plain-shown command log v m =
      effect-shown log v (view_plain_effect (view_of a) command) (plain_effect a command)
      (plain_effect-seen a good command) m

  done-shown : (Row : State → Type 0) (b : State) (v : ViewEffect) → Row b → v.view ≡ view_of b
      → v.reply ≡ replies.Done → RowShown (λ effect. Row effect.state × (effect.reply ≡ replies.Done)) v
  done-shown Row b v row left reply =
      record {
        effect = record { state = b; reply = replies.Done };
        row = (row, refl);
        same = record { view = left; reply = reply };
      }

  pub carries-shown : (command : Command) (log : List Line) (v : ViewEffect) → refusal a command ≡ None
      → ViewCarries (view_of a) command log v → RowShown (Carries a command log) v
  carries-shown (commands.New shape) log v allowed m =
      makes-shown a good Objects (object_bytes shape.slots) (λ left found. view_new_effect left shape found)
      (λ b found. new_effect b shape found) (λ b found f. new-seen b f.good shape found f.place) log v m
  carries-shown (commands.Weak i) log v allowed m = makes_weak_of-shown a good i log v m
  carries-shown (commands.Root counted cells) log v allowed m = area-shown true counted cells log v m
  carries-shown (commands.Fixed cells) log v allowed m = area-shown false 0 cells log v m
  carries-shown commands.Reap log v allowed m =
      let one = reap-shown a good log v.view m.0 in
      done-shown (Reaps a log) one.state v one.reaps one.left_is m.1
  carries-shown commands.Collect log v allowed m =
      let one = collection-shown a good log v.view m.0 in
      done-shown (Collects a log) one.state v one.collects one.left_is m.1
  carries-shown (commands.Step k) log v allowed m =
      let one = scans-shown a good k log v.view m.0 in
      done-shown (Scans a k log) one.state v one.scans one.shown m.1
  carries-shown commands.Finish log v allowed m =
      let one = finish-shown a good log v.view (cycle_runs a allowed) m.0 in
      done-shown (Finishes a log) one.state v one.finishes one.left_is m.1
  carries-shown (commands.Push word) log v allowed m = plain-shown (commands.Push word) log v m
  carries-shown (commands.Dup i) log v allowed m = plain-shown (commands.Dup i) log v m
  carries-shown (commands.Pop k) log v allowed m = plain-shown (commands.Pop k) log v m
  carries-shown (commands.Inner i bytes) log v allowed m = plain-shown (commands.Inner i bytes) log v m
  carries-shown (commands.Get i s) log v allowed m = plain-shown (commands.Get i s) log v m
  carries-shown (commands.Put i s j) log v allowed m = plain-shown (commands.Put i s j) log v m
  carries-shown (commands.Look i) log v allowed m = plain-shown (commands.Look i) log v m
  carries-shown (commands.DropArea number) log v allowed m = plain-shown (commands.DropArea number) log v m
  carries-shown (commands.AreaGet number s) log v allowed m = plain-shown (commands.AreaGet number s) log v m
  carries-shown (commands.AreaPut number s j) log v allowed m = plain-shown (commands.AreaPut number s j) log v m
  carries-shown commands.Begin log v allowed m = plain-shown commands.Begin log v m
  carries-shown (commands.Map i) log v allowed m = plain-shown (commands.Map i) log v m
  carries-shown commands.Stat log v allowed m = plain-shown commands.Stat log v m

  row_unless-shown : (because : Option Refusal) (command : Command) (log : List Line) (v : ViewEffect)
      → refusal a command ≡ because → ViewRowUnless because (view_of a) command log v
      → RowShown (RowUnless because a command log) v
  row_unless-shown None command log v e m = carries-shown command log v e m
  row_unless-shown (Some because) command log v e m =
      effect-shown log v (record { view = view_of a; reply = replies.Refused because })
      (record { state = a; reply = replies.Refused because }) (record { view = refl; reply = refl }) m

  -- What a command does to the view of a good state, and the lines that it writes, are so of the state.
  pub row-shown : (command : Command) (log : List Line) (v : ViewEffect) → IsViewRow (view_of a) command log v
      → RowShown (IsRow a command log) v
  row-shown command log v m =
      row_unless-shown (refusal a command) command log v refl
      (subst (λ because. ViewRowUnless because (view_of a) command log v) (view_refusal-seen a good command) m)
