-- A row leaves the number of commands as it is.
use Rattle.std.proofs.Common.{◌≡◌, ℕ, ◌+◌, Bool, true, false, not, ◌&&◌, cond, List, [], ◌∷◌, length, Option, Some}
use Rattle.std.proofs.Common.{None, refl, ap, ◌∙◌}
use Rattle.std.specs.Prelude.{slice_get, slice_set, slice_index, ◌==◌, if◌then◌else◌}
use Rattle.mm_model.specs.declared.command.Command.{Command}
use Rattle.mm_model.specs.declared.command.Command.TheVariants as commands
use Rattle.mm_model.specs.declared.line.Line.{Line}
use Rattle.mm_model.specs.declared.object.Shape.{Shape}
use Rattle.mm_model.specs.declared.object.Colour.TheVariants.{Black}
use Rattle.mm_model.specs.declared.reply.Reply.TheVariants as replies
use Rattle.std.specs.Option.{option_map}
use Rattle.mm_model.specs.declared.refusal.Refusal.{Refusal}
use Rattle.mm_model.specs.declared.reply.Reply.{Reply}
use Rattle.mm_model.specs.Places.Place.{Family}
use Rattle.mm_model.specs.Views.ByBase.{Based, with_entry}
use Rattle.mm_model.specs.Views.ObjectView.{ObjectView, scanned_words_of, slot_kind_of}
use Rattle.mm_model.specs.Views.SetsByBase.{with_grayed_objects}
use Rattle.mm_model.specs.Views.View.{View, AreaView}
use Rattle.mm_model.specs.Views.ViewWords.{object_at, view_meant, area_in, cell_kind_of}
use Rattle.mm_model.specs.Words.{SlotKind}
use Rattle.mm_model.specs.Sets.Marking.{is_raw}
use Rattle.mm_model.specs.Store.{is_counted_slot}
use Rattle.mm_model.specs.Views.ViewStore.{view_with_sticky, view_with_grayed, view_recounted, view_is_passed}
use Rattle.mm_model.specs.Views.ViewStore.{view_barrier}
use Rattle.mm_model.specs.Views.ViewStore.{view_with_word, view_with_area, view_put, view_area_put}
use Rattle.mm_model.specs.Views.ViewTests.{view_refusal}
use Rattle.mm_model.specs.Views.ViewEffect.{ViewEffect, with_found, view_done, view_pushed, view_pushes}
use Rattle.mm_model.specs.Views.ViewEffect.{view_look_effect}
use Rattle.mm_model.specs.Views.ViewEffect.{view_plain_effect, view_put_effect, view_area_put_effect, view_new_effect}
use Rattle.mm_model.specs.Views.ViewEffect.{view_weak_effect, view_area_effect, view_weak_made}
use Rattle.mm_model.specs.Views.ViewStep.{IsViewRow, ViewRowUnless, ViewCarries, ViewMakesWeak, ViewSearches}
use Rattle.mm_model.specs.Views.ViewStep.{ViewIsPlain}
use Rattle.mm_model.specs.Views.ViewStep.{ViewScansAll, view_part_done, view_part_slots, view_advanced, slots_done_in}
use Rattle.mm_model.specs.Views.ViewStep.{with_partly}
use Rattle.mm_gc.specs.Gc.{Gc, view_of_gc}
use Rattle.mm_sweep.specs.Told.{Told}
use Rattle.mm_gc.specs.Rows.{Answers, Tells}

-- as many commands were carried out
abbrev pub AsMany : View → View → Type 0
AsMany old new = new.totals.commands ≡ old.totals.commands

then_many : (a b c : View) → AsMany a b → AsMany b c → AsMany a c
then_many a b c p q = q ∙ p

same_many : (a b : View) → b ≡ a → AsMany a b
same_many a b e = ap (λ (v : View). v.totals.commands) e

found_many : {X : Type 0} (found : Option X) (view : View) (effect : X → ViewEffect)
    → ((x : X) → AsMany view (effect x).view) → AsMany view (with_found found view effect).view
found_many None view effect h = refl
found_many (Some x) view effect h = h x

search_many : (view left : View) (family : Family) (bytes : ℕ) (log : List Line) (found : Option ℕ)
    → ViewSearches view family bytes log left found → AsMany view left
search_many view left family bytes log found (ViewSearches.At_once base place log_is left_is found_is) =
    same_many view left left_is
search_many view left family bytes log found (ViewSearches.After_reap base dead none reaps place log_is left_is
    found_is) =
    ap (λ (v : View). v.totals.commands) left_is
search_many view left family bytes log found
    (ViewSearches.After_collection dead lost none reaps still collects log_is left_is found_is) =
    ap (λ (v : View). v.totals.commands) left_is

new_many : (view : View) (shape : Shape) (found : Option ℕ) → AsMany view (view_new_effect view shape found).view
new_many view shape None = refl
new_many view shape (Some base) = refl

weak_many : (view : View) (target : ℕ) (found : Option ℕ) → AsMany view (view_weak_effect view target found).view
weak_many view target None = refl
weak_many view target (Some base) = found (object_at view.objects target)
  where
    found : (o : Option (Based ObjectView))
        → AsMany view (with_found o view (λ o. record {
          view = view_weak_made view o base;
          reply = replies.New base;
        })).view
    found None = refl
    found (Some o) = refl

area_many : (view : View) (scanned : Bool) (counted cells : ℕ) (found : Option ℕ)
    → AsMany view (view_area_effect view scanned counted cells found).view
area_many view scanned counted cells None = refl
area_many view scanned counted cells (Some base) = refl

effect_many : (view : View) (effect is : ViewEffect) → effect ≡ is → AsMany view is.view → AsMany view effect.view
effect_many view effect is e h = ap (λ (v : ViewEffect). v.view.totals.commands) e ∙ h

weak_of_many : (view : View) (target : ℕ) (partner : Option ℕ) (log : List Line) (effect : ViewEffect)
    → ViewMakesWeak view target partner log effect → AsMany view effect.view
weak_of_many view target (Some weak) log effect m = effect_many view effect (view_pushes weak view) m.effect_is refl
weak_of_many view target None log effect m =
    effect_many view effect (view_weak_effect m.left target m.found) m.effect_is
    (then_many view m.left (view_weak_effect m.left target m.found).view
    (search_many view m.left _ _ log m.found m.search) (weak_many m.left target m.found))

look_many : (view : View) (partner : Option ℕ) → AsMany view (view_look_effect view partner).view
look_many view None = refl
look_many view (Some base) = refl

recounted_many : (kind : SlotKind) (old new : ℕ) (view : View) → AsMany view (view_recounted kind old new view)
recounted_many kind old new view = split (is_counted_slot kind && not (old == new))
  where
    split : (b : Bool) → AsMany view (if b then view_with_sticky new view else view)
    split true = refl
    split false = refl

barrier_many : (o : Based ObjectView) (s word : ℕ) (view : View) → AsMany view (view_barrier o s word view)
barrier_many o s word view = split (not (is_raw (slot_kind_of o.value s)) && view_is_passed view.cycle o s)
  where
    split : (b : Bool) → AsMany view (if b then view_with_grayed (word ∷ []) view else view)
    split true = refl
    split false = refl

put_many : (view : View) (o : Based ObjectView) (s word : ℕ) → AsMany view (view_put view o s word)
put_many view o s word =
    let written = view_with_word o s word view in
    let counted = view_recounted (slot_kind_of o.value s) (slice_index o.value.words s) word written in
    then_many view counted (view_put view o s word)
    (recounted_many (slot_kind_of o.value s) (slice_index o.value.words s) word written) (barrier_many o s word counted)

area_put_many : (view : View) (area : AreaView) (s word : ℕ) → AsMany view (view_area_put view area s word)
area_put_many view area s word =
    recounted_many (cell_kind_of area s) (slice_index area.words s) word
    (view_with_area (record area { words = slice_set area.words s word }) view)

plain_many : (view : View) (command : Command) → AsMany view (view_plain_effect view command).view
plain_many view (commands.Push word) = refl
plain_many view (commands.Dup i) =
    found_many (slice_get view.stack i) view (λ word. view_done (view_pushed word view)) (λ word. refl)
plain_many view (commands.Pop k) = refl
plain_many view (commands.Inner i bytes) =
    found_many (slice_get view.stack i) view (λ word. view_pushes (word + bytes) view) (λ word. refl)
plain_many view (commands.Get i s) =
    found_many (view_meant view i) view
    (λ o. with_found (slice_get o.value.words s) view (λ word. view_pushes word view))
    (λ o. found_many (slice_get o.value.words s) view (λ word. view_pushes word view) (λ word. refl))
plain_many view (commands.Put i s j) =
    found_many (view_meant view i) view (λ o. with_found (slice_get view.stack j) view (view_put_effect view o s))
    (λ o. found_many (slice_get view.stack j) view (view_put_effect view o s) (λ word. put_many view o s word))
plain_many view (commands.Look i) =
    found_many (view_meant view i) view (λ o. view_look_effect view o.value.partner)
    (λ o. look_many view o.value.partner)
plain_many view (commands.DropArea number) = refl
plain_many view (commands.AreaGet number s) =
    found_many (area_in view number) view
    (λ area. with_found (slice_get area.words s) view (λ word. view_pushes word view))
    (λ area. found_many (slice_get area.words s) view (λ word. view_pushes word view) (λ word. refl))
plain_many view (commands.AreaPut number s j) =
    found_many (area_in view number) view
    (λ area. with_found (slice_get view.stack j) view (view_area_put_effect view area s))
    (λ area. found_many (slice_get view.stack j) view (view_area_put_effect view area s) (λ word. area_put_many view
    area s word))
plain_many view commands.Begin = refl
plain_many view (commands.Map i) = refl
plain_many view commands.Stat = refl
plain_many view (commands.New shape) = refl
plain_many view (commands.Weak i) = refl
plain_many view (commands.Root counted cells) = refl
plain_many view (commands.Fixed cells) = refl
plain_many view commands.Reap = refl
plain_many view commands.Collect = refl
plain_many view (commands.Step k) = refl
plain_many view commands.Finish = refl

advanced_many : (view : View) (o : Based ObjectView) (done : ℕ) → AsMany view (view_advanced o done view)
advanced_many view o done = split (done == length (scanned_words_of o.value))
  where
    split : (b : Bool)
        → AsMany view
        (cond b
        (record view {
          objects = with_entry o.base (Some (record o.value { colour = Black })) view.objects;
          cycle = option_map (with_partly None) view.cycle;
        })
        (record view {
          cycle = option_map (with_partly (Some (record { base = o.base; slots_done = done }))) view.cycle;
        }))
    split true = refl
    split false = refl

scans_many : (view : View) (objects : List (Based ObjectView)) (log : List Line) (left : View)
    → ViewScansAll view objects log left → AsMany view left
scans_many view [] log left scans = same_many view left scans.1
scans_many view (o ∷ objects) log left scans =
    then_many view (view_part_done view o) left (part_many view o) (scans_many (view_part_done view o) objects
    scans.0 left scans.3)
  where
    part_many : (view : View) (o : Based ObjectView) → AsMany view (view_part_done view o)
    part_many view o =
        let slots = view_part_slots view o in
        advanced_many (record view { objects = with_grayed_objects slots view.objects }) o
        (slots_done_in view.cycle o.base + length slots)

plain_is_many : (view : View) (command : Command) (log : List Line) (effect : ViewEffect)
    → ViewIsPlain log effect (view_plain_effect view command) → AsMany view effect.view
plain_is_many view command log effect m =
    effect_many view effect (view_plain_effect view command) m.effect_is (plain_many view command)

carries_many : (view : View) (command : Command) (log : List Line) (effect : ViewEffect)
    → ViewCarries view command log effect → AsMany view effect.view
carries_many view (commands.New shape) log effect m =
    effect_many view effect (view_new_effect m.left shape m.found) m.effect_is
    (then_many view m.left (view_new_effect m.left shape m.found).view
    (search_many view m.left _ _ log m.found m.search) (new_many m.left shape m.found))
carries_many view (commands.Weak i) log effect m =
    weak_of_many view m.target.base m.target.value.partner log effect m.makes
carries_many view (commands.Root counted cells) log effect m =
    effect_many view effect (view_area_effect m.left true counted cells m.found) m.effect_is
    (then_many view m.left (view_area_effect m.left true counted cells m.found).view
    (search_many view m.left _ _ log m.found m.search) (area_many m.left true counted cells m.found))
carries_many view (commands.Fixed cells) log effect m =
    effect_many view effect (view_area_effect m.left false 0 cells m.found) m.effect_is
    (then_many view m.left (view_area_effect m.left false 0 cells m.found).view
    (search_many view m.left _ _ log m.found m.search) (area_many m.left false 0 cells m.found))
carries_many view commands.Reap log effect m = ap (λ (v : View). v.totals.commands) m.0.left_is
carries_many view commands.Collect log effect m = ap (λ (v : View). v.totals.commands) m.0.left_is
carries_many view (commands.Step k) log effect m = scans_many view m.0.objects log effect.view m.0.scanned
carries_many view commands.Finish log effect m = ap (λ (v : View). v.totals.commands) m.0.left_is
carries_many view (commands.Push word) log effect m = plain_is_many view (commands.Push word) log effect m
carries_many view (commands.Dup i) log effect m = plain_is_many view (commands.Dup i) log effect m
carries_many view (commands.Pop k) log effect m = plain_is_many view (commands.Pop k) log effect m
carries_many view (commands.Inner i bytes) log effect m = plain_is_many view (commands.Inner i bytes) log effect m
carries_many view (commands.Get i s) log effect m = plain_is_many view (commands.Get i s) log effect m
carries_many view (commands.Put i s j) log effect m = plain_is_many view (commands.Put i s j) log effect m
carries_many view (commands.Look i) log effect m = plain_is_many view (commands.Look i) log effect m
carries_many view (commands.DropArea number) log effect m = plain_is_many view (commands.DropArea number) log effect m
carries_many view (commands.AreaGet number s) log effect m = plain_is_many view (commands.AreaGet number s) log effect m
carries_many view (commands.AreaPut number s j) log effect m = plain_is_many view (commands.AreaPut number s j) log
    effect m
carries_many view commands.Begin log effect m = plain_is_many view commands.Begin log effect m
carries_many view (commands.Map i) log effect m = plain_is_many view (commands.Map i) log effect m
carries_many view commands.Stat log effect m = plain_is_many view commands.Stat log effect m

pub row-commands : (old : View) (command : Command) (log : List Line) (effect : ViewEffect)
    → IsViewRow old command log effect → effect.view.totals.commands ≡ old.totals.commands
row-commands old command log effect row = split (view_refusal old command) row
  where
    split : (found : Option Refusal) → ViewRowUnless found old command log effect
        → effect.view.totals.commands ≡ old.totals.commands
    split None m = carries_many old command log effect m
    split (Some because) m = ap (λ (v : ViewEffect). v.view.totals.commands) m.effect_is

-- and so does what is told of a call
pub answers-commands : (old new : Gc) (command : Command) (reply : Reply) → Answers old new command reply
    → new.commands ≡ old.commands
answers-commands old new command reply a =
    row-commands (view_of_gc old) command [] (record { view = view_of_gc new; reply = reply }) a.row

pub tells-commands : (old new : Gc) (command : Command) (reply : Reply) (heard : List Told → Type 0)
    → Tells old new command reply heard → new.commands ≡ old.commands
tells-commands old new command reply heard t =
    row-commands (view_of_gc old) command t.log (record { view = view_of_gc new; reply = reply }) t.answers.row
