-- From a row to a step: the reap at the end of a command, and the count of commands.
use Rattle.std.proofs.Common.{◌≡◌, ℕ, ◌+◌, Bool, true, false, not, ◌&&◌, List, [], ◌∷◌, ◌++◌, Option, Some, None, refl}
use Rattle.std.proofs.Common.{sym, ap, ◌∙◌, subst}
use Rattle.std.proofs.lemmas.List.{append-nil}
use Rattle.std.specs.Prelude.{if◌then◌else◌}
use Rattle.std.specs.Prelude.{slice_get}
use Rattle.mm_model.specs.declared.command.Command.{Command}
use Rattle.mm_model.specs.declared.command.Command.TheVariants as commands
use Rattle.mm_model.specs.declared.refusal.Refusal.{Refusal}
use Rattle.mm_model.specs.declared.reply.Reply.{Reply}
use Rattle.mm_model.specs.declared.reply.Reply.TheVariants as replies
use Rattle.mm_model.specs.declared.line.Line.{Line}
use Rattle.mm_model.specs.declared.line.Line.TheVariants as lines
use Rattle.mm_model.specs.declared.object.Shape.{Shape}
use Rattle.mm_model.specs.Step.{is_full}
use Rattle.mm_model.specs.Words.{SlotKind}
use Rattle.mm_model.specs.Views.ByBase.{Based}
use Rattle.mm_model.specs.Views.ObjectView.{ObjectView, slot_kind_of}
use Rattle.mm_model.specs.Views.View.{View}
use Rattle.mm_model.specs.Views.ViewWords.{object_at, view_meant, area_in, cell_kind_of, falls_in_counted_of}
use Rattle.mm_model.specs.Store.{is_counted_slot}
use Rattle.mm_model.specs.Views.ViewTests.{view_refusal}
use Rattle.mm_model.specs.Views.ViewStore.{view_store_reply}
use Rattle.mm_model.specs.Views.ViewEffect.{ViewEffect, with_found, view_done, view_pushed, view_pushes}
use Rattle.mm_model.specs.Views.ViewEffect.{view_look_effect}
use Rattle.mm_model.specs.Views.ViewEffect.{view_map_reply, view_plain_effect, view_put_effect, view_area_put_effect}
use Rattle.mm_model.specs.Views.ViewEffect.{view_new_effect, view_weak_effect, view_area_effect, view_weak_made}
use Rattle.mm_gc.specs.Ending.{is_refused}
use Rattle.mm_model.specs.Views.ViewStep.{IsViewRow, ViewRowUnless, IsViewStep, IsViewStepUnless, ViewCarries}
use Rattle.mm_model.specs.Views.ViewStep.{ViewMakesWeak}
use Rattle.mm_model.specs.Views.ViewStep.{ViewEnds, ViewIsPlain, one_more_counted}

-- it refuses as full, or it refuses nothing
record RefusesAtMostFull (reply : Reply) : Type 0 where
  full : is_refused reply ≡ true → is_full reply ≡ true

accepts : (reply : Reply) → is_refused reply ≡ false → RefusesAtMostFull reply
accepts reply e = record { full = λ other. let both = sym other ∙ e in cc }

not_full : (reply : Reply) → is_refused reply ≡ false → is_full reply ≡ false
not_full (replies.Refused because) e = cc
not_full replies.Done e = refl
not_full replies.Loose e = refl
not_full (replies.New base) e = refl
not_full (replies.Word word) e = refl
not_full (replies.Area area) e = refl
not_full (replies.Object found) e = refl
not_full replies.Nothing e = refl
not_full (replies.Stat stat) e = refl

of_effect : (effect is : ViewEffect) → effect ≡ is → RefusesAtMostFull is.reply → RefusesAtMostFull effect.reply
of_effect effect is e h = subst (λ (v : ViewEffect). RefusesAtMostFull v.reply) (sym e) h

found_accepts : {X : Type 0} (found : Option X) (view : View) (effect : X → ViewEffect)
    → ((x : X) → is_refused (effect x).reply ≡ false) → is_refused (with_found found view effect).reply ≡ false
found_accepts None view effect h = refl
found_accepts (Some x) view effect h = h x

store_accepts : (view : View) (kind : SlotKind) (word : ℕ) → is_refused (view_store_reply view kind word) ≡ false
store_accepts view kind word =
    split (is_counted_slot kind) (falls_in_counted_of view.objects word)
  where
    split : (a b : Bool) → is_refused (if not a && b then replies.Loose else replies.Done) ≡ false
    split true b = refl
    split false true = refl
    split false false = refl

look_accepts : (view : View) (partner : Option ℕ) → is_refused (view_look_effect view partner).reply ≡ false
look_accepts view None = refl
look_accepts view (Some base) = refl

map_accepts : (found : Option (Based ObjectView)) → is_refused (view_map_reply found) ≡ false
map_accepts None = refl
map_accepts (Some o) = refl

plain_accepts : (view : View) (command : Command) → is_refused (view_plain_effect view command).reply ≡ false
plain_accepts view (commands.Push word) = refl
plain_accepts view (commands.Dup i) =
    found_accepts (slice_get view.stack i) view (λ word. view_done (view_pushed word view)) (λ word. refl)
plain_accepts view (commands.Pop k) = refl
plain_accepts view (commands.Inner i bytes) =
    found_accepts (slice_get view.stack i) view (λ word. view_pushes (word + bytes) view) (λ word. refl)
plain_accepts view (commands.Get i s) =
    found_accepts (view_meant view i) view
    (λ o. with_found (slice_get o.value.words s) view (λ word. view_pushes word view))
    (λ o. found_accepts (slice_get o.value.words s) view (λ word. view_pushes word view) (λ word. refl))
plain_accepts view (commands.Put i s j) =
    found_accepts (view_meant view i) view (λ o. with_found (slice_get view.stack j) view (view_put_effect view o s))
    (λ o. found_accepts (slice_get view.stack j) view (view_put_effect view o s)
    (λ word. store_accepts view (slot_kind_of o.value s) word))
plain_accepts view (commands.Look i) =
    found_accepts (view_meant view i) view (λ o. view_look_effect view o.value.partner)
    (λ o. look_accepts view o.value.partner)
plain_accepts view (commands.DropArea number) = refl
plain_accepts view (commands.AreaGet number s) =
    found_accepts (area_in view number) view
    (λ area. with_found (slice_get area.words s) view (λ word. view_pushes word view))
    (λ area. found_accepts (slice_get area.words s) view (λ word. view_pushes word view) (λ word. refl))
plain_accepts view (commands.AreaPut number s j) =
    found_accepts (area_in view number) view
    (λ area. with_found (slice_get view.stack j) view (view_area_put_effect view area s))
    (λ area. found_accepts (slice_get view.stack j) view (view_area_put_effect view area s)
    (λ word. store_accepts view (cell_kind_of area s) word))
plain_accepts view commands.Begin = refl
plain_accepts view (commands.Map i) = map_accepts (view_meant view i)
plain_accepts view commands.Stat = refl
plain_accepts view (commands.New shape) = refl
plain_accepts view (commands.Weak i) = refl
plain_accepts view (commands.Root counted cells) = refl
plain_accepts view (commands.Fixed cells) = refl
plain_accepts view commands.Reap = refl
plain_accepts view commands.Collect = refl
plain_accepts view (commands.Step k) = refl
plain_accepts view commands.Finish = refl

new_full : (view : View) (shape : Shape) (found : Option ℕ) → RefusesAtMostFull (view_new_effect view shape found).reply
new_full view shape None = record { full = λ e. refl }
new_full view shape (Some base) = accepts (replies.New base) refl

weak_full : (view : View) (target : ℕ) (found : Option ℕ) → RefusesAtMostFull (view_weak_effect view target found).reply
weak_full view target None = record { full = λ e. refl }
weak_full view target (Some base) =
    accepts (view_weak_effect view target (Some base)).reply
    (found_accepts (object_at view.objects target) view
    (λ o. record { view = view_weak_made view o base; reply = replies.New base }) (λ o. refl))

area_full : (view : View) (scanned : Bool) (counted cells : ℕ) (found : Option ℕ)
    → RefusesAtMostFull (view_area_effect view scanned counted cells found).reply
area_full view scanned counted cells None = record { full = λ e. refl }
area_full view scanned counted cells (Some base) =
    accepts (view_area_effect view scanned counted cells (Some base)).reply refl

makes_weak_full : (view : View) (target : ℕ) (partner : Option ℕ) (log : List Line) (effect : ViewEffect)
    → ViewMakesWeak view target partner log effect → RefusesAtMostFull effect.reply
makes_weak_full view target (Some weak) log effect m =
    of_effect effect (view_pushes weak view) m.effect_is (accepts (replies.Word weak) refl)
makes_weak_full view target None log effect m =
    of_effect effect (view_weak_effect m.left target m.found) m.effect_is (weak_full m.left target m.found)

plain_full : (view : View) (command : Command) (log : List Line) (effect : ViewEffect)
    → ViewIsPlain log effect (view_plain_effect view command) → RefusesAtMostFull effect.reply
plain_full view command log effect m =
    of_effect effect (view_plain_effect view command) m.effect_is
    (accepts (view_plain_effect view command).reply (plain_accepts view command))

done_full : (reply : Reply) → reply ≡ replies.Done → RefusesAtMostFull reply
done_full reply e = accepts reply (ap is_refused e)

-- a command that isn't refused before anything is tried is refused as full, or not at all
carries_full : (view : View) (command : Command) (log : List Line) (effect : ViewEffect)
    → ViewCarries view command log effect → RefusesAtMostFull effect.reply
carries_full view (commands.New shape) log effect m =
    of_effect effect (view_new_effect m.left shape m.found) m.effect_is (new_full m.left shape m.found)
carries_full view (commands.Weak i) log effect m =
    makes_weak_full view m.target.base m.target.value.partner log effect m.makes
carries_full view (commands.Root counted cells) log effect m =
    of_effect effect (view_area_effect m.left true counted cells m.found) m.effect_is
    (area_full m.left true counted cells m.found)
carries_full view (commands.Fixed cells) log effect m =
    of_effect effect (view_area_effect m.left false 0 cells m.found) m.effect_is
    (area_full m.left false 0 cells m.found)
carries_full view commands.Reap log effect m = done_full effect.reply m.1
carries_full view commands.Collect log effect m = done_full effect.reply m.1
carries_full view (commands.Step k) log effect m = done_full effect.reply m.1
carries_full view commands.Finish log effect m = done_full effect.reply m.1
carries_full view (commands.Push word) log effect m = plain_full view (commands.Push word) log effect m
carries_full view (commands.Dup i) log effect m = plain_full view (commands.Dup i) log effect m
carries_full view (commands.Pop k) log effect m = plain_full view (commands.Pop k) log effect m
carries_full view (commands.Inner i bytes) log effect m = plain_full view (commands.Inner i bytes) log effect m
carries_full view (commands.Get i s) log effect m = plain_full view (commands.Get i s) log effect m
carries_full view (commands.Put i s j) log effect m = plain_full view (commands.Put i s j) log effect m
carries_full view (commands.Look i) log effect m = plain_full view (commands.Look i) log effect m
carries_full view (commands.DropArea number) log effect m = plain_full view (commands.DropArea number) log effect m
carries_full view (commands.AreaGet number s) log effect m = plain_full view (commands.AreaGet number s) log effect m
carries_full view (commands.AreaPut number s j) log effect m = plain_full view (commands.AreaPut number s j) log effect
    m
carries_full view commands.Begin log effect m = plain_full view commands.Begin log effect m
carries_full view (commands.Map i) log effect m = plain_full view (commands.Map i) log effect m
carries_full view commands.Stat log effect m = plain_full view commands.Stat log effect m

-- a command that was refused ends without a reap
pub refused-step : (old middle : View) (command : Command) (log : List Line) (reply : Reply)
    → IsViewRow old command log (record { view = middle; reply = reply }) → is_refused reply ≡ true
    → IsViewStep old command (log ++ lines.Reply reply ∷ []) (one_more_counted middle)
refused-step old middle command log reply row refused = split (view_refusal old command) row
  where
    split : (found : Option Refusal) → ViewRowUnless found old command log (record { view = middle; reply = reply })
        → IsViewStepUnless found old command (log ++ lines.Reply reply ∷ []) (one_more_counted middle)
    split None m =
        record {
          log = log;
          effect = record { view = middle; reply = reply };
          carries = m;
          end_log = [];
          end = middle;
          ends = ViewEnds.Refused_as_full
              ((carries_full old command log (record { view = middle; reply = reply }) m).full refused) refl refl;
          group_is = ap (λ (l : List Line). l ++ lines.Reply reply ∷ []) (sym (append-nil log));
          left_is = refl;
        }
    split (Some because) m =
        record {
          group_is = ap (λ (l : List Line). l ++ lines.Reply reply ∷ []) m.no_lines
              ∙ ap (λ (v : ViewEffect). lines.Reply v.reply ∷ []) m.effect_is;
          left_is = ap (λ (v : ViewEffect). one_more_counted v.view) m.effect_is;
        }

-- one that wasn't ends with a reap, or without one where few zero-count objects are left
pub done-step : (old middle end : View) (command : Command) (log end_log : List Line) (reply : Reply)
    → IsViewRow old command log (record { view = middle; reply = reply }) → is_refused reply ≡ false
    → ViewEnds middle false end_log end
    → IsViewStep old command (log ++ end_log ++ lines.Reply reply ∷ []) (one_more_counted end)
done-step old middle end command log end_log reply row done ends = split (view_refusal old command) row
  where
    split : (found : Option Refusal) → ViewRowUnless found old command log (record { view = middle; reply = reply })
        → IsViewStepUnless found old command (log ++ end_log ++ lines.Reply reply ∷ []) (one_more_counted end)
    split None m =
        record {
          log = log;
          effect = record { view = middle; reply = reply };
          carries = m;
          end_log = end_log;
          end = end;
          ends = subst (λ full. ViewEnds middle full end_log end) (sym (not_full reply done)) ends;
          group_is = refl;
          left_is = refl;
        }
    split (Some because) m =
        let same = ap (λ (v : ViewEffect). is_refused v.reply) m.effect_is in
        let other = sym done ∙ same in
        cc
