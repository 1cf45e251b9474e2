-- What a command does to a view, and the lines that it writes: a step, said in words alone.
use Rattle.std.specs.Prelude.{◌≡◌, ℕ, ◌+◌, ◌≤◌, ◌<◌, ◌==◌, ◌-◌, sum, Bool, true, false, if◌then◌else◌, IsTrue, List, []}
use Rattle.std.specs.Prelude.{◌∷◌, ◌++◌, take, drop, length, Option, Some, None, IfSome}
use Rattle.std.specs.Option.{option_map}
use Rattle.mm_model.specs.declared.object.Colour.TheVariants.{Gray, Black}
use Rattle.mm_model.specs.declared.command.Command.{Command}
use Rattle.mm_model.specs.declared.command.Command.TheVariants as commands
use Rattle.mm_model.specs.declared.refusal.Refusal.{Refusal}
use Rattle.mm_model.specs.declared.reply.Reply.TheVariants as replies
use Rattle.mm_model.specs.declared.line.Line.{Line}
use Rattle.mm_model.specs.declared.line.Line.TheVariants as lines
use Rattle.mm_model.specs.declared.line.Phase.TheVariants.{Reap, Collect}
use Rattle.mm_model.specs.Places.SizeClass.{size_of, object_bytes, area_bytes}
use Rattle.mm_model.specs.Places.Place.{Family, Objects, Areas, place_among}
use Rattle.mm_model.specs.Sets.Scan.{costs}
use Rattle.mm_model.specs.Step.{is_full}
use Rattle.mm_model.specs.Views.ByBase.{Begins, Based, with_entry}
use Rattle.mm_model.specs.Views.ObjectView.{ObjectView, scanned_words_of}
use Rattle.mm_model.specs.Views.SetsByBase.{with_grayed_objects}
use Rattle.mm_model.specs.Views.View.{View, CycleView, PartlyScannedView}
use Rattle.mm_model.specs.Views.ViewWords.{view_meant, view_pieces, view_region_pages, view_zero_count}
use Rattle.mm_model.specs.Views.ViewTests.{view_refusal}
use Rattle.mm_model.specs.Views.ViewEffect.{ViewEffect, view_new_effect, view_weak_effect, view_area_effect}
use Rattle.mm_model.specs.Views.ViewEffect.{view_pushes}
use Rattle.mm_model.specs.Views.ViewEffect.{view_plain_effect}
use Rattle.mm_model.specs.Views.ViewPhase.{view_phase_lines, view_reaped, view_collected, ViewReaps, ViewCollects}
use Rattle.mm_model.specs.Views.ViewPhase.{ViewFinishes}

-- where a piece goes within the region as it is, and in one that may grow to its greatest number of pages
abbrev pub view_place_now : View → Family → ℕ → Option ℕ
view_place_now view family bytes = place_among (view_pieces view) (view_region_pages view) family (size_of bytes)

abbrev pub view_place_grown : View → Family → ℕ → Option ℕ
view_place_grown view family bytes = place_among (view_pieces view) view.settings.max family (size_of bytes)

-- The lines that a search writes, the view that it leaves, and the place that it finds, at once, after a reap, or after
-- a full collection. Where it finds none in the end, the command is refused as full.
pub data ViewSearches (view : View) (family : Family) (bytes : ℕ) (log : List Line) (left : View)
    (found : Option ℕ) : Type 0 where
  At_once : (base : ℕ) → view_place_now view family bytes ≡ Some base → log ≡ [] → left ≡ view
      → found ≡ Some base → ViewSearches view family bytes log left found
  After_reap : (base : ℕ) (dead : List ℕ) → view_place_now view family bytes ≡ None → ViewReaps view dead
      → view_place_grown (view_reaped dead view) family bytes ≡ Some base → log ≡ view_phase_lines Reap view dead
      → left ≡ view_reaped dead view → found ≡ Some base
      → ViewSearches view family bytes log left found
  After_collection : (dead lost : List ℕ) → view_place_now view family bytes ≡ None → ViewReaps view dead
      → view_place_grown (view_reaped dead view) family bytes ≡ None → ViewCollects (view_reaped dead view) lost
      → log ≡ view_phase_lines Reap view dead ++ view_phase_lines Collect (view_reaped dead view) lost
      → left ≡ view_collected lost (view_reaped dead view)
      → found ≡ view_place_grown (view_collected lost (view_reaped dead view)) family bytes
      → ViewSearches view family bytes log left found

-- A place is looked for, and what follows depends on the view that the search leaves and on the place.
pub record ViewMakes (view : View) (family : Family) (bytes : ℕ) (after : View → Option ℕ → ViewEffect)
    (log : List Line) (effect : ViewEffect) : Type 0 where
  pub left : View
  pub found : Option ℕ
  pub search : ViewSearches view family bytes log left found
  pub effect_is : effect ≡ after left found

-- nothing is freed or scanned
pub record ViewIsPlain (log : List Line) (effect is : ViewEffect) : Type 0 where
  pub no_lines : log ≡ []
  pub effect_is : effect ≡ is

-- `weak`: the weak reference that there is, or a new one
abbrev pub ViewMakesWeak : View → ℕ → Option ℕ → List Line → ViewEffect → Type 0
ViewMakesWeak view target (Some weak) log effect = ViewIsPlain log effect (view_pushes weak view)
ViewMakesWeak view target None log effect =
    ViewMakes view Objects (object_bytes 0) (λ left found. view_weak_effect left target found) log effect

-- what the cell means, which it does where the command isn't refused
pub record ViewMakesWeakOf (view : View) (i : ℕ) (log : List Line) (effect : ViewEffect) : Type 0 where
  pub target : Based ObjectView
  pub target_is : view_meant view i ≡ Some target
  pub makes : ViewMakesWeak view target.base target.value.partner log effect

-- how many slots of the partly scanned object are done, and 0 for any other
abbrev pub slots_done_of : Option PartlyScannedView → ℕ → ℕ
slots_done_of None base = 0
slots_done_of (Some partly_scanned) base =
    if partly_scanned.base == base then partly_scanned.slots_done else 0

abbrev pub slots_done_in : Option CycleView → ℕ → ℕ
slots_done_in None base = 0
slots_done_in (Some cycle) base = slots_done_of cycle.partly_scanned base

-- A part has at most 64 slots, from the first that isn't done on.
abbrev pub view_part_slots : View → Based ObjectView → List ℕ
view_part_slots view o = take 64 (drop (slots_done_in view.cycle o.base) (scanned_words_of o.value))

-- where an object is partly scanned, no other one is scanned
abbrev pub may_go_on : Option PartlyScannedView → ℕ → Bool
may_go_on None base = true
may_go_on (Some partly_scanned) base = partly_scanned.base == base

-- an object that can be scanned next lives and is gray
pub record ViewMayScan (view : View) (o : Based ObjectView) : Type 0 where
  pub begins : Begins view.objects o.base o.value
  pub gray : o.value.colour ≡ Gray
  pub turn : IfSome view.cycle (λ cycle. IsTrue (may_go_on cycle.partly_scanned o.base))

abbrev pub with_partly : Option PartlyScannedView → CycleView → CycleView
with_partly partly_scanned cycle = record cycle { partly_scanned = partly_scanned }

-- The part that reaches the last scanned slot makes the object black. Another one leaves it partly scanned.
abbrev pub view_advanced : Based ObjectView → ℕ → View → View
view_advanced o slots_done view =
    if slots_done == length (scanned_words_of o.value)
    then record view {
      objects = with_entry o.base (Some (record o.value { colour = Black })) view.objects;
      cycle = option_map (with_partly None) view.cycle;
    }
    else record view {
      cycle = option_map (with_partly (Some (record { base = o.base; slots_done = slots_done }))) view.cycle;
    }

-- the view after a part of the object
abbrev pub view_part_done : View → Based ObjectView → View
view_part_done view o =
    let slots = view_part_slots view o in
    view_advanced o (slots_done_in view.cycle o.base + length slots)
    (record view { objects = with_grayed_objects slots view.objects })

-- The objects whose parts are scanned, each when its turn may come, with a line for each part.
abbrev pub ViewScansAll : View → List (Based ObjectView) → List Line → View → Type 0
ViewScansAll view [] log left = (log ≡ []) × (left ≡ view)
ViewScansAll view (o ∷ os) log left =
    (rest : List Line) × ViewMayScan view o ×
    (log ≡ lines.Scan o.base (length (view_part_slots view o)) ∷ rest) ×
    ViewScansAll (view_part_done view o) os rest left

abbrev pub NoGray : View → Type 0
NoGray view = (base : ℕ) (object : ObjectView) → Begins view.objects base object → object.colour ≡ Gray → ⊥

-- `step k` scans until the costs together are at least k, or until nothing is gray. `step 0` scans nothing.
pub data ViewIsEnough (k : ℕ) (log : List Line) (left : View) : Type 0 where
  Nothing_asked : k ≡ 0 → log ≡ [] → ViewIsEnough k log left
  Cost_reached : k ≤ sum (costs log) → sum (take (length log - 1) (costs log)) < k → ViewIsEnough k log left
  Nothing_left : sum (costs log) < k → NoGray left → ViewIsEnough k log left

pub record ViewScans (view : View) (k : ℕ) (log : List Line) (left : View) : Type 0 where
  pub objects : List (Based ObjectView)
  pub scanned : ViewScansAll view objects log left
  pub enough : ViewIsEnough k log left

-- one phase, which frees the objects at these bases
pub record ViewReapsOnce (view : View) (log : List Line) (left : View) : Type 0 where
  pub dead : List ℕ
  pub reapable : ViewReaps view dead
  pub log_is : log ≡ view_phase_lines Reap view dead
  pub left_is : left ≡ view_reaped dead view

pub record ViewCollectsOnce (view : View) (log : List Line) (left : View) : Type 0 where
  pub lost : List ℕ
  pub unreached : ViewCollects view lost
  pub log_is : log ≡ view_phase_lines Collect view lost
  pub left_is : left ≡ view_collected lost view

pub record ViewFinishesOnce (view : View) (log : List Line) (left : View) : Type 0 where
  pub lost : List ℕ
  pub unmarked : ViewFinishes view lost
  pub log_is : log ≡ view_phase_lines Collect view lost
  pub left_is : left ≡ view_collected lost view

-- the row of each command that isn't refused, apart from `full`
abbrev pub ViewCarries : View → Command → List Line → ViewEffect → Type 0
ViewCarries view (commands.New shape) log effect =
    ViewMakes view Objects (object_bytes shape.slots) (λ left found. view_new_effect left shape found) log effect
ViewCarries view (commands.Weak i) log effect = ViewMakesWeakOf view i log effect
ViewCarries view (commands.Root counted cells) log effect =
    ViewMakes view Areas (area_bytes cells) (λ left found. view_area_effect left true counted cells found) log effect
ViewCarries view (commands.Fixed cells) log effect =
    ViewMakes view Areas (area_bytes cells) (λ left found. view_area_effect left false 0 cells found) log effect
ViewCarries view commands.Reap log effect = ViewReapsOnce view log effect.view × (effect.reply ≡ replies.Done)
ViewCarries view commands.Collect log effect = ViewCollectsOnce view log effect.view × (effect.reply ≡ replies.Done)
ViewCarries view (commands.Step k) log effect = ViewScans view k log effect.view × (effect.reply ≡ replies.Done)
ViewCarries view commands.Finish log effect = ViewFinishesOnce view log effect.view × (effect.reply ≡ replies.Done)
ViewCarries view (commands.Push word) log effect = ViewIsPlain log effect (view_plain_effect view (commands.Push word))
ViewCarries view (commands.Dup i) log effect = ViewIsPlain log effect (view_plain_effect view (commands.Dup i))
ViewCarries view (commands.Pop k) log effect = ViewIsPlain log effect (view_plain_effect view (commands.Pop k))
ViewCarries view (commands.Inner i bytes) log effect =
    ViewIsPlain log effect (view_plain_effect view (commands.Inner i bytes))
ViewCarries view (commands.Get i s) log effect = ViewIsPlain log effect (view_plain_effect view (commands.Get i s))
ViewCarries view (commands.Put i s j) log effect =
    ViewIsPlain log effect (view_plain_effect view (commands.Put i s j))
ViewCarries view (commands.Look i) log effect = ViewIsPlain log effect (view_plain_effect view (commands.Look i))
ViewCarries view (commands.DropArea number) log effect =
    ViewIsPlain log effect (view_plain_effect view (commands.DropArea number))
ViewCarries view (commands.AreaGet number s) log effect =
    ViewIsPlain log effect (view_plain_effect view (commands.AreaGet number s))
ViewCarries view (commands.AreaPut number s j) log effect =
    ViewIsPlain log effect (view_plain_effect view (commands.AreaPut number s j))
ViewCarries view commands.Begin log effect = ViewIsPlain log effect (view_plain_effect view commands.Begin)
ViewCarries view (commands.Map i) log effect = ViewIsPlain log effect (view_plain_effect view (commands.Map i))
ViewCarries view commands.Stat log effect = ViewIsPlain log effect (view_plain_effect view commands.Stat)

-- The end of a command that wasn't refused: a reap where there are as many zero-count objects as the threshold says.
pub data ViewEnds (view : View) (full : Bool) (log : List Line) (left : View) : Type 0 where
  Refused_as_full : full ≡ true → log ≡ [] → left ≡ view → ViewEnds view full log left
  Below_threshold : full ≡ false → view_zero_count view < view.threshold → log ≡ [] → left ≡ view
      → ViewEnds view full log left
  At_threshold : full ≡ false → view.threshold ≤ view_zero_count view → ViewReapsOnce view log left
      → ViewEnds view full log left

-- What a command does and answers, with the lines before its reply: its row without the reap at its end. It isn't
-- counted.
abbrev pub ViewRowUnless : Option Refusal → View → Command → List Line → ViewEffect → Type 0
ViewRowUnless (Some because) view command log effect =
    ViewIsPlain log effect (record { view = view; reply = replies.Refused because })
ViewRowUnless None view command log effect = ViewCarries view command log effect

abbrev pub IsViewRow : View → Command → List Line → ViewEffect → Type 0
IsViewRow view command log effect = ViewRowUnless (view_refusal view command) view command log effect

abbrev pub one_more_counted : View → View
one_more_counted view = record view { totals = record view.totals { commands = view.totals.commands + 1 } }

-- a command that isn't refused before anything is tried
pub record ViewIsCarriedOut (view : View) (command : Command) (group : List Line) (left : View) : Type 0 where
  pub log : List Line
  pub effect : ViewEffect
  pub carries : ViewCarries view command log effect
  pub end_log : List Line
  pub end : View
  pub ends : ViewEnds effect.view (is_full effect.reply) end_log end
  pub group_is : group ≡ log ++ end_log ++ lines.Reply effect.reply ∷ []
  pub left_is : left ≡ one_more_counted end

pub record ViewIsRefused (view : View) (because : Refusal) (group : List Line) (left : View) : Type 0 where
  pub group_is : group ≡ lines.Reply (replies.Refused because) ∷ []
  pub left_is : left ≡ one_more_counted view

abbrev pub IsViewStepUnless : Option Refusal → View → Command → List Line → View → Type 0
IsViewStepUnless (Some because) view command group left = ViewIsRefused view because group left
IsViewStepUnless None view command group left = ViewIsCarriedOut view command group left

-- The command takes the first view to the second with this group of lines.
abbrev pub IsViewStep : View → Command → List Line → View → Type 0
IsViewStep view command group left = IsViewStepUnless (view_refusal view command) view command group left
