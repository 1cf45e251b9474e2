-- Turns that a pacer drives, one after another.
use Rattle.std.proofs.Common.{◌≡◌, ℕ, ◌+◌, ◌-◌, ◌*◌, ◌/◌, ◌^◌, ◌<◌, ◌≤◌, Bool, true, false, cond, List, [], ◌∷◌, ◌++◌}
use Rattle.std.proofs.Common.{length}
use Rattle.std.proofs.Common.{Option, Some, None, IsTrue, refl, sym, ap, ◌∙◌, subst, arith, append-nil, append_assoc}
use Rattle.std.proofs.Common.{length-append}
use Rattle.std.proofs.lemmas.List.{length_push, length-map}
use Rattle.std.proofs.lemmas.List.Concat.{flat_map-append}
use Rattle.std.specs.Prelude.{is_some, ◌&&◌, ◌↔◌, IsNone, IfSome, nat_le, nat_lt, not}
use Rattle.std.specs.List.{AllByRecursion, sum_by}
use Rattle.std.specs.Option.{option_map}
use Rattle.mm_model.specs.declared.command.Command.{Command}
use Rattle.mm_model.specs.declared.command.Command.TheVariants as commands
use Rattle.mm_model.specs.declared.line.Line.{Line}
use Rattle.mm_model.specs.declared.line.Line.TheVariants as lines
use Rattle.mm_model.specs.declared.line.Totals.{Totals}
use Rattle.mm_model.specs.declared.reply.Reply.{Reply}
use Rattle.mm_model.specs.declared.settings.Settings.{Settings}
use Rattle.mm_model.specs.State.{State, empty_state}
use Rattle.mm_model.specs.Step.{IsStep}
use Rattle.mm_model.specs.After.{after}
use Rattle.mm_model.specs.Logs.Log.{IsRun}
use Rattle.mm_model.specs.Logs.Spelling.{spelling, spelling_of}
use Rattle.mm_model.specs.Logs.Turns.{Turn, AreJoined, AreSteps, AreTurns, births_of, born_at, is_group, reply_in, reply_of}
use Rattle.mm_model.specs.Views.View.{Shows}
use Rattle.mm_model.proofs.Text.Journals.{writes-none, writes-append}
use Rattle.mm_laws.proofs.Turning.Faithful.{steps-more}
use Rattle.mm_laws.proofs.Turning.Knowing.{turn_of}
use Rattle.mm_laws.proofs.Turning.Replies.{group-step, reply-last}
use Rattle.mm_gc.specs.Gc.{Gc, totals_in, view_of_gc}
use Rattle.mm_gc.specs.Rows.{IsStepOf}
use Rattle.mmgc.specs.Writing.{Kept}
use Rattle.mm_pace.specs.declared.pace.Pace.{Pace}
use Rattle.mm_pace.specs.Recent.{extent_born, since, work_begun}
use Rattle.mm_pace.specs.Rules.{Rule, command_if, due_begin, due_finish, due_step, rules_at, runs_after, step_for}
use Rattle.mm_pace.specs.Rules.{work_after}
use Rattle.mm_pace.specs.Work.{is_running, work_of}
use Rattle.mm_pace.specs.Paced.{commands_in, list_of}
use Rattle.mm_sites.specs.Following.{sites_with}
use Rattle.mmgc.specs.declared.site_book.SiteBook.{SiteBook}
use Rattle.mmgc.specs.Carrying.{CarriedOut, CarriesOut, Grew}
use Rattle.mmgc.specs.Counting.{Counts, bytes_of}
use Rattle.mmgc.specs.Booking.{AreBooked, IsInUse, MayBookOn}
use Rattle.mmgc.specs.Pacing.{Applies, AppliesAll, CanDrive, Drives, HasRoomFor, IsDriven, Left, Paces, Team}
use Rattle.mmgc.specs.Pacing.{groups_of, with_turn}
use Rattle.mmgc.proofs.Booking.{booked-push, in_use, state_after-steps}
use Rattle.mmgc.proofs.StepNumbers.{CountsOne, step_counts_one}
use Rattle.mmgc.proofs.Pacing.Extents.{extent-least}
use Rattle.mmgc.proofs.Pacing.Noted.{births-none}
use Rattle.mmgc.proofs.Pacing.Ruled.{births-few, due_step-push, step-is, works-count}

-- turns that are steps are a run
pub legal-steps : (a : State) (turns : List Turn) (b : State) → AreSteps a turns b
    → IsRun IsStep a (commands_in turns) (groups_of turns) b
legal-steps a [] b steps = (refl, steps)
legal-steps a (turn ∷ turns) b steps = (
  turn.group,
  groups_of turns,
  turn.after,
  refl,
  subst (λ (s : State). IsStep s turn.command turn.group turn.after) steps.0 steps.1,
  legal-steps turn.after turns b steps.2,
)

pub joined-push : (a : State) (turns : List Turn) (b : State) (turn : Turn) → AreJoined a turns → AreSteps a turns b
    → turn.before ≡ b → turn.after ≡ after turn.before turn.command turn.group → AreJoined a (turns ++ turn ∷ [])
joined-push a [] b turn joined steps before is = (before ∙ steps, is, tt)
joined-push a (x ∷ turns) b turn joined steps before is =
    (joined.0, joined.1, joined-push x.after turns b turn joined.2 steps.2 before is)

pub groups-push : (turns : List Turn) (turn : Turn) → AllByRecursion (λ (t : Turn). IsTrue (is_group t.group)) turns
    → IsTrue (is_group turn.group) → AllByRecursion (λ (t : Turn). IsTrue (is_group t.group)) (turns ++ turn ∷ [])
groups-push [] turn all own = (own, tt)
groups-push (x ∷ turns) turn all own = (all.0, groups-push turns turn all.1 own)

is_some-map : {X Y : Type 0} (f : X → Y) (found : Option X) → is_some (option_map f found) ≡ is_some found
is_some-map f None = refl
is_some-map f (Some x) = refl

-- the heap says whether a cycle runs
pub running-shown : (gc : Gc) (a : State) → Shows (view_of_gc gc) a → gc.marker.running ≡ is_running a
running-shown gc a shows = sym (split _ gc.marker.running) ∙ ap is_some shows.cycle ∙ is_some-map _ a.cycle
  where
    split : {X : Type 0} (x : X) (runs : Bool) → is_some (cond runs (Some x) None) ≡ runs
    split x true = refl
    split x false = refl

-- how the numbers of a heap stand to the turns
record HasNumbers (turns : List Turn) (pace : Pace) (heap : Gc) : Type 0 where
  commands : (view_of_gc heap).totals.commands ≡ length turns
  births : (view_of_gc heap).totals.born ≤ length turns
  since : pace.since ≤ 4198400 * length turns

has_numbers : {settings : Settings} {turns : List Turn} {unpaid : ℕ} {pace : Pace} {heap : Gc}
    → IsDriven settings turns unpaid pace heap → HasNumbers turns pace heap
has_numbers {turns = turns} {pace = pace} d =
    let c = d.carried in
    let all = length-map turns (λ (t : Turn). t.command) in
    let commands = ap (λ (t : Totals). t.commands) c.shows.totals in
    let born = ap (λ (t : Totals). t.born) c.shows.totals in
    let counted = c.counted in
    let births = c.births in
    record {
      commands = omega arith;
      births = omega arith;
      since = subst (λ n. pace.since ≤ 4198400 * n) (counted ∙ all) d.counts.few;
    }

-- what can still be counted
pub record HasRoomToCount (pace : Pace) (heap : Gc) : Type 0 where
  pub commands : (view_of_gc heap).totals.commands < 2 ^ 64 - 1
  pub births : (view_of_gc heap).totals.born < 2 ^ 64 - 1
  pub since : pace.since ≤ 9223372036854775807

pub room_to_count : {more : ℕ} {team : Team} → CanDrive more team → HasRoomToCount team.pace team.heap
room_to_count c =
    let n = has_numbers c.driven in
    let room = c.room in
    let commands = n.commands in
    let births = n.births in
    let since = n.since in
    record { commands = omega arith; births = omega arith; since = omega arith }

-- fewer commands can be counted after some were
pub can_drive-after : {settings : Settings} {turns : List Turn} {unpaid : ℕ} {pace : Pace} {heap : Gc}
    {owed : ℕ} {next : Team} (added : List Turn) (more : ℕ)
    → IsDriven settings turns unpaid pace heap
    → HasRoomFor (length added + more) heap → IsDriven settings (turns ++ added) owed next.pace next.heap
    → (sites : List ℕ) (site : ℕ) → AreBooked settings (turns ++ added) sites site next.book
    → CanDrive more next
can_drive-after {settings} {turns} {owed = owed} added more before room then sites site booked =
    let b = (has_numbers before).commands in
    let a = (has_numbers then).commands in
    let all = length-append turns added in
    record {
      settings = settings;
      turns = turns ++ added;
      unpaid = owed;
      driven = then;
      room = omega arith;
      sites = sites;
      site = site;
      booked = booked;
    }

-- another pacer that counts the same turns
pub driven-counted : {settings : Settings} {turns : List Turn} {unpaid owed : ℕ} {pace next : Pace} {heap : Gc}
    (d : IsDriven settings turns unpaid pace heap) → Counts turns d.carried.state owed next
    → IsDriven settings turns owed next heap
driven-counted d counts = record { carried = d.carried; steps = d.steps; are = d.are; counts = counts }

-- turns that were carried out from the empty state on
pub record IsTaken (settings : Settings) (turns : List Turn) (heap : Gc) : Type 0 where
  pub carried : CarriedOut settings (commands_in turns) (groups_of turns) heap
  pub steps : AreSteps (empty_state settings) turns carried.state
  pub are : AreTurns settings (commands_in turns) (groups_of turns) turns

abbrev pub taken : {settings : Settings} {turns : List Turn} {unpaid : ℕ} {pace : Pace} {heap : Gc}
    → IsDriven settings turns unpaid pace heap → IsTaken settings turns heap
taken d = record { carried = d.carried; steps = d.steps; are = d.are }

-- One more turn.
module _ {settings : Settings} {turns : List Turn} {old new : Gc} {command : Command}
    {before after_it : Kept} (d : IsTaken settings turns old)
    (c : CarriesOut old new command before after_it) where
  abbrev pub next_group : List Line
  next_group = c.front ++ lines.Reply c.reply ∷ []

  abbrev pub next_turn : Turn
  next_turn = turn_of d.carried.state command next_group (after d.carried.state command next_group)

  pub next_step : IsStepOf (view_of_gc new) command next_group d.carried.state
  next_step = c.step d.carried.state d.carried.good d.carried.shows

  pub next_counts : CountsOne d.carried.state next_turn.after
  next_counts = step_counts_one d.carried.state command next_group next_turn.after next_step.step

  pub next_reply : reply_of next_turn ≡ Some c.reply
  next_reply =
      reply-last c.front c.reply
      (group-step d.carried.state command next_group next_turn.after next_step.step)

  pub next_steps : AreSteps (empty_state settings) (turns ++ next_turn ∷ []) next_turn.after
  next_steps =
      steps-more (empty_state settings) turns d.carried.state command next_group next_turn.after d.steps next_step.step

  abbrev pub taken-more : IsTaken settings (turns ++ next_turn ∷ []) new
  taken-more =
      let all = length_push turns next_turn in
      let commands = length-map turns (λ (t : Turn). t.command) in
      let commands_more = length-map (turns ++ next_turn ∷ []) (λ (t : Turn). t.command) in
      let counted = d.carried.counted in
      let births = d.carried.births in
      let one = next_counts.commands in
      let one_born = next_counts.births in
      record {
        carried = record {
          state = next_turn.after;
          legal = legal-steps (empty_state settings) (turns ++ next_turn ∷ []) next_turn.after next_steps;
          good = next_step.good;
          shows = next_step.shows;
          settings_stay = next_counts.settings ∙ d.carried.settings_stay;
          counted = omega arith;
          births = omega arith;
        };
        steps = next_steps;
        are = record {
          each_command = refl;
          cut = refl;
          groups = groups-push turns next_turn d.are.groups
              (group-step d.carried.state command next_group next_turn.after next_step.step);
          joined = joined-push (empty_state settings) turns d.carried.state next_turn d.are.joined d.steps refl refl;
        };
      }

  -- where sites are kept, what is born has one
  pub booked-next : (found next : Option SiteBook) → MayBookOn old command next_group found next
      → (sites : List ℕ) (site : ℕ) → AreBooked settings turns sites site found
      → AreBooked settings (turns ++ next_turn ∷ []) (with_turn next_turn sites site) site next
  booked-next found next on =
      booked-push settings turns next_turn old found next
      (state_after-steps settings turns d.carried.state d.steps) d.carried.good d.carried.shows refl on

pub driven-more : {settings : Settings} {turns : List Turn} {unpaid owed : ℕ} {pace next : Pace} {old new : Gc}
    {command : Command} {before after_it : Kept} (d : IsDriven settings turns unpaid pace old)
    (c : CarriesOut old new command before after_it)
    → Counts (turns ++ next_turn (taken d) c ∷ []) (next_turn (taken d) c).after owed next
    → IsDriven settings (turns ++ next_turn (taken d) c ∷ []) owed next new
driven-more d c counts =
    let more = taken-more (taken d) c in
    record { carried = more.carried; steps = more.steps; are = more.are; counts = counts }

-- what was written in turn
pub spelled-append : (xs ys : List Turn)
    → spelling_of (groups_of (xs ++ ys)) ≡ spelling_of (groups_of xs) ++ spelling_of (groups_of ys)
spelled-append xs ys =
    ap spelling_of (flat_map-append (λ (t : Turn). t.group) xs ys)
    ∙ flat_map-append spelling (groups_of xs) (groups_of ys)

pub spelled-one : (turn : Turn) → spelling_of (groups_of (turn ∷ [])) ≡ spelling_of turn.group
spelled-one turn = ap spelling_of (append-nil turn.group)

-- nothing more was carried out
books-none : (settings : Settings) (turns : List Turn) (book : Option SiteBook) (sites : List ℕ) (site : ℕ)
    → AreBooked settings turns sites site book → AreBooked settings (turns ++ []) sites site book
books-none settings turns book sites site booked =
    subst (λ (ts : List Turn). AreBooked settings ts sites site book) (sym (append-nil turns)) booked

-- a rule that adds nothing
pub applies-none : {rule : Rule} {settings : Settings} {turns : List Turn} {team : Team} {kept : Kept}
    → rule turns ≡ None → IsDriven settings turns 0 team.pace team.heap
    → Applies rule settings turns (record { team = team; book = team.book; before = kept; after = kept })
applies-none {rule} {settings} {turns} {team} {kept} none d =
    record {
      added = [];
      commands_are = ap list_of (sym none);
      driven = subst (λ (ts : List Turn). IsDriven settings ts 0 team.pace team.heap) (sym (append-nil turns)) d;
      books = books-none settings turns team.book;
      written = writes-none kept.bytes kept.broken;
    }

-- a rule that adds a command, which bears nothing
pub applies-one : {rule : Rule} {settings : Settings} {turns : List Turn} {command : Command} {left : Left}
    → rule turns ≡ Some command → ((a : State) (base : ℕ) → born_at a command base ≡ [])
    → Drives settings turns command left → Applies rule settings turns left
applies-one {rule} {settings} {turns} {command} {left} due bare drives =
    let turn = drives.turn in
    let none : births_of turn ≡ [] = births-none turn.before turn.command
    (λ base. ap (λ (c : Command). born_at turn.before c base) drives.command_is ∙ bare turn.before base)
    (reply_of turn) in
    record {
      added = turn ∷ [];
      commands_are = ap (λ (c : Command). c ∷ []) drives.command_is ∙ ap list_of (sym due);
      driven = subst (λ n. IsDriven settings (turns ++ turn ∷ []) n left.team.pace left.team.heap)
          (ap (sum_by extent_born) none) drives.driven;
      books = λ sites site booked. subst
          (λ (s : List ℕ). AreBooked settings (turns ++ turn ∷ []) s site left.team.book)
          (ap (sites_with site sites) none ∙ append-nil sites) (drives.books sites site booked);
      written = subst (Grew left.before left.after) (sym (spelled-one turn)) drives.written;
    }

-- the rules one after another
pub all-none : {settings : Settings} {turns : List Turn} {team : Team} {kept : Kept}
    → IsDriven settings turns 0 team.pace team.heap
    → AppliesAll [] settings turns (record { team = team; book = team.book; before = kept; after = kept })
all-none {settings} {turns} {team} {kept} d =
    record {
      added = [];
      are = refl;
      driven = subst (λ (ts : List Turn). IsDriven settings ts 0 team.pace team.heap) (sym (append-nil turns)) d;
      books = books-none settings turns team.book;
      written = writes-none kept.bytes kept.broken;
    }

pub all-next : {rule : Rule} {rules : List Rule} {settings : Settings} {turns : List Turn} {first left : Left}
    (one : Applies rule settings turns first) → first.after ≡ left.before → first.team.book ≡ left.book
    → AppliesAll rules settings (turns ++ one.added) left
    → AppliesAll (rule ∷ rules) settings turns
    (record { team = left.team; book = first.book; before = first.before; after = left.after })
all-next {rule} {rules} {settings} {turns} {first} {left} one here same rest =
    record {
      added = one.added ++ rest.added;
      are = (one.added, rest.added, refl, one.commands_are, rest.are);
      driven = subst (λ (ts : List Turn). IsDriven settings ts 0 left.team.pace left.team.heap)
          (append_assoc turns one.added rest.added) rest.driven;
      books = λ sites site booked. subst (λ (ts : List Turn). AreBooked settings ts sites site left.team.book)
          (append_assoc turns one.added rest.added)
          (rest.books sites site (subst (AreBooked settings (turns ++ one.added) sites site) same
          (one.books sites site booked)));
      written = subst (Grew first.before left.after) (sym (spelled-append one.added rest.added))
          (writes-append (spelling_of (groups_of one.added)) (spelling_of (groups_of rest.added)) one.written
          (subst (λ (k : Kept). Grew k left.after (spelling_of (groups_of rest.added))) (sym here) rest.written));
    }

-- at most one command is added by a rule
pub applies-few : {rule : Rule} {settings : Settings} {turns : List Turn} {left : Left}
    (one : Applies rule settings turns left) → length one.added ≤ 1
applies-few {rule} {turns = turns} one =
    let all = length-map one.added (λ (t : Turn). t.command) in
    let is = ap length one.commands_are in
    let few = at_most_one (rule turns) in
    omega arith
  where
    at_most_one : (due : Option Command) → length (list_of due) ≤ 1
    at_most_one None = omega arith
    at_most_one (Some command) = omega arith

-- a command of the trace, and the rules after it
pub paces : {rate : ℕ} {settings : Settings} {turns : List Turn} {command : Command} {first left : Left}
    (own : Drives settings turns command first) → first.after ≡ left.before → first.team.book ≡ left.book
    → AppliesAll (rules_at rate) settings (turns ++ own.turn ∷ []) left
    → Paces rate settings turns command
    (record { team = left.team; book = first.book; before = first.before; after = left.after })
paces {settings = settings} {turns = turns} {first = first} {left = left} own here same rest =
    record {
      turn = own.turn;
      command_is = own.command_is;
      rules = rest.added;
      are = rest.are;
      driven = subst (λ (ts : List Turn). IsDriven settings ts 0 left.team.pace left.team.heap)
          (append_assoc turns (own.turn ∷ []) rest.added) rest.driven;
      books = λ sites site booked.
          let born = with_turn own.turn sites site in
          subst (λ (ts : List Turn). AreBooked settings ts born site left.team.book)
          (append_assoc turns (own.turn ∷ []) rest.added)
          (rest.books born site (subst (AreBooked settings (turns ++ own.turn ∷ []) born site) same
          (own.books sites site booked)));
      written = subst (Grew first.before left.after)
          (ap (λ text. text ++ spelling_of (groups_of rest.added)) (sym (spelled-one own.turn))
          ∙ sym (spelled-append (own.turn ∷ []) rest.added))
          (writes-append (spelling_of own.turn.group) (spelling_of (groups_of rest.added)) own.written
          (subst (λ (k : Kept). Grew k left.after (spelling_of (groups_of rest.added))) (sym here) rest.written));
    }

-- the state is that which the last turn left
last-after : (a : State) (turns : List Turn) (turn : Turn) (b : State) → AreSteps a (turns ++ turn ∷ []) b
    → b ≡ turn.after
last-after a [] turn b steps = steps.2
last-after a (x ∷ turns) turn b steps = last-after x.after turns turn b steps.2

-- where no cycle runs, no step is owed
pub unpaid-idle : {settings : Settings} {turns : List Turn} {unpaid : ℕ} {pace : Pace} {heap : Gc}
    (d : IsDriven settings turns unpaid pace heap) → is_running d.carried.state ≡ false
    → IsDriven settings turns 0 pace heap
unpaid-idle d idle =
    driven-counted d (record {
      since = d.counts.since;
      work = λ runs. cc;
      last = λ runs. cc;
      few = d.counts.few;
    })

-- a step was asked for
pub driven-paid : {settings : Settings} {turns : List Turn} {unpaid : ℕ} {pace : Pace} {heap : Gc} (next : Pace)
    → IsDriven settings turns unpaid pace heap → next.since ≡ pace.since → next.work ≡ pace.work → next.last ≡ 0
    → IsDriven settings turns 0 next heap
driven-paid {pace = pace} next d since work last =
    driven-counted d (record {
      since = since ∙ d.counts.since;
      work = λ runs. work ∙ d.counts.work runs;
      last = λ runs. last;
      few = let few = d.counts.few in omega (arith, few, since);
    })

pub can_drive-paid : {more : ℕ} {team : Team} (next : Pace) → CanDrive more team
    → next.since ≡ team.pace.since → next.work ≡ team.pace.work → next.last ≡ 0
    → CanDrive more (record team { pace = next })
can_drive-paid next r since work last =
    record {
      settings = r.settings;
      turns = r.turns;
      unpaid = 0;
      driven = driven-paid next r.driven since work last;
      room = r.room;
      sites = r.sites;
      site = r.site;
      booked = r.booked;
    }

pub can_drive-fewer : {more fewer : ℕ} {team : Team} → CanDrive more team → fewer ≤ more → CanDrive fewer team
can_drive-fewer r few =
    record {
      settings = r.settings;
      turns = r.turns;
      unpaid = r.unpaid;
      driven = r.driven;
      room = let room = r.room in omega (arith, room, few);
      sites = r.sites;
      site = r.site;
      booked = r.booked;
    }

-- the sites are those of the objects
pub team_in_use : {more : ℕ} {team : Team} → CanDrive more team → IfSome team.book (IsInUse team.heap)
team_in_use {team = team} r = in_use r.driven.carried r.turns r.driven.steps r.sites r.site team.book r.booked

-- after a rule was applied
pub ready-after : {rule : Rule} {settings : Settings} {turns : List Turn} {unpaid : ℕ} {pace : Pace} {heap : Gc}
    {left : Left} (more : ℕ) → IsDriven settings turns unpaid pace heap
    → HasRoomFor (1 + more) heap → Applies rule settings turns left
    → (sites : List ℕ) (site : ℕ) → AreBooked settings turns sites site left.book → CanDrive more left.team
ready-after more d room one sites site booked =
    can_drive-after one.added more d (let few = applies-few one in omega (arith, few, room)) one.driven
    sites site (one.books sites site booked)

-- The rules, by what the pacer counts.
module _ {settings : Settings} (turns : List Turn) (turn : Turn) {pace : Pace} {heap : Gc}
    (d : IsDriven settings (turns ++ turn ∷ []) (bytes_of turn) pace heap) where
  runs-last : is_running turn.after ≡ is_running d.carried.state
  runs-last = ap is_running (sym (last-after (empty_state settings) turns turn d.carried.state d.steps))

  pub no_step-idle : (rate : ℕ) → is_running d.carried.state ≡ false → due_step rate (turns ++ turn ∷ []) ≡ None
  no_step-idle rate idle =
      due_step-push rate turns turn
      ∙ ap (λ b. cond b (step_for rate (births_of turn)) None) (runs-last ∙ idle)

  pub step-due : (size : Option ℕ) → is_running d.carried.state ≡ true → (IsNone size ↔ (pace.last ≡ 0))
      → IfSome size (λ k. k ≡ pace.rate * pace.last / 16)
      → due_step pace.rate (turns ++ turn ∷ []) ≡ option_map (λ k. commands.Step k) size
  step-due size runs none one =
      due_step-push pace.rate turns turn
      ∙ ap (λ b. cond b (step_for pace.rate (births_of turn)) None) (runs-last ∙ runs)
      ∙ sym (step-is pace.rate pace.last (births_of turn) size
      (births-few turn.before turn.command (reply_of turn)) (λ born is. extent-least born.shape.slots)
      (d.counts.last runs) none one)

module _ {settings : Settings} {turns : List Turn} {pace : Pace} {heap : Gc}
    (d : IsDriven settings turns 0 pace heap) (due : Bool) where
  pub end-due : ((settings : Settings) (turns : List Turn) (b : State) → AreSteps (empty_state settings) turns b
      → runs_after turns ≡ is_running b)
      → due ≡ (heap.marker.running && nat_le (16 * pace.work) (pace.rate * pace.since))
      → due_finish pace.rate turns ≡ command_if due commands.Finish
  end-due tells is =
      ap (λ b. command_if b commands.Finish)
      (ap (λ b. b && nat_le (16 * work_begun turns) (pace.rate * since turns))
      (tells settings turns d.carried.state d.steps ∙ sym shown)
      ∙ split heap.marker.running refl ∙ sym is)
    where
      shown : heap.marker.running ≡ is_running d.carried.state
      shown = running-shown heap d.carried.state d.carried.shows

      split : (runs : Bool) → heap.marker.running ≡ runs
          → (runs && nat_le (16 * work_begun turns) (pace.rate * since turns))
          ≡ (runs && nat_le (16 * pace.work) (pace.rate * pace.since))
      split true e =
          let work = d.counts.work (sym shown ∙ e) in
          λ i. nat_le (16 * (sym work) i) (pace.rate * (sym d.counts.since) i)
      split false e = refl

  pub begin-due : ((settings : Settings) (turns : List Turn) (b : State) → AreSteps (empty_state settings) turns b
      → runs_after turns ≡ is_running b)
      → ((settings : Settings) (turns : List Turn) (b : State) → AreSteps (empty_state settings) turns b
      → work_after turns ≡ work_of b)
      → due ≡ (not heap.marker.running && nat_le 65536 pace.since && nat_lt 0 (totals_in heap).live)
      → due_begin turns ≡ command_if due commands.Begin
  begin-due tells works is =
      let state = d.carried.state in
      let runs : runs_after turns ≡ heap.marker.running =
      tells settings turns state d.steps ∙ sym (running-shown heap state d.carried.shows) in
      let busy : nat_lt 0 (work_after turns) ≡ nat_lt 0 (totals_in heap).live =
      ap (nat_lt 0) (works settings turns state d.steps) ∙ works-count state
      ∙ ap (λ (t : Totals). nat_lt 0 t.live) (sym d.carried.shows.totals) in
      ap (λ b. command_if b commands.Begin)
      ((λ i. not (runs i) && nat_le 65536 ((sym d.counts.since) i) && busy i) ∙ sym is)
