-- Traces that are carried out, with or without the commands that are added to them.
use Rattle.std.proofs.Common.{◌≡◌, ℕ, ◌-◌, ◌*◌, ◌^◌, ◌<◌, ◌≤◌, List, [], ◌∷◌, ◌++◌, length, Option, Some, None, refl}
use Rattle.std.proofs.Common.{sym, append-nil}
use Rattle.std.proofs.Common.{ap, ◌∙◌, subst, arith}
use Rattle.std.proofs.lemmas.List.{length_push, map-append}
use Rattle.std.proofs.lemmas.List.Concat.{flat_map-append}
use Rattle.std.specs.Prelude.{is_some, IfSome}
use Rattle.mm_model.specs.declared.command.Command.{Command}
use Rattle.mm_model.specs.declared.line.Line.{Line}
use Rattle.mm_model.specs.declared.line.Totals.{Totals}
use Rattle.mm_model.specs.declared.settings.Settings.{Settings}
use Rattle.mm_model.specs.State.{State, empty_state}
use Rattle.mm_model.specs.Step.{IsStep}
use Rattle.mm_model.specs.Logs.Log.{IsLegal}
use Rattle.mm_model.specs.Logs.Spelling.{spelling_of}
use Rattle.mm_model.specs.Logs.Turns.{Turn, AreTurns, births_of}
use Rattle.mm_model.proofs.Good.Starting.{empty_is_good}
use Rattle.mm_gc.specs.Gc.{Gc, view_of_gc}
use Rattle.mmgc.specs.Writing.{Kept}
use Rattle.mm_pace.specs.declared.pace.Pace.{Pace}
use Rattle.mm_pace.specs.Rules.{rules_at}
use Rattle.mm_pace.specs.Paced.{AreAdded, AreCommandsOf, AreOwn, IsPaced, IsPacedList, commands_in}
use Rattle.mm_sites.specs.Births.{birth_sites}
use Rattle.mm_sites.specs.Following.{sites_with}
use Rattle.mmgc.specs.declared.extras.Extras.{Extras}
use Rattle.mmgc.specs.declared.site_book.SiteBook.{SiteBook}
use Rattle.mmgc.specs.Booking.{AreBooked, IsInUse, MayBookOn}
use Rattle.mmgc.specs.Carrying.{CarriedOut, CarriesOut, Grew, group_of}
use Rattle.mmgc.specs.Counting.{Counts}
use Rattle.mmgc.specs.Pacing.{Advances, AreListed, CanDrive, Carried, Driver, IsDriven, IsFresh, IsPacing}
use Rattle.mmgc.specs.Pacing.{IsReady, Left, Paces, SitedTrace, Team, groups_of, with_command}
use Rattle.mmgc.specs.Replaying.{IsNewDriver}
use Rattle.mmgc.proofs.Booking.{booked-none, in_use, NothingIsEntered}
use Rattle.mmgc.proofs.Pacing.Driven.{IsTaken, booked-next, next_turn, taken-more}

-- the commands that were carried out, and the turns of the trace's own ones
pub record HasCommands (rate : Option ℕ) (settings : Settings) (trace : List Command) (log : List Line)
    (turns own : List Turn) : Type 0 where
  pub are : AreCommandsOf rate settings trace log (commands_in turns)
  pub own_are : AreOwn rate settings trace log (commands_in turns) are own

turns-same : {settings : Settings} {turns : List Turn} {log : List Line}
    → AreTurns settings (commands_in turns) (groups_of turns) turns → groups_of turns ≡ log
    → AreTurns settings (commands_in turns) log turns
turns-same are is =
    record { each_command = are.each_command; cut = is; groups = are.groups; joined = are.joined }

pub listed_commands : (rate : Option ℕ) (settings : Settings) (trace : List Command) (log : List Line)
    (turns own : List Turn) → AreListed rate trace turns own
    → AreTurns settings (commands_in turns) (groups_of turns) turns → groups_of turns ≡ log
    → HasCommands rate settings trace log turns own
listed_commands None settings trace log turns own listed are is =
    record {
      are = listed.1;
      own_are = subst (AreTurns settings (commands_in turns) log) (sym listed.0) (turns-same are is);
    }
listed_commands (Some rate) settings trace log turns own listed are is =
    record { are = record { turns = turns; own = own; are = turns-same are is; paced = listed }; own_are = refl }

abbrev pub has_commands : {extras : Extras} {settings : Settings} {trace : SitedTrace} {log : List Line} {driver : Driver}
    (c : Carried extras settings trace log driver)
    → HasCommands extras.rate settings trace.commands log c.turns c.own
has_commands {extras} {settings} {trace} {log} c =
    listed_commands extras.rate settings trace.commands log c.turns c.own c.listed c.are c.log_is

abbrev pub has_log : {extras : Extras} {settings : Settings} {trace : SitedTrace} {log : List Line} {driver : Driver}
    (c : Carried extras settings trace log driver) → CarriedOut settings (commands_in c.turns) log driver.heap
has_log {settings = settings} {log = log} {driver = driver} c =
    record {
      state = c.carried.state;
      legal = subst (λ (l : List Line). IsLegal IsStep settings (commands_in c.turns) l c.carried.state) c.log_is
          c.carried.legal;
      good = c.carried.good;
      shows = c.carried.shows;
      settings_stay = c.carried.settings_stay;
      counted = c.carried.counted;
      births = c.carried.births;
    }

-- how long a paced list is
abbrev pub AreQuadrupled : Type 0
AreQuadrupled = (rate : ℕ) (settings : Settings) (trace : List Command) (log : List Line) (commands : List Command)
    → IsPacedList rate settings trace log commands → length commands ≤ 4 * length trace

-- a heap counted at most four commands for each of the trace
pub few_commands : AreQuadrupled → {extras : Extras} {settings : Settings} {trace : SitedTrace} {log : List Line}
    {driver : Driver} → Carried extras settings trace log driver
    → (view_of_gc driver.heap).totals.commands ≤ 4 * length trace.commands
few_commands most {extras} {settings} {trace} {log} {driver} c =
    let counted = c.carried.counted in
    let commands = ap (λ (t : Totals). t.commands) c.carried.shows.totals in
    let few = by_rate extras.rate (has_commands c).are in
    omega arith
  where
    by_rate : (rate : Option ℕ) → AreCommandsOf rate settings trace.commands log (commands_in c.turns)
        → length (commands_in c.turns) ≤ 4 * length trace.commands
    by_rate None are = let same = ap length are in omega arith
    by_rate (Some rate) list = most rate settings trace.commands log (commands_in c.turns) list

-- how a paced list goes on
abbrev pub GoesOnPaced : Type 0
GoesOnPaced = (rate : ℕ) (trace : List Command) (turns own : List Turn) (turn : Turn) (added : List Turn)
    → IsPaced rate trace turns own → AreAdded (rules_at rate) (turns ++ turn ∷ []) added
    → IsPaced rate (trace ++ turn.command ∷ []) (turns ++ turn ∷ added) (own ++ turn ∷ [])

-- how the sites of births go on
abbrev pub BirthsGoOn : Type 0
BirthsGoOn = (turns : List Turn) (turn : Turn) (sites : List ℕ) (site : ℕ) → length sites ≡ length turns
    → birth_sites (turns ++ turn ∷ []) (sites ++ site ∷ []) ≡ sites_with site (birth_sites turns sites) (births_of turn)

-- one more command has its site
each-push : (own : List Turn) (sites : List ℕ) (turn : Turn) (site : ℕ) → length sites ≡ length own
    → length (sites ++ site ∷ []) ≡ length (own ++ turn ∷ [])
each-push own sites turn site each =
    let more = length_push sites site in
    let longer = length_push own turn in
    omega (arith, more, longer, each)

abbrev pub driver_of_team : Team → Driver
driver_of_team team = record { heap = team.heap; pace = Some team.pace; book = team.book }

-- What one more command of a paced trace came to.
record GoesOnAt (rate : Option ℕ) (settings : Settings) (trace : List Command) (turns own : List Turn)
    (command : Command) (left : Left) : Type 0 where
  turn : Turn
  rules : List Turn
  taken : IsTaken settings (turns ++ turn ∷ rules) left.team.heap
  listed : AreListed rate (trace ++ command ∷ []) (turns ++ turn ∷ rules) (own ++ turn ∷ [])
  pacing : IsPacing rate (turns ++ turn ∷ rules) taken.carried.state (Some left.team.pace)
  books : (sites : List ℕ) (site : ℕ) → AreBooked settings turns sites site left.book
      → AreBooked settings (turns ++ turn ∷ rules) (sites_with site sites (births_of turn)) site left.team.book
  written : Grew left.before left.after (spelling_of (groups_of (turn ∷ rules)))

same_inside : {x y : Pace} → ◌≡◌ {A = Option Pace} (Some x) (Some y) → x ≡ y
same_inside e = cc

goes_on : GoesOnPaced → (old : Team) (left : Left) (command : Command) → left.team.pace.rate ≡ old.pace.rate
    → ((settings : Settings) (turns : List Turn) → IsDriven settings turns 0 old.pace old.heap
    → Paces old.pace.rate settings turns command left)
    → (rate : Option ℕ) {settings : Settings} {trace : List Command} {turns own : List Turn}
    (t : IsTaken settings turns old.heap) → AreListed rate trace turns own
    → IsPacing rate turns t.carried.state (Some old.pace)
    → GoesOnAt rate settings trace turns own command left
goes_on more old left command same paces None t listed none = cc
goes_on more old left command same paces (Some rate) {settings} {trace} {turns} {own} t listed pacing =
    let is : old.pace ≡ pacing.0 = same_inside pacing.1 in
    let counts = subst (Counts turns t.carried.state 0) (sym is) pacing.3 in
    let rate_is : old.pace.rate ≡ rate = ap (λ (p : Pace). p.rate) is ∙ pacing.2 in
    let one = paces settings turns
    (record { carried = t.carried; steps = t.steps; are = t.are; counts = counts }) in
    let list = more rate trace turns own one.turn one.rules listed
    (subst (λ r. AreAdded (rules_at r) (turns ++ one.turn ∷ []) one.rules) rate_is one.are) in
    record {
      turn = one.turn;
      rules = one.rules;
      taken = record { carried = one.driven.carried; steps = one.driven.steps; are = one.driven.are };
      listed = subst
          (λ (c : Command). IsPaced rate (trace ++ c ∷ []) (turns ++ one.turn ∷ one.rules) (own ++ one.turn ∷ []))
          one.command_is list;
      pacing = (left.team.pace, refl, same ∙ rate_is, one.driven.counts);
      books = one.books;
      written = one.written;
    }

-- one more command, with what is added after it
pub advances-paced : GoesOnPaced → BirthsGoOn → (old : Team) (left : Left) (command : Command)
    → left.book ≡ old.book → left.team.pace.rate ≡ old.pace.rate → is_some left.team.book ≡ is_some old.book
    → ((settings : Settings) (turns : List Turn) → IsDriven settings turns 0 old.pace old.heap
    → Paces old.pace.rate settings turns command left)
    → Advances (driver_of_team old) (driver_of_team left.team) command left.before left.after
advances-paced more grow old left command here same asked paces extras settings trace log c =
    let next = goes_on more old left command same paces extras.rate
    (record { carried = c.carried; steps = c.steps; are = c.are }) c.listed c.pacing in
    let all : List Turn = next.turn ∷ next.rules in (
      groups_of all,
      record {
        turns = c.turns ++ all;
        own = c.own ++ next.turn ∷ [];
        listed = next.listed;
        carried = next.taken.carried;
        steps = next.taken.steps;
        are = next.taken.are;
        log_is = flat_map-append (λ (t : Turn). t.group) c.turns all
            ∙ ap (λ (ls : List Line). ls ++ groups_of all) c.log_is;
        pacing = next.pacing;
        each_command = each-push c.own trace.sites next.turn trace.site c.each_command;
        asked = asked ∙ c.asked;
        booked = subst (λ (s : List ℕ). AreBooked settings (c.turns ++ all) s trace.site left.team.book)
            (sym (grow c.own next.turn trace.sites trace.site c.each_command))
            (next.books (birth_sites c.own trace.sites) trace.site
            (subst (AreBooked settings c.turns (birth_sites c.own trace.sites) trace.site) (sym here) c.booked));
      },
      next.written,
    )

abbrev pub driver_alone : Gc → Option SiteBook → Driver
driver_alone heap book = record { heap = heap; pace = None; book = book }

-- the turns of commands alone go on with one
listed-alone : (rate : Option ℕ) (trace : List Command) (turns own : List Turn) (turn : Turn) (a b : State)
    → AreListed rate trace turns own → IsPacing rate turns a None
    → AreListed rate (trace ++ turn.command ∷ []) (turns ++ turn ∷ []) (own ++ turn ∷ [])
    × IsPacing rate (turns ++ turn ∷ []) b None
listed-alone None trace turns own turn a b listed pacing = (
  (
    ap (λ (ts : List Turn). ts ++ turn ∷ []) listed.0,
    map-append (λ (t : Turn). t.command) turns (turn ∷ [])
        ∙ ap (λ (cs : List Command). cs ++ turn.command ∷ []) listed.1,
  ),
  refl,
)
listed-alone (Some rate) trace turns own turn a b listed pacing = let some = pacing.1 in cc

-- one more command where cycles aren't paced
pub advances-alone : BirthsGoOn → (old new : Gc) (book next : Option SiteBook) (command : Command)
    (before after : Kept) (done : CarriesOut old new command before after) → is_some next ≡ is_some book
    → MayBookOn old command (group_of done) book next
    → Advances (driver_alone old book) (driver_alone new next) command before after
advances-alone grow old new book next command before after done asked on extras settings trace log c =
    let t : IsTaken settings c.turns old = record { carried = c.carried; steps = c.steps; are = c.are } in
    let turn = next_turn t done in
    let more = taken-more t done in
    let list = listed-alone extras.rate trace.commands c.turns c.own turn c.carried.state more.carried.state c.listed
    c.pacing in (
      turn.group,
      record {
        turns = c.turns ++ turn ∷ [];
        own = c.own ++ turn ∷ [];
        listed = list.0;
        carried = more.carried;
        steps = more.steps;
        are = more.are;
        log_is = flat_map-append (λ (t : Turn). t.group) c.turns (turn ∷ [])
            ∙ ap (λ (ls : List Line). ls ++ groups_of (turn ∷ [])) c.log_is
            ∙ ap (λ (ls : List Line). log ++ ls) (append-nil turn.group);
        pacing = list.1;
        each_command = each-push c.own trace.sites turn trace.site c.each_command;
        asked = asked ∙ c.asked;
        booked = subst (λ (s : List ℕ). AreBooked settings (c.turns ++ turn ∷ []) s trace.site next)
            (sym (grow c.own turn trace.sites trace.site c.each_command))
            (booked-next t done book next on (birth_sites c.own trace.sites) trace.site c.booked);
      },
      done.written,
    )

-- before the first command
pub carried-none : (extras : Extras) (settings : Settings) (driver : Driver)
    → IsNewDriver extras.rate settings driver → is_some driver.book ≡ extras.sites
    → NothingIsEntered settings → Carried extras settings (record { commands = []; sites = []; site = 0 }) [] driver
carried-none extras settings driver new asked nothing =
    record {
      turns = [];
      own = [];
      listed = listed extras.rate;
      carried = record {
        state = empty_state settings;
        legal = (refl, refl);
        good = empty_is_good settings new.heap.limits.growing;
        shows = new.heap.shows;
        settings_stay = refl;
        counted = refl;
        births = omega arith;
      };
      steps = refl;
      are = record { each_command = refl; cut = refl; groups = tt; joined = tt };
      log_is = refl;
      pacing = pacing extras.rate new.pace;
      each_command = refl;
      asked = asked;
      booked = booked-none settings driver.book new.book nothing;
    }
  where
    listed : (rate : Option ℕ) → AreListed rate [] [] []
    listed None = (refl, refl)
    listed (Some rate) =
        record { stretches = []; each_command = refl; own_are = refl; turns_are = refl; ruled = tt }

    pacing : (rate : Option ℕ) → IsFresh rate driver.pace → IsPacing rate [] (empty_state settings) driver.pace
    pacing None fresh = fresh
    pacing (Some rate) fresh = (
      fresh.0,
      fresh.1,
      fresh.2,
      record {
        since = fresh.3;
        work = λ runs. cc;
        last = λ runs. cc;
        few = let none = fresh.3 in omega arith;
      },
    )

-- what is ready has room for one more command
pub record HasRoom (driver : Driver) : Type 0 where
  pub commands : (view_of_gc driver.heap).totals.commands < 2 ^ 64 - 1
  pub births : (view_of_gc driver.heap).totals.born < 2 ^ 64 - 1
  pub in_use : IfSome driver.book (IsInUse driver.heap)

pub is_ready : {driver : Driver} → IsReady driver → HasRoom driver
is_ready {driver} r =
    let c = r.carried.carried in
    let commands = ap (λ (t : Totals). t.commands) c.shows.totals in
    let born = ap (λ (t : Totals). t.born) c.shows.totals in
    let counted = c.counted in
    let births = c.births in
    let room = r.room in
    record {
      commands = omega arith;
      births = omega arith;
      in_use = in_use c r.carried.turns r.carried.steps (birth_sites r.carried.own r.trace.sites) r.trace.site driver.book
          r.carried.booked;
    }

-- the pacer of what is ready can go on
pub record IsReadyTeam (team : Team) : Type 0 where
  pub ready : CanDrive 4 team
  pub paid : (settings : Settings) × (turns : List Turn) × (sites : List ℕ) × (site : ℕ)
      × IsDriven settings turns 0 team.pace team.heap × AreBooked settings turns sites site team.book

pub ready-team : {team : Team} → IsReady (driver_of_team team) → IsReadyTeam team
ready-team {team} r =
    let c = r.carried in
    let counts = counted r.extras.rate c.pacing in
    let driven : IsDriven r.settings c.turns 0 team.pace team.heap =
    record { carried = c.carried; steps = c.steps; are = c.are; counts = counts } in
    record {
      ready = record {
        settings = r.settings;
        turns = c.turns;
        unpaid = 0;
        driven = driven;
        room = r.room;
        sites = birth_sites c.own r.trace.sites;
        site = r.trace.site;
        booked = c.booked;
      };
      paid = (r.settings, c.turns, birth_sites c.own r.trace.sites, r.trace.site, driven, c.booked);
    }
  where
    counted : (rate : Option ℕ) → IsPacing rate r.carried.turns r.carried.carried.state (Some team.pace)
        → Counts r.carried.turns r.carried.carried.state 0 team.pace
    counted None none = cc
    counted (Some rate) pacing =
        subst (Counts r.carried.turns r.carried.carried.state 0) (sym (same_inside pacing.1)) pacing.3
