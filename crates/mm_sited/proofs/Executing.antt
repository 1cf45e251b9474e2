-- A command that bears an object enters it where nothing is entered any more, and all sites follow.
use Rattle.std.proofs.Common.{◌≡◌, ℕ, ◌*◌, ◌≤◌, true, List, [], ◌∷◌, ◌++◌, length, Option, Some, refl, sym, ap, ◌∙◌, subst}
use Rattle.std.proofs.Common.{append-nil, arith}
use Rattle.mm_model.specs.declared.command.Command.{Command}
use Rattle.mm_model.specs.declared.line.Line.{Line}
use Rattle.mm_model.specs.declared.line.Line.TheVariants as lines
use Rattle.mm_model.specs.declared.reply.Reply.{Reply}
use Rattle.mm_model.specs.declared.settings.Settings.{Settings}
use Rattle.mm_model.specs.After.{after, freed_bases}
use Rattle.mm_model.specs.Good.{IsGood}
use Rattle.mm_model.specs.State.{State}
use Rattle.mm_model.specs.Step.{IsStep}
use Rattle.mm_model.specs.Logs.Turns.{Born, births_if, reply_in}
use Rattle.mm_model.specs.Views.View.{Shows}
use Rattle.mm_model.proofs.Steps.Groups.{freed_bases-append}
use Rattle.mm_laws.proofs.Turning.Cycles.{follows-step}
use Rattle.mm_laws.proofs.Turning.Replies.{group-step, reply-last}
use Rattle.mm_sites.specs.Entries.{EntriesByBase, HasEntry, without}
use Rattle.mm_sites.specs.Following.{IsFreeAt, sites_with, with_births}
use Rattle.mm_sites.specs.Living.{AreEntered}
use Rattle.mm_sweep.specs.Told.{Told}
use Rattle.mm_gc.specs.Gc.{Gc, view_of_gc}
use Rattle.mm_gc.specs.Rows.{Executes}
use Rattle.mm_sited.specs.Executing.{CanEnter, HasSites, HasSomeSites, ExecutesWithout, ExecutesAt}

module _ (old new : Gc) (command : Command) (reply : Reply) (heard : List Told → Type 0) (before left : EntriesByBase)
    (done : ExecutesWithout old new command reply heard before left) where
  abbrev group : List Line
  group = done.executes.before_reply ++ lines.Reply reply ∷ []

  step-of : (a : State) → IsGood a → Shows (view_of_gc old) a → IsStep a command group (after a command group)
  step-of a good shows = (done.executes.step a good shows).step

  births : (a : State) → IsGood a → Shows (view_of_gc old) a
      → births_if a command (reply_in group) ≡ births_if a command (Some reply)
  births a good shows =
      ap (births_if a command)
      (reply-last done.executes.before_reply reply
      (group-step a command group (after a command group) (step-of a good shows)))

  freed : freed_bases group ≡ freed_bases done.executes.before_reply
  freed =
      freed_bases-append done.executes.before_reply (lines.Reply reply ∷ [])
      ∙ append-nil (freed_bases done.executes.before_reply)

  left-is : left ≡ without before (freed_bases group)
  left-is = done.left ∙ ap (without before) (sym freed)

  pub can-enter : ((a : State) (command : Command) (group : List Line) (b : State) (sites : List ℕ)
      (entries : EntriesByBase) (born : Born) → IsGood a → IsStep a command group b → AreEntered a sites entries
      → births_if a command (reply_in group) ≡ born ∷ []
      → IsFreeAt (256 * a.settings.max) (without entries (freed_bases group)) born.base)
      → ((site : ℕ) (entries : EntriesByBase) (bases : List ℕ) (births : List Born)
      → length (with_births site (without entries bases) births) ≡ length entries)
      → HasSomeSites old before → CanEnter command reply left
  can-enter law rooms h =
      let many : length left ≡ length before = ap length left-is ∙ rooms 0 before (freed_bases group) [] in
      record {
        state = h.state;
        free = λ born is.
            let free = law h.state command group (after h.state command group) h.sites before born h.good
            (step-of h.state h.good h.shows) h.has.entered (births h.state h.good h.shows ∙ is) in
            let room = h.has.room in
            let inside = free.inside in
            record {
              aligned = free.aligned;
              inside = omega (arith, inside, room, many);
              free = λ taken.
                  free.free (subst (λ (es : EntriesByBase). HasEntry es born.base) left-is taken);
            };
      }

  -- all sites follow
  pub executes-at : (site : ℕ) (now : EntriesByBase)
      → ((a : State) (command : Command) (group : List Line) (b : State) (sites : List ℕ) (site : ℕ)
      (entries : EntriesByBase) → IsGood a → IsStep a command group b → length sites ≡ length a.objects
      → 256 * a.settings.max ≤ length entries → AreEntered a sites entries
      → AreEntered b (sites_with site sites (births_if a command (reply_in group)))
      (with_births site (without entries (freed_bases group)) (births_if a command (reply_in group))))
      → ((a : State) (command : Command) (group : List Line) (b : State) (sites : List ℕ) (site : ℕ)
      → IsStep a command group b → length sites ≡ length a.objects
      → length (sites_with site sites (births_if a command (reply_in group))) ≡ length b.objects)
      → ((site : ℕ) (entries : EntriesByBase) (bases : List ℕ) (births : List Born)
      → length (with_births site (without entries bases) births) ≡ length entries)
      → ((a : State) → now ≡ with_births site left (births_if a command (Some reply)))
      → ExecutesAt site old new command reply heard before now
  executes-at site now follow each rooms entered =
      record {
        executes = done.executes;
        sites_follow = λ a sites good shows has.
            let b = after a command group in
            let step = step-of a good shows in
            let born = births a good shows in
            let settings = (follows-step a command group b step).settings in
            let most = ap (λ (s : Settings). s.max) settings in
            let whole : now ≡ with_births site (without before (freed_bases group))
            (births_if a command (reply_in group)) =
            entered a ∙ ap (λ (es : EntriesByBase). with_births site es (births_if a command (Some reply))) left-is
            ∙ ap (with_births site (without before (freed_bases group))) (sym born) in
            let many = ap length whole ∙ rooms site before (freed_bases group) (births_if a command (reply_in group)) in
            let room = has.room in
            record {
              each_birth = ap (λ (bs : List Born). length (sites_with site sites bs)) (sym born)
                  ∙ each a command group b sites site step has.each_birth;
              room = omega (arith, most, many, room);
              entered = subst (λ (es : EntriesByBase).
                  AreEntered b (sites_with site sites (births_if a command (Some reply))) es) (sym whole)
                  (subst (λ (bs : List Born). AreEntered b (sites_with site sites bs)
                  (with_births site (without before (freed_bases group)) (births_if a command (reply_in group)))) born
                  (follow a command group b sites site before good step has.each_birth has.room has.entered));
            };
      }
