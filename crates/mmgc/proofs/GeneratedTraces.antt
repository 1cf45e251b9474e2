-- Generated traces, command by command.
use Rattle.std.proofs.Common.{◌≡◌, ℕ, zero, suc, ◌+◌, ◌≤◌, [], ◌∷◌, ◌++◌, length, refl, ap, subst, ◌∙◌, arith}
use Rattle.std.proofs.lemmas.List.{length_push}
use Rattle.mm_model.specs.declared.line.Line.TheVariants as lines
use Rattle.mm_model.specs.declared.line.Totals.{Totals}
use Rattle.mm_model.specs.declared.settings.Settings.{Settings}
use Rattle.mm_model.specs.State.{empty_state}
use Rattle.mm_model.specs.Logs.Spelling.{spelling}
use Rattle.mm_model.proofs.Good.Starting.{empty_is_good}
use Rattle.mm_gc.specs.Gc.{Gc, totals_in}
use Rattle.mmgc.specs.declared.generator.GeneratedTrace.{GeneratedTrace}
use Rattle.mmgc.specs.declared.replay.End.{End}
use Rattle.mmgc.specs.Generator.{commands_of, generated_command, generated_commands, next_state, state_after}
use Rattle.mmgc.specs.Generating.{CarriesOutQuietly, HasCarriedOut, EndsWritten, Generated}
use Rattle.mmgc.specs.Replaying.{IsNew}
use Rattle.mmgc.specs.Run.{Output}
use Rattle.mmgc.proofs.Carrying.{carried_out-push, counted}

-- so many commands are asked for
generated_few : (seed n : ℕ) → length (generated_commands seed n) ≡ n
generated_few seed zero = refl
generated_few seed (suc n) =
    let few = generated_few seed n in
    let more = length_push (generated_commands seed n) (generated_command seed (n + 1) (state_after seed n)) in
    omega (arith, few, more)

-- nothing was carried out yet
pub none_generated : (settings : Settings) (heap : Gc) → IsNew settings heap → HasCarriedOut settings [] heap
none_generated settings heap new =
    record {
      log = [];
      carried = record {
        state = empty_state settings;
        legal = (refl, refl);
        good = empty_is_good settings new.limits.growing;
        shows = new.shows;
        settings_stay = refl;
        counted = refl;
        births = omega arith;
      };
    }

next_number : (n : ℕ) → suc n ≡ n + 1
next_number n = omega arith

-- the state of the generator behind one more command
pub state_next : (seed n state now : ℕ) → state ≡ state_after seed n → now ≡ next_state seed (n + 1) state →
    now ≡ state_after seed (n + 1)
state_next seed n state now is next =
    next ∙ subst (λ m. next_state seed (n + 1) state ≡ state_after seed m) (next_number n)
    (ap (next_state seed (n + 1)) is)

-- one more command
pub one_generated : (settings : Settings) (seed n state : ℕ) (old new : Gc) →
    HasCarriedOut settings (generated_commands seed n) old → state ≡ state_after seed n →
    CarriesOutQuietly old new (generated_command seed (n + 1) state) →
    HasCarriedOut settings (generated_commands seed (n + 1)) new
one_generated settings seed n state old new h is c =
    let same = subst (λ state. CarriesOutQuietly old new (generated_command seed (n + 1) state)) is c in
    subst (λ m. HasCarriedOut settings (generated_commands seed m) new) (next_number n)
    (record { log = h.log ++ same.group; carried = carried_out-push h.carried same.step })

-- the heap's numbers behind so many commands
pub record IsCountedUpTo (n : ℕ) (heap : Gc) : Type 0 where
  pub commands : (totals_in heap).commands ≡ n
  pub births : (totals_in heap).born ≤ n

pub generated_counted : (settings : Settings) (seed n : ℕ) (heap : Gc) →
    HasCarriedOut settings (generated_commands seed n) heap → IsCountedUpTo n heap
generated_counted settings seed n heap h =
    let c = counted h.carried in
    let few = generated_few seed n in
    let births = c.births_are in
    record { commands = c.commands_are ∙ few; births = omega (arith, few, births) }

-- the total line behind a generated trace
pub generated : {end : End} {settings : Settings} (trace : GeneratedTrace) {output : Output} {heap : Gc} →
    HasCarriedOut settings (commands_of trace) heap →
    EndsWritten end output (spelling (lines.Total (totals_in heap))) → Generated end settings trace output heap
generated {end} trace {output = output} h ends =
    record {
      log = h.log ++ lines.Total _ ∷ [];
      state = h.carried.state;
      whole = record { groups = h.log; legal = h.carried.legal; total = refl };
      good = h.carried.good;
      shows = h.carried.shows;
      totals = h.carried.shows.totals;
      ends = subst (λ (t : Totals). EndsWritten end output (spelling (lines.Total t))) h.carried.shows.totals ends;
    }
