-- A run, as its parts come to it.
use Rattle.std.proofs.Common.{◌≡◌, ℕ, List, Option, None, Some, IsSome, option_map, Bor, refl, sym, subst, ◌⊎◌, inl}
use Rattle.std.proofs.Common.{inr}
use Rattle.mm_model.specs.declared.settings.Settings.{Settings}
use Rattle.mm_io.specs.Told.{NamedFile}
use Rattle.mmgc.specs.declared.generator.GeneratedTrace.{GeneratedTrace}
use Rattle.mmgc.specs.declared.extras.Extras.{Extras}
use Rattle.mmgc.specs.declared.program.Outcome.{Outcome}
use Rattle.mmgc.specs.Added.{Task}
use Rattle.mmgc.specs.Program.{Traffic, IsInput, Serves}
use Rattle.mmgc.specs.Words.{Choice}

-- a trace that is read
abbrev pub a_replay : Task → Option (List ℕ) → Choice
a_replay task file = record { settings = task.settings; file = file; generated = None; extras = task.extras }

-- what stays as it was, or as it was opened, is the input that was opened
opened_stays : (file : Option (List ℕ)) (named : Option NamedFile) (left opened after : Option (List ℕ)) →
    IsInput file named left opened → (after ≡ opened) ⊎ (after ≡ opened) → IsInput file named left after
opened_stays file named left opened after i (inl e) = subst (IsInput file named left) (sym e) i
opened_stays file named left opened after i (inr e) = subst (IsInput file named left) (sym e) i

-- the same, from a source before it turned to a file
abbrev from_source : Option NamedFile → Option (List ℕ) → ℕ → Traffic → Traffic
from_source named left faults traffic =
    record { named = named; input = record traffic.input { left = left; faults = faults }; output = traffic.output }

-- a name that is asked for
pub asked_name : (file : Option (Bor (List ℕ))) → IsSome file → IsSome (option_map (λ name. name.now) file)
asked_name None some = cc some
asked_name (Some name) some = refl

-- what came of a source that turned to the file that was asked for
serves_there : (task : Task) (file : Option (List ℕ)) (named : Option NamedFile) (left : Option (List ℕ))
    (traffic : Traffic) (outcome : Outcome) (says : List ℕ → Type 0) →
    IsInput file named left traffic.input.left →
    Serves (a_replay task None) traffic outcome says →
    Serves (a_replay task file) (from_source named left traffic.input.faults traffic) outcome says
serves_there task file named left traffic outcome says i (inl lacks) =
    inl (record {
      status = lacks.status;
      no_heap = lacks.no_heap;
      text = lacks.text;
      unread = inr (opened_stays file named left traffic.input.left traffic.input.left_after i lacks.unread);
      unwritten = lacks.unwritten;
    })
serves_there task file named left traffic outcome says i (inr (inl fails)) = let none = fails.asked in cc none
serves_there task file named left traffic outcome says i (inr (inr (inr g))) = let none = g.generates in cc none
serves_there task file named left traffic outcome says i (inr (inr (inl r))) =
    inr (inr (inl (record {
      replays = refl;
      end = r.end;
      heap = r.heap;
      bytes = r.bytes;
      input = subst (IsInput file named left) (sym r.input) i;
      status = r.status;
      heap_back = r.heap_back;
      text = r.text;
      replayed = r.replayed;
      faithful = r.faithful;
      in_time = r.in_time;
    })))

pub serves-opened : (task : Task) (file : Option (List ℕ)) (named : Option NamedFile)
    (left : Option (List ℕ)) (faults : ℕ) (traffic : Traffic) (outcome : Outcome) (says : List ℕ → Type 0) →
    traffic.named ≡ named → IsInput file named left traffic.input.left → traffic.input.faults ≡ faults →
    Serves (a_replay task None) traffic outcome says →
    Serves (a_replay task file) (from_source named left faults traffic) outcome says
serves-opened task file named left faults traffic outcome says n i f served =
    subst (λ faults. Serves (a_replay task file) (from_source named left faults traffic)
    outcome says) f (serves_there task file named left traffic outcome says i served)

-- what is asked for, by another name
pub serves-asked : (settings : Settings) (file : Option (List ℕ)) (extras : Extras)
    (asked generated : Option GeneratedTrace) (traffic : Traffic) (outcome : Outcome) (says : List ℕ → Type 0) →
    asked ≡ generated →
    Serves (record { settings = settings; file = file; generated = generated; extras = extras }) traffic outcome says →
    Serves (record { settings = settings; file = file; generated = asked; extras = extras }) traffic outcome says
serves-asked settings file extras asked generated traffic outcome says is served =
    subst
    (λ generated. Serves (record { settings = settings; file = file; generated = generated; extras = extras }) traffic
    outcome says)
    (sym is) served
