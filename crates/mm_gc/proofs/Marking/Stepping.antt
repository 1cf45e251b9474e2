-- How far a step has come, part by part.
use Rattle.std.proofs.Common.{◌≡◌, ℕ, ◌+◌, ◌-◌, ◌*◌, ◌<◌, ◌≤◌, ◌⊎◌, inl, inr, List, [], ◌∷◌, ◌++◌, take, length}
use Rattle.std.specs.Prelude.{drop}
use Rattle.std.proofs.lemmas.List.{length-take}
use Rattle.std.proofs.Common.{sum, refl, sym, ap, subst, append-nil, arith}
use Rattle.mm_model.specs.declared.command.Command.TheVariants as commands
use Rattle.mm_model.specs.declared.line.Line.{Line}
use Rattle.mm_model.specs.declared.line.Line.TheVariants as lines
use Rattle.mm_model.specs.declared.reply.Reply.TheVariants as replies
use Rattle.mm_model.specs.Sets.Scan.{costs}
use Rattle.mm_model.specs.Views.ByBase.{Based}
use Rattle.mm_model.specs.Views.ObjectView.{ObjectView, scanned_words_of}
use Rattle.mm_model.specs.Views.View.{View}
use Rattle.mm_model.specs.Views.ViewStep.{slots_done_in, view_part_slots, ViewScansAll, NoGray}
use Rattle.mm_mark.specs.Marker.{Marking}
use Rattle.mm_mark.specs.Stale.{HasFewStale, IsPaid}
use Rattle.mm_sweep.specs.Told.{Told, Scan, IsToldOf}
use Rattle.mm_gc.specs.Gc.{Gc, view_of_gc}
use Rattle.mm_gc.specs.Phases.{IsPartScanned, HasNoneToScan, ScansTo}
use Rattle.mm_gc.specs.Rows.{Tells}
use Rattle.mm_gc.proofs.Marking.Scanned.{scans-push, cost-push, last-below, enough-drained}
use Rattle.mm_gc.proofs.Rows.Phases.{Runs, step-row}
use Rattle.mm_gc.proofs.Shown.{row-of}
use Rattle.mm_gc.proofs.Telling.Heard.{heard-nothing, heard-on}

-- Parts that cost so much together were scanned, and all but the last cost less than k.
pub record IsScanning (old : View) (k cost : ℕ) (now : View) (heard : List Told → Type 0) : Type 0 where
  pub objects : List (Based ObjectView)
  pub log : List Line
  pub scanned : ViewScansAll old objects log now
  pub costs_are : sum (costs log) ≡ cost
  pub last : (log ≡ []) ⊎ (sum (take (length log - 1) (costs log)) < k)
  pub told : IsToldOf heard old.objects log

pub scanning-begins : (view : View) (k : ℕ) (heard : List Told → Type 0) → heard [] → IsScanning view k 0 view heard
scanning-begins view k heard nothing =
    record {
      objects = [];
      log = [];
      scanned = (refl, refl);
      costs_are = refl;
      last = inl refl;
      told = heard-nothing heard view.objects nothing;
    }

pub scanning-goes_on : (old : View) (k cost : ℕ) (now next : View) (slots : ℕ) (first part both : List Told → Type 0)
    → ((earlier later : List Told) → first earlier → part later → both (earlier ++ later))
    → IsScanning old k cost now first → cost < k → IsPartScanned now next slots part
    → IsScanning old k (cost + (1 + slots)) next both
scanning-goes_on old k cost now next slots first part both on s below p =
    let many = length (view_part_slots now p.object) in
    let line = lines.Scan p.object.base many in
    let same = p.slots_are in
    let so_far = s.costs_are in
    let total = cost-push s.log p.object.base many in
    record {
      objects = s.objects ++ p.object ∷ [];
      log = s.log ++ line ∷ [];
      scanned = subst (λ (v : View). ViewScansAll old (s.objects ++ p.object ∷ []) (s.log ++ line ∷ []) v) (sym p.done)
          (scans-push old now s.objects p.object s.log s.scanned p.may);
      costs_are = omega (arith, same, so_far, total);
      last = inr (last-below k s.log p.object.base many (omega (arith, so_far, below)));
      told = heard-on first part both on old.objects s.log (line ∷ []) s.told
          (record {
            told = Scan p.object.base slots ∷ [];
            was = p.told;
            lines_are = ap (λ (n : ℕ). lines.Scan p.object.base n ∷ []) same;
            words_are = (tt, tt);
          });
    }

pub scanning-drained : (old : View) (k cost : ℕ) (now next : View) (first last both : List Told → Type 0)
    → ((earlier later : List Told) → first earlier → last later → both (earlier ++ later))
    → IsScanning old k cost now first → cost < k → HasNoneToScan now next last → ScansTo old k next both
scanning-drained old k cost now next first last both on s below n =
    let so_far = s.costs_are in
    record {
      log = s.log;
      scans = record {
        objects = s.objects;
        scanned = subst (λ (v : View). ViewScansAll old s.objects s.log v) (sym n.same) s.scanned;
        enough = enough-drained k s.log next (omega (arith, so_far, below))
            (subst (λ (v : View). NoGray v) (sym n.same) n.none);
      };
      told = subst (IsToldOf both old.objects) (append-nil s.log)
          (heard-on first last both on old.objects s.log [] s.told (heard-nothing last old.objects n.told));
    }

-- what one more part costs is paid for after what was paid before
pub paid-on : (before after : Marking) (spent steps bound cost more : ℕ) → IsPaid before spent bound
    → ((stale : ℕ) → HasFewStale before stale → IsPaid after steps (spent + cost + 8 * stale)) → bound + cost ≤ more
    → IsPaid after steps more
paid-on before after spent steps bound cost more so_far part within =
    let next = part so_far.left so_far.few in
    let first = so_far.paid in
    let second = next.paid in
    record { left = next.left; few = next.few; paid = omega (arith, first, second, within) }

-- a part has at most 64 slots
pub part-few : (old new : View) (slots : ℕ) (heard : List Told → Type 0) → IsPartScanned old new slots heard
    → slots ≤ 64
part-few old new slots heard p =
    let same = p.slots_are in
    let few = length-take 64 (drop (slots_done_in old.cycle p.object.base) (scanned_words_of p.object.value)) in
    omega (arith, same, few)

pub tells-scanned : (old new : Gc) (k : ℕ) (heard : List Told → Type 0) → Runs (view_of_gc old)
    → ScansTo (view_of_gc old) k (view_of_gc new) heard → Tells old new (commands.Step k) replies.Done heard
tells-scanned old new k heard runs s =
    record {
      log = s.log;
      answers = row-of (view_of_gc old) (view_of_gc new) (commands.Step k) s.log replies.Done
          (step-row (view_of_gc old) k s.log (view_of_gc new) runs s.scans);
      told = s.told;
    }
