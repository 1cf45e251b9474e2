-- A search: what it finds, and what is wanted still after a reap and a collection.
use Rattle.std.proofs.Common.{◌≡◌, ℕ, Bool, true, false, not, ◌&&◌, ◌||◌, IsTrue, List, [], ◌∷◌, ◌++◌, Option, Some}
use Rattle.std.proofs.Common.{None, refl, sym, ap, ◌∙◌, subst, eqb-true}
use Rattle.std.specs.Prelude.{◌==◌, if◌then◌else◌}
use Rattle.std.specs.List.{AllByRecursion}
use Rattle.mm_model.specs.declared.command.Command.TheVariants as commands
use Rattle.mm_model.specs.declared.object.Colour.TheVariants.{White}
use Rattle.mm_model.specs.declared.line.Line.{Line}
use Rattle.mm_model.specs.declared.line.Phase.TheVariants.{Reap, Collect}
use Rattle.mm_model.specs.declared.reply.Reply.TheVariants as replies
use Rattle.mm_model.specs.declared.refusal.Refusal.TheVariants as refusals
use Rattle.mm_model.specs.Object.{is_counted}
use Rattle.mm_model.specs.Words.{falls}
use Rattle.mm_model.specs.Phase.{lists}
use Rattle.mm_model.specs.Views.ByBase.{Begins, Based, changed}
use Rattle.mm_model.specs.Views.ObjectView.{ObjectView, ObjectsByBase, names_at}
use Rattle.mm_model.specs.Views.SetsByBase.{IsReapableAt, IsReachedAt, IsUnreachedAt}
use Rattle.mm_model.specs.Views.View.{View}
use Rattle.mm_model.specs.Views.ViewWords.{object_at, outside_references, marking_words, view_root_words}
use Rattle.mm_model.specs.Views.ViewEffect.{ViewEffect, with_found, with_colour, view_weak_made}
use Rattle.mm_model.specs.Views.ViewPhase.{view_phase_lines, view_reaped, view_collected, view_after_release}
use Rattle.mm_model.specs.Views.ViewPhase.{unless_listed}
use Rattle.mm_model.specs.Views.ViewPhase.{ViewReaps, ViewCollects}
use Rattle.mm_model.specs.Views.ViewStep.{ViewMakes, ViewReapsOnce, ViewCollectsOnce}
use Rattle.mm_model.proofs.Lists.Keyed.{refuted}
use Rattle.mm_model.proofs.Lists.Passing.{any-front}
use Rattle.mm_model.proofs.View.ByBase.Entries.{begins_same}
use Rattle.mm_model.proofs.View.ByBase.ChangedEntries.{begins_changed}
use Rattle.mm_gc.specs.declared.wanted.Wanted.{Wanted}
use Rattle.mm_gc.specs.declared.wanted.Wanted.TheVariants as wanted
use Rattle.mm_gc.specs.declared.wanted.Made.{Made}
use Rattle.mm_gc.specs.declared.wanted.Made.TheVariants as made_variants
use Rattle.mm_gc.specs.declared.wanted.Reach.{Reach}
use Rattle.mm_gc.specs.declared.wanted.Reach.TheVariants as reach
use Rattle.mm_gc.specs.Gc.{Gc, view_of_gc}
use Rattle.mm_gc.specs.Making.{IsWanted, IsWantedWeak, IsMade, Searches, family_of, bytes_of, effect_of, place_in_reach}
use Rattle.mm_gc.specs.Making.{made_reply}
use Rattle.mm_sweep.specs.Told.{Told, IsToldOf}
use Rattle.mm_gc.specs.Rows.{Tells}
use Rattle.mm_gc.proofs.Telling.Heard.{heard-nothing, heard-on, heard-among, all-twins}
use Rattle.mm_gc.proofs.Telling.Lasting.{reaped-twins}
use Rattle.mm_gc.proofs.Rows.Making.{makes-at_once, makes-after_reap, makes-after_collection}

-- something was made only where there is a place
some-place : (w : Wanted) (view new : View) (m : Made) (place : Option ℕ)
    → effect_of w view place ≡ record { view = new; reply = made_reply (Some m) } → (base : ℕ) × (place ≡ Some base)
some-place w view new m (Some base) e = (base, refl)
some-place (wanted.Object shape) view new (made_variants.Object base) None e =
    let reply = ap (λ (v : ViewEffect). v.reply) e in cc
some-place (wanted.Object shape) view new (made_variants.Area area) None e =
    let reply = ap (λ (v : ViewEffect). v.reply) e in cc
some-place (wanted.WeakOf target) view new (made_variants.Object base) None e =
    let reply = ap (λ (v : ViewEffect). v.reply) e in cc
some-place (wanted.WeakOf target) view new (made_variants.Area area) None e =
    let reply = ap (λ (v : ViewEffect). v.reply) e in cc
some-place (wanted.Area asked) view new (made_variants.Object base) None e =
    let reply = ap (λ (v : ViewEffect). v.reply) e in cc
some-place (wanted.Area asked) view new (made_variants.Area area) None e =
    let reply = ap (λ (v : ViewEffect). v.reply) e in cc

pub made-some : (w : Wanted) (r : Reach) (view new : View) (m : Made) → IsMade view w r new (Some m)
    → (base : ℕ) × (place_in_reach r view w ≡ Some base)
made-some w r view new m made = some-place w view new m (place_in_reach r view w) made

-- nothing was made where there is none, and nothing changed
pub record IsNowhere (w : Wanted) (r : Reach) (view new : View) : Type 0 where
  pub nowhere : place_in_reach r view w ≡ None
  pub same : new ≡ view

weak-replies : (view new : View) (base : ℕ) (found : Option (Based ObjectView))
    → with_found found view (λ o. record { view = view_weak_made view o base; reply = replies.New base })
    ≡ record { view = new; reply = replies.Refused refusals.Full } → ⊥
weak-replies view new base None e = let reply = ap (λ (v : ViewEffect). v.reply) e in cc
weak-replies view new base (Some o) e = let reply = ap (λ (v : ViewEffect). v.reply) e in cc

no-place : (w : Wanted) (view new : View) (place : Option ℕ)
    → effect_of w view place ≡ record { view = new; reply = replies.Refused refusals.Full }
    → (place ≡ None) × (new ≡ view)
no-place (wanted.Object shape) view new None e = (refl, sym (ap (λ (v : ViewEffect). v.view) e))
no-place (wanted.WeakOf target) view new None e = (refl, sym (ap (λ (v : ViewEffect). v.view) e))
no-place (wanted.Area area) view new None e = (refl, sym (ap (λ (v : ViewEffect). v.view) e))
no-place (wanted.Object shape) view new (Some base) e = let reply = ap (λ (v : ViewEffect). v.reply) e in cc
no-place (wanted.WeakOf target) view new (Some base) e =
    absurd (weak-replies view new base (object_at view.objects target) e)
no-place (wanted.Area area) view new (Some base) e = let reply = ap (λ (v : ViewEffect). v.reply) e in cc

pub made-nowhere : (w : Wanted) (r : Reach) (view new : View) → IsMade view w r new None → IsNowhere w r view new
made-nowhere w r view new made =
    let none = no-place w view new (place_in_reach r view w) made in
    record { nowhere = none.0; same = none.1 }

-- what holds of each of some bases holds of one that is listed
pub each_listed : (P : ℕ → Type 0) (bases : List ℕ) (base : ℕ) → AllByRecursion P bases → lists bases base ≡ true
    → P base
each_listed P [] base all e = cc
each_listed P (b ∷ bases) base all e = split (b == base) refl e (each_listed P bases base all.1)
  where
    split : (t : Bool) → (b == base) ≡ t → (t || lists bases base) ≡ true → (lists bases base ≡ true → P base) → P base
    split true at e rest = subst P (eqb-true b base at) all.0
    split false at e rest = rest e

not-only : (a b c d : Bool) → (a && b && not c && d) ≡ true → c ≡ true → ⊥
not-only true true true d e f = cc
not-only true true false d e f = cc
not-only true false c d e f = cc
not-only false b c d e f = cc

-- what the stack names isn't reapable
stack-kept : (objects : ObjectsByBase) (stack : List ℕ) (outside : ℕ → ℕ) (base : ℕ) (target : ObjectView)
    → Begins objects base target → IsTrue (names_at stack base target) → IsReapableAt objects stack outside base → ⊥
stack-kept objects stack outside _ target begins named (IsReapableAt.Reapable base object there only holders) =
    not-only (is_counted object.kind) (not object.sticky) (names_at stack base object) (outside base == 0) only
    (subst (λ (o : ObjectView). IsTrue (names_at stack base o)) (begins_same objects base target object begins there)
    named)

-- what was wanted is still wanted where its target wasn't freed
released-still : (view : View) (base : ℕ) (bases : List ℕ) (asked : IsWantedWeak view base) → lists bases base ≡ false
    → Begins (changed (view_after_release bases) view.objects) base
    (record asked.target { partner = unless_listed bases asked.target.partner })
released-still view base bases asked spared =
    begins_changed (view_after_release bases) view.objects base asked.target
    (record asked.target { partner = unless_listed bases asked.target.partner }) asked.begins
    (ap
    (λ (b : Bool). if b then None else Some (record asked.target {
      partner = unless_listed bases asked.target.partner;
    }))
    spared)

pub wanted-reaped : (w : Wanted) (view : View) (dead : List ℕ) → ViewReaps view dead → IsWanted view w
    → IsWanted (view_reaped dead view) w
wanted-reaped (wanted.Object shape) view dead reaps asked = record { fine = asked.fine; room = asked.room }
wanted-reaped (wanted.Area area) view dead reaps asked = record { fine = asked.fine; raw = asked.raw; few = asked.few }
wanted-reaped (wanted.WeakOf base) view dead reaps asked =
    let spared = refuted (lists dead base)
    (λ listed.
    stack-kept view.objects view.stack (outside_references view) base asked.target asked.begins asked.named
    (each_listed
    (λ b. (object : ObjectView) × Begins view.objects b object × IsReapableAt view.objects view.stack
    (outside_references view) b)
    dead base reaps.only listed).2) in
    record {
      target = record asked.target { partner = unless_listed dead asked.target.partner };
      begins = released-still view base dead asked spared;
      strong = asked.strong;
      alone = ap (unless_listed dead) asked.alone;
      named = asked.named;
      room = asked.room;
    }

pub wanted-collected : (w : Wanted) (view : View) (lost : List ℕ) → ViewCollects view lost → IsWanted view w
    → IsWanted (view_collected lost view) w
wanted-collected (wanted.Object shape) view lost collects asked = record { fine = asked.fine; room = asked.room }
wanted-collected (wanted.Area area) view lost collects asked =
    record { fine = asked.fine; raw = asked.raw; few = asked.few }
wanted-collected (wanted.WeakOf base) view lost collects asked =
    let spared = refuted (lists lost base)
    (λ listed.
    (each_listed
    (λ b. (object : ObjectView) × Begins view.objects b object × IsUnreachedAt view.objects (marking_words view) b)
    lost base collects.only listed).2
    (IsReachedAt.By_root base asked.target asked.begins
    (any-front (λ word. falls word base asked.target.extent) view.stack (view_root_words view).areas asked.named))) in
    let kept = record asked.target { partner = unless_listed lost asked.target.partner } in
    record {
      target = record kept { colour = White };
      begins = begins_changed (with_colour White) (changed (view_after_release lost) view.objects) base kept
          (record kept { colour = White }) (released-still view base lost asked spared) refl;
      strong = asked.strong;
      alone = ap (unless_listed lost) asked.alone;
      named = asked.named;
      room = asked.room;
    }

-- what a reap and a collection are told to do
pub told-reap : (old new : Gc) (heard : List Told → Type 0) → (tells : Tells old new commands.Reap replies.Done heard)
    → ViewReapsOnce (view_of_gc old) tells.log (view_of_gc new)
told-reap old new heard tells = tells.answers.row.0

pub told-collect : (old new : Gc) (heard : List Told → Type 0)
    → (tells : Tells old new commands.Collect replies.Done heard)
    → ViewCollectsOnce (view_of_gc old) tells.log (view_of_gc new)
told-collect old new heard tells = tells.answers.row.0

pub reap-wants : (w : Wanted) (old new : Gc) (heard : List Told → Type 0) → IsWanted (view_of_gc old) w
    → Tells old new commands.Reap replies.Done heard → IsWanted (view_of_gc new) w
reap-wants w old new heard asked tells =
    let once = told-reap old new heard tells in
    subst (λ view. IsWanted view w) (sym once.left_is)
    (wanted-reaped w (view_of_gc old) once.dead once.reapable asked)

pub collect-wants : (w : Wanted) (old middle new : Gc) (heard : List Told → Type 0) → IsWanted (view_of_gc old) w
    → view_of_gc middle ≡ view_of_gc old → Tells middle new commands.Collect replies.Done heard
    → IsWanted (view_of_gc new) w
collect-wants w old middle new heard asked same tells =
    let once = told-collect middle new heard tells in
    subst (λ view. IsWanted view w) (sym once.left_is)
    (wanted-collected w (view_of_gc middle) once.lost once.unreached (subst (λ view. IsWanted view w) (sym same) asked))

-- found at once
pub searches-at_once : (old new : Gc) (w : Wanted) (m : Made) (heard : List Told → Type 0) → heard []
    → IsMade (view_of_gc old) w reach.Now (view_of_gc new) (Some m) → Searches old new w (Some m) heard
searches-at_once old new w m heard nothing made =
    let view = view_of_gc old in
    let found = made-some w reach.Now view (view_of_gc new) m made in
    record {
      log = [];
      makes = subst (ViewMakes view (family_of w) (bytes_of w) (effect_of w) [])
          (sym (ap (effect_of w view) found.1) ∙ made)
          (makes-at_once view (family_of w) (bytes_of w) (effect_of w) found.0 found.1);
      told = heard-nothing heard view.objects nothing;
    }

-- found by a search that a heap began which shows the same
pub searches-from : (old tried new : Gc) (w : Wanted) (result : Option Made) (heard : List Told → Type 0)
    → view_of_gc tried ≡ view_of_gc old → Searches tried new w result heard → Searches old new w result heard
searches-from old tried new w result heard same searched =
    record {
      log = searched.log;
      makes = subst (λ view. ViewMakes view (family_of w) (bytes_of w) (effect_of w) searched.log
          (record { view = view_of_gc new; reply = made_reply result })) same searched.makes;
      told = subst (λ (v : View). IsToldOf heard v.objects searched.log) same searched.told;
    }

-- after a reap
module _ (old reaped : Gc) (w : Wanted) (first : List Told → Type 0)
    (nowhere : place_in_reach reach.Now (view_of_gc old) w ≡ None)
    (reap : Tells old reaped commands.Reap replies.Done first) where
  abbrev view : View
  view = view_of_gc old

  once : ViewReapsOnce view reap.log (view_of_gc reaped)
  once = told-reap old reaped first reap

  pub searches-after_reap : (new : Gc) (m : Made) → IsMade (view_of_gc reaped) w reach.Grown (view_of_gc new) (Some m)
      → Searches old new w (Some m) first
  searches-after_reap new m made =
      let left = view_reaped once.dead view in
      let now = subst (λ v. IsMade v w reach.Grown (view_of_gc new) (Some m)) once.left_is made in
      let found = made-some w reach.Grown left (view_of_gc new) m now in
      record {
        log = reap.log;
        makes = subst (λ log. ViewMakes view (family_of w) (bytes_of w) (effect_of w) log
            (record { view = view_of_gc new; reply = made_reply (Some m) })) (sym once.log_is)
            (subst (ViewMakes view (family_of w) (bytes_of w) (effect_of w) (view_phase_lines Reap view once.dead))
            (sym (ap (effect_of w left) found.1) ∙ now)
            (makes-after_reap view (family_of w) (bytes_of w) (effect_of w) found.0 once.dead nowhere
            once.reapable found.1));
        told = reap.told;
      }

  -- after a reap and a collection
  pub searches-after_collection : (again collected new : Gc) (next both : List Told → Type 0)
      → ((earlier later : List Told) → first earlier → next later → both (earlier ++ later)) → (result : Option Made)
      → IsMade (view_of_gc reaped) w reach.Grown (view_of_gc again) None
      → Tells again collected commands.Collect replies.Done next
      → IsMade (view_of_gc collected) w reach.Grown (view_of_gc new) result → Searches old new w result both
  searches-after_collection again collected new next both on result still collect made =
      let left = view_reaped once.dead view in
      let none = made-nowhere w reach.Grown left (view_of_gc again)
      (subst (λ v. IsMade v w reach.Grown (view_of_gc again) None) once.left_is still) in
      let done = subst (λ v. ViewCollectsOnce v collect.log (view_of_gc collected)) none.same
      (told-collect again collected next collect) in
      let last = view_collected done.lost left in
      let now = subst (λ v. IsMade v w reach.Grown (view_of_gc new) result) done.left_is made in
      record {
        log = reap.log ++ collect.log;
        makes = subst (λ log. ViewMakes view (family_of w) (bytes_of w) (effect_of w) log
            (record { view = view_of_gc new; reply = made_reply result }))
            (ap (λ (log : List Line). log ++ view_phase_lines Collect left done.lost) (sym once.log_is)
            ∙ ap (λ (log : List Line). reap.log ++ log) (sym done.log_is))
            (subst
            (ViewMakes view (family_of w) (bytes_of w) (effect_of w)
            (view_phase_lines Reap view once.dead ++ view_phase_lines Collect left done.lost))
            now
            (makes-after_collection view (family_of w) (bytes_of w) (effect_of w) once.dead done.lost
            (place_in_reach reach.Grown last w) nowhere once.reapable none.nowhere done.unreached refl));
        told = heard-on first next both on view.objects reap.log collect.log reap.told
            (heard-among next left.objects view.objects collect.log
            (all-twins left.objects view.objects (reaped-twins once.dead view) collect.log)
            (subst (λ (v : View). IsToldOf next v.objects collect.log) none.same collect.told));
      }
