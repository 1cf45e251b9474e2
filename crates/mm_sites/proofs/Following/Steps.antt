-- What a whole step leaves of what is entered, the reap at its end with it.
use Rattle.std.proofs.Common.{◌≡◌, ℕ, ◌*◌, ◌≤◌, true, false, List, [], ◌∷◌, ◌++◌, map, length, Option, Some, None}
use Rattle.std.proofs.Common.{refl, sym, ap, ◌∙◌, subst, arith, length-set}
use Rattle.std.specs.Prelude.{slice_get, ◌/◌}
use Rattle.std.proofs.lemmas.List.{append-nil, length-map, length-append}
use Rattle.mm_model.specs.declared.command.Command.{Command}
use Rattle.mm_model.specs.declared.refusal.Refusal.{Refusal}
use Rattle.mm_model.specs.declared.settings.Settings.{Settings}
use Rattle.mm_model.specs.declared.line.Line.{Line}
use Rattle.mm_model.specs.declared.line.Line.TheVariants as lines
use Rattle.mm_model.specs.Places.Place.{live_pieces}
use Rattle.mm_model.specs.Object.{Object}
use Rattle.mm_model.specs.State.{State, Lives}
use Rattle.mm_model.specs.Good.{IsPlaced, IsGood}
use Rattle.mm_model.specs.Words.{stack_words, names, falls}
use Rattle.mm_model.specs.Phase.{lists}
use Rattle.mm_model.specs.Views.ByBase.{with_entry}
use Rattle.mm_model.specs.Refusing.{refusal}
use Rattle.mm_model.specs.Step.{is_full, IsCarriedOut, IsStepUnless, IsStep}
use Rattle.mm_model.specs.After.{freed_bases}
use Rattle.mm_model.specs.Logs.Turns.{Born, births_if, reply_in}
use Rattle.mm_model.proofs.Good.Living.{lives_extent}
use Rattle.mm_model.proofs.Good.Steps.{carries_stays}
use Rattle.mm_model.proofs.Lists.Growing.{any_from_get}
use Rattle.mm_model.proofs.Places.Falling.{falls_at_base}
use Rattle.mm_model.proofs.Steps.Groups.{freed_bases-append}
use Rattle.mm_laws.proofs.Turning.Bearing.{SeesBorn}
use Rattle.mm_laws.proofs.Turning.Knowing.{outline, outline_of, outlines-step}
use Rattle.mm_laws.proofs.Turning.Replies.{reply-carried}
use Rattle.mm_sites.specs.Entries.{EntriesByBase, without}
use Rattle.mm_sites.specs.Following.{entry_of_birth, with_births, sites_with}
use Rattle.mm_sites.specs.Living.{AreEntered}
use Rattle.mm_sites.proofs.Following.Bearing.{newest, newest-lives, newest-base, grain, entered-born}
use Rattle.mm_sites.proofs.Following.Commands.{Bears, Nothing_born, One_born, follows-carried, leaves-ended, end-spares}
use Rattle.mm_sites.proofs.Following.Freeing.{without-append, without-with_entry, length-without}
use Rattle.mm_sites.proofs.Following.Spans.{span, span_of, entered-same}

module _ (a m b : State) (births : List Born) (site : ℕ) (placed : IsPlaced b.settings.max (live_pieces b)) where
  -- what is born is entered
  entered-bears : (sites : List ℕ) (entries : EntriesByBase) → length sites ≡ length m.objects
      → 256 * a.settings.max ≤ length entries → AreEntered m sites entries → Bears a m births b
      → AreEntered b (sites_with site sites births) (with_births site entries births)
  entered-bears sites entries beside room entered (Nothing_born none same) =
      subst (λ bs. AreEntered b (sites_with site sites bs) (with_births site entries bs)) (sym none)
      (subst (λ ss. AreEntered b ss entries) (sym (append-nil sites)) (entered-same m b same sites entries entered))
  entered-bears sites entries beside room entered (One_born born is sees on settings) =
      let most : b.settings.max ≡ a.settings.max = ap (λ (s : Settings). s.max) settings in
      subst (λ bs. AreEntered b (sites_with site sites bs) (with_births site entries bs)) (sym is)
      (entered-born m b born sees placed sites beside site entries (omega arith) entered)

  -- the new object's base is on the stack
  newest-named : (born : Born) (sees : SeesBorn span span_of m (born ∷ []) b)
      → slice_get (stack_words b) 0 ≡ Some born.base
      → names (stack_words b) (newest m b born sees placed).object ≡ true
  newest-named born sees on =
      let object = (newest m b born sees placed).object in
      let some = lives_extent b placed (length m.objects) object (newest-lives m b born sees placed) in
      any_from_get (λ word. falls word object.base object.extent) (stack_words b) 0 born.base on
      (ap (λ word. falls word object.base object.extent) (sym (newest-base m b born sees placed))
      ∙ falls_at_base object.base object.extent some)

  -- What is freed and isn't on the stack can be taken away before the birth.
  without-births : (bases : List ℕ) (entries : EntriesByBase)
      → ((birth : ℕ) (object : Object) → Lives b birth object → names (stack_words b) object ≡ true
      → lists bases object.base ≡ false)
      → Bears a m births b
      → without (with_births site entries births) bases ≡ with_births site (without entries bases) births
  without-births bases entries spares (Nothing_born none same) =
      subst (λ bs. without (with_births site entries bs) bases ≡ with_births site (without entries bases) bs)
      (sym none) refl
  without-births bases entries spares (One_born born is sees on settings) =
      let at = (grain m b born sees placed).1 in
      let object = (newest m b born sees placed).object in
      let unlisted : lists bases born.base ≡ false =
      ap (lists bases) (sym (newest-base m b born sees placed))
      ∙ spares (length m.objects) object (newest-lives m b born sees placed) (newest-named born sees on) in
      subst (λ bs. without (with_births site entries bs) bases ≡ with_births site (without entries bases) bs) (sym is)
      (without-with_entry born.base (omega arith) (Some (entry_of_birth site born)) bases entries unlisted)

pub freed_bases-carried : (a : State) (command : Command) (group : List Line) (b : State)
    → (m : IsCarriedOut a command group b) → freed_bases group ≡ freed_bases m.log ++ freed_bases m.end_log
freed_bases-carried a command group b m =
    let reply = lines.Reply m.effect.reply ∷ [] in
    ap freed_bases m.group_is
    ∙ freed_bases-append (m.log ++ m.end_log) reply
    ∙ append-nil (freed_bases (m.log ++ m.end_log))
    ∙ freed_bases-append m.log m.end_log

module _ (a : State) (command : Command) (group : List Line) (b : State) (sites : List ℕ) (site : ℕ)
    (entries : EntriesByBase) where
  -- what is entered after the step, by its births and by what it frees
  abbrev IsEnteredAfter : List Born → List ℕ → Type 0
  IsEnteredAfter births bases =
      AreEntered b (sites_with site sites births) (with_births site (without entries bases) births)

  entered-carried : IsGood a → refusal a command ≡ None → (m : IsCarriedOut a command group b)
      → length sites ≡ length a.objects → 256 * a.settings.max ≤ length entries → AreEntered a sites entries
      → IsEnteredAfter (births_if a command (Some m.effect.reply)) (freed_bases m.log ++ freed_bases m.end_log)
  entered-carried good allowed m beside room entered =
      let births = births_if a command (Some m.effect.reply) in
      let first = freed_bases m.log in
      let last = freed_bases m.end_log in
      let full = is_full m.effect.reply in
      let row = follows-carried a m.log m.effect command good allowed m.carries in
      let left = carries_stays a good command m.log m.effect allowed m.carries in
      let many : length (without entries first) ≡ length entries = length-without entries first in
      let made = entered-bears a row.middle m.effect.state births site left.placed sites (without entries first)
      (beside ∙ sym row.leaves.as_many) (omega arith) (row.leaves.entered sites entries entered) row.bears in
      let ended = (leaves-ended m.effect.state full m.end_log m.end m.ends).entered (sites_with site sites births)
      (with_births site (without entries first) births) made in
      let sooner = without-births a row.middle m.effect.state births site left.placed last (without entries first)
      (end-spares m.effect.state full m.end_log m.end left m.ends) row.bears
      ∙ ap (λ es. with_births site es births) (sym (without-append entries first last)) in
      entered-same m.end b (ap (λ (s : State). map span s.objects) m.state_is) (sites_with site sites births)
      (with_births site (without entries (first ++ last)) births)
      (subst (AreEntered m.end (sites_with site sites births)) sooner ended)

  pub entered-step : IsGood a → IsStep a command group b → length sites ≡ length a.objects
      → 256 * a.settings.max ≤ length entries → AreEntered a sites entries
      → IsEnteredAfter (births_if a command (reply_in group)) (freed_bases group)
  entered-step good step beside room entered = split (refusal a command) refl step
    where
      split : (because : Option Refusal) → refusal a command ≡ because → IsStepUnless because a command group b
          → IsEnteredAfter (births_if a command (reply_in group)) (freed_bases group)
      split (Some because) e m =
          subst (λ log. IsEnteredAfter (births_if a command (reply_in log)) (freed_bases log)) (sym m.group_is)
          (subst (λ ss. AreEntered b ss entries) (sym (append-nil sites))
          (entered-same a b (ap (λ (s : State). map span s.objects) m.state_is) sites entries entered))
      split None e m =
          subst (λ bases. IsEnteredAfter (births_if a command (reply_in group)) bases)
          (sym (freed_bases-carried a command group b m))
          (subst (λ r. IsEnteredAfter (births_if a command r) (freed_bases m.log ++ freed_bases m.end_log))
          (sym (reply-carried a command group b m)) (entered-carried good e m beside room entered))

-- each object has a site after the step
pub sites_with-step : (a : State) (command : Command) (group : List Line) (b : State) (sites : List ℕ) (site : ℕ)
    → IsStep a command group b → length sites ≡ length a.objects
    → length (sites_with site sites (births_if a command (reply_in group))) ≡ length b.objects
sites_with-step a command group b sites site step beside =
    let births = births_if a command (reply_in group) in
    let own = length-append sites (map (λ (born : Born). site) births) in
    let more = length-map births (λ (born : Born). site) in
    let seen = ap length (outlines-step a command group b step) in
    let before = length-map a.objects outline in
    let after = length-map b.objects outline in
    let new = length-map births outline_of in
    let all = length-append (map outline a.objects) (map outline_of births) in
    omega arith

pub length-with_births : (site : ℕ) (entries : EntriesByBase) (bases : List ℕ) (births : List Born)
    → length (with_births site (without entries bases) births) ≡ length entries
length-with_births site entries bases births = from (without entries bases) births ∙ length-without entries bases
  where
    from : (es : EntriesByBase) (births : List Born) → length (with_births site es births) ≡ length es
    from es [] = refl
    from es (born ∷ births) =
        from (with_entry born.base (Some (entry_of_birth site born)) es) births
        ∙ length-set es (born.base / 16) (Some (entry_of_birth site born))
