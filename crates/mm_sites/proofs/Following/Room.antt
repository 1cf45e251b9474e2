-- What a command bears begins where nothing is entered any more.
use Rattle.std.proofs.Common.{◌≡◌, ℕ, ◌*◌, List, [], ◌∷◌, ◌++◌, length, Option, Some, None, refl, sym, ap, ◌∙◌, subst}
use Rattle.std.proofs.Common.{arith}
use Rattle.std.proofs.lemmas.Option.{slice_get_within}
use Rattle.mm_model.specs.declared.command.Command.{Command}
use Rattle.mm_model.specs.declared.refusal.Refusal.{Refusal}
use Rattle.mm_model.specs.declared.reply.Reply.{Reply}
use Rattle.mm_model.specs.declared.settings.Settings.{Settings}
use Rattle.mm_model.specs.declared.line.Line.{Line}
use Rattle.mm_model.specs.Places.Place.{live_pieces}
use Rattle.mm_model.specs.State.{State}
use Rattle.mm_model.specs.Good.{IsPlaced, IsGood}
use Rattle.mm_model.specs.Refusing.{refusal}
use Rattle.mm_model.specs.Step.{IsCarriedOut, IsStepUnless, IsStep}
use Rattle.mm_model.specs.After.{freed_bases}
use Rattle.mm_model.specs.Logs.Turns.{Born, births_if, reply_in}
use Rattle.mm_model.proofs.Good.LiveLists.{one_birth}
use Rattle.mm_model.proofs.Good.Steps.{carries_stays}
use Rattle.mm_laws.proofs.Turning.Replies.{reply-carried}
use Rattle.mm_sites.specs.Entries.{EntriesByBase, HasEntry, without}
use Rattle.mm_sites.specs.Following.{IsFreeAt}
use Rattle.mm_sites.specs.Living.{AreEntered}
use Rattle.mm_sites.proofs.Following.Bearing.{newest, newest-lives, newest-base, grain, lives_on}
use Rattle.mm_sites.proofs.Following.Commands.{Bears, Nothing_born, One_born, follows-carried}
use Rattle.mm_sites.proofs.Following.Freeing.{begins-without, without-append}
use Rattle.mm_sites.proofs.Following.Spans.{base-alike, lives-here, stands-lives}
use Rattle.mm_sites.proofs.Following.Steps.{freed_bases-carried}

-- Two objects that live in one state don't begin at one base.
free-births : (a m b : State) (births : List Born) (placed : IsPlaced b.settings.max (live_pieces b))
    (sites : List ℕ) (entries : EntriesByBase) (bases : List ℕ) (born : Born) → AreEntered m sites entries
    → births ≡ born ∷ [] → Bears a m births b → IsFreeAt (256 * a.settings.max) (without entries bases) born.base
free-births a m b births placed sites entries bases born entered one (Nothing_born none same) =
    let clash = sym none ∙ one in cc
free-births a m b births placed sites entries bases born entered one (One_born own is sees on settings) =
    let same : own ≡ born = cc in
    subst (λ (o : Born). IsFreeAt (256 * a.settings.max) (without entries bases) o.base) same
    (let n = (grain m b own sees placed).0 in
    let at = (grain m b own sees placed).1 in
    let below = (grain m b own sees placed).2 in
    let most : b.settings.max ≡ a.settings.max = ap (λ (s : Settings). s.max) settings in
    record {
      aligned = omega arith;
      inside = omega arith;
      free = taken;
    })
  where
    taken : HasEntry (without entries bases) own.base → ⊥
    taken h =
        let began = begins-without bases entries own.base h.entry h.begins in
        let old = entered.only own.base h.entry began.0 in
        let now = lives_on m b own sees placed old.birth old.object old.lives.lives in
        let lives = stands-lives b old.birth old.object (lives-here m old.birth old.object old.lives.lives) now in
        let same = one_birth b placed old.birth (length m.objects) now.object (newest m b own sees placed).object lives
        (newest-lives m b own sees placed)
        (base-alike now.object old.object now.same ∙ old.at ∙ sym (newest-base m b own sees placed)) in
        let within = slice_get_within m.objects old.birth old.object old.lives.lives.is in
        omega arith

free-carried : (a : State) (command : Command) (group : List Line) (b : State) (sites : List ℕ)
    (entries : EntriesByBase) (born : Born) → IsGood a → refusal a command ≡ None
    → (m : IsCarriedOut a command group b) → AreEntered a sites entries
    → births_if a command (Some m.effect.reply) ≡ born ∷ []
    → IsFreeAt (256 * a.settings.max) (without entries (freed_bases m.log ++ freed_bases m.end_log)) born.base
free-carried a command group b sites entries born good allowed m entered one =
    let first = freed_bases m.log in
    let last = freed_bases m.end_log in
    let row = follows-carried a m.log m.effect command good allowed m.carries in
    let left = carries_stays a good command m.log m.effect allowed m.carries in
    subst (λ (es : EntriesByBase). IsFreeAt (256 * a.settings.max) es born.base)
    (sym (without-append entries first last))
    (free-births a row.middle m.effect.state (births_if a command (Some m.effect.reply)) left.placed sites
    (without entries first) last born (row.leaves.entered sites entries entered) one row.bears)

pub free-step : (a : State) (command : Command) (group : List Line) (b : State) (sites : List ℕ)
    (entries : EntriesByBase) (born : Born) → IsGood a → IsStep a command group b → AreEntered a sites entries
    → births_if a command (reply_in group) ≡ born ∷ []
    → IsFreeAt (256 * a.settings.max) (without entries (freed_bases group)) born.base
free-step a command group b sites entries born good step entered one = split (refusal a command) refl step
  where
    split : (because : Option Refusal) → refusal a command ≡ because → IsStepUnless because a command group b
        → IsFreeAt (256 * a.settings.max) (without entries (freed_bases group)) born.base
    split (Some because) e m =
        let none = sym (ap (λ (log : List Line). births_if a command (reply_in log)) m.group_is) ∙ one in cc
    split None e m =
        subst (λ (bases : List ℕ). IsFreeAt (256 * a.settings.max) (without entries bases) born.base)
        (sym (freed_bases-carried a command group b m))
        (free-carried a command group b sites entries born good e m entered
        (ap (births_if a command) (sym (reply-carried a command group b m)) ∙ one))
