use Rattle.std.proofs.Common.{[], ◌∷◌, ◌++◌, arith, refl, subst}
use Rattle.mm_pace.specs.Rules.{due_finish}
use Rattle.mmgc.specs.Keeping.{keeps-trans}
use Rattle.mmgc.specs.Logging.{left_of}
use Rattle.mmgc.specs.Pacing.{Applies, team_of}
use Rattle.mmgc.proofs.Pacing.Driven.{all-next, all-none, can_drive-fewer, ready-after}
use Rattle.mmgc.proofs.pacer.apply_rules.Goals as goal

pub finish_in_time-requires : goal.finish_in_time-requires
finish_in_time-requires g c =
    let last = c.requires.last in
    let one = c.step_for_birth.ensures.applied last.0 last.1 last.2 last.5 in
    let ready = ready-after 2 last.5 c.requires.ready.room one last.3 last.4 last.6 in
    record { ready = can_drive-fewer ready (omega arith) }

pub begin_in_time-requires : goal.begin_in_time-requires
begin_in_time-requires g c =
    let last = c.requires.last in
    let one = c.step_for_birth.ensures.applied last.0 last.1 last.2 last.5 in
    let two = c.finish_in_time.ensures.applied last.0 ((last.1 ++ last.2 ∷ []) ++ one.added) one.driven in
    record {
      ready = ready-after 1 one.driven (ready-after 2 last.5 c.requires.ready.room one last.3 last.4 last.6).room two
          last.3 last.4 (one.books last.3 last.4 last.6);
    }

pub returns-clause-applied : goal.returns-clause-applied
returns-clause-applied g c settings turns turn d =
    let one = c.step_for_birth.ensures.applied settings turns turn d in
    let two = subst (λ rate. Applies (due_finish rate) settings ((turns ++ turn ∷ []) ++ one.added)
    (left_of g.K.Sink.taken
    (team_of c.finish_in_time.new.pace c.finish_in_time.new.heap c.finish_in_time.new.book)
    c.step_for_birth.new.book c.step_for_birth.new.log c.finish_in_time.new.log)) c.step_for_birth.ensures.rate
    (c.finish_in_time.ensures.applied settings ((turns ++ turn ∷ []) ++ one.added) one.driven) in
    let three = c.begin_in_time.ensures.applied settings
    (((turns ++ turn ∷ []) ++ one.added) ++ two.added) two.driven in
    all-next one refl refl (all-next two refl refl (all-next three refl refl (all-none three.driven)))

pub returns-clause-kept : goal.returns-clause-kept
returns-clause-kept g c =
    keeps-trans (keeps-trans c.step_for_birth.ensures.kept c.finish_in_time.ensures.kept) c.begin_in_time.ensures.kept
