use Rattle.std.proofs.Common.{refl, inl, inr, subst, sym}
use Rattle.mm_laws.proofs.Turning.Faithful.{legal_log_is_faithful}
use Rattle.mm_model.specs.declared.settings.Settings.{Settings}
use Rattle.mmgc.specs.Appending.{IsReadyFor}
use Rattle.mmgc.specs.Run.{Replayed, commands_in}
use Rattle.mmgc.proofs.Pacing.InTime.{in_time}
use Rattle.mmgc.proofs.program.replay.Goals as goal

pub carry_out-end-requires-clause-new : goal.carry_out-end-requires-clause-new
carry_out-end-requires-clause-new g c = (
  c.args.extras.rate,
  c.args.settings,
  record {
    heap = record { limits = c.requires.settings; shows = c.in-Ok.ensures.shows };
    pace = c.in-Ok.ensures.fresh;
    book = c.in-Ok.ensures.blank;
  },
)

pub carry_out-end-requires-clause-ready : goal.carry_out-end-requires-clause-ready
carry_out-end-requires-clause-ready g c =
    subst (λ (s : Settings). IsReadyFor s.max c.in-Ok.appendix) (sym c.in-Ok.ensures.shows.settings)
    c.in-Ok.ensures.ready

pub returns-in-Err-clause-served : goal.returns-in-Err-clause-served
returns-in-Err-clause-served g c =
    inl (record {
      status = c.no_memory.ensures.status;
      no_heap = c.no_memory.ensures.heap;
      text = c.no_memory.ensures.said;
      unread = inl refl;
      unwritten = record { taken = refl; faults = refl };
    })

pub returns-in-Ok-clause-served : goal.returns-in-Ok-clause-served
returns-in-Ok-clause-served g c =
    let source = c.carry_out-end.new.source in
    let out = c.carry_out-end.new.out in
    let replayed = subst (λ extras. Replayed c.carry_out-end.result
    (record { settings = c.args.settings; extras = extras })
    (record {
      left = g.S.Source.left c.args.source.now;
      left_after = g.S.Source.left source;
      faults = g.S.Source.faults c.args.source.now;
      faults_after = g.S.Source.faults source;
    })
    (record {
      taken = g.K.Sink.taken c.args.out.now;
      taken_after = g.K.Sink.taken out;
      passed_after = g.K.Sink.passed out;
      faults = g.K.Sink.faults c.args.out.now;
      faults_after = g.K.Sink.faults out;
    }) c.carry_out-end.new.heap) c.in-Ok.ensures.asked
    (c.carry_out-end.ensures.replayed c.args.extras.rate c.args.settings
    (record {
      heap = record { limits = c.requires.settings; shows = c.in-Ok.ensures.shows };
      pace = c.in-Ok.ensures.fresh;
      book = c.in-Ok.ensures.blank;
    })) in
    inr (inr (inl (record {
      replays = refl;
      end = c.carry_out-end.result;
      heap = c.carry_out-end.new.heap;
      bytes = g.S.Source.left c.args.source.now;
      input = refl;
      status = c.status.ensures;
      heap_back = refl;
      text = c.tell_end.ensures;
      replayed = replayed;
      faithful = legal_log_is_faithful c.args.settings replayed.commands replayed.groups replayed.state
          c.requires.settings.growing replayed.legal;
      in_time = in_time c.cycles_end_in_time.ensures c.args.extras.rate c.args.settings (commands_in replayed.reach)
          replayed.groups replayed.commands replayed.state c.requires.settings.growing replayed.carried replayed.legal;
    })))
