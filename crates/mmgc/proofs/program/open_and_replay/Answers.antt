use Rattle.std.proofs.Common.{rules, refl, inl, inr, option_map}
use Rattle.mmgc.proofs.Serving.{asked_name, serves-opened}
use Rattle.mmgc.proofs.program.open_and_replay.Goals as goal

pub returns-in-Ok-clause-served : goal.returns-in-Ok-clause-served
returns-in-Ok-clause-served g c =
    let opened = c.in-Ok.ensures in
    serves-opened (record { settings = c.args.settings; extras = c.args.extras })
    (option_map (λ name. name.now) c.args.file)
    (g.S.Source.named c.args.source.now) (g.S.Source.left c.args.source.now) (g.S.Source.faults c.args.source.now)
    _ c.replay.result _ opened.same_file opened.opened opened.faults.unraised c.replay.ensures.served

pub returns-in-Err-NoMemory-clause-served : goal.returns-in-Err-NoMemory-clause-served
returns-in-Err-NoMemory-clause-served g c =
    inl (record {
      status = c.no_memory.ensures.status;
      no_heap = c.no_memory.ensures.heap;
      text = c.no_memory.ensures.said;
      unread = inl c.in-Err-NoMemory.ensures.refused;
      unwritten = record { taken = refl; faults = refl };
    })

pub returns-in-Err-Failed-clause-served : goal.returns-in-Err-Failed-clause-served
returns-in-Err-Failed-clause-served g c =
    let failed = c.in-Err-Failed.ensures in
    inr (inl (record {
      replays = refl;
      asked = asked_name c.args.file failed.asked;
      end = c.end_unwritten-end.result;
      status = c.status.ensures;
      no_heap = refl;
      text = c.tell_end.ensures;
      cause = failed.faults.cause (search rules);
      unread = failed.refused;
      ends = c.end_unwritten-end.ensures.ends;
    }))
