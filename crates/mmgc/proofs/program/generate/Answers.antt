use Rattle.std.proofs.Common.{refl, inl, inr}
use Rattle.mm_laws.proofs.Turning.Faithful.{legal_log_is_faithful}
use Rattle.mmgc.specs.Generator.{commands_of}
use Rattle.mmgc.proofs.program.generate.Goals as goal

pub carry_out_generated-end-requires-clause-heap : goal.carry_out_generated-end-requires-clause-heap
carry_out_generated-end-requires-clause-heap g c =
    (c.args.settings, record { limits = c.requires.settings; shows = c.in-Ok.ensures })

pub returns-in-Err-clause-served : goal.returns-in-Err-clause-served
returns-in-Err-clause-served g c file extras named input unread =
    inl (record {
      status = c.no_memory.ensures.status;
      no_heap = c.no_memory.ensures.heap;
      text = c.no_memory.ensures.said;
      unread = inl unread.left;
      unwritten = record { taken = refl; faults = refl };
    })

pub returns-in-Ok-clause-served : goal.returns-in-Ok-clause-served
returns-in-Ok-clause-served g c file extras named input unread =
    let generated = c.carry_out_generated-end.ensures.generated c.args.settings
    (record { limits = c.requires.settings; shows = c.in-Ok.ensures }) in
    inr (inr (inr (record {
      trace = c.args.trace;
      generates = refl;
      end = c.carry_out_generated-end.result;
      heap = c.carry_out_generated-end.new.heap;
      unread = unread;
      status = c.status.ensures;
      heap_back = refl;
      text = c.tell_end.ensures;
      generated = generated;
      faithful = legal_log_is_faithful c.args.settings (commands_of c.args.trace) generated.whole.groups generated.state
          c.requires.settings.growing generated.whole.legal;
    })))
