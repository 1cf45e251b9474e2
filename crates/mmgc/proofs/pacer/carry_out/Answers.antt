use Rattle.std.proofs.Common.{Some, ap, refl, sym, ◌∙◌}
use mathlib.Core.Path.{subst₂}
use Rattle.std.specs.List.{sum_by}
use Rattle.mm_model.specs.Logs.Turns.{births_if}
use Rattle.mm_pace.specs.Recent.{extent_born}
use Rattle.mmgc.specs.Counting.{IsNoted}
use Rattle.mmgc.proofs.Pacing.Driven.{booked-next, driven-more, next_counts, next_reply, next_step, next_turn}
use Rattle.mmgc.proofs.Pacing.Driven.{running-shown, taken, team_in_use}
use Rattle.mmgc.proofs.Pacing.Extents.{at_most}
use Rattle.mmgc.proofs.Pacing.Noted.{counts-more}
use Rattle.mmgc.proofs.pacer.carry_out.Goals as goal

pub execute_booked-reply-requires-clause-in_use : goal.execute_booked-reply-requires-clause-in_use
execute_booked-reply-requires-clause-in_use g c = team_in_use c.requires.ready

pub returns-clause-driven : goal.returns-clause-driven
returns-clause-driven g c settings turns d =
    let done = c.execute_booked-reply.ensures.carried.0 in
    let same = c.execute_booked-reply.ensures.carried.1 in
    let turn = next_turn (taken d) done in
    let state = d.carried.state in
    let step = next_step (taken d) done in
    let counts = counts-more
    (record { runs = c.begin_begins_a_cycle.ensures.runs; reply = c.begin_begins_a_cycle.ensures.reply })
    (record {
      since = c.bytes_and_work_are_counted_on.ensures.since;
      work = c.bytes_and_work_are_counted_on.ensures.work;
    })
    turns turn step.step c.args.pace.now c.note.new.pace c.work_to_begin-work.result c.bytes_born.result d.counts
    (subst₂
    (λ ran runs. IsNoted ran runs c.work_to_begin-work.result c.bytes_born.result c.args.pace.now c.note.new.pace)
    (c.running-ran.ensures ∙ running-shown c.args.heap.now state d.carried.shows)
    (c.running.ensures ∙ running-shown c.execute_booked-reply.new.heap turn.after step.shows) c.note.ensures)
    (λ is idle. c.work_to_begin-work.ensures state d.carried.good d.carried.shows is idle)
    (c.bytes_born.ensures.bytes state
    ∙ ap (λ reply. sum_by extent_born (births_if state c.args.command.now reply))
    (sym (next_reply (taken d) done ∙ ap (λ reply. Some reply) same)))
    (next_counts (taken d) done).commands (at_most c.bytes_born.result c.bytes_born.ensures.extent) in
    record {
      turn = turn;
      command_is = refl;
      driven = driven-more d done counts;
      books = booked-next (taken d) done c.args.book.now c.execute_booked-reply.new.book
          c.execute_booked-reply.ensures.carried.2;
      written = done.written;
    }
