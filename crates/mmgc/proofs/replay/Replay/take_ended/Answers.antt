use Rattle.std.proofs.Common.{◌≡◌, ◌+◌, ◌++◌, eqb-true, refl, sym, ap, ◌∙◌, arith}
use Rattle.std.proofs.lemmas.List.{nil_from_length}
use Rattle.mmgc.specs.Logging.{kept_by}
use Rattle.mmgc.proofs.Replays.{has_room, goes-on-line, on_ok_always, noted_driver, unmoved}
use Rattle.mmgc.proofs.replay.Replay.take_ended.Goals as goal

pub overflow_add-self : goal.overflow_add-self
overflow_add-self g c =
    let room = has_room c.a_trace_is_at_most_quadrupled.ensures c.requires.room in omega (arith, room.lines)

pub take_whole_line-requires : goal.take_whole_line-requires
take_whole_line-requires g c = (has_room c.a_trace_is_at_most_quadrupled.ensures c.requires.room).ready

pub take_joined-requires : goal.take_joined-requires
take_joined-requires g c = (has_room c.a_trace_is_at_most_quadrupled.ensures c.requires.room).ready

-- nothing was held, so the line is whole
pub returns-then-is_empty-clause-progress : goal.returns-then-is_empty-clause-progress
returns-then-is_empty-clause-progress g c start bytes room p =
    let none = nil_from_length c.args.self.now.cutter (eqb-true _ _ (sym c.is_empty.ensures ∙ c.if-is_empty.true)) in
    let whole : c.args.line.now ≡ c.args.self.now.cutter ++ c.args.line.now =
    ap (λ held. held ++ c.args.line.now) (sym none) in
    goes-on-line (record {
      command = c.sites_of_lines_come_one_after_another.ensures.command;
      passed_over = c.sites_of_lines_come_one_after_another.ensures.passed_over;
      fault = c.sites_of_lines_come_one_after_another.ensures.fault;
      site = c.sites_of_lines_come_one_after_another.ensures.site;
      named = c.lines_of_sites_are_passed_over.ensures;
    })
    (λ same. (unmoved same.0 same.1, ap (kept_by g.K.Sink.taken) same.2)) p c.take_whole_line.result
    c.args.line.now c.args.self.now.cutter (c.args.self.now.lines + 1)
    (λ over. (noted_driver c.args.self.now.executor (c.args.self.now.cutter ++ c.args.line.now) over.0 over.1, ap (kept_by g.K.Sink.taken) over.2)) c.requires.within
    (on_ok_always c.take_whole_line.result none) refl (rw whole at c.take_whole_line.ensures.done)

pub returns-clause-progress : goal.returns-clause-progress
returns-clause-progress g c start bytes room p =
    let did = c.take_joined.ensures in
    goes-on-line (record {
      command = c.sites_of_lines_come_one_after_another.ensures.command;
      passed_over = c.sites_of_lines_come_one_after_another.ensures.passed_over;
      fault = c.sites_of_lines_come_one_after_another.ensures.fault;
      site = c.sites_of_lines_come_one_after_another.ensures.site;
      named = c.lines_of_sites_are_passed_over.ensures;
    })
    (λ same. (unmoved same.0 same.1, ap (kept_by g.K.Sink.taken) same.2)) p c.take_joined.result
    c.args.line.now c.take_joined.new.self.cutter c.take_joined.new.self.lines
    (λ over. (noted_driver c.args.self.now.executor (c.args.self.now.cutter ++ c.args.line.now) over.0 over.1, ap (kept_by g.K.Sink.taken) over.2)) c.requires.within
    did.cutter did.lines did.done
