use Rattle.std.proofs.Common.{eqb-true, false, List, ◌≡◌, ℕ, ◌+◌, ◌<◌, length, refl, sym, ap, ◌∙◌, arith}
use Rattle.std.proofs.lemmas.Bool.Decides.{nat_tests}
use Rattle.std.proofs.lemmas.List.{nil_from_length}
use Rattle.std.specs.Prelude.{◌==◌}
use Rattle.mmgc.specs.Logging.{kept_by}
use Rattle.mmgc.proofs.Replays.{has_room-held, goes-to-end, stopped-none, noted_driver, unmoved}
use Rattle.mmgc.proofs.replay.Replay.take_rest.Goals as goal

some_held : (held : List ℕ) → (length held == 0) ≡ false → 0 < length held
some_held held f = grind (arith, nat_tests)

-- nothing is held, so the lines are those that were read
pub returns-then-is_empty-clause-stopped : goal.returns-then-is_empty-clause-stopped
returns-then-is_empty-clause-stopped g c start bytes room p =
    stopped-none p (nil_from_length c.args.self.now.cutter
    (eqb-true _ _ (sym c.is_empty.ensures ∙ c.if-is_empty.true)))

pub overflow_add-self : goal.overflow_add-self
overflow_add-self g c =
    let some = some_held c.args.self.now.cutter (sym c.is_empty.ensures ∙ c.if-is_empty.false) in
    let room = has_room-held c.a_trace_is_at_most_quadrupled.ensures c.requires some in omega (arith, room.lines)

pub take_line-requires : goal.take_line-requires
take_line-requires g c =
    let some = some_held c.args.self.now.cutter (sym c.is_empty.ensures ∙ c.if-is_empty.false) in
    (has_room-held c.a_trace_is_at_most_quadrupled.ensures c.requires some).ready

pub returns-clause-stopped : goal.returns-clause-stopped
returns-clause-stopped g c start bytes room p =
    let some = some_held c.args.self.now.cutter (sym c.is_empty.ensures ∙ c.if-is_empty.false) in
    goes-to-end (record {
      command = c.sites_of_lines_come_one_after_another.ensures.command;
      passed_over = c.sites_of_lines_come_one_after_another.ensures.passed_over;
      fault = c.sites_of_lines_come_one_after_another.ensures.fault;
      site = c.sites_of_lines_come_one_after_another.ensures.site;
      named = c.lines_of_sites_are_passed_over.ensures;
    })
    (λ same. (unmoved same.0 same.1, ap (kept_by g.K.Sink.taken) same.2))
    p c.take_line.result (λ over. (noted_driver c.args.self.now.executor c.args.self.now.cutter over.0 over.1, ap (kept_by g.K.Sink.taken) over.2)) some (c.args.self.now.lines + 1) refl (rw c.bytes.ensures.value at c.take_line.ensures.done)
