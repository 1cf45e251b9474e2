use Rattle.std.proofs.Common.{List, ap, ◌∙◌}
use Rattle.mm_model.specs.declared.line.Line.{Line}
use Rattle.mm_model.specs.After.{freed_bases}
use Rattle.mm_sites.specs.Entries.{without}
use Rattle.mm_sited.proofs.execute.execute_sited.Goals as goal

pub returns-clause-executed : goal.returns-clause-executed
returns-clause-executed g c =
    let step = c.execute.ensures.step in
    let was = step.told.was in
    record {
      executes = record {
        before_reply = step.before_reply;
        row = step.row;
        step = step.step;
        told = record {
          told = step.told.told;
          was = was.2;
          lines_are = step.told.lines_are;
          words_are = step.told.words_are;
        };
      };
      left = was.3
          ∙ ap (λ (log : List Line). without c.args.sited.now.sites.now (freed_bases log)) step.told.lines_are;
    }

pub returns-clause-same_journal : goal.returns-clause-same_journal
returns-clause-same_journal g c = c.execute.ensures.step.told.was.0

pub returns-clause-same_sites : goal.returns-clause-same_sites
returns-clause-same_sites g c = c.execute.ensures.step.told.was.1
