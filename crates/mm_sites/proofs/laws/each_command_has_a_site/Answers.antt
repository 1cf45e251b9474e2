-- The lemma says it.
use Rattle.std.proofs.Common.{[]}
use Rattle.mm_model.specs.Logs.Trace.{lines_of}
use Rattle.mm_sites.proofs.Parallel.{commands_have_sites}
use Rattle.mm_sites.proofs.laws.each_command_has_a_site.Goals as goal

pub returns : goal.returns
returns c = record {
  lines = λ n lines. commands_have_sites n [] lines;
  trace = λ bytes. commands_have_sites 1 [] (lines_of bytes);
}
