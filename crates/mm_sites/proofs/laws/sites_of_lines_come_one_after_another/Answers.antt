-- The lemmas say it.
use Rattle.std.proofs.Common.{[]}
use Rattle.mm_sites.proofs.OneMore.{site_after-more, sites_behind-fault, sites_of_lines-command}
use Rattle.mm_sites.proofs.OneMore.{sites_of_lines-passed, sites_of_lines-fault}
use Rattle.mm_sites.proofs.laws.sites_of_lines_come_one_after_another.Goals as goal

pub returns : goal.returns
returns c = record {
  command = sites_of_lines-command;
  passed_over = sites_of_lines-passed;
  fault = sites_of_lines-fault;
  behind_a_fault = λ n lines line fault stands. sites_behind-fault n [] lines line fault stands;
  site = site_after-more;
}
