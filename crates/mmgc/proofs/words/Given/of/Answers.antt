use Rattle.std.proofs.Common.{◌∙◌, codes}
use Rattle.clap.specs.Words.{found_of}
use Rattle.clap.proofs.WalkLemmas.{first_value-rows}
use Rattle.mmgc.proofs.Reading.{values_same}
use Rattle.mmgc.proofs.words.Given.of.Goals as goal

pub returns : goal.returns
returns c =
    values_same
    (c.get_str.ensures ∙ first_value-rows (found_of c.args.matches.now) (codes "pages"))
    (c.get_str-2.ensures ∙ first_value-rows (found_of c.args.matches.now) (codes "max"))
    (c.get_str-3.ensures ∙ first_value-rows (found_of c.args.matches.now) (codes "zct"))
    (c.get_str-4.ensures ∙ first_value-rows (found_of c.args.matches.now) (codes "queue"))
    (c.get_str-5.ensures ∙ first_value-rows (found_of c.args.matches.now) (codes "stack"))
    (c.get_str-6.ensures ∙ first_value-rows (found_of c.args.matches.now) (codes "gen"))
    (c.get_str-7.ensures ∙ first_value-rows (found_of c.args.matches.now) (codes "count"))
    (c.get_str-8.ensures ∙ first_value-rows (found_of c.args.matches.now) (codes "why"))
    (c.get_str-9.ensures ∙ first_value-rows (found_of c.args.matches.now) (codes "pace"))
    c.is_set.ensures
    (c.get_str-10.ensures ∙ first_value-rows (found_of c.args.matches.now) (codes "FILE"))
