use Rattle.std.proofs.Common.{ap, ◌∙◌, map}
use Rattle.mm_model.proofs.Lists.Keyed.{refuted}
use Rattle.clap.specs.Words.{is_simple, matches_of, takes}
use Rattle.mmgc.specs.Words.{values_in, mmgc_app}
use Rattle.mmgc.proofs.Reading.{simple}
use Rattle.mmgc.proofs.words.values_by_command.Goals as goal

pub returns-in-Ok-clause-given : goal.returns-in-Ok-clause-given
returns-in-Ok-clause-given c =
    let words = map (λ word. word.now) c.args.list.now in
    c.of.ensures ∙ ap values_in ((c.in-Ok.ensures.matches (ap is_simple c.requires ∙ simple)).0
    ∙ ap (λ app. matches_of app words) c.requires)

pub returns-in-Err-clause-refused : goal.returns-in-Err-clause-refused
returns-in-Err-clause-refused c refused =
    let words = map (λ word. word.now) c.args.list.now in
    refuted (takes mmgc_app words) (λ taken.
    let memory = c.fault_of.ensures (c.in-Err.ensures.passes (ap (λ app. takes app words) c.requires ∙ taken)) in
    cc (memory, refused))
