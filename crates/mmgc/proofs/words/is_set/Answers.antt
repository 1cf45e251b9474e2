use Rattle.std.proofs.Common.{List, ℕ, Option, false, ap, ◌∙◌, sym}
use Rattle.std.specs.Option.{option_map, option_map_or}
use Rattle.std.specs.Str.{bytes_eq}
use Rattle.std.specs.Prelude.{codes}
use Rattle.clap.specs.Words.{Text, found_of}
use Rattle.clap.proofs.WalkLemmas.{first_value-rows}
use Rattle.mmgc.proofs.words.is_set.Goals as goal

pub returns-in-Some : goal.returns-in-Some
returns-in-Some c =
    let is_true = λ (found : Option Text). option_map_or (λ (text : Text). bytes_eq text (codes "true")) found false in
    c.eq.ensures ∙ ap (λ found. is_true (option_map (λ text. text.now) found)) (sym c.in-Some.is)
    ∙ ap is_true (c.get_str.ensures ∙ first_value-rows (found_of c.args.matches.now) c.args.name.now)

pub returns-in-None : goal.returns-in-None
returns-in-None c =
    let is_true = λ (found : Option Text). option_map_or (λ (text : Text). bytes_eq text (codes "true")) found false in
    ap (λ found. is_true (option_map (λ text. text.now) found)) (sym c.in-None.is)
    ∙ ap is_true (c.get_str.ensures ∙ first_value-rows (found_of c.args.matches.now) c.args.name.now)
