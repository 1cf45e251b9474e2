-- The entries follow one call after another.
use Rattle.std.specs.Prelude.{◌≡◌, List, ◌++◌, map}
use Rattle.std.proofs.Common.{sym, ap, ◌∙◌}
use Rattle.std.proofs.lemmas.Grind.{fold-append}
use Rattle.std.proofs.lemmas.List.{map-append}
use Rattle.mm_model.specs.declared.line.Line.{Line}
use Rattle.mm_model.specs.After.{freed_bases}
use Rattle.mm_model.proofs.Steps.Groups.{freed_bases-append}
use Rattle.mm_sites.specs.Entries.{EntriesByBase, without_one, without}
use Rattle.mm_sweep.specs.Told.{Told, line_told}
use Rattle.mm_sited.specs.Taking.{without_freed}

pub without_freed-on : (first next last : EntriesByBase) (earlier later : List Told) → next ≡ without_freed first earlier
    → last ≡ without_freed next later → last ≡ without_freed first (earlier ++ later)
without_freed-on first next last earlier later e f =
    let sooner = map line_told earlier in
    let after = map line_told later in
    f ∙ ap (λ (entries : EntriesByBase). without entries (freed_bases after)) e
    ∙ sym (fold-append without_one first (freed_bases sooner) (freed_bases after))
    ∙ ap (without first) (sym (freed_bases-append sooner after))
    ∙ ap (λ (log : List Line). without first (freed_bases log)) (sym (map-append line_told earlier later))
