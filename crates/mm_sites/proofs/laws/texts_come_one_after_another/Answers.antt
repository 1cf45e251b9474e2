-- One more number stands at the end of those below.
use Rattle.std.proofs.Common.{◌∙◌, ap, refl}
use Rattle.std.specs.List.{flat_map}
use Rattle.std.proofs.lemmas.List.{append-nil}
use Rattle.std.proofs.lemmas.Grind.{flat_map-append}
use Rattle.std.specs.List.{range_with_len}
use Rattle.std.specs.Prelude.{ℕ, List, ◌∷◌, [], ◌++◌}
use Rattle.mm_sites.specs.Text.{site_text, texts_below}
use Rattle.mm_sites.proofs.Texts.{range-more}
use Rattle.mm_sites.proofs.laws.texts_come_one_after_another.Goals as goal

pub returns : goal.returns
returns c = record {
  none = λ total_at. refl;
  one_more = λ total_at site.
      ap (flat_map (λ n. site_text n (total_at n))) (range-more site)
      ∙ flat_map-append (λ n. site_text n (total_at n)) (range_with_len 0 site) (site ∷ [])
      ∙ ap (λ (xs : List ℕ). texts_below total_at site ++ xs) (append-nil (site_text site (total_at site)));
  all = λ total_at. refl;
}
