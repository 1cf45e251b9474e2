use Rattle.std.proofs.Common.{◌≡◌, ◌⊎◌, ⊎_elim, false, refl, ap, ◌∙◌}
use Rattle.mm_model.specs.declared.object.Kind.{Kind}
use Rattle.mm_model.specs.declared.object.Kind.TheVariants.{Traced, Leaf, Weak}
use Rattle.mm_model.specs.Object.{is_counted}
use Rattle.mm_count.proofs.Null.{keeps-same}
use Rattle.mm_count.proofs.Newborn.{listed-uncounted}
use Rattle.mm_gc.proofs.search.enter_newborn.Goals as goal

uncounted : (kind : Kind) → (kind ≡ Traced) ⊎ ((kind ≡ Leaf) ⊎ (kind ≡ Weak)) → is_counted kind ≡ false
uncounted kind =
    ⊎_elim (λ (e : kind ≡ Traced). ap is_counted e)
    (⊎_elim (λ (e : kind ≡ Leaf). ap is_counted e) (λ (e : kind ≡ Weak). ap is_counted e))

pub returns-in-Traced : goal.returns-in-Traced
returns-in-Traced g c =
    let o = c.requires.object in
    record {
      right = c.requires.right;
      counts = λ outside counted. counted;
      listed = listed-uncounted c.args.heap.now.objects c.args.base o.object o.begins
          (ap is_counted o.kind_is ∙ uncounted c.args.kind c.in-Traced.is) c.requires.listed;
      unpinned = λ none. none;
      objects = keeps-same c.args.heap.now.objects;
      rest = refl;
      views = refl;
      table = refl;
      sound = c.requires.sound;
    }
