-- Cells that become white, page by page.
use Rattle.std.proofs.Common.{◌≡◌, ℕ, ◌+◌, ◌*◌, ◌≤◌, length, map, inl, inr, refl, arith}
use Rattle.std.proofs.Common.{sym, ◌∙◌, ap, subst}
use Rattle.std.specs.Prelude.{None}
use Rattle.std.proofs.Math.ListN.{get_or-map}
use Rattle.std.proofs.lemmas.Bool.{cases_lt}
use Rattle.std.proofs.lemmas.List.{ext_get_or, length-map}
use Rattle.mm_cells.specs.Cells.{Cells, IsSoundCells}
use Rattle.mm_cells.specs.Looking.{whitened, all_white, Whitens}

pub Whitens-refl : (v : Cells) → Whitens v v 0 0
Whitens-refl v = record {
  same = refl;
  size = refl;
  inside = λ grain reached below. absurd (omega arith);
  outside = λ grain out. refl;
}

pub Whitens-trans : (u v w : Cells) (middle to : ℕ) → middle ≤ to → Whitens u v 0 middle → Whitens v w middle to →
    Whitens u w 0 to
Whitens-trans u v w middle to ordered one two = record {
  same = two.same ∙ ap (λ (x : Cells). record x { taken = w.taken }) one.same;
  size = two.size ∙ one.size;
  inside = λ grain reached below. elim (cases_lt (16 * grain) middle) [
    | inl h ↦ two.outside grain (inl h) ∙ one.inside grain reached h
    | inr h ↦ two.inside grain h below ∙ ap whitened (one.outside grain (inr h))
  ];
  outside = λ grain out. elim out [
    | inl h ↦ absurd (omega arith)
    | inr h ↦ two.outside grain (inr h) ∙ one.outside grain (inr (omega arith))
  ];
}

pub Whitens-page : (u v w : Cells) (page : ℕ) → Whitens u v 0 (4096 * page) →
    Whitens v w (4096 * page) (4096 * page + 4096) → Whitens u w 0 (4096 * (page + 1))
Whitens-page u v w page one two =
    subst (λ (to : ℕ). Whitens u w 0 to) (let e : 4096 * page + 4096 ≡ 4096 * (page + 1) = omega arith in e)
    (Whitens-trans u v w (4096 * page) (4096 * page + 4096) (omega arith) one two)

pub all_white-Whitens : (v w : Cells) (to : ℕ) → IsSoundCells w → to ≡ 4096 * w.pages → Whitens v w 0 to →
    w ≡ all_white v
all_white-Whitens v w to sound all whitens =
    let size : length w.taken ≡ length (map whitened v.taken) = whitens.size ∙ sym (length-map v.taken whitened) in
    whitens.same ∙ ap (λ taken. record v { taken = taken })
    (ext_get_or None w.taken (map whitened v.taken) size (λ grain below.
    whitens.inside grain (omega arith) (omega (arith, sound.size))
    ∙ sym (get_or-map whitened v.taken grain None)))
