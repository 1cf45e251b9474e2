use Rattle.std.proofs.Common.{ℕ, ◌≡◌, Bool, true, false, List, Some, None, get_or, sym, ap, ◌∙◌, arith}
use Rattle.std.proofs.lemmas.List.{get_or_past}
use Rattle.mm_sets.specs.Set.{members}
use Rattle.mm_model.specs.Places.SizeClass.{extent_of, extent_of_size, area_bytes}
use Rattle.mm_roots.specs.declared.area_shape.AreaShape.{AreaShape}
use Rattle.mm_roots.specs.Kept.{AreaRows, areas_told, is_free, is_scanned, cells_in}
use Rattle.mm_roots.proofs.Tables.{length-areas_told, get_or-areas_told, area_told-taken, area_told-free}
use Rattle.mm_roots.proofs.area_table.AreaTable.area.Goals as goal

pub returns-then-number-ge-MOST_AREAS : goal.returns-then-number-ge-MOST_AREAS
returns-then-number-ge-MOST_AREAS c =
    let words = c.self.inside.words.words in
    sym (ap (λ (r : AreaRows). get_or r.areas c.args.number None) (sym c.self.view_is)
    ∙ get_or_past (areas_told words) c.args.number None
    (omega (arith, length-areas_told words, c.if-number-ge-MOST_AREAS.true)))

pub returns-then-contains : goal.returns-then-contains
returns-then-contains c =
    let words = c.self.inside.words.words in
    let free : is_free words c.args.number ≡ true =
    sym (c.contains.ensures ∙ ap (λ (ws : List ℕ). members ws c.args.number) c.part-free.ensures)
    ∙ c.if-contains.true in
    sym (ap (λ (r : AreaRows). get_or r.areas c.args.number None) (sym c.self.view_is)
    ∙ get_or-areas_told words c.args.number None (omega (arith, c.if-number-ge-MOST_AREAS.false))
    ∙ area_told-free words c.args.number free)

-- the shape of its parts
told : {scanned s : Bool} {counted k cells n base b extent : ℕ} → scanned ≡ s → counted ≡ k → cells ≡ n → base ≡ b
    → extent ≡ extent_of (area_bytes n)
    → ◌≡◌ {A = AreaShape}
    (record { scanned = scanned; counted = counted; cells = cells; base = base; extent = extent })
    (record { scanned = s; counted = k; cells = n; base = b; extent = extent_of (area_bytes n) })
told scanned counted cells base extent = cc

pub returns : goal.returns
returns c =
    let words = c.self.inside.words.words in
    let number = c.args.number in
    let taken : is_free words number ≡ false =
    sym (c.contains.ensures ∙ ap (λ (ws : List ℕ). members ws number) c.part-free.ensures) ∙ c.if-contains.false in
    let scanned : c.contains-2.result ≡ is_scanned words number =
    c.contains-2.ensures ∙ ap (λ (ws : List ℕ). members ws number) c.part.ensures in
    let extent : c.extent_of.result ≡ extent_of (area_bytes (cells_in words number)) =
    c.extent_of.ensures.value ∙ ap extent_of_size c.class_of.ensures.value
    ∙ ap (λ n. extent_of (area_bytes n)) c.get-cells.ensures in
    ap Some (told scanned c.get.ensures c.get-cells.ensures c.get-2.ensures extent)
    ∙ sym (ap (λ (r : AreaRows). get_or r.areas number None) (sym c.self.view_is)
    ∙ get_or-areas_told words number None (omega (arith, c.if-number-ge-MOST_AREAS.false))
    ∙ area_told-taken words number taken)
