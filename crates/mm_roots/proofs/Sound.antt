-- Areas stay sound as one is added or removed, and own all blocks.
use Rattle.std.proofs.Common.{◌≡◌, ◌≢◌, ℕ, ◌*◌, ◌/◌, ◌<◌, inl, inr, List, length, Option, Some}
use Rattle.std.proofs.Common.{None, sym, ap, ◌∙◌, subst, arith}
use Rattle.std.proofs.lemmas.Bool.{cases_eq, cases_lt}
use Rattle.std.proofs.lemmas.List.{get_or-set_same, get_or-set_other, get_or_past, length-set}
use Rattle.mm_model.specs.Areas.{most_areas}
use Rattle.mm_model.specs.Views.ByBase.{Begins, with_entry}
use Rattle.mm_fixed.specs.Fixed.{Fixed, Block, block_parked, HasNoBlockAt, IsSoundFixed}
use Rattle.mm_roots.specs.declared.area_shape.AreaShape.{AreaShape}
use Rattle.mm_roots.specs.Areas.{Areas, area_at, with_area, over, IsAreaShape, IsSoundAreas, OwnsAll}
use Rattle.mm_roots.proofs.Blocks.{begins-other, other-begins, begins-one, begins-none}

pub area_at-same : (a : Areas) (number : ℕ) (area : Option AreaShape) → number < length a.areas →
    area_at (with_area a number area) number ≡ area
area_at-same a number area within = get_or-set_same a.areas number area None within

pub area_at-other : (a : Areas) (number other : ℕ) (area : Option AreaShape) → other ≢ number →
    area_at (with_area a number area) other ≡ area_at a other
area_at-other a number other area apart = get_or-set_other a.areas number other area None apart

-- an area's number is below the greatest
pub area_at-below : (a : Areas) (number : ℕ) (area : AreaShape) → IsSoundAreas a → area_at a number ≡ Some area →
    number < most_areas
area_at-below a number area sound lives = elim (cases_lt number most_areas) [
  | inl below ↦ below
  | inr past ↦ absurd (cc (lives, get_or_past a.areas number None (omega (arith, sound.entries))))
]

-- an area is added with a new block
pub record IsNewBlock (before after : Fixed) (base : ℕ) (block : Block) : Type 0 where
  pub sound : IsSoundFixed after
  pub there : Begins after.blocks base block
  pub vacant : HasNoBlockAt before base
  pub entries : after.blocks ≡ with_entry base (Some block) before.blocks

module _ (a : Areas) (sound : IsSoundAreas a) (fixed : Fixed) (number : ℕ) (area : AreaShape) where
  module _ (below : number < most_areas) (free : area_at a number ≡ None) (allowed : IsAreaShape area)
      (new : IsNewBlock a.fixed fixed area.base (block_parked area.extent)) where
    abbrev added : Areas
    added = with_area (over fixed a) number (Some area)

    here : area_at added number ≡ Some area
    here = area_at-same (over fixed a) number (Some area) (omega (arith, sound.entries))

    elsewhere : (other : ℕ) → other ≢ number → area_at added other ≡ area_at a other
    elsewhere other apart = area_at-other (over fixed a) number other (Some area) apart

    aligned : area.base ≡ 16 * (area.base / 16)
    aligned = omega (arith, new.there.aligned)

    -- an older area has another base
    older : (other : ℕ) (another : AreaShape) → area_at a other ≡ Some another → another.base ≢ area.base
    older other another lives same =
        new.vacant (block_parked another.extent)
        (subst (λ (base : ℕ). Begins a.fixed.blocks base (block_parked another.extent)) same
        (sound.blocks other another lives))

    pub added-sound : IsSoundAreas added
    added-sound = record {
      entries = length-set a.areas number (Some area) ∙ sound.entries;
      fixed = new.sound;
      shapes = λ k shape lives. elim (cases_eq k number) [
        | inl same ↦ subst IsAreaShape (told k shape lives same) allowed
        | inr apart ↦ sound.shapes k shape (sym (elsewhere k apart) ∙ lives)
      ];
      blocks = λ k shape lives. elim (cases_eq k number) [
        | inl same ↦
            subst (λ (s : AreaShape). Begins fixed.blocks s.base (block_parked s.extent)) (told k shape lives same)
            new.there
        | inr apart ↦
            let old = sym (elsewhere k apart) ∙ lives in
            subst (λ (entries : List (Option Block)). Begins entries shape.base (block_parked shape.extent))
            (sym new.entries)
            (begins-other a.fixed.blocks area.base shape.base (Some (block_parked area.extent))
            (block_parked shape.extent) aligned (older k shape old) (sound.blocks k shape old))
      ];
      bases = λ k other shape another lives other_lives apart. elim (cases_eq k number) [
        | inl same ↦
            let old = sym (elsewhere other (λ e. apart (omega arith))) ∙ other_lives in
            let is = told k shape lives same in
            λ e. older other another old (sym (ap (λ (s : AreaShape). s.base) is ∙ e))
        | inr old_one ↦ elim (cases_eq other number) [
          | inl same ↦
              let old = sym (elsewhere k old_one) ∙ lives in
              let is = told other another other_lives same in
              λ e. older k shape old (e ∙ sym (ap (λ (s : AreaShape). s.base) is))
          | inr old_other ↦
              sound.bases k other shape another (sym (elsewhere k old_one) ∙ lives)
              (sym (elsewhere other old_other) ∙ other_lives) apart
        ]
      ];
    }
      where
        told : (k : ℕ) (shape : AreaShape) → area_at added k ≡ Some shape → k ≡ number → area ≡ shape
        told k shape lives same = let both = sym here ∙ sym (ap (area_at added) same) ∙ lives in cc

    pub added-owns : OwnsAll a → OwnsAll added
    added-owns owns base block begins = elim (cases_eq base area.base) [
      | inl same ↦
          let at_base = subst (λ (b : ℕ). Begins fixed.blocks b block) same begins in
          record {
            number = number;
            area = area;
            lives = here;
            at = sym same;
            parked = begins-one fixed.blocks area.base block (block_parked area.extent) at_base new.there;
          }
      | inr apart ↦
          let old = owns base block (other-begins a.fixed.blocks area.base base (Some (block_parked area.extent)) block
          aligned apart (subst (λ (entries : List (Option Block)). Begins entries base block) new.entries begins)) in
          record {
            number = old.number;
            area = old.area;
            lives = elsewhere old.number (λ same. absurd (cc (ap (area_at a) same, free, old.lives))) ∙ old.lives;
            at = old.at;
            parked = old.parked;
          }
    ]

  -- an area is removed with its block
  module _ (lives : area_at a number ≡ Some area) (after : IsSoundFixed fixed)
      (entries : fixed.blocks ≡ with_entry area.base None a.fixed.blocks) where
    abbrev removed : Areas
    removed = with_area (over fixed a) number None

    there : Begins a.fixed.blocks area.base (block_parked area.extent)
    there = sound.blocks number area lives

    gone : area_at removed number ≡ None
    gone = area_at-same (over fixed a) number None
        (omega (arith, sound.entries, area_at-below a number area sound lives))

    kept : (other : ℕ) → other ≢ number → area_at removed other ≡ area_at a other
    kept other apart = area_at-other (over fixed a) number other None apart

    -- an area that is left was there
    left : (other : ℕ) (shape : AreaShape) → area_at removed other ≡ Some shape →
        (other ≢ number) × (area_at a other ≡ Some shape)
    left other shape there = elim (cases_eq other number) [
      | inl same ↦ absurd (cc (ap (area_at removed) same, gone, there))
      | inr apart ↦ (apart, sym (kept other apart) ∙ there)
    ]

    pub removed-sound : IsSoundAreas removed
    removed-sound = record {
      entries = length-set a.areas number None ∙ sound.entries;
      fixed = after;
      shapes = λ k shape there. sound.shapes k shape (left k shape there).1;
      blocks = λ k shape told.
          let old = left k shape told in
          subst (λ (blocks : List (Option Block)). Begins blocks shape.base (block_parked shape.extent)) (sym entries)
          (begins-other a.fixed.blocks area.base shape.base None (block_parked shape.extent)
          (omega (arith, there.aligned)) (sound.bases k number shape area old.1 lives old.0)
          (sound.blocks k shape old.1));
      bases = λ k other shape another one two apart.
          sound.bases k other shape another (left k shape one).1 (left other another two).1 apart;
    }

    pub removed-owns : OwnsAll a → OwnsAll removed
    removed-owns owns base block begins =
        let told = subst (λ (blocks : List (Option Block)). Begins blocks base block) entries begins in
        elim (cases_eq base area.base) [
          | inl same ↦
              absurd (begins-none a.fixed.blocks area.base (block_parked area.extent) block there
              (subst (λ (b : ℕ). Begins (with_entry area.base None a.fixed.blocks) b block) same told))
          | inr apart ↦
              let old = owns base block
              (other-begins a.fixed.blocks area.base base None block (omega (arith, there.aligned)) apart told) in
              record {
                number = old.number;
                area = old.area;
                lives =
                    kept old.number (λ same.
                    let both = sym lives ∙ ap (area_at a) (sym same) ∙ old.lives in
                    let shape : area ≡ old.area = cc in
                    apart (sym old.at ∙ sym (ap (λ (s : AreaShape). s.base) shape)))
                    ∙ old.lives;
                at = old.at;
                parked = old.parked;
              }
        ]
