-- What a tree shows, and that its parts do.
use Rattle.std.proofs.Common.{◌≡◌, ℕ, zero, suc, ◌+◌, ◌-◌, ◌*◌, ◌^◌, ◌<◌, ◌≤◌, Bool, true, false, List, slice_index}
use Rattle.std.proofs.Common.{arith, sym, ◌∙◌, ap, subst, refl}
use Rattle.std.proofs.Math.Nat.{pow-suc, pow-le-pow_right}
use Rattle.mm_pages.specs.declared.runs.Runs.{Runs}
use Rattle.mm_pages.specs.Free.{Marks, AllFree, beyond, Sums, TellsRuns, FitIn}
use Rattle.mm_pages.specs.Tree.{head_of, lower, upper, Shows, IsTree, HalvesShow, HalvesAreTrees}
use Rattle.mm_pages.proofs.Joins.{clash}

-- the runs of some pages are those of the same pages told by another test
pub Sums-same : (free free' : Marks) (span m l r : ℕ) → ((i : ℕ) → i < span → free i ≡ free' i) →
    Sums free span m l r → Sums free' span m l r
Sums-same free free' span m l r same s = record {
  none_longer = λ i n f w. s.none_longer i n (record { each = λ j a b. same j (omega arith) ∙ f.each j a b }) w;
  at = s.at;
  at_within = s.at_within;
  at_free = record { each = λ j a b. sym (same j (omega (arith, s.at_within))) ∙ s.at_free.each j a b };
  left_within = s.left_within;
  left_free = record { each = λ j a b. sym (same j (omega (arith, s.left_within))) ∙ s.left_free.each j a b };
  left_ends = λ h. sym (same l h) ∙ s.left_ends h;
  right_within = s.right_within;
  right_free = λ i e. record { each = λ j a b. sym (same j (omega arith)) ∙ (s.right_free i e).each j a b };
  right_ends = λ i e. sym (same i (omega arith)) ∙ s.right_ends i e;
}

pub Shows-head : (height : ℕ) (free : Marks) (words : List ℕ) → Shows free height words →
    TellsRuns free (2 ^ height) (head_of words)
Shows-head zero free words s = s
Shows-head (suc height) free words s = s.0

-- the same pages told by another test
pub Shows-same : (height : ℕ) (free free' : Marks) (words : List ℕ) →
    ((i : ℕ) → i < 2 ^ height → free i ≡ free' i) → Shows free height words → Shows free' height words
Shows-same zero free free' words same s = Sums-same free free' 1 _ _ _ same s
Shows-same (suc height) free free' words same s = (
  Sums-same free free' (2 ^ suc height) _ _ _ same s.0,
  (λ a b. Shows-same height free free' (lower height words) (λ i h. same i (omega (arith, pow-suc 2 height)))
      (s.1 a b)),
  (λ a b. Shows-same height (beyond (2 ^ height) free) (beyond (2 ^ height) free') (upper height words)
      (λ i h. same (2 ^ height + i) (omega (arith, pow-suc 2 height))) (s.2 a b)),
)

-- a run of pages that is as long as all of them
pub all_free : (free : Marks) (span m l r i : ℕ) → Sums free span m l r → m ≡ span → i < span → free i ≡ true
all_free free span m l r i s e h = s.at_free.each i (omega (arith, s.at_within)) (omega (arith, s.at_within))

-- no run at all
pub none_free : (free : Marks) (span m l r i : ℕ) → Sums free span m l r → m ≡ 0 → i < span → free i ≡ false
none_free free span m l r i s e h =
    elim (free i) as (λ b. free i ≡ b → free i ≡ false) [
      | false ↦ λ q. q
      | true ↦ λ q.
          let one : AllFree free i 1 = record {
            each = λ j a b. let same : i ≡ j = omega arith in
                subst (λ (x : ℕ). free x ≡ true) same q;
          } in
          absurd (omega (arith, s.none_longer i 1 one (omega arith)))
    ] refl

-- pages that are all alike are shown by one node
pub Shows-uniform : (height : ℕ) (free : Marks) (value : Bool) (words : List ℕ) →
    ((i : ℕ) → i < 2 ^ height → free i ≡ value) → TellsRuns free (2 ^ height) (head_of words) →
    Shows free height words
Shows-uniform zero free value words same s = s
Shows-uniform (suc height) free true words same s =
    let full : 2 ^ suc height ≤ slice_index words 0 =
    s.none_longer 0 (2 ^ suc height) (record { each = λ j a b. same j (omega arith) }) (omega arith) in
    (s, (λ a b. absurd (omega arith)), (λ a b. absurd (omega arith)))
Shows-uniform (suc height) free false words same s =
    let none : 0 < slice_index words 0 → ⊥ = λ a. clash (s.at_free.each s.at (omega arith) (omega arith))
    (same s.at (omega (arith, s.at_within))) in
    (s, (λ a b. absurd (none a)), (λ a b. absurd (none a)))

-- the runs among some pages are no longer than all of them
pub FitIn-told : (free : Marks) (span : ℕ) (r : Runs) → TellsRuns free span r → FitIn span r
FitIn-told free span r t = record {
  longest = omega (
    arith,
    t.at_within,
  );
  left = t.left_within;
  right = t.right_within;
}

pub FitIn-tree : (height n : ℕ) (r : Runs) (words : List ℕ) → n ≡ 2 ^ height → r ≡ head_of words →
    IsTree height words → FitIn n r
FitIn-tree height n r words e h t =
    subst (λ (x : ℕ). FitIn x r) (sym e) (subst (λ (x : Runs). FitIn (2 ^ height) x) (sym h)
    (FitIn-told t.free (2 ^ height) (head_of words) (Shows-head height t.free words t.shows)))

pub span_small : (height : ℕ) → height ≤ 12 → 2 ^ height ≤ 4096
span_small height h = pow-le-pow_right {n = 2} (omega arith) {i = height} {j = 12} h

-- some pages of the node are free and some are not
pub record Mixed (height : ℕ) (words : List ℕ) : Type 0 where
  pub high : 0 < height
  pub some : 0 < slice_index words 0
  pub less : slice_index words 0 < 2 ^ height

pub longest_fits : (height : ℕ) (words : List ℕ) → IsTree height words → slice_index words 0 ≤ 2 ^ height
longest_fits height words t = (FitIn-told t.free (2 ^ height) (head_of words)
    (Shows-head height t.free words t.shows)).longest

high_if_mixed : (height longest : ℕ) → 0 < longest → longest < 2 ^ height → 0 < height
high_if_mixed zero longest a b = absurd (omega arith)
high_if_mixed (suc height) longest a b = omega arith

pub mixed : (height : ℕ) (words : List ℕ) → IsTree height words → 0 < slice_index words 0 →
    (slice_index words 0 ≡ 2 ^ height → ⊥) → Mixed height words
mixed height words t a b =
    let less : slice_index words 0 < 2 ^ height = omega (arith, longest_fits height words t) in
    record { high = high_if_mixed height (slice_index words 0) a less; some = a; less = less }

-- one number more than one less
pub above_below : (height : ℕ) → 0 < height → suc (height - 1) ≡ height
above_below height h = omega arith

pub span_doubled : (height : ℕ) → 0 < height → 2 * 2 ^ (height - 1) ≡ 2 ^ height
span_doubled height h = omega (arith, pow-suc 2 (height - 1), ap (λ (x : ℕ). 2 ^ x) (above_below height h))

-- then its halves show what it shows
pub HalvesShow-mixed : (height : ℕ) (free : Marks) (words : List ℕ) → Mixed height words → Shows free height words →
    HalvesShow free (height - 1) words
HalvesShow-mixed height free words m s =
    let e : suc (height - 1) ≡ height = above_below height m.high in
    let shown : Shows free (suc (height - 1)) words = subst (λ (x : ℕ). Shows free x words) (sym e) s in
    let less : slice_index words 0 < 2 ^ suc (height - 1) =
    subst (λ (x : ℕ). slice_index words 0 < 2 ^ x) (sym e) m.less in
    record { low = shown.1 m.some less; high = shown.2 m.some less }

pub HalvesAreTrees-shown : (free : Marks) (height : ℕ) (words : List ℕ) → HalvesShow free height words →
    HalvesAreTrees height words
HalvesAreTrees-shown free height words s = record {
  low = record { free = free; shows = s.low };
  high = record { free = beyond (2 ^ height) free; shows = s.high };
}

pub HalvesAreTrees-mixed : (height : ℕ) (words : List ℕ) → Mixed height words → IsTree height words →
    HalvesAreTrees (height - 1) words
HalvesAreTrees-mixed height words m t = HalvesAreTrees-shown t.free (height - 1) words
    (HalvesShow-mixed height t.free words m t.shows)

-- a tree that has halves, as the tree one higher than they are
pub Shows-split : (height : ℕ) (free : Marks) (words : List ℕ) → 0 < height → Shows free height words →
    Shows free (suc (height - 1)) words
Shows-split height free words h s = subst (λ (x : ℕ). Shows free x words) (sym (above_below height h)) s

pub Shows-joined : (height : ℕ) (free : Marks) (words : List ℕ) → 0 < height → Shows free (suc (height - 1)) words →
    Shows free height words
Shows-joined height free words h s = subst (λ (x : ℕ). Shows free x words) (above_below height h) s
