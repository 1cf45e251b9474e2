-- The two halves of a node, as the search for free pages reads them.
use Rattle.std.proofs.Common.{◌≡◌, ℕ, ◌+◌, ◌-◌, ◌*◌, ◌^◌, ◌<◌, ◌≤◌, List, slice_index, arith, sym, subst, refl}
use Rattle.mm_pages.specs.declared.runs.Runs.{Runs}
use Rattle.mm_pages.specs.Free.{Marks, Sums, TellsRuns, FitIn, LowestFit, beyond}
use Rattle.mm_pages.specs.Tree.{head_of, Shows, IsTree, lower, upper}
use Rattle.mm_pages.proofs.Fits.{LowestFit-low, LowestFit-across, LowestFit-high, fits_high}
use Rattle.mm_pages.proofs.Trees.{Mixed, mixed, Shows-head, HalvesShow-mixed, HalvesAreTrees-mixed, span_doubled}
use Rattle.mm_pages.proofs.Trees.{FitIn-tree}

-- a node with free and taken pages, its halves, and what they say
pub record Parts (height : ℕ) (words low high : List ℕ) (l h : Runs) : Type 0 where
  pub node : Mixed height words
  pub tree : IsTree height words
  pub low_is : low ≡ lower (height - 1) words
  pub high_is : high ≡ upper (height - 1) words
  pub low_says : l ≡ head_of low
  pub high_says : h ≡ head_of high

pub parts_of : (height span : ℕ) (words low high : List ℕ) (l h : Runs) → IsTree height words →
    0 < slice_index words 0 → (slice_index words 0 ≡ span → ⊥) → span ≡ 2 ^ height →
    low ≡ lower (height - 1) words → high ≡ upper (height - 1) words → l ≡ head_of low → h ≡ head_of high →
    Parts height words low high l h
parts_of height span words low high l h t some less e a b c d = record {
  node = mixed height words t some (λ q. less (omega arith));
  tree = t;
  low_is = a;
  high_is = b;
  low_says = c;
  high_says = d;
}

pub low_tree : {height : ℕ} {words low high : List ℕ} {l h : Runs} → Parts height words low high l h →
    IsTree (height - 1) low
low_tree {height} {words} p = subst (λ (x : List ℕ). IsTree (height - 1) x) (sym p.low_is)
    (HalvesAreTrees-mixed height words p.node p.tree).low

pub high_tree : {height : ℕ} {words low high : List ℕ} {l h : Runs} → Parts height words low high l h →
    IsTree (height - 1) high
high_tree {height} {words} p = subst (λ (x : List ℕ). IsTree (height - 1) x) (sym p.high_is)
    (HalvesAreTrees-mixed height words p.node p.tree).high

pub low_fits_in : {height : ℕ} {words low high : List ℕ} {l h : Runs} → Parts height words low high l h →
    FitIn (2 ^ (height - 1)) l
low_fits_in {height} {words} {low} {high} {l} {h} p = FitIn-tree (height - 1)
    (2 ^ (height - 1)) l low refl p.low_says (low_tree p)

pub high_fits_in : {height : ℕ} {words low high : List ℕ} {l h : Runs} → Parts height words low high l h →
    FitIn (2 ^ (height - 1)) h
high_fits_in {height} {words} {low} {high} {l} {h} p = FitIn-tree (height - 1)
    (2 ^ (height - 1)) h high refl p.high_says (high_tree p)

pub low_shows : {height : ℕ} {words low high : List ℕ} {l h : Runs} (pages : Marks) →
    Parts height words low high l h → Shows pages height words → Shows pages (height - 1) low
low_shows {height} {words} pages p s = subst (λ (x : List ℕ). Shows pages (height - 1) x) (sym p.low_is)
    (HalvesShow-mixed height pages words p.node s).low

pub high_shows : {height : ℕ} {words low high : List ℕ} {l h : Runs} (pages : Marks) →
    Parts height words low high l h → Shows pages height words →
    Shows (beyond (2 ^ (height - 1)) pages) (height - 1) high
high_shows {height} {words} pages p s = subst (λ (x : List ℕ).
    Shows (beyond (2 ^ (height - 1)) pages) (height - 1) x) (sym p.high_is)
    (HalvesShow-mixed height pages words p.node s).high

low_told : {height : ℕ} {words low high : List ℕ} {l h : Runs} (pages : Marks) → Parts height words low high l h →
    Shows pages height words → TellsRuns pages (2 ^ (height - 1)) l
low_told {height} {words} {low} pages p s = subst (λ (x : Runs). TellsRuns pages (2 ^ (height - 1)) x)
    (sym p.low_says) (Shows-head (height - 1) pages low (low_shows pages p s))

high_told : {height : ℕ} {words low high : List ℕ} {l h : Runs} (pages : Marks) → Parts height words low high l h →
    Shows pages height words → TellsRuns (beyond (2 ^ (height - 1)) pages) (2 ^ (height - 1)) h
high_told {height} {words} {low} {high} pages p s = subst
    (λ (x : Runs). TellsRuns (beyond (2 ^ (height - 1)) pages) (2 ^ (height - 1)) x) (sym p.high_says)
    (Shows-head (height - 1) (beyond (2 ^ (height - 1)) pages) high (high_shows pages p s))

pub low_lowest : {height : ℕ} {words low high : List ℕ} {l h : Runs} (k first : ℕ) (pages : Marks) →
    Parts height words low high l h →
    LowestFit pages (2 ^ (height - 1)) k first → LowestFit pages (2 ^ height) k first
low_lowest {height} k first pages p f = subst (λ (x : ℕ). LowestFit pages x k first)
    (span_doubled height p.node.high) (LowestFit-low pages (2 ^ (height - 1)) k first f)

pub across_lowest : {height : ℕ} {words low high : List ℕ} {l h : Runs} (k half : ℕ) (pages : Marks) →
    Parts height words low high l h → Shows pages height words →
    half ≡ 2 ^ (height - 1) → l.longest < k → k ≤ l.right + h.left → LowestFit pages (2 ^ height) k (half - l.right)
across_lowest {height} {words} {low} {high} {l} {h} k half pages p s e a b =
    subst (λ (x : ℕ). LowestFit pages (2 ^ height) k (x - l.right)) (sym e)
    (subst (λ (x : ℕ). LowestFit pages x k (2 ^ (height - 1) - l.right)) (span_doubled height p.node.high)
    (LowestFit-across pages (2 ^ (height - 1)) _ _ _ _ _ _ k (low_told pages p s) (high_told pages p s) a b))

pub high_lowest : {height : ℕ} {words low high : List ℕ} {l h : Runs} (k half first : ℕ) (pages : Marks) →
    Parts height words low high l h → Shows pages height words →
    half ≡ 2 ^ (height - 1) → l.longest < k → l.right + h.left < k →
    LowestFit (beyond (2 ^ (height - 1)) pages) (2 ^ (height - 1)) k first →
    LowestFit pages (2 ^ height) k (half + first)
high_lowest {height} {words} {low} {high} {l} {h} k half first pages p s e a b f =
    subst (λ (x : ℕ). LowestFit pages (2 ^ height) k (x + first)) (sym e)
    (subst (λ (x : ℕ). LowestFit pages x k (2 ^ (height - 1) + first)) (span_doubled height p.node.high)
    (LowestFit-high pages (2 ^ (height - 1)) _ _ _ _ _ _ k first (low_told pages p s) (high_told pages p s) a b f))

pub high_fits : {height : ℕ} {words low high : List ℕ} {l h : Runs} (k : ℕ) → Parts height words low high l h →
    k ≤ slice_index words 0 → l.longest < k → l.right + h.left < k → k ≤ slice_index high 0
high_fits {height} {words} {low} {high} {l} {h} k p fit a b =
    let t : IsTree height words = p.tree in
    let whole : Sums t.free (2 * 2 ^ (height - 1)) (slice_index words 0) (slice_index words 1)
    (slice_index words 2) =
    subst (λ (x : ℕ). TellsRuns t.free x (head_of words)) (sym (span_doubled height p.node.high))
    (Shows-head height t.free words t.shows) in
    let found : k ≤ h.longest = fits_high t.free (2 ^ (height - 1)) _ _ _ _ _ _ _ _ _ k (low_told t.free p t.shows)
    (high_told t.free p t.shows) whole fit a b in
    subst (λ (x : Runs). k ≤ x.longest) p.high_says found
