-- What a page heap keeps true of its fields, as its calls change them.
use Rattle.std.proofs.Common.{◌≡◌, ℕ, ◌+◌, ◌-◌, ◌*◌, ◌^◌, ◌<◌, ◌≤◌, ◌⊎◌, inl, inr, Bool, true, false, nat_lt, ◌&&◌}
use Rattle.std.proofs.Common.{zero, suc, List, length, slice_index, set, replicate, arith, sym, ◌∙◌, ap, subst, refl}
use Rattle.std.proofs.lemmas.Bool.{cases_lt, cases_eq, lt-ltb, ltb-true, le-ltb, and_left, and_parts, and_from}
use Rattle.std.specs.List.{count_by, range_with_len}
use Rattle.std.proofs.lemmas.List.{length-set, get_or-set_same, get_or-set_other, get_or-replicate}
use Rattle.std.proofs.lemmas.List.{length-replicate, get_or_past}
use Rattle.mm_pages.specs.Free.{Marks, AllFree, IsFreeButFirst, LowestFit, Sums, beyond, marked}
use Rattle.mm_pages.specs.Tree.{Shows}
use Rattle.mm_words.specs.Location.{Location}
use Rattle.mm_pages.specs.Entries.{Entries, BeginsEmpty}
use Rattle.mm_pages.specs.Pages.{Pages, Run, run_at, unused, is_free_page, count_below, IsFreePage, IsFreeRun}
use Rattle.mm_pages.specs.Pages.{IsLowestRun, IsOut, IsUsed, IsHighestUsed, HasNoRun, EndsBy, IsSoundHeap}
use Rattle.mm_pages.specs.Pages.{TellsFreePages}
use Rattle.mm_pages.specs.Kept.{pages_of, KeepsTree}
use Rattle.mm_pages.proofs.Joins.{clash}
use Rattle.mm_pages.proofs.Trees.{Shows-same}
use Rattle.mm_pages.proofs.Unused.{reached, used-to, used-from, unused-above, unused-off_zero, unused-from}
use Rattle.mm_pages.proofs.Unused.{unused-ext, unused-taken, unused-given, not_true, same_tests}
use Rattle.mm_pages.proofs.Counts.{count_below-same, count_below-all, count_below-none, count_below-add}
use Rattle.mm_pages.proofs.Counts.{count_below-taken, count_below-given, count_below-le, count_below-split}
use Rattle.mm_pages.proofs.Counts.{count_by-range}
use Rattle.mm_pages.proofs.Sound.{Changes, Clear, Clear-free, Clear-none, Clear-run, IsSoundHeap-changes, here_at}
use Rattle.mm_pages.proofs.Sound.{others_at}

-- a page below the limit is free where no run that begins at or below it reaches it
pub IsFreePage-unused : (v : Pages) (p : ℕ) → unused (run_at v) p ≡ true → p < v.limit → IsFreePage v p
IsFreePage-unused v p u h = record {
  off_zero = unused-off_zero (run_at v) p u;
  below_limit = h;
  not_out = λ c. omega (arith, c.begins, c.reaches, unused-above (run_at v) p c.first u c.begins);
  not_parked = λ c. omega (arith, c.begins, c.reaches, unused-above (run_at v) p c.first u c.begins);
}

pub unused-IsFreePage : (v : Pages) (p : ℕ) → IsSoundHeap v → IsFreePage v p → unused (run_at v) p ≡ true
unused-IsFreePage v p s f = unused-from (run_at v) p f.off_zero
    (λ first b. elim (cases_lt p (first + run_at v first)) [
      | inr a ↦ a
      | inl r ↦ elim (cases_eq (slice_index v.out first) 0) [
        | inl z ↦ absurd (f.not_parked (record { first = first; begins = b; reaches = omega arith }))
        | inr n ↦ absurd (f.not_out (record {
          first = first;
          begins = b;
          reaches = omega (
            arith,
            s.one_kind first (omega arith),
          );
        }))
      ]
    ])

-- so free runs are runs of pages that the tree shows as free
pub AllFree-run : (v : Pages) (p k : ℕ) → IsSoundHeap v → IsFreeRun v p k → AllFree (unused (run_at v)) p k
AllFree-run v p k s f = record { each = λ j a b. unused-IsFreePage v j s (f j a b) }

pub IsFreeRun-all : (v : Pages) (p k : ℕ) → AllFree (unused (run_at v)) p k → p + k ≤ v.limit → IsFreeRun v p k
IsFreeRun-all v p k f w = λ q a b. IsFreePage-unused v q (f.each q a b) (omega arith)

pub IsFreeRun-within : (v : Pages) (p k : ℕ) → 0 < k → IsFreeRun v p k → p + k ≤ v.limit
IsFreeRun-within v p k h f = omega (arith, (f (p + k - 1) (omega arith) (omega arith)).below_limit)

-- the lowest place of the tree is the lowest run, where it ends by the limit
pub IsLowestRun-fit : (v : Pages) (span p k : ℕ) → IsSoundHeap v → v.limit ≤ span → 0 < k →
    LowestFit (unused (run_at v)) span k p → p + k ≤ v.limit → IsLowestRun v p k
IsLowestRun-fit v span p k s wide some f w = record {
  free = IsFreeRun-all v p k f.fits w;
  lowest = λ q g. f.lowest q (AllFree-run v q k s g) (omega (arith, IsFreeRun-within v q k some g));
}

-- and where it doesn't there is none
pub none-past : (v : Pages) (span p k : ℕ) → IsSoundHeap v → v.limit ≤ span → 0 < k →
    LowestFit (unused (run_at v)) span k p → v.limit < p + k → (q : ℕ) → IsFreeRun v q k → ⊥
none-past v span p k s wide some f w q g =
    let within : q + k ≤ v.limit = IsFreeRun-within v q k some g in
    omega (arith, f.lowest q (AllFree-run v q k s g) (omega arith))

-- nor where the longest run is too short
pub none-short : (v : Pages) (span m l r k : ℕ) → IsSoundHeap v → v.limit ≤ span → 0 < k →
    Sums (unused (run_at v)) span m l r → m < k → (q : ℕ) → IsFreeRun v q k → ⊥
none-short v span m l r k s wide some u short q g =
    let within : q + k ≤ v.limit = IsFreeRun-within v q k some g in
    omega (arith, u.none_longer q k (AllFree-run v q k s g) (omega arith))

-- one entry of the runs out
pub Changes-out : (v : Pages) (p n : ℕ) → p < length v.out →
    Changes v (record v { out = set v.out p n }) p n (slice_index v.parked p)
Changes-out v p n h = record {
  limit = refl;
  pages = refl;
  out_size = length-set v.out p n;
  parked_size = refl;
  out = get_or-set_same v.out p n 0 h;
  parked = refl;
  others_out = λ f d. get_or-set_other v.out p f n 0 d;
  others_parked = λ f d. refl;
}

-- one entry of both
pub Changes-both : (v : Pages) (p n m : ℕ) → p < length v.out → p < length v.parked →
    Changes v (record v { out = set v.out p n; parked = set v.parked p m }) p n m
Changes-both v p n m h g = record {
  limit = refl;
  pages = refl;
  out_size = length-set v.out p n;
  parked_size = length-set v.parked p m;
  out = get_or-set_same v.out p n 0 h;
  parked = get_or-set_same v.parked p m 0 g;
  others_out = λ f d. get_or-set_other v.out p f n 0 d;
  others_parked = λ f d. get_or-set_other v.parked p f m 0 d;
}

-- a run is taken
pub KeepsTree-taken : (e : Entries) (limit free p k : ℕ) (tree : List ℕ) → KeepsTree e limit free →
    LowestFit (unused (run_at (pages_of e limit))) (2 ^ e.height) k p → 0 < k → p + k ≤ limit →
    ((pages : Marks) → Shows pages e.height e.tree → Shows (marked pages p (p + k) false) e.height tree) →
    KeepsTree (record e { tree = tree; out = set e.out p k }) limit (free - k)
KeepsTree-taken e limit free p k tree kept fit some within shows =
    let v : Pages = pages_of e limit in
    let v' : Pages = record v { out = set e.out p k } in
    let runs : ℕ → ℕ = run_at v in
    let first : p + run_at v p ≤ p = unused-above runs p p (fit.fits.each p (omega arith) (omega arith))
    (omega arith) in
    let change : Changes v v' p k (slice_index e.parked p) =
    Changes-out v p k (omega (arith, kept.sound.limit, kept.sound.out_size)) in
    let at : run_at v' p ≡ k = omega (arith, here_at v v' p k (slice_index e.parked p) change) in
    let clear : Clear v p (k + slice_index e.parked p) =
    subst (λ (x : ℕ). Clear v p x) (omega arith) (Clear-free v p k fit.fits some within) in
    let now : (i : ℕ) → marked (unused runs) p (p + k) false i ≡ unused (run_at v') i =
    λ i. unused-taken runs (run_at v') p k i fit.fits some at
    (λ f d. others_at v v' p k (slice_index e.parked p) change f d) in
    record {
      sound = IsSoundHeap-changes v v' p k (slice_index e.parked p) kept.sound change (inr (omega arith)) clear;
      wide = kept.wide;
      tight = kept.tight;
      shows = Shows-same e.height (marked (unused runs) p (p + k) false) (unused (run_at v')) tree (λ i h. now i)
          (shows (unused runs) kept.shows);
      counted = omega (
        arith,
        kept.counted,
        count_below-same (marked (unused runs) p (p + k) false) (unused (run_at v')) (2 ^ e.height) (λ i h. now i),
        count_below-taken (unused runs) p k (2 ^ e.height) fit.within (λ i a b. fit.fits.each i a b),
      );
    }

-- a run is given back
pub KeepsTree-given : (e : Entries) (limit free p k : ℕ) (tree : List ℕ) → KeepsTree e limit free → 0 < k →
    slice_index e.out p ≡ k →
    ((pages : Marks) → Shows pages e.height e.tree → Shows (marked pages p (p + k) true) e.height tree) →
    KeepsTree (record e { tree = tree; out = set e.out p 0 }) limit (free + k)
KeepsTree-given e limit free p k tree kept some there shows =
    let v : Pages = pages_of e limit in
    let v' : Pages = record v { out = set e.out p 0 } in
    let runs : ℕ → ℕ = run_at v in
    let other : slice_index e.parked p ≡ 0 = kept.sound.one_kind p (omega arith) in
    let whole : run_at v p ≡ k = omega arith in
    let clear : Clear v p (run_at v p) = Clear-run v p kept.sound in
    let within : p + k ≤ limit = omega (arith, clear.within (omega arith)) in
    let change : Changes v v' p 0 (slice_index e.parked p) =
    Changes-out v p 0 (omega (arith, kept.sound.limit, kept.sound.out_size)) in
    let at : run_at v' p ≡ 0 = omega (arith, here_at v v' p 0 (slice_index e.parked p) change) in
    let gone : Clear v p (0 + slice_index e.parked p) =
    subst (λ (x : ℕ). Clear v p x) (omega arith) (Clear-none v p) in
    let now : (i : ℕ) → marked (unused runs) p (p + k) true i ≡ unused (run_at v') i =
    λ i. unused-given runs (run_at v') p k i whole (clear.off_zero (omega arith)) at
    (λ f d. others_at v v' p 0 (slice_index e.parked p) change f d)
    (λ f l r. clear.below f l (omega arith) r) (λ f l r. omega (arith, clear.above f l (omega arith) r)) in
    record {
      sound = IsSoundHeap-changes v v' p 0 (slice_index e.parked p) kept.sound change (inl refl) gone;
      wide = kept.wide;
      tight = kept.tight;
      shows = Shows-same e.height (marked (unused runs) p (p + k) true) (unused (run_at v')) tree (λ i h. now i)
          (shows (unused runs) kept.shows);
      counted = omega (
        arith,
        kept.counted,
        count_below-same (marked (unused runs) p (p + k) true) (unused (run_at v')) (2 ^ e.height) (λ i h. now i),
        count_below-given (unused runs) p k (2 ^ e.height) (omega (arith, kept.wide, kept.sound.limit))
            (λ i a b. used-from runs i p a (omega arith)),
      );
    }

-- a run goes from those out to those parked, or back
pub KeepsTree-moved : (e : Entries) (limit free p n m : ℕ) → KeepsTree e limit free → 0 < run_at (pages_of e limit) p →
    n + m ≡ run_at (pages_of e limit) p → (n ≡ 0) ⊎ (m ≡ 0) →
    KeepsTree (record e { out = set e.out p n; parked = set e.parked p m }) limit free
KeepsTree-moved e limit free p n m kept some same kind =
    let v : Pages = pages_of e limit in
    let v' : Pages = record v { out = set e.out p n; parked = set e.parked p m } in
    let within : p + run_at v p ≤ limit = kept.sound.within p some in
    let change : Changes v v' p n m = Changes-both v p n m (omega (arith, kept.sound.limit, kept.sound.out_size))
    (omega (arith, kept.sound.limit, kept.sound.parked_size)) in
    let runs : (f : ℕ) → run_at v f ≡ run_at v' f = λ f. elim (cases_eq f p) [
      | inl e ↦ subst (λ (x : ℕ). run_at v x ≡ run_at v' x) (sym e) (sym same ∙ sym (here_at v v' p n m change))
      | inr d ↦ sym (others_at v v' p n m change f d)
    ] in
    let now : (i : ℕ) → unused (run_at v) i ≡ unused (run_at v') i =
    λ i. unused-ext (run_at v) (run_at v') i runs in
    record {
      sound = IsSoundHeap-changes v v' p n m kept.sound change kind
          (subst (λ (x : ℕ). Clear v p x) (sym same) (Clear-run v p kept.sound));
      wide = kept.wide;
      tight = kept.tight;
      shows = Shows-same e.height (unused (run_at v)) (unused (run_at v')) e.tree (λ i h. now i) kept.shows;
      counted = kept.counted ∙ count_below-same (unused (run_at v)) (unused (run_at v')) (2 ^ e.height)
          (λ i h. now i);
    }

-- no run begins anywhere in a list of zeros
index-zeros : (n f : ℕ) → slice_index (replicate n 0) f ≡ 0
index-zeros n f = elim (cases_lt f n) [
  | inl h ↦ get_or-replicate n f 0 0 h
  | inr h ↦ get_or_past (replicate n 0) f 0 (omega (arith, length-replicate {A = ℕ} n 0))
]

-- a page heap without runs
pub KeepsTree-fresh : (e : Entries) (location : Location) (pages height free : ℕ) → BeginsEmpty location pages height e
    →
    2 ≤ pages → pages ≤ 4096 → pages ≤ 2 ^ height → 2 ^ height < 2 * pages → free + 1 ≡ 2 ^ height →
    ((test : Marks) → IsFreeButFirst test (2 ^ height) → Shows test height e.tree) → KeepsTree e pages free
KeepsTree-fresh e location pages height free b two most wide tight counted shows =
    let v : Pages = pages_of e pages in
    let none : (f : ℕ) → run_at v f ≡ 0 = λ f. omega (
      arith,
      ap (λ (x : List ℕ). slice_index x f) b.none_out,
      ap (λ (x : List ℕ). slice_index x f) b.none_parked,
      index-zeros pages f,
    ) in
    let others : (i : ℕ) → 0 < i → unused (run_at v) i ≡ true =
    λ i h. unused-from (run_at v) i h (λ f l. omega (arith, none f)) in
    let size : e.pages ≡ pages = b.same_pages in
    let high : e.height ≡ height = b.same_height in
    let span : 2 ^ e.height ≡ 2 ^ height = ap (λ (x : ℕ). 2 ^ x) high in
    let sum : count_below (unused (run_at v)) (1 + (2 ^ height - 1)) ≡ 0 + count_below
    (beyond 1 (unused (run_at v))) (2 ^ height - 1) = count_below-add (unused (run_at v)) 1 (2 ^ height - 1) in
    let rest : count_below (beyond 1 (unused (run_at v))) (2 ^ height - 1) ≡ 2 ^ height - 1 =
    count_below-all (beyond 1 (unused (run_at v))) (2 ^ height - 1) (λ i h. others (1 + i) (omega arith)) in
    let width : 1 + (2 ^ height - 1) ≡ 2 ^ e.height = omega arith in
    let all : count_below (unused (run_at v)) (1 + (2 ^ height - 1)) ≡ count_below (unused (run_at v))
    (2 ^ e.height) = ap (λ (x : ℕ). count_below (unused (run_at v)) x) width in
    record {
      sound = record {
        two = two;
        limit = omega arith;
        pages = omega arith;
        out_size = ap length b.none_out ∙ length-replicate pages 0 ∙ sym size;
        parked_size = ap length b.none_parked ∙ length-replicate pages 0 ∙ sym size;
        one_kind = λ f h. omega (arith, none f);
        off_zero = none 0;
        within = λ f h. absurd (omega (arith, none f));
        apart = λ f g l h k. absurd (omega (arith, none f));
      };
      wide = omega arith;
      tight = omega arith;
      shows = subst (λ (x : ℕ). Shows (unused (run_at v)) x e.tree) (sym high)
          (shows (unused (run_at v)) (record { first = refl; others = λ i a h. others i a }));
      counted = omega arith;
    }

-- the limit moves
pub KeepsTree-limit : (e : Entries) (limit limit' free : ℕ) → KeepsTree e limit free → 2 ≤ limit' → limit' ≤ e.pages →
    EndsBy (pages_of e limit) limit' → KeepsTree e limit' free
KeepsTree-limit e limit limit' free kept two most ends =
    let v : Pages = pages_of e limit in
    let s : IsSoundHeap v = kept.sound in
    record {
      sound = record {
        two = two;
        limit = most;
        pages = s.pages;
        out_size = s.out_size;
        parked_size = s.parked_size;
        one_kind = s.one_kind;
        off_zero = s.off_zero;
        within = λ p h. elim (cases_eq (slice_index e.out p) 0) [
          | inl z ↦ omega (
            arith,
            ends.parked (p + run_at v p - 1)
                (record { first = p; begins = omega arith; reaches = omega arith }),
          )
          | inr n ↦ omega (
            arith,
            s.one_kind p (omega arith),
            ends.out (p + run_at v p - 1) (record {
              first = p;
              begins = omega arith;
              reaches = omega (
                arith,
                s.one_kind p (omega arith),
              );
            }),
          )
        ];
        apart = s.apart;
      };
      wide = kept.wide;
      tight = kept.tight;
      shows = kept.shows;
      counted = kept.counted;
    }

-- past the limit no page lies in a run
unused-past : (v : Pages) (p : ℕ) → IsSoundHeap v → v.limit ≤ p → unused (run_at v) p ≡ true
unused-past v p s h = unused-from (run_at v) p (omega (arith, s.two)) (λ f l. elim (cases_eq (run_at v f) 0) [
  | inl z ↦ omega arith
  | inr n ↦ omega (arith, s.within f (omega arith))
])

-- how many pages are free
pub count_below-free : (e : Entries) (limit free : ℕ) → KeepsTree e limit free →
    count_below (is_free_page (pages_of e limit)) e.pages + (2 ^ e.height - limit) ≡ free
count_below-free e limit free kept =
    let v : Pages = pages_of e limit in
    let s : IsSoundHeap v = kept.sound in
    let span : limit + (2 ^ e.height - limit) ≡ 2 ^ e.height = omega (arith, kept.wide, s.limit) in
    let pages : limit + (e.pages - limit) ≡ e.pages = omega (arith, s.limit) in
    let tree : count_below (unused (run_at v)) (2 ^ e.height) ≡ count_below (unused (run_at v)) limit + count_below
    (beyond limit (unused (run_at v))) (2 ^ e.height - limit) =
    ap (λ (x : ℕ). count_below (unused (run_at v)) x) (sym span)
    ∙ count_below-add (unused (run_at v)) limit (2 ^ e.height - limit) in
    let past : count_below (beyond limit (unused (run_at v))) (2 ^ e.height - limit) ≡ 2 ^ e.height - limit =
    count_below-all (beyond limit (unused (run_at v))) (2 ^ e.height - limit)
    (λ i h. unused-past v (limit + i) s (omega arith)) in
    let free_is : count_below (is_free_page v) e.pages ≡ count_below (is_free_page v) limit + count_below
    (beyond limit (is_free_page v)) (e.pages - limit) =
    ap (λ (x : ℕ). count_below (is_free_page v) x) (sym pages)
    ∙ count_below-add (is_free_page v) limit (e.pages - limit) in
    let none : count_below (beyond limit (is_free_page v)) (e.pages - limit) ≡ 0 =
    count_below-none (beyond limit (is_free_page v)) (e.pages - limit)
    (λ i h. and_left (nat_lt (limit + i) limit) (unused (run_at v) (limit + i))
    (le-ltb (limit + i) limit (omega arith))) in
    let same : count_below (is_free_page v) limit ≡ count_below (unused (run_at v)) limit =
    count_below-same (is_free_page v) (unused (run_at v)) limit
    (λ i h. ap (λ (b : Bool). b && unused (run_at v) i) (lt-ltb i limit h)) in
    omega (arith, kept.counted)

-- the page heap's test says which pages are free
is_free_page-IsFreePage : (v : Pages) (p : ℕ) → is_free_page v p ≡ true → IsFreePage v p
is_free_page-IsFreePage v p e =
    let both = and_parts (nat_lt p v.limit) (unused (run_at v) p) e in
    IsFreePage-unused v p both.1 (ltb-true p v.limit both.0)

IsFreePage-is_free_page : (v : Pages) (p : ℕ) → IsSoundHeap v → IsFreePage v p → is_free_page v p ≡ true
IsFreePage-is_free_page v p s free =
    and_from (nat_lt p v.limit) (unused (run_at v) p) (lt-ltb p v.limit free.below_limit) (unused-IsFreePage v p s free)

-- so free pages are counted by any test that tells them
pub count_by-free : (v : Pages) (test : ℕ → Bool) → IsSoundHeap v → TellsFreePages v test →
    count_below (is_free_page v) v.pages ≡ count_by test (range_with_len 1 (v.limit - 1))
count_by-free v test s tells =
    let few : ℕ = v.limit - 1 in
    let whole = count_below-split (is_free_page v) 1 few v.pages (omega (arith, s.two, s.limit)) in
    let first : count_below (is_free_page v) 1 ≡ 0 = count_below-none (is_free_page v) 1
    (λ i h. not_true (is_free_page v i) (λ e. omega (arith, (is_free_page-IsFreePage v i e).off_zero))) in
    let last : count_below (beyond (1 + few) (is_free_page v)) (v.pages - (1 + few)) ≡ 0 =
    count_below-none (beyond (1 + few) (is_free_page v)) (v.pages - (1 + few))
    (λ i h. and_left (nat_lt (1 + few + i) v.limit) (unused (run_at v) (1 + few + i))
    (le-ltb (1 + few + i) v.limit (omega (arith, s.two)))) in
    let middle : count_below (beyond 1 (is_free_page v)) few ≡ count_below (beyond 1 test) few =
    count_below-same (beyond 1 (is_free_page v)) (beyond 1 test) few (λ i h.
    let iff = tells (1 + i) (omega arith) (omega (arith, s.two)) in
    same_tests (is_free_page v (1 + i)) (test (1 + i)) (λ e. iff.1 (is_free_page-IsFreePage v (1 + i) e))
    (λ e. IsFreePage-is_free_page v (1 + i) s (iff.0 e))) in
    omega (arith, whole, first, last, middle, count_by-range test 1 few)

-- a page that the tree shows as taken is used
pub IsUsed-taken : (v : Pages) (p : ℕ) → IsSoundHeap v → unused (run_at v) p ≡ false → IsUsed v p
IsUsed-taken v p s u = elim (used-to (run_at v) p u) [
  | inl z ↦ inl z
  | inr r ↦ elim r [
    | reached f l h ↦ elim (cases_eq (slice_index v.out f) 0) [
      | inl z ↦ inr (inr (record { first = f; begins = omega arith; reaches = omega arith }))
      | inr n ↦ inr (inl (record {
        first = f;
        begins = omega arith;
        reaches = omega (
          arith,
          s.one_kind f (omega arith),
        );
      }))
    ]
  ]
]

-- a used page is one that the tree shows as taken, and lies below the limit
taken-IsUsed : (v : Pages) (p : ℕ) → IsSoundHeap v → IsUsed v p → (unused (run_at v) p ≡ false) × (p < v.limit)
taken-IsUsed v p s (inl z) = (subst (λ (x : ℕ). unused (run_at v) x ≡ false) (sym z) refl, omega (arith, s.two))
taken-IsUsed v p s (inr (inl c)) = (
  used-from (run_at v) p c.first c.begins (omega (arith, c.reaches)),
  omega (arith, c.begins, c.reaches, s.within c.first (omega (arith, c.begins, c.reaches))),
)
taken-IsUsed v p s (inr (inr c)) = (
  used-from (run_at v) p c.first c.begins (omega (arith, c.reaches)),
  omega (arith, c.begins, c.reaches, s.within c.first (omega (arith, c.begins, c.reaches))),
)

-- page 0 ends the free pages at the latest
pub last_run-short : (v : Pages) (span m l r : ℕ) → Sums (unused (run_at v)) span m l r → 0 < span → r < span
last_run-short v span m l r u some = elim (cases_lt r span) [
  | inl h ↦ h
  | inr h ↦ absurd (clash ((u.right_free 0 (omega (arith, u.right_within))).each 0 (omega arith)
      (omega arith)) refl)
]

-- the highest used page is the one below the free pages at the end
pub IsHighestUsed-last : (v : Pages) (span m l r : ℕ) → IsSoundHeap v → Sums (unused (run_at v)) span m l r →
    v.limit ≤ span → 0 < span → IsHighestUsed v (span - r - 1)
IsHighestUsed-last v span m l r s u wide some =
    let short : r < span = last_run-short v span m l r u some in
    record {
      used = IsUsed-taken v (span - r - 1) s (u.right_ends (span - r - 1) (omega arith));
      highest = λ q used. elim (cases_lt (span - r - 1) q) [
        | inr h ↦ h
        | inl h ↦
            let taken : unused (run_at v) q ≡ false = (taken-IsUsed v q s used).0 in
            let low : q < v.limit = (taken-IsUsed v q s used).1 in
            absurd (clash ((u.right_free (span - r) (omega arith)).each q (omega arith) (omega arith)) taken)
      ];
    }

-- where no page but page 0 is used there are no runs
pub HasNoRun-unused : (v : Pages) (top : ℕ) → IsSoundHeap v → IsHighestUsed v top → top ≡ 0 → HasNoRun v
HasNoRun-unused v top s highest is =
    record {
      none_out = λ p. none p (slice_index v.out p) (λ some.
          highest.highest p (inr (inl (record { first = p; begins = omega arith; reaches = omega (arith, some) }))))
          (omega arith);
      none_parked = λ p. none p (slice_index v.parked p) (λ some.
          highest.highest p (inr (inr (record { first = p; begins = omega arith; reaches = omega (arith, some) }))))
          (omega arith);
    }
  where
    none : (p n : ℕ) → (0 < n → p ≤ top) → n ≤ run_at v p → n ≡ 0
    none p zero low some = refl
    none zero (suc n) low some = absurd (omega (arith, s.off_zero, some))
    none (suc p) (suc n) low some = absurd (omega (arith, low (omega arith)))

-- the length of a run that is out
pub out-whole : (e : Entries) (limit free : ℕ) (run : Run) → KeepsTree e limit free → IsOut (pages_of e limit) run →
    run_at (pages_of e limit) run.first ≡ run.len
out-whole e limit free run kept out = omega (
  arith,
  out.there,
  kept.sound.one_kind run.first (omega (arith, out.there, out.some)),
)

-- the pages of a run that is out and the free ones are no more than the tree's
pub given-small : (e : Entries) (limit free : ℕ) (run : Run) → KeepsTree e limit free → IsOut (pages_of e limit) run →
    free + run.len < 2 ^ 32
given-small e limit free run kept out =
    let whole : run_at (pages_of e limit) run.first ≡ run.len = out-whole e limit free run kept out in
    omega (
      arith,
      kept.counted,
      count_below-le (unused (run_at (pages_of e limit))) (2 ^ e.height),
      kept.tight,
      kept.sound.within run.first (omega (arith, out.some)),
      kept.sound.limit,
      kept.sound.pages,
    )

-- the length of a run that is parked
pub parked-whole : (v : Pages) (p : ℕ) → IsSoundHeap v → 0 < slice_index v.parked p →
    run_at v p ≡ slice_index v.parked p
parked-whole v p s h = elim (cases_eq (slice_index v.out p) 0) [
  | inl z ↦ omega arith
  | inr n ↦ absurd (omega (arith, s.one_kind p (omega arith)))
]
