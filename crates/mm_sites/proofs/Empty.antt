-- Where nothing is entered, each total is that of nothing.
use Rattle.std.proofs.Common.{◌≡◌, ℕ, zero, suc, ◌^◌, ◌<◌, ◌≤◌, List, length, Option, Some, None, replicate}
use Rattle.std.proofs.Common.{refl, sym, ap, ◌∙◌, arith}
use Rattle.std.proofs.lemmas.List.{length-replicate}
use Rattle.std.proofs.lemmas.List.Folds.{sum_by-replicate}
use Rattle.std.specs.Prelude.{slice_get}
use Rattle.mm_sites.specs.declared.entry.Entry.{Entry}
use Rattle.mm_sites.specs.declared.site_total.SiteTotal.{SiteTotal}
use Rattle.mm_sites.specs.Entries.{EntriesByBase, total_of}
use Rattle.mm_sites.specs.Kept.{KeepsTotals}
use Rattle.mm_sites.proofs.Totals.{objects_at, bytes_at, objects-total, bytes-total}

pub replicate_only : {X : Type 0} (n : ℕ) (x : X) (k : ℕ) (y : X) → slice_get (replicate n x) k ≡ Some y → y ≡ x
replicate_only zero x k y e = cc
replicate_only (suc n) x zero y e = cc
replicate_only (suc n) x (suc k) y e = replicate_only n x k y e

get-replicate : {X : Type 0} (n : ℕ) (x : X) (k : ℕ) → k < n → slice_get (replicate n x) k ≡ Some x
get-replicate zero x k h = absurd (omega arith)
get-replicate (suc n) x zero h = refl
get-replicate (suc n) x (suc k) h = get-replicate n x k (omega arith)

abbrev pub no_objects : SiteTotal
no_objects = record { objects = 0; bytes = 0 }

total-none : (n site : ℕ) → no_objects ≡ total_of (replicate n None) site
total-none n site =
    let none : EntriesByBase = replicate n None in
    let objects : 0 ≡ (total_of (replicate n None) site).objects =
    let sum = sum_by-replicate (objects_at site) n None in
    let is = objects-total (replicate n None) site in
    omega arith in
    let bytes : 0 ≡ (total_of (replicate n None) site).bytes =
    let sum = sum_by-replicate (bytes_at site) n None in
    let is = bytes-total (replicate n None) site in
    omega arith in
    λ i. record { objects = objects i; bytes = bytes i }

pub kept-none : (entries : EntriesByBase) (totals : List SiteTotal) (grains sites : ℕ) → grains ≤ 2 ^ 20
    → sites ≡ 4096 → entries ≡ replicate grains None → totals ≡ replicate sites no_objects
    → KeepsTotals entries totals
kept-none entries totals grains sites few all none zeros =
    record {
      few = let same = ap length none in omega (arith, length-replicate {A = Option Entry});
      sites = ap length zeros ∙ length-replicate sites no_objects ∙ all;
      fits = λ grain entry e.
          let only : Some entry ≡ None = replicate_only grains None grain (Some entry)
          (ap (λ (es : EntriesByBase). slice_get es grain) (sym none) ∙ e) in
          cc;
      right = λ site below.
          ap (λ (ts : List SiteTotal). slice_get ts site) zeros
          ∙ get-replicate sites no_objects site (omega arith)
          ∙ ap (λ (t : SiteTotal). Some t) (total-none grains site)
          ∙ ap (λ (es : EntriesByBase). Some (total_of es site)) (sym none);
    }
