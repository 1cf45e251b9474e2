-- A region in which no object begins.
use Rattle.std.proofs.Common.{◌≡◌, ℕ, zero, suc, ◌*◌, ◌^◌, ◌<◌, ◌≤◌, Bool, false, List, ◌∷◌, length, map, replicate}
use Rattle.std.proofs.Common.{Option, Some, None, refl, sym, ap, ◌∙◌, arith}
use Rattle.std.specs.Prelude.{is_some, slice_get}
use Rattle.std.proofs.lemmas.List.{length-replicate, get_or-replicate}
use Rattle.std.proofs.lemmas.Option.{slice_get_within, get_or_from_slice_get}
use Rattle.mm_audit.specs.declared.header.Header.{Header}
use Rattle.mm_audit.specs.Objects.{is_gray_header, grays_among, KeepsMarked}
use Rattle.std.proofs.Common.{cond, zero-add}
use Rattle.std.proofs.lemmas.List.Sums.{sum_by-cons}

replicate-get : {X : Type 0} (n k : ℕ) (x y : X) → slice_get (replicate n x) k ≡ Some y → x ≡ y
replicate-get {X} n k x y is =
    let within : k < n = omega (arith, slice_get_within (replicate n x) k y is, length-replicate {A = X} n x) in
    sym (get_or-replicate n k x x within) ∙ get_or_from_slice_get (replicate n x) k y x is

none_taken : (n : ℕ) → replicate n false ≡ map (is_some {T = Header}) (replicate n None)
none_taken zero = refl
none_taken (suc n) = ap (λ (rest : List Bool). false ∷ rest) (none_taken n)

none_gray : (n : ℕ) → grays_among (replicate n None) ≡ 0
none_gray zero = refl
none_gray (suc n) =
    sum_by-cons (λ e. cond (is_gray_header e) 1 0) None (replicate n None) ∙ zero-add (grays_among (replicate n None))
    ∙ none_gray n

clash : (header : Header) → None ≡ Some header → ⊥
clash header e = cc

pub none-kept : (grains : ℕ) → grains ≤ 2 ^ 20 → (entries : List (Option Header)) (begins words : List ℕ)
    (taken : List Bool) → entries ≡ replicate grains None → begins ≡ replicate grains 0
    → length words ≡ 4 * grains → taken ≡ replicate grains false
    → KeepsMarked entries begins words taken 0
none-kept grains few entries begins words taken empty zeros size unmarked =
    record {
      objects = record {
        few = omega (arith, count);
        each_grain = told ∙ sym count;
        each_word = size ∙ ap (λ n. 4 * n) (sym count);
        roomy = λ grain header is. absurd (none grain header is);
        told = λ grain header is. absurd (none grain header is);
        not_behind = λ inner grain is.
            let zero_is : 0 ≡ grain =
            replicate-get grains inner 0 grain (ap (λ (row : List ℕ). slice_get row inner) (sym zeros) ∙ is) in
            omega arith;
      };
      right = sym (none_gray grains) ∙ ap grays_among (sym empty);
      marks = unmarked ∙ none_taken grains ∙ ap (map is_some) (sym empty);
    }
  where
    count : length entries ≡ grains
    count = ap length empty ∙ length-replicate {A = Option Header} grains None

    told : length begins ≡ grains
    told = ap length zeros ∙ length-replicate {A = ℕ} grains 0

    none : (grain : ℕ) (header : Header) → slice_get entries grain ≡ Some (Some header) → ⊥
    none grain header is =
        clash header
        (replicate-get grains grain None (Some header)
        (ap (λ (row : List (Option Header)). slice_get row grain) (sym empty) ∙ is))
