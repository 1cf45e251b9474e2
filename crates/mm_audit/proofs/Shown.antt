-- The objects that headers and words show.
use Rattle.std.proofs.Common.{◌≡◌, ◌≢◌, ℕ, zero, suc, ◌+◌, ◌*◌, ◌/◌, ◌<◌, ◌≤◌, List, [], ◌∷◌, length, take, drop}
use Rattle.std.proofs.Common.{replicate, Option, Some, None, refl, sym, ap, ◌∙◌, ⊎_elim, arith}
use Rattle.std.specs.Prelude.{slice_get, slice_set}
use Rattle.std.specs.Option.{option_map}
use Rattle.std.proofs.Math.Seq.{drop-nil}
use Rattle.std.proofs.lemmas.Bool.{cases_eq}
use Rattle.mm_model.specs.Views.ByBase.{Begins}
use Rattle.mm_model.specs.Views.ObjectView.{ObjectView, ObjectsByBase}
use Rattle.mm_model.proofs.Lists.Replaced.{get-set_same, get-set_other}
use Rattle.mm_model.proofs.View.ByBase.Entries.{same_entries}
use Rattle.mm_audit.specs.declared.header.Header.{Header}
use Rattle.mm_audit.specs.Objects.{object_in, shown_from, shown}

get-shown_from : (words : List ℕ) (low : ℕ) (entries : List (Option Header)) (k : ℕ)
    → slice_get (shown_from words low entries) k
    ≡ option_map (option_map (object_in words (low + k))) (slice_get entries k)
get-shown_from words low [] k = refl
get-shown_from words low (entry ∷ entries) zero =
    let here : low ≡ low + 0 = omega arith in ap (λ n. Some (option_map (object_in words n) entry)) here
get-shown_from words low (entry ∷ entries) (suc k) =
    let next : low + 1 + k ≡ low + suc k = omega arith in
    get-shown_from words (low + 1) entries k
    ∙ ap (λ n. option_map (option_map (object_in words n)) (slice_get entries k)) next

pub get-shown : (words : List ℕ) (entries : List (Option Header)) (k : ℕ)
    → slice_get (shown words entries) k ≡ option_map (option_map (object_in words k)) (slice_get entries k)
get-shown words entries k =
    let same : 0 + k ≡ k = omega arith in
    get-shown_from words 0 entries k
    ∙ ap (λ n. option_map (option_map (object_in words n)) (slice_get entries k)) same

pub length-shown : (words : List ℕ) (entries : List (Option Header)) → length (shown words entries) ≡ length entries
length-shown words entries = from 0 entries
  where
    from : (low : ℕ) (entries : List (Option Header)) → length (shown_from words low entries) ≡ length entries
    from low [] = refl
    from low (entry ∷ entries) = ap suc (from (low + 1) entries)

pub shown-replicate : (words : List ℕ) (n : ℕ) → shown words (replicate n None) ≡ replicate n None
shown-replicate words n = from 0 n
  where
    from : (low n : ℕ) → shown_from words low (replicate n None) ≡ replicate n None
    from low zero = refl
    from low (suc n) = ap (λ (rest : ObjectsByBase). None ∷ rest) (from (low + 1) n)

-- an object that is shown has its header under its grain
pub record IsKept (words : List ℕ) (entries : List (Option Header)) (base : ℕ) (object : ObjectView) : Type 0 where
  pub header : Header
  pub at : base ≡ 16 * (base / 16)
  pub is : slice_get entries (base / 16) ≡ Some (Some header)
  pub object_is : object_in words (base / 16) header ≡ object

pub begins-kept : (words : List ℕ) (entries : List (Option Header)) (base : ℕ) (object : ObjectView)
    → Begins (shown words entries) base object → IsKept words entries base object
begins-kept words entries base object begins =
    split (slice_get entries begins.grain) refl (sym (get-shown words entries begins.grain) ∙ begins.is)
  where
    split : (told : Option (Option Header)) → slice_get entries begins.grain ≡ told
        → option_map (option_map (object_in words begins.grain)) told ≡ Some (Some object)
        → IsKept words entries base object
    split None e is = cc
    split (Some None) e is = cc
    split (Some (Some header)) e is =
        let same : object_in words begins.grain header ≡ object = cc in
        let at = begins.aligned in
        let grain : base / 16 ≡ begins.grain = omega arith in
        record {
          header = header;
          at = omega arith;
          is = ap (slice_get entries) grain ∙ e;
          object_is = ap (λ n. object_in words n header) grain ∙ same;
        }

pub kept-begins : (words : List ℕ) (entries : List (Option Header)) (grain : ℕ) (header : Header)
    → slice_get entries grain ≡ Some (Some header)
    → Begins (shown words entries) (16 * grain) (object_in words grain header)
kept-begins words entries grain header is =
    record {
      grain = grain;
      aligned = refl;
      is = get-shown words entries grain ∙ ap (option_map (option_map (object_in words grain))) is;
    }

-- one entry is another, and all other objects are as they were
pub shown-replaced : (words after : List ℕ) (entries left : List (Option Header)) (grain : ℕ)
    (old new : Option Header) → slice_get entries grain ≡ Some old → slice_get left grain ≡ Some new
    → ((k : ℕ) → k ≢ grain → slice_get left k ≡ slice_get entries k)
    → ((k : ℕ) (header : Header) → k ≢ grain → slice_get entries k ≡ Some (Some header)
    → object_in after k header ≡ object_in words k header)
    → shown after left ≡ slice_set (shown words entries) grain (option_map (object_in after grain) new)
shown-replaced words after entries left grain old new was now others same =
    same_entries (shown after left) (slice_set (shown words entries) grain entry)
    (λ k. get-shown after left k ∙ ⊎_elim (here k) (there k) (cases_eq k grain))
  where
    entry : Option ObjectView
    entry = option_map (object_in after grain) new

    here : (k : ℕ) → k ≡ grain
        → option_map (option_map (object_in after k)) (slice_get left k)
        ≡ slice_get (slice_set (shown words entries) grain entry) k
    here k e =
        let before = get-shown words entries grain ∙ ap (option_map (option_map (object_in words grain))) was in
        ap (λ n. option_map (option_map (object_in after n)) (slice_get left n)) e
        ∙ ap (option_map (option_map (object_in after grain))) now
        ∙ sym (get-set_same (shown words entries) grain (option_map (object_in words grain) old) entry before)
        ∙ ap (slice_get (slice_set (shown words entries) grain entry)) (sym e)

    kept : (k : ℕ) → k ≢ grain → (told : Option (Option Header)) → slice_get entries k ≡ told
        → option_map (option_map (object_in after k)) told ≡ option_map (option_map (object_in words k)) told
    kept k other None e = refl
    kept k other (Some None) e = refl
    kept k other (Some (Some header)) e = ap (λ (o : ObjectView). Some (Some o)) (same k header other e)

    there : (k : ℕ) → k ≢ grain
        → option_map (option_map (object_in after k)) (slice_get left k)
        ≡ slice_get (slice_set (shown words entries) grain entry) k
    there k other =
        ap (option_map (option_map (object_in after k))) (others k other)
        ∙ kept k other (slice_get entries k) refl ∙ sym (get-shown words entries k)
        ∙ sym (get-set_other (shown words entries) grain k entry other)

-- lists that are alike at some places have one part there
pub parts_alike : (first count : ℕ) (xs ys : List ℕ)
    → ((k : ℕ) → first ≤ k → k < first + count → slice_get xs k ≡ slice_get ys k)
    → take count (drop first xs) ≡ take count (drop first ys)
parts_alike zero count xs ys same = front count xs ys (λ k below. same k (omega arith) (omega arith))
  where
    front : (count : ℕ) (xs ys : List ℕ) → ((k : ℕ) → k < count → slice_get xs k ≡ slice_get ys k)
        → take count xs ≡ take count ys
    front zero xs ys same = refl
    front (suc count) [] [] same = refl
    front (suc count) [] (y ∷ ys) same = let none = same 0 (omega arith) in cc
    front (suc count) (x ∷ xs) [] same = let none = same 0 (omega arith) in cc
    front (suc count) (x ∷ xs) (y ∷ ys) same =
        let first : x ≡ y = heads (same 0 (omega arith)) in
        ap (λ z. z ∷ take count xs) first
        ∙ ap (λ zs. y ∷ zs) (front count xs ys (λ k below. same (suc k) (omega arith)))
      where
        heads : ◌≡◌ {A = Option ℕ} (Some x) (Some y) → x ≡ y
        heads e = cc
parts_alike (suc first) count [] [] same = refl
parts_alike (suc first) count [] (y ∷ ys) same =
    let rest = parts_alike first count [] ys (λ k from below. same (suc k) (omega arith) (omega arith)) in
    ap (take count) (sym (drop-nil first)) ∙ rest
parts_alike (suc first) count (x ∷ xs) [] same =
    let rest = parts_alike first count xs [] (λ k from below. same (suc k) (omega arith) (omega arith)) in
    rest ∙ ap (take count) (drop-nil first)
parts_alike (suc first) count (x ∷ xs) (y ∷ ys) same =
    parts_alike first count xs ys (λ k from below. same (suc k) (omega arith) (omega arith))

-- one number stands at each place of a part
pub part-filled : (first count : ℕ) (xs : List ℕ) (number : ℕ)
    → ((k : ℕ) → first ≤ k → k < first + count → slice_get xs k ≡ Some number)
    → take count (drop first xs) ≡ replicate count number
part-filled zero count xs number filled = front count xs (λ k below. filled k (omega arith) (omega arith))
  where
    front : (count : ℕ) (xs : List ℕ) → ((k : ℕ) → k < count → slice_get xs k ≡ Some number)
        → take count xs ≡ replicate count number
    front zero xs filled = refl
    front (suc count) [] filled = let none = filled 0 (omega arith) in cc
    front (suc count) (x ∷ xs) filled =
        let first : x ≡ number = inside (filled 0 (omega arith)) in
        ap (λ z. z ∷ take count xs) first
        ∙ ap (λ zs. number ∷ zs) (front count xs (λ k below. filled (suc k) (omega arith)))
      where
        inside : ◌≡◌ {A = Option ℕ} (Some x) (Some number) → x ≡ number
        inside e = cc
part-filled (suc first) count [] number filled =
    ap (take count) (sym (drop-nil first))
    ∙ part-filled first count [] number (λ k from below. filled (suc k) (omega arith) (omega arith))
part-filled (suc first) count (x ∷ xs) number filled =
    part-filled first count xs number (λ k from below. filled (suc k) (omega arith) (omega arith))
