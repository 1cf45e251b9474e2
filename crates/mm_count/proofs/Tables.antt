-- What stays of the table where its entries change.
use Rattle.std.proofs.Common.{◌≡◌, ℕ, Bool, cond, true, false, [], ◌∷◌, ◌++◌, refl, sym, ap, ◌∙◌}
use Rattle.std.proofs.Common.{List, length, take, ◌≤◌, arith}
use Rattle.std.proofs.lemmas.List.{length-take, take-take}
use Rattle.std.proofs.Math.Seq.{take-append_seam, take-length}
use Rattle.std.specs.Prelude.{not, ◌&&◌, ◌==◌}
use Rattle.mm_count.specs.declared.composite.Composite.{Composite}
use Rattle.mm_count.specs.Table.{Table, with_entries, without_place, IsSameTable}
use Rattle.mm_count.specs.Counts.{table_left, table_lowered}

pub same-table : (a b c : Table) → IsSameTable a b → IsSameTable b c → IsSameTable a c
same-table a b c p q = q ∙ ap (λ (t : Table). with_entries t c.entries) p

one-of : (b : Bool) (table other : Table) → IsSameTable table other → IsSameTable table (cond b other table)
one-of true table other same = same
one-of false table other same = refl

pub lowered-table : (a b : Table) (c : Composite) (base : ℕ) → b ≡ table_lowered a c base → IsSameTable a b
lowered-table a b c base is =
    is
    ∙ one-of (not c.sticky && c.count == 1) a (with_entries a (a.entries ++ base ∷ [])) refl
    ∙ ap (λ (t : Table). with_entries a t.entries) (sym is)

pub left-table : (a b : Table) (c : Composite) → b ≡ table_left a c → IsSameTable a b
left-table a b c is =
    is ∙ one-of c.listed a (with_entries a (without_place a.entries c.place)) refl
    ∙ ap (λ (t : Table). with_entries a t.entries) (sym is)

-- the entries that were there stand in front
front-of : (enters : Bool) (a : Table) (base : ℕ) →
    take (length a.entries) (cond enters (with_entries a (a.entries ++ base ∷ [])) a).entries ≡ a.entries
front-of true a base = take-append_seam a.entries (base ∷ [])
front-of false a base = take-length a.entries

pub lowered-front : (a b : Table) (c : Composite) (base : ℕ) → b ≡ table_lowered a c base →
    take (length a.entries) b.entries ≡ a.entries
lowered-front a b c base is =
    ap (λ (t : Table). take (length a.entries) t.entries) is ∙ front-of (not c.sticky && c.count == 1) a base

pub front-same : (entries : List ℕ) → take (length entries) entries ≡ entries
front-same entries = take-length entries

pub front-then : (a b c : List ℕ) → take (length a) b ≡ a → take (length b) c ≡ b → take (length a) c ≡ a
front-then a b c one two =
    let within : length a ≤ length b = omega (arith, ap length one, length-take (length a) b) in
    sym (take-take (length a) (length b) c within) ∙ ap (take (length a)) two ∙ one
