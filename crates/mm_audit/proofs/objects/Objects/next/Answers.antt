-- The next grain that is marked is that of the next object.
use Rattle.std.proofs.Common.{◌*◌, ◌/◌, List, Bool, Some, sym, subst, arith}
use Rattle.std.proofs.lemmas.Option.{slice_get_within}
use Rattle.mm_model.specs.Views.ByBase.{Begins}
use Rattle.mm_audit.specs.Bits.{IsMarked}
use Rattle.mm_audit.specs.Objects.{object_in}
use Rattle.mm_audit.proofs.Grains.{taken-entry, entry-taken}
use Rattle.mm_audit.proofs.Shown.{begins-kept, kept-begins}
use Rattle.mm_audit.proofs.objects.Objects.next.Goals as goal

pub returns-then-len-grain-clause-next : goal.returns-then-len-grain-clause-next
returns-then-len-grain-clause-next c base object from there =
    let s = c.self.inside in
    let begins = subst (λ v. Begins v base object) (sym c.self.view_is) there in
    let kept = begins-kept s.words.items s.entries.items base object begins in
    let at = kept.at in
    let below = slice_get_within s.entries.items (base / 16) (Some kept.header) kept.is in
    let len = s.entries.ok.0 in
    omega arith

pub overflow_mul-result : goal.overflow_mul-result
overflow_mul-result c =
    let s = c.self.inside in
    let next = c.in-Some.next in
    let marked = subst (λ (v : List Bool). IsMarked v next) c.self.invariant.marks c.in-Some.ensures.marked in
    let entry = entry-taken s.entries.items next marked in
    let below = slice_get_within s.entries.items next (Some entry.0) entry.1 in
    let few = c.self.invariant.objects.few in
    omega arith

pub returns-in-Some-clause-small : goal.returns-in-Some-clause-small
returns-in-Some-clause-small c =
    let s = c.self.inside in
    let next = c.in-Some.next in
    let marked = subst (λ (v : List Bool). IsMarked v next) c.self.invariant.marks c.in-Some.ensures.marked in
    let entry = entry-taken s.entries.items next marked in
    let below = slice_get_within s.entries.items next (Some entry.0) entry.1 in
    let few = c.self.invariant.objects.few in
    omega arith

pub returns-in-None-clause-next : goal.returns-in-None-clause-next
returns-in-None-clause-next c base object from there =
    let s = c.self.inside in
    let begins = subst (λ v. Begins v base object) (sym c.self.view_is) there in
    let kept = begins-kept s.words.items s.entries.items base object begins in
    let at = kept.at in
    let aligned = c.requires.aligned in
    let marked = taken-entry s.entries.items (base / 16) kept.header kept.is in
    c.in-None.ensures (base / 16) (omega arith)
    (subst (λ (v : List Bool). IsMarked v (base / 16)) (sym c.self.invariant.marks) marked)

pub returns-in-Some-clause-next : goal.returns-in-Some-clause-next
returns-in-Some-clause-next c =
    let s = c.self.inside in
    let next = c.in-Some.next in
    let marked = subst (λ (v : List Bool). IsMarked v next) c.self.invariant.marks c.in-Some.ensures.marked in
    let entry = entry-taken s.entries.items next marked in
    let object = object_in s.words.items next entry.0 in
    let begins = kept-begins s.words.items s.entries.items next entry.0 entry.1 in
    let aligned = c.requires.aligned in
    let reached = c.in-Some.ensures.reached in
    record {
      is = record { object = object; begins = subst (λ v. Begins v (16 * next) object) c.self.view_is begins };
      reached = omega arith;
      least = λ lower other from there.
          let own = subst (λ v. Begins v lower other) (sym c.self.view_is) there in
          let kept = begins-kept s.words.items s.entries.items lower other own in
          let at = kept.at in
          let mark = taken-entry s.entries.items (lower / 16) kept.header kept.is in
          let least = c.in-Some.ensures.least (lower / 16) (omega arith)
          (subst (λ (v : List Bool). IsMarked v (lower / 16)) (sym c.self.invariant.marks) mark) in
          omega arith;
    }
