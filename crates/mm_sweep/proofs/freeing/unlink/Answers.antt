use Rattle.std.proofs.Common.{◌≡◌, ◌≢◌, ℕ, Bool, true, false, inl, inr, refl, sym, ap, ◌∙◌, arith}
use Rattle.mm_model.specs.declared.object.Kind.{Kind}
use Rattle.mm_model.specs.declared.object.Kind.TheVariants.{Traced, Leaf, Counted, Weak}
use Rattle.mm_model.specs.Object.{is_weak}
use Rattle.mm_model.specs.Views.ByBase.{Begins}
use Rattle.mm_model.proofs.View.ByBase.Entries.{begins_same}
use Rattle.mm_object.specs.Object.{StoredObject}
use Rattle.mm_object.specs.Heap.{Heap, IsSound}
use Rattle.mm_weak.specs.Links.{IsLinked, IsParted}
use Rattle.mm_sweep.proofs.Partners.{link-unflagged}
use Rattle.mm_sweep.proofs.Parted.{IsUnlinked, cut-weak, cut-target, unlinked-cut, unlinked-alone, base_some}
use Rattle.std.proofs.lemmas.Bool.{cases_eq}
use Rattle.mm_sweep.proofs.freeing.unlink.Goals as goal

weak_kind : (h : Heap) (base : ℕ) (object : StoredObject) (kind : Kind) → kind ≡ Weak → kind ≡ object.kind
    → is_weak object.kind ≡ true
weak_kind h base object kind is told = ap is_weak (sym told ∙ is)

other_kind : (kind : Kind) → (kind ≡ Weak → ⊥) → is_weak kind ≡ false
other_kind Traced ne = refl
other_kind Leaf ne = refl
other_kind Counted ne = refl
other_kind Weak ne = absurd (ne refl)

forgotten : (h after : Heap) (w : ℕ) (object : StoredObject) → IsLinked h → IsSound h → Begins h.objects w object
    → ((weak : StoredObject) → Begins h.objects w weak → weak.link ≢ 0 → IsParted h weak.link w after)
    → ((weak : StoredObject) → Begins h.objects w weak → weak.link ≡ 0 → after ≡ h) → IsUnlinked h after w
forgotten h after w object linked sound begins parts stays =
    let some = base_some h w object sound begins in
    elim (cases_eq object.link 0) [
      | inl alone ↦ unlinked-alone h after w object linked begins some alone (stays object begins alone)
      | inr named ↦
          unlinked-cut h after w object linked begins some
          (cut-weak h after w object linked begins named (parts object begins named))
    ]

cleared : (h after : Heap) (base : ℕ) (object : StoredObject) → IsLinked h → IsSound h → Begins h.objects base object
    → is_weak object.kind ≡ false
    → ((o : StoredObject) → Begins h.objects base o → o.has_weak ≡ true → IsParted h base o.link after)
    → ((o : StoredObject) → Begins h.objects base o → o.has_weak ≡ false → after ≡ h) → IsUnlinked h after base
cleared h after base object linked sound begins kind parts stays = split object.has_weak refl
  where
    split : (b : Bool) → object.has_weak ≡ b → IsUnlinked h after base
    split true flag =
        unlinked-cut h after base object linked begins (base_some h base object sound begins)
        (cut-target h after base object linked begins flag (parts object begins flag))
    split false flag =
        unlinked-alone h after base object linked begins (base_some h base object sound begins)
        (link-unflagged h base object linked begins kind flag) (stays object begins flag)

alone : (h after : Heap) (base : ℕ) → IsUnlinked h after base → (object : StoredObject)
    → Begins after.objects base object → object.link ≡ 0
alone h after base is object begins =
    ap (λ (o : StoredObject). o.link) (begins_same after.objects base object is.object begins is.begins) ∙ is.alone

pub forget-requires-clause-weak : goal.forget-requires-clause-weak
forget-requires-clause-weak g c =
    let o = c.requires.object in
    record {
      object = o.0;
      begins = o.1;
      kind =
          weak_kind c.args.heap.now c.args.base o.0 c.shape.result.kind c.in-Weak.is
          (ap (λ s. s.kind) (c.shape.ensures.shape o.0 o.1));
    }

pub returns-in-Weak-clause-objects : goal.returns-in-Weak-clause-objects
returns-in-Weak-clause-objects g c =
    let o = c.requires.object in
    (forgotten c.args.heap.now c.forget.new.heap c.args.base o.0 c.requires.linked c.shape.ensures.sound o.1
    c.forget.ensures.forgotten c.forget.ensures.alone).objects

pub returns-in-Weak-clause-object : goal.returns-in-Weak-clause-object
returns-in-Weak-clause-object g c =
    let o = c.requires.object in
    let is = forgotten c.args.heap.now c.forget.new.heap c.args.base o.0 c.requires.linked c.shape.ensures.sound o.1
    c.forget.ensures.forgotten c.forget.ensures.alone in
    (is.object, is.begins)

pub returns-in-Weak-clause-alone : goal.returns-in-Weak-clause-alone
returns-in-Weak-clause-alone g c =
    let o = c.requires.object in
    alone c.args.heap.now c.forget.new.heap c.args.base
    (forgotten c.args.heap.now c.forget.new.heap c.args.base o.0 c.requires.linked c.shape.ensures.sound o.1
    c.forget.ensures.forgotten c.forget.ensures.alone)

pub returns-in-Weak-clause-rest : goal.returns-in-Weak-clause-rest
returns-in-Weak-clause-rest g c =
    let o = c.requires.object in
    (forgotten c.args.heap.now c.forget.new.heap c.args.base o.0 c.requires.linked c.shape.ensures.sound o.1
    c.forget.ensures.forgotten c.forget.ensures.alone).rest

pub returns-in_default : goal.returns-in_default
returns-in_default g c =
    let o = c.requires.object in
    let told = ap (λ s. s.kind) (c.shape.ensures.shape o.0 o.1) in
    let kind = ap is_weak (sym told) ∙ other_kind c.shape.result.kind c.in_default.not-Weak in
    let is = cleared c.args.heap.now c.clear_for.new.heap c.args.base o.0 c.requires.linked c.shape.ensures.sound o.1
    kind
    c.clear_for.ensures.cleared c.clear_for.ensures.alone in
    record {
      objects = is.objects;
      object = (is.object, is.begins);
      alone = alone c.args.heap.now c.clear_for.new.heap c.args.base is;
      rest = is.rest;
      linked = c.clear_for.ensures.linked;
      sound = c.clear_for.ensures.sound;
      cost = omega (arith, c.shape.ensures.cost, c.clear_for.ensures.cost);
    }
