-- An entry is empty.
use Rattle.std.proofs.Common.{◌≡◌, ◌/◌, length, ap, ◌∙◌, sym, arith}
use Rattle.std.specs.Prelude.{None, is_some}
use Rattle.std.proofs.lemmas.List.{length-set, length-map}
use Rattle.mm_model.specs.Views.ByBase.{with_entry}
use Rattle.mm_audit.specs.Objects.{shown}
use Rattle.mm_audit.specs.declared.header.Header.{Header}
use Rattle.mm_audit.proofs.Grains.{taken-set}
use Rattle.mm_audit.proofs.Shown.{length-shown}
use Rattle.mm_audit.proofs.Changed.{shown-freed, kept-freed}
use Rattle.mm_audit.proofs.objects.Objects.free.Goals as goal
use Rattle.std.proofs.Common.{map}
use Rattle.mm_audit.specs.Objects.{KeepsObjects}
use Rattle.std.proofs.Common.{subst}

pub enter-self-inside-requires-clause-inside : goal.enter-self-inside-requires-clause-inside
enter-self-inside-requires-clause-inside c =
    let s = c.self.inside in
    let size : length (shown s.words.items s.entries.items) ≡ length c.args.self.now = ap length c.self.view_is in
    let len = s.entries.ok.0 in
    omega (arith, length-shown s.words.items s.entries.items)

pub remove-requires : goal.remove-requires
remove-requires c =
    let s = c.self.inside in
    let size : length (shown s.words.items s.entries.items) ≡ length c.args.self.now = ap length c.self.view_is in
    let marks = ap length c.self.invariant.marks in
    record {
      inside = omega (
        arith,
        length-shown s.words.items s.entries.items,
        length-map s.entries.items (is_some {T = Header}),
        c.requires.inside,
      );
    }

pub invariant_of-self : goal.invariant_of-self
invariant_of-self c =
    let s = c.self.inside in
    let entry = sym c.enter-self-inside.ensures.entry in
    record {
      objects = subst (λ es. KeepsObjects es s.begins.items s.words.items) entry
          (kept-freed s.entries.items s.begins.items s.words.items c.self.invariant.objects (c.args.base / 16));
      marks = c.remove.ensures ∙ taken-set s.entries.items s.taken c.self.invariant.marks (c.args.base / 16) None
          ∙ ap (map is_some) entry;
      right = c.enter-self-inside.ensures.grays;
    }

pub returns-clause-freed : goal.returns-clause-freed
returns-clause-freed c =
    let s = c.self.inside in
    let size : length (shown s.words.items s.entries.items) ≡ length c.args.self.now = ap length c.self.view_is in
    ap (shown s.words.items) c.enter-self-inside.ensures.entry
    ∙ shown-freed s.entries.items s.begins.items s.words.items c.self.invariant.objects c.args.base
    (omega (arith, length-shown s.words.items s.entries.items))
    ∙ ap (with_entry c.args.base None) c.self.view_is

pub returns-clause-size : goal.returns-clause-size
returns-clause-size c =
    let s = c.self.inside in
    length-shown s.words.items c.enter-self-inside.new.entries.items ∙ ap length c.enter-self-inside.ensures.entry
    ∙ length-set s.entries.items (c.args.base / 16) None ∙ sym (length-shown s.words.items s.entries.items)
    ∙ ap length c.self.view_is
