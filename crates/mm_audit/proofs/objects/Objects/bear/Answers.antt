-- The room of the object is filled, and then its header is written.
use Rattle.std.proofs.Common.{◌≡◌, ◌/◌, length, Some, ap, ◌∙◌, sym, subst, arith}
use Rattle.std.specs.Prelude.{slice_set}
use Rattle.std.proofs.lemmas.List.{length-set}
use Rattle.mm_model.specs.Views.ByBase.{with_entry}
use Rattle.mm_audit.specs.declared.header.Header.{Header}
use Rattle.mm_audit.specs.Objects.{shown, newborn_of, IsRoomFor, KeepsObjects}
use Rattle.mm_audit.proofs.Grains.{taken-set}
use Rattle.mm_audit.proofs.Shown.{length-shown}
use Rattle.mm_audit.proofs.Changed.{shown-born, kept-born}
use Rattle.mm_audit.proofs.objects.Objects.bear.Goals as goal
use Rattle.std.proofs.Common.{map}
use Rattle.std.specs.Prelude.{is_some}
use Rattle.std.proofs.lemmas.List.{length-map}

pub fill-requires : goal.fill-requires
fill-requires c =
    let s = c.self.inside in
    let room = c.requires.room in
    let aligned = room.aligned in
    let whole = room.whole in
    let inside = room.inside in
    let size : length (shown s.words.items s.entries.items) ≡ length c.args.self.now = ap length c.self.view_is in
    let each = c.self.invariant.objects.each_grain in
    omega (arith, length-shown s.words.items s.entries.items)

pub fill-requires-2 : goal.fill-requires-2
fill-requires-2 c =
    let s = c.self.inside in
    let room = c.requires.room in
    let aligned = room.aligned in
    let inside = room.inside in
    let fits = room.fits in
    let size : length (shown s.words.items s.entries.items) ≡ length c.args.self.now = ap length c.self.view_is in
    let each = c.self.invariant.objects.each_word in
    omega (arith, length-shown s.words.items s.entries.items)

pub enter-self-inside-requires-clause-inside : goal.enter-self-inside-requires-clause-inside
enter-self-inside-requires-clause-inside c =
    let s = c.self.inside in
    let room = c.requires.room in
    let inside = room.inside in
    let fits = room.fits in
    let size : length (shown s.words.items s.entries.items) ≡ length c.args.self.now = ap length c.self.view_is in
    let len = s.entries.ok.0 in
    omega (arith, length-shown s.words.items s.entries.items)

pub invariant_of-self : goal.invariant_of-self
invariant_of-self c =
    let s = c.self.inside in
    let begins = c.fill.new.row.items in
    let words = c.fill-2.new.row.items in
    let room = subst (λ v. IsRoomFor v c.args.base c.args.extent c.args.shape.slots) (sym c.self.view_is)
    c.requires.room in
    let entry = sym c.enter-self-inside.ensures.entry in
    record {
      objects = subst (λ es. KeepsObjects es begins words) entry
          (subst (λ (h : Header). KeepsObjects (slice_set s.entries.items (c.args.base / 16) (Some h)) begins words)
          (sym c.newborn-header.ensures)
          (kept-born s.entries.items s.begins.items s.words.items c.self.invariant.objects c.args.base c.args.extent
          c.args.shape c.args.colour room begins words c.fill.ensures c.fill-2.ensures));
      marks = c.insert.ensures
          ∙ taken-set s.entries.items s.taken c.self.invariant.marks (c.args.base / 16) (Some c.newborn-header.result)
          ∙ ap (map is_some) entry;
      right = c.enter-self-inside.ensures.grays;
    }

pub returns-clause-born : goal.returns-clause-born
returns-clause-born c =
    let s = c.self.inside in
    let begins = c.fill.new.row.items in
    let words = c.fill-2.new.row.items in
    let room = subst (λ v. IsRoomFor v c.args.base c.args.extent c.args.shape.slots) (sym c.self.view_is)
    c.requires.room in
    ap (shown words) c.enter-self-inside.ensures.entry
    ∙ ap (λ (h : Header). shown words (slice_set s.entries.items (c.args.base / 16) (Some h))) c.newborn-header.ensures
    ∙ shown-born s.entries.items s.begins.items s.words.items c.self.invariant.objects c.args.base c.args.extent
    c.args.shape c.args.colour room begins words c.fill.ensures c.fill-2.ensures
    ∙ ap (with_entry c.args.base (Some (newborn_of c.args.extent c.args.shape c.args.colour))) c.self.view_is

pub returns-clause-size : goal.returns-clause-size
returns-clause-size c =
    let s = c.self.inside in
    length-shown c.fill-2.new.row.items c.enter-self-inside.new.entries.items
    ∙ ap length c.enter-self-inside.ensures.entry
    ∙ length-set s.entries.items (c.args.base / 16) (Some c.newborn-header.result)
    ∙ sym (length-shown s.words.items s.entries.items) ∙ ap length c.self.view_is

pub insert-requires : goal.insert-requires
insert-requires c =
    let s = c.self.inside in
    let room = c.requires.room in
    let inside = room.inside in
    let fits = room.fits in
    let size : length (shown s.words.items s.entries.items) ≡ length c.args.self.now = ap length c.self.view_is in
    let marks = ap length c.self.invariant.marks in
    record {
      inside = omega (
        arith,
        length-shown s.words.items s.entries.items,
        length-map s.entries.items (is_some {T = Header}),
      );
    }
