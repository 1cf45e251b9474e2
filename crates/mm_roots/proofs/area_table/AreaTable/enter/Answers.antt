use Rattle.std.proofs.Common.{◌≡◌, ◌+◌, ℕ, Some, set, ap, ◌∙◌, arith}
use Rattle.mm_words.specs.Piece.{Piece}
use Rattle.mm_words.specs.Location.{location_of}
use Rattle.mm_roots.specs.declared.area_shape.AreaShape.{AreaShape}
use Rattle.mm_roots.specs.Kept.{AreaRows}
use Rattle.mm_roots.proofs.Tables.{row_set, location-written}
use Rattle.mm_roots.proofs.Changes.{IsSet-row, length-row, IsSet-scanned, location-set, entered-areas, entered-keeps}
use Rattle.mm_roots.proofs.area_table.AreaTable.enter.Goals as goal

-- the words of the row, once all three are written
rows : (p one two three : Piece) (number : ℕ) (area : AreaShape)
    → one ≡ record p { words = set p.words (72 + number) area.base }
    → two ≡ record one { words = set one.words (1096 + number) area.counted }
    → three ≡ record two { words = set two.words (2120 + number) area.cells }
    → three.words ≡ row_set p.words number area
rows p one two three number area a b c =
    ap (λ (q : Piece). q.words) c
    ∙ ap (λ (q : Piece). set q.words (2120 + number) area.cells) b
    ∙ ap (λ (q : Piece). set (set q.words (1096 + number) area.counted) (2120 + number) area.cells) a

pub write_member-requires-clause-set : goal.write_member-requires-clause-set
write_member-requires-clause-set c =
    let p = c.self.inside.words in
    let is = rows p c.set.new.self c.set-2.new.self c.set-3.new.self c.args.number c.args.area c.set.ensures
    c.set-2.ensures c.set-3.ensures in
    IsSet-row p c.set-3.new.self c.args.number c.args.area c.requires.number c.self.invariant.room is 36 (omega arith)
    c.self.invariant.scanned

pub write_member-requires-2-clause-set : goal.write_member-requires-2-clause-set
write_member-requires-2-clause-set c =
    let p = c.self.inside.words in
    let is = rows p c.set.new.self c.set-2.new.self c.set-3.new.self c.args.number c.args.area c.set.ensures
    c.set-2.ensures c.set-3.ensures in
    let room = c.self.invariant.room in
    let size = length-row p c.set-3.new.self c.args.number c.args.area c.requires.number room is in
    IsSet-scanned c.set-3.new.self c.write_member.new.table c.args.number c.args.area.scanned (omega arith)
    c.write_member.ensures
    (IsSet-row p c.set-3.new.self c.args.number c.args.area c.requires.number room is 0 (omega arith)
    c.self.invariant.free)

pub invariant_of-self : goal.invariant_of-self
invariant_of-self c =
    let p = c.self.inside.words in
    let is = rows p c.set.new.self c.set-2.new.self c.set-3.new.self c.args.number c.args.area c.set.ensures
    c.set-2.ensures c.set-3.ensures in
    entered-keeps p c.set-3.new.self c.write_member.new.table c.write_member-2.new.table c.args.number
    c.requires.number c.self.invariant c.args.area c.requires.shape is c.write_member.ensures c.write_member-2.ensures

pub returns-clause-location : goal.returns-clause-location
returns-clause-location c =
    let p = c.self.inside.words in
    location-written c.write_member.new.table c.write_member-2.new.table 0 c.args.number _ c.write_member-2.ensures
    ∙ location-written c.set-3.new.self c.write_member.new.table 36 c.args.number _ c.write_member.ensures
    ∙ ap location_of c.set-3.ensures ∙ location-set c.set-2.new.self (2120 + c.args.number) c.args.area.cells
    ∙ ap location_of c.set-2.ensures ∙ location-set c.set.new.self (1096 + c.args.number) c.args.area.counted
    ∙ ap location_of c.set.ensures ∙ location-set p (72 + c.args.number) c.args.area.base
    ∙ ap (λ (r : AreaRows). r.location) c.self.view_is

pub returns-clause-areas : goal.returns-clause-areas
returns-clause-areas c =
    let p = c.self.inside.words in
    let is = rows p c.set.new.self c.set-2.new.self c.set-3.new.self c.args.number c.args.area c.set.ensures
    c.set-2.ensures c.set-3.ensures in
    entered-areas p c.set-3.new.self c.write_member.new.table c.write_member-2.new.table c.args.number
    c.requires.number c.self.invariant c.args.area c.requires.shape is c.write_member.ensures c.write_member-2.ensures
    ∙ ap (λ (r : AreaRows). set r.areas c.args.number (Some c.args.area)) c.self.view_is
