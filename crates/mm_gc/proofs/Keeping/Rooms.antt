-- Rooms and pieces stay where a command changes neither.
use Rattle.std.proofs.Common.{◌≡◌, ◌-◌, ◌*◌, ◌≤◌, sym, ap, ◌∙◌, subst, arith}
use Rattle.mm_model.specs.declared.settings.Settings.{Settings}
use Rattle.mm_model.specs.Places.Limits.{IsWithinLimits}
use Rattle.mm_words.specs.Location.{Location}
use Rattle.mm_roots.specs.Stack.{Cells}
use Rattle.mm_count.specs.Table.{Table, IsSameTable}
use Rattle.mm_gc.specs.Gc.{Gc}
use Rattle.mm_gc.specs.Kept.{HasRooms, HasAllPieces}
use Rattle.mm_gc.specs.Regions.{IsSameRegion}

-- the parts of a heap lie where they lay
pub record HasSameRooms (old new : Gc) : Type 0 where
  pub region : IsSameRegion old.region new.region
  pub stack : new.stack ≡ old.stack
  pub table : IsSameTable old.table new.table
  pub queue : new.marker.location ≡ old.marker.location
  pub room : new.marker.room ≡ old.marker.room
  pub dead : new.dead ≡ old.dead
  pub settings : new.settings ≡ old.settings

module _ (old new : Gc) (same : HasSameRooms old new) where
  pub rooms-kept : HasRooms old → HasRooms new
  rooms-kept rooms =
      record {
        within = subst IsWithinLimits (sym same.settings) rooms.within;
        least = same.region.least ∙ rooms.least ∙ ap (λ (s : Settings). s.pages) (sym same.settings);
        most = same.region.most ∙ rooms.most ∙ ap (λ (s : Settings). s.max) (sym same.settings);
        stack = ap (λ (s : Cells). s.limit) same.stack ∙ rooms.stack
            ∙ ap (λ (s : Settings). s.stack) (sym same.settings);
        queue = same.room ∙ rooms.queue ∙ ap (λ (s : Settings). s.queue) (sym same.settings);
        table = ap (λ (t : Table). t.pages) same.table ∙ rooms.table
            ∙ ap (λ (s : Settings). s.max) (sym same.settings);
        dead = subst (λ (s : Settings). 256 * (s.max - 1) ≤ new.dead.size) (sym same.settings)
            (subst (λ (l : Location). 256 * (old.settings.max - 1) ≤ l.size) (sym same.dead) rooms.dead);
      }

  pub pieces-kept : HasAllPieces old → HasAllPieces new
  pieces-kept pieces =
      let name = sym same.region.name in
      let out = pieces.out in
      let words = same.region.out in
      let stack = ap (λ (s : Cells). s.location.size) same.stack in
      let table = ap (λ (t : Table). t.location.size) same.table in
      let queue = ap (λ (l : Location). l.size) same.queue in
      let dead = ap (λ (l : Location). l.size) same.dead in
      record {
        pages = ap (λ (l : Location). l.arena) same.region.pages ∙ pieces.pages ∙ name;
        cells = ap (λ (l : Location). l.arena) same.region.cells ∙ pieces.cells ∙ name;
        fixed = ap (λ (l : Location). l.arena) same.region.fixed ∙ pieces.fixed ∙ name;
        areas = ap (λ (l : Location). l.arena) same.region.areas ∙ pieces.areas ∙ name;
        stack = ap (λ (s : Cells). s.location.arena) same.stack ∙ pieces.stack ∙ name;
        table = ap (λ (t : Table). t.location.arena) same.table ∙ pieces.table ∙ name;
        queue = ap (λ (l : Location). l.arena) same.queue ∙ pieces.queue ∙ name;
        dead = ap (λ (l : Location). l.arena) same.dead ∙ pieces.dead ∙ name;
        out = omega (arith, out, words, stack, table, queue, dead);
      }
