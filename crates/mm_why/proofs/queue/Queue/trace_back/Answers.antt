use Rattle.std.proofs.Common.{◌≡◌, ◌+◌, ◌++◌, ◌∷◌, [], List, Option, Some, length, reverse, refl, sym, ap, subst, ◌∙◌}
use Rattle.std.proofs.Common.{arith}
use Rattle.std.proofs.Common.{length-append}
use Rattle.std.proofs.lemmas.Option.{slice_get_within}
use Rattle.mm_why.specs.declared.hop.Hop.{Hop}
use Rattle.mm_why.specs.declared.found.Found.{Found}
use Rattle.mm_why.specs.Path.{IsPathOf, hop_by}
use Rattle.mm_why.specs.Search.{LeadsOn}
use Rattle.mm_why.proofs.Traced.{before-slot, length-some, length-root, leads-slot, leads-root, leads-nowhere, traced}
use Rattle.mm_why.proofs.Traced.{trace-bounded}
use Rattle.mm_why.proofs.queue.Queue.trace_back.Goals as goal

pub hops-init : goal.hops-init
hops-init g c = record {
  entry = c.requires.entry;
  leads = λ shown reasons.
      subst (λ (hs : List Hop). LeadsOn shown c.args.last.base (reverse hs) c.args.last.base) (sym c.requires.none)
      (leads-nowhere shown c.args.last.base);
  count = let none = ap length c.requires.none in omega arith;
  room = refl;
  ticked = let none = ap length c.requires.none in omega arith;
}

pub push_reserved-requires : goal.push_reserved-requires
push_reserved-requires g c =
    let h = c.hops.invariant in
    let some = length-some c.args.self.now h.entry.place c.hops.entry c.requires.sound h.entry.is in
    let room = trace-bounded c.args.self.now c.requires.entry.place c.args.last _ _ c.requires.sound
    c.requires.entry.is h.count some in
    let len = c.hops.path.ok.0 in
    let same = h.room in
    let enough = c.requires.room in
    omega arith

pub at-entry-requires : goal.at-entry-requires
at-entry-requires g c =
    let h = c.hops.invariant in
    let b = before-slot c.args.self.now h.entry.place c.hops.entry c.in-Slot.slot c.requires.sound h.entry.is
    c.in-Slot.is in
    slice_get_within c.args.self.now.found c.hops.entry.lead.from b.by b.is

pub hops-smaller : goal.hops-smaller
hops-smaller g c =
    let h = c.hops.invariant in
    let b = before-slot c.args.self.now h.entry.place c.hops.entry c.in-Slot.slot c.requires.sound h.entry.is
    c.in-Slot.is in
    let same : ◌≡◌ {A = Option Found} (Some b.by) (Some c.at-entry.result) = sym b.is ∙ c.at-entry.ensures.entry in
    let one : b.by ≡ c.at-entry.result = cc in
    let lengths = ap (λ (f : Found). f.lead.length) one in
    let longer = b.longer in
    omega arith

pub hops-preserved : goal.hops-preserved
hops-preserved g c =
    let h = c.hops.invariant in
    let b = before-slot c.args.self.now h.entry.place c.hops.entry c.in-Slot.slot c.requires.sound h.entry.is
    c.in-Slot.is in
    let same : ◌≡◌ {A = Option Found} (Some b.by) (Some c.at-entry.result) = sym b.is ∙ c.at-entry.ensures.entry in
    let one : b.by ≡ c.at-entry.result = cc in
    let lengths = ap (λ (f : Found). f.lead.length) one in
    let hop = hop_by c.hops.entry.lead.via c.hops.entry.base in
    let items : c.hops.path.items ++ hop ∷ [] ≡ c.push_reserved.new.self.items =
    ap (λ (x : Hop). c.hops.path.items ++ x ∷ []) (sym c.hop.ensures) ∙ sym c.push_reserved.ensures.items in
    let size = ap length (sym items) ∙ length-append c.hops.path.items (hop ∷ []) in
    record {
      entry = record { place = c.hops.entry.lead.from; is = c.at-entry.ensures.entry; at = refl };
      leads = λ shown reasons.
          subst (λ (hs : List Hop). LeadsOn shown c.at-entry.result.base (reverse hs) c.args.last.base) items
          (leads-slot shown c.args.self.now h.entry.place c.hops.entry c.in-Slot.slot c.hops.path.items
          c.args.last.base c.requires.sound reasons h.entry.is c.at-entry.result c.at-entry.ensures.entry
          c.in-Slot.is (h.leads shown reasons));
      count = let all = h.count in let longer = b.longer in omega arith;
      room = c.push_reserved.ensures.capacity ∙ h.room;
      ticked = let a = h.ticked in let t = c.tick.ensures in omega arith;
    }

pub push_reserved-requires-2 : goal.push_reserved-requires-2
push_reserved-requires-2 g c =
    let h = c.hops.invariant in
    let some = length-some c.args.self.now h.entry.place c.hops.entry c.requires.sound h.entry.is in
    let room = trace-bounded c.args.self.now c.requires.entry.place c.args.last _ _ c.requires.sound
    c.requires.entry.is h.count some in
    let len = c.hops.path.ok.0 in
    let same = h.room in
    let enough = c.requires.room in
    omega arith

pub returns-clause-path : goal.returns-clause-path
returns-clause-path g c = λ shown reasons.
    let h = c.hops.invariant in
    let hop = hop_by c.hops.entry.lead.via c.hops.entry.base in
    let items : c.hops.path.items ++ hop ∷ [] ≡ c.push_reserved-2.new.self.items =
    ap (λ (x : Hop). c.hops.path.items ++ x ∷ []) (sym c.hop-2.ensures) ∙ sym c.push_reserved-2.ensures.items in
    let one = length-root c.args.self.now h.entry.place c.hops.entry c.requires.sound h.entry.is
    c.in_default.not-Slot in
    let count = h.count in
    let size : length c.hops.path.items + 1 ≡ c.args.last.lead.length = omega arith in
    subst (λ (hs : List Hop). IsPathOf shown c.args.last.base c.args.last.lead.length (reverse hs)) items
    (traced shown c.hops.path.items hop c.args.last.base c.args.last.lead.length
    (leads-root shown c.args.self.now h.entry.place c.hops.entry c.hops.path.items c.args.last.base reasons
    h.entry.is c.in_default.not-Slot (h.leads shown reasons)) size)

pub returns-clause-room : goal.returns-clause-room
returns-clause-room g c = c.push_reserved-2.ensures.capacity ∙ c.hops.invariant.room

pub returns-clause-cost : goal.returns-clause-cost
returns-clause-cost g c =
    let h = c.hops.invariant in
    let some = length-some c.args.self.now h.entry.place c.hops.entry c.requires.sound h.entry.is in
    let room = trace-bounded c.args.self.now c.requires.entry.place c.args.last _ _ c.requires.sound
    c.requires.entry.is h.count some in
    let a = h.ticked in
    let t = c.tick-2.ensures in
    omega arith
