-- Texts that are written behind a log, and how they are spelled.
use Rattle.std.proofs.Common.{◌≡◌, ℕ, ◌*◌, ◌≤◌, List, [], ◌∷◌, ◌++◌, length, Option, Some, None, ap, sym, ◌∙◌}
use Rattle.std.proofs.Common.{subst}
use Rattle.std.proofs.Common.{append_assoc, append-nil, codes, take, ◌+◌, arith}
use Rattle.std.proofs.lemmas.List.{length-map, take_more}
use Rattle.std.proofs.lemmas.List.Concat.{flat_map-append}
use Rattle.std.proofs.lemmas.Option.{get_or_from_slice_get, slice_get_within}
use Rattle.std.specs.List.{flat_map}
use Rattle.std.specs.Prelude.{IfSome, MatchOption, slice_get}
use Rattle.mm_model.specs.State.{State}
use Rattle.std.proofs.lemmas.List.FromFn.{length-map-range_with_len}
use Rattle.std.specs.Option.{option_map}
use Rattle.mm_model.specs.declared.settings.Settings.{Settings}
use Rattle.mm_model.specs.Views.View.{Shows, view_of, bases_below, seen_at}
use Rattle.mm_model.specs.Views.ObjectView.{ObjectView}
use Rattle.mm_model.proofs.Places.Falling.{falls_from, falls_within}
use Rattle.mm_model.proofs.View.ByBase.MappedEntries.{begins_mapped, mapped_begins}
use Rattle.mm_object.specs.Object.{StoredObject, view_of_stored}
use Rattle.mm_object.specs.Heap.{Heap, Covers, FallsInNone, IsSound}
use Rattle.mm_gc.specs.Gc.{Gc, view_of_gc}
use Rattle.mm_why.specs.declared.hop.Via.{Via}
use Rattle.mm_why.specs.declared.hop.Via.TheVariants.{Stack, Area, Slot}
use Rattle.mm_why.specs.declared.hop.Hop.{Hop}
use Rattle.mm_why.specs.Path.{Shown, shown_in, IsPathOf, IsLeastLength, HasNoPath}
use Rattle.mmgc.specs.Added.{hop_spelling}
use Rattle.mmgc.specs.Appending.{named, numbered, via_spelling, IsFoundIn, IsSearched}

-- what a heap shows of objects, stack and areas is what each of its states shows
pub shown_same : (heap : Gc) (a : State) → Shows (view_of_gc heap) a →
    shown_in (view_of_gc heap) ≡ shown_in (view_of a)
shown_same heap a shows = λ i. record { objects = shows.objects i; stack = shows.stack i; areas = shows.areas i }

-- how a hop is spelled, from its first word on
pub hop_spelled : (via : Via) (base : ℕ) →
    via_spelling via ++ (numbered base ++ codes "\n") ≡ hop_spelling (record { via = via; base = base })
hop_spelled (Stack cell) base = append_assoc (codes " stack") (numbered cell) (numbered base ++ codes "\n")
hop_spelled (Area area cell) base =
    append_assoc (named (codes " area") area) (numbered cell) (numbered base ++ codes "\n")
    ∙ append_assoc (codes " area") (numbered area) (numbered cell ++ (numbered base ++ codes "\n"))
hop_spelled (Slot slot) base = append_assoc (codes " slot") (numbered slot) (numbered base ++ codes "\n")

-- what a search answers
pub searched : (shown : Shown) (base : ℕ) (hops : List Hop) (result : Option ℕ) →
    MatchOption result (HasNoPath shown base) (IsLeastLength shown base) →
    IfSome result (λ count. IsPathOf shown base count hops) → IsSearched shown base hops result
searched shown base hops None none path = none
searched shown base hops (Some count) least path =
    record {
      shortest = record {
        path = path.path;
        least = λ others is. subst (λ n. n ≤ length others) (sym path.length) (least.least others is);
      };
      count_is = sym path.length;
    }

-- the object in which a word falls, as paths see it
pub found : (h : Heap) (word : ℕ) (result : Option ℕ) →
    MatchOption result (FallsInNone h word) (λ base. (object : StoredObject) × Covers h word base object) →
    IsFoundIn h word result
found h word None none =
    λ base f.
    let stored = mapped_begins view_of_stored h.objects base f.object f.begins in
    let extent : stored.value.extent ≡ f.object.extent = ap (λ (v : ObjectView). v.extent) stored.is in
    let at = falls_from word base f.object.extent f.within in
    let to = at.1 in
    none base stored.value (record { begins = stored.begins; from = at.0; to = omega arith })
found h word (Some base) hit =
    let object = hit.0 in
    let covers = hit.1 in
    record {
      object = (object, covers.begins);
      falls = record {
        object = view_of_stored object;
        begins = begins_mapped view_of_stored h.objects base object covers.begins;
        within = falls_within word base object.extent covers.from covers.to;
      };
    }

-- the heap has at most the pages of the greatest region
pub few_pages : (gc : Gc) (a : State) → Shows (view_of_gc gc) a → IsSound gc.region.heap →
    gc.region.heap.size ≤ gc.settings.max
few_pages gc a shows sound =
    let seen = ap length shows.objects in
    let views = length-map gc.region.heap.objects (option_map view_of_stored) in
    let entries = length-map (bases_below a.settings.max) (seen_at a) in
    let bases = length-map-range_with_len (λ grain. 16 * grain) 0 (256 * a.settings.max) in
    let same : gc.settings.max ≡ a.settings.max = ap (λ (s : Settings). s.max) shows.settings in
    omega (arith, sound.size, sound.entries, seen, views, entries, bases, same)

-- one hop more
pub hops_more : (hops : List Hop) (k : ℕ) (hop : Hop) → slice_get hops k ≡ Some hop →
    flat_map hop_spelling (take k hops) ++ hop_spelling hop ≡ flat_map hop_spelling (take (k + 1) hops)
hops_more hops k hop is =
    let within = slice_get_within hops k hop is in
    let one = append-nil (hop_spelling hop) in
    ap (λ text. flat_map hop_spelling (take k hops) ++ text) (sym one)
    ∙ sym (flat_map-append hop_spelling (take k hops) (hop ∷ []))
    ∙ ap (λ x. flat_map hop_spelling (take k hops ++ x ∷ [])) (sym (get_or_from_slice_get hops k hop hop is))
    ∙ ap (flat_map hop_spelling) (sym (take_more hops k hop within))
