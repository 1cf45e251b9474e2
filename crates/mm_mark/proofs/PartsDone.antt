-- A part of one object is a part in each view that shows the marking.
use Rattle.std.proofs.Common.{◌≡◌, ℕ, ◌+◌, ◌<◌, Bool, true, false, List, length, take, drop, Option, Some, None, refl}
use Rattle.std.proofs.Common.{sym, ap, subst, ◌∙◌, arith, eqb-true}
use Rattle.std.specs.Prelude.{IfSome, IsTrue, MatchOption, ◌==◌, if◌then◌else◌}
use Rattle.std.specs.Option.{option_map}
use Rattle.std.proofs.lemmas.Bool.{eq-eqb}
use Rattle.mm_model.specs.declared.object.Colour.TheVariants.{Gray, Black}
use Rattle.mm_model.specs.declared.object.Part.{Part}
use Rattle.mm_model.specs.Views.ByBase.{Begins, Based, with_entry}
use Rattle.mm_model.specs.Views.ObjectView.{ObjectView, ObjectsByBase, scanned_words_of}
use Rattle.mm_model.specs.Views.SetsByBase.{with_grayed_objects}
use Rattle.mm_model.specs.Views.View.{View, CycleView, PartlyScannedView}
use Rattle.mm_model.specs.Views.ViewStep.{view_advanced, with_partly, slots_done_in, slots_done_of, may_go_on}
use Rattle.mm_mark.specs.Marker.{Marking, ShowsMarking, IsPartOf, IsPartDone, HasNoGray}
use Rattle.mm_mark.specs.Parts.{NoneIsGray, IsScanned, IsAdvanced, part_words, part_end}

pub none-gray_in_views : (before : Marking) → NoneIsGray before.objects → HasNoGray before
none-gray_in_views before none view shows base object begins gray =
    none base object (subst (λ (os : ObjectsByBase). Begins os base object) shows.shown begins) gray

module _ (before after : Marking) (from : PartlyScannedView) (object : ObjectView) (view : View)
    (shows : ShowsMarking before view) where
  abbrev turn : Based ObjectView
  turn = record { base = from.base; value = object }

  abbrev words : List ℕ
  words = part_words from object

  abbrev all : ℕ
  all = length (scanned_words_of object)

  abbrev shaded : View
  shaded = record view { objects = with_grayed_objects words view.objects }

  abbrev blackened : View
  blackened = record shaded {
    objects = with_entry from.base (Some (record object { colour = Black })) shaded.objects;
    cycle = option_map (with_partly None) view.cycle;
  }

  abbrev under : ℕ → View
  under n = record shaded {
    cycle = option_map (with_partly (Some (record { base = from.base; slots_done = n }))) view.cycle;
  }

  shown-black : part_end from object ≡ all
      → after.objects ≡ with_entry from.base (Some (record object { colour = Black }))
      (with_grayed_objects words before.objects)
      → after.marker.partly ≡ None → ShowsMarking after (view_advanced turn (part_end from object) shaded)
  shown-black whole now none =
      subst (λ (b : Bool). ShowsMarking after (if b then blackened else under (part_end from object)))
      (sym (eq-eqb (part_end from object) all whole))
      (record {
        shown =
            ap (λ (os : ObjectsByBase). with_entry from.base (Some (record object { colour = Black }))
            (with_grayed_objects words os)) shows.shown
            ∙ sym now;
        cycle = with_partly None shows.cycle;
        runs = ap (option_map (with_partly None)) shows.runs;
        partly = sym none;
      })

  shown-under : part_end from object < all → after.objects ≡ with_grayed_objects words before.objects
      → after.marker.partly ≡ Some (record { base = from.base; slots_done = part_end from object })
      → ShowsMarking after (view_advanced turn (part_end from object) shaded)
  shown-under below now partly = split (part_end from object == all) refl
    where
      split : (b : Bool) → (part_end from object == all) ≡ b
          → ShowsMarking after (if part_end from object == all then blackened else under (part_end from object))
      split true e = let same : part_end from object ≡ all = eqb-true (part_end from object) all e in
          absurd (omega arith)
      split false e =
          subst (λ (b : Bool). ShowsMarking after (if b then blackened else under (part_end from object))) (sym e)
          (record {
            shown = ap (with_grayed_objects words) shows.shown ∙ sym now;
            cycle = with_partly (Some (record { base = from.base; slots_done = part_end from object })) shows.cycle;
            runs =
                ap (option_map (with_partly (Some (record { base = from.base; slots_done = part_end from object }))))
                shows.runs;
            partly = sym partly;
          })

  advanced-shown : IsAdvanced before.objects from object after
      → ShowsMarking after (view_advanced turn (part_end from object) shaded)
  advanced-shown (IsAdvanced.Is_black whole now none) = shown-black whole now none
  advanced-shown (IsAdvanced.Is_under_scan below now partly) = shown-under below now partly

  -- how many slots are done in the view
  done-shown : from.slots_done ≡ slots_done_of before.marker.partly from.base
      → slots_done_in view.cycle from.base ≡ from.slots_done
  done-shown done =
      ap (λ (c : Option CycleView). slots_done_in c from.base) shows.runs
      ∙ ap (λ (p : Option PartlyScannedView). slots_done_of p from.base) shows.partly ∙ sym done

  pub part-of : (slots : ℕ) → Begins before.objects from.base object → object.colour ≡ Gray
      → from.slots_done ≡ slots_done_of before.marker.partly from.base
      → IsTrue (may_go_on before.marker.partly from.base) → slots ≡ length words
      → IsAdvanced before.objects from object after
      → IsPartOf before after (record { base = from.base; slots = slots }) view
  part-of slots begins gray done may is advanced =
      let same = done-shown done in
      record {
        object = object;
        may = record {
          begins = subst (λ (os : ObjectsByBase). Begins os from.base object) (sym shows.shown) begins;
          gray = gray;
          turn =
              subst (λ (c : Option CycleView). IfSome c (λ cycle. IsTrue (may_go_on cycle.partly_scanned from.base)))
              (sym shows.runs)
              (ap (λ (p : Option PartlyScannedView). may_go_on p from.base) shows.partly ∙ may);
        };
        slots = is ∙ ap (λ (n : ℕ). length (take 64 (drop n (scanned_words_of object)))) (sym same);
        done =
            subst (λ (n : ℕ). ShowsMarking after
            (view_advanced turn (n + length (take 64 (drop n (scanned_words_of object))))
            (record view { objects = with_grayed_objects (take 64 (drop n (scanned_words_of object))) view.objects })))
            (sym same) (advanced-shown advanced);
      }

pub scanned-part_done : (before after : Marking) (part : Part) → IsScanned before after part
    → IsPartDone before after part
scanned-part_done before after part s view shows =
    subst (λ (b : ℕ). IsPartOf before after (record { base = b; slots = part.slots }) view) (sym s.base)
    (part-of before after s.from s.chosen.object view shows part.slots s.chosen.begins s.chosen.gray s.chosen.done
    s.chosen.turn s.slots s.advanced)

-- what a call answers says so of views
pub part-in_views : (A B : Type 0) (before after : Marking) (r : Option Part)
    → MatchOption r (NoneIsGray before.objects × A × B) (IsScanned before after)
    → MatchOption r (HasNoGray before) (IsPartDone before after)
part-in_views A B before after None none = none-gray_in_views before none.0
part-in_views A B before after (Some part) scanned = scanned-part_done before after part scanned
