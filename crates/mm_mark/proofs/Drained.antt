-- Scanning to the end: what each part keeps, and what holds once nothing is gray.
use Rattle.std.proofs.Common.{◌≡◌, ◌≢◌, ℕ, ◌+◌, ◌*◌, ◌⊎◌, Bool, true, false, List, ◌++◌, length, take, drop, Option}
use Rattle.std.proofs.Common.{Some, None, inl, inr, refl, sym, ap, subst, ◌∙◌, arith, eqb-true}
use Rattle.std.specs.Prelude.{IfSome, IsTrue, slice_get, ◌&&◌, ◌||◌, if◌then◌else◌}
use Rattle.std.specs.Option.{option_map, option_and_then}
use Rattle.std.proofs.Math.Seq.{take-add}
use Rattle.std.proofs.lemmas.Bool.{cases_eq}
use Rattle.std.proofs.lemmas.List.{take_all, take_min, length-take}
use Rattle.std.proofs.lemmas.List.Folds.{list_any-append}
use Rattle.mm_model.specs.declared.object.Colour.{Colour}
use Rattle.mm_model.specs.declared.object.Colour.TheVariants.{White, Gray, Black}
use Rattle.mm_model.specs.declared.object.Part.{Part}
use Rattle.mm_model.specs.Sets.Marking.{is_white}
use Rattle.mm_model.specs.Words.{falls}
use Rattle.mm_model.specs.Views.ByBase.{Begins, with_entry}
use Rattle.mm_model.specs.Views.ObjectView.{ObjectView, ObjectsByBase, scanned_words_of, names_at}
use Rattle.mm_model.specs.Views.SetsByBase.{IsKeptAtFinishAt, grayed_at, with_grayed_objects}
use Rattle.mm_model.specs.Views.GoodView.{NamesNoWhiteAt}
use Rattle.mm_model.specs.Views.View.{PartlyScannedView}
use Rattle.mm_model.specs.Views.ViewStep.{slots_done_of, may_go_on}
use Rattle.mm_model.proofs.Lists.Passing.{any-take, any-drop}
use Rattle.mm_model.proofs.Lists.Truth.{no_other}
use Rattle.mm_model.proofs.View.ByBase.Entries.{get-changed, begins_same}
use Rattle.mm_mark.specs.Marker.{Marking}
use Rattle.mm_mark.specs.Parts.{NoneIsGray, IsScanned, IsAdvanced, part_words, part_end}
use Rattle.mm_mark.specs.Draining.{IsDrained, NamesNoWhiteDone, IsMove, IsMoved, WasThere, IsPassedOver, IsDraining}
use Rattle.mm_mark.proofs.Reading.{white_not_gray, black_not_gray, black_not_white}
use Rattle.mm_mark.proofs.Grayed.{grayed_at-marks, grayed_at-spares}
use Rattle.mm_mark.proofs.Advancing.{gray-stays, entry-here, entry-apart, entry-kept}

-- What graying makes of one object: it is gray now, or as it was.
pub data IsShaded (words : List ℕ) (base : ℕ) (old new : ObjectView) : Type 0 where
  Is_grayed : old.colour ≡ White → IsTrue (names_at words base old) → new ≡ record old { colour = Gray }
      → IsShaded words base old new
  Is_spared : (old.colour ≡ White → names_at words base old ≡ false) → new ≡ old → IsShaded words base old new

pub record ShadedFrom (words : List ℕ) (objects : ObjectsByBase) (base : ℕ) (new : ObjectView) : Type 0 where
  pub old : ObjectView
  pub begins : Begins objects base old
  pub shaded : IsShaded words base old new

pub record ShadedTo (words : List ℕ) (objects : ObjectsByBase) (base : ℕ) (old : ObjectView) : Type 0 where
  pub new : ObjectView
  pub begins : Begins (with_grayed_objects words objects) base new
  pub shaded : IsShaded words base old new

shade-told : (words : List ℕ) (base : ℕ) (old : ObjectView)
    → (new : ObjectView) × (grayed_at words base old ≡ Some new) × IsShaded words base old new
shade-told words base old = split old.colour refl (names_at words base old) refl
  where
    spared : (is_white old.colour && names_at words base old) ≡ false
        → (old.colour ≡ White → names_at words base old ≡ false)
        → (new : ObjectView) × (grayed_at words base old ≡ Some new) × IsShaded words base old new
    spared e none = (old, grayed_at-spares words base old e, IsShaded.Is_spared none refl)

    split : (c : Colour) → old.colour ≡ c → (b : Bool) → names_at words base old ≡ b
        → (new : ObjectView) × (grayed_at words base old ≡ Some new) × IsShaded words base old new
    split White e true f =
        (record old { colour = Gray }, grayed_at-marks words base old f e, IsShaded.Is_grayed e f refl)
    split White e false f =
        spared (ap (λ (c : Colour). is_white c && names_at words base old) e ∙ f) (λ white. f)
    split Gray e b f =
        spared (ap (λ (c : Colour). is_white c && names_at words base old) e)
        (λ white. absurd (white_not_gray (sym white ∙ e)))
    split Black e b f =
        spared (ap (λ (c : Colour). is_white c && names_at words base old) e)
        (λ white. absurd (black_not_white (sym e ∙ white)))

pub shaded-to : (words : List ℕ) (objects : ObjectsByBase) (base : ℕ) (old : ObjectView) → Begins objects base old
    → ShadedTo words objects base old
shaded-to words objects base old begins =
    let told = shade-told words (16 * begins.grain) old in
    let at : 16 * begins.grain ≡ base = sym begins.aligned in
    record {
      new = told.0;
      begins = record {
        grain = begins.grain;
        aligned = begins.aligned;
        is =
            get-changed (grayed_at words) objects begins.grain
            ∙ ap (option_map (option_and_then (grayed_at words (16 * begins.grain)))) begins.is ∙ ap Some told.1;
      };
      shaded = subst (λ (b : ℕ). IsShaded words b old told.0) at told.2;
    }

pub shaded-from : (words : List ℕ) (objects : ObjectsByBase) (base : ℕ) (new : ObjectView)
    → Begins (with_grayed_objects words objects) base new → ShadedFrom words objects base new
shaded-from words objects base new begins =
    from (slice_get objects begins.grain) refl
    (sym (get-changed (grayed_at words) objects begins.grain) ∙ begins.is)
  where
    from : (e : Option (Option ObjectView)) → slice_get objects begins.grain ≡ e
        → option_map (option_and_then (grayed_at words (16 * begins.grain))) (slice_get objects begins.grain) ≡ Some
        (Some new)
        → ShadedFrom words objects base new
    from None f h =
        let no : ◌≡◌ {A = Option (Option ObjectView)} None (Some (Some new)) =
        sym (ap (option_map (option_and_then (grayed_at words (16 * begins.grain)))) f) ∙ h in
        cc
    from (Some None) f h =
        let no : ◌≡◌ {A = Option (Option ObjectView)} (Some None) (Some (Some new)) =
        sym (ap (option_map (option_and_then (grayed_at words (16 * begins.grain)))) f) ∙ h in
        cc
    from (Some (Some old)) f h =
        let there : Begins objects base old = record { grain = begins.grain; aligned = begins.aligned; is = f } in
        let to = shaded-to words objects base old there in
        let same = begins_same (with_grayed_objects words objects) base to.new new to.begins begins in
        record {
          old = old;
          begins = there;
          shaded = subst (λ (n : ObjectView). IsShaded words base old n) same
              to.shaded;
        }

-- what is white afterwards was so before, and no word falls in it
pub record WasWhite (words : List ℕ) (objects : ObjectsByBase) (base : ℕ) (object : ObjectView) : Type 0 where
  pub begins : Begins objects base object
  pub unnamed : names_at words base object ≡ false

pub white-was : (words : List ℕ) (objects : ObjectsByBase) (base : ℕ) (object : ObjectView)
    → Begins (with_grayed_objects words objects) base object → object.colour ≡ White
    → WasWhite words objects base object
white-was words objects base object begins white = split from.shaded
  where
    from : ShadedFrom words objects base object
    from = shaded-from words objects base object begins

    split : IsShaded words base from.old object → WasWhite words objects base object
    split (IsShaded.Is_grayed w named is) =
        absurd (white_not_gray (sym white ∙ ap (λ (v : ObjectView). v.colour) is))
    split (IsShaded.Is_spared none is) = record {
      begins = subst (λ (v : ObjectView). Begins objects base v) (sym is) from.begins;
      unnamed =
          subst (λ (v : ObjectView). names_at words base v ≡ false) (sym is)
          (none (sym (ap (λ (v : ObjectView). v.colour) is) ∙ white));
    }

-- and what is black afterwards was so before
pub black-was : (words : List ℕ) (objects : ObjectsByBase) (base : ℕ) (object : ObjectView)
    → Begins (with_grayed_objects words objects) base object → object.colour ≡ Black → Begins objects base object
black-was words objects base object begins black = split from.shaded
  where
    from : ShadedFrom words objects base object
    from = shaded-from words objects base object begins

    split : IsShaded words base from.old object → Begins objects base object
    split (IsShaded.Is_grayed w named is) =
        absurd (black_not_gray (sym black ∙ ap (λ (v : ObjectView). v.colour) is))
    split (IsShaded.Is_spared none is) = subst (λ (v : ObjectView). Begins objects base v) (sym is) from.begins

-- what `finish` keeps isn't black
pub kept-not_black : (objects : ObjectsByBase) (base : ℕ) (object : ObjectView) → IsKeptAtFinishAt objects base
    → Begins objects base object → object.colour ≡ Black → ⊥
kept-not_black objects base object (IsKeptAtFinishAt.Already b own there gray) begins black =
    black_not_gray (sym black ∙ ap (λ (v : ObjectView). v.colour) (begins_same objects base object own begins there)
    ∙ gray)
kept-not_black objects base object (IsKeptAtFinishAt.By_slot b own by holder there white held named kept) begins black =
    black_not_white (sym black ∙ ap (λ (v : ObjectView). v.colour) (begins_same objects base object own begins there)
    ∙ white)

-- where some words name nothing white, and others don't, all of them don't
names-append : (objects : ObjectsByBase) (xs ys : List ℕ) → NamesNoWhiteAt objects xs → NamesNoWhiteAt objects ys
    → NamesNoWhiteAt objects (xs ++ ys)
names-append objects xs ys first second base object begins white named =
    split (names_at xs base object) refl
    (sym (list_any-append (λ word. falls word base object.extent) xs ys) ∙ named)
  where
    split : (b : Bool) → names_at xs base object ≡ b → (names_at xs base object || names_at ys base object) ≡ true → ⊥
    split true e h = first base object begins white e
    split false e h =
        second base object begins white (sym (ap (λ (x : Bool). x || names_at ys base object) e) ∙ h)

-- the slots up to the end of a part are those that were done, and the part's
part-behind : (n : ℕ) (xs : List ℕ)
    → take (n + length (take 64 (drop n xs))) xs ≡ take n xs ++ take 64 (drop n xs)
part-behind n xs =
    take-add n (length (take 64 (drop n xs))) xs
    ∙ ap (λ ys. take n xs ++ ys)
    (ap (λ (m : ℕ). take m (drop n xs)) (length-take 64 (drop n xs)) ∙ take_min 64 (drop n xs))

module _ (before : ObjectsByBase) (now next : Marking) (part : Part) (s : IsScanned now next part)
    (d : IsDraining before now) where
  abbrev object : ObjectView
  object = s.chosen.object

  abbrev base : ℕ
  base = s.from.base

  abbrev words : List ℕ
  words = part_words s.from object

  abbrev mid : ObjectsByBase
  mid = with_grayed_objects words now.objects

  abbrev black : ObjectView
  black = record object { colour = Black }

  stays : Begins mid base object
  stays = gray-stays words now.objects base object s.chosen.begins s.chosen.gray

  was : WasThere before base object
  was = d.back base object s.chosen.begins

  -- `finish` keeps what is scanned
  scanned-kept : IsKeptAtFinishAt before base
  scanned-kept = split moved.move
    where
      moved : IsMoved before now.objects base (record object { colour = was.colour })
      moved = d.forth base (record object { colour = was.colour }) was.begins

      gray : moved.colour ≡ Gray
      gray =
          ap (λ (v : ObjectView). v.colour)
          (begins_same now.objects base (record object { colour = moved.colour }) object moved.begins s.chosen.begins)
          ∙ s.chosen.gray

      split : IsMove before base was.colour moved.colour → IsKeptAtFinishAt before base
      split (IsMove.Stays e) = IsKeptAtFinishAt.Already base (record object { colour = was.colour }) was.begins
          (sym e ∙ gray)
      split (IsMove.Is_marked kept dark) = kept

  -- and each white object that a word of the part names
  named-kept : (b : ℕ) (o : ObjectView) → Begins before b o → o.colour ≡ White → IsTrue (names_at words b o)
      → IsKeptAtFinishAt before b
  named-kept b o begins white named =
      let test : ℕ → Bool = λ word. falls word b o.extent in
      let all = any-drop test s.from.slots_done (scanned_words_of object)
      (any-take test 64 (drop s.from.slots_done (scanned_words_of object)) named) in
      IsKeptAtFinishAt.By_slot b o base (record object { colour = was.colour }) begins white was.begins all scanned-kept

  forth-mid : (b : ℕ) (o : ObjectView) → Begins before b o → IsMoved before mid b o
  forth-mid b o begins = split to.shaded
    where
      moved : IsMoved before now.objects b o
      moved = d.forth b o begins

      to : ShadedTo words now.objects b (record o { colour = moved.colour })
      to = shaded-to words now.objects b (record o { colour = moved.colour }) moved.begins

      white : moved.colour ≡ White → IsMove before b o.colour moved.colour → o.colour ≡ White
      white w (IsMove.Stays e) = sym e ∙ w
      white w (IsMove.Is_marked kept dark) = absurd (dark w)

      split : IsShaded words b (record o { colour = moved.colour }) to.new → IsMoved before mid b o
      split (IsShaded.Is_grayed w named is) = record {
        colour = Gray;
        begins = subst (λ (v : ObjectView). Begins mid b v) is to.begins;
        move = IsMove.Is_marked (named-kept b o begins (white w moved.move) named) (λ e. white_not_gray (sym e));
      }
      split (IsShaded.Is_spared none is) = record {
        colour = moved.colour;
        begins = subst (λ (v : ObjectView). Begins mid b v) is to.begins;
        move = moved.move;
      }

  back-mid : (b : ℕ) (o : ObjectView) → Begins mid b o → WasThere before b o
  back-mid b o begins = split from.shaded
    where
      from : ShadedFrom words now.objects b o
      from = shaded-from words now.objects b o begins

      there : WasThere before b from.old
      there = d.back b from.old from.begins

      split : IsShaded words b from.old o → WasThere before b o
      split (IsShaded.Is_grayed w named is) = record {
        colour = there.colour;
        begins =
            subst (λ (v : ObjectView). Begins before b (record v { colour = there.colour })) (sym is) there.begins;
      }
      split (IsShaded.Is_spared none is) = record {
        colour = there.colour;
        begins =
            subst (λ (v : ObjectView). Begins before b (record v { colour = there.colour })) (sym is) there.begins;
      }

  forth-black : (b : ℕ) (o : ObjectView) → Begins before b o → IsMoved before (with_entry base (Some black) mid) b o
  forth-black b o begins = split (cases_eq b base)
    where
      moved : IsMoved before mid b o
      moved = forth-mid b o begins

      split : (b ≡ base) ⊎ (b ≢ base) → IsMoved before (with_entry base (Some black) mid) b o
      split (inl e) =
          let here : Begins mid b object = subst (λ (x : ℕ). Begins mid x object) (sym e) stays in
          let same = begins_same mid b object (record o { colour = moved.colour }) here moved.begins in
          let now_black = entry-here mid base object black stays in
          record {
            colour = Black;
            begins =
                subst (λ (v : ObjectView). Begins (with_entry base (Some black) mid) b (record v { colour = Black }))
                same
                (subst (λ (x : ℕ). Begins (with_entry base (Some black) mid) x black) (sym e) now_black);
            move = IsMove.Is_marked (subst (IsKeptAtFinishAt before) (sym e) scanned-kept) black_not_white;
          }
      split (inr apart) = record {
        colour = moved.colour;
        begins = entry-kept mid base b object black (record o { colour = moved.colour }) stays moved.begins apart;
        move = moved.move;
      }

  back-black : (b : ℕ) (o : ObjectView) → Begins (with_entry base (Some black) mid) b o → WasThere before b o
  back-black b o begins = split (cases_eq b base)
    where
      split : (b ≡ base) ⊎ (b ≢ base) → WasThere before b o
      split (inl e) =
          let at = subst (λ (x : ℕ). Begins (with_entry base (Some black) mid) x o) e begins in
          let same = begins_same (with_entry base (Some black) mid) base black o
          (entry-here mid base object black stays) at in
          let there : WasThere before base o =
          record {
            colour = was.colour;
            begins = subst (λ (v : ObjectView). Begins before base (record v { colour = was.colour })) same was.begins;
          } in
          subst (λ (x : ℕ). WasThere before x o) (sym e) there
      split (inr apart) = back-mid b o (entry-apart mid base b object black o stays begins apart)

  -- what is white afterwards was so once the part was shaded
  white-mid : IsAdvanced now.objects s.from object next → (b : ℕ) (o : ObjectView) → Begins next.objects b o
      → o.colour ≡ White → Begins mid b o
  white-mid (IsAdvanced.Is_black whole is none) b o begins white =
      let there = subst (λ (os : ObjectsByBase). Begins os b o) is begins in
      entry-apart mid base b object black o stays there
      (λ e. black_not_white (ap (λ (v : ObjectView). v.colour)
      (begins_same (with_entry base (Some black) mid) base black o (entry-here mid base object black stays)
      (subst (λ (x : ℕ). Begins (with_entry base (Some black) mid) x o) e there)) ∙ white))
  white-mid (IsAdvanced.Is_under_scan below is partly) b o begins white =
      subst (λ (os : ObjectsByBase). Begins os b o) is begins

  -- so words that name nothing white still don't
  names-still : (ws : List ℕ) → NamesNoWhiteAt now.objects ws → NamesNoWhiteAt next.objects ws
  names-still ws names b o begins white named =
      names b o (white-was words now.objects b o (white-mid s.advanced b o begins white) white).begins white named

  -- and the words of the part don't any more
  part-names : NamesNoWhiteAt next.objects words
  part-names b o begins white named =
      no_other (white-was words now.objects b o (white-mid s.advanced b o begins white) white).unnamed named

  -- nor those of the slots that were done before
  done-names : NamesNoWhiteAt next.objects (take s.from.slots_done (scanned_words_of object))
  done-names = split now.marker.partly s.chosen.done s.chosen.turn d.partly
    where
      split : (p : Option PartlyScannedView) → s.from.slots_done ≡ slots_done_of p base → IsTrue (may_go_on p base)
          → IfSome p (NamesNoWhiteDone now.objects)
          → NamesNoWhiteAt next.objects (take s.from.slots_done (scanned_words_of object))
      split None is turn names =
          subst (λ (n : ℕ). NamesNoWhiteAt next.objects (take n (scanned_words_of object))) (sym is)
          (λ b o begins white named. no_other refl named)
      split (Some p) is turn names =
          let same : p.base ≡ base = eqb-true p.base base turn in
          let count : s.from.slots_done ≡ p.slots_done = is ∙ ap (λ (b : Bool). if b then p.slots_done else 0) turn in
          subst (λ (n : ℕ). NamesNoWhiteAt next.objects (take n (scanned_words_of object))) (sym count)
          (names-still (take p.slots_done (scanned_words_of object))
          (names object (subst (λ (x : ℕ). Begins now.objects x object) (sym same) s.chosen.begins)))

  all-names : NamesNoWhiteAt next.objects (take (part_end s.from object) (scanned_words_of object))
  all-names =
      subst (NamesNoWhiteAt next.objects) (sym (part-behind s.from.slots_done (scanned_words_of object)))
      (names-append next.objects (take s.from.slots_done (scanned_words_of object)) words done-names part-names)

  black-mid : (b : ℕ) (o : ObjectView) → Begins mid b o → o.colour ≡ Black → IsPassedOver before next.objects b o
  black-mid b o begins is = split (d.black b o (black-was words now.objects b o begins is) is)
    where
      split : IsPassedOver before now.objects b o → IsPassedOver before next.objects b o
      split (IsPassedOver.Was_black there) = IsPassedOver.Was_black there
      split (IsPassedOver.Names_no_white names) =
          IsPassedOver.Names_no_white (names-still (scanned_words_of o) names)

  black-next : IsAdvanced now.objects s.from object next → (b : ℕ) (o : ObjectView) → Begins next.objects b o
      → o.colour ≡ Black → IsPassedOver before next.objects b o
  black-next (IsAdvanced.Is_under_scan below is partly) b o begins colour =
      black-mid b o (subst (λ (os : ObjectsByBase). Begins os b o) is begins) colour
  black-next (IsAdvanced.Is_black whole is none) b o begins colour = split (cases_eq b base)
    where
      there : Begins (with_entry base (Some black) mid) b o
      there = subst (λ (os : ObjectsByBase). Begins os b o) is begins

      split : (b ≡ base) ⊎ (b ≢ base) → IsPassedOver before next.objects b o
      split (inl e) =
          let at = subst (λ (x : ℕ). Begins (with_entry base (Some black) mid) x o) e there in
          let same = begins_same (with_entry base (Some black) mid) base black o
          (entry-here mid base object black stays) at in
          let every : take (part_end s.from object) (scanned_words_of object) ≡ scanned_words_of o =
          take_all (part_end s.from object) (scanned_words_of object) (omega arith)
          ∙ ap scanned_words_of same in
          IsPassedOver.Names_no_white (subst (NamesNoWhiteAt next.objects) every all-names)
      split (inr apart) = black-mid b o (entry-apart mid base b object black o stays there apart) colour

  partly-next : IsAdvanced now.objects s.from object next → IfSome next.marker.partly (NamesNoWhiteDone next.objects)
  partly-next (IsAdvanced.Is_black whole is none) =
      subst (λ (p : Option PartlyScannedView). IfSome p (NamesNoWhiteDone next.objects)) (sym none) tt
  partly-next (IsAdvanced.Is_under_scan below is partly) =
      let there = subst (λ (os : ObjectsByBase). Begins os base object) (sym is) stays in
      subst (λ (p : Option PartlyScannedView). IfSome p (NamesNoWhiteDone next.objects)) (sym partly)
      (λ o begins.
      subst (λ (v : ObjectView). NamesNoWhiteAt next.objects (take (part_end s.from object) (scanned_words_of v)))
      (begins_same next.objects base object o there begins) all-names)

  forth-next : IsAdvanced now.objects s.from object next → (b : ℕ) (o : ObjectView) → Begins before b o
      → IsMoved before next.objects b o
  forth-next (IsAdvanced.Is_black whole is none) b o begins =
      subst (λ (os : ObjectsByBase). IsMoved before os b o) (sym is) (forth-black b o begins)
  forth-next (IsAdvanced.Is_under_scan below is partly) b o begins =
      subst (λ (os : ObjectsByBase). IsMoved before os b o) (sym is) (forth-mid b o begins)

  back-next : IsAdvanced now.objects s.from object next → (b : ℕ) (o : ObjectView) → Begins next.objects b o
      → WasThere before b o
  back-next (IsAdvanced.Is_black whole is none) b o begins =
      back-black b o (subst (λ (os : ObjectsByBase). Begins os b o) is begins)
  back-next (IsAdvanced.Is_under_scan below is partly) b o begins =
      back-mid b o (subst (λ (os : ObjectsByBase). Begins os b o) is begins)

  -- a part keeps all of it
  pub draining-goes_on : IsDraining before next
  draining-goes_on = record {
    forth = forth-next s.advanced;
    back = back-next s.advanced;
    black = black-next s.advanced;
    partly = partly-next s.advanced;
  }

-- at the beginning nothing has changed
pub draining-begins : (now : Marking) → IfSome now.marker.partly (NamesNoWhiteDone now.objects)
    → IsDraining now.objects now
draining-begins now done = record {
  forth = λ base object begins. record { colour = object.colour; begins = begins; move = IsMove.Stays refl };
  back = λ base object begins. record { colour = object.colour; begins = begins };
  black = λ base object begins black. IsPassedOver.Was_black begins;
  partly = done;
}

module _ (before : ObjectsByBase) (now : Marking) (d : IsDraining before now) (none : NoneIsGray now.objects) where
  dark-black : (base : ℕ) (object : ObjectView) → Begins now.objects base object → object.colour ≢ White
      → object.colour ≡ Black
  dark-black base object begins dark = split object.colour refl
    where
      split : (c : Colour) → object.colour ≡ c → object.colour ≡ Black
      split White e = absurd (dark e)
      split Gray e = absurd (none base object begins e)
      split Black e = e

  -- what a slot of one that is black in the end names isn't white
  held-dark : (by : ℕ) (holder : ObjectView) (held : Begins before by holder) → IsKeptAtFinishAt before by
      → (d.forth by holder held).colour ≡ Black → (base : ℕ) (object : ObjectView)
      → (moved : IsMoved before now.objects base object) → IsTrue (names_at (scanned_words_of holder) base object)
      → moved.colour ≢ White
  held-dark by holder held kept black base object moved named = split passed
    where
      passed : IsPassedOver before now.objects by (record holder { colour = (d.forth by holder held).colour })
      passed =
          d.black by (record holder { colour = (d.forth by holder held).colour }) (d.forth by holder held).begins black

      split : IsPassedOver before now.objects by (record holder { colour = (d.forth by holder held).colour })
          → moved.colour ≢ White
      split (IsPassedOver.Was_black was) = λ w.
          kept-not_black before by (record holder { colour = (d.forth by holder held).colour }) kept was black
      split (IsPassedOver.Names_no_white names) = λ w.
          names base (record object { colour = moved.colour }) moved.begins w named

  -- what `finish` keeps is black in the end
  kept-black : (base : ℕ) → IsKeptAtFinishAt before base → (object : ObjectView) → Begins before base object
      → (moved : IsMoved before now.objects base object) → moved.colour ≡ Black
  kept-black base (IsKeptAtFinishAt.Already b own there gray) object begins moved =
      dark-black base (record object { colour = moved.colour }) moved.begins (split moved.move)
    where
      is : object.colour ≡ Gray
      is = ap (λ (v : ObjectView). v.colour) (begins_same before base object own begins there) ∙ gray

      split : IsMove before base object.colour moved.colour → moved.colour ≢ White
      split (IsMove.Stays e) = λ white. white_not_gray (sym white ∙ e ∙ is)
      split (IsMove.Is_marked kept dark) = dark
  kept-black base (IsKeptAtFinishAt.By_slot b own by holder there white held named kept) object begins moved =
      dark-black base (record object { colour = moved.colour }) moved.begins
      (held-dark by holder held kept (kept-black by kept holder held (d.forth by holder held)) base object moved
      (subst (λ (v : ObjectView). IsTrue (names_at (scanned_words_of holder) base v))
      (begins_same before base own object there begins) named))

  pub draining-ends : IsDrained before now.objects
  draining-ends = record {
    black = λ base object begins is. black-stays base object begins is (d.forth base object begins);
    kept = λ base object begins kept. now-black base object (d.forth base object begins)
        (kept-black base kept object begins (d.forth base object begins));
    white = λ base object begins is spared. white-stays base object begins is spared (d.forth base object begins);
    only = λ base object begins. let was = d.back base object begins in
        (record object { colour = was.colour }, was.begins);
  }
    where
      black-stays : (base : ℕ) (object : ObjectView) → Begins before base object → object.colour ≡ Black
          → IsMoved before now.objects base object → Begins now.objects base object
      black-stays base object begins is moved = split moved.move
        where
          split : IsMove before base object.colour moved.colour → Begins now.objects base object
          split (IsMove.Stays e) =
              subst (λ (c : Colour). Begins now.objects base (record object { colour = c })) e moved.begins
          split (IsMove.Is_marked kept dark) = absurd (kept-not_black before base object kept begins is)

      now-black : (base : ℕ) (object : ObjectView) (moved : IsMoved before now.objects base object)
          → moved.colour ≡ Black → Begins now.objects base (record object { colour = Black })
      now-black base object moved black =
          subst (λ (c : Colour). Begins now.objects base (record object { colour = c })) black moved.begins

      white-stays : (base : ℕ) (object : ObjectView) → Begins before base object → object.colour ≡ White
          → (IsKeptAtFinishAt before base → ⊥) → IsMoved before now.objects base object
          → Begins now.objects base object
      white-stays base object begins is spared moved = split moved.move
        where
          split : IsMove before base object.colour moved.colour → Begins now.objects base object
          split (IsMove.Stays e) =
              subst (λ (c : Colour). Begins now.objects base (record object { colour = c })) e moved.begins
          split (IsMove.Is_marked kept dark) = absurd (spared kept)
