-- What doesn't depend on the colours of objects, told of two lists by base that are the same once all is white.
use Rattle.std.proofs.Common.{◌≡◌, ◌≢◌, ℕ, ◌+◌, Bool, true, false, List, [], ◌∷◌, ◌++◌, map, length, Option, Some}
use Rattle.std.proofs.Common.{None, refl, sym, ap, ◌∙◌, subst}
use Rattle.std.specs.Prelude.{◌==◌, ◌&&◌, ◌||◌, if◌then◌else◌, IsTrue, IfSome}
use Rattle.std.specs.List.{flat_map, find, list_any, count_by}
use Rattle.mm_model.specs.declared.line.Line.{Line}
use Rattle.mm_model.specs.declared.line.Line.TheVariants as lines
use Rattle.mm_model.specs.declared.line.Phase.{Phase}
use Rattle.mm_model.specs.declared.object.Colour.{Colour}
use Rattle.mm_model.specs.declared.object.Colour.TheVariants.{White}
use Rattle.mm_model.specs.Object.{is_counted, is_weak}
use Rattle.mm_model.specs.Places.Place.{Piece}
use Rattle.mm_model.specs.Views.ByBase.{Begins, Based, based_from, changed_from, changed}
use Rattle.mm_model.specs.Views.ObjectView.{ObjectView, ObjectsByBase, counted_words_of, references_in, piece_of_object}
use Rattle.mm_model.specs.Views.ObjectView.{pieces_of_objects}
use Rattle.mm_model.specs.Views.GoodView.{HoldTight, AreTight, ArePaired, IsPairedAt, AreWhite}
use Rattle.mm_model.specs.Views.View.{View}
use Rattle.mm_model.specs.Views.ViewEffect.{with_colour}
use Rattle.mm_model.specs.Views.ViewPhase.{view_final_lines, view_phase_lines}
use Rattle.mm_model.specs.Views.ViewWords.{object_at, begins_counted_in}
use Rattle.mm_model.proofs.View.ByBase.ChangedEntries.{begins_changed, changed_begins, changed-none}

abbrev pub all_white : ObjectsByBase → ObjectsByBase
all_white objects = changed (with_colour White) objects

abbrev pub AreAlike : ObjectsByBase → ObjectsByBase → Type 0
AreAlike a b = all_white a ≡ all_white b

-- what is white already
pub white-all_white : (objects : ObjectsByBase) → AreWhite (all_white objects)
white-all_white objects base object begins =
    let one = changed_begins (with_colour White) objects base object begins in
    inner one.before object one.is
  where
    inner : (x y : ObjectView) → ◌≡◌ {A = Option ObjectView} (Some (record x { colour = White })) (Some y)
        → y.colour ≡ White
    inner x y e = let same : record x { colour = White } ≡ y = cc in ap (λ (o : ObjectView). o.colour) (sym same)

pub all_white-white : (objects : ObjectsByBase) → AreWhite objects → all_white objects ≡ objects
all_white-white objects white =
    changed-none (with_colour White) objects
    (λ base object begins.
    ap (λ (c : Colour). Some (record object { colour = c })) (sym (white base object begins)))

pub all_white-twice : (objects : ObjectsByBase) → AreAlike (all_white objects) objects
all_white-twice objects = all_white-white (all_white objects) (white-all_white objects)

-- an object of the one is in the other with some colour
pub begins-alike : (a b : ObjectsByBase) → AreAlike a b → (base : ℕ) (y : ObjectView) → Begins b base y
    → (colour : Colour) × Begins a base (record y { colour = colour })
begins-alike a b same base y begins =
    let white : Begins (all_white a) base (record y { colour = White }) =
    subst (λ (os : ObjectsByBase). Begins os base (record y { colour = White })) (sym same)
    (begins_changed (with_colour White) b base y (record y { colour = White }) begins refl) in
    let one = changed_begins (with_colour White) a base (record y { colour = White }) white in
    (one.before.colour, subst (λ (o : ObjectView). Begins a base o) (inner one.before one.is) one.begins)
  where
    inner : (x : ObjectView)
        → ◌≡◌ {A = Option ObjectView} (Some (record x { colour = White })) (Some (record y { colour = White }))
        → x ≡ record y { colour = x.colour }
    inner x e =
        let told : record x { colour = White } ≡ record y { colour = White } = cc in
        ap (λ (o : ObjectView). record o { colour = x.colour }) told

begins_counted_from-white : (word low : ℕ) (objects : ObjectsByBase)
    → list_any (λ (o : Based ObjectView). is_counted o.value.kind && o.base == word)
    (based_from low (changed_from (with_colour White) low objects))
    ≡ list_any (λ (o : Based ObjectView). is_counted o.value.kind && o.base == word) (based_from low objects)
begins_counted_from-white word low [] = refl
begins_counted_from-white word low (None ∷ objects) = begins_counted_from-white word (low + 16) objects
begins_counted_from-white word low (Some o ∷ objects) =
    ap (λ (b : Bool). (is_counted o.kind && low == word) || b) (begins_counted_from-white word (low + 16) objects)

pub begins_counted-alike : (a b : ObjectsByBase) → AreAlike a b → (word : ℕ)
    → begins_counted_in a word ≡ begins_counted_in b word
begins_counted-alike a b same word =
    sym (begins_counted_from-white word 0 a) ∙ ap (λ (os : ObjectsByBase). begins_counted_in os word) same
    ∙ begins_counted_from-white word 0 b

tight_words-alike : (a b : ObjectsByBase) → AreAlike a b → (words : List ℕ) → AreTight a words → AreTight b words
tight_words-alike a b same [] h = tt
tight_words-alike a b same (word ∷ words) h = (
  subst (λ (x : Bool). IsTrue (word == 0 || x)) (begins_counted-alike a b same word) h.0,
  tight_words-alike a b same words h.1,
)

pub tight-alike : (a b : ObjectsByBase) → AreAlike a b → HoldTight a → HoldTight b
tight-alike a b same tight base holder begins =
    let one = begins-alike a b same base holder begins in
    tight_words-alike a b same (counted_words_of holder) (tight base (record holder { colour = one.0 }) one.1)

pub paired-alike : (a b : ObjectsByBase) → AreAlike a b → ArePaired a → ArePaired b
paired-alike a b same paired base object begins =
    let one = begins-alike a b same base object begins in
    each (record object { colour = one.0 }) object object.partner
    refl (paired base (record object { colour = one.0 }) one.1)
  where
    each : (x y : ObjectView) (partner : Option ℕ) → x.kind ≡ y.kind → IfSome partner (IsPairedAt a base x)
        → IfSome partner (IsPairedAt b base y)
    each x y None kind h = h
    each x y (Some other) kind h =
        let there = begins-alike b a (sym same) other h.partner h.begins in
        record {
          partner = record h.partner { colour = there.0 };
          begins = there.1;
          back = h.back;
          one_weak = subst (λ k. is_weak h.partner.kind ≢ is_weak k) kind h.one_weak;
        }

pieces_from-white : (low : ℕ) (objects : ObjectsByBase)
    → map piece_of_object (based_from low (changed_from (with_colour White) low objects))
    ≡ map piece_of_object (based_from low objects)
pieces_from-white low [] = refl
pieces_from-white low (None ∷ objects) = pieces_from-white (low + 16) objects
pieces_from-white low (Some o ∷ objects) =
    ap (λ (ps : List Piece). piece_of_object (record { base = low; value = o }) ∷ ps)
    (pieces_from-white (low + 16) objects)

pub pieces-alike : (a b : ObjectsByBase) → AreAlike a b → pieces_of_objects a ≡ pieces_of_objects b
pieces-alike a b same = sym (pieces_from-white 0 a) ∙ ap pieces_of_objects same ∙ pieces_from-white 0 b

words_from-white : (low : ℕ) (objects : ObjectsByBase)
    → flat_map (λ (o : Based ObjectView). counted_words_of o.value)
    (based_from low (changed_from (with_colour White) low objects))
    ≡ flat_map (λ (o : Based ObjectView). counted_words_of o.value) (based_from low objects)
words_from-white low [] = refl
words_from-white low (None ∷ objects) = words_from-white (low + 16) objects
words_from-white low (Some o ∷ objects) =
    ap (λ (ws : List ℕ). counted_words_of o ++ ws) (words_from-white (low + 16) objects)

references-white : (objects : ObjectsByBase) (base : ℕ)
    → references_in (all_white objects) base ≡ references_in objects base
references-white objects base =
    ap (λ (ws : List ℕ). count_by (λ word. word == base) ws) (words_from-white 0 objects)

pub references-alike : (a b : ObjectsByBase) → AreAlike a b → (base : ℕ) → references_in a base ≡ references_in b base
references-alike a b same base =
    sym (references-white a base) ∙ ap (λ (os : ObjectsByBase). references_in os base) same ∙ references-white b base

finals_from-white : (base low : ℕ) (objects : ObjectsByBase)
    → view_final_lines (find (λ (o : Based ObjectView). o.base == base)
    (based_from low (changed_from (with_colour White) low objects)))
    ≡ view_final_lines (find (λ (o : Based ObjectView). o.base == base) (based_from low objects))
finals_from-white base low [] = refl
finals_from-white base low (None ∷ objects) = finals_from-white base (low + 16) objects
finals_from-white base low (Some o ∷ objects) =
    split (low == base)
    (find (λ (o : Based ObjectView). o.base == base)
    (based_from (low + 16) (changed_from (with_colour White) (low + 16) objects)))
    (find (λ (o : Based ObjectView). o.base == base) (based_from (low + 16) objects))
    (finals_from-white base (low + 16) objects)
  where
    split : (b : Bool) (now was : Option (Based ObjectView)) → view_final_lines now ≡ view_final_lines was
        → view_final_lines (if b then Some (record { base = low; value = record o { colour = White } }) else now)
        ≡ view_final_lines (if b then Some (record { base = low; value = o }) else was)
    split true now was h = refl
    split false now was h = h

final-alike : (a b : ObjectsByBase) → AreAlike a b → (base : ℕ)
    → view_final_lines (object_at a base) ≡ view_final_lines (object_at b base)
final-alike a b same base =
    sym (finals_from-white base 0 a) ∙ ap (λ (os : ObjectsByBase). view_final_lines (object_at os base)) same
    ∙ finals_from-white base 0 b

finals-alike : (a b : ObjectsByBase) → AreAlike a b → (bases : List ℕ)
    → flat_map (λ base. view_final_lines (object_at a base)) bases
    ≡ flat_map (λ base. view_final_lines (object_at b base)) bases
finals-alike a b same [] = refl
finals-alike a b same (base ∷ bases) =
    ap (λ (ls : List Line). ls ++ flat_map (λ base. view_final_lines (object_at a base)) bases)
    (final-alike a b same base)
    ∙ ap (λ (ls : List Line). view_final_lines (object_at b base) ++ ls) (finals-alike a b same bases)

-- the lines of a phase
pub phase_lines-alike : (what : Phase) (before after : View) → AreAlike before.objects after.objects → (bases : List ℕ)
    → view_phase_lines what before bases ≡ view_phase_lines what after bases
phase_lines-alike what before after same bases =
    ap (λ (ls : List Line). ls ++ lines.Phase what (length bases) ∷ map lines.Free bases)
    (finals-alike before.objects after.objects same bases)
