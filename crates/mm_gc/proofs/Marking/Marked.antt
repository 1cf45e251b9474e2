-- What is white once all is marked is what a collection frees, or what `finish` frees.
use Rattle.std.proofs.Common.{◌≡◌, ℕ, Bool, true, false, List, take, Option, Some, None, sym, ap, ◌∙◌, subst}
use Rattle.std.specs.Prelude.{◌&&◌, if◌then◌else◌, IfSome}
use Rattle.mm_model.specs.declared.object.Colour.TheVariants.{White, Gray}
use Rattle.mm_model.specs.Sets.Marking.{is_white}
use Rattle.mm_model.specs.Views.ObjectView.{ObjectView, ObjectsByBase, scanned_words_of, names_at}
use Rattle.mm_model.specs.Views.GoodView.{AreWhite}
use Rattle.mm_model.specs.Views.SetsByBase.{AreBasesAt, IsUnreachedAt, IsFreedAtFinishAt, with_grayed_objects}
use Rattle.mm_model.specs.Views.View.{PartlyScannedView}
use Rattle.mm_object.specs.Object.{views_of}
use Rattle.mm_object.specs.Heap.{Heap}
use Rattle.mm_roots.specs.Areas.{Areas}
use Rattle.mm_roots.specs.Stack.{Cells}
use Rattle.mm_mark.specs.Colours.{IsSameButColours, IsGrayed, root_words}
use Rattle.mm_mark.specs.Draining.{IsDrained, NamesNoWhiteDone}
use Rattle.mm_sweep.specs.Sweep.{IsWhiteAt}
use Rattle.mm_gc.proofs.Colours.Alike.{all_white, all_white-white}
use Rattle.mm_gc.proofs.Colours.AlikeHeaps.{views-alike, rest-alike}
use Rattle.mm_gc.proofs.Marking.Reached.{from_shaded, scanned-shaded, names-shaded}
use Rattle.mm_gc.proofs.Frees.Collected.{finishes-drained, collects-white, collects-whitened}

drained-shaded : (before middle after : Heap) (words : List ℕ) → IsGrayed before middle words
    → IsDrained (views_of middle.objects) (views_of after.objects)
    → IsDrained (with_grayed_objects words (views_of before.objects)) (views_of after.objects)
drained-shaded before middle after words grayed drained =
    subst (λ (os : ObjectsByBase). IsDrained os (views_of after.objects)) grayed.grayed drained

pub finishes-marked : (before middle after : Heap) (words : List ℕ) → IsGrayed before middle words
    → IsDrained (views_of middle.objects) (views_of after.objects) → (dead : List ℕ)
    → AreBasesAt (views_of after.objects) (IsWhiteAt (views_of after.objects)) dead
    → AreBasesAt (views_of before.objects) (IsFreedAtFinishAt (views_of before.objects) words) dead
finishes-marked before middle after words grayed drained dead bases =
    finishes-drained (views_of before.objects) (views_of after.objects) words
    (drained-shaded before middle after words grayed drained) dead bases

-- a full collection marks from what was made white
pub collects-marked : (stack : Cells) (areas : Areas) (first before middle after : Heap)
    → IsSameButColours first before → AreWhite (views_of before.objects)
    → IsGrayed before middle (root_words stack areas before)
    → IsDrained (views_of middle.objects) (views_of after.objects) → (dead : List ℕ)
    → AreBasesAt (views_of after.objects) (IsWhiteAt (views_of after.objects)) dead
    → AreBasesAt (views_of first.objects) (IsUnreachedAt (views_of first.objects) (root_words stack areas first)) dead
collects-marked stack areas first before middle after same white grayed drained dead bases =
    let views = views_of before.objects in
    let same_words : root_words stack areas before ≡ root_words stack areas first =
    ap (root_words stack areas) (rest-alike first before same) in
    let whitened : views ≡ all_white (views_of first.objects) =
    sym (all_white-white views white) ∙ sym (views-alike first before same) in
    collects-whitened (views_of first.objects) (root_words stack areas first) dead
    (subst (λ (os : ObjectsByBase). AreBasesAt os (IsUnreachedAt os (root_words stack areas first)) dead) whitened
    (subst (λ (words : List ℕ). AreBasesAt views (IsUnreachedAt views words) dead) same_words
    (collects-white views white (root_words stack areas before) dead
    (finishes-marked before middle after (root_words stack areas before) grayed drained dead bases))))

-- what is white once words are shaded was white before
white-shaded : (x : ObjectView) (b : Bool) → (if b then record x { colour = Gray } else x).colour ≡ White
    → x.colour ≡ White
white-shaded x true e = clash e
  where
    clash : Gray ≡ White → x.colour ≡ White
    clash e = cc
white-shaded x false e = e

-- Words that fall in no white object do so no more once others are shaded.
done-shaded : (words : List ℕ) (objects : ObjectsByBase) (partly : PartlyScannedView) → NamesNoWhiteDone objects partly
    → NamesNoWhiteDone (with_grayed_objects words objects) partly
done-shaded words objects partly done holder begins base object there white named =
    let was = from_shaded objects words partly.base holder begins in
    let one = from_shaded objects words base object there in
    let done_words = take partly.slots_done (scanned_words_of was.before) in
    let same : scanned_words_of was.before ≡ scanned_words_of holder =
    sym (scanned-shaded objects words partly.base was.before) ∙ ap scanned_words_of was.is in
    done was.before was.begins base one.before one.begins
    (white-shaded one.before (is_white one.before.colour && names_at words base one.before)
    (ap (λ (x : ObjectView). x.colour) one.is ∙ white))
    (sym (names-shaded objects words done_words base one.before) ∙ ap (names_at done_words base) one.is
    ∙ ap (λ (ws : List ℕ). names_at (take partly.slots_done ws) base object) same ∙ named)

pub all_done-shaded : (before after : Heap) (words : List ℕ) → IsGrayed before after words
    → (partly now : Option PartlyScannedView) → now ≡ partly
    → IfSome partly (NamesNoWhiteDone (views_of before.objects))
    → IfSome now (NamesNoWhiteDone (views_of after.objects))
all_done-shaded before after words grayed partly now same done =
    subst (λ (p : Option PartlyScannedView). IfSome p (NamesNoWhiteDone (views_of after.objects))) (sym same)
    (subst (λ (os : ObjectsByBase). IfSome partly (NamesNoWhiteDone os)) (sym grayed.grayed) (each partly done))
  where
    each : (p : Option PartlyScannedView) → IfSome p (NamesNoWhiteDone (views_of before.objects))
        → IfSome p (NamesNoWhiteDone (with_grayed_objects words (views_of before.objects)))
    each None h = h
    each (Some p) h = done-shaded words (views_of before.objects) p h
