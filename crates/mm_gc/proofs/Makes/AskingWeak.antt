-- What `weak` answers for the object that a cell means.
use Rattle.std.proofs.Common.{◌≡◌, ◌≢◌, ℕ, zero, suc, Bool, true, false, ◌||◌, List, [], ◌∷◌, length, Option, Some}
use Rattle.std.proofs.Common.{None, Ok, sym, ap, ◌∙◌}
use Rattle.std.specs.Prelude.{◌==◌, slice_get, if◌then◌else◌}
use Rattle.std.specs.List.{list_any}
use Rattle.mm_model.specs.declared.command.Command.TheVariants as commands
use Rattle.mm_model.specs.declared.refusal.Refusal.TheVariants as refusals
use Rattle.mm_model.specs.declared.reply.Reply.TheVariants as replies
use Rattle.mm_model.specs.Object.{is_weak}
use Rattle.mm_model.specs.Words.{falls}
use Rattle.mm_model.specs.Views.ByBase.{Based}
use Rattle.mm_model.specs.Views.ObjectView.{ObjectView}
use Rattle.mm_model.proofs.Lists.Truth.{or_true}
use Rattle.mm_model.proofs.View.ByBase.MappedEntries.{begins_mapped}
use Rattle.mm_object.specs.declared.heap.Found.{Found}
use Rattle.mm_object.specs.Object.{view_of_stored}
use Rattle.mm_count.proofs.Composites.{differs, refutes}
use Rattle.mm_gc.specs.declared.wanted.Made.{Made}
use Rattle.mm_gc.specs.declared.wanted.Wanted.TheVariants as wanted
use Rattle.mm_gc.specs.Gc.{Gc, view_of_gc}
use Rattle.mm_gc.specs.Making.{IsWantedWeak, Searches, made_reply}
use Rattle.mm_gc.specs.Refused.{IsMeant, PushAnswer}
use Rattle.mm_sweep.specs.Told.{Told}
use Rattle.mm_gc.specs.Rows.{Tells}
use Rattle.mm_gc.proofs.Makes.Asking.{tells-answered, tells-refused, weak-tells}
use Rattle.mm_gc.proofs.Meaning.{means-object}
use Rattle.mm_gc.proofs.Pushing.{word-answers}
use Rattle.mm_gc.proofs.Rows.Making as rows
use Rattle.mm_gc.proofs.Rows.Reading.{MeansObject}

any_at : {X : Type 0} (test : X → Bool) (xs : List X) (i : ℕ) (x : X) → slice_get xs i ≡ Some x → test x ≡ true
    → list_any test xs ≡ true
any_at test [] i x at is = cc
any_at test (y ∷ xs) zero x at is =
    let same : y ≡ x = cc in
    ap (λ (b : Bool). b || list_any test xs) (ap test same ∙ is)
any_at test (y ∷ xs) (suc i) x at is = or_true (test y) (list_any test xs) (any_at test xs i x at is)

module _ (gc : Gc) (i word : ℕ) (found : Found) (m : IsMeant gc i word found) where
  abbrev meant : Based ObjectView
  meant = record { base = found.base; value = view_of_stored m.object }

  means : MeansObject (view_of_gc gc) i word meant
  means = means-object gc i word found m

  kind : {b : Bool} → is_weak found.shape.kind ≡ b → is_weak m.object.kind ≡ b
  kind e = sym (ap (λ s. is_weak s.kind) m.shape) ∙ e

  pub weak-no_weak : (heard : List Told → Type 0) → heard [] → is_weak found.shape.kind ≡ true
      → Tells gc gc (commands.Weak i) (replies.Refused refusals.NoWeak) heard
  weak-no_weak heard nothing weak =
      tells-refused gc (commands.Weak i) refusals.NoWeak heard nothing
      (rows.weak-weak (view_of_gc gc) i word meant means (kind weak))

  module _ (strong : is_weak found.shape.kind ≡ false) where
    pub weak-stack_full : (heard : List Told → Type 0) → heard [] → (length gc.stack.words == gc.settings.stack) ≡ true
        → Tells gc gc (commands.Weak i) (replies.Refused refusals.StackFull) heard
    weak-stack_full heard nothing full =
        tells-refused gc (commands.Weak i) refusals.StackFull heard nothing
        (rows.weak-full (view_of_gc gc) i word meant means (kind strong) full)

    -- its weak object lives already
    pub weak-kept_tells : (heard : List Told → Type 0) → heard [] → (new : Gc) (link base : ℕ)
        → link ≡ m.object.link → link ≢ 0 → PushAnswer gc new link (Ok base)
        → Tells gc new (commands.Weak i) (replies.Word base) heard
    weak-kept_tells heard nothing new link base is some pushed =
        let partner : (view_of_stored m.object).partner ≡ Some link =
        ap (λ (n : ℕ). if n == 0 then None else Some n) (sym is)
        ∙ ap (λ (b : Bool). if b then None else Some link) (refutes link 0 some) in
        tells-answered gc new (commands.Weak i) (replies.Word base) heard nothing
        (word-answers gc new link (commands.Weak i)
        (λ full. rows.weak-full (view_of_gc gc) i word meant means (kind strong) full) (Ok base) pushed
        (λ room. rows.weak-kept (view_of_gc gc) i word meant means link (kind strong) room partner))

    module _ (link : ℕ) (is : link ≡ m.object.link) (none : link ≡ 0)
        (room : (length gc.stack.words == gc.settings.stack) ≡ false) where
      alone : (view_of_stored m.object).partner ≡ None
      alone = ap (λ (n : ℕ). if n == 0 then None else Some n) (sym is ∙ none)

      -- a place for one is looked for
      pub weak-wanted : IsWantedWeak (view_of_gc gc) found.base
      weak-wanted =
          record {
            target = view_of_stored m.object;
            begins = begins_mapped view_of_stored gc.region.heap.objects found.base m.object m.begins;
            strong = kind strong;
            alone = alone;
            named = any_at (λ word. falls word found.base m.object.extent) gc.stack.words i word m.cell m.falls;
            room = differs (length gc.stack.words) gc.settings.stack room;
          }

      pub weak-searched : (new : Gc) (heard : List Told → Type 0) (result : Option Made)
          → Searches gc new (wanted.WeakOf found.base) result heard
          → Tells gc new (commands.Weak i) (made_reply result) heard
      weak-searched new heard result s =
          weak-tells gc new heard i word meant result means (kind strong) room alone s
