-- What is written behind a log, as contracts see it.
use Rattle.std.specs.Prelude.{◌≡◌, ℕ, List, ◌∷◌, ◌++◌, Option, IfSome, MatchOption, is_some, length}
use Rattle.std.specs.Prelude.{codes, decimal}
use Rattle.std.specs.Option.{option_map}
use Rattle.mm_model.specs.declared.settings.Settings.{Settings}
use Rattle.mm_model.specs.State.{State, empty_state}
use Rattle.mm_model.specs.Views.View.{View, Shows}
use Rattle.mm_gc.specs.Gc.{Gc, view_of_gc}
use Rattle.mmgc.specs.Writing.{Kept}
use Rattle.mm_object.specs.Object.{views_of}
use Rattle.mm_object.specs.Heap.{Heap, IsObject}
use Rattle.mm_why.specs.declared.hop.Via.{Via}
use Rattle.mm_why.specs.declared.hop.Via.TheVariants.{Stack, Area, Slot}
use Rattle.mm_why.specs.declared.hop.Hop.{Hop}
use Rattle.mm_why.specs.Path.{Shown, FallsIn, HasNoPath}
use Rattle.mmgc.specs.declared.appendix.Appendix.{Appendix}
use Rattle.mmgc.specs.declared.extras.Extras.{Extras}
use Rattle.mmgc.specs.declared.site_book.SiteBook.{SiteBook}
use Rattle.mmgc.specs.Added.{IsShortest}
use Rattle.mmgc.specs.Booking.{IsBlank}
use Rattle.mmgc.specs.Carrying.{Grew}
use Rattle.mmgc.specs.Pacing.{Driver, IsFresh}

-- a space and a number
abbrev pub numbered : ℕ → List ℕ
numbered number = 32 ∷ decimal number

-- a name and a number
abbrev pub named : List ℕ → ℕ → List ℕ
named name number = name ++ numbered number

-- the word that leads to an object, with a space before it
abbrev pub via_spelling : Via → List ℕ
via_spelling (Stack cell) = named (codes " stack") cell
via_spelling (Area area cell) = named (codes " area") area ++ numbered cell
via_spelling (Slot slot) = named (codes " slot") slot

-- some text of which this holds was written
pub record Appended (IsText : List ℕ → Type 0) (before after : Kept) : Type 0 where
  pub text : List ℕ
  pub is : IsText text
  pub written : Grew before after text

-- an object in which the word falls begins there
pub record IsHit (heap : Heap) (word base : ℕ) : Type 0 where
  pub object : IsObject heap base
  pub falls : FallsIn (views_of heap.objects) word base

-- the base of the object in which a word falls, or none where it falls in none
abbrev pub IsFoundIn : Heap → ℕ → Option ℕ → Type 0
IsFoundIn heap word found =
    MatchOption found ((base : ℕ) → FallsIn (views_of heap.objects) word base → ⊥) (IsHit heap word)

-- the hops of a search are a shortest path of this length
pub record IsPathFound (shown : Shown) (base : ℕ) (hops : List Hop) (count : ℕ) : Type 0 where
  pub shortest : IsShortest shown base hops
  pub count_is : count ≡ length hops

-- a search for an object found no path, or these hops
abbrev pub IsSearched : Shown → ℕ → List Hop → Option ℕ → Type 0
IsSearched shown base hops result = MatchOption result (HasNoPath shown base) (IsPathFound shown base hops)

-- the word of which an appendix tells
abbrev pub word_of : Appendix → Option ℕ
word_of appendix = option_map (λ question. question.word) appendix.why

-- what a replay is asked for with an appendix, at a rate, where sites are kept or aren't
abbrev pub asked_of : Option ℕ → Option SiteBook → Appendix → Extras
asked_of rate book appendix = record { why = word_of appendix; rate = rate; sites = is_some book }

-- it has room for the search of a heap of so many pages
abbrev pub IsReadyFor : ℕ → Appendix → Type 0
IsReadyFor pages appendix = IfSome appendix.why (λ question. question.why.pages ≡ pages)

-- a new heap with these settings, what drives it, and what is asked for, which is ready for it
pub record IsPrepared (settings : Settings) (extras : Extras) (driver : Driver) (appendix : Appendix) : Type 0 where
  pub shows : Shows (view_of_gc driver.heap) (empty_state settings)
  pub fresh : IsFresh extras.rate driver.pace
  pub blank : IfSome driver.book (IsBlank settings.max)
  pub asked : asked_of extras.rate driver.book appendix ≡ extras
  pub ready : IsReadyFor settings.max appendix

-- the view is that of a state, so that its lists have the entries of the greatest region
abbrev pub HasPages : View → Type 0
HasPages view = (a : State) × Shows view a
