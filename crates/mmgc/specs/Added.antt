-- What a run adds behind its log.
use Rattle.std.specs.Prelude.{◌≡◌, ℕ, ◌≤◌, Bool, true, false, List, [], ◌∷◌, ◌++◌, length, Option, Some, None, codes}
use Rattle.std.specs.Prelude.{decimal}
use Rattle.std.specs.List.{flat_map}
use Rattle.mm_model.specs.declared.line.Line.{Line}
use Rattle.mm_model.specs.declared.line.Line.TheVariants as lines
use Rattle.mm_model.specs.declared.settings.Settings.{Settings}
use Rattle.mm_model.specs.State.{State, totals_of}
use Rattle.mm_model.specs.Views.View.{view_of}
use Rattle.mm_model.specs.Logs.Spelling.{sentence, indented}
use Rattle.mm_why.specs.declared.hop.Via.{Via}
use Rattle.mm_why.specs.declared.hop.Via.TheVariants.{Stack, Area, Slot}
use Rattle.mm_why.specs.declared.hop.Hop.{Hop}
use Rattle.mm_why.specs.Path.{Shown, shown_in, FallsIn, IsPath, HasNoPath}
use Rattle.mm_sites.specs.Text.{text_of_sites}
use Rattle.mmgc.specs.declared.extras.Extras.{Extras}

-- what a replay is asked for: the settings of its heap, what is to stand behind its log, and whether cycles are paced
pub record Task : Type 0 where
  pub settings : Settings
  pub extras : Extras

-- The word that leads to an object: its name and numbers.
abbrev pub via_words : Via → List (List ℕ)
via_words (Stack cell) = codes "stack" ∷ decimal cell ∷ []
via_words (Area area cell) = codes "area" ∷ decimal area ∷ decimal cell ∷ []
via_words (Slot slot) = codes "slot" ∷ decimal slot ∷ []

-- it begins with a space, and ends with the base of the object
abbrev pub hop_spelling : Hop → List ℕ
hop_spelling hop = indented (via_words hop.via ++ decimal hop.base ∷ [])

-- the length of a path, and its hops from the first object on
abbrev pub path_spelling : List Hop → List ℕ
path_spelling hops = sentence (codes "path" ∷ decimal (length hops) ∷ []) ++ flat_map hop_spelling hops

-- the hops are a path to the object, and no path to it is shorter
pub record IsShortest (shown : Shown) (base : ℕ) (hops : List Hop) : Type 0 where
  pub path : IsPath shown hops base
  pub least : (others : List Hop) → IsPath shown others base → length hops ≤ length others

-- Why the object in which a word falls is kept. Which of several shortest paths is told is left open.
pub data IsWhyText (shown : Shown) (word : ℕ) (text : List ℕ) : Type 0 where
  -- it falls in no live object
  No_object : ((base : ℕ) → FallsIn shown.objects word base → ⊥) → text ≡ codes "no object\n"
      → IsWhyText shown word text
  -- no path leads to the object in which it falls
  No_path : (base : ℕ) → FallsIn shown.objects word base → HasNoPath shown base → text ≡ codes "none\n"
      → IsWhyText shown word text
  -- a shortest path to the object in which it falls
  Shortest : (base : ℕ) → FallsIn shown.objects word base → (hops : List Hop) → IsShortest shown base hops
      → text ≡ path_spelling hops → IsWhyText shown word text

-- the text of an option that asks of a word, where it stands
abbrev pub IsAnswer : Option ℕ → Shown → List ℕ → Type 0
IsAnswer None shown text = text ≡ []
IsAnswer (Some word) shown text = IsWhyText shown word text

-- a state, and the sites of its objects by birth number
pub record SitedState : Type 0 where
  pub state : State
  pub sites : List ℕ

-- the lines of the sites, where they are asked for
abbrev pub site_lines : Bool → SitedState → List ℕ
site_lines false left = []
site_lines true left = text_of_sites left.state left.sites

-- The text that is added behind the log that leads to a state: the lines of the sites, and then why an object is kept.
pub record IsAddedText (extras : Extras) (left : SitedState) (text : List ℕ) : Type 0 where
  pub answer : List ℕ
  pub answers : IsAnswer extras.why (shown_in (view_of left.state)) answer
  pub is : text ≡ site_lines extras.sites left ++ answer

-- the lines of the commands, followed by the totals of the state after them
abbrev pub with_total : List Line → State → List Line
with_total groups state = groups ++ lines.Total (totals_of state) ∷ []

-- What follows a log: the added text where its total line stands, and else nothing.
pub record IsFollowed (extras : Extras) (groups : List Line) (left : SitedState) (log : List Line) (added : List ℕ) :
    Type 0 where
  pub behind_total : log ≡ with_total groups left.state → IsAddedText extras left added
  pub else_none : log ≡ groups → added ≡ []
