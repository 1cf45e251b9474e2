-- What the parts of an auditor's state are together: the view of a heap, with counts beside it.
use Rattle.std.specs.Prelude.{◌≡◌, ℕ, List, Option}
use Rattle.mm_model.specs.declared.line.Totals.{Totals}
use Rattle.mm_model.specs.declared.settings.Settings.{Settings}
use Rattle.mm_model.specs.Views.ObjectView.{ObjectsByBase}
use Rattle.mm_model.specs.Views.View.{View, AreaView, CycleView}
use Rattle.mm_model.specs.Views.ViewWords.{outside_references}
use Rattle.mm_audit.specs.Counts.{CountsByBase, counts_of}
use Rattle.mm_audit.specs.Stack.{StackWords}

pub record Parts : Type 0 where
  pub objects : ObjectsByBase
  pub counts : CountsByBase
  pub stack : StackWords
  -- by ascending number
  pub areas : List AreaView
  -- with the object that is partly scanned
  pub cycle : Option CycleView
  pub threshold : ℕ
  pub totals : Totals
  pub settings : Settings

-- the view that they show
abbrev pub view_of_parts : Parts → View
view_of_parts parts =
    record {
      objects = parts.objects;
      stack = parts.stack.words;
      areas = parts.areas;
      cycle = parts.cycle;
      threshold = parts.threshold;
      totals = parts.totals;
      settings = parts.settings;
    }

-- the right counts of a view
abbrev pub view_counts : View → CountsByBase
view_counts view = counts_of view.objects (outside_references view)

-- They show it, and what is kept beside it is right: the limit of the stack, and the counts.
pub record ShowParts (parts : Parts) (view : View) : Type 0 where
  pub shown : view ≡ view_of_parts parts
  pub limit : parts.stack.limit ≡ view.settings.stack
  pub counts : parts.counts ≡ view_counts view
