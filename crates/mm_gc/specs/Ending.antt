-- How a command ends, once its row is done.
use Rattle.std.specs.Prelude.{◌≡◌, Bool, true, false, List, []}
use Rattle.mm_model.specs.declared.line.Line.{Line}
use Rattle.mm_model.specs.declared.reply.Reply.{Reply}
use Rattle.mm_model.specs.declared.reply.Reply.TheVariants as replies
use Rattle.mm_model.specs.Views.View.{View}
use Rattle.mm_model.specs.Views.ViewStep.{ViewEnds}
use Rattle.mm_sweep.specs.Told.{Told, IsToldOf}
use Rattle.mm_gc.specs.Gc.{Gc, view_of_gc}

-- a reply that refuses
abbrev pub is_refused : Reply → Bool
is_refused (replies.Refused because) = true
is_refused _ = false

-- a command that was refused leaves all as it is
pub record IsLeft (log : List Line) (old new : View) : Type 0 where
  pub no_lines : log ≡ []
  pub same : new ≡ old

-- any other ends with a reap, or without one where few zero-count objects are left
abbrev pub EndsUnless : Bool → List Line → View → View → Type 0
EndsUnless true log old new = IsLeft log old new
EndsUnless false log old new = ViewEnds old false log new

pub record Ends (old new : Gc) (refused : Bool) (heard : List Told → Type 0) : Type 0 where
  pub log : List Line
  pub ends : EndsUnless refused log (view_of_gc old) (view_of_gc new)
  pub told : IsToldOf heard (view_of_gc old).objects log
