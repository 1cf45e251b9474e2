-- When a command is refused, by the tests of its row in their order.
use Rattle.std.proofs.Common.{◌≡◌, Bool, true, false, List, [], ◌∷◌, Option, Some, None, refl, sym, ap, ◌∙◌, subst}
use Rattle.mm_model.specs.declared.command.Command.{Command}
use Rattle.mm_model.specs.declared.refusal.Refusal.{Refusal}
use Rattle.mm_model.specs.declared.reply.Reply.TheVariants as replies
use Rattle.mm_model.specs.declared.line.Line.{Line}
use Rattle.mm_model.specs.Refusing.{first_refusal, refusal_row}
use Rattle.mm_model.specs.Views.View.{View}
use Rattle.mm_model.specs.Views.ViewTests.{tests_of_view}
use Rattle.mm_model.specs.Views.ViewEffect.{ViewEffect}
use Rattle.mm_model.specs.Views.ViewStep.{IsViewRow, ViewRowUnless, ViewCarries}

-- the refusal whose test is the first that holds, if one does
pub data Refuses : List (Bool × Refusal) → Option Refusal → Type 0 where
  Here : {test : Bool} {because : Refusal} {rows : List (Bool × Refusal)} → test ≡ true
      → Refuses ((test, because) ∷ rows) (Some because)
  Later : {test : Bool} {because : Refusal} {rows : List (Bool × Refusal)} {found : Option Refusal} → test ≡ false
      → Refuses rows found → Refuses ((test, because) ∷ rows) found
  Allowed : Refuses [] None

refuses-is : (rows : List (Bool × Refusal)) (found : Option Refusal) → Refuses rows found → first_refusal rows ≡ found
refuses-is _ _ (Refuses.Here {test} {because} {rows} e) = ap (λ b. first_refusal ((b, because) ∷ rows)) e
refuses-is _ _ (Refuses.Later {test} {because} {rows} {found} e rest) =
    ap (λ b. first_refusal ((b, because) ∷ rows)) e ∙ refuses-is rows found rest
refuses-is _ _ Refuses.Allowed = refl

-- the tests of a command on a view
abbrev pub RefusesIn : View → Command → Option Refusal → Type 0
RefusesIn view command found = Refuses (refusal_row (tests_of_view view) command) found

pub row-refused : (view : View) (command : Command) (because : Refusal) → RefusesIn view command (Some because)
    → IsViewRow view command [] (record { view = view; reply = replies.Refused because })
row-refused view command because e =
    subst (λ found. ViewRowUnless found view command [] (record { view = view; reply = replies.Refused because }))
    (sym (refuses-is (refusal_row (tests_of_view view) command) (Some because) e))
    (record { no_lines = refl; effect_is = refl })

pub row-carried : (view : View) (command : Command) (log : List Line) (effect : ViewEffect)
    → RefusesIn view command None → ViewCarries view command log effect → IsViewRow view command log effect
row-carried view command log effect e carries =
    subst (λ found. ViewRowUnless found view command log effect)
    (sym (refuses-is (refusal_row (tests_of_view view) command) None e)) carries
