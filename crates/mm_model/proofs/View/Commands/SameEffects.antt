-- What a command does to a view of a state, and to the state: it leaves the view of the state left, and one reply.
use Rattle.std.proofs.Common.{◌≡◌, Option, Some, None, refl, sym, subst}
use Rattle.std.specs.Option.{option_map}
use Rattle.mm_model.specs.State.{State}
use Rattle.mm_model.specs.Effect.{Effect, nothing_done, with_some}
use Rattle.mm_model.specs.Views.View.{view_of}
use Rattle.mm_model.specs.Views.ViewEffect.{ViewEffect, view_nothing_done, with_found}

pub record SameEffect (v : ViewEffect) (e : Effect) : Type 0 where
  pub view : v.view ≡ view_of e.state
  pub reply : v.reply ≡ e.reply

pub nothing-same : (a : State) → SameEffect (view_nothing_done (view_of a)) (nothing_done a)
nothing-same a = record { view = refl; reply = refl }

-- where the view finds what the state finds
pub found-same : (a : State) {X Y : Type 0} (f : X → Y) (seen : Option Y) (found : Option X)
    → seen ≡ option_map f found → (on_seen : Y → ViewEffect) (on_found : X → Effect)
    → ((x : X) → found ≡ Some x → SameEffect (on_seen (f x)) (on_found x))
    → SameEffect (with_found seen (view_of a) on_seen) (with_some found a on_found)
found-same a f seen None is on_seen on_found same =
    subst (λ found. SameEffect (with_found found (view_of a) on_seen) (nothing_done a)) (sym is) (nothing-same a)
found-same a f seen (Some x) is on_seen on_found same =
    subst (λ found. SameEffect (with_found found (view_of a) on_seen) (on_found x)) (sym is) (same x refl)
