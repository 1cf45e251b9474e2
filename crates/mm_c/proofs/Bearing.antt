-- Where one more birth can be counted.
use Rattle.std.proofs.Common.{◌≡◌, ◌<◌, ℕ, ◌-◌, ◌^◌, ◌==◌, ◌&&◌, Bool, true, false, sym, ap, ◌∙◌, arith}
use Rattle.mm_model.specs.declared.command.Command.{Command}
use Rattle.mm_c.specs.Calls.{bears}

unlike : (born : ℕ) → born < 2 ^ 64 → (born == 2 ^ 64 - 1) ≡ false → born < 2 ^ 64 - 1
unlike born counted other = grind arith

pub can_bear : (command : Command) (born : ℕ) → born < 2 ^ 64 → (bears command && (born == 2 ^ 64 - 1)) ≡ false
    → bears command ≡ true → born < 2 ^ 64 - 1
can_bear command born counted worn bearing =
    unlike born counted (sym (ap (λ (is : Bool). is && (born == 2 ^ 64 - 1)) bearing) ∙ worn)
