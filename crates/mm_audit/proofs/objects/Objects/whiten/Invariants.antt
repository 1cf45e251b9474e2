use Rattle.std.proofs.Common.{◌≡◌, ◌*◌, ◌-◌, ◌%◌, ◌≤◌, length}
use Rattle.mm_model.specs.Views.ByBase.{changed}
use Rattle.mm_audit.proofs.Whitening.{white_below}
use Rattle.mm_audit.proofs.objects.Objects.whiten.Given as goal

abbrev pub invariant-loop-base : goal.invariant-loop-base
invariant-loop-base l = record {
  aligned : l.from % 16 ≡ 0;
  inside : l.from ≤ 16 * length l.self;
  white : l.self ≡ changed (white_below l.from) l.fn.self;
  size : length l.self ≡ length l.fn.self;
}

abbrev pub decreases-loop-base : goal.decreases-loop-base
decreases-loop-base l = 16 * length l.self - l.from
