use Rattle.std.proofs.Common.{◌≡◌, take, length}
use Rattle.mm_model.specs.Views.SetsByBase.{with_grayed_objects}
use Rattle.mm_audit.proofs.objects.Objects.shade_all.Given as goal

abbrev pub invariant-loop-word : goal.invariant-loop-word
invariant-loop-word l = record {
  shaded : l.self ≡ with_grayed_objects (take l.word-index l.words) l.fn.self;
  size : length l.self ≡ length l.fn.self;
}
