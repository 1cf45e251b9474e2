use Rattle.std.proofs.Common.{◌≡◌, ◌+◌, ◌*◌, ◌≤◌, ◌++◌, take}
use Rattle.std.specs.List.{flat_map}
use Rattle.arrayvec.specs.ArrayVec.{array_vec_len}
use Rattle.mm_trace.proofs.Sentences.{behind_space}
use Rattle.mm_trace.proofs.put.put_sentence.Given as goal

abbrev pub invariant-loop-number : goal.invariant-loop-number
invariant-loop-number l = record {
  items : l.to.items ≡ l.initial.to.items ++ flat_map behind_space (take l.number-index l.numbers);
  room : array_vec_len l.to ≤ array_vec_len l.initial.to + 11 * l.number-index;
}
