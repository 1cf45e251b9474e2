use Rattle.std.proofs.Common.{◌≡◌, ◌+◌, ◌++◌, take}
use Rattle.arrayvec.specs.ArrayVec.{array_vec_len}
use Rattle.mm_sites.proofs.text.put_text.Given as goal

abbrev pub invariant-loop-byte : goal.invariant-loop-byte
invariant-loop-byte l = record {
  items : l.to.items ≡ l.initial.to.items ++ take l.byte-index l.text;
  len : array_vec_len l.to ≡ array_vec_len l.initial.to + l.byte-index;
}
