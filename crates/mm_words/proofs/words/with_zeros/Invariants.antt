use Rattle.std.proofs.Common.{◌≡◌, ◌+◌, ◌++◌, replicate}
use Rattle.std_alloc.specs.Vec.{vec_ptr, vec_len, vec_capacity}
use Rattle.mm_words.proofs.words.with_zeros.Given as goal

abbrev pub invariant-loop : goal.invariant-loop
invariant-loop l = record {
  items : l.row.items ≡ l.fn.row.items ++ replicate l.counter 0;
  len : vec_len l.row ≡ vec_len l.fn.row + l.counter;
  capacity : vec_capacity l.row ≡ vec_capacity l.fn.row;
  place : vec_ptr l.row ≡ vec_ptr l.fn.row;
}
