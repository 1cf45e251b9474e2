use Rattle.std.proofs.Common.{◌≡◌, ◌<◌, ◌^◌, true, take}
use Rattle.std.specs.List.{list_all}
use Rattle.mm_model.specs.Logs.Trace.{digits_value, is_digit}
use Rattle.mm_trace.proofs.number.number_of.Given as goal

abbrev pub invariant-loop-byte : goal.invariant-loop-byte
invariant-loop-byte l = record {
  value : l.value ≡ digits_value (take l.byte-index l.word);
  digits : list_all is_digit (take l.byte-index l.word) ≡ true;
  bound : l.value < 10 ^ l.byte-index;
}
