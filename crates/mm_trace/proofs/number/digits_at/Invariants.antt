use Rattle.std.proofs.Common.{◌≡◌, ◌<◌, ◌^◌, true, take}
use Rattle.std.specs.List.{list_all}
use Rattle.mm_model.specs.Logs.Trace.{digits_value, is_digit}
use Rattle.mm_trace.proofs.number.digits_at.Given as goal

abbrev pub invariant-loop-i : goal.invariant-loop-i
invariant-loop-i l = record {
  value : l.value ≡ digits_value (take l.i l.front);
  digits : list_all is_digit (take l.i l.front) ≡ true;
  bound : l.value < 10 ^ l.i;
}
