use Rattle.std.proofs.Common.{◌≡◌, ◌≤◌, ◌-◌, ◌<◌, ◌^◌, true, take}
use Rattle.std.specs.List.{list_all}
use Rattle.std.specs.Char.{is_ascii_digit}
use Rattle.trace_text.specs.Line.{number}
use Rattle.trace_text.proofs.plain.leading_number.Given as goal

-- the bytes so far are digits, and their number is known and fits
abbrev pub invariant-loop-len : goal.invariant-loop-len
invariant-loop-len l = record {
  most : l.len ≤ 10;
  digits : list_all is_ascii_digit (take l.len l.bytes) ≡ true;
  value : l.n ≡ number (take l.len l.bytes);
  small : l.n < 10 ^ l.len;
}

abbrev pub decreases-loop-len : goal.decreases-loop-len
decreases-loop-len l = 10 - l.len
