use Rattle.std.proofs.Common.{◌≡◌, ◌^◌, ◌-◌, min, true, take}
use Rattle.std.specs.List.{list_all}
use Rattle.std.specs.Char.{is_ascii_digit}
use Rattle.trace_text.specs.Line.{number}
use Rattle.trace_text.proofs.field.decimal_of.Given as goal

-- the digits so far are digits, and their number is known
abbrev pub invariant-loop-digit : goal.invariant-loop-digit
invariant-loop-digit l = record {
  digits : list_all is_ascii_digit (take l.digit-index l.digits) ≡ true;
  value : l.n ≡ min (number (take l.digit-index l.digits)) (2 ^ 64 - 1);
}
