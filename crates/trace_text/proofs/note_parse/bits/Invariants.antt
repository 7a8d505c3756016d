use Rattle.std.proofs.Common.{◌≡◌, ◌==◌, ◌||◌, min, true, take}
use Rattle.std.specs.List.{list_all}
use Rattle.std.specs.Str.Parse.{digits_value}
use Rattle.trace_text.proofs.note_parse.bits.Given as goal

-- the digits so far are binary, and their number is known
abbrev pub invariant-loop-digit : goal.invariant-loop-digit
invariant-loop-digit l = record {
  passed : list_all (λ c. c == 48 || c == 49) (take l.digit-index l.digits) ≡ true;
  value : l.b ≡ min (digits_value 2 (take l.digit-index l.digits)) 4294967295;
}
