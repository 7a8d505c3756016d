use Rattle.std.proofs.Common.{◌≡◌, ◌&&◌, drop}
use Rattle.std.specs.List.{find}
use Rattle.input_detect.specs.Detect.{fits, allows, modes, seen_of, detect_of}
use Rattle.input_detect.proofs.search.detect.Given as goal

-- the modes that are left decide
abbrev pub invariant-loop-mode : goal.invariant-loop-mode
invariant-loop-mode l =
    detect_of l.burst l.input l.servo ≡ seen_of (find (λ m. allows l.input m && fits m l.burst l.servo) (drop l.mode-index modes))
