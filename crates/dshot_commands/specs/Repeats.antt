-- How often a command has come in a row.
use Rattle.std.specs.Prelude.{◌≡◌, ℕ, ◌+◌, Bool, true, ◌==◌, ◌&&◌, nat_le, min, if◌then◌else◌, List, [], ◌∷◌}

abbrev pub is_command : ℕ → Bool
is_command value = nat_le 1 value && nat_le value 47

-- a good frame: its value, and whether the motor was armed with demand 0 when it came
pub record Heard : Type 0 where
  pub value : ℕ
  pub still : Bool

-- how many of the newest frames in a row are still and have this value
abbrev pub run_back : ℕ → List Heard → ℕ
run_back value [] = 0
run_back value (frame ∷ back) = if frame.still && (frame.value == value) then run_back value back + 1 else 0

-- what is kept of them: the newest command, and how often it came in a row, at most seven times
pub record Run : Type 0 where
  pub command : ℕ
  pub frames : ℕ

abbrev pub no_run : Run
no_run = record { command = 0; frames = 0 }

-- a good frame comes: a still command goes on with its run or begins one, any other frame ends it
abbrev pub run_after : Run → ℕ → Bool → Run
run_after run value still =
    if still && is_command value
    then record { command = value; frames = if run.command == value then min 7 (run.frames + 1) else 1 }
    else no_run

-- how often this command came in a row, by what is kept
abbrev pub run_of : Run → ℕ → ℕ
run_of run value = if run.command == value then run.frames else 0

-- what is kept counts these frames, the newest first, rightly for each command
abbrev pub Counts : Run → List Heard → Type 0
Counts run frames = (value : ℕ) → is_command value ≡ true → run_of run value ≡ min 7 (run_back value frames)
