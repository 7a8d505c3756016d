-- What a further frame changes of the counted runs.
use Rattle.std.proofs.Common.{◌≡◌, ◌≤◌, ℕ, ◌+◌, Bool, true, false, ◌&&◌, ◌==◌, min, if◌then◌else◌, List, ◌∷◌, Option, Some, None, option_and_then, refl, arith}
use Rattle.std.proofs.lemmas.Bool.Decides.{nat_tests}
use Rattle.dshot_commands.specs.declared.act.Act.{Act}
use Rattle.dshot_commands.specs.declared.act.Act.TheVariants.{Beacon, Direction, ThreeD, Save, Extended, Spin}
use Rattle.dshot_commands.specs.Act.{act_of, acting, frames_needed}
use Rattle.dshot_commands.specs.Repeats.{is_command, no_run, run_after, run_back, run_of, Counts, Heard, Run}

pub either : (b : Bool) (n : ℕ) → (if b then n else n) ≡ n
either true n = refl
either false n = refl

-- after a still frame, the run of a command
still_more : (b : Bool) (run : Run) (v u k : ℕ) → is_command v ≡ b → is_command u ≡ true → run_of run u ≡ min 7 k
    → run_of (if b then record { command = v; frames = if run.command == v then min 7 (run.frames + 1) else 1 } else no_run) u
    ≡ min 7 (if v == u then k + 1 else 0)
still_more true run v u k c h e = grind (arith, nat_tests)
still_more false run v u k c h e = grind (arith, nat_tests)

pub run_more : (still : Bool) (run : Run) (v u k : ℕ) → is_command u ≡ true → run_of run u ≡ min 7 k
    → run_of (run_after run v still) u ≡ min 7 (if still && (v == u) then k + 1 else 0)
run_more false run v u k h e = either (0 == u) 0
run_more true run v u k h e = still_more (is_command v) run v u k refl h e

pub counts_more : (run : Run) (frames : List Heard) (v : ℕ) (still : Bool) → Counts run frames
    → Counts (run_after run v still) (record { value = v; still = still } ∷ frames)
counts_more run frames v still counts = λ u h. run_more still run v u (run_back u frames) h (counts u h)

same_self : (v : ℕ) → (v == v) ≡ true
same_self v = grind (arith, nat_tests)

at_most_seven : (needed k : ℕ) → needed ≤ 6 → (min 7 k == needed) ≡ (k == needed)
at_most_seven needed k le = grind (arith, nat_tests)

needs_six : (act : Act) → frames_needed act ≤ 6
needs_six (Beacon beacon) = omega arith
needs_six (Direction side) = omega arith
needs_six (ThreeD on) = omega arith
needs_six Save = omega arith
needs_six (Extended on) = omega arith
needs_six (Spin side) = omega arith

if_needed : (o : Option Act) (k : ℕ)
    → option_and_then (λ act. if min 7 k == frames_needed act then Some act else None) o
    ≡ option_and_then (λ act. if k == frames_needed act then Some act else None) o
if_needed None k = refl
if_needed (Some act) k = rw (at_most_seven (frames_needed act) k (needs_six act)) refl

-- a run of seven or more acts like one of seven
pub acting_seven : (k v : ℕ) → acting (min 7 k) v ≡ acting k v
acting_seven k v = if_needed (act_of v) k

-- the run of the command that came
pub run_same : (b : Bool) (run : Run) (v k : ℕ) → (run.command == v) ≡ b → run_of run v ≡ min 7 k → (if b then min 7 (run.frames + 1) else 1) ≡ min 7 (k + 1)
run_same true run v k t e = grind (arith, nat_tests)
run_same false run v k t e = grind (arith, nat_tests)

run_is : (still : Bool) (run : Run) (v k : ℕ) → is_command v ≡ true → run_of run v ≡ min 7 k
    → (run_after run v still).frames ≡ min 7 (if still && (v == v) then k + 1 else 0)
run_is true run v k c e = rw (c, same_self v) (run_same (run.command == v) run v k refl e)
run_is false run v k c e = refl

no_command : (v : ℕ) → is_command v ≡ false → act_of v ≡ None
no_command v h = grind (arith, nat_tests)

acts_by : (b : Bool) (run : Run) (frames : List Heard) (v : ℕ) (still : Bool) → is_command v ≡ b → Counts run frames
    → acting (run_after run v still).frames v ≡ acting (run_back v (record { value = v; still = still } ∷ frames)) v
acts_by true run frames v still c counts =
    rw (run_is still run v (run_back v frames) c (counts v c)) (acting_seven (run_back v (record { value = v; still = still } ∷ frames)) v)
acts_by false run frames v still c counts = rw (no_command v c) refl

pub acts_counted : (run : Run) (frames : List Heard) (v : ℕ) (still : Bool) → Counts run frames
    → acting (run_after run v still).frames v ≡ acting (run_back v (record { value = v; still = still } ∷ frames)) v
acts_counted run frames v still counts = acts_by (is_command v) run frames v still refl counts
