-- A good frame, a detection, and notes of others keep the ties.
use Rattle.std.proofs.Common.{◌≡◌, ◌<◌, ℕ, ◌+◌, Bool, true, false, ◌&&◌, ◌==◌, min, if◌then◌else◌, List, [], ◌∷◌, Option, Some, None, refl, sym, arith}
use Rattle.std.proofs.lemmas.Bool.{and_parts}
use Rattle.std.proofs.lemmas.Bool.Decides.{nat_tests}
use Rattle.esc_base.specs.declared.tick.Tick.{Tick}
use Rattle.esc_base.specs.declared.signal.Mode.{Mode}
use Rattle.esc_base.specs.declared.note.Note.{Note}
use Rattle.esc_base.specs.declared.note.Note.TheVariants as note
use Rattle.esc_base.specs.Numbers.{mode_number}
use Rattle.dshot_commands.specs.declared.act.Act.{Act}
use Rattle.dshot_commands.specs.Act.{acting, number_of}
use Rattle.dshot_commands.specs.Repeats.{is_command, run_after, run_of, Run}
use Rattle.dshot_commands.proofs.Runs.{acting_seven, either, run_more, run_same}
use Rattle.arming.specs.Kept.{after_found, after_frame, is_still, start, Kept}
use Rattle.arming.specs.ControlAt.{armed_at, command_run_at, demand_at, repeated_at, still_at, zeros_at}
use Rattle.arming.specs.Controlled.{says, IsSave}
use Rattle.arming.specs.Stands.{changes_control, with_frame, Stands, IsKept}

pub start_stands : Stands start []
start_stands = record {
  ties = record {
    mode_is = refl;
    armed_is = refl;
    wanted_is = refl;
    demand_is = refl;
    zero_is = refl;
    number_is = refl;
    newest_is = refl;
    base_is = refl;
    frame_most = omega arith;
    timeout_most = omega arith;
    quiet = λ z. absurd (omega arith);
    runs = λ a v h. either (0 == v) 0;
  };
  controlled = tt;
  none_owed = refl;
}

zero_more : (b : Bool) (k z : ℕ) → k ≡ min 30 z → (if b then min 30 (k + 1) else 0) ≡ min 30 (if b then z + 1 else 0)
zero_more true k z e = omega arith
zero_more false k z e = refl

not_special : (s : Bool) (run : Run) → (run_after run 0 s).frames ≡ 0
not_special true run = refl
not_special false run = refl

quiet_frame : (s : Bool) (run : Run) (v z : ℕ) → 0 < (if v == 0 then z + 1 else 0) → (run_after run v s).frames ≡ 0
quiet_frame s run v z lt = let e : v ≡ 0 = grind (arith, nat_tests) in rw e (not_special s run)

still_is : (c : Kept) (back : List Note) → IsKept c back → is_still c ≡ still_at back
still_is c back t = rw (t.armed_is, t.demand_is) refl

frame_ties : (c : Kept) (back : List Note) (t : Tick) (v q : ℕ) → IsKept c back → IsKept (after_frame c v) (note.Good t v q ∷ back)
frame_ties c back t v q ties = record {
  mode_is = ties.mode_is;
  armed_is = ties.armed_is;
  wanted_is = refl;
  demand_is = ties.demand_is;
  zero_is = zero_more (v == 0) c.zero_run (zeros_at back) ties.zero_is;
  number_is = ties.number_is;
  newest_is = let a = ties.number_is in let b = ties.timeout_most in omega arith;
  base_is = ties.base_is;
  frame_most = omega arith;
  timeout_most = ties.timeout_most;
  quiet = λ z. quiet_frame (is_still c) c.run v (zeros_at back) z;
  runs = λ a u h. rw (still_is c back ties) (run_more (still_at back) c.run v u (repeated_at u back) h (ties.runs a u h));
}

-- the last clause is checked for each of the other notes
pub other_ties : (n : Note) (c : Kept) (back : List Note) → changes_control n ≡ false → IsKept c back → IsKept c (n ∷ back)
other_ties (note.Good t v q) c back h ties = absurd (let g = h in cc)
other_ties (note.Detected t m) c back h ties = absurd (let g = h in cc)
other_ties (note.Control t n s d) c back h ties = absurd (let g = h in cc)
other_ties (note.Armed t) c back h ties = absurd (let g = h in cc)
other_ties (note.Lost t x) c back h ties = absurd (let g = h in cc)
other_ties n c back h ties = record {
  mode_is = ties.mode_is;
  armed_is = ties.armed_is;
  wanted_is = ties.wanted_is;
  demand_is = ties.demand_is;
  zero_is = ties.zero_is;
  number_is = ties.number_is;
  newest_is = ties.newest_is;
  base_is = ties.base_is;
  frame_most = ties.frame_most;
  timeout_most = ties.timeout_most;
  quiet = ties.quiet;
  runs = ties.runs;
}

-- a note of another part of the core
pub other_stands : (n : Note) (c : Kept) (back : List Note) → changes_control n ≡ false → says n ≡ None → IsSave back n → Stands c back → Stands c (n ∷ back)
other_stands (note.Good t v q) c back h e p s = absurd (let g = h in cc)
other_stands (note.Detected t m) c back h e p s = absurd (let g = h in cc)
other_stands (note.Control t n m d) c back h e p s = absurd (let g = h in cc)
other_stands (note.Armed t) c back h e p s = absurd (let g = h in cc)
other_stands (note.Lost t x) c back h e p s = absurd (let g = h in cc)
other_stands (note.Command t x) c back h e p s = absurd (let g = e in cc)
other_stands n c back h e p s = record {
  ties = other_ties n c back h s.ties;
  controlled = (record { paid = sym s.none_owed; tick = tt; save = p }, s.controlled);
  none_owed = refl;
}

pub found_stands : (c : Kept) (back : List Note) (t : Tick) (mode : Mode) → Stands c back
    → Stands (after_found c mode) (note.Detected t (mode_number mode) ∷ back)
found_stands c back t mode s = record {
  ties = record {
    mode_is = refl;
    armed_is = s.ties.armed_is;
    wanted_is = s.ties.wanted_is;
    demand_is = s.ties.demand_is;
    zero_is = s.ties.zero_is;
    number_is = s.ties.number_is;
    newest_is = s.ties.newest_is;
    base_is = s.ties.base_is;
    frame_most = s.ties.frame_most;
    timeout_most = s.ties.timeout_most;
    quiet = s.ties.quiet;
    runs = s.ties.runs;
  };
  controlled = (record { paid = sym s.none_owed; tick = tt; save = tt }, s.controlled);
  none_owed = refl;
}

run_is_at : (s b : Bool) (run : Run) (v k : ℕ) → is_command v ≡ b → (s ≡ true → b ≡ true → run_of run v ≡ min 7 k)
    → (run_after run v s).frames ≡ min 7 (if s && b then k + 1 else 0)
run_is_at true true run v k c e = rw c (run_same (run.command == v) run v k refl (e refl refl))
run_is_at true false run v k c e = rw c refl
run_is_at false b run v k c e = refl

run_is : (c : Kept) (back : List Note) (v : ℕ) → IsKept c back → (after_frame c v).run.frames ≡ min 7 (command_run_at v back)
run_is c back v ties =
    rw (still_is c back ties) (run_is_at (still_at back) (is_command v) c.run v (repeated_at v back)
    refl (λ s h. ties.runs (and_parts (armed_at back) (demand_at back == 0) s).0 v h))

framed_stands : (o : Option Act) (c : Kept) (back : List Note) (t : Tick) (v q : ℕ) → acting (command_run_at v back) v ≡ o → Stands c back
    → Stands (after_frame c v) (with_frame t v q o back)
framed_stands None c back t v q e s = record {
  ties = frame_ties c back t v q s.ties;
  controlled = (record { paid = sym s.none_owed; tick = tt; save = tt }, s.controlled);
  none_owed = rw e refl;
}
framed_stands (Some act) c back t v q e s = record {
  ties = other_ties (note.Command t (number_of act)) (after_frame c v) (note.Good t v q ∷ back) refl (frame_ties c back t v q s.ties);
  controlled = (record { paid = rw e refl; tick = tt; save = tt }, (record { paid = sym s.none_owed; tick = tt; save = tt }, s.controlled));
  none_owed = refl;
}

-- a good frame stands for its notes
pub frame_stands : (c : Kept) (back : List Note) (t : Tick) (v q : ℕ) → Stands c back
    → Stands (after_frame c v) (with_frame t v q (acting (after_frame c v).run.frames v) back)
frame_stands c back t v q s =
    rw (run_is c back v s.ties, acting_seven (command_run_at v back) v) (framed_stands (acting (command_run_at v back) v) c back t v q refl s)
