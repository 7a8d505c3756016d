-- The steps of CAP: how far each takes the activation.
use Rattle.std.proofs.Common.{◌≡◌, ◌<◌, ◌+◌, ◌-◌, ℕ, Bool, true, false, ◌==◌, nat_le, min, if◌then◌else◌, [], ◌∷◌, ◌++◌, length, refl, arith, lit<}
use Rattle.std.proofs.lemmas.Bool.Decides.{nat_tests}
use Rattle.esc_base.specs.declared.signal.Mode.{Mode}
use Rattle.esc_base.specs.declared.signal.Mode.TheVariants.{D300Inv, D600Inv}
use Rattle.esc_base.specs.declared.kind.Kind.TheVariants as kind
use Rattle.timer_regs.specs.Bank.{Bank}
use Rattle.timer_regs.specs.Effects.{read_value}
use Rattle.timer_regs.specs.declared.regs.Reg.TheVariants as reg
use Rattle.interrupt_machine.specs.Did.{Reads}
use Rattle.esc_core.specs.declared.state.CapAt.{CapAt}
use Rattle.esc_core.specs.declared.state.CapAt.TheVariants as cap
use Rattle.input_detect.specs.declared.window.Judgement.{Judgement}
use Rattle.input_detect.specs.declared.window.Judgement.TheVariants.{Good, Bad, Found, Nothing}
use Rattle.esc_core.specs.Brain.{Brain}
use Rattle.input_detect.specs.Judge.{judged}
use Rattle.settings_block.specs.Settings.{servo_of}
use Rattle.esc_core.specs.Stepped.{goes_on}
use Rattle.esc_core.specs.Cap.{after_edges, after_copy, after_good, opens, takes, next_edge, judge_step, cap_step}
use Rattle.esc_core.specs.Firmware.{cap_left}
use Rattle.esc_core.proofs.Moves.{PlainMoves}

opens_moves : (left : ℕ) (c : Brain) (b : Bank) → 1 < left → PlainMoves kind.Cap left c b (opens c b)
opens_moves left c b l = record {
  moves = record { less = l; more = λ e. lit< tt; shut = λ e. cc; others = elim [ kind.Cap ↦ λ ne. absurd (ne refl) | j ↦ λ ne. (refl, refl) ] };
  masked = refl;
  hold = refl;
}

good_less : (m : Mode) → cap_left (after_good m) < 5
good_less D300Inv = lit< tt
good_less D600Inv = lit< tt
good_less m = lit< tt

good_more : (m : Mode) → 0 < cap_left (after_good m)
good_more D300Inv = lit< tt
good_more D600Inv = lit< tt
good_more m = lit< tt

judge_moves : (j : Judgement) (c : Brain) (b : Bank) → PlainMoves kind.Cap 5 c b (judge_step j c b)
judge_moves (Good frame) c b = record {
  moves = record {
    less = good_less c.window;
    more = λ e. good_more c.window;
    shut = λ e. cc;
    others = elim [ kind.Cap ↦ λ ne. absurd (ne refl) | j ↦ λ ne. (refl, refl) ];
  };
  masked = refl;
  hold = refl;
}
judge_moves (Bad why) c b = record {
  moves = record { less = lit< tt; more = λ e. lit< tt; shut = λ e. cc; others = elim [ kind.Cap ↦ λ ne. absurd (ne refl) | j ↦ λ ne. (refl, refl) ] };
  masked = refl;
  hold = refl;
}
judge_moves (Found mode) c b = record {
  moves = record { less = lit< tt; more = λ e. lit< tt; shut = λ e. cc; others = elim [ kind.Cap ↦ λ ne. absurd (ne refl) | j ↦ λ ne. (refl, refl) ] };
  masked = refl;
  hold = refl;
}
judge_moves Nothing c b = record {
  moves = record { less = lit< tt; more = λ e. lit< tt; shut = λ e. cc; others = elim [ kind.Cap ↦ λ ne. absurd (ne refl) | j ↦ λ ne. (refl, refl) ] };
  masked = refl;
  hold = refl;
}

edges_less : (v : Bool) (n : ℕ) → cap_left (if v then cap.Back else cap.Copy (min n 32)) < 40
edges_less true n = lit< tt
edges_less false n = omega arith

edges_more : (v : Bool) (n : ℕ) → 0 < cap_left (if v then cap.Back else cap.Copy (min n 32))
edges_more true n = lit< tt
edges_more false n = omega arith

copy_less_at : (v : Bool) (rest : ℕ) → nat_le rest 1 ≡ v → cap_left (if v then cap.Judge else cap.Copy (rest - 1)) < rest + 6
copy_less_at true rest e = omega arith
copy_less_at false rest e = let l : 1 < rest = grind (arith, nat_tests) in omega arith

copy_less : (rest : ℕ) → cap_left (after_copy rest) < rest + 6
copy_less rest = copy_less_at (nat_le rest 1) rest refl

copy_more : (v : Bool) (rest : ℕ) → 0 < cap_left (if v then cap.Judge else cap.Copy (rest - 1))
copy_more true rest = lit< tt
copy_more false rest = omega arith

copy_moves : (v : Bool) (rest : ℕ) (c : Brain) (b : Bank)
    → PlainMoves kind.Cap (rest + 6) c b (record {
      core = if v then record c { burst = c.burst ++ next_edge c b ∷ []; cap_at = after_copy rest } else record c { cap_at = cap.Back };
      access = Reads (reg.CapEdge (length c.burst));
      notes = [];
      over = false;
    })
copy_moves true rest c b = record {
  moves = record {
    less = copy_less rest;
    more = λ e. copy_more (nat_le rest 1) rest;
    shut = λ e. cc;
    others = elim [ kind.Cap ↦ λ ne. absurd (ne refl) | j ↦ λ ne. (refl, refl) ];
  };
  masked = refl;
  hold = refl;
}
copy_moves false rest c b = record {
  moves = record { less = omega arith; more = λ e. lit< tt; shut = λ e. cc; others = elim [ kind.Cap ↦ λ ne. absurd (ne refl) | j ↦ λ ne. (refl, refl) ] };
  masked = refl;
  hold = refl;
}

begin_moves : (c : Brain) (b : Bank)
    → PlainMoves kind.Cap 40 c b (goes_on (record c { burst = []; cap_at = after_edges (read_value b reg.CapState) }) (Reads reg.CapState))
begin_moves c b = record {
  moves = record {
    less = edges_less (read_value b reg.CapState == 0) (read_value b reg.CapState);
    more = λ e. edges_more (read_value b reg.CapState == 0) (read_value b reg.CapState);
    shut = λ e. cc;
    others = elim [ kind.Cap ↦ λ ne. absurd (ne refl) | j ↦ λ ne. (refl, refl) ];
  };
  masked = refl;
  hold = refl;
}

either_moves : (v : Bool) (c : Brain) (b : Bank)
    → PlainMoves kind.Cap 40 c b
    (if v then opens c b else goes_on (record c { burst = []; cap_at = after_edges (read_value b reg.CapState) }) (Reads reg.CapState))
either_moves true c b = opens_moves 40 c b (lit< tt)
either_moves false c b = begin_moves c b

pub cap_moves : (at : CapAt) (c : Brain) (b : Bank) → 0 < cap_left at → PlainMoves kind.Cap (cap_left at) c b (cap_step at c b)
cap_moves cap.Shut c b l = absurd (omega arith)
cap_moves cap.Start c b l = either_moves c.paused c b
cap_moves (cap.Copy rest) c b l = copy_moves (takes c.burst (next_edge c b)) rest c b
cap_moves cap.Judge c b l = judge_moves (judged c.window c.burst c.orders.settings.input (servo_of c.orders.settings)) c b
cap_moves cap.Open c b l = opens_moves 2 c b (lit< tt)
cap_moves cap.Period c b l = record {
  moves = record { less = lit< tt; more = λ e. lit< tt; shut = λ e. cc; others = elim [ kind.Cap ↦ λ ne. absurd (ne refl) | j ↦ λ ne. (refl, refl) ] };
  masked = refl;
  hold = refl;
}
cap_moves (cap.Reply period) c b l = record {
  moves = record { less = lit< tt; more = λ e. lit< tt; shut = λ e. cc; others = elim [ kind.Cap ↦ λ ne. absurd (ne refl) | j ↦ λ ne. (refl, refl) ] };
  masked = refl;
  hold = refl;
}
cap_moves (cap.Pause at) c b l = record {
  moves = record { less = lit< tt; more = λ e. lit< tt; shut = λ e. cc; others = elim [ kind.Cap ↦ λ ne. absurd (ne refl) | j ↦ λ ne. (refl, refl) ] };
  masked = refl;
  hold = refl;
}
cap_moves cap.Back c b l = record {
  moves = record { less = lit< tt; more = λ e. cc; shut = λ e. refl; others = elim [ kind.Cap ↦ λ ne. absurd (ne refl) | j ↦ λ ne. (refl, refl) ] };
  masked = refl;
  hold = refl;
}
