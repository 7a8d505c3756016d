-- Shown of the laws, and no law.
-- What the rules of activations refuse: small wrong journals, each with the sentence that it breaks.
use Rattle.std.specs.Prelude.{◌+◌, List, [], ◌∷◌, ◌++◌}
use Rattle.esc_base.specs.declared.note.Note.{Note}
use Rattle.settings_block.specs.declared.stored.Loaded.{Loaded}
use Rattle.interrupt_machine.specs.declared.nest.Nest.{Nest}
use Rattle.interrupt_machine.specs.declared.nest.Nest.TheVariants.{One}
use Rattle.esc_laws.specs.Saves.{advance_of}
use Rattle.esc_laws.specs.Nested.{NestedAfter}
use Rattle.esc_laws.specs.Steps.{opening}
use Rattle.esc_laws.specs.refused.Notes.{enters, leaves, window, good, nothing, ticks, arms, loses, acts, saves, switches, turns, crosses}

-- these notes, behind the first two, don't nest, whatever stands behind them
abbrev pub Unnested : Nest → List Note → Type 0
Unnested nest notes = (loaded : Loaded) (after : List Note) → NestedAfter (advance_of loaded.settings) nest (opening loaded) (notes ++ after) → ⊥

-- TICK has started a drive
abbrev pub started : List Note → List Note
started rest = enters 2400 2 ∷ ticks 2404 1 0 20 ∷ leaves 2408 2 ∷ rest

-- and COMM has changed to sector 1, but its low switch has to wait, since the high one of that leg went off a moment ago
abbrev pub late_low : List Note → List Note
late_low rest = started (enters 2410 6 ∷ switches 2411 2 0 ∷ switches 2416 0 0 ∷ turns 2420 1 ∷ leaves 2430 6 ∷ rest)

pub record NestingRefuses : Type 0 where
  -- O stands for the innermost open kind
  pub return_without_an_entry : (nest : Nest) → Unnested nest (leaves 100 2 ∷ [])
  pub return_of_an_outer_kind : (nest : Nest) → Unnested nest (enters 2400 2 ∷ enters 2402 3 ∷ leaves 2404 2 ∷ [])
  -- a kind enters above all open ones, and with nest 1 above MAIN alone
  pub lower_kind_enters : (nest : Nest) → Unnested nest (enters 2400 3 ∷ enters 2402 2 ∷ [])
  pub kind_enters_twice : (nest : Nest) → Unnested nest (enters 2400 2 ∷ enters 2402 2 ∷ [])
  pub enters_above_another_with_nest_1 : Unnested One (enters 2400 2 ∷ enters 2402 3 ∷ [])
  -- kinds that aren't built don't enter
  pub uart_enters : (nest : Nest) → Unnested nest (enters 2400 1 ∷ [])
  -- W, F and M stand in CAP; K, A and X in TICK; P in MAIN
  pub window_in_tick : (nest : Nest) → Unnested nest (enters 2400 2 ∷ window 2402 0 ∷ [])
  pub verdict_where_none_is_open : (nest : Nest) → Unnested nest (nothing 5000 ∷ [])
  pub act_in_main : (nest : Nest) → Unnested nest (enters 2400 0 ∷ acts 2402 3 ∷ [])
  pub control_tick_in_cap : (nest : Nest) → Unnested nest (enters 2400 3 ∷ ticks 2402 1 0 0 ∷ [])
  pub arming_in_cap : (nest : Nest) → Unnested nest (enters 2400 3 ∷ arms 2402 ∷ [])
  pub loss_in_main : (nest : Nest) → Unnested nest (enters 2400 0 ∷ loses 2402 0 ∷ [])
  pub save_in_tick : (nest : Nest) → Unnested nest (enters 2400 2 ∷ saves 2402 0 ∷ [])
  -- a TICK that returns has one K
  pub tick_returns_without_one : (nest : Nest) → Unnested nest (enters 2400 2 ∷ leaves 2408 2 ∷ [])
  pub tick_returns_with_two : (nest : Nest) → Unnested nest (enters 4800 2 ∷ ticks 4802 1 0 0 ∷ ticks 4804 2 0 0 ∷ leaves 4808 2 ∷ [])
  -- a CAP that returns has one F, or one W without an F
  pub cap_returns_without_either : (nest : Nest) → Unnested nest (enters 5000 3 ∷ leaves 5008 3 ∷ [])
  pub cap_returns_with_two_verdicts : (nest : Nest) → Unnested nest (enters 5000 3 ∷ good 5006 1000 ∷ window 5008 2 ∷ nothing 5010 ∷ leaves 5012 3 ∷ [])
  -- a MAIN that returns has one P
  pub main_returns_without_one : (nest : Nest) → Unnested nest (enters 2400 0 ∷ leaves 2404 0 ∷ [])
  pub main_returns_with_two : (nest : Nest) → Unnested nest (enters 2400 0 ∷ saves 2402 0 ∷ saves 2404 0 ∷ leaves 2406 0 ∷ [])
  -- Q stands in COMM and Z in CMP; the word changes in COMM, PWM and TICK
  pub turn_in_tick : (nest : Nest) → Unnested nest (enters 2400 2 ∷ turns 2402 1 ∷ [])
  pub turn_in_pwm : (nest : Nest) → Unnested nest (enters 2400 5 ∷ turns 2402 1 ∷ [])
  pub word_changes_in_cap : (nest : Nest) → Unnested nest (enters 2400 3 ∷ switches 2402 1 0 ∷ [])
  pub word_changes_where_none_is_open : (nest : Nest) → Unnested nest (switches 2402 1 0 ∷ [])
  pub crossing_in_comm : (nest : Nest) → Unnested nest (enters 2400 6 ∷ crosses 2402 ∷ [])
  -- a COMM that returns has at most one Q, and has one where a sector change was due at its entry
  pub comm_returns_with_two_turns : (nest : Nest) → Unnested nest (started (enters 2410 6 ∷ turns 2420 1 ∷ turns 2422 2 ∷ leaves 2430 6 ∷ []))
  pub comm_returns_without_a_turn : (nest : Nest) → Unnested nest (started (enters 2410 6 ∷ leaves 2430 6 ∷ []))
  pub forced_turn_left_out : (nest : Nest) → Unnested nest (late_low (enters 242424 6 ∷ switches 242430 0 2 ∷ leaves 242440 6 ∷ []))
  -- it returns with the low switch of its Q's pair on, or where the high one of that leg went off 48 ticks before the Q at most
  pub low_switch_left_off : (nest : Nest) → Unnested nest (started (enters 2410 6 ∷ turns 2420 1 ∷ leaves 2430 6 ∷ []))
  pub low_switch_postponed_for_nothing : (nest : Nest)
      → Unnested nest (started (enters 2410 6 ∷ switches 2411 2 0 ∷ switches 2412 0 0 ∷ turns 2460 1 ∷ leaves 2470 6 ∷ []))
  -- a COMM without a Q turns the low switch on that the one with the newest Q had left off, once after each Q
  pub comm_for_nothing : (nest : Nest) → Unnested nest (enters 2410 6 ∷ leaves 2430 6 ∷ [])
  pub postponed_switch_left_off : (nest : Nest) → Unnested nest (late_low (enters 2470 6 ∷ leaves 2480 6 ∷ []))
  pub postponed_switch_twice : (nest : Nest)
      → Unnested nest (late_low (enters 2470 6 ∷ switches 2475 0 2 ∷ leaves 2480 6 ∷ enters 2490 6 ∷ leaves 2494 6 ∷ []))
  pub low_switch_that_was_on : (nest : Nest)
      → Unnested nest (started (enters 2410 6 ∷ turns 2420 1 ∷ switches 2422 0 2 ∷ leaves 2430 6 ∷ enters 2440 6 ∷ leaves 2444 6 ∷ []))
