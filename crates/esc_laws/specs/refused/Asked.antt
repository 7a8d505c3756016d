-- Shown of the laws, and no law.
-- What the law of entries refuses: small wrong journals, each with an I of a kind that isn't called.
use Rattle.std.specs.Prelude.{◌≡◌, ℕ, List, [], ◌∷◌, ◌++◌}
use Rattle.esc_base.specs.declared.event.Event.{Event}
use Rattle.esc_base.specs.declared.note.Note.{Note}
use Rattle.esc_base.specs.Journal.{Each}
use Rattle.std.specs.Prelude.{reverse}
use Rattle.settings_block.specs.declared.stored.Loaded.{Loaded}
use Rattle.esc_laws.specs.Asked.{AskRule}
use Rattle.esc_laws.specs.Place.{place}
use Rattle.esc_laws.specs.Steps.{opening}
use Rattle.esc_laws.specs.refused.Notes.{enters, leaves, window, bad, nothing, ticks, turns, switches, crosses}
use Rattle.esc_laws.specs.refused.Nesting.{started}
use Rattle.esc_laws.specs.refused.Windows.{late_edge}
use Rattle.esc_laws.specs.refused.Steps.{two_edges}
use Rattle.esc_laws.specs.refused.Replies.{with_reply}
use Rattle.esc_laws.specs.refused.Crossings.{looks}
use Rattle.esc_laws.specs.allowed.Calls.{turned}

-- each note of a journal keeps the law of entries
abbrev pub Asked : Loaded → List Event → List Note → Type 0
Asked loaded trace notes = Each (λ before n. AskRule loaded trace (place before) (reverse before) n) [] notes

-- these notes, behind the first two, have an I for nothing, whatever stands behind them
abbrev pub Unasked : List Event → List Note → Type 0
Unasked trace notes = (loaded : Loaded) (after : List Note) → Asked loaded trace (opening loaded ++ (notes ++ after)) → ⊥

pub record EntriesRefuse : Type 0 where
  -- TICK is entered at a control tick, once for each
  pub tick_before_the_first : (trace : List Event) → Unasked trace (enters 2399 2 ∷ [])
  pub tick_for_the_second_time : (trace : List Event) → Unasked trace (enters 2400 2 ∷ ticks 2402 1 0 0 ∷ leaves 2404 2 ∷ enters 4799 2 ∷ [])
  -- CAP is entered at the close of the window, and not while nothing was heard in it
  pub cap_before_the_close : Unasked two_edges (enters 4199 3 ∷ [])
  pub cap_without_an_edge : Unasked [] (enters 9000 3 ∷ [])
  -- after an F without a frame it is entered 600 ticks later at the earliest, and when the line has rested
  pub cap_after_599_ticks : (trace : List Event) → Unasked trace (enters 5000 3 ∷ nothing 5006 ∷ leaves 5010 3 ∷ enters 5605 3 ∷ [])
  pub cap_on_a_line_not_at_rest : Unasked late_edge (enters 5000 3 ∷ nothing 5006 ∷ leaves 5010 3 ∷ enters 5799 3 ∷ [])
  -- and after a reply at its end at the earliest
  pub cap_before_the_reply_ends : (trace : List Event) → Unasked trace (with_reply 4 ++ (leaves 6208 3 ∷ enters 8783 3 ∷ []))
  -- PWM is entered for a K with a demand, or for the start of a period or the end of the demand in one since its last entry
  pub pwm_without_a_demand : (trace : List Event) → Unasked trace (enters 4000 5 ∷ [])
  pub pwm_for_no_edge : (trace : List Event) → Unasked trace (started (enters 4000 5 ∷ leaves 4012 5 ∷ enters 4019 5 ∷ []))
  -- COMM is entered in a drive, for a sector change or a low switch that is due
  pub comm_without_a_drive : (trace : List Event) → Unasked trace (enters 2410 6 ∷ [])
  pub comm_before_a_turn_is_due : (trace : List Event) → Unasked trace (turned ++ enters 242499 6 ∷ [])
  -- CMP is entered in a sector of a running drive
  pub cmp_without_a_drive : (trace : List Event) → Unasked trace (enters 2396 4 ∷ [])
  pub cmp_before_the_first_sector : (trace : List Event) → Unasked trace (started (enters 2420 4 ∷ []))
  -- and of four of its activations in a row the fourth comes 400 ticks after the first, or 300 where a Q stands between
  pub fourth_look_after_399_ticks : (trace : List Event) → Unasked trace (turned ++ (looks 8500 ++ looks 8600 ++ looks 8700 ++ enters 8899 4 ∷ []))
  pub fourth_look_after_299_ticks : (trace : List Event) → Unasked trace (turned ++ (looks 8500 ++ looks 8600
      ++ (enters 8650 6 ∷ turns 8652 2 ∷ leaves 8660 6 ∷ looks 8700) ++ enters 8799 4 ∷ []))
  pub cmp_after_the_drive : (trace : List Event) → Unasked trace (turned ++ (ticks 4804 2 0 0 ∷ enters 8500 4 ∷ []))
