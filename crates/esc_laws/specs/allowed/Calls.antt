-- Shown of the laws, and no law.
-- From which tick on a kind is seen due: in small journals the first such tick, and the one before it.
use Rattle.std.specs.Prelude.{◌≡◌, ◌+◌, ◌-◌, ℕ, Bool, true, false, List, [], ◌∷◌, ◌++◌}
use Rattle.esc_base.specs.declared.kind.Kind.{Kind}
use Rattle.esc_base.specs.declared.kind.Kind.TheVariants as kind
use Rattle.esc_base.specs.declared.event.Event.{Event}
use Rattle.esc_base.specs.declared.event.Event.TheVariants as event
use Rattle.esc_base.specs.declared.note.Note.{Note}
use Rattle.esc_base.specs.Numbers.{as_tick}
use Rattle.settings_block.specs.declared.stored.Loaded.{Loaded}
use Rattle.esc_laws.specs.Saves.{advance_of}
use Rattle.esc_laws.specs.Seen.{sees}
use Rattle.esc_laws.specs.Steps.{opening}
use Rattle.commutation.specs.Pace.{wait_of}
use Rattle.esc_laws.specs.refused.Notes.{enters, leaves, nothing, ticks, acts, saves, switches, turns, crosses}
use Rattle.esc_laws.specs.refused.Nesting.{started, late_low}
use Rattle.esc_laws.specs.refused.Steps.{two_edges, two_later_edges}
use Rattle.esc_laws.specs.refused.Replies.{with_reply}
use Rattle.esc_laws.specs.refused.Crossings.{up_from, commutes, looks}

-- these notes, behind the first two, call for a kind from this tick on, and not a tick earlier
pub record CallsFrom (loaded : Loaded) (trace : List Event) (notes : List Note) (k : Kind) (t : ℕ) : Type 0 where
  pub called : sees loaded trace (opening loaded ++ notes) t k ≡ true
  pub not_before : sees loaded trace (opening loaded ++ notes) (t - 1) k ≡ false

-- they don't call for it at this tick
abbrev pub CallsNot : Loaded → List Event → List Note → Kind → ℕ → Type 0
CallsNot loaded trace notes k t = sees loaded trace (opening loaded ++ notes) t k ≡ false

-- the window of two later edges closes at 5000, and nothing is detected in it
abbrev pub judged_at_5002 : List Note
judged_at_5002 = enters 5000 3 ∷ nothing 5002 ∷ leaves 5002 3 ∷ []

-- the line changes once more while the window timer runs, and has rested at 6300
abbrev pub edge_at_6100 : List Event
edge_at_6100 = two_later_edges ++ event.Edge (as_tick 6100) true ∷ []

-- COMM has changed to sector 1 at 2500, and its low switch is on
abbrev pub turned : List Note
turned = ticks 2404 1 0 20 ∷ enters 2498 6 ∷ turns 2500 1 ∷ switches 2506 0 2 ∷ leaves 2512 6 ∷ []

-- CMP has returned from its first activation after a Q
abbrev pub looked : List Note
looked = commutes ++ looks 8500

pub record CallsBegin : Type 0 where
  -- TICK: at a control tick that no K has
  pub first_control_tick : (loaded : Loaded) → CallsFrom loaded [] [] kind.Tick 2400
  pub next_control_tick : (loaded : Loaded) → CallsFrom loaded [] (ticks 2402 1 0 0 ∷ []) kind.Tick 4800
  -- CAP: at the close of the window; and 1200 ticks after an F without a W, or when the line has rested then; or at a reply's end
  pub window_closes : (loaded : Loaded) → CallsFrom loaded two_edges [] kind.Cap 4200
  pub pause_ends : (loaded : Loaded) → CallsFrom loaded two_later_edges judged_at_5002 kind.Cap 6202
  pub line_has_rested : (loaded : Loaded) → CallsFrom loaded edge_at_6100 judged_at_5002 kind.Cap 6300
  pub reply_ends : (loaded : Loaded) → CallsFrom loaded [] (with_reply 4 ++ leaves 6208 3 ∷ []) kind.Cap 8784
  -- MAIN: while a save is asked for
  pub no_save_is_asked_for : (loaded : Loaded) (t : ℕ) → CallsNot loaded [] (acts 100 9 ∷ []) kind.Main t
  pub save_is_asked_for : (loaded : Loaded) (t : ℕ) → sees loaded [] (opening loaded ++ acts 100 12 ∷ []) t kind.Main ≡ true
  pub save_was_made : (loaded : Loaded) (t : ℕ) → CallsNot loaded [] (acts 100 12 ∷ saves 200 1 ∷ []) kind.Main t
  -- PWM: from a K with a demand on, and then at the start of each period and at the end of the demand in it
  pub demand_stands : (loaded : Loaded) → sees loaded [] (opening loaded ++ started []) 2404 kind.Pwm ≡ true
  pub period_starts : (loaded : Loaded) → CallsFrom loaded [] (started (enters 2410 5 ∷ leaves 2420 5 ∷ [])) kind.Pwm 4000
  pub demand_ends : (loaded : Loaded) → CallsFrom loaded [] (started (enters 4000 5 ∷ leaves 4012 5 ∷ [])) kind.Pwm 4020
  -- COMM: from the start of a drive on, then 240000 ticks after a Q, or the wait after the Z since; and for a low switch that was
  -- left off, once the dead time of its leg is over
  pub drive_starts : (loaded : Loaded) → sees loaded [] (opening loaded ++ started []) 2404 kind.Comm ≡ true
  pub turn_is_forced : (loaded : Loaded) → CallsFrom loaded [] turned kind.Comm 242500
  pub crossing_waits : (loaded : Loaded)
      → CallsFrom loaded [] (turned ++ crosses 9000 ∷ []) kind.Comm (9000 + wait_of (advance_of loaded.settings) 24000)
  pub low_switch_may_turn_on : (loaded : Loaded) → CallsFrom loaded [] (late_low []) kind.Comm 2464
  -- CMP: when the blanking after a Q is over; and 24 ticks after that activation's return, while the comparator is steady at the
  -- expected level from its entry on
  pub blanking_ends : (loaded : Loaded) → CallsFrom loaded [] commutes kind.Cmp 8500
  pub filter_ends : (loaded : Loaded) → loaded.settings.direction ≡ 0 → CallsFrom loaded (up_from 100) looked kind.Cmp 8532
  -- and for each later change: 400 ticks after its return at 8508 while the level is the expected one, or when it becomes that
  pub watch_begins : (loaded : Loaded) → loaded.settings.direction ≡ 0 → CallsFrom loaded (up_from 8501) looked kind.Cmp 8908
  pub watch_hears : (loaded : Loaded) → loaded.settings.direction ≡ 0 → CallsFrom loaded (up_from 9000) looked kind.Cmp 9000
  pub watch_hears_no_other_level : (loaded : Loaded) (t : ℕ) → loaded.settings.direction ≡ 0 → CallsNot loaded [] looked kind.Cmp t
  pub level_came_later : (loaded : Loaded) → loaded.settings.direction ≡ 0 → CallsNot loaded (up_from 8501) looked kind.Cmp 8532
