-- The serial receiver, of one byte, and the transmitter.
use Rattle.std.specs.Prelude.{◌≤◌, ◌<◌, ℕ, ◌+◌, ◌*◌, Bool, true, false, ◌&&◌, ◌||◌, nat_le, Option, Some, None}
use Rattle.esc_base.specs.declared.event.Received.{Received}
use Rattle.esc_base.specs.Numbers.{as_tick, bit_of}

abbrev pub is_full : Option Received → Bool
is_full None = false
is_full (Some r) = true

abbrev pub received_at : Option Received → ℕ
received_at None = 0
received_at (Some r) = r.t.0

abbrev pub received_byte : Option Received → ℕ
received_byte None = 0
received_byte (Some r) = r.byte

-- as it is read: bit 0 for a byte that waits, bit 1 for an idle transmitter
abbrev pub uart_state : Option Received → ℕ → ℕ → ℕ
uart_state receive idle_from t = bit_of (is_full receive) + 2 * bit_of (nat_le idle_from t)

-- a byte waits, or bytes are to be sent and the transmitter is idle
abbrev pub asks_uart : Option Received → Bool → ℕ → ℕ → Bool
asks_uart receive sends idle_from t = is_full receive || (sends && nat_le idle_from t)

-- a byte arrives at t
abbrev pub after_arrival : Option Received → ℕ → ℕ → Option Received
after_arrival None t byte = Some (record { t = as_tick t; byte = byte })
after_arrival (Some r) t byte = Some r

-- a byte that waits arrived by now
abbrev pub IsBy : Option Received → ℕ → Type 0
IsBy None t = Unit {0}
IsBy (Some r) t = (r.t.0 ≤ t) × (r.byte < 256)
