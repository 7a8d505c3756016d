-- A row of a capture is written.
use Rattle.std.proofs.Common.{◌≡◌, ℕ, ℤ, Bool, List, Option, Result, Ok, Err, OnOk, sym, subst}
use Rattle.esc_base.specs.declared.event.Event.{Event}
use Rattle.esc_base.specs.declared.tick.Tick.{Tick}
use Rattle.trace_tools.specs.declared.writer.Writer.{Writer}
use Rattle.trace_tools.specs.Written.{HasWritten}
use Rattle.am32csv.specs.declared.capture.Capture.{Capture}
use Rattle.am32csv.specs.Rows.{IsTickOf, WritesRow, with_level, zeroth}

pub ok_then : {T E P Q : Type 0} (r : Result T E) → OnOk r P → (P → Q) → OnOk r Q
ok_then (Ok x) p f = f p
ok_then (Err e) p f = tt

pub row_writes : (c m d : Capture) (before after : Option (List ℕ)) (stamp : ℤ) (level : Bool) (t : Tick) → m.writer ≡ c.writer → m.written ≡ c.written
    → IsTickOf c.layout.clock (zeroth c stamp) stamp t.0
    → ((first : Option (List ℕ)) (events : List Event) → HasWritten m.writer first before events
    → HasWritten d.writer first after (with_level events m.written t level))
    → WritesRow c before stamp level d after
row_writes c m d before after stamp level t same_writer same_level is_tick writes = record {
  t = t;
  is_tick = is_tick;
  wrote = λ first events h.
      subst (λ (b : Bool). HasWritten d.writer first after (with_level events b t level)) same_level
      (writes first events (subst (λ (w : Writer). HasWritten w first before events) (sym same_writer) h));
}
