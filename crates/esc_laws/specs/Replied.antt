-- A law, or what a law is said with: what `Legal` means rests on this.
-- Replies to bidirectional frames: which period is read for one, when it starts, and its bits. Each rule looks at a note, at all
-- notes before it, and at the trace up to the note's time.
use Rattle.std.specs.Prelude.{◌≡◌, ℕ, ◌+◌, max, List, [], reverse, Option}
use Rattle.esc_base.specs.declared.event.Event.{Event}
use Rattle.esc_base.specs.declared.signal.Edge.{Edge}
use Rattle.esc_base.specs.declared.note.Note.{Note}
use Rattle.esc_base.specs.declared.note.Note.TheVariants as note
use Rattle.esc_base.specs.Numbers.{mode_of}
use Rattle.esc_base.specs.Journal.{Each}
use Rattle.esc_base.specs.Trace.{line}
use Rattle.edge_capture.specs.Edges.{last_at}
use Rattle.edge_capture.specs.Burst.{burst}
use Rattle.commutation.specs.Drive.{period_at}
use Rattle.gcr_reply.specs.Reply.{ReplyBits}
use Rattle.esc_laws.specs.Place.{Signal, Owes, Tells, Place, place}

-- from the last edge of a frame the reply starts so many ticks later, 30 microseconds, where it is loaded by then
abbrev pub reply_delay : ℕ
reply_delay = 1440

-- the start of a reply to these edges that is loaded at t: not before the next tick
abbrev pub reply_start : List Edge → ℕ → ℕ
reply_start heard t = max (t + 1) (last_at heard + reply_delay)

-- An R at t answers the window that opened at w in this mode: its reply starts when the frame and the load allow, and its bits
-- tell the period of the V.
pub record IsReply (trace : List Event) (w m : ℕ) (period : Option ℕ) (t start bits : ℕ) : Type 0 where
  pub start_is : start ≡ reply_start (burst (line trace).edges w (mode_of m)) t
  pub bits_are : ReplyBits bits period

-- a V stands only after a good frame in a bidirectional mode, one for each, with the electrical period at its place
abbrev pub TellsAt : List Note → Signal → Option ℕ → Type 0
TellsAt back (Owes w m) period = period ≡ period_at back
TellsAt back s period = ⊥

-- and an R only after a V, one for each
abbrev pub RepliesAt : List Event → Signal → ℕ → ℕ → ℕ → Type 0
RepliesAt trace (Tells w m period) t start bits = IsReply trace w m period t start bits
RepliesAt trace s t start bits = ⊥

-- no activation returns that owes a V or an R
abbrev pub HasReplied : Signal → Type 0
HasReplied (Owes w m) = ⊥
HasReplied (Tells w m period) = ⊥
HasReplied s = Unit {0}

-- the rule of a note at a place, after these notes with the newest first
abbrev pub ReplyRuleAt : List Event → Place → List Note → Note → Type 0
ReplyRuleAt trace p back (note.Period t period) = TellsAt back p.signal period
ReplyRuleAt trace p back (note.Reply t s b) = RepliesAt trace p.signal t.0 s.0 b
ReplyRuleAt trace p back (note.Leave t k) = k ≡ 3 → HasReplied p.signal
ReplyRuleAt trace p back n = Unit {0}

abbrev pub ReplyRule : List Event → List Note → Note → Type 0
ReplyRule trace before n = ReplyRuleAt trace (place before) (reverse before) n

-- each good frame in a bidirectional mode has a V and then an R in its activation, and there are no others
abbrev pub Replied : List Event → List Note → Type 0
Replied trace notes = Each (ReplyRule trace) [] notes
