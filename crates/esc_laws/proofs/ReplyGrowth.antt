-- Later events change nothing of what the notes said of replies: a frame's window has closed before its reply.
use Rattle.std.proofs.Common.{◌≡◌, ◌≤◌, ℕ, Bool, true, false, ◌==◌, if◌then◌else◌, List, [], ◌∷◌, ◌++◌, Some, Option, refl, sym, subst, arith}
use Rattle.esc_base.specs.declared.kind.Kind.{Kind}
use Rattle.esc_base.specs.declared.event.Event.{Event}
use Rattle.esc_base.specs.declared.note.Note.{Note}
use Rattle.esc_base.specs.declared.note.Note.TheVariants as note
use Rattle.esc_base.specs.Journal.{time_of}
use Rattle.esc_base.specs.Numbers.{mode_of}
use Rattle.esc_base.specs.Trace.{line, tick_of}
use Rattle.edge_capture.specs.Burst.{close}
use Rattle.edge_capture.proofs.Grows.{burst_grows}
use Rattle.interrupt_machine.specs.Open.{kind_of}
use Rattle.settings_block.specs.declared.stored.Loaded.{Loaded}
use Rattle.esc_laws.specs.Place.{Signal, Listens, Judged, Owes, Tells, Replies, Place, is_answered, framed, told, replied, rested, place_entered, next, place}
use Rattle.esc_laws.specs.Windowed.{AnswersAt, WindowRuleAt}
use Rattle.esc_laws.specs.Replied.{RepliesAt, ReplyRule}

-- the window of the frame that is answered has closed by u
pub record HasClosed (trace : List Event) (w m u : ℕ) : Type 0 where
  at : ℕ
  closes : close (line trace).edges w (mode_of m) ≡ Some at
  past : at ≤ u

abbrev pub Settled : List Event → ℕ → Signal → Type 0
Settled trace u (Owes w m) = HasClosed trace w m u
Settled trace u (Tells w m period) = HasClosed trace w m u
Settled trace u s = Unit {0}

framed_settled : (loaded : Loaded) (trace : List Event) (u : ℕ) (s : Signal) (entered t : ℕ) (said : Note) → t ≤ u → AnswersAt loaded trace s entered t said
    → Settled trace u (framed s t)
framed_settled loaded trace u (Listens w m) entered t said le a =
    by_mode (is_answered (mode_of m))
    (record { at = a.closed_at; closes = a.closes; past = (let x = a.waits in let y = a.entered_before in omega arith) })
  where
    by_mode : (v : Bool) → HasClosed trace w m u → Settled trace u (if v then Owes w m else Judged t true)
    by_mode true h = h
    by_mode false h = tt
framed_settled loaded trace u s entered t said le a = tt

told_settled : (trace : List Event) (u : ℕ) (s : Signal) (period : Option ℕ) → Settled trace u s → Settled trace u (told s period)
told_settled trace u (Owes w m) period h = h
told_settled trace u s period h = h

replied_settled : (trace : List Event) (u : ℕ) (s : Signal) (start : ℕ) → Settled trace u s → Settled trace u (replied s start)
replied_settled trace u (Tells w m period) start h = tt
replied_settled trace u s start h = h

rested_settled : (trace : List Event) (u : ℕ) (s : Signal) (t : ℕ) → Settled trace u s → Settled trace u (rested s t)
rested_settled trace u (Judged f opens) t h = tt
rested_settled trace u (Replies end) t h = tt
rested_settled trace u s t h = h

left_settled : (v : Bool) (trace : List Event) (u : ℕ) (s : Signal) (t : ℕ) → Settled trace u s → Settled trace u (if v then rested s t else s)
left_settled true trace u s t h = rested_settled trace u s t h
left_settled false trace u s t h = h

pub entered_signal : (p : Place) (t k : ℕ) → (place_entered p t k).signal ≡ p.signal
entered_signal p t k = by_tests (k == 3) (k == 2) (k == 0) (kind_of k ∷ p.stack)
  where
    by_tests : (x a b : Bool) (stack : List Kind)
        → (if x then record p { stack = stack; cap_entered = t; windows = 0; verdicts = 0; last = t } else if a then record p {
          stack = stack;
          ticks = 0;
          last = t;
        } else if b then record p { stack = stack; saves = 0; last = t } else record p { stack = stack; last = t }).signal ≡ p.signal
    by_tests true a b stack = refl
    by_tests false true b stack = refl
    by_tests false false true stack = refl
    by_tests false false false stack = refl

pub settled_next : (loaded : Loaded) (trace : List Event) (u : ℕ) (p : Place) (back : List Note) (n : Note) → time_of n ≤ u
    → WindowRuleAt loaded trace p back n → Settled trace u p.signal → Settled trace u (next p n).signal
settled_next loaded trace u p back (note.Enter t k) le r h = subst (λ (s : Signal). Settled trace u s) (sym (entered_signal p t.0 k)) h
settled_next loaded trace u p back (note.Leave t k) le r h = left_settled (k == 3) trace u p.signal t.0 h
settled_next loaded trace u p back (note.Window t m) le r h = tt
settled_next loaded trace u p back (note.Good t v q) le r h =
    framed_settled loaded trace u p.signal p.cap_entered t.0 (note.Good t v q) le r
settled_next loaded trace u p back (note.Detected t m) le r h = tt
settled_next loaded trace u p back (note.Nothing t) le r h = tt
settled_next loaded trace u p back (note.Bad t y) le r h = tt
settled_next loaded trace u p back (note.Period t period) le r h = told_settled trace u p.signal period h
settled_next loaded trace u p back (note.Reply t s b) le r h = replied_settled trace u p.signal s.0 h
settled_next loaded trace u p back n le r h = h

replies_grow : (trace : List Event) (e : Event) (s : Signal) (t start bits : ℕ) → Settled trace (tick_of e) s → RepliesAt trace s t start bits
    → RepliesAt (trace ++ e ∷ []) s t start bits
replies_grow trace e (Tells w m period) t start bits h r = record {
  start_is = rw (burst_grows trace e w h.at (mode_of m) h.closes h.past) r.start_is;
  bits_are = r.bits_are;
}
replies_grow trace e s t start bits h r = r

pub reply_grows : (trace : List Event) (e : Event) (before : List Note) (n : Note) → Settled trace (tick_of e) (place before).signal → ReplyRule trace before n
    → ReplyRule (trace ++ e ∷ []) before n
reply_grows trace e before (note.Reply t s b) h r = replies_grow trace e (place before).signal t.0 s.0 b h r
reply_grows trace e before (note.Period t period) h r = r
reply_grows trace e before (note.Leave t k) h r = r
reply_grows trace e before n h r = r
