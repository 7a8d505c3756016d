-- What the rules of windows and replies say of a good frame in a bidirectional mode, and of a reply: each has the other.
use Rattle.std.specs.Prelude.{◌≡◌, ◌≢◌, ℕ, true, List, [], ◌∷◌, ◌++◌, reverse, Option, All}
use Rattle.esc_base.specs.declared.event.Event.{Event}
use Rattle.esc_base.specs.declared.note.Note.{Note}
use Rattle.esc_base.specs.declared.note.Note.TheVariants as note
use Rattle.esc_base.specs.declared.tick.Tick.{Tick}
use Rattle.esc_base.specs.Numbers.{mode_of}
use Rattle.commutation.specs.Drive.{period_at}
use Rattle.settings_block.specs.declared.stored.Loaded.{Loaded}
use Rattle.esc_laws.specs.Place.{Listens, is_answered, place}
use Rattle.esc_laws.specs.Replied.{IsReply, Replied}
use Rattle.esc_laws.specs.Windowed.{Windowed}

-- CAP doesn't return here
abbrev pub StaysIn : Note → Type 0
StaysIn (note.Leave t k) = k ≢ 3
StaysIn n = Unit {0}

-- these notes, behind those before them, have a V with the electrical period at its place and then an R: the reply to the frame
-- of the window that opened at w in this mode
pub record HasReply (trace : List Event) (w m : ℕ) (before through : List Note) : Type 0 where
  pub first : List Note
  pub period_note : Tick
  pub period : Option ℕ
  pub between : List Note
  pub reply_note : Tick
  pub start : Tick
  pub bits : ℕ
  pub last : List Note
  pub split : through ≡ first ++ (note.Period period_note period ∷ between ++ note.Reply reply_note start bits ∷ last)
  pub period_is : period ≡ period_at (reverse (before ++ first))
  pub reply_is : IsReply trace w m period reply_note.0 start.0 bits

-- Each good frame in a bidirectional mode is replied to before its activation returns: the reply tells the period that stands at
-- the V, and starts 1440 ticks after the frame's last edge, or at the tick after its load where that is later.
abbrev pub FrameIsReplied : Type 0
FrameIsReplied =
    (loaded : Loaded) (trace : List Event) (before through after : List Note) (t u : Tick) (v q w m : ℕ)
    → Windowed loaded trace (before ++ (note.Good t v q ∷ through ++ note.Leave u 3 ∷ after))
    → Replied trace (before ++ (note.Good t v q ∷ through ++ note.Leave u 3 ∷ after))
    → (place before).signal ≡ Listens w m
    → is_answered (mode_of m) ≡ true
    → All StaysIn through
    → HasReply trace w m (before ++ note.Good t v q ∷ []) through

-- these notes end in the activation of a good frame of a bidirectional mode, with its V
pub record HasFrame (before : List Note) : Type 0 where
  pub earlier : List Note
  pub frame_note : Tick
  pub value : ℕ
  pub telemetry : ℕ
  pub first : List Note
  pub period_note : Tick
  pub period : Option ℕ
  pub between : List Note
  pub split : before ≡ earlier ++ (note.Good frame_note value telemetry ∷ first ++ note.Period period_note period ∷ between)
  pub opened : ℕ
  pub mode : ℕ
  pub answers : (place earlier).signal ≡ Listens opened mode
  pub bidirectional : is_answered (mode_of mode) ≡ true
  pub stays : All StaysIn (first ++ between)

-- And nothing else is replied to: each R stands in the activation of such a frame, behind its V.
abbrev pub ReplyHasFrame : Type 0
ReplyHasFrame =
    (trace : List Event) (before after : List Note) (t start : Tick) (bits : ℕ)
    → Replied trace (before ++ note.Reply t start bits ∷ after)
    → HasFrame before
