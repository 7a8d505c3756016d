-- Each good bidirectional frame has its reply, and each reply its frame.
use Rattle.std.proofs.Common.{◌≡◌, ◌≢◌, ℕ, Bool, true, false, ◌==◌, if◌then◌else◌, List, [], ◌∷◌, ◌++◌, reverse, Option, All, refl, sym, ◌∙◌, ap, subst, append-nil, append_assoc}
use Rattle.std.proofs.lemmas.Bool.{ne_eqb, eqb-true, eqb-false}
use Rattle.std.proofs.lemmas.List.Elements.{All-nil, All-head, All-tail, All-push}
use Rattle.esc_base.specs.declared.event.Event.{Event}
use Rattle.esc_base.specs.declared.note.Note.{Note}
use Rattle.esc_base.specs.declared.note.Note.TheVariants as note
use Rattle.esc_base.specs.declared.tick.Tick.{Tick}
use Rattle.esc_base.specs.Journal.{Each}
use Rattle.esc_base.specs.Numbers.{mode_of}
use Rattle.arming.proofs.InOrder.{each_rest, each_at, each_front}
use Rattle.commutation.specs.Drive.{period_at}
use Rattle.settings_block.specs.declared.stored.Loaded.{Loaded}
use Rattle.esc_laws.specs.Place.{Place, Signal, Listens, Judged, Owes, Tells, is_answered, framed, told, replied, rested, next, place}
use Rattle.esc_laws.specs.Windowed.{AnswersAt, OpensAt, WindowRule}
use Rattle.esc_laws.specs.Replied.{TellsAt, RepliesAt, HasReplied, IsReply, ReplyRule}
use Rattle.esc_laws.specs.FrameReplied.{StaysIn, HasReply, FrameIsReplied, HasFrame, ReplyHasFrame}
use Rattle.esc_laws.proofs.Pushes.{place-push}
use Rattle.esc_laws.proofs.ReplyGrowth.{entered_signal}

left_signal : (s : Signal) (t k : ℕ) → k ≢ 3 → (if k == 3 then rested s t else s) ≡ s
left_signal s t k ne = rw (ne_eqb k 3 ne) refl

-- ---- a frame has its reply

-- an R behind a V
record LoadsReply (trace : List Event) (w m : ℕ) (period : Option ℕ) (through : List Note) : Type 0 where
  between : List Note
  reply_note : Tick
  start : Tick
  bits : ℕ
  last : List Note
  split : through ≡ between ++ note.Reply reply_note start bits ∷ last
  reply_is : IsReply trace w m period reply_note.0 start.0 bits

later_reply : (trace : List Event) (w m : ℕ) (period : Option ℕ) (n : Note) (through : List Note) → LoadsReply trace w m period through
    → LoadsReply trace w m period (n ∷ through)
later_reply trace w m period n through r = record {
  between = n ∷ r.between;
  reply_note = r.reply_note;
  start = r.start;
  bits = r.bits;
  last = r.last;
  split = ap (λ (ns : List Note). n ∷ ns) r.split;
  reply_is = r.reply_is;
}

-- the signal after a note at which CAP doesn't return, while an R is owed
tells_next : (loaded : Loaded) (trace : List Event) (w m : ℕ) (period : Option ℕ) (before : List Note) (n : Note) (through : List Note)
    → (place before).signal ≡ Tells w m period → StaysIn n → WindowRule loaded trace before n → ReplyRule trace before n
    → ((place (before ++ n ∷ [])).signal ≡ Tells w m period → LoadsReply trace w m period through) → LoadsReply trace w m period (n ∷ through)
tells_next loaded trace w m period before (note.Reply t s b) through e stays window reply rest = record {
  between = [];
  reply_note = t;
  start = s;
  bits = b;
  last = through;
  split = refl;
  reply_is = subst (λ (x : Signal). RepliesAt trace x t.0 s.0 b) e reply;
}
tells_next loaded trace w m period before (note.Window t x) through e stays window reply rest =
    absurd (subst (λ (s : Signal). OpensAt trace s (place before).cap_entered t.0) e window.0)
tells_next loaded trace w m period before (note.Good t v q) through e stays window reply rest =
    absurd (subst (λ (s : Signal). AnswersAt loaded trace s (place before).cap_entered t.0 (note.Good t v q)) e window)
tells_next loaded trace w m period before (note.Detected t x) through e stays window reply rest =
    absurd (subst (λ (s : Signal). AnswersAt loaded trace s (place before).cap_entered t.0 (note.Detected t x)) e window)
tells_next loaded trace w m period before (note.Nothing t) through e stays window reply rest =
    absurd (subst (λ (s : Signal). AnswersAt loaded trace s (place before).cap_entered t.0 (note.Nothing t)) e window)
tells_next loaded trace w m period before (note.Bad t x) through e stays window reply rest =
    absurd (subst (λ (s : Signal). AnswersAt loaded trace s (place before).cap_entered t.0 (note.Bad t x)) e window)
tells_next loaded trace w m period before (note.Period t p) through e stays window reply rest =
    absurd (subst (λ (s : Signal). TellsAt (reverse before) s p) e reply)
tells_next loaded trace w m period before (note.Enter t k) through e stays window reply rest =
    later_reply trace w m period (note.Enter t k) through
    (rest (rw (place-push before (note.Enter t k)) (entered_signal (place before) t.0 k ∙ e)))
tells_next loaded trace w m period before (note.Leave t k) through e stays window reply rest =
    later_reply trace w m period (note.Leave t k) through
    (rest (rw (place-push before (note.Leave t k)) (left_signal (place before).signal t.0 k stays ∙ e)))
tells_next loaded trace w m period before n through e stays window reply rest =
    later_reply trace w m period n through (rest (rw (place-push before n) e))

loads_reply : (loaded : Loaded) (trace : List Event) (w m : ℕ) (period : Option ℕ) (before through after : List Note) (u : Tick)
    → (place before).signal ≡ Tells w m period
    → Each (WindowRule loaded trace) before (through ++ note.Leave u 3 ∷ after) → Each (ReplyRule trace) before (through ++ note.Leave u 3 ∷ after)
    → All StaysIn through → LoadsReply trace w m period through
loads_reply loaded trace w m period before [] after u e windows replies stays = absurd (subst (λ (s : Signal). HasReplied s) e (replies.0 refl))
loads_reply loaded trace w m period before (n ∷ through) after u e windows replies stays =
    tells_next loaded trace w m period before n through e (All-head StaysIn n through stays) windows.0 replies.0
    (λ e'. loads_reply loaded trace w m period (before ++ n ∷ []) through after u e' windows.1 replies.1 (All-tail StaysIn n through stays))

later_period : (trace : List Event) (w m : ℕ) (before : List Note) (n : Note) (through : List Note) → HasReply trace w m (before ++ n ∷ []) through
    → HasReply trace w m before (n ∷ through)
later_period trace w m before n through r = record {
  first = n ∷ r.first;
  period_note = r.period_note;
  period = r.period;
  between = r.between;
  reply_note = r.reply_note;
  start = r.start;
  bits = r.bits;
  last = r.last;
  split = ap (λ (ns : List Note). n ∷ ns) r.split;
  period_is = r.period_is ∙ ap (λ (ns : List Note). period_at (reverse ns)) (append_assoc before (n ∷ []) r.first);
  reply_is = r.reply_is;
}

-- the V itself, with what stands behind it
period_first : (trace : List Event) (w m : ℕ) (before : List Note) (t : Tick) (period : Option ℕ) (through : List Note) → period ≡ period_at (reverse before)
    → LoadsReply trace w m period through → HasReply trace w m before (note.Period t period ∷ through)
period_first trace w m before t period through e r = record {
  first = [];
  period_note = t;
  period = period;
  between = r.between;
  reply_note = r.reply_note;
  start = r.start;
  bits = r.bits;
  last = r.last;
  split = ap (λ (ns : List Note). note.Period t period ∷ ns) r.split;
  period_is = e ∙ ap (λ (ns : List Note). period_at (reverse ns)) (sym (append-nil before));
  reply_is = r.reply_is;
}

owes_next : (loaded : Loaded) (trace : List Event) (w m : ℕ) (before : List Note) (n : Note) (through : List Note)
    → (place before).signal ≡ Owes w m → StaysIn n → WindowRule loaded trace before n → ReplyRule trace before n
    → ((place (before ++ n ∷ [])).signal ≡ Owes w m → HasReply trace w m (before ++ n ∷ []) through)
    → ((period : Option ℕ) → (place (before ++ n ∷ [])).signal ≡ Tells w m period → LoadsReply trace w m period through)
    → HasReply trace w m before (n ∷ through)
owes_next loaded trace w m before (note.Period t p) through e stays window reply rest tells =
    period_first trace w m before t p through (subst (λ (s : Signal). TellsAt (reverse before) s p) e reply)
    (tells p (rw (place-push before (note.Period t p)) (ap (λ (s : Signal). told s p) e)))
owes_next loaded trace w m before (note.Reply t s b) through e stays window reply rest tells =
    absurd (subst (λ (x : Signal). RepliesAt trace x t.0 s.0 b) e reply)
owes_next loaded trace w m before (note.Window t x) through e stays window reply rest tells =
    absurd (subst (λ (s : Signal). OpensAt trace s (place before).cap_entered t.0) e window.0)
owes_next loaded trace w m before (note.Good t v q) through e stays window reply rest tells =
    absurd (subst (λ (s : Signal). AnswersAt loaded trace s (place before).cap_entered t.0 (note.Good t v q)) e window)
owes_next loaded trace w m before (note.Detected t x) through e stays window reply rest tells =
    absurd (subst (λ (s : Signal). AnswersAt loaded trace s (place before).cap_entered t.0 (note.Detected t x)) e window)
owes_next loaded trace w m before (note.Nothing t) through e stays window reply rest tells =
    absurd (subst (λ (s : Signal). AnswersAt loaded trace s (place before).cap_entered t.0 (note.Nothing t)) e window)
owes_next loaded trace w m before (note.Bad t x) through e stays window reply rest tells =
    absurd (subst (λ (s : Signal). AnswersAt loaded trace s (place before).cap_entered t.0 (note.Bad t x)) e window)
owes_next loaded trace w m before (note.Enter t k) through e stays window reply rest tells =
    later_period trace w m before (note.Enter t k) through
    (rest (rw (place-push before (note.Enter t k)) (entered_signal (place before) t.0 k ∙ e)))
owes_next loaded trace w m before (note.Leave t k) through e stays window reply rest tells =
    later_period trace w m before (note.Leave t k) through
    (rest (rw (place-push before (note.Leave t k)) (left_signal (place before).signal t.0 k stays ∙ e)))
owes_next loaded trace w m before n through e stays window reply rest tells =
    later_period trace w m before n through (rest (rw (place-push before n) e))

has_reply : (loaded : Loaded) (trace : List Event) (w m : ℕ) (before through after : List Note) (u : Tick) → (place before).signal ≡ Owes w m
    → Each (WindowRule loaded trace) before (through ++ note.Leave u 3 ∷ after) → Each (ReplyRule trace) before (through ++ note.Leave u 3 ∷ after)
    → All StaysIn through → HasReply trace w m before through
has_reply loaded trace w m before [] after u e windows replies stays = absurd (subst (λ (s : Signal). HasReplied s) e (replies.0 refl))
has_reply loaded trace w m before (n ∷ through) after u e windows replies stays =
    owes_next loaded trace w m before n through e (All-head StaysIn n through stays) windows.0 replies.0
    (λ e'. has_reply loaded trace w m (before ++ n ∷ []) through after u e' windows.1 replies.1 (All-tail StaysIn n through stays))
    (λ period e'. loads_reply loaded trace w m period (before ++ n ∷ []) through after u e' windows.1 replies.1 (All-tail StaysIn n through stays))

answered_owes : (s : Signal) (w m t : ℕ) → s ≡ Listens w m → is_answered (mode_of m) ≡ true → framed s t ≡ Owes w m
answered_owes s w m t e a = rw (e, a) refl

pub frame_is_replied : FrameIsReplied
frame_is_replied loaded trace before through after t u v q w m windowed replied_to listens answered stays =
    let rest : List Note = through ++ note.Leave u 3 ∷ after in
    let windows : Each (WindowRule loaded trace) before (note.Good t v q ∷ rest) =
    each_rest (WindowRule loaded trace) [] before (note.Good t v q ∷ rest) windowed in
    let replies : Each (ReplyRule trace) before (note.Good t v q ∷ rest) = each_rest (ReplyRule trace) [] before (note.Good t v q ∷ rest) replied_to in
    has_reply loaded trace w m (before ++ note.Good t v q ∷ []) through after u
    (rw (place-push before (note.Good t v q)) (answered_owes (place before).signal w m t.0 listens answered)) windows.1 replies.1 stays

-- ---- a reply has its frame

-- the notes end in the activation of a good bidirectional frame, with no V yet
record OwesReply (before : List Note) (w m : ℕ) : Type 0 where
  earlier : List Note
  frame_note : Tick
  value : ℕ
  telemetry : ℕ
  first : List Note
  split : before ≡ earlier ++ (note.Good frame_note value telemetry ∷ first)
  answers : (place earlier).signal ≡ Listens w m
  bidirectional : is_answered (mode_of m) ≡ true
  stays : All StaysIn first

abbrev Stands : List Note → Signal → Type 0
Stands before (Owes w m) = OwesReply before w m
Stands before (Tells w m period) = HasFrame before
Stands before s = Unit {0}

owes_on : (before : List Note) (w m : ℕ) (n : Note) → StaysIn n → OwesReply before w m → OwesReply (before ++ n ∷ []) w m
owes_on before w m n s o = record {
  earlier = o.earlier;
  frame_note = o.frame_note;
  value = o.value;
  telemetry = o.telemetry;
  first = o.first ++ n ∷ [];
  split = ap (λ (ns : List Note). ns ++ n ∷ []) o.split ∙ append_assoc o.earlier (note.Good o.frame_note o.value o.telemetry ∷ o.first) (n ∷ []);
  answers = o.answers;
  bidirectional = o.bidirectional;
  stays = All-push StaysIn o.first n o.stays s;
}

period_told : (before : List Note) (w m : ℕ) (t : Tick) (period : Option ℕ) → OwesReply before w m → HasFrame (before ++ note.Period t period ∷ [])
period_told before w m t period o = record {
  earlier = o.earlier;
  frame_note = o.frame_note;
  value = o.value;
  telemetry = o.telemetry;
  first = o.first;
  period_note = t;
  period = period;
  between = [];
  split = ap (λ (ns : List Note). ns ++ note.Period t period ∷ []) o.split
      ∙ append_assoc o.earlier (note.Good o.frame_note o.value o.telemetry ∷ o.first) (note.Period t period ∷ []);
  opened = w;
  mode = m;
  answers = o.answers;
  bidirectional = o.bidirectional;
  stays = rw (append-nil o.first) o.stays;
}

frame_on : (before : List Note) (n : Note) → StaysIn n → HasFrame before → HasFrame (before ++ n ∷ [])
frame_on before n s f = record {
  earlier = f.earlier;
  frame_note = f.frame_note;
  value = f.value;
  telemetry = f.telemetry;
  first = f.first;
  period_note = f.period_note;
  period = f.period;
  between = f.between ++ n ∷ [];
  split = ap (λ (ns : List Note). ns ++ n ∷ []) f.split
      ∙ append_assoc f.earlier (note.Good f.frame_note f.value f.telemetry ∷ f.first ++ note.Period f.period_note f.period ∷ f.between) (n ∷ [])
      ∙ ap (λ (ns : List Note). f.earlier ++ (note.Good f.frame_note f.value f.telemetry ∷ ns))
      (append_assoc f.first (note.Period f.period_note f.period ∷ f.between) (n ∷ []));
  opened = f.opened;
  mode = f.mode;
  answers = f.answers;
  bidirectional = f.bidirectional;
  stays = rw (← append_assoc f.first f.between (n ∷ [])) (All-push StaysIn (f.first ++ f.between) n f.stays s);
}

stands_on : (s : Signal) (before : List Note) (n : Note) → StaysIn n → Stands before s → Stands (before ++ n ∷ []) s
stands_on (Owes w m) before n st h = owes_on before w m n st h
stands_on (Tells w m period) before n st h = frame_on before n st h
stands_on s before n st h = tt

stands_framed : (s : Signal) (before : List Note) (t : Tick) (v q : ℕ) → (place before).signal ≡ s
    → Stands (before ++ note.Good t v q ∷ []) (framed s t.0)
stands_framed (Listens w m) before t v q e = by_mode (is_answered (mode_of m)) refl
  where
    by_mode : (a : Bool) → is_answered (mode_of m) ≡ a → Stands (before ++ note.Good t v q ∷ []) (if a then Owes w m else Judged t.0 true)
    by_mode true a = record {
      earlier = before;
      frame_note = t;
      value = v;
      telemetry = q;
      first = [];
      split = refl;
      answers = e;
      bidirectional = a;
      stays = All-nil StaysIn;
    }
    by_mode false a = tt
stands_framed s before t v q e = tt

stands_told : (s : Signal) (before : List Note) (t : Tick) (period : Option ℕ) → Stands before s
    → Stands (before ++ note.Period t period ∷ []) (told s period)
stands_told (Owes w m) before t period h = period_told before w m t period h
stands_told (Tells w m told_period) before t period h = frame_on before (note.Period t period) tt h
stands_told s before t period h = tt

stands_replied : (s : Signal) (before : List Note) (t start : Tick) (bits : ℕ) → Stands before s
    → Stands (before ++ note.Reply t start bits ∷ []) (replied s start.0)
stands_replied (Owes w m) before t start bits h = owes_on before w m (note.Reply t start bits) tt h
stands_replied (Tells w m period) before t start bits h = tt
stands_replied s before t start bits h = tt

-- where CAP returns no reply is owed
stands_rested : (s : Signal) (after : List Note) (t : ℕ) → HasReplied s → Stands after (rested s t)
stands_rested (Owes w m) after t r = absurd r
stands_rested (Tells w m period) after t r = absurd r
stands_rested s after t r = tt

stands_left : (v : Bool) (s : Signal) (before : List Note) (t : Tick) (k : ℕ) → (k == 3) ≡ v → (k ≡ 3 → HasReplied s) → Stands before s
    → Stands (before ++ note.Leave t k ∷ []) (if v then rested s t.0 else s)
stands_left true s before t k e r h = stands_rested s (before ++ note.Leave t k ∷ []) t.0 (r (eqb-true k 3 e))
stands_left false s before t k e r h = stands_on s before (note.Leave t k) (eqb-false k 3 e) h

stands_next : (trace : List Event) (before : List Note) (n : Note) → ReplyRule trace before n → Stands before (place before).signal
    → Stands (before ++ n ∷ []) (next (place before) n).signal
stands_next trace before (note.Enter t k) r h =
    subst (λ (s : Signal). Stands (before ++ note.Enter t k ∷ []) s) (sym (entered_signal (place before) t.0 k))
    (stands_on (place before).signal before (note.Enter t k) tt h)
stands_next trace before (note.Leave t k) r h = stands_left (k == 3) (place before).signal before t k refl r h
stands_next trace before (note.Window t m) r h = tt
stands_next trace before (note.Good t v q) r h = stands_framed (place before).signal before t v q refl
stands_next trace before (note.Detected t m) r h = tt
stands_next trace before (note.Nothing t) r h = tt
stands_next trace before (note.Bad t y) r h = tt
stands_next trace before (note.Period t period) r h = stands_told (place before).signal before t period h
stands_next trace before (note.Reply t s b) r h = stands_replied (place before).signal before t s b h
stands_next trace before n r h = stands_on (place before).signal before n tt h

stands_all : (trace : List Event) (before notes : List Note) → Stands before (place before).signal → Each (ReplyRule trace) before notes
    → Stands (before ++ notes) (place (before ++ notes)).signal
stands_all trace before [] h r = rw (append-nil before) h
stands_all trace before (n ∷ notes) h r =
    rw (← append_assoc before (n ∷ []) notes)
    (stands_all trace (before ++ n ∷ []) notes
    (subst (λ (s : Signal). Stands (before ++ n ∷ []) s) (ap (λ (p : Place). p.signal) (sym (place-push before n))) (stands_next trace before n r.0 h)) r.1)

stands_first : Stands [] (place []).signal
unfolding place
stands_first = tt

replies_stand : (trace : List Event) (s : Signal) (before : List Note) (t start bits : ℕ) → RepliesAt trace s t start bits → Stands before s → HasFrame before
replies_stand trace (Tells w m period) before t start bits r h = h
replies_stand trace s before t start bits r h = absurd r

pub reply_has_frame : ReplyHasFrame
reply_has_frame trace before after t start bits replies =
    replies_stand trace (place before).signal before t.0 start.0 bits (each_at (ReplyRule trace) [] before (note.Reply t start bits) after replies)
    (stands_all trace [] before stands_first (each_front (ReplyRule trace) [] before (note.Reply t start bits ∷ after) replies))
