-- A step more, and what time and events do to the steps' places.
use Rattle.std.proofs.Common.{◌≡◌, ◌<◌, ◌≤◌, ◌+◌, ℕ, false, List, [], ◌∷◌, ◌++◌, length, All, Option, Some, None, inl, inr, max, refl, sym, ◌∙◌, ap, subst, arith}
use Rattle.std.proofs.lemmas.Bool.Decides.{nat_tests}
use Rattle.std.proofs.lemmas.List.Elements.{All-push, All-weaker, All-append}
use Rattle.esc_base.specs.declared.event.Event.{Event}
use Rattle.esc_base.specs.declared.event.Event.TheVariants as event
use Rattle.esc_base.specs.declared.tick.Tick.{Tick}
use Rattle.esc_base.specs.Flash.{Told, IsWhole}
use Rattle.esc_base.specs.Journal.{time_of}
use Rattle.esc_base.specs.Range.{InRange}
use Rattle.esc_base.specs.Trace.{tick_of as tick_of_event}
use Rattle.esc_base.specs.declared.kind.Kind.{Kind}
use Rattle.esc_base.specs.declared.note.Note.{Note}
use Rattle.esc_base.specs.Numbers.{as_tick}
use Rattle.settings_block.specs.declared.stored.Loaded.{Loaded}
use Rattle.timer_regs.specs.Bank.{Bank}
use Rattle.timer_regs.specs.Effects.{advanced}
use Rattle.timer_regs.specs.NextDue.{tick_of, IsNext, IsNextDue}
use Rattle.interrupt_machine.specs.declared.nest.Nest.{Nest}
use Rattle.interrupt_machine.specs.Open.{due_now, is_idle}
use Rattle.esc_core.specs.Brain.{Brain}
use Rattle.esc_laws.specs.Steps.{Turned, journal, past_stall, Below, EachStep, StepFits}
use Rattle.esc_laws.specs.Legal.{Legal}
use Rattle.esc_rooms.specs.Logged.{Logged, CoreTurn, turned}
use Rattle.esc_rooms.specs.World.{after_event}
use Rattle.esc_laws.proofs.Pushes.{journal-push, step-push}
use Rattle.trace_runner.specs.Run.{IsApart, StepBound, Outset, Runs, LeftBelow, StandsFor, nest_of, cost_of, newest}
use Rattle.trace_runner.specs.declared.state.Runner.{Runner}
use Rattle.esc_laws.specs.Saves.{FlashFits}
use Rattle.esc_rooms.proofs.log.FlashSteps.{turn_flash, front_flash}
use Rattle.esc_laws.proofs.Notes.{all_front}
use Rattle.esc_rooms.proofs.log.Carried.{turn_logged, time_logged, event_logged, few_open, legal_logged, front_logged, last_step}
use Rattle.esc_core.specs.Firmware.{waits_of}

bound_push : (cost until : ℕ) (steps : List Turned) (e : Turned) → StepBound cost until steps → All (λ d. d.tick + cost ≤ e.tick) steps → e.tick < until
    → length e.notes ≤ 6 → StepBound cost until (steps ++ e ∷ [])
bound_push cost until steps e b s lt few = record {
  apart = step-push (IsApart cost) [] steps e b.apart s;
  below = All-push (λ d. d.tick < until) steps e b.below lt;
  few = All-push (λ d. length d.notes ≤ 6) steps e b.few few;
}

pub bound_until : (cost t until : ℕ) (steps : List Turned) → t ≤ until → StepBound cost t steps → StepBound cost until steps
bound_until cost t until steps le b = record {
  apart = b.apart;
  below = All-weaker (λ d. d.tick < t) (λ d. d.tick < until) (λ d lt. omega arith) steps b.below;
  few = b.few;
}

pub spaced_later : (cost t next : ℕ) (steps : List Turned) → t ≤ next → All (λ d. d.tick + cost ≤ t) steps → All (λ d. d.tick + cost ≤ next) steps
spaced_later cost t next steps le s = All-weaker (λ d. d.tick + cost ≤ t) (λ d. d.tick + cost ≤ next) (λ d lt. omega arith) steps s

pub spaced_push : (cost next : ℕ) (steps : List Turned) (e : Turned) → e.tick ≡ next → All (λ d. d.tick + cost ≤ next) steps
    → All (λ d. d.tick + cost ≤ next + cost) (steps ++ e ∷ [])
spaced_push cost next steps e at s =
    All-push (λ d. d.tick + cost ≤ next + cost) steps e (spaced_later cost next (next + cost) steps (omega arith) s) (omega arith)

pub tick_bound : (cost next limit : ℕ) (steps : List Turned) (e : Turned) → e.tick ≡ next → next < limit → length e.notes ≤ 6
    → All (λ d. d.tick + cost ≤ next) steps → StepBound cost limit steps → StepBound cost limit (steps ++ e ∷ [])
tick_bound cost next limit steps e at lt few s b = bound_push cost limit steps e b (spaced_later cost next e.tick steps (omega arith) s) (omega arith) few

pub below_next : (cost next : ℕ) (steps : List Turned) → 1 ≤ cost → All (λ d. d.tick + cost ≤ next) steps → Below next steps
below_next cost next steps some s = All-weaker (λ d. d.tick + cost ≤ next) (λ d. d.tick < next) (λ d lt. omega arith) steps s

-- ---- one step

pub turned-tick : {nest : Nest} {c c' : Brain} {stack stack' : List Kind} {b b' : Bank} {flash flash' : Told} (t : ℕ) (notes : List Note)
    (e : CoreTurn nest c stack b flash notes c' stack' b' flash')
    → (turned t notes e).tick ≡ t
turned-tick t notes (inl e) = refl
turned-tick t notes (inr e) = refl

pub turned-notes : {nest : Nest} {c c' : Brain} {stack stack' : List Kind} {b b' : Bank} {flash flash' : Told} (t : ℕ) (notes : List Note)
    (e : CoreTurn nest c stack b flash notes c' stack' b' flash')
    → (turned t notes e).notes ≡ notes
turned-notes t notes (inl e) = refl
turned-notes t notes (inr e) = refl

-- ---- what `Logged` becomes, with the numbers that the runner has at hand

pub step_logged : (loaded : Loaded) (nest nest' : Nest) (cost next : ℕ) (trace : List Event) (c c' : Brain) (b b' : Bank) (flash flash' : Told)
    (stack stack' : List Kind) (steps : List Turned) (notes : List Note)
    → nest' ≡ nest → b.time ≡ next → 1 ≤ cost → next + cost < 2147483648 → Logged loaded nest cost trace next c b stack steps
    → is_idle stack (due_now (waits_of c) b) ≡ false
    → (t : CoreTurn nest c stack b flash notes c' stack' b' flash')
    → Logged loaded nest' cost trace (next + cost) c' b' stack' (steps ++ turned b.time notes t ∷ [])
step_logged loaded nest nest' cost next trace c c' b b' flash flash' stack stack' steps notes same at some small l busy t =
    rw same (subst (λ (n : ℕ). Logged loaded nest cost trace (n + cost) c' b' stack' (steps ++ turned b.time notes t ∷ [])) at
    (turn_logged loaded nest cost trace c c' b b' flash flash' stack stack' steps notes some (omega arith)
    (subst (λ (n : ℕ). Logged loaded nest cost trace n c b stack steps) (sym at) l) busy t))

-- the notes of a step stand at its tick
own_below : (loaded : Loaded) (nest : Nest) (cost until : ℕ) (trace : List Event) (steps : List Turned) (e : Turned) (front rest : List Note)
    → e.notes ≡ front ++ rest → e.tick < until
    → EachStep (StepFits loaded nest cost trace) [] (steps ++ e ∷ []) → All (λ n. time_of n < until) front
own_below loaded nest cost until trace steps e front rest split lt fits =
    let f : StepFits loaded nest cost trace steps e = last_step (StepFits loaded nest cost trace) [] steps e fits in
    let at : All (λ n. time_of n ≡ e.tick) (front ++ rest) = subst (λ (ns : List Note). All (λ n. time_of n ≡ e.tick) ns) split f.at_tick in
    All-weaker (λ n. time_of n ≡ e.tick) (λ n. time_of n < until) (λ n is. omega arith) front (all_front (λ n. time_of n ≡ e.tick) front rest at)

-- the notes' numbers after the step
pub step_in_range : (loaded : Loaded) (steps : List Turned) (e : Turned) (own : List Note) → e.notes ≡ own → All InRange own
    → All InRange (journal loaded steps) → All InRange (journal loaded (steps ++ e ∷ []))
step_in_range loaded steps e own is range before =
    subst (λ (ns : List Note). All InRange ns) (sym (journal-push loaded steps e ∙ ap (λ (ns : List Note). journal loaded steps ++ ns) is))
    (All-append InRange (journal loaded steps) own before range)

-- the flash after the step
pub step_flash : (o : Outset) (nest : Nest) (cost next : ℕ) (trace : List Event) (c c' : Brain) (b b' : Bank) (flash flash' : Told) (stack stack' : List Kind)
    (steps : List Turned) (notes : List Note)
    → b.time ≡ next → Logged o.loaded nest cost trace next c b stack steps → IsWhole flash.bytes → IsWhole flash'.bytes
    → (t : CoreTurn nest c stack b flash notes c' stack' b' flash') → FlashFits o.loaded o.flash flash (journal o.loaded steps)
    → FlashFits o.loaded o.flash flash' (journal o.loaded (steps ++ turned b.time notes t ∷ []))
step_flash o nest cost next trace c c' b b' flash flash' stack stack' steps notes at l whole whole' t fits =
    rw (journal-push o.loaded steps (turned b.time notes t), turned-notes b.time notes t)
    (turn_flash o.loaded nest cost trace c c' b b' o.flash flash flash' stack stack' steps notes
    (subst (λ (n : ℕ). Logged o.loaded nest cost trace n c b stack steps) (sym at) l) whole whole' t fits)

-- what is left where the notes of a step were written up to one of them
pub step_breaks : (o : Outset) (nest : Nest) (cost next until : ℕ) (trace : List Event) (c c' : Brain) (b b' : Bank) (flash flash' : Told)
    (stack stack' : List Kind) (steps : List Turned) (notes front rest : List Note) (last : Note)
    → b.time ≡ next → next < until → 1 ≤ cost → cost ≤ 16 → next + cost < 2147483648 → Logged o.loaded nest cost trace next c b stack steps
    → is_idle stack (due_now (waits_of c) b) ≡ false
    → CoreTurn nest c stack b flash notes c' stack' b' flash' → Below next steps → notes ≡ (front ++ last ∷ []) ++ rest → All InRange notes
    → All InRange (journal o.loaded steps) → IsWhole flash.bytes → IsWhole flash'.bytes → FlashFits o.loaded o.flash flash (journal o.loaded steps)
    → LeftBelow o flash' nest cost until trace (journal o.loaded steps ++ (front ++ last ∷ []))
step_breaks o nest cost next until trace c c' b b' flash flash' stack stack' steps notes front rest last at lt some most small l busy t below split
    range before whole whole' fits =
    let e : Turned = turned b.time notes t in
    let tick : e.tick ≡ next = turned-tick b.time notes t ∙ at in
    let own : e.notes ≡ (front ++ last ∷ []) ++ rest = turned-notes b.time notes t ∙ split in
    let after : Logged o.loaded nest cost trace (next + cost) c' b' stack' (steps ++ e ∷ []) =
    step_logged o.loaded nest nest cost next trace c c' b b' flash flash' stack stack' steps notes refl at some small l busy t in
    record {
      legal =
          front_logged o.loaded nest cost trace (next + cost) c' b' stack' steps e (front ++ last ∷ []) rest some most own
          (subst (λ (n : ℕ). Below n steps) (sym tick) below)
          (All-append InRange (journal o.loaded steps) (front ++ last ∷ []) before
          (all_front InRange (front ++ last ∷ []) rest (subst (λ (ns : List Note). All InRange ns) split range)))
          (few_open o.loaded nest cost trace next c b stack steps l) after;
      below = All-append (λ n. time_of n < until) (journal o.loaded steps) (front ++ last ∷ [])
          (All-weaker (λ n. time_of n ≤ b.time) (λ n. time_of n < until) (λ n le. omega arith) (journal o.loaded steps) l.marks.said.past)
          (own_below o.loaded nest cost until trace steps e (front ++ last ∷ []) rest own (omega arith) after.fits);
      flash = front_flash o.loaded nest cost trace c c' b b' o.flash flash flash' stack stack' steps notes front rest last (sym split)
          (subst (λ (n : ℕ). Logged o.loaded nest cost trace n c b stack steps) (sym at) l) whole whole' t fits;
    }

-- ---- an idle jump

-- a jump reaches a tick that isn't after the one at which something becomes due
pub record JumpsTo (time limit : ℕ) (due : Option ℕ) (to : ℕ) : Type 0 where
  pub later : time ≤ to
  pub within : to ≤ limit
  pub no_later : (d : ℕ) → due ≡ Some d → to ≤ d

tick_is : (o : Option Tick) (u : Tick) (d : ℕ) → o ≡ Some u → tick_of o ≡ Some d → u.0 ≡ d
tick_is o u d e h = let f : Some u.0 ≡ Some d = sym (ap (λ (x : Option Tick). tick_of x) e) ∙ h in cc

pub jumps_to_due : (b : Bank) (limit : ℕ) (o : Option Tick) (u to : Tick) → IsNextDue b (tick_of o) → o ≡ Some u → u.0 < limit → to ≡ u
    → JumpsTo b.time limit (tick_of o) to.0
jumps_to_due b limit o u to next e lt same =
    let n : IsNext b u.0 = subst (λ (x : Option Tick). IsNextDue b (tick_of x)) e next in
    let l : b.time < u.0 = n.later in
    let s : to.0 ≡ u.0 = ap (λ (x : Tick). x.0) same in
    record { later = omega arith; within = omega arith; no_later = λ d h. (let f : u.0 ≡ d = tick_is o u d e h in omega arith) }

pub jumps_to_limit : (b : Bank) (limit to : Tick) (o : Option Tick) → b.time ≤ limit.0 → to ≡ limit → ((d : ℕ) → tick_of o ≡ Some d → limit.0 ≤ d)
    → JumpsTo b.time limit.0 (tick_of o) to.0
jumps_to_limit b limit to o le same f =
    let s : to.0 ≡ limit.0 = ap (λ (x : Tick). x.0) same in
    record { later = omega arith; within = omega arith; no_later = λ d h. (let g : limit.0 ≤ d = f d h in omega arith) }

pub due_after : (o : Option Tick) (u : Tick) (limit : ℕ) → o ≡ Some u → limit ≤ u.0 → (d : ℕ) → tick_of o ≡ Some d → limit ≤ d
due_after o u limit e le d h = let f : u.0 ≡ d = tick_is o u d e h in omega arith

pub none_due : (o : Option Tick) (limit : ℕ) → o ≡ None → (d : ℕ) → tick_of o ≡ Some d → limit ≤ d
none_due o limit e d h = let f : None ≡ Some d = sym (ap (λ (x : Option Tick). tick_of x) e) ∙ h in absurd (cc)

-- ---- an event, at the limit

-- `e` is the event, and `x` shows what it is
pub event_later : (r : Runner) (e x : Event) (b' : Bank) (next' : ℕ) → r.limit.0 ≡ tick_of_event e → r.limit.0 ≤ r.next.0 → e ≡ x
    → b' ≡ after_event (advanced r.regs r.limit.0) x → next' ≡ past_stall r.next.0 x
    → (o : Outset) (now : Told) (trace : List Event) (steps : List Turned) → Runs r o now trace steps
    → Logged o.loaded r.machine.nest r.cost (trace ++ e ∷ []) next' r.machine.firmware b' r.machine.open_kinds steps
event_later r e x b' next' at reached is bank put_off o now trace steps st =
    let small : r.limit.0 ≤ 1073741824 = r.limit_small in
    rw (is, bank, put_off)
    (event_logged o.loaded r.machine.nest r.cost trace x r.next.0 r.machine.firmware (advanced r.regs r.limit.0) r.machine.open_kinds steps
    (rw (← is) (sym at)) st.bound.below
    (time_logged o.loaded r.machine.nest r.cost trace r.next.0 r.machine.firmware r.regs r.machine.open_kinds steps r.limit.0 r.before reached (omega arith)
    st.logged))

-- a stall that begins by the next step puts it off to its end, if that is later
pub stall_max : (at n next : ℕ) → at ≤ next → max next (at + n) ≡ past_stall next (event.Stall (as_tick at) n)
stall_max at n next le = grind (arith, nat_tests)

-- ---- what a runner that stands says

pub legal_at : (r : Runner) (o : Outset) (now : Told) (trace : List Event) (steps : List Turned) → StandsFor r o now trace steps
    → Legal o.loaded (nest_of r) (cost_of r) trace (newest r) (journal o.loaded steps)
legal_at r o now trace steps st =
    legal_logged o.loaded r.machine.nest r.cost trace r.next.0 r.machine.firmware r.regs r.machine.open_kinds steps r.limit.0 r.cost_some r.cost_most st.reached
    st.runs.bound.below
    st.runs.in_range st.runs.logged
