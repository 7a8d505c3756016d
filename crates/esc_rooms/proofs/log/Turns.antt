-- One step more: the log, the journal, the core and the registers after it.
use Rattle.std.proofs.Common.{fold, ◌≡◌, ◌≤◌, ◌<◌, ◌+◌, ℕ, Bool, true, false, ◌&&◌, List, [], ◌∷◌, ◌++◌, Option, Some, refl, sym, ◌∙◌, ap, subst, arith, All}
use Rattle.std.proofs.lemmas.List.Elements.{All-head, All-tail}
use Rattle.esc_base.specs.declared.kind.Kind.{Kind}
use Rattle.esc_base.specs.declared.kind.Kind.TheVariants as kind
use Rattle.esc_base.specs.declared.event.Event.{Event}
use Rattle.esc_base.specs.declared.note.Note.{Note}
use Rattle.settings_block.specs.declared.stored.Loaded.{Loaded}
use Rattle.timer_regs.specs.Bank.{Bank}
use Rattle.interrupt_machine.specs.declared.nest.Nest.{Nest}
use Rattle.interrupt_machine.specs.Did.{most}
use Rattle.interrupt_machine.specs.Open.{is_open, IsStack}
use Rattle.interrupt_machine.specs.Response.{is_waiting, wait_next, Patient}
use Rattle.interrupt_machine.proofs.Waiting.{same_patient, patient_most}
use Rattle.esc_core.specs.Brain.{Brain}
use Rattle.esc_core.specs.Firmware.{left_of}
use Rattle.esc_laws.specs.Seen.{sees}
use Rattle.esc_laws.specs.Steps.{Turned, stall_end, notes_in, journal, open_in, next_step, after, uses, is_of, own_steps, steps_since, entered_at, called, StepFits, Below}
use Rattle.esc_rooms.specs.Tied.{Keeps}
use Rattle.esc_laws.specs.Looks.{none_made, Made, made_next, made}
use Rattle.esc_rooms.specs.ChopSteps.{ChopFits}
use Rattle.esc_rooms.specs.Rooms.{Past}
use Rattle.esc_rooms.specs.Logged.{Logged}
use Rattle.esc_laws.proofs.Pushes.{All-later, notes-push, after-push, made-push, entered-push, since-push, called-push, uses-more, step-push}
use Rattle.esc_laws.proofs.Stalls.{free_ended}
use Rattle.esc_rooms.proofs.log.Stages.{Stood}
use Rattle.esc_rooms.proofs.shared.Law.{AtRest}
use Rattle.esc_rooms.specs.World.{world}

-- ---- counts of an open kind

pub reached_on : (cost : ℕ) (trace : List Event) (log : List Turned) (e : Turned) (j : Kind) → (e.enters && is_of j e) ≡ false → e.tick ≡ after cost trace log
    → after cost trace log ≡ uses cost trace (steps_since j log + 1) (entered_at j log)
    → after cost trace (log ++ e ∷ []) ≡ uses cost trace (steps_since j (log ++ e ∷ []) + 1) (entered_at j (log ++ e ∷ []))
reached_on cost trace log e j f at h =
    rw (since-push j log e, entered-push j log e, f)
    (after-push cost trace log e ∙ ap (λ (t : ℕ). next_step cost trace t) (at ∙ h) ∙ sym (uses-more cost trace (steps_since j log + 1) (entered_at j log)))

pub reached_new : (cost : ℕ) (trace : List Event) (log : List Turned) (e : Turned) (j : Kind) → (e.enters && is_of j e) ≡ true
    → after cost trace (log ++ e ∷ []) ≡ uses cost trace (steps_since j (log ++ e ∷ []) + 1) (entered_at j (log ++ e ∷ []))
reached_new cost trace log e j f = rw (since-push j log e, entered-push j log e, f) (after-push cost trace log e)

-- a log's newest step
last_below : (log : List Turned) (e : Turned) (t : ℕ) → Below t (log ++ e ∷ []) → e.tick < t
last_below [] e t b = All-head (λ (x : Turned). x.tick < t) e [] b
last_below (x ∷ log) e t b = last_below log e t (All-tail (λ (y : Turned). y.tick < t) x (log ++ e ∷ []) b)

pub by_on : (cost : ℕ) (trace : List Event) (log : List Turned) (e : Turned) (j : Kind) (t : ℕ) → (e.enters && is_of j e) ≡ false
    → e.tick ≡ after cost trace log
    → after cost trace log ≡ uses cost trace (steps_since j log + 1) (entered_at j log) → Below t (log ++ e ∷ [])
    → uses cost trace (steps_since j (log ++ e ∷ [])) (entered_at j (log ++ e ∷ [])) < t
by_on cost trace log e j t f at h b =
    rw (since-push j log e, entered-push j log e, f) (subst (λ (x : ℕ). x < t) (at ∙ h) (last_below log e t b))

pub by_new : (cost : ℕ) (trace : List Event) (log : List Turned) (e : Turned) (j : Kind) (t : ℕ) → (e.enters && is_of j e) ≡ true → Below t (log ++ e ∷ [])
    → uses cost trace (steps_since j (log ++ e ∷ [])) (entered_at j (log ++ e ∷ [])) < t
by_new cost trace log e j t f b = rw (since-push j log e, entered-push j log e, f) (last_below log e t b)

-- ---- what holds between two steps, in the words of the rooms

pub stood : (loaded : Loaded) (nest : Nest) (cost : ℕ) (trace : List Event) (next : ℕ) (c : Brain) (b : Bank) (stack : List Kind) (log : List Turned)
    → Logged loaded nest cost trace next c b stack log → Stood loaded nest trace c b (made log) (notes_in log) stack
stood loaded nest cost trace next c b stack log l = record {
  said = l.marks.said;
  gates = l.gates;
  ground = l.ground;
  ties = l.ties;
  stack_is = sym l.marks.stack_is;
}

pub at_rest : (loaded : Loaded) (nest : Nest) (cost : ℕ) (trace : List Event) (next : ℕ) (c : Brain) (b : Bank) (stack : List Kind) (log : List Turned)
    → Logged loaded nest cost trace next c b stack log → AtRest (world loaded nest trace c b log)
at_rest loaded nest cost trace next c b stack log l = record { ground = l.ground; ties = l.ties }

-- ---- the new log

-- a kind's count after a step at t
abbrev pub counted_by : Loaded → Nest → List Event → ℕ → List Kind → List Kind → List Turned → Turned → Kind → ℕ
counted_by loaded nest trace t stack stack' log e k =
    wait_next nest k (is_waiting (sees loaded trace (journal loaded log) t) stack k) (is_waiting (sees loaded trace (journal loaded (log
    ++ e ∷ [])) t) stack' k)
    (Some e.kind)
    (called loaded nest trace log k)

-- what a step of a kind gives, by its log entry
pub record Given (loaded : Loaded) (nest : Nest) (cost : ℕ) (trace : List Event) (c' : Brain) (b b' : Bank) (stack stack' : List Kind) (log : List Turned)
    (e : Turned) : Type 0 where
  pub keeps : Keeps c' b' stack'
  pub sorted : IsStack stack'
  pub time : b'.time ≡ b.time
  pub out : Stood loaded nest trace c' b' (made (log ++ e ∷ [])) (notes_in log ++ e.notes) stack'
  pub patient : Patient nest c'.hold b'.masked stack' (sees loaded trace (journal loaded (log ++ e ∷ [])) b.time)
      (λ k. counted_by loaded nest trace b.time stack stack' log e k)
  pub owes : (k : Kind) → is_open stack' k ≡ true → own_steps k (log ++ e ∷ []) + left_of c' k ≤ most k
  pub drive : ChopFits loaded log e
  pub reached : (k : Kind) → is_open stack' k ≡ true
      → after cost trace (log ++ e ∷ []) ≡ uses cost trace (steps_since k (log ++ e ∷ []) + 1) (entered_at k (log ++ e ∷ []))
  pub reached_by : (k : Kind) → is_open stack' k ≡ true → (t : ℕ) → Below t (log ++ e ∷ [])
      → uses cost trace (steps_since k (log ++ e ∷ [])) (entered_at k (log ++ e ∷ [])) < t
  pub fits : ((k : Kind) → called loaded nest trace (log ++ e ∷ []) k ≤ 8) → StepFits loaded nest cost trace log e

counts_by : (nest : Nest) (k : Kind) (by : Option Kind) (n : ℕ) (seen seen' : ℕ → Kind → Bool) (t u : ℕ) (st now st' now' : List Kind) → t ≡ u → now ≡ st
    → now' ≡ st'
    → wait_next nest k (is_waiting (seen t) st k) (is_waiting (seen' t) st' k) by n ≡ wait_next nest k (is_waiting (seen u) now k)
    (is_waiting (seen' u) now' k) by n
counts_by nest k by n seen seen' t u st now st' now' e f g = rw (e, f, g) refl

-- ---- the steps so far stand before a tick

pub past_next : (k : Kind) (enters : Bool) (t u : ℕ) (m : Made) → t + 1 ≤ u → Past m u → Past (made_next k enters t m) u
past_next kind.Cap false t u m a p = record { cap = a; comm = p.comm; cmp = p.cmp }
past_next kind.Comm enters t u m a p = record { cap = p.cap; comm = a; cmp = p.cmp }
past_next kind.Cmp enters t u m a p = record { cap = p.cap; comm = p.comm; cmp = a }
past_next kind.Pwm true t u m a p = record { cap = p.cap; comm = p.comm; cmp = p.cmp }
past_next kind.Pwm false t u m a p = record { cap = p.cap; comm = p.comm; cmp = p.cmp }
past_next k enters t u m a p = p

past_from : (log : List Turned) (u : ℕ) (m : Made) → Below u log → Past m u → Past (fold (λ m e. made_next e.kind e.enters e.tick m) m log) u
past_from [] u m b p = p
past_from (e ∷ log) u m b p =
    past_from log u (made_next e.kind e.enters e.tick m) (All-tail (λ y. y.tick < u) e log b)
    (past_next e.kind e.enters e.tick u m (let l = All-head (λ y. y.tick < u) e log b in omega arith) p)

pub made_below : (log : List Turned) (u : ℕ) → Below u log → Past (made log) u
unfolding made
made_below log u b = past_from log u none_made b (record { cap = omega arith; comm = omega arith; cmp = omega arith })

pub logged_after : (loaded : Loaded) (nest : Nest) (cost : ℕ) (trace : List Event) (c c' : Brain) (b b' : Bank) (stack stack' : List Kind) (log : List Turned)
    (e : Turned)
    → 1 ≤ cost
    → e.tick ≡ b.time → Logged loaded nest cost trace b.time c b stack log → Given loaded nest cost trace c' b b' stack stack' log e
    → Logged loaded nest cost trace (b.time + cost) c' b' stack' (log ++ e ∷ [])
logged_after loaded nest cost trace c c' b b' stack stack' log e some at l g =
    let steps : Made = made (log ++ e ∷ []) in
    let out : Stood loaded nest trace c' b' steps (notes_in (log ++ e ∷ [])) stack' =
    subst (λ (r : List Note). Stood loaded nest trace c' b' steps r stack') (sym (notes-push log e)) g.out in
    let ends : All (λ x. stall_end x ≤ b.time + cost) trace = All-later stall_end trace b.time (b.time + cost) (omega arith) l.stalls in
    let next : after cost trace (log ++ e ∷ []) ≡ b.time + cost =
    after-push cost trace log e ∙ ap (λ (t : ℕ). next_step cost trace t) at ∙ free_ended trace b.time (b.time + cost) l.stalls (omega arith) in
    let counts : (k : Kind) → called loaded nest trace (log ++ e ∷ []) k ≡ counted_by loaded nest trace b.time stack stack' log e k =
    (λ k. called-push loaded nest trace log e k
    ∙ counts_by nest k (Some e.kind) (called loaded nest trace log k) (λ t. sees loaded trace (journal loaded log) t)
    (λ t. sees loaded trace (journal loaded (log ++ e ∷ [])) t) e.tick b.time (open_in loaded log) stack (open_in loaded (log ++ e ∷ [])) stack'
    at l.marks.stack_is (sym out.stack_is)) in
    let patient =
    same_patient nest c'.hold b'.masked stack' (sees loaded trace (journal loaded (log ++ e ∷ [])) b.time) _
    (called loaded nest trace (log ++ e ∷ [])) counts g.patient in
    record {
      keeps = g.keeps;
      sorted = g.sorted;
      marks = record { said = out.said; stack_is = sym out.stack_is };
      gates = out.gates;
      ground = out.ground;
      ties = out.ties;
      patient = subst
          (λ (t : ℕ). Patient nest c'.hold b'.masked stack' (sees loaded trace (journal loaded (log ++ e ∷ [])) t) (called loaded nest trace (log ++ e ∷ [])))
          (sym g.time) patient;
      owes = g.owes;
      reached = g.reached;
      reached_by = g.reached_by;
      fits = step-push (StepFits loaded nest cost trace) [] log e l.fits
          (g.fits
          (patient_most nest c'.hold b'.masked stack' (sees loaded trace (journal loaded (log ++ e ∷ [])) b.time) (called loaded nest trace (log
          ++ e ∷ [])) patient));
      drives = step-push (ChopFits loaded) [] log e l.drives g.drive;
      past = rw next (omega arith);
      made_past = rw (made-push log e) (past_next e.kind e.enters e.tick (b.time + cost) (made log) (omega arith) (record {
        cap = (let p = l.made_past.cap in omega arith);
        comm = (let p = l.made_past.comm in omega arith);
        cmp = (let p = l.made_past.cmp in omega arith);
      }));
      awaits = record { open_step = λ o. rw next (omega arith); idle = λ o t from below f k. absurd (let n = next in omega arith) };
      time = rw g.time (omega arith);
      put_off = λ u from below past f. absurd (let n = next in omega arith);
      stalls = ends;
      at_next = λ o. sym next;
    }
