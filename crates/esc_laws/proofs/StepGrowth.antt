-- A later event changes nothing of the steps before it.
use Rattle.std.proofs.Common.{◌≡◌, ◌<◌, ℕ, Bool, not, ◌&&◌, List, [], ◌∷◌, ◌++◌, Some, refl, sym, ◌∙◌, ap, arith}
use Rattle.std.proofs.lemmas.List.Elements.{All-nil, All-head, All-tail, All-push}
use Rattle.esc_base.specs.declared.kind.Kind.{Kind}
use Rattle.esc_base.specs.declared.event.Event.{Event}
use Rattle.esc_base.specs.Trace.{tick_of}
use Rattle.settings_block.specs.declared.stored.Loaded.{Loaded}
use Rattle.interrupt_machine.specs.declared.nest.Nest.{Nest}
use Rattle.interrupt_machine.specs.Open.{is_open}
use Rattle.interrupt_machine.specs.Response.{wait_next}
use Rattle.esc_laws.specs.Steps.{Turned, journal, open_in, after, is_called, called_next, called_from, called, EachStep, StepFits, Below, steps_since, entered_at}
use Rattle.esc_laws.proofs.Stalls.{free_before, after_before, uses_before, free_less}
use Rattle.esc_laws.proofs.Growth.{sees_before}

-- ---- counts

called_before : (loaded : Loaded) (trace : List Event) (e : Event) (log : List Turned) (t : ℕ) (k : Kind) → t < tick_of e
    → is_called loaded (trace ++ e ∷ []) log t k ≡ is_called loaded trace log t k
called_before loaded trace e log t k l = ap (λ (v : Bool). v && not (is_open (open_in loaded log) k)) (sees_before loaded trace e (journal loaded log) t k l)

count_from : (loaded : Loaded) (nest : Nest) (trace : List Event) (e : Event) (k : Kind) (before : List Turned) (n : ℕ) (log : List Turned)
    → Below (tick_of e) log
    → called_from loaded nest (trace ++ e ∷ []) k before n log ≡ called_from loaded nest trace k before n log
count_from loaded nest trace e k before n [] b = refl
count_from loaded nest trace e k before n (x ∷ log) b =
    let l : x.tick < tick_of e = All-head (λ (y : Turned). y.tick < tick_of e) x log b in
    let same : called_next loaded nest (trace ++ e ∷ []) k before n x ≡ called_next loaded nest trace k before n x =
    ap (λ (v : Bool). wait_next nest k v (is_called loaded (trace ++ e ∷ []) (before ++ x ∷ []) x.tick k) (Some x.kind) n)
    (called_before loaded trace e before x.tick k l)
    ∙ ap (λ (v : Bool). wait_next nest k (is_called loaded trace before x.tick k) v (Some x.kind) n)
    (called_before loaded trace e (before ++ x ∷ []) x.tick k l) in
    ap (λ (y : ℕ). called_from loaded nest (trace ++ e ∷ []) k (before ++ x ∷ []) y log) same
    ∙ count_from loaded nest trace e k (before ++ x ∷ []) (called_next loaded nest trace k before n x) log
    (All-tail (λ (y : Turned). y.tick < tick_of e) x log b)

pub count_before : (loaded : Loaded) (nest : Nest) (trace : List Event) (e : Event) (log : List Turned) (k : Kind) → Below (tick_of e) log
    → called loaded nest (trace ++ e ∷ []) log k ≡ called loaded nest trace log k
unfolding called
count_before loaded nest trace e log k b = count_from loaded nest trace e k [] 0 log b

-- ---- steps

step_grows : (loaded : Loaded) (nest : Nest) (cost : ℕ) (trace : List Event) (e : Event) (before : List Turned) (x : Turned) → Below (tick_of e) before
    → x.tick < tick_of e → StepFits loaded nest cost trace before x → StepFits loaded nest cost (trace ++ e ∷ []) before x
step_grows loaded nest cost trace e before x past l f =
    let le : after cost trace before < tick_of e = (let a = f.later in omega arith) in
    let same = after_before cost trace e before le in
    record {
      later = rw same f.later;
      free_at = free_before trace e x.tick (rw f.free_at l) ∙ f.free_at;
      open_step = λ o. rw same (f.open_step o);
      idle = λ o t from below free_at k.
          (let earlier : t < tick_of e = omega arith in
          rw (sees_before loaded trace e (journal loaded before) t k earlier) (f.idle o t (rw same at from) below (free_less trace e t free_at) k));
      first = λ o. ((f.first o).0, λ k s. (f.first o).1 k (rw (sees_before loaded trace e (journal loaded before) x.tick k l) at s));
      entry = f.entry;
      own = f.own;
      reached = λ n. f.reached n ∙ sym (uses_before cost trace e (steps_since x.kind (before ++ x ∷ [])) (entered_at x.kind before) (rw (← f.reached n) l));
      few = f.few;
      at_tick = f.at_tick;
      no_entry = f.no_entry;
      returns = f.returns;
      gate_first = f.gate_first;
      six = f.six;
      patient = λ k. rw (count_before loaded nest trace e (before ++ x ∷ []) k (All-push (λ (y : Turned). y.tick < tick_of e) before x past l)) (f.patient k);
    }

steps_from : (loaded : Loaded) (nest : Nest) (cost : ℕ) (trace : List Event) (e : Event) (before log : List Turned) → Below (tick_of e) before
    → Below (tick_of e) log
    → EachStep (StepFits loaded nest cost trace) before log → EachStep (StepFits loaded nest cost (trace ++ e ∷ [])) before log
steps_from loaded nest cost trace e before [] past b f = tt
steps_from loaded nest cost trace e before (x ∷ log) past b f =
    let l : x.tick < tick_of e = All-head (λ (y : Turned). y.tick < tick_of e) x log b in (
      step_grows loaded nest cost trace e before x past l f.0,
      steps_from loaded nest cost trace e (before ++ x ∷ []) log (All-push (λ (y : Turned). y.tick < tick_of e) before x past l)
          (All-tail (λ (y : Turned). y.tick < tick_of e) x log b) f.1,
    )

pub fits_grow : (loaded : Loaded) (nest : Nest) (cost : ℕ) (trace : List Event) (e : Event) (log : List Turned) → Below (tick_of e) log
    → EachStep (StepFits loaded nest cost trace) [] log → EachStep (StepFits loaded nest cost (trace ++ e ∷ [])) [] log
fits_grow loaded nest cost trace e log b f = steps_from loaded nest cost trace e [] log (All-nil (λ (y : Turned). y.tick < tick_of e)) b f
