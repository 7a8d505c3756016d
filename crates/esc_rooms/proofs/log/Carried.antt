-- What carries `Logged` on: a step, time, an idle jump, an event; and what it says of the journal.
use Rattle.std.proofs.Common.{◌≡◌, ◌≢◌, ◌<◌, ◌≤◌, ◌+◌, ℕ, true, false, List, [], ◌∷◌, ◌++◌, Option, Some, None, All, refl, sym, ◌∙◌, ap, subst, arith, inl, inr, append_assoc, append-nil, reverse}
use Rattle.std.proofs.lemmas.Bool.{cases_lt}
use Rattle.std.proofs.lemmas.List.Elements.{All-push}
use Rattle.esc_base.specs.declared.kind.Kind.{Kind}
use Rattle.esc_base.specs.declared.event.Event.{Event}
use Rattle.esc_base.specs.declared.note.Note.{Note}
use Rattle.esc_base.specs.Flash.{Told}
use Rattle.esc_base.specs.Journal.{Each, IsLater, Journal, time_of}
use Rattle.esc_base.specs.Range.{InRange}
use Rattle.esc_base.specs.Trace.{tick_of}
use Rattle.settings_block.specs.declared.stored.Loaded.{Loaded}
use Rattle.timer_regs.specs.Bank.{Bank}
use Rattle.timer_regs.specs.Effects.{advanced, after_entry}
use Rattle.timer_regs.specs.NextDue.{IsNextDue, becomes_due}
use Rattle.interrupt_machine.specs.declared.nest.Nest.{Nest}
use Rattle.interrupt_machine.specs.declared.nest.Nest.TheVariants.{Full}
use Rattle.interrupt_machine.specs.declared.firmware.Did.{Did}
use Rattle.interrupt_machine.specs.Open.{due_now, is_idle, is_open, next_entry}
use Rattle.interrupt_machine.specs.Turn.{own_notes, open_after}
use Rattle.arming.proofs.InOrder.{each_front, in_order}
use Rattle.arming.specs.Controlled.{Controlled, FitsControl}
use Rattle.esc_core.specs.Brain.{Brain}
use Rattle.esc_core.specs.Calls.{Call, Answer, DeviceDid}
use Rattle.esc_core.specs.Firmware.{entered_core, core_step, core_asked, counted_down, is_stray, waits_of}
use Rattle.esc_core.specs.Stepped.{IsStepped}
use Rattle.esc_core.proofs.Bounds.{core_step-goes, core_asked-goes, counted_asked}
use Rattle.esc_rooms.proofs.shared.Law.{Given}
use Rattle.esc_laws.specs.Steps.{Turned, stall_end, opening, journal, notes_in, open_in, past_stall, free, after, steps_since, entered_at, EachStep, StepFits, Awaits, Below, OpenFew}
use Rattle.esc_rooms.proofs.log.Turns.{at_rest, made_below}
use Rattle.esc_laws.proofs.CrossGrowth.{notes_below}
use Rattle.esc_rooms.specs.Tied.{Keeps}
use Rattle.esc_laws.specs.Legal.{Legal, LegalFront}
use Rattle.esc_rooms.specs.Logged.{Logged, CoreTurn, turned}
use Rattle.esc_laws.specs.Looks.{Made, made}
use Rattle.esc_rooms.specs.World.{world, after_event, enters}
use Rattle.esc_rooms.specs.Rooms.{Past}
use Rattle.esc_laws.specs.Chopped.{Chopped}
use Rattle.esc_rooms.specs.ChopSteps.{ChopFits}
use Rattle.esc_laws.proofs.Pushes.{All-later, journal-push, notes-push}
use Rattle.esc_laws.proofs.Stalls.{past_later as stall_later, past_more, past_ends, after_grows, uses_before, reached_grows, free_less, none_free}
use Rattle.esc_laws.proofs.Growth.{sees_before}
use Rattle.esc_laws.proofs.StepGrowth.{fits_grow}
use Rattle.esc_rooms.proofs.log.Laws.{law}
use Rattle.esc_rooms.proofs.log.Outside.{later_ground, event_ground, event_tie}
use Rattle.esc_rooms.proofs.log.OwnTurns.{steady, own_are, own_few}
use Rattle.esc_rooms.proofs.log.Stepping.{entry_turn, own_turn, left_is, stepped_by}
use Rattle.esc_laws.specs.Said.{NoteFits}
use Rattle.esc_laws.proofs.Notes.{all_front, lawful_of}
use Rattle.esc_rooms.proofs.log.ChopLegal.{chopped_log}
use Rattle.esc_laws.proofs.ChopFront.{chopped_front}
use Rattle.esc_rooms.proofs.log.Events.{keeps_later, marks_later, patient_later, event_time, told_grows, patient_grows, marks_grow, keeps_grow}
use Rattle.esc_rooms.proofs.log.Idle.{none_open, none_seen}

-- ---- a step

entry_told : (loaded : Loaded) (nest : Nest) (cost : ℕ) (trace : List Event) (c c' : Brain) (b b' : Bank) (stack stack' : List Kind) (log : List Turned)
    (notes : List Note) (k : Kind)
    → c' ≡ entered_core c k → b' ≡ after_entry b k → stack' ≡ k ∷ stack → notes ≡ enters k b.time ∷ []
    → Logged loaded nest cost trace (b.time + cost) (entered_core c k) (after_entry b k) (k ∷ stack)
    (log ++ record { tick = b.time; kind = k; enters = true; notes = enters k b.time ∷ [] } ∷ [])
    → Logged loaded nest cost trace (b.time + cost) c' b' stack' (log ++ record { tick = b.time; kind = k; enters = true; notes = notes } ∷ [])
entry_told loaded nest cost trace c c' b b' stack stack' log notes k e f g h l = rw (e, f, g, h) l

-- the flash answered so to the calls of a step of the core
abbrev Asked : Kind → Brain → Bank → List Answer → Type 0
Asked k c b answers = (flash : Told) × ((flash' : Told) × DeviceDid (core_asked k c b answers) answers flash flash')

given_by : (k : Kind) (c : Brain) (b : Bank) (answers : List Answer) → is_stray k c b ≡ false → Asked k c b answers → Given k (counted_down c b) answers
given_by k c b answers goes a = (
  a.0,
  (
    a.1.0,
    subst (λ (calls : List Call). DeviceDid calls answers a.0 a.1.0)
        (core_asked-goes k c b answers goes ∙ sym (counted_asked k c b answers)) a.1.1,
  ),
)

own_told : (loaded : Loaded) (nest : Nest) (cost : ℕ) (trace : List Event) (c c' : Brain) (b b' : Bank) (stack stack' : List Kind) (log : List Turned)
    (notes : List Note) (k : Kind) (outer : List Kind) (did : Did) (answers : List Answer)
    → 1 ≤ cost → Asked k c b answers
    → Logged loaded nest cost trace b.time c b stack log → (b.masked ≡ false → next_entry nest stack (due_now (waits_of c) b) ≡ None)
    → stack ≡ k ∷ outer → IsStepped b (core_step k answers c b) did c' b'
    → stack' ≡ open_after k outer did → notes ≡ own_notes b.hi b.lo b' k did
    → Logged loaded nest cost trace (b.time + cost) c' b' stack' (log ++ record { tick = b.time; kind = k; enters = false; notes = notes } ∷ [])
own_told loaded nest cost trace c c' b b' stack stack' log notes k outer did answers some asked l none same stepped open_is notes_are =
    let l' : Logged loaded nest cost trace b.time c b (k ∷ outer) log = subst (λ (st : List Kind). Logged loaded nest cost trace b.time c b st log) same l in
    let none' : b.masked ≡ false → next_entry nest (k ∷ outer) (due_now (waits_of c) b) ≡ None =
    subst (λ (st : List Kind). b.masked ≡ false → next_entry nest st (due_now (waits_of c) b) ≡ None) same none in
    let i : IsStepped b (stepped_by k answers c b) did c' b' = rw (core_step-goes k answers c b (steady k c b (k ∷ outer) l'.keeps refl)) at stepped in
    let told = notes_are ∙ own_are k b b' (stepped_by k answers c b) did c' i in
    let left = open_is ∙ left_is k outer did (stepped_by k answers c b).over i.over_is in
    rw (i.core_is, i.bank_is, left, told) (own_turn loaded nest cost trace c b outer log k answers some
    (given_by k c b answers (steady k c b (k ∷ outer) l'.keeps refl) asked) l' none'
    (rw (← own_are k b b' (stepped_by k answers c b) did c' i) (own_few b.hi b.lo b' k did)))

pub turn_logged : (loaded : Loaded) (nest : Nest) (cost : ℕ) (trace : List Event) (c c' : Brain) (b b' : Bank) (flash flash' : Told)
    (stack stack' : List Kind) (log : List Turned) (notes : List Note)
    → 1 ≤ cost → b.time + cost < 2147483648 → Logged loaded nest cost trace b.time c b stack log → is_idle stack (due_now (waits_of c) b) ≡ false
    → (t : CoreTurn nest c stack b flash notes c' stack' b' flash')
    → Logged loaded nest cost trace (b.time + cost) c' b' stack' (log ++ turned b.time notes t ∷ [])
turn_logged loaded nest cost trace c c' b b' flash flash' stack stack' log notes some small l busy (inl e) =
    entry_told loaded nest cost trace c c' b b' stack stack' log notes e.0 e.1.entered e.1.regs_are e.1.stack_is e.1.notes_are
    (entry_turn loaded nest cost trace c b stack log e.0 some l e.1.unmasked e.1.chosen)
turn_logged loaded nest cost trace c c' b b' flash flash' stack stack' log notes some small l busy (inr e) =
    own_told loaded nest cost trace c c' b b' stack stack' log notes e.0 e.1 e.2 e.3.stepped.answers some (flash, (flash', e.3.stepped.flash_is)) l
    e.3.none_enters e.3.innermost_is
    e.3.stepped.stepped e.3.stack_is e.3.notes_are

-- ---- time

pub time_logged : (loaded : Loaded) (nest : Nest) (cost : ℕ) (trace : List Event) (next : ℕ) (c : Brain) (b : Bank) (stack : List Kind) (log : List Turned)
    (t : ℕ)
    → b.time ≤ t → t ≤ next → t < 2147483648 → Logged loaded nest cost trace next c b stack log → Logged loaded nest cost trace next c (advanced b t) stack log
time_logged loaded nest cost trace next c b stack log t later le small l = record {
  keeps = keeps_later c b stack t l.keeps;
  sorted = l.sorted;
  marks = marks_later loaded nest trace b stack log t later l.marks;
  gates = record { hi_is = l.gates.hi_is; lo_is = l.gates.lo_is; hi_free = l.gates.hi_free; lo_free = l.gates.lo_free };
  ground = later_ground (world loaded nest trace c b log) t later small l.ground;
  ties = λ k. (law k).later (world loaded nest trace c b log) t later small (at_rest loaded nest cost trace next c b stack log l);
  patient = patient_later loaded nest trace c b stack log t later l.patient;
  owes = l.owes;
  reached = l.reached;
  reached_by = l.reached_by;
  fits = l.fits;
  drives = l.drives;
  past = l.past;
  made_past = l.made_past;
  awaits = l.awaits;
  time = le;
  put_off = λ u from. l.put_off u (omega arith);
  stalls = l.stalls;
  at_next = l.at_next;
}

past_later : (m : Made) (t u : ℕ) → t ≤ u → Past m t → Past m u
past_later m t u le p = record { cap = (let a = p.cap in omega arith); comm = (let a = p.comm in omega arith); cmp = (let a = p.cmp in omega arith) }

pub none_before : (due : Option ℕ) (b : Bank) (k : Kind) (t u : ℕ) → IsNextDue b due → ((d : ℕ) → due ≡ Some d → t ≤ d) → b.time < u → u < t
    → becomes_due b k u ≡ false
none_before None b k t u is le from below = is k u from
none_before (Some d) b k t u is le from below = is.none_before k u from (let m = le d refl in omega arith)

-- nothing is due, and nothing becomes due before t
pub quiet_logged : (loaded : Loaded) (nest : Nest) (cost : ℕ) (trace : List Event) (c : Brain) (b : Bank) (stack : List Kind) (log : List Turned) (t : ℕ)
    → is_idle stack (due_now (waits_of c) b) ≡ true → ((k : Kind) (u : ℕ) → b.time < u → u < t → becomes_due b k u ≡ false) → b.time ≤ t
    → t < 2147483648 → Logged loaded nest cost trace b.time c b stack log → Logged loaded nest cost trace t c (advanced b t) stack log
quiet_logged loaded nest cost trace c b stack log t idle quiet later small l =
    let rest = none_open stack (due_now (waits_of c) b) idle in
    let open_none : open_in loaded log ≡ [] = sym l.marks.stack_is ∙ rest.0 in
    let keeps : Keeps c b [] = subst (λ (st : List Kind). Keeps c b st) rest.0 l.keeps in
    record {
      keeps = keeps_later c b stack t l.keeps;
      sorted = l.sorted;
      marks = marks_later loaded nest trace b stack log t later l.marks;
      gates = record { hi_is = l.gates.hi_is; lo_is = l.gates.lo_is; hi_free = l.gates.hi_free; lo_free = l.gates.lo_free };
      ground = later_ground (world loaded nest trace c b log) t later small l.ground;
      ties = λ k. (law k).later (world loaded nest trace c b log) t later small (at_rest loaded nest cost trace b.time c b stack log l);
      patient = patient_later loaded nest trace c b stack log t later l.patient;
      owes = l.owes;
      reached = l.reached;
      reached_by = l.reached_by;
      fits = l.fits;
      drives = l.drives;
      past = (let p = l.past in omega arith);
      made_past = past_later (made log) b.time t later l.made_past;
      awaits = record {
        open_step = λ o. absurd (o open_none);
        idle = λ o u from below f k. elim (cases_lt u b.time) [
          | inl early ↦ l.awaits.idle o u from early f k
          | inr on ↦ none_seen loaded nest trace c b log t u k keeps (at_rest loaded nest cost trace b.time c b stack log l) l.gates rest.1 quiet on below small
        ];
      };
      time = omega arith;
      put_off = λ u from below. absurd (omega arith);
      stalls = All-later stall_end trace b.time t later l.stalls;
      at_next = λ o. absurd (o rest.0);
    }

-- the same by the next tick at which something becomes due
pub jump_logged : (loaded : Loaded) (nest : Nest) (cost : ℕ) (trace : List Event) (c : Brain) (b : Bank) (stack : List Kind) (log : List Turned)
    (due : Option ℕ) (t : ℕ)
    → is_idle stack (due_now (waits_of c) b) ≡ true → IsNextDue b due → b.time ≤ t → t < 2147483648 → ((d : ℕ) → due ≡ Some d → t ≤ d)
    → Logged loaded nest cost trace b.time c b stack log → Logged loaded nest cost trace t c (advanced b t) stack log
jump_logged loaded nest cost trace c b stack log due t idle is later small le l =
    quiet_logged loaded nest cost trace c b stack log t idle (λ k u from below. none_before due b k t u is le from below) later small l

-- ---- an event

-- at now; all steps stand before it
module _ (loaded : Loaded) (nest : Nest) (cost : ℕ) (trace : List Event) (e : Event) (next : ℕ) (c : Brain) (b : Bank) (stack : List Kind) (log : List Turned)
    (at : tick_of e ≡ b.time) (below : Below b.time log) (l : Logged loaded nest cost trace next c b stack log) where
  next_is : stack ≢ [] → past_stall next e ≡ after cost (trace ++ e ∷ []) log
  next_is o = ap (λ (t : ℕ). past_stall t e) (l.at_next o) ∙ sym (after_grows cost trace e log)

  after_past : (u : ℕ) → after cost (trace ++ e ∷ []) log ≤ u → after cost trace log ≤ u
  after_past u le = let g = after_grows cost trace e log in let p = stall_later e (after cost trace log) in omega arith

  none_now : (u : ℕ) → b.time ≤ u → u < past_stall next e → after cost (trace ++ e ∷ []) log ≤ u → free (trace ++ e ∷ []) u ≢ u
  none_now u from soon past f = elim (cases_lt u next) [
    | inl early ↦ l.put_off u from early (after_past u past) (free_less trace e u f)
    | inr late ↦ none_free trace e next u late soon f
  ]

  awaits_grow : Awaits loaded cost (trace ++ e ∷ []) (past_stall next e) log
  awaits_grow = record {
    open_step = λ o. (let n = next_is (λ s. o (sym l.marks.stack_is ∙ s)) in omega arith);
    idle = λ o u from soon f k. elim (cases_lt u b.time) [
      | inl early ↦ sees_before loaded trace e (journal loaded log) u k (omega arith)
          ∙ l.awaits.idle o u (after_past u from) (let t = l.time in omega arith) (free_less trace e u f) k
      | inr late ↦ absurd (none_now u late soon from f)
    ];
  }

  -- the next step is put off where the event is a stall
  pub event_logged : Logged loaded nest cost (trace ++ e ∷ []) (past_stall next e) c (after_event b e) stack log
  event_logged =
      let before : Below (tick_of e) log = rw at below in
      let later : next ≤ past_stall next e = stall_later e next in
      record {
        keeps = keeps_grow e c b stack l.keeps;
        sorted = l.sorted;
        marks = marks_grow loaded nest trace e b stack log at (notes_below loaded nest cost trace (tick_of e) [] log l.fits before) l.marks;
        gates = told_grows e c b (reverse (journal loaded log)) l.gates;
        ground = event_ground (world loaded nest trace c b log) e at l.ground;
        ties = λ k. event_tie k (world loaded nest trace c b log) e (record {
          rest = at_rest loaded nest cost trace next c b stack log l;
          past = made_below log b.time below;
          now = at;
        });
        patient = patient_grows loaded nest trace e c b stack log at before l.patient;
        owes = l.owes;
        reached = λ k o. reached_grows cost trace e log (steps_since k log) (entered_at k log) (l.reached k o) (l.reached_by k o (tick_of e) before);
        reached_by = λ k o t b.
            rw (uses_before cost trace e (steps_since k log) (entered_at k log) (l.reached_by k o (tick_of e) before)) (l.reached_by k o t b);
        fits = fits_grow loaded nest cost trace e log before l.fits;
        drives = l.drives;
        past = rw (after_grows cost trace e log) (past_more e (after cost trace log) next l.past);
        made_past = past_later (made log) next (past_stall next e) later l.made_past;
        awaits = awaits_grow;
        time = (let t = l.time in let s = event_time b e in omega arith);
        put_off = λ u from. none_now u (let s = event_time b e in omega arith);
        stalls = All-push (λ x. stall_end x ≤ past_stall next e) trace e (All-later stall_end trace next (past_stall next e) later l.stalls)
            (past_ends e next (let t = l.time in omega arith));
        at_next = next_is;
      }

-- ---- what it says of the journal

-- an open activation has steps left
pub few_open : (loaded : Loaded) (nest : Nest) (cost : ℕ) (trace : List Event) (next : ℕ) (c : Brain) (b : Bank) (stack : List Kind) (log : List Turned)
    → Logged loaded nest cost trace next c b stack log → OpenFew loaded log
few_open loaded nest cost trace next c b stack log l k o =
    let inside : is_open stack k ≡ true = subst (λ (st : List Kind). is_open st k ≡ true) (sym l.marks.stack_is) o in
    let a = l.owes k inside in let left = l.keeps.live k inside in
    omega arith

-- a log that awaits no step below T
awaited : (loaded : Loaded) (nest : Nest) (cost : ℕ) (trace : List Event) (next : ℕ) (c : Brain) (b : Bank) (stack : List Kind) (log : List Turned)
    (until : ℕ)
    → until ≤ next → Logged loaded nest cost trace next c b stack log → Awaits loaded cost trace until log
awaited loaded nest cost trace next c b stack log until le l = record {
  open_step = λ o. (let n = l.at_next (λ s. o (sym l.marks.stack_is ∙ s)) in omega arith);
  idle = λ o t from soon. l.awaits.idle o t from (omega arith);
}

-- a journal whose steps stand below T, and which awaits none below it, is legal up to T
pub legal_chopped : (loaded : Loaded) (nest : Nest) (cost : ℕ) (trace : List Event) (next : ℕ) (c : Brain) (b : Bank) (stack : List Kind) (log : List Turned)
    (until : ℕ)
    → until ≤ next → Below until log → All InRange (journal loaded log) → (nest ≡ Full → Chopped cost trace until (journal loaded log))
    → Logged loaded nest cost trace next c b stack log → Legal loaded nest cost trace until (journal loaded log)
legal_chopped loaded nest cost trace next c b stack log until le below range chopped l = record {
  rest = notes_in log;
  begins = refl;
  in_range = range;
  in_time = l.marks.said.in_time;
  lawful = lawful_of loaded nest trace (notes_in log) l.marks.said.keeps;
  controlled = in_order (journal loaded log) l.ground.control.controlled;
  chopped = chopped;
  log = log;
  steps_are = refl;
  fits = l.fits;
  below = below;
  all_made = awaited loaded nest cost trace next c b stack log until le l;
  open_few = few_open loaded nest cost trace next c b stack log l;
}

full_fits : (loaded : Loaded) (nest : Nest) (cost : ℕ) (trace : List Event) (log : List Turned) → nest ≡ Full
    → EachStep (StepFits loaded nest cost trace) [] log → EachStep (StepFits loaded Full cost trace) [] log
full_fits loaded nest cost trace log full fits = subst (λ (n : Nest). EachStep (StepFits loaded n cost trace) [] log) full fits

pub legal_logged : (loaded : Loaded) (nest : Nest) (cost : ℕ) (trace : List Event) (next : ℕ) (c : Brain) (b : Bank) (stack : List Kind) (log : List Turned)
    (until : ℕ)
    → 1 ≤ cost → cost ≤ 16 → until ≤ next → Below until log → All InRange (journal loaded log) → Logged loaded nest cost trace next c b stack log
    → Legal loaded nest cost trace until (journal loaded log)
legal_logged loaded nest cost trace next c b stack log until some most le below range l =
    legal_chopped loaded nest cost trace next c b stack log until le below range
    (λ full. chopped_log loaded nest cost trace until log some most (full_fits loaded nest cost trace log full l.fits)
    (awaited loaded nest cost trace next c b stack log until le l) l.drives l.marks.said.keeps range) l

pub last_step : (P : List Turned → Turned → Type 0) (before log : List Turned) (e : Turned) → EachStep P before (log ++ e ∷ []) → P (before ++ log) e
last_step P before [] e each = rw (append-nil before) each.0
last_step P before (x ∷ log) e each = rw (← append_assoc before (x ∷ []) log) (last_step P (before ++ x ∷ []) log e each.1)

front_steps : (P : List Turned → Turned → Type 0) (before log : List Turned) (e : Turned) → EachStep P before (log ++ e ∷ []) → EachStep P before log
front_steps P before [] e each = tt
front_steps P before (x ∷ log) e each = (each.0, front_steps P (before ++ x ∷ []) log e each.1)

-- after a step whose notes were written in part
pub front_logged : (loaded : Loaded) (nest : Nest) (cost : ℕ) (trace : List Event) (next : ℕ) (c : Brain) (b : Bank) (stack : List Kind) (log : List Turned)
    (broken : Turned) (front left_out : List Note)
    → 1 ≤ cost → cost ≤ 16 → broken.notes ≡ front ++ left_out → Below broken.tick log → All InRange (journal loaded log ++ front) → OpenFew loaded log
    → Logged loaded nest cost trace next c b stack (log ++ broken ∷ [])
    → LegalFront loaded nest cost trace (journal loaded log ++ front)
front_logged loaded nest cost trace next c b stack log broken front left_out some most split below range few l =
    let whole : journal loaded (log ++ broken ∷ []) ≡ (journal loaded log ++ front) ++ left_out =
    journal-push loaded log broken ∙ ap (λ (ns : List Note). journal loaded log ++ ns) split ∙ sym (append_assoc (journal loaded log) front left_out) in
    let tail : notes_in (log ++ broken ∷ []) ≡ (notes_in log ++ front) ++ left_out =
    notes-push log broken ∙ ap (λ (ns : List Note). notes_in log ++ ns) split ∙ sym (append_assoc (notes_in log) front left_out) in
    let last = last_step (StepFits loaded nest cost trace) [] log broken l.fits in
    let fits : EachStep (StepFits loaded nest cost trace) [] log = front_steps (StepFits loaded nest cost trace) [] log broken l.fits in
    let made : Awaits loaded cost trace broken.tick log =
    record { open_step = λ o. (let at = last.open_step o in omega arith); idle = λ o. last.idle o } in
    let keeps = each_front (NoteFits loaded nest trace) (opening loaded) (notes_in log ++ front) left_out
    (subst (λ (ns : List Note). Each (NoteFits loaded nest trace) (opening loaded) ns) tail l.marks.said.keeps) in
    record {
      log = log;
      broken = broken;
      front = front;
      left_out = left_out;
      split = split;
      notes_are = refl;
      in_range = range;
      in_time = each_front IsLater [] (journal loaded log ++ front) left_out (subst (λ (ns : List Note). Journal ns) whole l.marks.said.in_time);
      lawful = lawful_of loaded nest trace (notes_in log ++ front) keeps;
      controlled = each_front (λ before n. FitsControl (reverse before) n) [] (journal loaded log ++ front) left_out
          (subst (λ (ns : List Note). Controlled ns) whole (in_order (journal loaded (log ++ broken ∷ [])) l.ground.control.controlled));
      chopped = λ full. chopped_front loaded nest cost trace broken.tick log front below fits
          (all_front (λ n. time_of n ≡ broken.tick) front left_out (subst (λ (ns : List Note). All (λ n. time_of n ≡ broken.tick) ns) split last.at_tick))
          (chopped_log loaded nest cost trace broken.tick log some most (full_fits loaded nest cost trace log full fits) made
          (front_steps (ChopFits loaded) [] log broken l.drives)
          (each_front (NoteFits loaded nest trace) (opening loaded) (notes_in log) front keeps)
          (all_front InRange (journal loaded log) front range));
      fits = l.fits;
      below = below;
      all_made = made;
      open_few = few;
    }
