-- A step of a run, once for all handlers: what holds after an entry and after an own step.
use Rattle.std.proofs.Common.{◌≡◌, ◌≢◌, ◌<◌, ℕ, Bool, true, false, ◌&&◌, ◌==◌, if◌then◌else◌, List, [], ◌∷◌, ◌++◌, reverse, Some, None, ◌⊎◌, refl, sym, ◌∙◌, ap, subst, arith, All, inl, inr, append-nil, append_assoc}
use Rattle.std.proofs.lemmas.Bool.{cases_Bool}
use Rattle.std.proofs.lemmas.Bool.Decides.{nat_tests}
use Rattle.std.proofs.lemmas.List.Elements.{All-nil, All-cons, All-tail}
use Rattle.esc_base.specs.declared.kind.Kind.{Kind}
use Rattle.esc_base.specs.declared.kind.Kind.TheVariants as kind
use Rattle.esc_base.specs.declared.event.Event.{Event}
use Rattle.esc_base.specs.declared.note.Note.{Note}
use Rattle.esc_base.specs.declared.note.Note.TheVariants as note
use Rattle.esc_base.specs.Journal.{time_of}
use Rattle.esc_base.specs.Numbers.{kind_number, as_tick}
use Rattle.settings_block.specs.declared.stored.Loaded.{Loaded}
use Rattle.timer_regs.specs.Bank.{Bank}
use Rattle.timer_regs.specs.Effects.{after_entry}
use Rattle.interrupt_machine.specs.declared.nest.Nest.{Nest}
use Rattle.interrupt_machine.specs.Did.{accessed}
use Rattle.interrupt_machine.specs.Open.{due_now}
use Rattle.interrupt_machine.specs.Turn.{gate_note}
use Rattle.interrupt_machine.proofs.OpenKinds.{kind_of-number, same_kind}
use Rattle.arming.proofs.InOrder.{reverse-push}
use Rattle.esc_core.specs.Brain.{Brain}
use Rattle.esc_core.specs.Stepped.{Stepped}
use Rattle.esc_core.specs.Calls.{Answer}
use Rattle.esc_core.specs.Firmware.{left_of, need_of, kind_step, counted_down, entered_core, waits_of}
use Rattle.esc_laws.specs.Place.{Place, next, place}
use Rattle.gate_driver.specs.DeadSafe.{high_at, low_at, IsSafe, IsTied}
use Rattle.gate_driver.proofs.OffTimes.{gates_same}
use Rattle.gate_driver.proofs.DeadTime.{said_after}
use Rattle.esc_laws.specs.Asked.{IsAsked}
use Rattle.esc_laws.specs.Nested.{IsAboveAll, IsBuilt}
use Rattle.esc_laws.specs.Steps.{opening, is_entry, is_gate, ReturnsLast, GateFirst}
use Rattle.esc_laws.specs.Saves.{is_save}
use Rattle.esc_rooms.specs.Tied.{WordTold}
use Rattle.esc_laws.specs.Looks.{Made, made_next, placed}
use Rattle.esc_rooms.specs.World.{World, so_far, onto, noted, enters, after_enter, after_step, step_notes, all_notes, gated, counted, open_left}
use Rattle.esc_rooms.specs.Rooms.{Above, HoldsAlone, Past, Ground, Tie, Ties, owner, AllFit, WordMoves, GatesKeep, StepTold, StepKeeps, DriveKeeps}
use Rattle.esc_laws.proofs.Pushes.{place-push}
use Rattle.esc_laws.specs.NoteLaw as owed
use Rattle.esc_laws.specs.Said.{NoteKeeps, NoteFits, Said}
use Rattle.esc_laws.proofs.Notes.{said_push}
use Rattle.esc_rooms.proofs.shared.Facts.{access_time}
use Rattle.esc_rooms.proofs.shared.RoomSteps.{ground_noted}
use Rattle.esc_rooms.proofs.shared.Returns.{returns_last}
use Rattle.esc_rooms.proofs.shared.Law.{AtEntry, Highest, Given}
use Rattle.esc_rooms.proofs.log.Laws.{law}
use Rattle.esc_laws.proofs.Placed.{placed-is}

-- ---- the notes in both orders

onto-reverse : (notes more : List Note) → onto more (reverse notes) ≡ reverse (notes ++ more)
onto-reverse notes [] = ap reverse (sym (append-nil notes))
onto-reverse notes (n ∷ more) =
    ap (λ (back : List Note). onto more back) (sym (reverse-push notes n)) ∙ onto-reverse (notes ++ n ∷ []) more ∙ ap reverse (append_assoc notes (n ∷ []) more)

-- ---- what holds between two steps, in the words of the rooms

abbrev pub world_of : Loaded → Nest → List Event → Brain → Bank → Made → List Note → World
world_of loaded nest trace c b made rest =
    record { loaded = loaded; nest = nest; trace = trace; core = c; bank = b; back = reverse (opening loaded ++ rest); made = made }

pub record Stood (loaded : Loaded) (nest : Nest) (trace : List Event) (c : Brain) (b : Bank) (made : Made) (rest : List Note) (stack : List Kind) : Type 0 where
  pub said : Said loaded nest trace b.time rest
  pub gates : WordTold c b (reverse (opening loaded ++ rest))
  pub ground : Ground (world_of loaded nest trace c b made rest)
  pub ties : (j : Kind) → Tie j (world_of loaded nest trace c b made rest)
  pub stack_is : (place (opening loaded ++ rest)).stack ≡ stack

-- a note fits the place that it finds, and so the notes before it
note_fits : (w : World) (before : List Note) (n : Note) → reverse before ≡ w.back → NoteKeeps w.loaded w.nest w.trace (so_far w) w.back n
    → NoteFits w.loaded w.nest w.trace before n
note_fits w before n e keeps = let at : placed w.back ≡ place before = ap placed (sym e) ∙ placed-is before in rw (e, ← at) keeps

-- notes that fit are said
all_said : (k : Kind) (w : World) (rest notes : List Note) → reverse (opening w.loaded ++ rest) ≡ w.back → Said w.loaded w.nest w.trace w.bank.time rest
    → AllFit k w notes → Said w.loaded w.nest w.trace w.bank.time (rest ++ notes)
all_said k w rest [] e s f = subst (λ (r : List Note). Said w.loaded w.nest w.trace w.bank.time r) (sym (append-nil rest)) s
all_said k w rest (n ∷ notes) e s f =
    let fits : NoteFits w.loaded w.nest w.trace (opening w.loaded ++ rest) n =
    note_fits w (opening w.loaded ++ rest) n e f.0.keeps in
    subst (λ (r : List Note). Said w.loaded w.nest w.trace w.bank.time r) (append_assoc rest (n ∷ []) notes)
    (all_said k (noted w n) (rest ++ n ∷ []) notes (reverse-push (opening w.loaded ++ rest) n ∙ ap (λ (back : List Note). n ∷ back) e)
    (said_push w.loaded w.nest w.trace w.bank.time rest n s f.0.at fits) f.1)

-- ---- an own step

counted_tie : (j : Kind) (w : World) → Tie j w → Tie j (counted w)
counted_tie kind.Main w t = t
counted_tie j w t = t

counted_left : (k : Kind) (c : Brain) (b : Bank) → left_of (counted_down c b) k ≡ left_of c k
counted_left kind.Main c b = refl
counted_left k c b = refl

-- a note of an own step stands at its tick, is no I, and a P is MAIN's
abbrev pub IsOwn : Kind → ℕ → Note → Type 0
IsOwn k t n = (time_of n ≡ t) × (is_entry n ≡ false) × (is_save n ≡ true → k ≡ kind.Main)

owned_no_entry : (n : Note) (k : Kind) → owner n ≡ Some k → is_entry n ≡ false
owned_no_entry (note.Enter t j) k e = absurd (let z : None ≡ Some k = e in cc)
owned_no_entry n k e = refl

owned_save : (n : Note) (k : Kind) → owner n ≡ Some k → is_save n ≡ true → k ≡ kind.Main
owned_save (note.Saved t r) k e is = (let z : Some kind.Main ≡ Some k = e in cc)
owned_save n k e is = cc

owned_no_gate : (n : Note) (k : Kind) → owner n ≡ Some k → is_gate n ≡ false
owned_no_gate (note.Gate t hi lo) k e = absurd (let z : None ≡ Some k = e in cc)
owned_no_gate n k e = refl

-- a step's own notes have no G
none_gate : (k : Kind) (w : World) (notes : List Note) → AllFit k w notes → All (λ m. is_gate m ≡ false) notes
none_gate k w [] f = All-nil (λ m. is_gate m ≡ false)
none_gate k w (n ∷ notes) f = All-cons (λ m. is_gate m ≡ false) n notes (owned_no_gate n k f.0.owned) (none_gate k (noted w n) notes f.1)

first_of_none : (notes : List Note) → All (λ m. is_gate m ≡ false) notes → GateFirst notes
first_of_none [] a = tt
first_of_none (n ∷ notes) a = All-tail (λ m. is_gate m ≡ false) n notes a

all_own : (k : Kind) (w : World) (notes : List Note) → AllFit k w notes → All (IsOwn k w.bank.time) notes
all_own k w [] f = All-nil (IsOwn k w.bank.time)
all_own k w (n ∷ notes) f =
    All-cons (IsOwn k w.bank.time) n notes (f.0.at, owned_no_entry n k f.0.owned, owned_save n k f.0.owned) (all_own k (noted w n) notes f.1)

-- they leave what the G before tell of the gates
told_other : (n : Note) (k : Kind) (c : Brain) (b : Bank) (back : List Note) → owner n ≡ Some k → WordTold c b back → WordTold c b (n ∷ back)
told_other (note.Gate t h l) k c b back e g = absurd (let z : None ≡ Some k = e in cc)
told_other n k c b back e g = record { hi_is = g.hi_is; lo_is = g.lo_is; hi_free = g.hi_free; lo_free = g.lo_free }

told_kept : (k : Kind) (w : World) (notes : List Note) (c : Brain) (b : Bank) → AllFit k w notes → WordTold c b w.back → WordTold c b (onto notes w.back)
told_kept k w [] c b f g = g
told_kept k w (n ∷ notes) c b f g = told_kept k (noted w n) notes c b f.1 (told_other n k c b w.back f.0.owned g)

-- after a step whose G, if it had one, was noted before it
kept_stood : (k : Kind) (w : World) (rest : List Note) (outer : List Kind) (s : Stepped) → reverse (opening w.loaded ++ rest) ≡ w.back
    → Said w.loaded w.nest w.trace w.bank.time rest → Ties w → StepTold w s
    → StepKeeps k outer w s
    → Stood w.loaded w.nest w.trace s.core (accessed w.bank s.access) (made_next k false w.bank.time w.made) (rest ++ step_notes w.bank.time k s)
    (open_left k outer s)
kept_stood k w rest outer s e said ties told keeps =
    let after : Bank = accessed w.bank s.access in
    let fits : AllFit k w (step_notes w.bank.time k s) = keeps.fits told in
    let notes : List Note = step_notes w.bank.time k s in
    let whole : List Note = opening w.loaded ++ (rest ++ notes) in
    let back : onto notes w.back ≡ reverse whole =
    ap (λ (ns : List Note). onto notes ns) (sym e) ∙ onto-reverse (opening w.loaded ++ rest) notes ∙ ap reverse (append_assoc (opening w.loaded) rest notes) in
    record {
      said = subst (λ (t : ℕ). Said w.loaded w.nest w.trace t (rest ++ notes)) (sym (access_time w.bank s.access)) (all_said k w rest notes e said fits);
      gates = subst (λ (ns : List Note). WordTold s.core after ns) back (told_kept k w notes s.core after fits told);
      ground = subst (λ (ns : List Note). Ground (record (after_step k w s) { back = ns })) back keeps.ground;
      ties = λ j. subst (λ (ns : List Note). Tie j (record (after_step k w s) { back = ns })) back (elim (same_kind j k) [
        | inl e ↦ subst (λ (x : Kind). Tie x (after_step k w s)) (sym e) (keeps.tie told)
        | inr ne ↦ keeps.others j ne (ties j)
      ]);
      stack_is = ap (λ (p : Place). p.stack) (sym (placed-is whole) ∙ ap placed (sym back)) ∙ keeps.stack_is;
    }

-- a G leaves the ground and the ties, which speak of the switches and of no G
gate_tie : (j : Kind) (w : World) (after : Bank) → Tie j w → Tie j (gated w after)
gate_tie kind.Main w after t = t
gate_tie j w after t = t

-- an access leaves the gate word, or a G tells the other one
record SameWord (b after : Bank) : Type 0 where
  none : gate_note b.hi b.lo after ≡ []
  high : after.hi ≡ b.hi
  low : after.lo ≡ b.lo

record OtherWord (b after : Bank) : Type 0 where
  test : ((after.hi == b.hi) && (after.lo == b.lo)) ≡ false
  one : gate_note b.hi b.lo after ≡ note.Gate (as_tick b.time) after.hi after.lo ∷ []
  moves : WordMoves b after

word_after : (b after : Bank) → after.time ≡ b.time → SameWord b after ⊎ OtherWord b after
word_after b after at = elim (cases_Bool ((after.hi == b.hi) && (after.lo == b.lo))) [
  | inl same ↦ inl (record { none = rw same refl; high = same_high after.hi b.hi after.lo b.lo same; low = same_low after.hi b.hi after.lo b.lo same })
  | inr other ↦ inr (record { test = other; one = rw (other, at) refl; moves = other_word after.hi b.hi after.lo b.lo other })
]
  where
    same_high : (m n p q : ℕ) → ((m == n) && (p == q)) ≡ true → m ≡ n
    same_high m n p q e = grind (arith, nat_tests)

    same_low : (m n p q : ℕ) → ((m == n) && (p == q)) ≡ true → p ≡ q
    same_low m n p q e = grind (arith, nat_tests)

    other_word : (m n p q : ℕ) → ((m == n) && (p == q)) ≡ false → m ≡ n → p ≡ q → ⊥
    other_word m n p q e s t = grind (arith, nat_tests)

-- where the word stays, what was told of the gates is so still
told_same : (k : Kind) (w : World) (s : Stepped) → GatesKeep k w s → WordTold w.core w.bank w.back → SameWord w.bank (accessed w.bank s.access) → StepTold w s
told_same k w s keep told same =
    let after : Bank = accessed w.bank s.access in
    let gates : s.core.drive.gates ≡ w.core.drive.gates = keep.off_times ∙ sym (gates_same w.core.drive.gates w.bank after same.high same.low) in
    rw (gates, same.high, same.low) told

-- and where it becomes another one, the G keeps the dead time and tells the rest
gate_said : (k : Kind) (w : World) (s : Stepped) → GatesKeep k w s → WordTold w.core w.bank w.back → OtherWord w.bank (accessed w.bank s.access)
    → IsSafe w.back (note.Gate (as_tick w.bank.time) (accessed w.bank s.access).hi (accessed w.bank s.access).lo)
    × StepTold (gated w (accessed w.bank s.access)) s
gate_said k w s keep told other =
    let after : Bank = accessed w.bank s.access in
    let at : after.time ≡ w.bank.time = access_time w.bank s.access in
    let test : ((after.hi == high_at w.back) && (after.lo == low_at w.back)) ≡ false = rw (told.hi_is, told.lo_is) other.test in
    let said = said_after w.core.drive.gates s.core.drive.gates w.bank after w.back at keep.off_times told (keep.fits told other.moves).dead_time in
    let tied : IsTied s.core.drive.gates after.hi after.lo (note.Gate (as_tick after.time) after.hi after.lo ∷ w.back) =
    subst (λ (v : Bool). IsTied s.core.drive.gates after.hi after.lo (if v then w.back else note.Gate (as_tick after.time) after.hi after.lo ∷ w.back)) test
    said.tied in (
      subst (λ (t : ℕ). IsSafe w.back (note.Gate (as_tick t) after.hi after.lo)) at (said.safe test),
      subst (λ (t : ℕ). IsTied s.core.drive.gates after.hi after.lo (note.Gate (as_tick t) after.hi after.lo ∷ w.back)) at tied,
    )

counted_need : (k : Kind) (c : Brain) (b : Bank) → need_of (counted_down c b) k ≡ need_of c k
counted_need kind.Main c b = refl
counted_need k c b = refl

pub step_made : (k : Kind) (answers : List Answer) (loaded : Loaded) (nest : Nest) (trace : List Event) (c : Brain) (b : Bank) (made : Made)
    (rest : List Note) (outer : List Kind)
    → Stood loaded nest trace c b made rest (k ∷ outer) → Past made b.time
    → ((j : Kind) → kind_number k < kind_number j → left_of c j ≡ 0) → ((j : Kind) → j ≢ k → 8 < need_of c j) → 0 < left_of c k
    → Given k (counted_down c b) answers
    → Stood loaded nest trace (kind_step k answers (counted_down c b) b).core (accessed b (kind_step k answers (counted_down c b) b).access)
    (made_next k false b.time made) (rest ++ all_notes b k (kind_step k answers (counted_down c b) b))
    (open_left k outer (kind_step k answers (counted_down c b) b))
    × All (IsOwn k b.time) (all_notes b k (kind_step k answers (counted_down c b) b))
    × ReturnsLast k (all_notes b k (kind_step k answers (counted_down c b) b))
    × DriveKeeps k (counted (world_of loaded nest trace c b made rest)) (kind_step k answers (counted_down c b) b)
    × GateFirst (all_notes b k (kind_step k answers (counted_down c b) b))
step_made k answers loaded nest trace c b made rest outer i past above alone left given =
    let s : Stepped = kind_step k answers (counted_down c b) b in
    let after : Bank = accessed b s.access in
    let before : World = world_of loaded nest trace c b made rest in
    let w : World = counted before in
    let g : Note = note.Gate (as_tick b.time) after.hi after.lo in
    let on : (so_far w).stack ≡ k ∷ outer = ap (λ (p : Place). p.stack) (placed-is (opening loaded ++ rest)) ∙ i.stack_is in
    let ties : Ties w = (λ j. counted_tie j before (i.ties j)) in
    let shut : Above k w = (λ j l. counted_left j c b ∙ above j l) in
    let some : 0 < left_of w.core k = rw (counted_left k c b) left in
    let holds : HoldsAlone k w = (λ j ne. rw (counted_need j c b) (alone j ne)) in
    let was : WordTold w.core w.bank w.back = i.gates in
    let plain : StepKeeps k outer w s = (law k).steps w answers outer given
    (record { rest = record { ground = i.ground; ties = ties }; past = past; above = shut; alone = holds; on = on; left = some }) in
    elim (word_after b after (access_time b s.access)) [
      | inl same ↦ rw same.none (
        kept_stood k w rest outer s refl i.said ties (told_same k w s plain.gates was same) plain,
        all_own k w (step_notes b.time k s) (plain.fits (told_same k w s plain.gates was same)),
        returns_last k outer w s on (told_same k w s plain.gates was same) plain,
        plain.gates.drive,
        first_of_none (step_notes b.time k s) (none_gate k w (step_notes b.time k s) (plain.fits (told_same k w s plain.gates was same))),
      )
      | inr other ↦ (
          let told : StepKeeps k outer (gated w after) s =
          (law k).steps (gated w after) answers outer given (record {
            rest = record { ground = ground_noted w g refl refl tt refl i.ground; ties = λ j. gate_tie j w after (ties j) };
            past = past;
            above = shut;
            alone = holds;
            on = on;
            left = some;
          }) in
          let by = gate_said k w s plain.gates was other in
          let gate = plain.gates.fits was other.moves in
          let said : Said loaded nest trace b.time (rest ++ g ∷ []) =
          said_push loaded nest trace b.time rest g i.said refl (note_fits w (opening loaded ++ rest) g refl
          (record { laws = elim [ owed.Safe ↦ by.0 | owed.Drives ↦ gate.driven | owed.Nests ↦ gate.nest | l ↦ tt ]; waits = tt })) in
          let back : reverse (opening loaded ++ (rest ++ g ∷ [])) ≡ g ∷ reverse (opening loaded ++ rest) =
          ap reverse (sym (append_assoc (opening loaded) rest (g ∷ []))) ∙ reverse-push (opening loaded ++ rest) g in
          let stood =
          kept_stood k (gated w after) (rest ++ g ∷ []) outer s back said (λ j. gate_tie j w after (ties j)) by.1 told in
          rw other.one (
            subst (λ (ns : List Note). Stood loaded nest trace s.core after (made_next k false b.time made) ns (open_left k outer s))
                (append_assoc rest (g ∷ []) (step_notes b.time k s)) stood,
            All-cons (IsOwn k b.time) g (step_notes b.time k s) (refl, refl, λ e. cc) (all_own k (gated w after) (step_notes b.time k s) (told.fits by.1)),
            returns_last k outer (gated w after) s on by.1 told,
            plain.gates.drive,
            none_gate k (gated w after) (step_notes b.time k s) (told.fits by.1),
          ))
    ]

-- ---- an entry

ground_enter : (k : Kind) (w : World) → Ground w → Ground (after_enter k w)
ground_enter kind.Main w g = ground_noted w (enters kind.Main w.bank.time) refl refl tt refl g
ground_enter k w g = ground_noted w (enters k w.bank.time) refl refl tt refl g

enter_told : (k : Kind) (c : Brain) (b : Bank) (back : List Note) → WordTold c b back → WordTold (entered_core c k) (after_entry b k) (enters k b.time ∷ back)
enter_told kind.Main c b back g = record { hi_is = g.hi_is; lo_is = g.lo_is; hi_free = g.hi_free; lo_free = g.lo_free }
enter_told k c b back g = record { hi_is = g.hi_is; lo_is = g.lo_is; hi_free = g.hi_free; lo_free = g.lo_free }

pub enter_time : (k : Kind) (b : Bank) → (after_entry b k).time ≡ b.time
enter_time kind.Main b = refl
enter_time k b = refl

enter_stack : (k : Kind) (p : Place) (t : ℕ) → (next p (enters k t)).stack ≡ k ∷ p.stack
enter_stack kind.Main p t = refl
enter_stack k p t = refl

-- an I fits where the kind is asked for and above all open ones
enter_fits : (k : Kind) (w : World) (before : List Note) (stack : List Kind) → Tie kind.Cmp w → reverse before ≡ w.back → (place before).stack ≡ stack
    → IsBuilt k × IsAsked w.loaded w.trace (so_far w) w.back w.bank.time k → IsAboveAll w.nest stack (kind_number k)
    → NoteFits w.loaded w.nest w.trace before (enters k w.bank.time)
enter_fits k w before stack few e open_is asked above =
    note_fits w before (enters k w.bank.time) e (record {
      laws = elim [
        | owed.Searches ↦ λ four. (let f = few.few in omega arith)
        | owed.Nests ↦ (
          rw (kind_of-number k) asked.0,
          subst (λ (st : List Kind). IsAboveAll w.nest st (kind_number k))
              (sym (ap (λ (p : Place). p.stack) (ap placed (sym e) ∙ placed-is before) ∙ open_is)) above,
        )
        | owed.Asks ↦ rw (kind_of-number k) asked.1
        | l ↦ tt
      ];
      waits = tt;
    })

pub enter_stood : (k : Kind) (loaded : Loaded) (nest : Nest) (trace : List Event) (c : Brain) (b : Bank) (made : Made) (rest : List Note)
    (stack : List Kind)
    → Stood loaded nest trace c b made rest stack → Past made b.time → left_of c k ≡ 0 → ((j : Kind) → 8 < need_of c j) → due_now (waits_of c) b k ≡ true
    → Highest k (world_of loaded nest trace c b made rest) → IsAboveAll nest stack (kind_number k)
    → Stood loaded nest trace (entered_core c k) (after_entry b k) (made_next k true b.time made) (rest ++ enters k b.time ∷ []) (k ∷ stack)
enter_stood k loaded nest trace c b made rest stack i past none unheld due high above =
    let w : World = world_of loaded nest trace c b made rest in
    let n : Note = enters k b.time in
    let at : AtEntry k w = record {
      rest = record { ground = i.ground; ties = i.ties };
      past = past;
      told = i.gates;
      unheld = unheld;
      shut = none;
      due = due;
      highest = high;
    } in
    let back : n ∷ reverse (opening loaded ++ rest) ≡ reverse (opening loaded ++ (rest ++ n ∷ [])) =
    sym (reverse-push (opening loaded ++ rest) n) ∙ ap reverse (append_assoc (opening loaded) rest (n ∷ [])) in
    record {
      said = subst (λ (t : ℕ). Said loaded nest trace t (rest ++ n ∷ [])) (sym (enter_time k b)) (said_push loaded nest trace b.time rest n i.said refl
          (enter_fits k w (opening loaded ++ rest) stack (i.ties kind.Cmp) refl i.stack_is ((law k).asked w at) above));
      gates = subst (λ (ns : List Note). WordTold (entered_core c k) (after_entry b k) ns) back (enter_told k c b (reverse (opening loaded ++ rest)) i.gates);
      ground = subst (λ (ns : List Note). Ground (record (after_enter k w) { back = ns })) back (ground_enter k w i.ground);
      ties = λ j. subst (λ (ns : List Note). Tie j (record (after_enter k w) { back = ns })) back (elim (same_kind j k) [
        | inl e ↦ subst (λ (x : Kind). Tie x (after_enter k w)) (sym e) ((law k).entered w at)
        | inr ne ↦ (law k).beside w at j ne
      ]);
      stack_is = ap (λ (ns : List Note). (place ns).stack) (sym (append_assoc (opening loaded) rest (n ∷ [])))
          ∙ ap (λ (p : Place). p.stack) (place-push (opening loaded ++ rest) n) ∙ enter_stack k (place (opening loaded ++ rest)) b.time
          ∙ ap (λ (st : List Kind). k ∷ st) i.stack_is;
    }
