-- What a step of the machine does to the flash is what its notes say.
use Rattle.std.proofs.Common.{◌≡◌, ◌≢◌, ℕ, Bool, true, false, List, [], ◌∷◌, ◌++◌, reverse, refl, sym, ◌∙◌, ap, subst, All, ◌⊎◌, inl, inr}
use Rattle.std.proofs.lemmas.Bool.{eq-eqb}
use Rattle.std.proofs.lemmas.List.Elements.{All-nil, All-cons, All-weaker}
use Rattle.esc_base.specs.declared.kind.Kind.{Kind}
use Rattle.esc_base.specs.declared.kind.Kind.TheVariants as kind
use Rattle.esc_base.specs.declared.event.Event.{Event}
use Rattle.esc_base.specs.declared.note.Note.{Note}
use Rattle.esc_base.specs.declared.note.Note.TheVariants as note
use Rattle.esc_base.specs.Flash.{Told, IsWhole}
use Rattle.esc_base.specs.Numbers.{as_tick}
use Rattle.settings_block.specs.declared.stored.Loaded.{Loaded}
use Rattle.settings_block.specs.Block.{block_of}
use Rattle.timer_regs.specs.Bank.{Bank}
use Rattle.interrupt_machine.specs.declared.nest.Nest.{Nest}
use Rattle.interrupt_machine.specs.declared.firmware.Did.{Did}
use Rattle.interrupt_machine.specs.Turn.{gate_note, own_notes}
use Rattle.interrupt_machine.proofs.OpenKinds.{closed_above}
use Rattle.interrupt_machine.proofs.Waiting.{self_open}
use Rattle.esc_core.specs.declared.state.MainAt.{MainAt}
use Rattle.esc_core.specs.declared.state.MainAt.TheVariants as main
use Rattle.esc_core.specs.Brain.{Brain}
use Rattle.esc_core.specs.Background.{result_of, main_step, main_asked}
use Rattle.esc_core.specs.Calls.{Call, Answer, Took, Refused, Said, Saves, took_first, CallDid, DeviceDid, IsMade}
use Rattle.esc_core.specs.Stepped.{IsStepped}
use Rattle.esc_core.specs.Firmware.{core_step, core_asked, kind_step, kind_asked, counted_down}
use Rattle.esc_core.proofs.Bounds.{core_step-goes, core_asked-goes, counted_asked, none_asked, one_asked}
use Rattle.esc_laws.specs.Saves.{FlashFits, settings_at}
use Rattle.esc_laws.specs.Steps.{Turned, journal, notes_in}
use Rattle.esc_rooms.specs.Tied.{MainTied}
use Rattle.esc_laws.specs.Looks.{made as steps_made, placed}
use Rattle.esc_rooms.specs.World.{all_notes}
use Rattle.esc_rooms.specs.Logged.{Logged, CoreTurn}
use Rattle.esc_laws.proofs.Notes.{all_front}
use Rattle.esc_laws.specs.Saves.{is_save}
use Rattle.esc_rooms.proofs.main.Saves.{fits_pushes, fits_saved, fits_spoilt}
use Rattle.esc_rooms.proofs.log.Stages.{IsOwn, step_made}
use Rattle.esc_rooms.proofs.log.Turns.{stood}
use Rattle.esc_rooms.proofs.log.Entries.{holds_alone}
use Rattle.esc_rooms.proofs.log.OwnTurns.{steady, own_are}
use Rattle.esc_rooms.proofs.log.Stepping.{stepped_by}

-- A step either leaves the flash, and has no P; or its one note is a P, and the flash is as that P says.
abbrev pub Flashes : Loaded → Told → Told → Told → ℕ → List Note → List Note → Type 0
Flashes loaded first flash flash' t before notes =
    (All (λ n. is_save n ≡ false) notes × (flash' ≡ flash))
    ⊎
    ((r : ℕ) × (notes ≡ note.Saved (as_tick t) r ∷ [])
    × (FlashFits loaded first flash before → FlashFits loaded first flash' (before ++ note.Saved (as_tick t) r ∷ [])))

-- ---- a kind but MAIN saves nothing

no_save : (v : Bool) (k : Kind) → (v ≡ true → k ≡ kind.Main) → k ≢ kind.Main → v ≡ false
no_save true k f ne = absurd (ne (f refl))
no_save false k f ne = refl

plain_kind : (k : Kind) (t : ℕ) (notes : List Note) → k ≢ kind.Main → All (IsOwn k t) notes → All (λ n. is_save n ≡ false) notes
plain_kind k t notes ne own = All-weaker (IsOwn k t) (λ n. is_save n ≡ false) (λ n p. no_save (is_save n) k p.2 ne) notes own

-- ---- MAIN

-- it leaves the switches
no_gate : (b : Bank) → gate_note b.hi b.lo b ≡ []
no_gate b = rw (eq-eqb b.hi b.hi refl, eq-eqb b.lo b.lo refl) refl

-- a save was made
saved_flash : (a : Answer) (loaded : Loaded) (first flash flash' : Told) (t : ℕ) (before : List Note) (block : List ℕ)
    → block ≡ block_of (settings_at loaded.settings (reverse before)) → IsWhole flash.bytes → IsWhole flash'.bytes
    → CallDid (Saves block) a flash flash' → FlashFits loaded first flash before
    → FlashFits loaded first flash' (before ++ note.Saved (as_tick t) (result_of (took_first (a ∷ []))) ∷ [])
saved_flash Took loaded first flash flash' t before block is whole whole' did fits = fits_saved loaded first flash flash' before (as_tick t) block is did fits
saved_flash (Said outcome) loaded first flash flash' t before block is whole whole' did fits = absurd did
saved_flash Refused loaded first flash flash' t before block is whole whole' did fits =
    fits_spoilt loaded first flash flash' before (as_tick t) did whole whole' fits

work_flash : (v : Bool) (answers : List Answer) (loaded : Loaded) (first flash flash' : Told) (c : Brain) (b : Bank) (before : List Note)
    → c.orders.save_asked ≡ v → v ≡ true → c.orders.settings ≡ settings_at loaded.settings (reverse before)
    → IsWhole flash.bytes → IsWhole flash'.bytes → DeviceDid (main_asked main.Work c answers) answers flash flash'
    → Flashes loaded first flash flash' b.time before (all_notes b kind.Main (main_step answers main.Work c b))
work_flash true answers loaded first flash flash' c b before e up is whole whole' did =
    let block : List ℕ = block_of c.orders.settings in
    let one = one_asked (Saves block) answers flash flash' (rw e at did) in
    inr (
      result_of (took_first answers),
      rw (e, no_gate b) refl,
      λ fits.
          subst (λ (given : List Answer). FlashFits loaded first flash' (before ++ note.Saved (as_tick b.time) (result_of (took_first given)) ∷ [])) (sym one.1)
          (saved_flash one.0 loaded first flash flash' b.time before block (ap block_of is) whole whole' one.2 fits),
    )
work_flash false answers loaded first flash flash' c b before e up is whole whole' did = cc

-- another step of MAIN
back_flash : (loaded : Loaded) (first flash flash' : Told) (b : Bank) (before : List Note) → flash' ≡ flash
    → Flashes loaded first flash flash' b.time before (gate_note b.hi b.lo b ++ note.Leave (as_tick b.time) 0 ∷ [])
back_flash loaded first flash flash' b before same =
    rw (no_gate b) (inl (All-cons (λ n. is_save n ≡ false) (note.Leave (as_tick b.time) 0) [] refl (All-nil (λ n. is_save n ≡ false)), same))

main_flash : (at : MainAt) (answers : List Answer) (loaded : Loaded) (first flash flash' : Told) (c : Brain) (b : Bank) (before : List Note)
    → MainTied at c.orders.save_asked (placed (reverse before)).saves → c.orders.settings ≡ settings_at loaded.settings (reverse before)
    → IsWhole flash.bytes → IsWhole flash'.bytes → DeviceDid (main_asked at c answers) answers flash flash'
    → Flashes loaded first flash flash' b.time before (all_notes b kind.Main (main_step answers at c b))
main_flash main.Shut answers loaded first flash flash' c b before m is whole whole' did =
    back_flash loaded first flash flash' b before (none_asked answers flash flash' did)
main_flash main.Work answers loaded first flash flash' c b before m is whole whole' did =
    work_flash c.orders.save_asked answers loaded first flash flash' c b before refl m.0 is whole whole' did
main_flash main.Back answers loaded first flash flash' c b before m is whole whole' did =
    back_flash loaded first flash flash' b before (none_asked answers flash flash' did)

-- ---- any step

kind_flash : (k : Kind) (answers : List Answer) (loaded : Loaded) (first flash flash' : Told) (c : Brain) (b : Bank) (before : List Note)
    → MainTied c.main_at c.orders.save_asked (placed (reverse before)).saves → c.orders.settings ≡ settings_at loaded.settings (reverse before)
    → All (IsOwn k b.time) (all_notes b k (kind_step k answers (counted_down c b) b)) → IsWhole flash.bytes → IsWhole flash'.bytes
    → DeviceDid (kind_asked k c answers) answers flash flash'
    → Flashes loaded first flash flash' b.time before (all_notes b k (kind_step k answers (counted_down c b) b))
kind_flash kind.Main answers loaded first flash flash' c b before m is own whole whole' did =
    main_flash c.main_at answers loaded first flash flash' (counted_down c b) b before m is whole whole'
    (subst (λ (calls : List Call). DeviceDid calls answers flash flash') (sym (counted_asked kind.Main c b answers)) did)
kind_flash k answers loaded first flash flash' c b before m is own whole whole' did =
    inl (plain_kind k b.time (all_notes b k (kind_step k answers (counted_down c b) b)) (λ e. cc) own, none_asked answers flash flash' did)

flashes : (loaded : Loaded) (nest : Nest) (cost : ℕ) (trace : List Event) (c c' : Brain) (b b' : Bank) (first flash flash' : Told) (stack stack' : List Kind)
    (log : List Turned) (notes : List Note)
    → Logged loaded nest cost trace b.time c b stack log → IsWhole flash.bytes → IsWhole flash'.bytes → CoreTurn nest c stack b flash notes c' stack' b' flash'
    → Flashes loaded first flash flash' b.time (journal loaded log) notes
flashes loaded nest cost trace c c' b b' first flash flash' stack stack' log notes l whole whole' (inl e) =
    inl (rw e.1.notes_are (All-cons (λ n. is_save n ≡ false) (note.Enter (as_tick b.time) _) [] refl (All-nil (λ n. is_save n ≡ false))), e.2)
flashes loaded nest cost trace c c' b b' first flash flash' stack stack' log notes l whole whole' (inr e) =
    own_flash e.0 e.1 e.2 e.3.innermost_is e.3.stepped e.3.notes_are
  where
    own_flash : (k : Kind) (outer : List Kind) (did : Did) → stack ≡ k ∷ outer
        → IsMade (λ answers. core_step k answers c b) (core_asked k c b) b flash did c' b' flash' → notes ≡ own_notes b.hi b.lo b' k did
        → Flashes loaded first flash flash' b.time (journal loaded log) notes
    own_flash k outer did same made are =
        let l' : Logged loaded nest cost trace b.time c b (k ∷ outer) log =
        subst (λ (st : List Kind). Logged loaded nest cost trace b.time c b st log) same l in
        let goes = steady k c b (k ∷ outer) l'.keeps refl in
        let i : IsStepped b (stepped_by k made.answers c b) did c' b' = rw (core_step-goes k made.answers c b goes) at made.stepped in
        let did' : DeviceDid (kind_asked k c made.answers) made.answers flash flash' = rw (core_asked-goes k c b made.answers goes) at made.flash_is in
        rw (are ∙ own_are k b b' (stepped_by k made.answers c b) did c' i)
        (kind_flash k made.answers loaded first flash flash' c b (journal loaded log) (l.ties kind.Main) l.ground.orders.settings_are
        (step_made k made.answers loaded nest trace c b (steps_made log) (notes_in log) outer
        (stood loaded nest cost trace b.time c b (k ∷ outer) log l')
        l'.made_past
        (λ j above. l'.keeps.shut j (closed_above (k ∷ outer) j l'.sorted above)) (holds_alone c b k outer l'.keeps) (l'.keeps.live k (self_open k outer))
        (flash, (flash', subst (λ (calls : List Call). DeviceDid calls made.answers flash flash') (sym (counted_asked k c b made.answers)) did'))).1
        whole whole' did')

-- ---- what is left of the flash

-- after the whole step
pub turn_flash : (loaded : Loaded) (nest : Nest) (cost : ℕ) (trace : List Event) (c c' : Brain) (b b' : Bank) (first flash flash' : Told)
    (stack stack' : List Kind) (log : List Turned) (notes : List Note)
    → Logged loaded nest cost trace b.time c b stack log → IsWhole flash.bytes → IsWhole flash'.bytes → CoreTurn nest c stack b flash notes c' stack' b' flash'
    → FlashFits loaded first flash (journal loaded log) → FlashFits loaded first flash' (journal loaded log ++ notes)
turn_flash loaded nest cost trace c c' b b' first flash flash' stack stack' log notes l whole whole' turn fits =
    by_flash (flashes loaded nest cost trace c c' b b' first flash flash' stack stack' log notes l whole whole' turn)
  where
    by_flash : Flashes loaded first flash flash' b.time (journal loaded log) notes → FlashFits loaded first flash' (journal loaded log ++ notes)
    by_flash (inl f) = rw f.1 (fits_pushes loaded first flash (journal loaded log) notes f.0 fits)
    by_flash (inr s) = rw s.1 (s.2 fits)

-- the only note is a P: so it is the last one of each front
alone : (n last : Note) (front left_out : List Note) → (front ++ last ∷ []) ++ left_out ≡ n ∷ [] → front ++ last ∷ [] ≡ n ∷ []
alone n last [] left_out e = cc
alone n last (x ∷ []) left_out e = cc
alone n last (x ∷ y ∷ front) left_out e = cc

-- after a step whose notes were written up to one of them
pub front_flash : (loaded : Loaded) (nest : Nest) (cost : ℕ) (trace : List Event) (c c' : Brain) (b b' : Bank) (first flash flash' : Told)
    (stack stack' : List Kind) (log : List Turned) (notes front left_out : List Note) (last : Note)
    → (front ++ last ∷ []) ++ left_out ≡ notes
    → Logged loaded nest cost trace b.time c b stack log → IsWhole flash.bytes → IsWhole flash'.bytes → CoreTurn nest c stack b flash notes c' stack' b' flash'
    → FlashFits loaded first flash (journal loaded log) → FlashFits loaded first flash' (journal loaded log ++ (front ++ last ∷ []))
front_flash loaded nest cost trace c c' b b' first flash flash' stack stack' log notes front left_out last split l whole whole' turn fits =
    by_flash (flashes loaded nest cost trace c c' b b' first flash flash' stack stack' log notes l whole whole' turn)
  where
    by_flash : Flashes loaded first flash flash' b.time (journal loaded log) notes → FlashFits loaded first flash' (journal loaded log ++ (front ++ last ∷ []))
    by_flash (inl f) =
        rw f.1
        (fits_pushes loaded first flash (journal loaded log) (front ++ last ∷ [])
        (all_front (λ n. is_save n ≡ false) (front ++ last ∷ []) left_out (rw split f.0)) fits)
    by_flash (inr s) = rw (alone (note.Saved (as_tick b.time) s.0) last front left_out (split ∙ s.1)) (s.2 fits)
