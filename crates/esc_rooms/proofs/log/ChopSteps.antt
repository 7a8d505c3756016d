-- What an entry and an own step do to the gates, by the notes.
use Rattle.std.proofs.Common.{◌≡◌, ◌≤◌, ◌<◌, ℕ, Bool, true, false, ◌&&◌, ◌==◌, if◌then◌else◌, List, [], ◌∷◌, ◌++◌, reverse, None, All, refl, sym, ◌∙◌, ap, subst}
use Rattle.std.proofs.lemmas.Bool.{le-ltb}
use Rattle.esc_base.specs.declared.gate.Leg.{Leg}
use Rattle.esc_base.specs.declared.kind.Kind.{Kind}
use Rattle.esc_base.specs.declared.event.Event.{Event}
use Rattle.esc_base.specs.declared.note.Note.{Note}
use Rattle.esc_base.specs.declared.note.Note.TheVariants as note
use Rattle.esc_base.specs.Legs.{is_on}
use Rattle.esc_base.specs.Numbers.{kind_number, as_tick}
use Rattle.settings_block.specs.declared.stored.Loaded.{Loaded}
use Rattle.timer_regs.specs.Bank.{Bank}
use Rattle.interrupt_machine.specs.declared.nest.Nest.{Nest}
use Rattle.interrupt_machine.specs.Did.{accessed}
use Rattle.arming.proofs.InOrder.{reverse-push}
use Rattle.commutation.specs.Sectors.{high_of}
use Rattle.commutation.specs.Commutated.{sector_at}
use Rattle.gate_driver.specs.DeadSafe.{high_at, low_at}
use Rattle.gate_driver.specs.Gated.{at_leg, wait_of}
use Rattle.esc_core.specs.Brain.{Brain}
use Rattle.esc_core.specs.Stepped.{Stepped}
use Rattle.esc_laws.specs.Steps.{Turned, journal, open_in}
use Rattle.esc_rooms.specs.Tied.{WordTold}
use Rattle.esc_rooms.specs.World.{world, counted, enters, all_notes}
use Rattle.esc_rooms.specs.Rooms.{DriveKeeps}
use Rattle.esc_chopping.specs.View.{has_leave}
use Rattle.esc_rooms.specs.ChopSteps.{told, ChopFits}
use Rattle.esc_laws.proofs.Pushes.{journal-push}

-- an entry's I has_leave the word
entry_told : (loaded : Loaded) (log : List Turned) (t : ℕ) (k : Kind)
    → told loaded (log ++ record { tick = t; kind = k; enters = true; notes = enters k t ∷ [] } ∷ []) ≡ enters k t ∷ told loaded log
entry_told loaded log t k =
    ap reverse (journal-push loaded log (record { tick = t; kind = k; enters = true; notes = enters k t ∷ [] }))
    ∙ reverse-push (journal loaded log) (enters k t)

pub entry_chops : (loaded : Loaded) (log : List Turned) (t : ℕ) (k : Kind) → All (λ j. kind_number j < kind_number k) (open_in loaded log)
    → ChopFits loaded log (record { tick = t; kind = k; enters = true; notes = enters k t ∷ [] })
entry_chops loaded log t k above = record {
  above = λ e. above;
  low = λ o d. ap low_at (entry_told loaded log t k);
  high = λ o p d. ap high_at (entry_told loaded log t k);
  chops = λ is own. cc;
  back = λ is own. cc;
}

may_wait : (other free : ℕ) (x : Leg) (t : ℕ) → is_on other x ≡ false → free ≤ t → wait_of other free x t ≡ None
may_wait other free x t off le = rw (off, le-ltb t free le) refl

-- only a return has_leave PWM
gate_leaves : (v : Bool) (t hi lo : ℕ) (rest : List Note) → has_leave ((if v then [] else note.Gate (record { 0 = t }) hi lo ∷ []) ++ rest) ≡ has_leave rest
gate_leaves true t hi lo rest = refl
gate_leaves false t hi lo rest = refl

over_leaves : (over : Bool) (t k : ℕ) → has_leave (if over then note.Leave (as_tick t) k ∷ [] else []) ≡ true → over ≡ true
over_leaves true t k e = refl
over_leaves false t k e = cc

silent_over : (b : Bank) (k : Kind) (s : Stepped) → s.notes ≡ [] → has_leave (all_notes b k s) ≡ true → s.over ≡ true
silent_over b k s silent e =
    let after : Bank = accessed b s.access in
    let own : has_leave (s.notes ++ (if s.over then note.Leave (as_tick b.time) (kind_number k) ∷ [] else [])) ≡ true =
    sym (gate_leaves ((after.hi == b.hi) && (after.lo == b.lo)) after.time after.hi after.lo
    (s.notes ++ (if s.over then note.Leave (as_tick b.time) (kind_number k) ∷ [] else []))) ∙ e in
    over_leaves s.over b.time (kind_number k)
    (subst (λ (ns : List Note). has_leave (ns ++ (if s.over then note.Leave (as_tick b.time) (kind_number k) ∷ [] else [])) ≡ true) silent own)

pub own_chops : (loaded : Loaded) (nest : Nest) (trace : List Event) (c : Brain) (b : Bank) (s : Stepped) (log : List Turned) (k : Kind)
    → WordTold c b (told loaded log)
    → WordTold s.core (accessed b s.access) (told loaded (log ++ record { tick = b.time; kind = k; enters = false; notes = all_notes b k s } ∷ []))
    → b.sector ≡ sector_at (told loaded log) → DriveKeeps k (counted (world loaded nest trace c b log)) s
    → ChopFits loaded log (record { tick = b.time; kind = k; enters = false; notes = all_notes b k s })
own_chops loaded nest trace c b s log k before after sector d = record {
  above = λ e. cc;
  low = λ o l. after.lo_is ∙ d.low (λ is. (let z : false ≡ true = o is in cc)) l ∙ sym before.lo_is;
  high = λ o p l. after.hi_is ∙ d.high (λ is. (let z : false ≡ true = o is in cc)) (λ is. p is refl) l ∙ sym before.hi_is;
  chops = λ is own four.
      let chops = d.chops is four in
      record {
        on = λ l some off free. rw after.hi_is (subst (λ (x : ℕ). is_on (accessed b s.access).hi (high_of x) ≡ true) sector
            (chops.on l (rw sector some)
            (may_wait b.lo (at_leg c.drive.gates.lo_free (high_of b.sector)) (high_of b.sector) b.time (rw (← before.lo_is, sector) off)
            (rw (sector, ← before.lo_free (high_of (sector_at (told loaded log)))) free))));
        off = λ l. after.hi_is ∙ chops.off l;
      };
  back = λ is own e. d.back is (silent_over b k s (d.silent is) e);
}
