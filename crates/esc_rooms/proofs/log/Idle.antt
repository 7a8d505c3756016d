-- While nothing is due, the notes call for nothing.
use Rattle.std.proofs.Common.{◌≡◌, ◌<◌, ◌≤◌, ℕ, Bool, true, false, not, ◌&&◌, List, [], ◌∷◌, Option, Some, None, is_none, refl, sym, ◌∙◌, subst, arith, inl, inr, reverse}
use Rattle.std.proofs.lemmas.Bool.{cases_lt}
use Rattle.esc_base.specs.declared.kind.Kind.{Kind}
use Rattle.esc_base.specs.declared.kind.Kind.TheVariants as kind
use Rattle.esc_base.specs.declared.event.Event.{Event}
use Rattle.settings_block.specs.declared.stored.Loaded.{Loaded}
use Rattle.timer_regs.specs.Bank.{Bank}
use Rattle.timer_regs.specs.Effects.{advanced, is_due}
use Rattle.timer_regs.specs.NextDue.{becomes_due}
use Rattle.timer_regs.proofs.Advance.{advanced-now}
use Rattle.interrupt_machine.specs.declared.nest.Nest.{Nest}
use Rattle.interrupt_machine.specs.Open.{due_now, highest, is_idle}
use Rattle.interrupt_machine.proofs.Waiting.{highest_none}
use Rattle.esc_core.specs.Brain.{Brain}
use Rattle.esc_core.specs.Firmware.{waits_of}
use Rattle.esc_rooms.proofs.shared.Law.{AtRest}
use Rattle.esc_laws.specs.Seen.{sees}
use Rattle.esc_laws.specs.Steps.{Turned, journal}
use Rattle.esc_rooms.specs.Tied.{Keeps, WordTold}
use Rattle.esc_rooms.specs.World.{world}
use Rattle.esc_rooms.proofs.log.Laws.{law}
use Rattle.esc_rooms.proofs.log.Outside.{later_ground}
use Rattle.esc_rooms.proofs.log.Entries.{unheld_idle}
use Rattle.esc_rooms.proofs.log.Stepping.{sees_due}
use Rattle.esc_rooms.proofs.log.Events.{keeps_later}

pub none_open : (stack : List Kind) (due : Kind → Bool) → is_idle stack due ≡ true → (stack ≡ []) × (highest due ≡ None)
none_open [] due idle = (refl, none_of (highest due) idle)
  where
    none_of : (o : Option Kind) → is_none o ≡ true → o ≡ None
    none_of None e = refl
    none_of (Some k) e = cc
none_open (k ∷ outer) due idle = cc

-- time makes a kind due by the registers alone
due_by_regs : (w : Bool) (b : Bank) (u : ℕ) (k : Kind) → due_now w b k ≡ false → (is_due b k ≡ false → is_due (advanced b u) k ≡ false)
    → due_now w (advanced b u) k ≡ false
due_by_regs w b u kind.Main e f = e
due_by_regs w b u k e f = f e

stays_shut : (x y : Bool) → x ≡ false → (not x && y) ≡ false → y ≡ false
stays_shut true y e f = cc
stays_shut false y e f = f

-- while nothing is due nothing is seen due
pub none_seen : (loaded : Loaded) (nest : Nest) (trace : List Event) (c : Brain) (b : Bank) (log : List Turned) (t u : ℕ) (k : Kind)
    → Keeps c b [] → AtRest (world loaded nest trace c b log)
    → WordTold c b (reverse (journal loaded log))
    → highest (due_now (waits_of c) b) ≡ None → ((j : Kind) (v : ℕ) → b.time < v → v < t → becomes_due b j v ≡ false) → b.time ≤ u → u < t
    → t < 2147483648 → sees loaded trace (journal loaded log) u k ≡ false
none_seen loaded nest trace c b log t u k keeps rest told none quiet from below small = by_seen (sees loaded trace (journal loaded log) u k) refl
  where
    shut_now : due_now (waits_of c) (advanced b u) k ≡ false
    shut_now = elim (cases_lt b.time u) [
      | inl later ↦ due_by_regs (waits_of c) b u k (highest_none (due_now (waits_of c) b) k none)
          (λ e. stays_shut (is_due b k) (is_due (advanced b u) k) e (quiet k u later below))
      | inr not_later ↦ (let same : b.time ≡ u = omega arith in subst (λ (v : ℕ). due_now (waits_of c) (advanced b v) k ≡ false) same
          (subst (λ (x : Bank). due_now (waits_of c) x k ≡ false) (advanced-now b) (highest_none (due_now (waits_of c) b) k none)))
    ]

    by_seen : (v : Bool) → sees loaded trace (journal loaded log) u k ≡ v → sees loaded trace (journal loaded log) u k ≡ false
    by_seen true e =
        let d =
        sees_due loaded nest trace c (advanced b u) [] log (keeps_later c b [] u keeps)
        (record {
          ground = later_ground (world loaded nest trace c b log) u from (omega arith) rest.ground;
          ties = λ j. (law j).later (world loaded nest trace c b log) u from (omega arith) rest;
        }) (record {
          hi_is = told.hi_is;
          lo_is = told.lo_is;
          hi_free =
              told.hi_free;
          lo_free = told.lo_free;
        })
        (unheld_idle c b keeps) k (rw e refl) in
        absurd (let z : true ≡ false = sym d ∙ shut_now in cc)
    by_seen false e = e
