-- PWM's row of the laws: what calls it, what it is entered for, and its tie as time goes on.
use Rattle.std.proofs.Common.{◌≡◌, ◌≤◌, ◌<◌, ◌⊎◌, inl, inr, ℕ, Bool, true, false, ◌&&◌, ◌||◌, nat_lt, refl, sym, ◌∙◌, arith}
use Rattle.std.proofs.lemmas.Bool.{cases_lt, cases_Bool, and_parts, lt-ltb, ltb-true, or_left, or_right}
use Rattle.esc_base.specs.declared.kind.Kind.TheVariants as kind
use Rattle.esc_base.specs.Periods.{edges}
use Rattle.timer_regs.specs.Pwm.{has_edge}
use Rattle.arming.specs.ControlAt.{demand_at}
use Rattle.esc_core.specs.declared.state.TickAt.{TickAt}
use Rattle.esc_core.specs.declared.state.TickAt.TheVariants as tick
use Rattle.esc_core.specs.Firmware.{tick_need}
use Rattle.esc_laws.specs.Calls.{pwm_asked_at, pwm_entered_at}
use Rattle.esc_rooms.specs.DriveTied.{FlagTied, DutyTied, writes_duty}
use Rattle.esc_rooms.specs.World.{World}
use Rattle.esc_rooms.specs.Rooms.{Ties, Unheld}
use Rattle.esc_rooms.proofs.shared.DriveFacts.{comm_shut, duty_written, rest_still}
use Rattle.esc_rooms.proofs.shared.Law.{HandlerLaw}
use Rattle.esc_rooms.proofs.pwm.Preserves.{duty_is}
use Rattle.esc_rooms.proofs.pwm.Steps.{pwm_steps_preserve}

-- ---- what calls PWM, and what it is entered for

or_parts : (a b : Bool) → (a || b) ≡ true → (a ≡ true) ⊎ ((a ≡ false) × (b ≡ true))
or_parts true b e = inl refl
or_parts false b e = inr (refl, e)

pwm_called : (at : TickAt) (flag asked : Bool) (demand entered time : ℕ) → 8 < tick_need at → FlagTied at flag asked demand entered time
    → (nat_lt 0 demand && (asked || nat_lt (edges demand entered) (edges demand time))) ≡ true → flag ≡ true
pwm_called at flag asked demand entered time unheld t e =
    let parts = and_parts (nat_lt 0 demand) (asked || nat_lt (edges demand entered) (edges demand time)) e in
    let some : 0 < demand = ltb-true 0 demand parts.0 in
    elim (or_parts asked (nat_lt (edges demand entered) (edges demand time)) parts.1) [
      | inl a ↦ elim (t.asks some a) [
        | inl w ↦ absurd (let z : false ≡ true = sym (duty_written at unheld) ∙ w in cc)
        | inr f ↦ f
      ]
      | inr r ↦ t.counted some r.0 (ltb-true (edges demand entered) (edges demand time) r.1)
    ]

flag_calls : (at : TickAt) (flag asked : Bool) (demand entered time : ℕ) → 0 < demand → FlagTied at flag asked demand entered time → flag ≡ true
    → (nat_lt 0 demand && (asked || nat_lt (edges demand entered) (edges demand time))) ≡ true
flag_calls at flag asked demand entered time some t up = rw (lt-ltb 0 demand some) (elim (t.only some up) [
  | inl a ↦ or_left asked (nat_lt (edges demand entered) (edges demand time)) a
  | inr l ↦ or_right asked (nat_lt (edges demand entered) (edges demand time)) (lt-ltb (edges demand entered) (edges demand time) l)
])

-- where the flag is up and the mask down, there is a demand
flag_drives : (w : World) → Ties w → Unheld w → w.bank.flag ≡ true → 0 < demand_at w.back
flag_drives w t unheld up = elim (cases_lt 0 (demand_at w.back)) [
  | inl l ↦ l
  | inr z ↦ absurd (
      let still = rest_still w.core.tick_at w.bank.hi w.bank.lo w.bank.flag w.bank.comm w.core.drive.postponed w.bank.stuck (unheld kind.Tick)
      ((t kind.Tick).4 (omega arith)).rest in
      let z : true ≡ false = sym up ∙ still.no_event in
      cc)
]

-- ---- time goes on

-- with a demand, and where DUTY isn't about to be written, it is the demand
duty_kept : (at : TickAt) (duty demand : ℕ) → 0 < demand → (writes_duty at ≡ true → ⊥) → DutyTied at duty demand → duty ≡ demand
duty_kept (tick.DutyOn start) duty demand l f d = absurd (f refl)
duty_kept (tick.Off at) duty demand l f d = absurd (omega arith)
duty_kept tick.DutyOff duty demand l f d = absurd (omega arith)
duty_kept tick.DriveOff duty demand l f d = d.1
duty_kept tick.Start duty demand l f d = d.1
duty_kept tick.Shut duty demand l f d = d
duty_kept tick.Raise duty demand l f d = d
duty_kept tick.Read duty demand l f d = d
duty_kept tick.Lower duty demand l f d = d
duty_kept tick.Back duty demand l f d = d

flag_later : (at : TickAt) (flag asked : Bool) (duty demand entered t u : ℕ) → t ≤ u → DutyTied at duty demand → FlagTied at flag asked demand entered t
    → FlagTied at (flag || has_edge duty t u) asked demand entered u
flag_later at flag asked duty demand entered t u le d f = record {
  new = f.new;
  asks = λ l e. elim (f.asks l e) [ inl q ↦ inl q | inr q ↦ inr (or_left flag (has_edge duty t u) q) ];
  counted = λ l e c. elim (cases_lt (edges demand entered) (edges demand t)) [
    | inl a ↦ or_left flag (has_edge duty t u) (f.counted l e a)
    | inr b ↦ or_right flag (has_edge duty t u) (
        rw (duty_kept at duty demand l (λ w. (let x = f.new w in cc)) d)
        (rw (lt-ltb 0 demand l, lt-ltb (edges demand t) (edges demand u) (omega arith)) refl))
  ];
  only = λ l e. elim (or_parts flag (has_edge duty t u) e) [
    | inl a ↦ elim (f.only l a) [ inl q ↦ inl q | inr q ↦ inr (let m = edges_grow demand t u le in omega arith) ]
    | inr b ↦ elim (cases_Bool asked) [
      | inl q ↦ inl q
      | inr q ↦ inr (
          let same : duty ≡ demand = duty_kept at duty demand l (λ w. (let x = f.new w in cc)) d in
          let p = and_parts (nat_lt 0 duty) (nat_lt (edges duty t) (edges duty u)) b.1 in
          let more : edges duty t < edges duty u = ltb-true (edges duty t) (edges duty u) p.1 in
          let more' : edges demand t < edges demand u = rw (← same) more in
          let past : edges demand entered ≤ edges demand t = edges_grow demand entered t f.past in
          omega arith)
    ]
  ];
  past = (let p = f.past in omega arith);
}
  where
    edges_grow : (demand t u : ℕ) → t ≤ u → edges demand t ≤ edges demand u
    edges_grow demand t u le = omega arith

pub pwm_law : HandlerLaw kind.Pwm
pwm_law = record {
  called = λ w i s.
      pwm_called w.core.tick_at w.bank.flag (pwm_asked_at w.back) (demand_at w.back) (pwm_entered_at w.back) w.bank.time (i.unheld kind.Tick)
      (i.rest.ties kind.Pwm).1 s;
  asked = λ w i. (
    tt,
    flag_calls w.core.tick_at w.bank.flag (pwm_asked_at w.back) (demand_at w.back) (pwm_entered_at w.back) w.bank.time
        (flag_drives w i.rest.ties i.unheld i.due)
        (i.rest.ties kind.Pwm).1 i.due,
  );
  entered = λ w i. (
    refl,
    record {
      new = λ e. (let z : false ≡ true = sym (duty_written w.core.tick_at (i.unheld kind.Tick)) ∙ e in cc);
      asks = λ l e. cc;
      counted = λ l e c. absurd (omega arith);
      only = λ l e. cc;
      past = omega arith;
    },
  );
  beside = λ w i. elim [
    | kind.Pwm ↦ λ ne. absurd (ne refl)
    | kind.Tick ↦ λ ne. (
      (i.rest.ties kind.Tick).0,
      (i.rest.ties kind.Tick).1,
      (i.rest.ties kind.Tick).2,
      (i.rest.ties kind.Tick).3,
      λ z. absurd (let l = flag_drives w i.rest.ties i.unheld i.due in omega arith),
    )
    | j ↦ λ ne. i.rest.ties j
  ];
  steps = λ w answers outer given i. pwm_steps_preserve w.core.pwm_at w outer (record {
    ground = i.rest.ground;
    ties = i.rest.ties;
    on = i.on;
    place_is = refl;
    comm_is = comm_shut w.core.comm_at w.core.drive.turn.at (i.above kind.Comm (omega arith));
    duty_is = duty_is w.core.tick_at w.bank.duty (demand_at w.back) (i.alone kind.Tick (λ e. cc)) (i.rest.ties kind.Tick).3;
  }) i.left;
  later = λ w u from small i. (
    (i.ties kind.Pwm).0,
    flag_later w.core.tick_at w.bank.flag (pwm_asked_at w.back) w.bank.duty (demand_at w.back) (pwm_entered_at w.back) w.bank.time u from (i.ties kind.Tick).3
        (i.ties kind.Pwm).1,
  );
  outside = λ w e i. i.rest.ties kind.Pwm;
}
