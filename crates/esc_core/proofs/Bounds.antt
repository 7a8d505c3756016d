-- How far each step of the core takes its activation, and what it does to the mask.
use Rattle.std.proofs.Common.{◌≡◌, ◌≢◌, ◌<◌, ℕ, true, false, List, [], ◌∷◌, refl, arith, ◌≤◌, sym, ◌∙◌, subst, lit≤, inl, inr}
use Rattle.esc_base.specs.declared.kind.Kind.{Kind}
use Rattle.esc_base.specs.declared.kind.Kind.TheVariants as kind
use Rattle.timer_regs.specs.Bank.{Bank}
use Rattle.interrupt_machine.specs.Did.{accessed, IsMore, IsReturn, MakesOneAccess}
use Rattle.gate_driver.specs.declared.chop.Chop.TheVariants as chop
use Rattle.esc_core.specs.declared.state.TickAt.{TickAt}
use Rattle.esc_core.specs.declared.state.TickAt.TheVariants as tick
use Rattle.esc_core.specs.declared.state.PwmAt.{PwmAt}
use Rattle.esc_core.specs.declared.state.PwmAt.TheVariants as pwm
use Rattle.esc_core.specs.declared.state.CmpAt.{CmpAt}
use Rattle.esc_core.specs.declared.state.CmpAt.TheVariants as cmp
use Rattle.esc_core.specs.Uart.{uart_step}
use Rattle.esc_core.specs.declared.state.MainAt.{MainAt}
use Rattle.esc_core.specs.declared.state.MainAt.TheVariants as main
use Rattle.esc_core.specs.Brain.{Brain}
use Rattle.esc_core.specs.Stepped.{Stepped, IsStepped, is_return}
use Rattle.esc_core.specs.Cap.{cap_step}
use Rattle.esc_core.specs.Tick.{tick_step}
use Rattle.esc_core.specs.Pwm.{pwm_step}
use Rattle.esc_core.specs.Cmp.{cmp_step}
use Rattle.esc_core.specs.Comm.{comm_step}
use Rattle.esc_core.specs.Calls.{Answer, Call, CallDid, DeviceDid}
use Rattle.esc_core.specs.Background.{main_step, main_asked}
use Rattle.esc_core.specs.Firmware.{tick_left, pwm_left, cmp_left, left_of, need_of, tick_need, pwm_need, cmp_need, shut, kind_step, kind_asked, counted_down, is_stray, stray_step, core_step, core_asked}
use Rattle.std.proofs.lemmas.Bool.{true≢false, cases_Bool}
use Rattle.esc_base.specs.Flash.{Told}
use Rattle.interrupt_machine.specs.declared.firmware.Did.{Did}
use Rattle.interrupt_machine.specs.declared.firmware.Did.TheVariants.{More, Return}
use Rattle.esc_core.proofs.Moves.{Moves, PlainMoves}
use Rattle.esc_core.proofs.Masks.{Masks, no_mask, counted_most}
use Rattle.esc_core.proofs.progress.Cap.{cap_moves}
use Rattle.esc_core.proofs.progress.Comm.{comm_moves}
use Rattle.esc_core.proofs.progress.Main.{main_moves}
use Rattle.esc_core.proofs.progress.Uart.{uart_moves}
use Rattle.esc_core.proofs.progress.Tick.{tick_moves, tick_masks}
use Rattle.esc_core.proofs.progress.Pwm.{pwm_moves, pwm_masks}
use Rattle.esc_core.proofs.progress.Cmp.{cmp_moves, cmp_masks}

-- ---- any kind

pub record Bounds (k : Kind) (c : Brain) (b : Bank) (s : Stepped) : Type 0 where
  pub moves : Moves k (left_of c k) c s
  pub mask : Masks k (need_of c k) c.hold b s

pub core_step-stray : (k : Kind) (answers : List Answer) (c : Brain) (b : Bank) → is_stray k c b ≡ true → core_step k answers c b ≡ stray_step k c
unfolding core_step
core_step-stray k answers c b e = rw e refl

pub core_step-goes : (k : Kind) (answers : List Answer) (c : Brain) (b : Bank) → is_stray k c b ≡ false
    → core_step k answers c b ≡ kind_step k answers (counted_down c b) b
unfolding core_step
core_step-goes k answers c b e = rw e refl

-- a stray step leaves the flash
pub core_asked-stray : (k : Kind) (c : Brain) (b : Bank) (answers : List Answer) → is_stray k c b ≡ true → core_asked k c b answers ≡ []
unfolding core_asked
core_asked-stray k c b answers e = rw e refl

pub core_asked-goes : (k : Kind) (c : Brain) (b : Bank) (answers : List Answer) → is_stray k c b ≡ false → core_asked k c b answers ≡ kind_asked k c answers
unfolding core_asked
core_asked-goes k c b answers e = rw e refl

counted_main : (at : MainAt) (c : Brain) (b : Bank) (answers : List Answer) → main_asked at (counted_down c b) answers ≡ main_asked at c answers
counted_main main.Shut c b answers = refl
counted_main main.Work c b answers = refl
counted_main main.Back c b answers = refl

-- counting a masked step leaves what is asked of the flash
pub counted_asked : (k : Kind) (c : Brain) (b : Bank) (answers : List Answer) → kind_asked k (counted_down c b) answers ≡ kind_asked k c answers
counted_asked kind.Main c b answers = counted_main c.main_at c b answers
counted_asked k c b answers = refl

-- a step that asked for nothing left the flash
pub none_asked : (answers : List Answer) (before after : Told) → DeviceDid [] answers before after → after ≡ before
none_asked [] before after d = d
none_asked (a ∷ answers) before after d = absurd d

-- and one that asked for one call got one answer
pub one_asked : (call : Call) (answers : List Answer) (before after : Told) → DeviceDid (call ∷ []) answers before after
    → (a : Answer) × (answers ≡ a ∷ []) × CallDid call a before after
one_asked call [] before after d = absurd d
one_asked call (a ∷ []) before after d = (a, refl, subst (λ (x : Told). CallDid call a before x) (sym d.2) d.1)
one_asked call (a ∷ x ∷ answers) before after d = absurd d.2

shut_left : (k : Kind) (c : Brain) → left_of (shut c k) k ≡ 0
shut_left kind.Main c = refl
shut_left k c = refl

-- a handler's place is its own
shut_others : (k : Kind) (c : Brain) (j : Kind) → j ≢ k → (left_of (shut c k) j ≡ left_of c j) × (need_of (shut c k) j ≡ need_of c j)
shut_others kind.Main c = elim [ kind.Main ↦ λ ne. absurd (ne refl) | j ↦ λ ne. (refl, refl) ]
shut_others kind.Uart c = elim [ kind.Uart ↦ λ ne. absurd (ne refl) | j ↦ λ ne. (refl, refl) ]
shut_others kind.Tick c = elim [ kind.Tick ↦ λ ne. absurd (ne refl) | j ↦ λ ne. (refl, refl) ]
shut_others kind.Cap c = elim [ kind.Cap ↦ λ ne. absurd (ne refl) | j ↦ λ ne. (refl, refl) ]
shut_others kind.Cmp c = elim [ kind.Cmp ↦ λ ne. absurd (ne refl) | j ↦ λ ne. (refl, refl) ]
shut_others kind.Pwm c = elim [ kind.Pwm ↦ λ ne. absurd (ne refl) | j ↦ λ ne. (refl, refl) ]
shut_others kind.Comm c = elim [ kind.Comm ↦ λ ne. absurd (ne refl) | j ↦ λ ne. (refl, refl) ]

shut_hold : (k : Kind) (c : Brain) → (shut c k).hold ≡ c.hold
shut_hold kind.Main c = refl
shut_hold k c = refl

-- a handler that returns at once
shut_moves : (k : Kind) (c : Brain) (s : Stepped) → s.core ≡ shut c k → s.over ≡ true → 0 < left_of c k → Moves k (left_of c k) c s
shut_moves k c s e over l = record {
  less = rw (e, shut_left k c) l;
  more = λ goes. absurd (true≢false (sym over ∙ goes));
  shut = λ o. rw e (shut_left k c);
  others = λ j ne. rw e (shut_others k c j ne);
}

-- each place needs the mask for a step at least
pub need_some : (k : Kind) (c : Brain) → 1 ≤ need_of c k
need_some kind.Tick c = tick_some c.tick_at
  where
    tick_some : (at : TickAt) → 1 ≤ tick_need at
    tick_some (tick.Off at) = omega arith
    tick_some at = lit≤ tt
need_some kind.Pwm c = pwm_some c.pwm_at
  where
    pwm_some : (at : PwmAt) → 1 ≤ pwm_need at
    pwm_some (pwm.Run chop.Raise) = lit≤ tt
    pwm_some at = lit≤ tt
need_some kind.Cmp c = cmp_some c.cmp_at
  where
    cmp_some : (at : CmpAt) → 1 ≤ cmp_need at
    cmp_some cmp.Raise = lit≤ tt
    cmp_some at = lit≤ tt
need_some k c = lit≤ tt

shut_need : (k : Kind) (c : Brain) → need_of (shut c k) k ≡ 9
shut_need kind.Tick c = refl
shut_need kind.Pwm c = refl
shut_need kind.Cmp c = refl
shut_need k c = refl

stray_bounds : (k : Kind) (c : Brain) (b : Bank) → 0 < left_of c k → c.hold ≤ 8 → Bounds k c b (stray_step k c)
stray_bounds k c b l le = record {
  moves = shut_moves k c (stray_step k c) refl refl l;
  mask = record {
    most = rw (shut_hold k c) le;
    enough = λ m. cc;
    less = λ m m'. cc;
    stands = λ f n. absurd (let nine = shut_need k c in omega arith);
  };
}

-- counting a masked step leaves the places
counted_left : (j : Kind) (c : Brain) (b : Bank) → left_of (counted_down c b) j ≡ left_of c j
counted_left kind.Main c b = refl
counted_left j c b = refl

counted_need : (j : Kind) (c : Brain) (b : Bank) → need_of (counted_down c b) j ≡ need_of c j
counted_need kind.Main c b = refl
counted_need j c b = refl

counted_moves : (k : Kind) (left : ℕ) (c : Brain) (b : Bank) (s : Stepped) → Moves k left (counted_down c b) s → Moves k left c s
counted_moves k left c b s m = record {
  less = m.less;
  more = m.more;
  shut = m.shut;
  others = λ j ne. ((m.others j ne).0 ∙ counted_left j c b, (m.others j ne).1 ∙ counted_need j c b);
}

-- a handler that never stands under the mask, and leaves it
plain_bounds : (k : Kind) (c : Brain) (b : Bank) (s : Stepped) → need_of c k ≡ 9 → need_of s.core k ≡ 9 → c.hold ≤ 8 → is_stray k c b ≡ false
    → PlainMoves k (left_of c k) (counted_down c b) b s → Bounds k c b s
plain_bounds k c b s nine still le e p =
    let down = no_mask b.masked c.hold (need_of c k) nine le e in
    record {
      moves = counted_moves k (left_of c k) c b s p.moves;
      mask = record {
        most = rw p.hold (counted_most b.masked c.hold le);
        enough = λ m. (let z : false ≡ true = sym down ∙ sym p.masked ∙ m in cc);
        less = λ m m'. absurd (let z : false ≡ true = sym down ∙ m in cc);
        stands = λ f n. absurd (let nine' = still in omega arith);
      };
    }

pub goes_bounds : (k : Kind) (answers : List Answer) (c : Brain) (b : Bank) → 0 < left_of c k → c.hold ≤ 8 → is_stray k c b ≡ false
    → Bounds k c b (kind_step k answers (counted_down c b) b)
goes_bounds kind.Tick answers c b l le e = record {
  moves = counted_moves kind.Tick (tick_left c.tick_at) c b (tick_step c.tick_at (counted_down c b) b) (tick_moves c.tick_at (counted_down c b) b l);
  mask = tick_masks c.tick_at c b l le e;
}
goes_bounds kind.Cap answers c b l le e =
    plain_bounds kind.Cap c b (cap_step c.cap_at (counted_down c b) b) refl refl le e (cap_moves c.cap_at (counted_down c b) b l)
goes_bounds kind.Pwm answers c b l le e = record {
  moves = counted_moves kind.Pwm (pwm_left c.pwm_at) c b (pwm_step c.pwm_at (counted_down c b) b) (pwm_moves c.pwm_at (counted_down c b) b l);
  mask = pwm_masks c.pwm_at c b l le e;
}
goes_bounds kind.Cmp answers c b l le e = record {
  moves = counted_moves kind.Cmp (cmp_left c.cmp_at) c b (cmp_step c.cmp_at (counted_down c b) b) (cmp_moves c.cmp_at (counted_down c b) b l);
  mask = cmp_masks c.cmp_at c b l le e;
}
goes_bounds kind.Comm answers c b l le e =
    plain_bounds kind.Comm c b (comm_step c.comm_at (counted_down c b) b) refl refl le e (comm_moves c.comm_at (counted_down c b) b l)
goes_bounds kind.Main answers c b l le e =
    plain_bounds kind.Main c b (main_step answers c.main_at (counted_down c b) b) refl refl le e (main_moves c.main_at answers (counted_down c b) b l)
goes_bounds kind.Uart answers c b l le e =
    plain_bounds kind.Uart c b (uart_step c.uart_at (counted_down c b) b) refl refl le e (uart_moves c.uart_at (counted_down c b) b l)

-- each step of the core, in every state
bounds : (k : Kind) (answers : List Answer) (c : Brain) (b : Bank) → 0 < left_of c k → c.hold ≤ 8 → Bounds k c b (core_step k answers c b)
bounds k answers c b l le = elim (cases_Bool (is_stray k c b)) [
  | inl s ↦ rw (core_step-stray k answers c b s) (stray_bounds k c b l le)
  | inr g ↦ rw (core_step-goes k answers c b g) (goes_bounds k answers c b l le g)
]

-- the mask is down after a return
pub mask_down : (k : Kind) (need hold : ℕ) (b : Bank) (s : Stepped) → Masks k need hold b s → s.over ≡ true → (accessed b s.access).masked ≡ false
mask_down k need hold b s m o = elim (cases_Bool (accessed b s.access).masked) [
  | inl up ↦ absurd (true≢false (sym o ∙ (m.enough up).1))
  | inr down ↦ down
]

-- ---- the step as the firmware's trait asks for it

pub record Keeps (k : Kind) (c : Brain) (b : Bank) (did : Did) (c' : Brain) (b' : Bank) : Type 0 where
  pub less : left_of c' k < left_of c k
  pub others : (j : Kind) → j ≢ k → left_of c' j ≡ left_of c j
  pub more : IsMore did → 0 < left_of c' k
  pub back : IsReturn did → b'.masked ≡ false
  pub mask_some : b'.masked ≡ true → 1 ≤ c'.hold
  pub mask_most : b'.masked ≡ true → c'.hold ≤ 8
  pub mask_less : b.masked ≡ true → b'.masked ≡ true → c'.hold < c.hold
  pub access : MakesOneAccess b b'

not_over : (did : Did) → IsMore did → is_return did ≡ false
not_over (More own) m = refl
not_over (Return own) m = absurd m

is_over : (did : Did) → IsReturn did → is_return did ≡ true
is_over (More own) r = absurd r
is_over (Return own) r = refl

pub keeps : (k : Kind) (answers : List Answer) (c : Brain) (b : Bank) (did : Did) (c' : Brain) (b' : Bank) → 0 < left_of c k → c.hold ≤ 8
    → IsStepped b (core_step k answers c b) did c' b' → Keeps k c b did c' b'
keeps k answers c b did c' b' l le i =
    let s : Stepped = core_step k answers c b in
    let n : Bounds k c b s = bounds k answers c b l le in
    record {
      less = rw i.core_is n.moves.less;
      others = λ j ne. rw i.core_is (n.moves.others j ne).0;
      more = λ m. rw i.core_is (n.moves.more (sym i.over_is ∙ not_over did m));
      back = λ r. rw i.bank_is (mask_down k (need_of c k) c.hold b s n.mask (sym i.over_is ∙ is_over did r));
      mask_some = rw (i.core_is, i.bank_is) (λ m. let e = (n.mask.enough m).0 in let some = need_some k s.core in omega arith);
      mask_most = rw i.core_is (λ m. n.mask.most);
      mask_less = rw (i.core_is, i.bank_is) n.mask.less;
      access = record { access = s.access; after_is = i.bank_is };
    }
