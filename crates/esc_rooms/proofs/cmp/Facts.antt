-- What stands before a step of CMP, and the search's tie after it, by what the step leaves.
use Rattle.std.proofs.Common.{◌≡◌, ◌≤◌, ◌<◌, ◌+◌, ℕ, Bool, true, false, not, Option, sym, ◌∙◌, ap, subst, arith}
use Rattle.esc_base.specs.Trace.{differ}
use Rattle.zero_cross.specs.declared.phase.Phase.{Phase}
use Rattle.zero_cross.specs.declared.phase.Phase.TheVariants as phase
use Rattle.zero_cross.specs.Comparator.{Held, is_steady}
use Rattle.zero_cross.specs.Kept.{Kept, is_expected}
use Rattle.commutation.specs.Commutated.{Turn}
use Rattle.esc_core.specs.declared.state.CmpAt.{CmpAt}
use Rattle.esc_core.specs.declared.state.CmpAt.TheVariants as cmp
use Rattle.esc_core.specs.declared.state.CommAt.TheVariants as comm
use Rattle.esc_laws.specs.Searched.{Sight, Away, Begun, Awaits, First, Settles, Second}
use Rattle.esc_rooms.specs.SeldomTied.{SeldomTied}
use Rattle.esc_rooms.specs.WatchTied.{WatchTied}
use Rattle.esc_rooms.specs.CrossTied.{CrossView, CrossTied, PhaseTied, RegsTied, FirstTied, SecondTied, SightTied, Passes, LateTied, future, is_some, is_shut, begins_search, ends_drive}
use Rattle.esc_rooms.proofs.cmp.CrossFacts.{is_false}

-- ---- what stands before a step of CMP

pub record Stands (v : CrossView) (at : CmpAt) (p : Phase) : Type 0 where
  pub phase_is : PhaseTied p v.turn v.changed v.held.since v.blanked v.time v.past
  pub regs : RegsTied at p v.timer v.enabled v.time
  pub few : v.quiet v.held.since + future at p (is_some v.timer) v.changed (is_expected v.search v.level) ≤ 3
  pub seen : SightTied v.sight at p v.held v.expects v.blanked v.time v.past
  pub late : LateTied at p v.postponed
  pub seldom : SeldomTied at p v.time v.entries v.looks
  pub watch : WatchTied at p v.changed (is_expected v.search v.level) v.looking v.looked v.time v.past

-- and that COMM is shut, and TICK doesn't end the drive
pub record Free (v : CrossView) : Type 0 where
  pub closed : v.comm_at ≡ comm.Shut
  pub no_search : begins_search v.comm_at v.turn_at ≡ false
  pub goes : ends_drive v.tick_at ≡ false
  pub past : v.past ≤ v.time
  pub since : v.held.since ≤ v.time

pub stands : (v : CrossView) (at : CmpAt) (p : Phase) → v.cmp_at ≡ at → v.search.phase ≡ p → Free v → CrossTied v → Stands v at p
stands v at p e f free t =
    subst (λ (a : CmpAt). Stands v a p) e (subst (λ (x : Phase). Stands v v.cmp_at x) f (record {
      phase_is = t.phase_is;
      regs = t.regs free.no_search free.goes;
      few = t.few;
      seen = t.seen;
      late = t.late;
      seldom = t.seldom;
      watch = t.watch;
    }))

-- what a step leaves: another place, and what it has changed of the search and of the registers
abbrev pub cmp_view : CrossView → CmpAt → Kept → Bool → Bool → Option ℕ → CrossView
cmp_view v at search changed enabled timer =
    record v { cmp_at = at; search = search; changed = changed; enabled = enabled; timer = timer; past = v.time + 1 }

pub record Moves (v : CrossView) (at : CmpAt) (search : Kept) (changed enabled : Bool) (timer : Option ℕ) : Type 0 where
  pub open_still : is_shut at ≡ false
  pub expects_is : search.expects ≡ v.search.expects
  pub phase_is : PhaseTied search.phase v.turn changed v.held.since v.blanked v.time (v.time + 1)
  pub regs : RegsTied at search.phase timer enabled v.time
  pub few : v.quiet v.held.since + future at search.phase (is_some timer) changed (is_expected search v.level) ≤ 3
  pub seen : SightTied v.sight at search.phase v.held v.expects v.blanked v.time (v.time + 1)
  pub late : LateTied at search.phase v.postponed
  pub seldom : SeldomTied at search.phase v.time v.entries v.looks
  pub watch : WatchTied at search.phase changed (is_expected search v.level) v.looking v.looked v.time (v.time + 1)

pub cmp_moves : (v : CrossView) (at : CmpAt) (search : Kept) (changed enabled : Bool) (timer : Option ℕ) → is_shut v.cmp_at ≡ false → Free v → CrossTied v
    → Moves v at search changed enabled timer → CrossTied (cmp_view v at search changed enabled timer)
cmp_moves v at search changed enabled timer was free t m = record {
  pace_is = t.pace_is;
  advance_is = t.advance_is;
  expects_is = m.expects_is ∙ t.expects_is;
  level_is = t.level_is;
  open_is = t.open_is ∙ ap not (was ∙ sym m.open_still);
  phase_is = m.phase_is;
  begins = λ e. absurd (is_false _ free.no_search e);
  ends = λ e. absurd (is_false _ free.goes e);
  regs = λ b e. m.regs;
  below = λ since l. t.below since (let p = free.past in omega arith);
  few = m.few;
  seen = m.seen;
  begun = t.begun;
  late = m.late;
  seldom = m.seldom;
  watch = m.watch;
}

-- ---- what goes on as it is

pub phase_more : (p : Phase) (turn : Turn) (changed : Bool) (since blanked time past past' : ℕ) → past ≤ past'
    → PhaseTied p turn changed since blanked time past
    → PhaseTied p turn changed since blanked time past'
phase_more phase.Off turn changed since blanked time past past' l t = t
phase_more (phase.Blank end) turn changed since blanked time past past' l t = t
phase_more phase.Watch turn changed since blanked time past past' l t = t
phase_more (phase.Filter end) turn changed since blanked time past past' l t = (
  t.0,
  record { begun = t.1.begun; end_is = t.1.end_is; below = (let a = t.1.below in omega arith); bit = t.1.bit; after = t.1.after },
)
phase_more phase.Done turn changed since blanked time past past' l t = t

pub passes_more : (p : Phase) (i u u' : ℕ) → u ≤ u' → Passes p i u → Passes p i u'
passes_more phase.Off i u u' l x = x
passes_more (phase.Blank end) i u u' l x = x
passes_more phase.Watch i u u' l x = x
passes_more (phase.Filter end) i u u' l x = ((let a = x.0 in omega arith), x.1)
passes_more phase.Done i u u' l x = x

-- the activation that is open stays the first or the second
pub seen_moves : (s : Sight) (at at' : CmpAt) (p p' : Phase) (h : Held) (expects : Bool) (blanked time past past' : ℕ) → past ≤ past' → is_shut at ≡ false
    → ((i : ℕ) → i < past → FirstTied at p (is_steady h expects i) i time past → FirstTied at' p' (is_steady h expects i) i time past')
    → ((i : ℕ) (z : Bool) → i < past → SecondTied at p (is_steady h expects i) i z time → SecondTied at' p' (is_steady h expects i) i z time)
    → SightTied s at p h expects blanked time past → SightTied s at' p' h expects blanked time past'
seen_moves Away at at' p p' h expects blanked time past past' l was first second s = tt
seen_moves Begun at at' p p' h expects blanked time past past' l was first second s = absurd (shut_not at was s.0)
  where
    shut_not : (at : CmpAt) → is_shut at ≡ false → at ≡ cmp.Shut → ⊥
    shut_not at was e = let z : true ≡ false = subst (λ (a : CmpAt). is_shut a ≡ false) e was in cc
seen_moves (Awaits u) at at' p p' h expects blanked time past past' l was first second s =
    absurd (let z : true ≡ false = subst (λ (a : CmpAt). is_shut a ≡ false) s.0 was in cc)
seen_moves (First i) at at' p p' h expects blanked time past past' l was first second s = ((let a = s.0 in omega arith), first i s.0 s.1)
seen_moves (Settles i u) at at' p p' h expects blanked time past past' l was first second s =
    absurd (let z : true ≡ false = subst (λ (a : CmpAt). is_shut a ≡ false) s.1 was in cc)
seen_moves (Second i z) at at' p p' h expects blanked time past past' l was first second s = ((let a = s.0 in omega arith), second i z s.0 s.1)

-- ---- a step, by the phase that it leaves

pub record Goes (v : CrossView) (at : CmpAt) (p : Phase) (changed enabled : Bool) (timer : Option ℕ) : Type 0 where
  pub open_still : is_shut at ≡ false
  pub phase_is : PhaseTied p v.turn changed v.held.since v.blanked v.time (v.time + 1)
  pub regs : RegsTied at p timer enabled v.time
  pub few : v.quiet v.held.since + future at p (is_some timer) changed (is_expected v.search v.level) ≤ 3
  pub seen : SightTied v.sight at p v.held v.expects v.blanked v.time (v.time + 1)
  pub late : LateTied at p v.postponed
  pub seldom : SeldomTied at p v.time v.entries v.looks
  pub watch : WatchTied at p changed (is_expected v.search v.level) v.looking v.looked v.time (v.time + 1)

pub moves_by_phase : (v : CrossView) (at : CmpAt) (p : Phase) (search : Kept) (changed enabled : Bool) (timer : Option ℕ) → search.phase ≡ p
    → search.expects ≡ v.search.expects → Goes v at p changed enabled timer → Moves v at search changed enabled timer
moves_by_phase v at p search changed enabled timer e f g = record {
  open_still = g.open_still;
  expects_is = f;
  phase_is = subst (λ (x : Phase). PhaseTied x v.turn changed v.held.since v.blanked v.time (v.time + 1)) (sym e) g.phase_is;
  regs = subst (λ (x : Phase). RegsTied at x timer enabled v.time) (sym e) g.regs;
  few = subst (λ (x : Phase). v.quiet v.held.since + future at x (is_some timer) changed (is_expected search v.level) ≤ 3) (sym e)
      (subst (λ (x : Bool). v.quiet v.held.since + future at p (is_some timer) changed (not (differ v.level x)) ≤ 3) (sym f) g.few);
  seen = subst (λ (x : Phase). SightTied v.sight at x v.held v.expects v.blanked v.time (v.time + 1)) (sym e) g.seen;
  late = subst (λ (x : Phase). LateTied at x v.postponed) (sym e) g.late;
  seldom = subst (λ (x : Phase). SeldomTied at x v.time v.entries v.looks) (sym e) g.seldom;
  watch = subst (λ (x : Phase). WatchTied at x changed (is_expected search v.level) v.looking v.looked v.time (v.time + 1)) (sym e)
      (subst (λ (x : Bool). WatchTied at p changed (not (differ v.level x)) v.looking v.looked v.time (v.time + 1)) (sym f) g.watch);
}
