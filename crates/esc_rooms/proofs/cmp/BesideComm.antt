-- The search for a crossing beside a step of COMM.
use Rattle.std.proofs.Common.{◌≡◌, ◌≢◌, ◌≤◌, inl, ℕ, Bool, true, false, not, if◌then◌else◌, Some, refl, sym, ◌∙◌, arith, ◌+◌, List, [], None}
use Rattle.esc_base.specs.Numbers.{as_tick}
use Rattle.zero_cross.specs.declared.phase.Phase.{Phase}
use Rattle.zero_cross.specs.declared.phase.Phase.TheVariants as phase
use Rattle.zero_cross.specs.Comparator.{Held}
use Rattle.zero_cross.specs.Kept.{Kept, is_expected}
use Rattle.commutation.specs.Commutated.{Turned}
use Rattle.gate_driver.specs.declared.to_sector.ChangeAt.{ChangeAt}
use Rattle.esc_core.specs.declared.state.CmpAt.{CmpAt}
use Rattle.esc_core.specs.declared.state.CmpAt.TheVariants as cmp
use Rattle.esc_core.specs.declared.state.CommAt.{CommAt}
use Rattle.esc_core.specs.declared.state.CommAt.TheVariants as comm
use Rattle.esc_laws.specs.Searched.{Sight, Away, Begun, Awaits, First, Settles, Second, sight_begun}
use Rattle.esc_base.specs.Times.{least_blanking, rejected_blanking}
use Rattle.esc_rooms.specs.WatchTied.{WatchAt, WatchTied}
use Rattle.esc_rooms.specs.SeldomTied.{Newest, PaceTied, SeldomTied}
use Rattle.esc_rooms.proofs.cmp.Seldom.{past_all}
use Rattle.esc_rooms.specs.CrossTied.{CrossView, CrossTied, PhaseTied, RegsTied, IsEarly, SightTied, LateTied, future, is_some, is_shut, is_begun, begins_search, ends_drive}
use Rattle.esc_rooms.proofs.cmp.CrossFacts.{cmp_masks, is_false}

-- ---- COMM at another place

abbrev pub cross_moved : CrossView → CommAt → ChangeAt → Bool → CrossView
cross_moved v place at postponed = record v { comm_at = place; turn_at = at; postponed = postponed }

pub moved_cross : (v : CrossView) (place : CommAt) (at : ChangeAt) (postponed : Bool) → begins_search place at ≡ begins_search v.comm_at v.turn_at
    → place ≢ comm.Shut → LateTied v.cmp_at v.search.phase postponed → CrossTied v → CrossTied (cross_moved v place at postponed)
moved_cross v place at postponed same stays late t = record {
  pace_is = t.pace_is;
  advance_is = t.advance_is;
  expects_is = t.expects_is;
  level_is = t.level_is;
  open_is = t.open_is;
  phase_is = t.phase_is;
  begins = λ e. t.begins (sym same ∙ e);
  ends = t.ends;
  regs = λ b e. t.regs (sym same ∙ b) e;
  below = t.below;
  few = t.few;
  seen = t.seen;
  begun = λ e. absurd (stays e);
  late = late;
  seldom = t.seldom;
  watch = t.watch;
}

pub prompt_late : (at : CmpAt) (p : Phase) → LateTied at p false
prompt_late cmp.Raise (phase.Filter end) = refl
prompt_late cmp.Look (phase.Filter end) = refl
prompt_late cmp.Raise phase.Off = tt
prompt_late cmp.Raise (phase.Blank end) = tt
prompt_late cmp.Raise phase.Watch = tt
prompt_late cmp.Raise phase.Done = tt
prompt_late cmp.Look phase.Off = tt
prompt_late cmp.Look (phase.Blank end) = tt
prompt_late cmp.Look phase.Watch = tt
prompt_late cmp.Look phase.Done = tt
prompt_late cmp.Shut p = tt
prompt_late cmp.Read p = tt
prompt_late cmp.Ack p = tt
prompt_late cmp.Arm p = tt
prompt_late cmp.Commute p = tt
prompt_late cmp.Lower p = tt
prompt_late cmp.Back p = tt

-- in Blank a low switch may be postponed
pub late_blank : (at : CmpAt) (p : Phase) (postponed : Bool) (blanked : ℕ) → p ≡ phase.Blank (as_tick blanked) → LateTied at p postponed
late_blank cmp.Raise phase.Off postponed blanked e = tt
late_blank cmp.Raise (phase.Blank end) postponed blanked e = tt
late_blank cmp.Raise phase.Watch postponed blanked e = tt
late_blank cmp.Raise phase.Done postponed blanked e = tt
late_blank cmp.Raise (phase.Filter end) postponed blanked e = cc
late_blank cmp.Look phase.Off postponed blanked e = tt
late_blank cmp.Look (phase.Blank end) postponed blanked e = tt
late_blank cmp.Look phase.Watch postponed blanked e = tt
late_blank cmp.Look phase.Done postponed blanked e = tt
late_blank cmp.Look (phase.Filter end) postponed blanked e = cc
late_blank cmp.Shut p postponed blanked e = tt
late_blank cmp.Read p postponed blanked e = tt
late_blank cmp.Ack p postponed blanked e = tt
late_blank cmp.Arm p postponed blanked e = tt
late_blank cmp.Commute p postponed blanked e = tt
late_blank cmp.Lower p postponed blanked e = tt
late_blank cmp.Back p postponed blanked e = tt

-- ---- the Q: what CMP has under way is over, whatever its place; its tie holds at the new phase

abbrev pub cross_turned : CrossView → CommAt → ChangeAt → Kept → ℕ → ℕ → Bool → (ℕ → ℕ) → CrossView
cross_turned v place at search q blanked expects quiet = record v {
  comm_at = place;
  turn_at = at;
  search = search;
  turn = Turned q;
  blanked = blanked;
  expects = expects;
  sight = if v.told_open then Away else Begun;
  quiet = quiet;
  looks = [];
  looking = false;
  looked = None;
}

shut_by : (at : CmpAt) → false ≡ not (is_shut at) → at ≡ cmp.Shut
shut_by cmp.Shut e = refl
shut_by at e = cc

early_new : (o : Bool) → IsEarly (if o then Away else Begun)
early_new true = tt
early_new false = tt

seen_new : (o : Bool) (at : CmpAt) (p : Phase) (h : Held) (expects : Bool) (blanked time past : ℕ) → o ≡ not (is_shut at) → p ≡ phase.Blank (as_tick blanked)
    → SightTied (if o then Away else Begun) at p h expects blanked time past
seen_new true at p h expects blanked time past o e = tt
seen_new false at p h expects blanked time past o e = (shut_by at o, e)

blank_most : (at : CmpAt) (p : Phase) (armed changed expected : Bool) (blanked : ℕ) → cmp_masks at ≡ false → p ≡ phase.Blank (as_tick blanked)
    → future at p armed changed expected ≤ 3
blank_most at p armed changed expected blanked m e = rw e (by_place at armed expected m)
  where
    by_place : (at : CmpAt) (armed expected : Bool) → cmp_masks at ≡ false → future at (phase.Blank (as_tick blanked)) armed changed expected ≤ 3
    by_place cmp.Shut armed true m = omega arith
    by_place cmp.Shut armed false m = omega arith
    by_place cmp.Back armed true m = omega arith
    by_place cmp.Back armed false m = omega arith
    by_place cmp.Raise true expected m = omega arith
    by_place cmp.Raise false true m = omega arith
    by_place cmp.Raise false false m = omega arith
    by_place at armed expected m = cc

phase_new : (p : Phase) (q : ℕ) (changed : Bool) (since blanked time past : ℕ) → p ≡ phase.Blank (as_tick blanked)
    → PhaseTied p (Turned q) changed since blanked time past
phase_new (phase.Blank end) q changed since blanked time past e = (tt, end_of end e)
  where
    end_of : (end : _) → phase.Blank end ≡ phase.Blank (as_tick blanked) → blanked ≤ end.0
    end_of end e = (let s : end ≡ as_tick blanked = cc in rw s (omega arith))
phase_new p q changed since blanked time past e = cc

-- no activation was entered since the Q
watch_turned : (at : CmpAt) (p : Phase) (changed expected : Bool) (time past blanked : ℕ) → cmp_masks at ≡ false → p ≡ phase.Blank (as_tick blanked)
    → WatchTied at p changed expected false None time past
watch_turned at p changed expected time past blanked free e = record { heard = by_place at free; none = λ o l. refl }
  where
    by_place : (at : CmpAt) → cmp_masks at ≡ false → WatchAt at p changed expected false None time past
    by_place cmp.Shut free = λ o l. cc
    by_place cmp.Back free = λ l. cc
    by_place cmp.Raise free = λ l. cc
    by_place at free = cc

-- how seldom CMP comes: no entry stands since the Q
seldom_turned : (at : CmpAt) (p p' : Phase) (now blanked : ℕ) (entries looks : List ℕ) → cmp_masks at ≡ false → p' ≡ phase.Blank (as_tick blanked)
    → now + least_blanking ≤ blanked → SeldomTied at p now entries looks → SeldomTied at p' now entries []
seldom_turned at p p' now blanked entries looks free blank long s = record {
  ordered = s.ordered;
  ordered_since = tt;
  all = rw blank (by_place least_blanking at entries free s.ordered long);
  since_turn = rw blank (by_place_none at free);
}
  where
    by_place : (gap : ℕ) (at : CmpAt) (l : List ℕ) → cmp_masks at ≡ false → Newest now l → now + gap ≤ blanked
        → PaceTied gap at (phase.Blank (as_tick blanked)) now l
    by_place gap cmp.Shut l free o long = past_all gap l now blanked o long
    by_place gap cmp.Back l free o long = past_all gap l now blanked o long
    by_place gap cmp.Raise l free o long = inl (past_all gap l now blanked o long)
    by_place gap at l free o long = cc

    by_place_none : (at : CmpAt) → cmp_masks at ≡ false → PaceTied rejected_blanking at (phase.Blank (as_tick blanked)) now []
    by_place_none cmp.Shut free = tt
    by_place_none cmp.Back free = tt
    by_place_none cmp.Raise free = inl tt
    by_place_none at free = cc

pub turned_cross : (v : CrossView) (place : CommAt) (at : ChangeAt) (search : Kept) (q blanked : ℕ) (expects : Bool) (quiet : ℕ → ℕ)
    → begins_search place at ≡ true → place ≢ comm.Shut → cmp_masks v.cmp_at ≡ false → ends_drive v.tick_at ≡ false
    → search.phase ≡ phase.Blank (as_tick blanked) → search.expects ≡ expects → ((since : ℕ) → quiet since ≡ 0) → v.time + least_blanking ≤ blanked
    → CrossTied v → CrossTied (cross_turned v place at search q blanked expects quiet)
turned_cross v place at search q blanked expects quiet is stays free goes blank level none long t = record {
  pace_is = t.pace_is;
  advance_is = t.advance_is;
  expects_is = level;
  level_is = t.level_is;
  open_is = t.open_is;
  phase_is = phase_new search.phase q v.changed v.held.since blanked v.time v.past blank;
  begins = λ e. record { blank = blank; early = early_new v.told_open; none = none; unlooked = refl };
  ends = λ e. absurd (is_false _ goes e);
  regs = λ b e. absurd (is_false _ b is);
  below = λ since l. none since;
  few = (
      let n : quiet v.held.since ≡ 0 = none v.held.since in
      let m : future v.cmp_at search.phase (is_some v.timer) v.changed (is_expected search v.level) ≤ 3 =
      blank_most v.cmp_at search.phase (is_some v.timer) v.changed _ blanked free blank in
      omega arith);
  seen = seen_new v.told_open v.cmp_at search.phase v.held expects blanked v.time v.past t.open_is blank;
  begun = λ e. absurd (stays e);
  late = late_blank v.cmp_at search.phase v.postponed blanked blank;
  seldom = seldom_turned v.cmp_at v.search.phase search.phase v.time blanked v.entries v.looks free blank long t.seldom;
  watch = watch_turned v.cmp_at search.phase v.changed _ v.time v.past blanked free blank;
}

-- ---- the crossing timer is armed for the end of blanking

abbrev pub cross_armed : CrossView → CommAt → CrossView
cross_armed v place = record v { comm_at = place; timer = Some v.blanked; enabled = false }

armed_regs : (at : CmpAt) (p : Phase) (blanked time : ℕ) → cmp_masks at ≡ false → p ≡ phase.Blank (as_tick blanked) → RegsTied at p (Some blanked) false time
armed_regs at p blanked time m e = rw e (by_place at m)
  where
    by_place : (at : CmpAt) → cmp_masks at ≡ false → RegsTied at (phase.Blank (as_tick blanked)) (Some blanked) false time
    by_place cmp.Shut m = (refl, refl)
    by_place cmp.Back m = (refl, refl)
    by_place cmp.Raise m = (inl refl, refl)
    by_place at m = cc

pub armed_cross : (v : CrossView) (place : CommAt) → begins_search v.comm_at v.turn_at ≡ true → begins_search place v.turn_at ≡ false → place ≢ comm.Shut
    → cmp_masks v.cmp_at ≡ false → CrossTied v → CrossTied (cross_armed v place)
armed_cross v place was is stays free t =
    let b = t.begins was in
    record {
      pace_is = t.pace_is;
      advance_is = t.advance_is;
      expects_is = t.expects_is;
      level_is = t.level_is;
      open_is = t.open_is;
      phase_is = t.phase_is;
      begins = λ e. absurd (is_false _ is e);
      ends = t.ends;
      regs = λ c e. armed_regs v.cmp_at v.search.phase v.blanked v.time free b.blank;
      below = t.below;
      few = (
          let n : v.quiet v.held.since ≡ 0 = b.none v.held.since in
          let m : future v.cmp_at v.search.phase true v.changed (is_expected v.search v.level) ≤ 3 =
          blank_most v.cmp_at v.search.phase true v.changed _ v.blanked free b.blank in
          omega arith);
      seen = t.seen;
      begun = λ e. absurd (stays e);
      late = t.late;
      seldom = t.seldom;
      watch = t.watch;
    }

-- ---- COMM returns

abbrev pub cross_left : CrossView → CrossView
cross_left v = record v { comm_at = comm.Shut; sight = sight_begun v.sight v.blanked v.time }

seen_left : (s : Sight) (at : CmpAt) (p : Phase) (h : Held) (expects : Bool) (blanked time past : ℕ) → SightTied s at p h expects blanked time past
    → SightTied (sight_begun s blanked time) at p h expects blanked time past
seen_left Away at p h expects blanked time past s = s
seen_left Begun at p h expects blanked time past s = (s.0, s.1, omega arith)
seen_left (Awaits u) at p h expects blanked time past s = s
seen_left (First i) at p h expects blanked time past s = s
seen_left (Settles i u) at p h expects blanked time past s = s
seen_left (Second i z) at p h expects blanked time past s = s

begun_left : (s : Sight) (blanked time : ℕ) → is_begun (sight_begun s blanked time) ≡ false
begun_left Away blanked time = refl
begun_left Begun blanked time = refl
begun_left (Awaits u) blanked time = refl
begun_left (First i) blanked time = refl
begun_left (Settles i u) blanked time = refl
begun_left (Second i z) blanked time = refl

pub left_cross : (v : CrossView) → begins_search v.comm_at v.turn_at ≡ false → ends_drive v.tick_at ≡ false → CrossTied v → CrossTied (cross_left v)
left_cross v was goes t = record {
  pace_is = t.pace_is;
  advance_is = t.advance_is;
  expects_is = t.expects_is;
  level_is = t.level_is;
  open_is = t.open_is;
  phase_is = t.phase_is;
  begins = λ e. cc;
  ends = λ e. absurd (is_false _ goes e);
  regs = λ b e. t.regs was e;
  below = t.below;
  few = t.few;
  seen = seen_left v.sight v.cmp_at v.search.phase v.held v.expects v.blanked v.time v.past t.seen;
  begun = λ e. begun_left v.sight v.blanked v.time;
  late = t.late;
  seldom = t.seldom;
  watch = t.watch;
}
