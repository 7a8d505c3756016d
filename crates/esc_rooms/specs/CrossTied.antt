-- What ties the search for a crossing to what the notes and the comparator say, by where CMP, COMM and TICK stand. Each fact
-- holds between any two steps, whatever is open.
use Rattle.std.specs.Prelude.{◌≡◌, ◌<◌, ◌≤◌, ◌+◌, ◌⊎◌, ℕ, Bool, true, false, not, ◌||◌, if◌then◌else◌, nat_le, List, Option, Some, None}
use Rattle.esc_base.specs.Times.{filter_time}
use Rattle.esc_base.specs.Numbers.{as_tick}
use Rattle.zero_cross.specs.declared.phase.Phase.{Phase}
use Rattle.zero_cross.specs.declared.phase.Phase.TheVariants as phase
use Rattle.zero_cross.specs.Comparator.{Held, is_steady}
use Rattle.zero_cross.specs.Kept.{Kept, is_expected, MayFilter}
use Rattle.commutation.specs.Commutated.{Turn, Idle, Started, Turned, Crossed}
use Rattle.commutation.specs.Pace.{Pace}
use Rattle.gate_driver.specs.declared.to_sector.ChangeAt.{ChangeAt}
use Rattle.esc_core.specs.declared.state.CmpAt.{CmpAt}
use Rattle.esc_core.specs.declared.state.CmpAt.TheVariants as cmp
use Rattle.esc_core.specs.declared.state.CommAt.{CommAt}
use Rattle.esc_core.specs.declared.state.CommAt.TheVariants as comm
use Rattle.esc_core.specs.declared.state.TickAt.{TickAt}
use Rattle.esc_core.specs.declared.state.TickAt.TheVariants as tick
use Rattle.esc_laws.specs.Searched.{Sight, Away, Begun, Awaits, First, Settles, Second}
use Rattle.esc_rooms.specs.DriveTied.{turn_ends}
use Rattle.esc_rooms.specs.SeldomTied.{SeldomTied}
use Rattle.esc_rooms.specs.WatchTied.{WatchTied}

pub record CrossView : Type 0 where
  -- what the core keeps of the search, of the interval and of a postponed low switch
  pub search : Kept
  pub pace : Pace
  pub advance : ℕ
  pub postponed : Bool
  -- where CMP, COMM with its change of sector, and TICK stand
  pub cmp_at : CmpAt
  pub comm_at : CommAt
  pub turn_at : ChangeAt
  pub tick_at : TickAt
  -- the registers
  pub time : ℕ
  pub level : Bool
  pub changed : Bool
  pub enabled : Bool
  pub timer : Option ℕ
  -- the comparator by the trace
  pub held : Held
  -- from this tick on CMP has made no step
  pub past : ℕ
  -- what the notes say: of the drive, of the newest Q, of CMP's activations since
  pub turn : Turn
  pub told_pace : Pace
  pub told_advance : ℕ
  pub blanked : ℕ
  pub expects : Bool
  pub sight : Sight
  pub told_open : Bool
  pub quiet : ℕ → ℕ
  -- the ticks of CMP's entries, all of them and those since the newest Q
  pub entries : List ℕ
  pub looks : List ℕ
  -- CMP is open and was entered behind the newest Q, and when the newest such activation returned
  pub looking : Bool
  pub looked : Option ℕ

-- ---- the phase of the search, by the notes

-- the drive has no Q, one without a Z after it, one with a Z after it
abbrev pub HasNoQ : Turn → Type 0
HasNoQ Idle = Unit {0}
HasNoQ Started = Unit {0}
HasNoQ (Turned q) = ⊥
HasNoQ (Crossed q z) = ⊥

abbrev pub HasQ : Turn → Type 0
HasQ (Turned q) = Unit {0}
HasQ turn = ⊥

abbrev pub HasZ : Turn → Type 0
HasZ (Crossed q z) = Unit {0}
HasZ turn = ⊥

-- a filter began at a tick past blanking, 24 ticks before its end, as the changed bit was cleared; so the bit tells of the
-- changes since
pub record Filters (changed : Bool) (end since blanked past : ℕ) : Type 0 where
  pub begun : ℕ
  pub end_is : end ≡ begun + filter_time
  pub below : begun < past
  pub bit : changed ≡ not (nat_le since begun)
  pub after : blanked ≤ begun

-- by the drive, the changed bit, the tick of the newest change, the end of blanking, now, and the tick from which on CMP has
-- made no step
abbrev pub PhaseTied : Phase → Turn → Bool → ℕ → ℕ → ℕ → ℕ → Type 0
PhaseTied phase.Off turn changed since blanked time past = HasNoQ turn
PhaseTied (phase.Blank end) turn changed since blanked time past = HasQ turn × (blanked ≤ end.0)
PhaseTied phase.Watch turn changed since blanked time past = HasQ turn × (blanked ≤ time)
PhaseTied (phase.Filter end) turn changed since blanked time past = HasQ turn × Filters changed end.0 since blanked past
PhaseTied phase.Done turn changed since blanked time past = HasZ turn

-- ---- the crossing timer, and whether a change of the comparator asks for CMP

-- CMP is shut, or has done its work: the registers bring the next activation
abbrev pub Armed : Phase → Option ℕ → Bool → Type 0
Armed phase.Off timer enabled = (timer ≡ None) × (enabled ≡ false)
Armed (phase.Blank end) timer enabled = (timer ≡ Some end.0) × (enabled ≡ false)
Armed phase.Watch timer enabled = enabled ≡ true
Armed (phase.Filter end) timer enabled = (timer ≡ Some end.0) × (enabled ≡ false)
Armed phase.Done timer enabled = (timer ≡ None) × (enabled ≡ false)

-- CMP was entered and hasn't looked: the phase's time is over, or a Q came since the entry and has armed the timer anew
abbrev pub Called : Phase → Option ℕ → ℕ → Type 0
Called phase.Off timer time = timer ≡ None
Called (phase.Blank end) timer time = (timer ≡ Some end.0) ⊎ ((timer ≡ None) × (end.0 ≤ time))
Called phase.Watch timer time = timer ≡ None
Called (phase.Filter end) timer time = (timer ≡ None) × (end.0 ≤ time)
Called phase.Done timer time = timer ≡ None

-- the phase waits for a tick
abbrev pub Waits : Phase → Type 0
Waits (phase.Blank end) = Unit {0}
Waits (phase.Filter end) = Unit {0}
Waits p = ⊥

-- blanking is over by tick u
abbrev pub IsBlanked : Phase → ℕ → Type 0
IsBlanked (phase.Blank end) u = end.0 ≤ u
IsBlanked p u = ⊥

-- by where CMP stands
abbrev pub RegsTied : CmpAt → Phase → Option ℕ → Bool → ℕ → Type 0
RegsTied cmp.Shut p timer enabled time = Armed p timer enabled
RegsTied cmp.Raise p timer enabled time = Called p timer time × (enabled ≡ false)
RegsTied cmp.Look p timer enabled time = Called p timer time × (enabled ≡ false)
RegsTied cmp.Read p timer enabled time = IsBlanked p time × (enabled ≡ true)
RegsTied cmp.Ack p timer enabled time = MayFilter p time
RegsTied cmp.Arm p timer enabled time = Waits p
RegsTied cmp.Commute p timer enabled time = (p ≡ phase.Done) × (timer ≡ None) × (enabled ≡ false)
RegsTied cmp.Lower p timer enabled time = Armed p timer enabled
RegsTied cmp.Back p timer enabled time = Armed p timer enabled

-- COMM has changed the sector, and the crossing timer isn't armed for the end of blanking yet
abbrev pub begins_search : CommAt → ChangeAt → Bool
begins_search comm.Turn at = turn_ends at
begins_search comm.Blank at = true
begins_search place at = false

-- TICK has noted a K with demand 0, and hasn't ended the drive yet
abbrev pub ends_drive : TickAt → Bool
ends_drive (tick.Off at) = true
ends_drive tick.DutyOff = true
ends_drive tick.DriveOff = true
ends_drive place = false

-- no activation of CMP is called for after the newest Q
abbrev pub IsEarly : Sight → Type 0
IsEarly Away = Unit {0}
IsEarly Begun = Unit {0}
IsEarly s = ⊥

-- between the Q and the write of the crossing timer
pub record Begins (p : Phase) (blanked : ℕ) (s : Sight) (quiet : ℕ → ℕ) (looked : Option ℕ) : Type 0 where
  pub blank : p ≡ phase.Blank (as_tick blanked)
  pub early : IsEarly s
  pub none : (since : ℕ) → quiet since ≡ 0
  pub unlooked : looked ≡ None

-- between the K with demand 0 and the end of the drive
pub record Ends (p : Phase) (s : Sight) (at : CmpAt) : Type 0 where
  pub off : p ≡ phase.Off
  pub away : s ≡ Away
  pub shut : at ≡ cmp.Shut

-- ---- how many activations of CMP can come without a Q and without a change of the comparator

abbrev pub is_some : Option ℕ → Bool
is_some None = false
is_some (Some t) = true

-- from a place outside of an activation, or at which it has done its work: by whether the timer is armed, whether the changed
-- bit is set, and whether the comparator has the expected level
abbrev pub to_come : Phase → Bool → Bool → Bool → ℕ
to_come phase.Off armed changed expected = 0
to_come (phase.Blank end) armed changed expected = if expected then 2 else 1
to_come phase.Watch armed changed expected = if armed || changed then (if expected then 2 else 3) else 0
to_come (phase.Filter end) armed changed expected = if expected then (if changed then 3 else 1) else 2
to_come phase.Done armed changed expected = 0

-- from an activation that hasn't looked
abbrev pub to_come_after : Phase → Bool → Bool → Bool → ℕ
to_come_after phase.Off armed changed expected = 0
to_come_after (phase.Blank end) armed changed expected = if armed then 3 else if expected then 1 else 0
to_come_after phase.Watch armed changed expected = if expected then 1 else 2
to_come_after (phase.Filter end) armed changed expected = if expected then (if changed then 2 else 0) else 1
to_come_after phase.Done armed changed expected = 0

abbrev pub future : CmpAt → Phase → Bool → Bool → Bool → ℕ
future cmp.Raise p armed changed expected = to_come_after p armed changed expected
future cmp.Look p armed changed expected = to_come_after p armed changed expected
future cmp.Read p armed changed expected = if expected then 1 else if armed || changed then 3 else 0
future cmp.Ack p armed changed expected = if expected then 1 else 2
future cmp.Commute p armed changed expected = 0
future cmp.Shut p armed changed expected = to_come p armed changed expected
future cmp.Arm p armed changed expected = to_come p armed changed expected
future cmp.Lower p armed changed expected = to_come p armed changed expected
future cmp.Back p armed changed expected = to_come p armed changed expected

-- ---- the two activations after a Q

abbrev pub is_shut : CmpAt → Bool
is_shut cmp.Shut = true
is_shut at = false

-- a filter that a level which is steady from tick i on will pass, and that ends by tick u
abbrev pub Passes : Phase → ℕ → ℕ → Type 0
Passes (phase.Filter end) i u = (end.0 ≤ u) × (i + filter_time ≤ end.0)
Passes p i u = ⊥

-- the first one, which was entered at i, by whether the level has been steady since
abbrev pub FirstTied : CmpAt → Phase → Bool → ℕ → ℕ → ℕ → Type 0
FirstTied cmp.Shut p steady i time past = ⊥
FirstTied cmp.Raise p steady i time past = IsBlanked p time
FirstTied cmp.Look p steady i time past = IsBlanked p time
FirstTied cmp.Read p steady i time past = Unit {0}
FirstTied cmp.Ack p steady i time past = Unit {0}
FirstTied cmp.Commute p steady i time past = steady ≡ false
FirstTied cmp.Arm p steady i time past = steady ≡ true → Passes p i (past + filter_time)
FirstTied cmp.Lower p steady i time past = steady ≡ true → Passes p i (past + filter_time)
FirstTied cmp.Back p steady i time past = steady ≡ true → Passes p i (past + filter_time)

-- the second one
abbrev pub SecondTied : CmpAt → Phase → Bool → ℕ → Bool → ℕ → Type 0
SecondTied cmp.Shut p steady i z time = ⊥
SecondTied cmp.Raise p steady i z time = steady ≡ true → Passes p i time
SecondTied cmp.Look p steady i z time = steady ≡ true → Passes p i time
SecondTied at p steady i z time = steady ≡ true → z ≡ true

-- by CMP's place, the phase, the comparator and the expected level, the end of blanking, now, and the tick from which on CMP
-- has made no step
abbrev pub SightTied : Sight → CmpAt → Phase → Held → Bool → ℕ → ℕ → ℕ → Type 0
SightTied Away at p h expects blanked time past = Unit {0}
SightTied Begun at p h expects blanked time past = (at ≡ cmp.Shut) × (p ≡ phase.Blank (as_tick blanked))
SightTied (Awaits u) at p h expects blanked time past = (at ≡ cmp.Shut) × (p ≡ phase.Blank (as_tick blanked)) × (blanked ≤ u)
SightTied (First i) at p h expects blanked time past = (i < past) × FirstTied at p (is_steady h expects i) i time past
SightTied (Settles i u) at p h expects blanked time past = (i < past) × (at ≡ cmp.Shut) × (is_steady h expects i ≡ true → Passes p i u)
SightTied (Second i z) at p h expects blanked time past = (i < past) × SecondTied at p (is_steady h expects i) i z time

abbrev pub is_begun : Sight → Bool
is_begun Begun = true
is_begun s = false

-- ---- the low switch: a filter is looked at only where it isn't postponed

abbrev pub LateTied : CmpAt → Phase → Bool → Type 0
LateTied cmp.Raise (phase.Filter end) postponed = postponed ≡ false
LateTied cmp.Look (phase.Filter end) postponed = postponed ≡ false
LateTied at p postponed = Unit {0}

pub record CrossTied (v : CrossView) : Type 0 where
  -- the interval, the advance and the expected level
  pub pace_is : v.pace ≡ v.told_pace
  pub advance_is : v.advance ≡ v.told_advance
  pub expects_is : v.search.expects ≡ v.expects
  -- the comparator
  pub level_is : v.level ≡ v.held.level
  -- CMP is open where the notes say so
  pub open_is : v.told_open ≡ not (is_shut v.cmp_at)
  pub phase_is : PhaseTied v.search.phase v.turn v.changed v.held.since v.blanked v.time v.past
  -- the registers, but where COMM begins a search and where TICK ends the drive
  pub begins : begins_search v.comm_at v.turn_at ≡ true → Begins v.search.phase v.blanked v.sight v.quiet v.looked
  pub ends : ends_drive v.tick_at ≡ true → Ends v.search.phase v.sight v.cmp_at
  pub regs : begins_search v.comm_at v.turn_at ≡ false → ends_drive v.tick_at ≡ false
      → RegsTied v.cmp_at v.search.phase v.timer v.enabled v.time
  -- activations of CMP without a Q and a change
  pub below : (since : ℕ) → v.past ≤ since → v.quiet since ≡ 0
  pub few : v.quiet v.held.since + future v.cmp_at v.search.phase (is_some v.timer) v.changed (is_expected v.search v.level) ≤ 3
  -- the two after a Q
  pub seen : SightTied v.sight v.cmp_at v.search.phase v.held v.expects v.blanked v.time v.past
  pub begun : v.comm_at ≡ comm.Shut → is_begun v.sight ≡ false
  pub late : LateTied v.cmp_at v.search.phase v.postponed
  -- and how seldom they come
  pub seldom : SeldomTied v.cmp_at v.search.phase v.time v.entries v.looks
  -- and that each later change is heard
  pub watch : WatchTied v.cmp_at v.search.phase v.changed (is_expected v.search v.level) v.looking v.looked v.time v.past
