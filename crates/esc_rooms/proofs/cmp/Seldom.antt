-- How seldom CMP is entered: each thing that CMP, COMM and time do keeps the tie, and an entry keeps the law.
use Rattle.std.proofs.Common.{◌≡◌, ◌≤◌, ◌<◌, ◌+◌, ◌⊎◌, inl, inr, ℕ, zero, suc, Bool, true, false, ◌&&◌, ◌||◌, nat_le, List, [], ◌∷◌, Option, Some, None, refl, sym, ◌∙◌, subst, arith}
use Rattle.std.proofs.lemmas.Bool.{leb-true}
use Rattle.esc_base.specs.Numbers.{as_tick}
use Rattle.esc_base.specs.Times.{is_reached, least_blanking, rejected_blanking}
use Rattle.zero_cross.specs.declared.phase.Phase.{Phase}
use Rattle.zero_cross.specs.declared.phase.Phase.TheVariants as phase
use Rattle.esc_core.specs.declared.state.CmpAt.{CmpAt}
use Rattle.esc_core.specs.declared.state.CmpAt.TheVariants as cmp
use Rattle.esc_laws.specs.Asked.{IsPast}
use Rattle.esc_rooms.specs.CrossTied.{Armed, Called}
use Rattle.esc_rooms.specs.SeldomTied.{Newest, Brings, Looks, PaceTied, SeldomTied}

-- ---- ticks of entries

past_later : (gap n : ℕ) (entries : List ℕ) (t u : ℕ) → t ≤ u → IsPast gap n entries t → IsPast gap n entries u
past_later gap n [] t u le h = tt
past_later gap zero (i ∷ entries) t u le h = omega arith
past_later gap (suc n) (i ∷ entries) t u le h = past_later gap n entries t u le h

-- an older entry is further off
past_older : (gap n : ℕ) (entries : List ℕ) (t now : ℕ) → Newest now entries → IsPast gap n entries t → IsPast gap (suc n) entries t
past_older gap n [] t now s h = tt
past_older gap zero (i ∷ []) t now s h = tt
past_older gap zero (i ∷ j ∷ entries) t now s h = let l = s.1.0 in omega arith
past_older gap (suc n) (i ∷ entries) t now s h = past_older gap n entries t i s.1 h

-- none stands after now
pub past_all : (gap : ℕ) (entries : List ℕ) (now t : ℕ) → Newest now entries → now + gap ≤ t → IsPast gap 0 entries t
past_all gap [] now t s le = tt
past_all gap (i ∷ entries) now t s le = let l = s.0 in omega arith

newest_later : (t u : ℕ) (entries : List ℕ) → t ≤ u → Newest t entries → Newest u entries
newest_later t u [] le s = tt
newest_later t u (i ∷ entries) le s = (let l = s.0 in omega arith, s.1)

-- ---- CMP's steps

-- both paces move as one does
pub seldom_moves : (at at' : CmpAt) (p p' : Phase) (now : ℕ) (entries looks : List ℕ)
    → ((gap : ℕ) (l : List ℕ) → gap ≤ rejected_blanking → Newest now l → PaceTied gap at p now l → PaceTied gap at' p' now l)
    → SeldomTied at p now entries looks → SeldomTied at' p' now entries looks
seldom_moves at at' p p' now entries looks moves s = record {
  ordered = s.ordered;
  ordered_since = s.ordered_since;
  all = moves least_blanking entries (omega arith) s.ordered s.all;
  since_turn = moves rejected_blanking looks (omega arith) s.ordered_since s.since_turn;
}

-- blanking isn't over: a Q came since the entry
pub pace_early : (gap end now : ℕ) (l : List ℕ) → now < end → Looks gap (phase.Blank (as_tick end)) now l → Brings gap (phase.Blank (as_tick end)) now l
pace_early gap end now l lt (inl h) = h
pace_early gap end now l lt (inr h) = absurd (let o = h.0 in omega arith)

-- it is over
pub pace_blanked : (gap end now : ℕ) (l : List ℕ) → Newest now l → end ≤ now → Looks gap (phase.Blank (as_tick end)) now l → IsPast gap 1 l now
pace_blanked gap end now l s le (inl h) = past_older gap 0 l now now s (past_later gap 0 l end now le h)
pace_blanked gap end now l s le (inr h) = past_later gap 1 l end now le h.1

-- the expected level is read
pub pace_read : (gap now : ℕ) (l : List ℕ) → Newest now l → IsPast gap 1 l now → IsPast gap 2 l now
pace_read gap now l s h = past_older gap 1 l now now s h

-- a filter is rejected
pub pace_rejected : (gap now : ℕ) (l : List ℕ) → gap ≤ rejected_blanking → Newest now l → IsPast gap 0 l (now + rejected_blanking)
pace_rejected gap now l le s = past_all gap l now (now + rejected_blanking) s (omega arith)

-- and one begins
pub pace_filters : (gap now : ℕ) (l : List ℕ) → IsPast gap 2 l now → IsPast gap 2 l (now + 24)
pace_filters gap now l h = past_later gap 2 l now (now + 24) (omega arith) h

-- ---- time

looks_later : (gap : ℕ) (p : Phase) (t u : ℕ) (l : List ℕ) → t ≤ u → Looks gap p t l → Looks gap p u l
looks_later gap phase.Off t u l le h = tt
looks_later gap (phase.Blank end) t u l le (inl h) = inl h
looks_later gap (phase.Blank end) t u l le (inr h) = inr (let o = h.0 in omega arith, h.1)
looks_later gap phase.Watch t u l le h = past_later gap 2 l t u le h
looks_later gap (phase.Filter end) t u l le h = tt
looks_later gap phase.Done t u l le h = tt

brings_later : (gap : ℕ) (p : Phase) (t u : ℕ) (l : List ℕ) → t ≤ u → Brings gap p t l → Brings gap p u l
brings_later gap phase.Off t u l le h = tt
brings_later gap (phase.Blank end) t u l le h = h
brings_later gap phase.Watch t u l le h = past_later gap 1 l t u le h
brings_later gap (phase.Filter end) t u l le h = h
brings_later gap phase.Done t u l le h = tt

pace_later : (gap : ℕ) (at : CmpAt) (p : Phase) (t u : ℕ) (l : List ℕ) → t ≤ u → PaceTied gap at p t l → PaceTied gap at p u l
pace_later gap cmp.Raise p t u l le h = looks_later gap p t u l le h
pace_later gap cmp.Look p t u l le h = looks_later gap p t u l le h
pace_later gap cmp.Read p t u l le h = past_later gap 1 l t u le h
pace_later gap cmp.Ack p t u l le h = past_later gap 2 l t u le h
pace_later gap cmp.Shut p t u l le h = brings_later gap p t u l le h
pace_later gap cmp.Arm p t u l le h = brings_later gap p t u l le h
pace_later gap cmp.Commute p t u l le h = brings_later gap p t u l le h
pace_later gap cmp.Lower p t u l le h = brings_later gap p t u l le h
pace_later gap cmp.Back p t u l le h = brings_later gap p t u l le h

pub seldom_later : (at : CmpAt) (p : Phase) (t u : ℕ) (entries looks : List ℕ) → t ≤ u → SeldomTied at p t entries looks → SeldomTied at p u entries looks
seldom_later at p t u entries looks le s = record {
  ordered = newest_later t u entries le s.ordered;
  ordered_since = newest_later t u looks le s.ordered_since;
  all = pace_later least_blanking at p t u entries le s.all;
  since_turn = pace_later rejected_blanking at p t u looks le s.since_turn;
}

-- ---- its entry: the law, and the tie behind it

pub nothing_due : (timer : Option ℕ) (enabled changed : Bool) (t : ℕ) → timer ≡ None → enabled ≡ false
    → (is_reached timer t || (enabled && changed)) ≡ true → ⊥
nothing_due timer enabled changed t none off due = let e : (is_reached timer t || (enabled && changed)) ≡ false = rw (none, off) refl in cc

pub pace_entered : (gap : ℕ) (p : Phase) (timer : Option ℕ) (enabled changed : Bool) (now : ℕ) (l : List ℕ) → Newest now l → Armed p timer enabled
    → (is_reached timer now || (enabled && changed)) ≡ true → Called p None now → Brings gap p now l → IsPast gap 2 l now × Looks gap p now (now ∷ l)
pace_entered gap phase.Off timer enabled changed now l s a due c h = absurd (nothing_due timer enabled changed now a.0 a.1 due)
pace_entered gap (phase.Blank end) timer enabled changed now l s a due (inl c) h = cc
pace_entered gap (phase.Blank end) timer enabled changed now l s a due (inr c) h =
    (past_older gap 1 l now now s (past_older gap 0 l now now s (past_later gap 0 l end.0 now c.1 h)), inr (c.1, h))
pace_entered gap phase.Watch timer enabled changed now l s a due c h = (past_older gap 1 l now now s h, h)
pace_entered gap (phase.Filter end) timer enabled changed now l s a due c h = (past_later gap 2 l end.0 now c.1 h, tt)
pace_entered gap phase.Done timer enabled changed now l s a due c h = absurd (nothing_due timer enabled changed now a.0 a.1 due)

-- the tie behind an entry from outside
pub seldom_entered : (p : Phase) (timer : Option ℕ) (enabled changed : Bool) (now : ℕ) (entries looks : List ℕ) → Armed p timer enabled
    → (is_reached timer now || (enabled && changed)) ≡ true → Called p None now → SeldomTied cmp.Shut p now entries looks
    → SeldomTied cmp.Raise p now (now ∷ entries) (now ∷ looks)
seldom_entered p timer enabled changed now entries looks a due c s = record {
  ordered = (omega arith, s.ordered);
  ordered_since = (omega arith, s.ordered_since);
  all = (pace_entered least_blanking p timer enabled changed now entries s.ordered a due c s.all).1;
  since_turn = (pace_entered rejected_blanking p timer enabled changed now looks s.ordered_since a due c s.since_turn).1;
}

-- ---- the drive ends, while CMP is shut

pub seldom_off : (at : CmpAt) (p : Phase) (now : ℕ) (entries looks : List ℕ) → at ≡ cmp.Shut → SeldomTied at p now entries looks
    → SeldomTied at phase.Off now entries looks
seldom_off cmp.Shut p now entries looks e s = seldom_moves cmp.Shut cmp.Shut p phase.Off now entries looks (λ gap l le o h. tt) s
seldom_off at p now entries looks e s = cc
