-- The wrong journals break the laws of crossings.
use Rattle.std.proofs.Common.{◌≡◌, ◌<◌, ◌≤◌, ◌+◌, ◌⊎◌, inl, inr, ℕ, true, false, List, [], ◌∷◌, ◌++◌, reverse, refl, sym, ◌∙◌, arith}
use Rattle.std.proofs.lemmas.Bool.{le-leb}
use Rattle.std.proofs.lemmas.List.Elements.{All-nil, All-cons, All-head, All-tail}
use Rattle.esc_base.specs.declared.kind.Kind.TheVariants as kind
use Rattle.esc_base.specs.declared.event.Event.{Event}
use Rattle.esc_base.specs.declared.event.Event.TheVariants as event
use Rattle.esc_base.specs.declared.note.Note.{Note}
use Rattle.esc_base.specs.Numbers.{as_tick}
use Rattle.settings_block.specs.declared.stored.Loaded.{Loaded}
use Rattle.interrupt_machine.specs.declared.nest.Nest.{Nest}
use Rattle.zero_cross.specs.Comparator.{held, HasLevel, Steady}
use Rattle.commutation.specs.Pace.{wait_of}
use Rattle.commutation.specs.Commutated.{Commutated, TurnRule}
use Rattle.esc_laws.specs.Place.{place}
use Rattle.esc_laws.specs.Seen.{sees}
use Rattle.esc_laws.specs.Crossed.{Crossed, CrossRule}
use Rattle.esc_laws.specs.Searched.{Searched, SearchRule}
use Rattle.esc_laws.specs.Saves.{advance_of}
use Rattle.esc_laws.specs.Calls.{HasTurned, HasCaughtUp, turns_in, turn_was_due}
use Rattle.esc_laws.specs.Steps.{journal, open_in, free, after, StepFits}
use Rattle.esc_laws.specs.refused.Notes.{enters, leaves, ticks, turns, crosses, first_two}
use Rattle.esc_laws.specs.refused.Steps.{entry}
use Rattle.esc_laws.specs.refused.Crossings.{forwards, first_turn, up_from, commutes, looks, first_sector, looked_once, CrossingsRefuse, CrossedTurnsRefuse, SearchesRefuse, ActivationsRefuse}
use Rattle.arming.proofs.InOrder.{each_at}
use Rattle.esc_laws.proofs.refused.Nesting.{nest_fits}

-- ---- crossings

crossing_fits : (trace : List Event) (front after : List Note) (n : Note) → Crossed trace forwards (first_two ++ (front ++ n ∷ after))
    → CrossRule trace forwards (reverse (first_two ++ front)) n
crossing_fits trace front after n whole = each_at (λ before n. CrossRule trace forwards (reverse before) n) [] (first_two ++ front) n after whole

-- the level stays 0, or is 0 at the first of the 24 ticks
low_at : (t : ℕ) → (held [] t).level ≡ false
unfolding held
low_at t = refl

late_up : (held (up_from 8977) 8976).level ≡ false
unfolding held
late_up = refl

one_up : (held (up_from 9000) 8976).level ≡ false
unfolding held
one_up = refl

pub crossings_refuse : CrossingsRefuse
crossings_refuse = record {
  without_a_drive = λ trace after h. crossing_fits trace [] after (crosses 9000) h;
  before_the_first_sector = λ trace after h. crossing_fits trace (ticks 2404 1 0 20 ∷ []) after (crosses 9000) h;
  in_the_next_drive = λ trace after h. crossing_fits trace (first_turn ++ (ticks 4804 2 0 0 ∷ ticks 7204 3 0 20 ∷ [])) after (crosses 9000) h;
  second_in_a_sector = λ trace after h. crossing_fits trace (first_turn ++ crosses 9000 ∷ []) after (crosses 9500) h;
  at_the_unexpected_level = λ after h. (let s = (crossing_fits [] first_turn after (crosses 9000) h).steady.0 in
      let z : false ≡ true = sym (low_at 8976) ∙ s in cc);
  on_one_sample = λ after h. (let s = (crossing_fits (up_from 9000) first_turn after (crosses 9000) h).steady.0 in
      let z : false ≡ true = sym one_up ∙ s in cc);
  after_23_ticks = λ after h. (let s = (crossing_fits (up_from 8977) first_turn after (crosses 9000) h).steady.0 in
      let z : false ≡ true = sym late_up ∙ s in cc);
  over_a_short_change = λ after h. (let s = (crossing_fits glitch first_turn after (crosses 9000) h).steady.1 in
      let down : HasLevel true 8976 9000 (event.Comp (as_tick 8990) false) =
      All-head (HasLevel true 8976 9000) (event.Comp (as_tick 8990) false) (event.Comp (as_tick 8990) true ∷ [])
      (All-tail (HasLevel true 8976 9000) (event.Comp (as_tick 100) true) (event.Comp (as_tick 8990) false ∷ event.Comp (as_tick 8990) true ∷ []) s) in
      let z : false ≡ true = down (omega arith) (omega arith) in cc);
  filtered_within_blanking = λ trace after h. (let b = (crossing_fits trace first_turn after (crosses 8523) h).blanked_before in absurd (omega arith));
}
  where
    glitch : List Event
    glitch = event.Comp (as_tick 100) true ∷ event.Comp (as_tick 8990) false ∷ event.Comp (as_tick 8990) true ∷ []

-- ---- sector changes

turn_fits : (front after : List Note) (n : Note) → Commutated 0 forwards (first_two ++ (front ++ n ∷ after))
    → TurnRule 0 forwards (reverse (first_two ++ front)) n
turn_fits front after n whole = each_at (λ before n. TurnRule 0 forwards (reverse before) n) [] (first_two ++ front) n after whole

pub crossed_turns_refuse : CrossedTurnsRefuse
crossed_turns_refuse = record {
  by_an_old_crossing = λ after h. (let b = (turn_fits (first_turn ++ (crosses 9000 ∷ turns 21000 2 ∷ [])) after (turns 50000 3) h).time in absurd
      (omega arith));
  wait_of_the_old_interval = λ after h. (let b = (turn_fits (first_turn ++ (crosses 9000 ∷ turns 21000 2 ∷ crosses 209000 ∷ [])) after
      (turns 221000 3) h).time in absurd (omega arith));
  wait_of_the_drive_before = λ after h. (let b = (turn_fits (first_turn ++ (crosses 8600 ∷ turns 20600 2 ∷ crosses 28000 ∷ turns 39700 3 ∷ ticks 40800 17 0 0
      ∷ ticks 43200 18 0 20 ∷ turns 43210 4 ∷ crosses 49300 ∷ [])) after (turns 61200 5) h).time in absurd (omega arith));
}

-- ---- the search

search_fits : (trace : List Event) (front after : List Note) (n : Note) → Searched trace forwards (first_two ++ (front ++ n ∷ after))
    → SearchRule trace forwards (reverse (first_two ++ front)) n
search_fits trace front after n whole = each_at (λ before n. SearchRule trace forwards (reverse before) n) [] (first_two ++ front) n after whole

steady_up : (b : ℕ) → Steady (up_from 100) true 8500 b
unfolding held
steady_up b = (refl, All-cons (HasLevel true 8500 b) (event.Comp (as_tick 100) true) [] (λ l le. refl) (All-nil (HasLevel true 8500 b)))

none_since : (t : ℕ) → (held [] t).since ≡ 0
unfolding held
none_since t = refl

changed_once : (held (up_from 8500) 8900).since ≡ 8500
unfolding held
changed_once = refl

pub searches_refuse : SearchesRefuse
searches_refuse = record {
  no_crossing_where_it_is_owed = λ after h. (let z : false ≡ true =
      search_fits (up_from 100) (commutes ++ (looks 8500 ++ enters 8532 4 ∷ [])) after (leaves 8540 4) h refl (steady_up 8540) in cc);
  crossing_in_the_first_one = λ after h. (let z : false ≡ true =
      search_fits (up_from 100) (commutes ++ (enters 8500 4 ∷ crosses 8524 ∷ leaves 8530 4 ∷ enters 8554 4 ∷ [])) after
      (leaves 8562 4) h refl (steady_up 8562) in cc);
  five_in_a_row = λ after h. (let n = none_since 8900 in
      let few = search_fits [] (commutes ++ (looks 8500 ++ looks 8600 ++ looks 8700 ++ looks 8800)) (leaves 8908 4 ∷ after) (enters 8900 4) h refl in
      let four : 4 < 4 = rw n at few in absurd (omega arith));
  five_from_a_change_on = λ after h. (let n = changed_once in
      let few = search_fits (up_from 8500) (commutes ++ (looks 8500 ++ looks 8600 ++ looks 8700 ++ looks 8800)) (leaves 8908 4 ∷ after)
      (enters 8900 4) h refl in
      let four : 4 < 4 = rw n at few in absurd (omega arith));
}

-- ---- activations

-- a COMM that was entered for a change that is due, and has none
not_done : (advance : ℕ) (back : List Note) → turns_in back ≡ 0 → turn_was_due advance back ≡ true → HasTurned back ⊎ HasCaughtUp advance back → ⊥
not_done advance back none due (inl t) = (let one = t.one in omega arith)
not_done advance back none due (inr c) = (let z : true ≡ false = sym due ∙ c.not_due in cc)

sector_open : (loaded : Loaded) → open_in loaded first_sector ≡ []
unfolding place
sector_open loaded = refl

sector_after : (cost : ℕ) → after cost [] first_sector ≡ 2500 + cost
unfolding after free
sector_after cost = refl

no_stall : (t : ℕ) → free [] t ≡ t
unfolding free
no_stall t = refl

cmp_called : (loaded : Loaded) → sees loaded [] (journal loaded first_sector) 8500 kind.Cmp ≡ true
unfolding place held
cmp_called loaded = refl

late : (loaded : Loaded) (nest : Nest) (cost : ℕ) → cost ≤ 16 → StepFits loaded nest cost [] first_sector (entry 8501 kind.Cmp) → ⊥
late loaded nest cost le f =
    let from = sector_after cost in
    let z : true ≡ false = sym (cmp_called loaded) ∙ f.idle (sector_open loaded) 8500 (omega arith) (omega arith) (no_stall 8500) kind.Cmp in
    absurd (cc)

once_open : (loaded : Loaded) → open_in loaded looked_once ≡ []
unfolding place
once_open loaded = refl

once_after : (cost : ℕ) → after cost (up_from 9000) looked_once ≡ 8508 + cost
unfolding after free
once_after cost = refl

no_stall_up : (t : ℕ) → free (up_from 9000) t ≡ t
unfolding free
no_stall_up t = refl

watch_called : (loaded : Loaded) → loaded.settings.direction ≡ 0 → sees loaded (up_from 9000) (journal loaded looked_once) 9000 kind.Cmp ≡ true
unfolding place held
watch_called loaded e = rw e refl

unheard : (loaded : Loaded) (nest : Nest) (cost : ℕ) → cost ≤ 16 → loaded.settings.direction ≡ 0
    → StepFits loaded nest cost (up_from 9000) looked_once (entry 242500 kind.Comm) → ⊥
unheard loaded nest cost le forward f =
    let from = once_after cost in
    let z : true ≡ false = sym (watch_called loaded forward) ∙ f.idle (once_open loaded) 9000 (omega arith) (omega arith) (no_stall_up 9000) kind.Cmp in
    absurd (cc)

pub activations_refuse : ActivationsRefuse
activations_refuse = record {
  no_sector_after_a_crossing = λ nest loaded after h. not_done (advance_of loaded.settings) _ refl
      (le-leb (8524 + wait_of (advance_of loaded.settings) 24000) 20600 (omega arith))
      (nest_fits nest loaded (commutes ++ (enters 8500 4 ∷ crosses 8524 ∷ leaves 8530 4 ∷ enters 20600 6 ∷ [])) after (leaves 20612 6) h).1;
  nobody_listens = unheard;
  cmp_enters_a_tick_late = late;
}
