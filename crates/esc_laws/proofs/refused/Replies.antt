-- The wrong journals break the laws of replies.
use Rattle.std.proofs.Common.{◌≡◌, ◌≤◌, ◌+◌, ℕ, true, false, List, [], ◌∷◌, ◌++◌, reverse, Option, Some, None, refl, sym, ◌∙◌, ap, subst, arith}
use Rattle.esc_base.specs.declared.kind.Kind.TheVariants as kind
use Rattle.esc_base.specs.declared.event.Event.{Event}
use Rattle.esc_base.specs.declared.note.Note.{Note}
use Rattle.esc_base.specs.Numbers.{mode_of}
use Rattle.esc_base.specs.Trace.{line}
use Rattle.edge_capture.specs.Burst.{burst}
use Rattle.gcr_reply.specs.Reply.{ReplyBits, line_of, reply_of}
use Rattle.gcr_reply.proofs.Replies.{reply_of-tells, same_reply}
use Rattle.settings_block.specs.declared.stored.Loaded.{Loaded}
use Rattle.interrupt_machine.specs.declared.nest.Nest.{Nest}
use Rattle.arming.proofs.InOrder.{each_at}
use Rattle.esc_laws.specs.Place.{Place, place}
use Rattle.esc_laws.specs.Rested.{first_rested}
use Rattle.esc_laws.specs.Replied.{reply_start, ReplyRuleAt, ReplyRule, Replied}
use Rattle.esc_laws.specs.Seen.{sees}
use Rattle.esc_laws.specs.Steps.{journal, open_in, free, after, StepFits}
use Rattle.esc_laws.specs.Looks.{placed}
use Rattle.esc_laws.specs.refused.Notes.{enters, leaves, window, bad, found, ticks, turns, first_two}
use Rattle.esc_laws.specs.refused.Steps.{entry}
use Rattle.esc_laws.specs.refused.Replies.{tells, replies, none_bits, thousand_bits, listens, with_frame, with_period, with_reply, changes_at, six_turns, seven_turns, later_frame, reply_ends, RepliesRefuse, ReplyWindowsRefuse, SomeAreReplied}
use Rattle.esc_laws.proofs.Rests.{first_more}
use Rattle.esc_laws.proofs.refused.Windows.{window_fits}
use Rattle.esc_laws.proofs.refused.Nesting.{nest_fits}
use Rattle.esc_laws.proofs.Placed.{placed-is}

-- ---- replies

reply_fits : (trace : List Event) (front after : List Note) (n : Note) → Replied trace (first_two ++ (front ++ n ∷ after))
    → ReplyRuleAt trace (placed (reverse (first_two ++ front))) (reverse (first_two ++ front)) n
reply_fits trace front after n whole =
    subst (λ (p : Place). ReplyRuleAt trace p (reverse (first_two ++ front)) n) (sym (placed-is (first_two ++ front)))
    (each_at (ReplyRule trace) [] (first_two ++ front) n after whole)

abbrev number_in : Option ℕ → ℕ
number_in None = 0
number_in (Some n) = n

none_told : reply_of None ≡ none_bits
unfolding reply_of line_of
none_told = refl

thousand_told : reply_of (Some 1000) ≡ thousand_bits
unfolding reply_of line_of
thousand_told = refl

-- the bits for no period are these alone
only_none : (bits : ℕ) → ReplyBits bits None → bits ≡ none_bits
only_none bits r = same_reply bits (reply_of None) None r (reply_of-tells None) ∙ none_told

start_early : reply_start (burst (line (changes_at 6000)).edges 5000 (mode_of 4)) 6204 ≡ 7440
unfolding line burst
start_early = refl

start_late : reply_start (burst (line (changes_at 6000)).edges 5000 (mode_of 4)) 7604 ≡ 7605
unfolding line burst
start_late = refl

pub replies_refuse : RepliesRefuse
replies_refuse = record {
  period_for_a_damaged_frame = λ trace after h. reply_fits trace (listens 4 ++ (enters 6160 3 ∷ bad 6200 5 ∷ [])) after (tells 6202 None) h;
  period_for_a_frame_in_mode_1 = λ trace after h. reply_fits trace (with_frame 1) after (tells 6202 None) h;
  period_for_a_detection = λ trace after h. reply_fits trace (enters 4200 3 ∷ found 4206 4 ∷ []) after (tells 4208 None) h;
  period_for_nothing = λ trace after h. reply_fits trace (listens 4) after (tells 5100 None) h;
  second_period = λ trace after h. reply_fits trace (with_period 4) after (tells 6204 None) h;
  reply_without_a_period = λ trace after h. reply_fits trace (with_frame 4) after (replies 6204 7440 none_bits) h;
  second_reply = λ trace after h. reply_fits trace (with_reply 4) after (replies 6206 7440 none_bits) h;
  no_period = λ trace after h. reply_fits trace (with_frame 4) after (leaves 6204 3) h refl;
  no_reply = λ trace after h. reply_fits trace (with_period 3) after (leaves 6204 3) h refl;
  period_without_a_drive = λ trace after h. (let e : Some 1000 ≡ None = reply_fits trace (with_frame 4) after (tells 6202 (Some 1000)) h in cc);
  period_with_six_turns = λ trace after h. (let e : Some 1000 ≡ None = reply_fits trace (six_turns ++ later_frame) after (tells 64002 (Some 1000)) h in cc);
  no_period_with_seven_turns = λ trace after h. (let e : None ≡ Some 1000 = reply_fits trace (seven_turns ++ later_frame) after (tells 64002 None) h in cc);
  another_period = λ trace after h. (let e : Some 999 ≡ Some 1000 = reply_fits trace (seven_turns ++ later_frame) after (tells 64002 (Some 999)) h in
      let n = ap number_in e in absurd (omega arith));
  period_before_the_newest_turn = λ trace after h. (let e : Some 1000 ≡ Some 1083 =
      reply_fits trace (seven_turns ++ (turns 62500 2 ∷ later_frame)) after (tells 64002 (Some 1000)) h in
      let n = ap number_in e in absurd (omega arith));
  period_after_the_drive = λ trace after h. (let e : Some 1000 ≡ None =
      reply_fits trace (seven_turns ++ (ticks 52804 22 0 0 ∷ later_frame)) after (tells 64002 (Some 1000)) h in cc);
  period_of_the_drive_before = λ trace after h. (let e : Some 1000 ≡ None =
      reply_fits trace (seven_turns ++ (ticks 52804 22 0 0 ∷ ticks 55204 23 0 20 ∷ later_frame)) after (tells 64002 (Some 1000)) h in cc);
  start_after_1439_ticks = λ after h. (let s = (reply_fits (changes_at 6000) (with_period 4) after (replies 6204 7439 none_bits) h).start_is in
      let e = s ∙ start_early in absurd (omega arith));
  start_after_1441_ticks = λ after h. (let s = (reply_fits (changes_at 6000) (with_period 4) after (replies 6204 7441 none_bits) h).start_is in
      let e = s ∙ start_early in absurd (omega arith));
  start_before_the_load = λ after h. (let s = (reply_fits (changes_at 6000) (with_period 4) after (replies 7604 7440 none_bits) h).start_is in
      let e = s ∙ start_late in absurd (omega arith));
  start_at_the_load = λ after h. (let s = (reply_fits (changes_at 6000) (with_period 4) after (replies 7604 7604 none_bits) h).start_is in
      let e = s ∙ start_late in absurd (omega arith));
  bits_of_another_period = λ trace after h. (let e = only_none thousand_bits
      (reply_fits trace (with_period 4) after (replies 6204 7440 thousand_bits) h).bits_are in absurd (omega arith));
  line_that_starts_high = λ trace after h. (let e = only_none (none_bits + 0x100000)
      (reply_fits trace (with_period 4) after (replies 6204 7440 (none_bits + 0x100000)) h).bits_are in absurd (omega arith));
}

-- ---- windows, activations and steps

rests_late : first_rested (line (changes_at 8700)).edges 8784 ≡ 8900
unfolding line first_rested
rests_late = refl

ends_open : (loaded : Loaded) → open_in loaded reply_ends ≡ []
unfolding place
ends_open loaded = refl

ends_after : (cost : ℕ) → after cost [] reply_ends ≡ 6200 + cost
unfolding after free
ends_after cost = refl

no_stall : (t : ℕ) → free [] t ≡ t
unfolding free
no_stall t = refl

cap_called : (loaded : Loaded) → sees loaded [] (journal loaded reply_ends) 8784 kind.Cap ≡ true
unfolding place line first_rested
cap_called loaded = refl

late : (loaded : Loaded) (nest : Nest) (cost : ℕ) → cost ≤ 16 → StepFits loaded nest cost [] reply_ends (entry 8785 kind.Cap) → ⊥
late loaded nest cost le f =
    let from = ends_after cost in
    let z : true ≡ false = sym (cap_called loaded) ∙ f.idle (ends_open loaded) 8784 (omega arith) (omega arith) (no_stall 8784) kind.Cap in
    absurd (cc)

pub reply_windows_refuse : ReplyWindowsRefuse
reply_windows_refuse = record {
  window_in_place_of_a_reply = λ trace loaded after h. (window_fits loaded trace (first_two ++ with_frame 4) after (window 6202 4) h).0;
  window_beside_the_reply = λ trace loaded after h. (window_fits loaded trace (first_two ++ with_reply 4) after (window 6206 4) h).0;
  window_before_the_end = λ trace loaded after h. (let o = (window_fits loaded trace (first_two ++ (with_reply 4 ++ (leaves 6208 3 ∷ enters 8783 3 ∷ []))) after
      (window 8785 4) h).0.rested in let more = first_more (line trace).edges 8784 in absurd (omega arith));
  window_before_the_end_in_mode_3 = λ trace loaded after h. (let o = (window_fits loaded trace (first_two
      ++ (with_reply 3 ++ (leaves 6208 3 ∷ enters 10127 3 ∷ []))) after (window 10129 3) h).0.rested in
      let more = first_more (line trace).edges 10128 in absurd (omega arith));
  window_before_the_rest = λ loaded after h. (let o = (window_fits loaded (changes_at 8700) (first_two
      ++ (with_reply 4 ++ (leaves 6208 3 ∷ enters 8899 3 ∷ []))) after (window 8901 4) h).0.rested in let rest = rests_late in absurd (omega arith));
  period_in_tick = λ nest loaded after h. (let e = nest_fits nest loaded (enters 2400 2 ∷ []) after (tells 2402 None) h in absurd (cc));
  reply_in_main = λ nest loaded after h. (let e = nest_fits nest loaded (enters 2400 0 ∷ []) after (replies 2402 2403 none_bits) h in absurd (cc));
  cap_enters_a_tick_late = late;
}

-- ---- and some that are right

none_right : ReplyBits none_bits None
none_right = subst (λ (bits : ℕ). ReplyBits bits None) none_told (reply_of-tells None)

thousand_right : ReplyBits thousand_bits (Some 1000)
thousand_right = subst (λ (bits : ℕ). ReplyBits bits (Some 1000)) thousand_told (reply_of-tells (Some 1000))

early : Replied (changes_at 6000) (first_two ++ (with_reply 4 ++ leaves 6206 3 ∷ []))
unfolding place line burst
early = (tt, (tt, (tt, (tt, (tt, (λ e. tt, (tt, (tt, (refl, (record { start_is = refl; bits_are = none_right }, (λ e. tt, tt)))))))))))

early_3 : Replied (changes_at 6000) (first_two ++ (with_reply 3 ++ leaves 6206 3 ∷ []))
unfolding place line burst
early_3 = (tt, (tt, (tt, (tt, (tt, (λ e. tt, (tt, (tt, (refl, (record { start_is = refl; bits_are = none_right }, (λ e. tt, tt)))))))))))

later : Replied (changes_at 6000) (first_two ++ (with_period 4 ++ (replies 7604 7605 none_bits ∷ leaves 7606 3 ∷ [])))
unfolding place line burst
later = (tt, (tt, (tt, (tt, (tt, (λ e. tt, (tt, (tt, (refl, (record { start_is = refl; bits_are = none_right }, (λ e. tt, tt)))))))))))

turning : Replied (changes_at 63700)
    (first_two ++ (seven_turns ++ (later_frame ++ (tells 64002 (Some 1000) ∷ replies 64004 65140 thousand_bits ∷ leaves 64006 3 ∷ []))))
unfolding place line burst
turning =
    (tt, (tt, (tt, (tt, (tt, (tt, (tt, (tt, (tt, (tt, (tt, (tt, (tt, (refl, (record { start_is = refl; bits_are = thousand_right }, (λ e. tt, tt))))))))))))))))

pub some_are_replied : SomeAreReplied
some_are_replied = record { without_a_period = early; without_a_period_in_mode_3 = early_3; loaded_late = later; with_a_period = turning }
