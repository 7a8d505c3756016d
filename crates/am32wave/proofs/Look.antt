-- What stands after one note more.
use Rattle.std.proofs.Common.{◌≡◌, ℕ, ◌+◌, ◌%◌, Bool, true, false, if◌then◌else◌, List, [], ◌∷◌, ◌++◌, Option, Some, unwrap_or, min, codes, refl, sym, ◌∙◌, ap, arith}
use Rattle.std.specs.List.{count_by}
use Rattle.std.proofs.lemmas.List.Sums.{sum_by-append}
use Rattle.esc_base.specs.declared.note.Note.{Note}
use Rattle.esc_base.specs.Journal.{time_of}
use Rattle.am32wave.specs.declared.picture.Heard.TheVariants as heard
use Rattle.am32wave.specs.Picture.{newest, count, high_told, low_told, sector_told, is_crossing, period_told, drive, with_drive, armed_told, demand_told, marks_told, cause_told, command_told, is_loss, is_command, is_save, control, with_control, heard_told, mode_told, value_told, telemetry_told, reply_told, is_reply, signal, with_signal, open_told, handlers, with_handlers, depth, picture, with_note, last_time}
use Rattle.am32wave.specs.declared.picture.Handlers.{Handlers}
use Rattle.am32wave.specs.Pieces.{time_text}
use Rattle.am32wave.specs.Sentence.{words}
use Rattle.am32wave.specs.Explained.{indent, depth_round, line}
use Rattle.am32wave.specs.Tally.{is_good, is_bad, is_detected, is_nothing, is_armed, is_lost, is_commutation, tally, with_tally}

newest_more : {A : Type 0} (tells : Note → Option A) (first : A) (notes : List Note) (n : Note)
    → newest tells first (notes ++ n ∷ []) ≡ unwrap_or (tells n) (newest tells first notes)
newest_more tells first [] n = refl
newest_more tells first (m ∷ notes) n = newest_more tells (unwrap_or (tells m) first) notes n

count_by_more : (is : Note → Bool) (notes : List Note) (n : Note) → count_by is (notes ++ n ∷ []) ≡ count_by is notes + (if is n then 1 else 0)
count_by_more is notes n = sum_by-append (λ x. if is x then 1 else 0) notes (n ∷ []) ∙ omega arith

count_as : (is : Note → Bool) (notes : List Note) (n : Note) (b : Bool) → is n ≡ b
    → count is (notes ++ n ∷ []) ≡ (if b then (count is notes + 1) % 4294967296 else count is notes)
count_as is notes n true e =
    let c : count_by is (notes ++ n ∷ []) ≡ count_by is notes + 1 = count_by_more is notes n
    ∙ ap (λ (b : Bool). count_by is notes + (if b then 1 else 0)) e in omega arith
count_as is notes n false e =
    let c : count_by is (notes ++ n ∷ []) ≡ count_by is notes + 0 = count_by_more is notes n
    ∙ ap (λ (b : Bool). count_by is notes + (if b then 1 else 0)) e in omega arith

pub count_more : (is : Note → Bool) (notes : List Note) (n : Note)
    → count is (notes ++ n ∷ []) ≡ (if is n then (count is notes + 1) % 4294967296 else count is notes)
count_more is notes n = count_as is notes n (is n) refl

drive_more : (notes : List Note) (n : Note) → drive (notes ++ n ∷ []) ≡ with_drive (drive notes) n
drive_more notes n =
    rw (
      newest_more high_told 0 notes n,
      newest_more low_told 0 notes n,
      newest_more sector_told 0 notes n,
      count_more is_crossing notes n,
      newest_more period_told 0 notes n,
    ) refl

control_more : (notes : List Note) (n : Note) → control (notes ++ n ∷ []) ≡ with_control (control notes) n
control_more notes n =
    rw (
      newest_more armed_told false notes n,
      newest_more demand_told 0 notes n,
      newest_more marks_told 0 notes n,
      newest_more cause_told 0 notes n,
      newest_more command_told 0 notes n,
      count_more is_loss notes n,
      count_more is_command notes n,
      count_more is_save notes n,
    ) refl

signal_more : (notes : List Note) (n : Note) → signal (notes ++ n ∷ []) ≡ with_signal (signal notes) n
signal_more notes n =
    rw (
      newest_more heard_told heard.Nowhere notes n,
      newest_more mode_told 0 notes n,
      newest_more value_told 0 notes n,
      newest_more telemetry_told 0 notes n,
      newest_more reply_told 0 notes n,
      count_more is_reply notes n,
    ) refl

pub handlers_more : (notes : List Note) (n : Note) → handlers (notes ++ n ∷ []) ≡ with_handlers (handlers notes) n
handlers_more notes n =
    rw (
      newest_more (open_told 0) false notes n,
      newest_more (open_told 1) false notes n,
      newest_more (open_told 2) false notes n,
      newest_more (open_told 3) false notes n,
      newest_more (open_told 4) false notes n,
      newest_more (open_told 5) false notes n,
      newest_more (open_told 6) false notes n,
    ) refl

pub picture_more : (notes : List Note) (n : Note) → picture (notes ++ n ∷ []) ≡ with_note (picture notes) n
picture_more notes n = rw (drive_more notes n, control_more notes n, signal_more notes n, handlers_more notes n) refl

pub last_time_more : (notes : List Note) (n : Note) → last_time (notes ++ n ∷ []) ≡ time_of n
last_time_more notes n = newest_more (λ m. Some (time_of m)) 0 notes n

pub tally_more : (notes : List Note) (n : Note) → tally (notes ++ n ∷ []) ≡ with_tally (tally notes) n
tally_more notes n =
    rw (
      count_more is_good notes n,
      count_more (is_bad 1) notes n,
      count_more (is_bad 2) notes n,
      count_more (is_bad 3) notes n,
      count_more (is_bad 4) notes n,
      count_more (is_bad 5) notes n,
      count_more is_detected notes n,
      count_more is_nothing notes n,
      count_more is_armed notes n,
      count_more (is_lost 0) notes n,
      count_more (is_lost 1) notes n,
      count_more (is_lost 2) notes n,
      count_more is_commutation notes n,
      count_more is_crossing notes n,
    ) refl

-- ---- a note's line in words

pub line_is : (notes : List Note) (n : Note) (new ind said : List ℕ) (t d : ℕ) (was now : Handlers) → was ≡ handlers notes → now ≡ with_handlers was n
    → t ≡ time_of n → d ≡ min (depth was) (depth now) → ind ≡ indent d → said ≡ words n
    → new ≡ time_text t ++ codes "  " ++ ind ++ said ++ codes "\n" → new ≡ line notes n
line_is notes n new ind said t d was now is_was is_now is_t is_d is_ind is_said is_new =
    let after : now ≡ handlers (notes ++ n ∷ []) = is_now ∙ ap (λ (h : Handlers). with_handlers h n) is_was ∙ sym (handlers_more notes n) in
    let round : d ≡ depth_round notes n =
    is_d ∙ ap (λ (h : Handlers). min (depth h) (depth now)) is_was ∙ ap (λ (h : Handlers). min (depth (handlers notes)) (depth h)) after in
    is_new ∙ ap (λ (u : ℕ). time_text u ++ codes "  " ++ ind ++ said ++ codes "\n") is_t
    ∙ ap (λ (i : List ℕ). time_text (time_of n) ++ codes "  " ++ i ++ said ++ codes "\n") (is_ind ∙ ap indent round)
    ∙ ap (λ (w : List ℕ). time_text (time_of n) ++ codes "  " ++ indent (depth_round notes n) ++ w ++ codes "\n") is_said
