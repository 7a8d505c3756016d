-- How many notes of each sort there are, and the summary that says so.
use Rattle.std.specs.Prelude.{ℕ, ◌+◌, ◌%◌, Bool, true, false, ◌==◌, if◌then◌else◌, List, ◌++◌, codes, decimal}
use Rattle.esc_base.specs.declared.note.Note.{Note}
use Rattle.esc_base.specs.declared.note.Note.TheVariants as note
use Rattle.am32wave.specs.declared.tally.Tally.{Tally}
use Rattle.am32wave.specs.Picture.{count, is_crossing}

abbrev pub is_good : Note → Bool
is_good (note.Good t v q) = true
is_good n = false

-- a bad frame, by the number of what is wrong with it
abbrev pub is_bad : ℕ → Note → Bool
is_bad why (note.Bad t w) = w == why
is_bad why n = false

abbrev pub is_detected : Note → Bool
is_detected (note.Detected t m) = true
is_detected n = false

abbrev pub is_nothing : Note → Bool
is_nothing (note.Nothing t) = true
is_nothing n = false

abbrev pub is_armed : Note → Bool
is_armed (note.Armed t) = true
is_armed n = false

-- a loss, by the number of its cause
abbrev pub is_lost : ℕ → Note → Bool
is_lost cause (note.Lost t c) = c == cause
is_lost cause n = false

abbrev pub is_commutation : Note → Bool
is_commutation (note.Step t s) = true
is_commutation n = false

abbrev pub tally : List Note → Tally
tally notes = record {
  good = count is_good notes;
  bad_count = count (is_bad 1) notes;
  bad_polarity = count (is_bad 2) notes;
  bad_span = count (is_bad 3) notes;
  bad_width = count (is_bad 4) notes;
  bad_check = count (is_bad 5) notes;
  detected = count is_detected notes;
  nothing = count is_nothing notes;
  armed = count is_armed notes;
  timeout = count (is_lost 0) notes;
  stuck = count (is_lost 1) notes;
  fuse = count (is_lost 2) notes;
  commutations = count is_commutation notes;
  crossings = count is_crossing notes;
}

-- one more, where it is so
abbrev pub more : ℕ → Bool → ℕ
more n is_so = if is_so then (n + 1) % 4294967296 else n

abbrev pub with_tally : Tally → Note → Tally
with_tally c n = record {
  good = more c.good (is_good n);
  bad_count = more c.bad_count (is_bad 1 n);
  bad_polarity = more c.bad_polarity (is_bad 2 n);
  bad_span = more c.bad_span (is_bad 3 n);
  bad_width = more c.bad_width (is_bad 4 n);
  bad_check = more c.bad_check (is_bad 5 n);
  detected = more c.detected (is_detected n);
  nothing = more c.nothing (is_nothing n);
  armed = more c.armed (is_armed n);
  timeout = more c.timeout (is_lost 0 n);
  stuck = more c.stuck (is_lost 1 n);
  fuse = more c.fuse (is_lost 2 n);
  commutations = more c.commutations (is_commutation n);
  crossings = more c.crossings (is_crossing n);
}

-- ---- the summary, line by line

-- good frames, and bad ones by the number of edges and the polarity
abbrev pub frames : Tally → List ℕ
frames c =
    codes "good frames " ++ decimal c.good ++ codes "\nbad frames: number of edges " ++ decimal c.bad_count ++ codes ", polarity " ++ decimal c.bad_polarity

-- bad frames by the span, the width of a bit and the checksum
abbrev pub bad_frames : Tally → List ℕ
bad_frames c = codes ", span " ++ decimal c.bad_span ++ codes ", width of a bit " ++ decimal c.bad_width ++ codes ", checksum " ++ decimal c.bad_check

abbrev pub detections_and_armings : Tally → List ℕ
detections_and_armings c = codes "\ndetected " ++ decimal c.detected ++ codes ", nothing " ++ decimal c.nothing ++ codes "\narmed " ++ decimal c.armed

abbrev pub losses : Tally → List ℕ
losses c = codes "\nlost: timeout " ++ decimal c.timeout ++ codes ", stuck " ++ decimal c.stuck ++ codes ", fuse " ++ decimal c.fuse

abbrev pub commutations : Tally → List ℕ
commutations c = codes "\ncommutations " ++ decimal c.commutations ++ codes "\ncrossings " ++ decimal c.crossings ++ codes "\n"

abbrev pub summary : Tally → List ℕ
summary c = frames c ++ bad_frames c ++ detections_and_armings c ++ losses c ++ commutations c
