-- One byte more: what it makes of a packet that has begun.
use Rattle.std.proofs.Common.{◌≡◌, ◌≤◌, ◌<◌, ℕ, suc, ◌+◌, ◌-◌, Bool, true, false, not, ◌&&◌, ◌==◌, if◌then◌else◌, List, [], ◌∷◌, ◌++◌, length, take, slice_index, option_to_list, Option, Some, slice_get, refl, sym, ◌∙◌, ap, subst, arith}
use Rattle.std.proofs.Math.ListN.{get_or-append}
use Rattle.std.proofs.Math.Seq.{take-length}
use Rattle.std.proofs.Math.Dec.{eqb-suc-zero}
use Rattle.std.proofs.lemmas.List.{length-append, length-map, map-append}
use Rattle.std.proofs.lemmas.Bool.Decides.{nat_tests}
use Rattle.esc_base.specs.declared.tick.Tick.{Tick}
use Rattle.fourway_packet.specs.declared.packet.Packet.{Packet}
use Rattle.fourway_packet.specs.declared.packets.Received.{Received}
use Rattle.fourway_packet.specs.Command.{count_of}
use Rattle.fourway_packet.specs.Cut.{len_of, is_complete, packet_of, bytes_of, is_late, in_time, begins, run_of, packets_at, passed, cut_behind, cut, is_open, unfinished_behind, unfinished}
use Rattle.fourway_packet.specs.Part.{packet_or_none, with_byte, grown_of}
use Rattle.fourway_packet.specs.Queue.{newest_of, Queue, HasTaken}
use Rattle.fourway_packet.proofs.Cutting.{front_packets, front_passed, whole_packets, whole_passed, no_packets, all_passed, le_from, not_le, shorter, shut_whole, shut_late, shut_behind, behind_all, Open, IsOpen, cut-append, unfinished-append, unfinished_open}

-- ---- bytes that all come in time

Timely : Tick → List Received → Type 0
Timely t [] = Unit {0}
Timely t (r ∷ rest) = (is_late t r.t ≡ false) × Timely r.t rest

none_of_some : (n : ℕ) → (0 == suc n) ≡ true → ⊥
none_of_some n e = grind (arith, nat_tests)

timely_at : (b : Bool) (r : Received) (xs rest : List Received) → (length (if b then [] else r ∷ xs) == length (r ∷ rest)) ≡ true
    → (b ≡ false) × ((length xs == length rest) ≡ true)
timely_at true r xs rest e = absurd (none_of_some (length rest) e)
timely_at false r xs rest e = (refl, shorter (length xs) (length rest) true e)

timely : (t : Tick) (rest : List Received) → (length (in_time t rest) == length rest) ≡ true → Timely t rest
unfolding Timely
timely t [] e = tt
timely t (r ∷ rest) e = let p = timely_at (is_late t r.t) r (in_time r.t rest) rest e in (p.0, timely r.t rest p.1)

all_in_time : (t : Tick) (rest : List Received) → Timely t rest → in_time t rest ≡ rest
unfolding Timely
all_in_time t [] h = refl
all_in_time t (r ∷ rest) h = rw h.0 (ap (λ (l : List Received). r ∷ l) (all_in_time r.t rest h.1))

late_one : (t : Tick) (rest : List Received) (r : Received) → Timely t rest → is_late (newest_of t rest) r.t ≡ true → in_time t (rest ++ r ∷ []) ≡ rest
unfolding Timely
late_one t [] r h e = rw e refl
late_one t (x ∷ rest) r h e = rw h.0 (ap (λ (l : List Received). x ∷ l) (late_one x.t rest r h.1 e))

timely_one : (t : Tick) (rest : List Received) (r : Received) → Timely t rest → is_late (newest_of t rest) r.t ≡ false
    → in_time t (rest ++ r ∷ []) ≡ rest ++ r ∷ []
unfolding Timely
timely_one t [] r h e = rw e refl
timely_one t (x ∷ rest) r h e = rw h.0 (ap (λ (l : List Received). x ∷ l) (timely_one x.t rest r h.1 e))

newest_last : (t : Tick) (rest : List Received) (r : Received) → newest_of t (rest ++ r ∷ []) ≡ r.t
newest_last t [] r = refl
newest_last t (x ∷ rest) r = newest_last x.t rest r

-- ---- the byte that completes a packet is its last one

pub some_asked : (n : ℕ) → 0 < count_of n
some_asked n = some_at (n == 0) n refl where
  some_at : (b : Bool) (n : ℕ) → (n == 0) ≡ b → 0 < (if b then 256 else n)
  some_at true n e = omega arith
  some_at false n e = grind (arith, nat_tests)

exact_len : (part : List ℕ) (b : ℕ) → is_complete part ≡ false → is_complete (part ++ b ∷ []) ≡ true → len_of (part ++ b ∷ []) ≡ length (part ++ b ∷ [])
exact_len part b short complete =
    let le : len_of (part ++ b ∷ []) ≤ length (part ++ b ∷ []) = le_from (len_of (part ++ b ∷ [])) (length (part ++ b ∷ [])) complete in
    let more : length (part ++ b ∷ []) ≡ length part + 1 = length-append part (b ∷ []) in
    let some : 0 < count_of (slice_index (part ++ b ∷ []) 4) = some_asked (slice_index (part ++ b ∷ []) 4) in
    let same : slice_index (part ++ b ∷ []) 4 ≡ slice_index part 4 = get_or-append part (b ∷ []) 0 4 (omega arith) in
    let len : len_of (part ++ b ∷ []) ≡ len_of part = ap (λ (n : ℕ). 5 + count_of n + 2) same in
    let less : length part < len_of part = not_le (len_of part) (length part) short in
    omega arith

-- ---- one byte more

pub record Step (begun : List Received) (r : Received) (grown : List ℕ) : Type 0 where
  pub packet : cut (begun ++ r ∷ []) ≡ option_to_list (packet_or_none grown)
  pub part : bytes_of (unfinished (begun ++ r ∷ [])) ≡ (if is_complete grown then [] else grown)
  pub newest : newest_of r.t (unfinished (begun ++ r ∷ [])) ≡ r.t

alone_at : (b : Bool) (r : Received) → begins r ≡ b → Step [] r (with_byte [] r.byte)
unfolding cut_behind unfinished_behind
alone_at true r e = record { packet = rw e refl; part = rw e refl; newest = rw e refl }
alone_at false r e = record { packet = rw e refl; part = rw e refl; newest = rw e refl }

-- behind the bytes that are passed over
cut_front : (xs ys : List Received) → cut_behind (length xs) (xs ++ ys) ≡ cut ys
unfolding cut_behind
cut_front [] ys = refl
cut_front (r ∷ xs) ys = cut_front xs ys

unfinished_front : (xs ys : List Received) → unfinished_behind (length xs) (xs ++ ys) ≡ unfinished ys
unfolding unfinished_behind
unfinished_front [] ys = refl
unfinished_front (r ∷ xs) ys = unfinished_front xs ys

unfinished_all : (xs : List Received) → unfinished_behind (length xs) xs ≡ []
unfolding unfinished_behind
unfinished_all [] = refl
unfinished_all (r ∷ xs) = unfinished_all xs

-- what the front of the bytes is, for the packets and for what is begun
record Front (first : Received) (rest : List Received) (packets : List Packet) (n : ℕ) : Type 0 where
  packets_is : packets_at first rest ≡ packets
  passed_is : passed first rest ≡ n

cut_by : (first : Received) (rest : List Received) (packets : List Packet) (n : ℕ) → Front first rest packets n
    → cut (first ∷ rest) ≡ packets ++ cut_behind n rest
unfolding cut_behind
cut_by first rest packets n f =
    ap (λ (l : List Packet). l ++ cut_behind (passed first rest) rest) f.packets_is ∙ ap (λ (m : ℕ). packets ++ cut_behind m rest) f.passed_is

shut_by : (first : Received) (rest : List Received) (packets : List Packet) (n : ℕ) → Front first rest packets n → is_open first rest ≡ false
    → unfinished (first ∷ rest) ≡ unfinished_behind n rest
unfolding unfinished_behind
shut_by first rest packets n f shut =
    shut_behind (is_open first rest) (first ∷ rest) (unfinished_behind (passed first rest) rest) shut ∙ ap (λ (m : ℕ). unfinished_behind m rest) f.passed_is

open_by : (o : Bool) (xs ys : List Received) → o ≡ true → (if o then xs else ys) ≡ xs
open_by true xs ys e = refl
open_by false xs ys e = absurd (let f = e in cc)

opens : (first : Received) (rest : List Received) → is_open first rest ≡ true → unfinished (first ∷ rest) ≡ first ∷ rest
unfolding unfinished_behind
opens first rest e = open_by (is_open first rest) (first ∷ rest) (unfinished_behind (passed first rest) rest) e

-- a front without a whole packet
short_front : (first : Received) (rest : List Received) (n : ℕ) → begins first ≡ true → is_complete (run_of first rest) ≡ false
    → length (in_time first.t rest) ≡ n → Front first rest [] n
short_front first rest n begun short len = record {
  packets_is = ap (λ (b : Bool). front_packets b (run_of first rest)) begun ∙ no_packets (run_of first rest) short;
  passed_is =
      ap (λ (b : Bool). front_passed b (run_of first rest) (length (in_time first.t rest))) begun
      ∙ all_passed (run_of first rest) (length (in_time first.t rest)) short ∙ len;
}

not_one_more : (n m : ℕ) → m ≡ n + 1 → (n == m) ≡ false
not_one_more n m e = grind (arith, nat_tests)

-- the byte is late
late_step : (first : Received) (rest : List Received) (r : Received) → Open first rest → is_late (newest_of first.t rest) r.t ≡ true
    → Step (first ∷ rest) r (with_byte [] r.byte)
late_step first rest r o late =
    let h = timely first.t rest o.timely in
    let same : in_time first.t (rest ++ r ∷ []) ≡ rest = late_one first.t rest r h late in
    let before : in_time first.t rest ≡ rest = all_in_time first.t rest h in
    let runs : run_of first (rest ++ r ∷ []) ≡ run_of first rest = ap (λ (l : List Received). bytes_of (first ∷ l)) (same ∙ sym before) in
    let front : Front first (rest ++ r ∷ []) [] (length rest) =
    short_front first (rest ++ r ∷ []) (length rest) o.begun (ap (λ (l : List ℕ). is_complete l) runs ∙ o.short) (ap (λ (l : List Received). length l) same) in
    let fewer : (length (in_time first.t (rest ++ r ∷ [])) == length (rest ++ r ∷ [])) ≡ false =
    ap (λ (l : List Received). length l == length (rest ++ r ∷ [])) same ∙ not_one_more (length rest) (length (rest ++ r ∷ [])) (length-append rest (r ∷ [])) in
    let shut : is_open first (rest ++ r ∷ []) ≡ false =
    shut_late (begins first) (is_complete (run_of first (rest ++ r ∷ []))) (length (in_time first.t (rest ++ r ∷ [])) == length (rest ++ r ∷ [])) fewer in
    let begun_is : unfinished (first ∷ (rest ++ r ∷ [])) ≡ unfinished (r ∷ []) =
    shut_by first (rest ++ r ∷ []) [] (length rest) front shut ∙ unfinished_front rest (r ∷ []) in
    let alone = alone_at (begins r) r refl in
    record {
      packet = cut_by first (rest ++ r ∷ []) [] (length rest) front ∙ cut_front rest (r ∷ []) ∙ alone.packet;
      part = ap (λ (l : List Received). bytes_of l) begun_is ∙ alone.part;
      newest = ap (λ (l : List Received). newest_of r.t l) begun_is ∙ alone.newest;
    }

-- what is told, and what is left, by whether the bytes are complete
abbrev told_by : Bool → List ℕ → List Packet
told_by c bytes = if c then packet_of bytes ∷ [] else []

told_packet : (c : Bool) (bytes : List ℕ) → is_complete bytes ≡ c → option_to_list (packet_or_none bytes) ≡ told_by c bytes
told_packet true bytes e = rw e refl
told_packet false bytes e = rw e refl

left_of : (c : Bool) (bytes : List ℕ) → is_complete bytes ≡ c → (if is_complete bytes then [] else bytes) ≡ (if c then [] else bytes)
left_of c bytes e = rw e refl

abbrev longer : Received → List Received → Received → List ℕ
longer first rest r = bytes_of (first ∷ rest) ++ r.byte ∷ []

record Longer (first : Received) (rest : List Received) (r : Received) : Type 0 where
  begun : begins first ≡ true
  short : is_complete (bytes_of (first ∷ rest)) ≡ false
  timely : in_time first.t (rest ++ r ∷ []) ≡ rest ++ r ∷ []
  run_is : run_of first (rest ++ r ∷ []) ≡ longer first rest r

timely_step : (c : Bool) (first : Received) (rest : List Received) (r : Received) → Longer first rest r → is_complete (longer first rest r) ≡ c
    → Step (first ∷ rest) r (longer first rest r)
timely_step true first rest r l complete =
    let run_complete : is_complete (run_of first (rest ++ r ∷ [])) ≡ true = ap (λ (b : List ℕ). is_complete b) l.run_is ∙ complete in
    let exact : len_of (longer first rest r) ≡ length (longer first rest r) = exact_len (bytes_of (first ∷ rest)) r.byte l.short complete in
    let run_len : len_of (run_of first (rest ++ r ∷ [])) ≡ length (longer first rest r) = ap (λ (b : List ℕ). len_of b) l.run_is ∙ exact in
    let front : Front first (rest ++ r ∷ []) (packet_of (longer first rest r) ∷ []) (length (rest ++ r ∷ [])) = record {
      packets_is =
          ap (λ (b : Bool). front_packets b (run_of first (rest ++ r ∷ []))) l.begun
          ∙ whole_packets (run_of first (rest ++ r ∷ [])) run_complete
          ∙ ap (λ (n : ℕ). packet_of (take n (run_of first (rest ++ r ∷ []))) ∷ []) run_len
          ∙ ap (λ (b : List ℕ). packet_of (take (length (longer first rest r)) b) ∷ []) l.run_is
          ∙ ap (λ (b : List ℕ). packet_of b ∷ []) (take-length (longer first rest r));
      passed_is =
          ap (λ (b : Bool). front_passed b (run_of first (rest ++ r ∷ [])) (length (in_time first.t (rest ++ r ∷ [])))) l.begun
          ∙ whole_passed (run_of first (rest ++ r ∷ [])) (length (in_time first.t (rest ++ r ∷ []))) run_complete
          ∙ ap (λ (n : ℕ). n - 1) run_len
          ∙ one_less (length (longer first rest r)) (length (rest ++ r ∷ [])) (longer_len first rest r);
    } in
    let shut : is_open first (rest ++ r ∷ []) ≡ false =
    shut_whole (begins first) (is_complete (run_of first (rest ++ r ∷ [])))
    (length (in_time first.t (rest ++ r ∷ [])) == length (rest ++ r ∷ [])) run_complete in
    let begun_is : unfinished (first ∷ (rest ++ r ∷ [])) ≡ [] =
    shut_by first (rest ++ r ∷ []) (packet_of (longer first rest r) ∷ []) (length (rest ++ r ∷ [])) front shut ∙ unfinished_all (rest ++ r ∷ []) in
    record {
      packet =
          cut_by first (rest ++ r ∷ []) (packet_of (longer first rest r) ∷ []) (length (rest ++ r ∷ [])) front
          ∙ ap (λ (ps : List Packet). packet_of (longer first rest r) ∷ [] ++ ps) (behind_all (rest ++ r ∷ []))
          ∙ sym (told_packet true (longer first rest r) complete);
      part = ap (λ (b : List Received). bytes_of b) begun_is ∙ sym (left_of true (longer first rest r) complete);
      newest = ap (λ (b : List Received). newest_of r.t b) begun_is;
    } where
      one_less : (n m : ℕ) → n ≡ m + 1 → n - 1 ≡ m
      one_less n m e = omega arith

      longer_len : (first : Received) (rest : List Received) (r : Received) → length (longer first rest r) ≡ length (rest ++ r ∷ []) + 1
      longer_len first rest r = simp (length-append, length-map) (omega arith)
timely_step false first rest r l complete =
    let run_short : is_complete (run_of first (rest ++ r ∷ [])) ≡ false = ap (λ (b : List ℕ). is_complete b) l.run_is ∙ complete in
    let front : Front first (rest ++ r ∷ []) [] (length (rest ++ r ∷ [])) =
    short_front first (rest ++ r ∷ []) (length (rest ++ r ∷ [])) l.begun run_short (ap (λ (b : List Received). length b) l.timely) in
    let all : (length (in_time first.t (rest ++ r ∷ [])) == length (rest ++ r ∷ [])) ≡ true =
    ap (λ (b : List Received). length b == length (rest ++ r ∷ [])) l.timely ∙ itself (length (rest ++ r ∷ [])) in
    let still : is_open first (rest ++ r ∷ []) ≡ true = all_of (begins first) (is_complete (run_of first (rest ++ r ∷ []))) _ l.begun run_short all in
    let begun_is : unfinished (first ∷ (rest ++ r ∷ [])) ≡ first ∷ (rest ++ r ∷ []) = opens first (rest ++ r ∷ []) still in
    record {
      packet =
          cut_by first (rest ++ r ∷ []) [] (length (rest ++ r ∷ [])) front
          ∙ behind_all (rest ++ r ∷ [])
          ∙ sym (told_packet false (longer first rest r) complete);
      part =
          ap (λ (b : List Received). bytes_of b) begun_is
          ∙ ap (λ (b : List ℕ). first.byte ∷ b) (map-append (λ r. r.byte) rest (r ∷ []))
          ∙ sym (left_of false (longer first rest r) complete);
      newest = ap (λ (b : List Received). newest_of r.t b) begun_is ∙ newest_last first.t rest r;
    } where
      itself : (n : ℕ) → (n == n) ≡ true
      itself n = grind (arith, nat_tests)

      all_of : (a b c : Bool) → a ≡ true → b ≡ false → c ≡ true → (a && not b && c) ≡ true
      all_of a b c ha hb hc = rw (ha, hb, hc) refl

-- ---- any byte

kept_none : (b : Bool) (none : List ℕ) → (if b then none else none) ≡ none
kept_none true none = refl
kept_none false none = refl

with_one : (first byte : ℕ) (rest : List ℕ) → with_byte (first ∷ rest) byte ≡ first ∷ (rest ++ byte ∷ [])
with_one first byte rest = rw (eqb-suc-zero (length rest)) refl

longer_of : (first : Received) (rest : List Received) (r : Received) → Open first rest → is_late (newest_of first.t rest) r.t ≡ false → Longer first rest r
longer_of first rest r o late =
    let h = timely first.t rest o.timely in
    let all : in_time first.t (rest ++ r ∷ []) ≡ rest ++ r ∷ [] = timely_one first.t rest r h late in
    let before : in_time first.t rest ≡ rest = all_in_time first.t rest h in
    record {
      begun = o.begun;
      short = ap (λ (l : List Received). is_complete (bytes_of (first ∷ l))) (sym before) ∙ o.short;
      timely = all;
      run_is = ap (λ (l : List Received). bytes_of (first ∷ l)) all ∙ ap (λ (l : List ℕ). first.byte ∷ l) (map-append (λ r. r.byte) rest (r ∷ []));
    }

some_step : (b : Bool) (first : Received) (rest : List Received) (r : Received) → Open first rest → is_late (newest_of first.t rest) r.t ≡ b
    → Step (first ∷ rest) r (with_byte (if b then [] else bytes_of (first ∷ rest)) r.byte)
some_step true first rest r o e = late_step first rest r o e
some_step false first rest r o e =
    rw (with_one first.byte r.byte (bytes_of rest)) (timely_step (is_complete (longer first rest r)) first rest r (longer_of first rest r o e) refl)

pub one_more : (begun : List Received) (r : Received) (newest : Tick) → IsOpen begun → newest_of newest begun ≡ newest
    → Step begun r (grown_of (bytes_of begun) newest r)
unfolding IsOpen
one_more [] r newest h e = rw (kept_none (is_late newest r.t) []) (alone_at (begins r) r refl)
one_more (first ∷ rest) r newest h e =
    let same : is_late (newest_of first.t rest) r.t ≡ is_late newest r.t = ap (λ (t : Tick). is_late t r.t) e in
    some_step (is_late newest r.t) first rest r h same

-- ---- in a queue

pub first_taken : (waiting : List Received) (r : Received) → slice_get waiting 0 ≡ Some r → take 1 waiting ≡ r ∷ []
first_taken [] r e = absurd (let f = e in cc)
first_taken (x ∷ waiting) r e = ap (λ (y : Received). y ∷ []) (let f = e in cc)

-- a byte was taken from a queue
pub record Takes (q next : Queue) (r : Received) (packet : Option Packet) : Type 0 where
  pub first : slice_get q.waiting 0 ≡ Some r
  pub packet_is : packet ≡ packet_or_none (grown_of q.part q.newest r)
  pub part_is : next.part ≡ (if is_complete (grown_of q.part q.newest r) then [] else grown_of q.part q.newest r)
  pub newest_is : next.newest ≡ r.t

step_of : (q : Queue) (r : Received) (taken : List Received) → HasTaken q taken → Step (unfinished taken) r (grown_of q.part q.newest r)
step_of q r taken h =
    let step = one_more (unfinished taken) r q.newest (unfinished_open taken 0) h.newest_is in
    subst (λ (l : List ℕ). Step (unfinished taken) r (grown_of l q.newest r)) (sym h.part_is) step

pub taken_cut : (q next : Queue) (r : Received) (packet : Option Packet) (taken : List Received) → Takes q next r packet → HasTaken q taken
    → cut (taken ++ take 1 q.waiting) ≡ cut taken ++ option_to_list packet
taken_cut q next r packet taken t h =
    ap (λ (l : List Received). cut (taken ++ l)) (first_taken q.waiting r t.first)
    ∙ cut-append taken (r ∷ [])
    ∙ ap (λ (l : List Packet). cut taken ++ l) ((step_of q r taken h).packet ∙ ap (λ (o : Option Packet). option_to_list o) (sym t.packet_is))

pub taken_on : (q next : Queue) (r : Received) (packet : Option Packet) (taken : List Received) → Takes q next r packet → HasTaken q taken
    → HasTaken next (taken ++ take 1 q.waiting)
taken_on q next r packet taken t h =
    let step = step_of q r taken h in
    let one = first_taken q.waiting r t.first in
    let begun : unfinished (unfinished taken ++ r ∷ []) ≡ unfinished (taken ++ take 1 q.waiting) =
    sym (unfinished-append taken (r ∷ [])) ∙ ap (λ (l : List Received). unfinished (taken ++ l)) (sym one) in
    record {
      part_is = t.part_is ∙ sym step.part ∙ ap (λ (l : List Received). bytes_of l) begun;
      newest_is =
          ap (λ (l : List Received). newest_of next.newest l) (sym begun)
          ∙ ap (λ (t : Tick). newest_of t (unfinished (unfinished taken ++ r ∷ []))) t.newest_is ∙ step.newest ∙ sym t.newest_is;
    }
