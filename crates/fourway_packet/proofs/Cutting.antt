-- Packets are cut one byte at a time: what bytes further on give is what they give behind the packet that has begun.
use Rattle.std.proofs.Common.{◌≡◌, ◌≤◌, ◌<◌, ℕ, zero, suc, ◌+◌, ◌-◌, Bool, true, false, not, ◌&&◌, ◌==◌, nat_le, if◌then◌else◌, List, [], ◌∷◌, ◌++◌, length, take, slice_index, refl, sym, ◌∙◌, ap, arith, append_assoc}
use Rattle.std.proofs.Math.ListN.{get_or-append}
use Rattle.std.proofs.lemmas.List.{take-append-le, length-append, length-map, map-append}
use Rattle.std.proofs.lemmas.Bool.Decides.{nat_tests}
use Rattle.esc_base.specs.declared.tick.Tick.{Tick}
use Rattle.fourway_packet.specs.declared.packet.Packet.{Packet}
use Rattle.fourway_packet.specs.declared.packets.Received.{Received}
use Rattle.fourway_packet.specs.Command.{count_of}
use Rattle.fourway_packet.specs.Cut.{len_of, is_complete, packet_of, bytes_of, is_late, in_time, begins, run_of, packets_at, passed, cut_behind, cut, is_open, unfinished_behind, unfinished}

-- ---- bytes in time

more_at : (b : Bool) (r : Received) (xs ys more : List Received) → ys ≡ xs ++ more
    → (m : List Received) × ((if b then [] else r ∷ ys) ≡ (if b then [] else r ∷ xs) ++ m)
more_at true r xs ys more e = ([], refl)
more_at false r xs ys more e = (more, ap (λ (l : List Received). r ∷ l) e)

-- bytes further on only add to them
more_in_time : (t : Tick) (rest ys : List Received) → (more : List Received) × (in_time t (rest ++ ys) ≡ in_time t rest ++ more)
more_in_time t [] ys = (in_time t ys, refl)
more_in_time t (r ∷ rest) ys = let m = more_in_time r.t rest ys in more_at (is_late t r.t) r (in_time r.t rest) (in_time r.t (rest ++ ys)) m.0 m.1

few_at : (b : Bool) (r : Received) (xs ys : List Received) → length xs ≤ length ys → length (if b then [] else r ∷ xs) ≤ length (r ∷ ys)
few_at true r xs ys le = omega arith
few_at false r xs ys le = omega arith

length-in_time : (t : Tick) (rest : List Received) → length (in_time t rest) ≤ length rest
length-in_time t [] = omega arith
length-in_time t (r ∷ rest) = few_at (is_late t r.t) r (in_time r.t rest) rest (length-in_time r.t rest)

pub shorter : (a b : ℕ) (e : Bool) → (suc a == suc b) ≡ e → (a == b) ≡ e
shorter a b true e = grind (arith, nat_tests)
shorter a b false e = grind (arith, nat_tests)

stops_at : (b : Bool) (r : Received) (xs ys rest : List Received) → ((length xs == length rest) ≡ false → ys ≡ xs)
    → (length (if b then [] else r ∷ xs) == length (r ∷ rest)) ≡ false
    → (if b then [] else r ∷ ys) ≡ (if b then [] else r ∷ xs)
stops_at true r xs ys rest h e = refl
stops_at false r xs ys rest h e = ap (λ (l : List Received). r ∷ l) (h (shorter (length xs) (length rest) false e))

-- and nothing, where one of them is late
stops : (t : Tick) (rest ys : List Received) → (length (in_time t rest) == length rest) ≡ false → in_time t (rest ++ ys) ≡ in_time t rest
stops t [] ys e = absurd (let f = e in cc)
stops t (r ∷ rest) ys e = stops_at (is_late t r.t) r (in_time r.t rest) (in_time r.t (rest ++ ys)) rest (stops r.t rest ys) e

-- ---- the front of the bytes

abbrev pub front_packets : Bool → List ℕ → List Packet
front_packets b run = if b && is_complete run then packet_of (take (len_of run) run) ∷ [] else []

abbrev pub front_passed : Bool → List ℕ → ℕ → ℕ
front_passed b run n = if b then (if is_complete run then len_of run - 1 else n) else 0

record SameFront (first : Received) (rest more : List Received) : Type 0 where
  packets : packets_at first more ≡ packets_at first rest
  pass : passed first more ≡ passed first rest
  shut : is_open first more ≡ false

pub le_from : (a b : ℕ) → nat_le a b ≡ true → a ≤ b
le_from a b e = grind (arith, nat_tests)

pub le_to : (a b : ℕ) → a ≤ b → nat_le a b ≡ true
le_to a b le = grind (arith, nat_tests)

pub not_le : (a b : ℕ) → nat_le a b ≡ false → b < a
not_le a b e = grind (arith, nat_tests)

record StaysComplete (run more : List ℕ) : Type 0 where
  complete : is_complete (run ++ more) ≡ true
  len : len_of (run ++ more) ≡ len_of run
  bytes : take (len_of run) (run ++ more) ≡ take (len_of run) run

stays_complete : (run more : List ℕ) → is_complete run ≡ true → StaysComplete run more
stays_complete run more e =
    let le : len_of run ≤ length run = le_from (len_of run) (length run) e in
    let same : slice_index (run ++ more) 4 ≡ slice_index run 4 = get_or-append run more 0 4 (omega arith) in
    let len : len_of (run ++ more) ≡ len_of run = ap (λ (n : ℕ). 5 + count_of n + 2) same in
    record {
      complete = rw len (le_to (len_of run) (length (run ++ more)) (simp length-append (omega arith)));
      len = len;
      bytes = take-append-le (len_of run) run more le;
    }

pub whole_packets : (run : List ℕ) → is_complete run ≡ true → front_packets true run ≡ packet_of (take (len_of run) run) ∷ []
whole_packets run e = rw e refl

pub whole_passed : (run : List ℕ) (n : ℕ) → is_complete run ≡ true → front_passed true run n ≡ len_of run - 1
whole_passed run n e = rw e refl

pub no_packets : (run : List ℕ) → is_complete run ≡ false → front_packets true run ≡ []
no_packets run e = rw e refl

pub all_passed : (run : List ℕ) (n : ℕ) → is_complete run ≡ false → front_passed true run n ≡ n
all_passed run n e = rw e refl

pub shut_whole : (a b c : Bool) → b ≡ true → (a && not b && c) ≡ false
shut_whole true true c e = refl
shut_whole false true c e = refl
shut_whole a false c e = absurd (let f = e in cc)

pub shut_late : (a b c : Bool) → c ≡ false → (a && not b && c) ≡ false
shut_late true true c e = refl
shut_late true false false e = refl
shut_late true false true e = e
shut_late false b c e = refl

still_less : (a b c : ℕ) → a ≤ b → b ≤ c → (a == b) ≡ false → (a == c) ≡ false
still_less a b c ab bc e = grind (arith, nat_tests)

same_front_at : (b c e : Bool) (first : Received) (rest ys : List Received) → begins first ≡ b → is_complete (run_of first rest) ≡ c
    → (length (in_time first.t rest) == length rest) ≡ e
    → (b && not c && e) ≡ false → SameFront first rest (rest ++ ys)
same_front_at false c e first rest ys hb hc he not_open = record { packets = rw hb refl; pass = rw hb refl; shut = rw hb refl }
same_front_at true true e first rest ys hb hc he not_open =
    let m = more_in_time first.t rest ys in
    let runs : run_of first (rest ++ ys) ≡ run_of first rest ++ bytes_of m.0 =
    ap (λ (l : List Received). first.byte ∷ bytes_of l) m.1 ∙ ap (λ (l : List ℕ). first.byte ∷ l) (map-append (λ r. r.byte) (in_time first.t rest) m.0) in
    let s = stays_complete (run_of first rest) (bytes_of m.0) hc in
    let s_len : len_of (run_of first (rest ++ ys)) ≡ len_of (run_of first rest) = ap (λ (l : List ℕ). len_of l) runs ∙ s.len in
    let s_complete : is_complete (run_of first (rest ++ ys)) ≡ true = ap (λ (l : List ℕ). is_complete l) runs ∙ s.complete in
    let s_bytes : take (len_of (run_of first (rest ++ ys))) (run_of first (rest ++ ys)) ≡ take (len_of (run_of first rest)) (run_of first rest) =
    ap (λ (n : ℕ). take n (run_of first (rest ++ ys))) s_len ∙ ap (λ (l : List ℕ). take (len_of (run_of first rest)) l) runs ∙ s.bytes in
    record {
      packets =
          ap (λ (b : Bool). front_packets b (run_of first (rest ++ ys))) hb
          ∙ whole_packets (run_of first (rest ++ ys)) s_complete
          ∙ ap (λ (l : List ℕ). packet_of l ∷ []) s_bytes
          ∙ sym (ap (λ (b : Bool). front_packets b (run_of first rest)) hb ∙ whole_packets (run_of first rest) hc);
      pass =
          ap (λ (b : Bool). front_passed b (run_of first (rest ++ ys)) (length (in_time first.t (rest ++ ys)))) hb
          ∙ whole_passed (run_of first (rest ++ ys)) (length (in_time first.t (rest ++ ys))) s_complete
          ∙ ap (λ (n : ℕ). n - 1) s_len
          ∙ sym (ap (λ (b : Bool). front_passed b (run_of first rest) (length (in_time first.t rest))) hb
          ∙ whole_passed (run_of first rest) (length (in_time first.t rest)) hc);
      shut = shut_whole (begins first) (is_complete (run_of first (rest ++ ys))) (length (in_time first.t (rest ++ ys)) == length (rest ++ ys)) s_complete;
    }
same_front_at true false true first rest ys hb hc he not_open = absurd (let f = not_open in cc)
same_front_at true false false first rest ys hb hc he not_open =
    let same : in_time first.t (rest ++ ys) ≡ in_time first.t rest = stops first.t rest ys he in
    record {
      packets = ap (λ (l : List Received). front_packets (begins first) (bytes_of (first ∷ l))) same;
      pass = ap (λ (l : List Received). front_passed (begins first) (bytes_of (first ∷ l)) (length l)) same;
      shut =
          let few : length (in_time first.t rest) ≤ length rest = length-in_time first.t rest in
          let more : length rest ≤ length (rest ++ ys) = simp length-append (omega arith) in
          let late : (length (in_time first.t (rest ++ ys)) == length (rest ++ ys)) ≡ false =
          ap (λ (l : List Received). length l == length (rest ++ ys)) same
          ∙ still_less (length (in_time first.t rest)) (length rest) (length (rest ++ ys)) few more he in
          shut_late (begins first) (is_complete (run_of first (rest ++ ys))) (length (in_time first.t (rest ++ ys)) == length (rest ++ ys)) late;
    }

-- where no packet is open, bytes further on change nothing of the front
same_front : (first : Received) (rest ys : List Received) → is_open first rest ≡ false → SameFront first rest (rest ++ ys)
same_front first rest ys not_open =
    same_front_at (begins first) (is_complete (run_of first rest)) (length (in_time first.t rest) == length rest) first rest ys refl refl refl not_open

passed_at : (b c : Bool) (len n most : ℕ) → (c ≡ true → len ≤ n + 1) → n ≤ most → (if b then (if c then len - 1 else n) else 0) ≤ most
passed_at false c len n most whole le = omega arith
passed_at true true len n most whole le = let w : len ≤ n + 1 = whole refl in omega arith
passed_at true false len n most whole le = le

few_passed : (first : Received) (rest : List Received) → passed first rest ≤ length rest
few_passed first rest =
    passed_at (begins first) (is_complete (run_of first rest)) (len_of (run_of first rest)) (length (in_time first.t rest)) (length rest)
    (λ e. let le : len_of (run_of first rest) ≤ length (run_of first rest) = le_from (len_of (run_of first rest)) (length (run_of first rest)) e in
    let same : length (run_of first rest) ≡ length (in_time first.t rest) + 1 = simp length-map (omega arith) in
    omega arith)
    (length-in_time first.t rest)

-- ---- an open packet

pub record Open (first : Received) (rest : List Received) : Type 0 where
  pub begun : begins first ≡ true
  pub short : is_complete (run_of first rest) ≡ false
  pub timely : (length (in_time first.t rest) == length rest) ≡ true

all_three : (a b c : Bool) → (a && not b && c) ≡ true → (a ≡ true) × (b ≡ false) × (c ≡ true)
all_three true false true e = (refl, refl, refl)
all_three true false false e = absurd (let f = e in cc)
all_three true true c e = absurd (let f = e in cc)
all_three false b c e = absurd (let f = e in cc)

opened : (first : Received) (rest : List Received) → is_open first rest ≡ true → Open first rest
opened first rest e =
    let p = all_three (begins first) (is_complete (run_of first rest)) (length (in_time first.t rest) == length rest) e in
    record { begun = p.0; short = p.1; timely = p.2 }

same_number : (a b : ℕ) → (a == b) ≡ true → a ≡ b
same_number a b e = grind (arith, nat_tests)

open_packets : (first : Received) (rest : List Received) → Open first rest → packets_at first rest ≡ []
open_packets first rest o = ap (λ (b : Bool). front_packets b (run_of first rest)) o.begun ∙ no_packets (run_of first rest) o.short

open_passed : (first : Received) (rest : List Received) → Open first rest → passed first rest ≡ length rest
open_passed first rest o =
    ap (λ (b : Bool). front_passed b (run_of first rest) (length (in_time first.t rest))) o.begun
    ∙ all_passed (run_of first rest) (length (in_time first.t rest)) o.short
    ∙ same_number (length (in_time first.t rest)) (length rest) o.timely

pub behind_all : (xs : List Received) → cut_behind (length xs) xs ≡ []
unfolding cut_behind
behind_all [] = refl
behind_all (r ∷ xs) = behind_all xs

-- ---- bytes further on

cut_at : (o : Bool) (first : Received) (rest ys : List Received) → is_open first rest ≡ o
    → ((k : ℕ) → k ≤ length rest → cut_behind k (rest ++ ys) ≡ cut_behind k rest ++ cut (unfinished_behind k rest ++ ys))
    → packets_at first (rest ++ ys) ++ cut_behind (passed first (rest ++ ys)) (rest ++ ys)
    ≡ (packets_at first rest ++ cut_behind (passed first rest) rest) ++ cut ((if o then first ∷ rest else unfinished_behind (passed first rest) rest) ++ ys)
unfolding cut_behind
cut_at true first rest ys e ih =
    let o = opened first rest e in
    let none : packets_at first rest ++ cut_behind (passed first rest) rest ≡ [] =
    ap (λ (l : List Packet). l ++ cut_behind (passed first rest) rest) (open_packets first rest o)
    ∙ ap (λ (n : ℕ). cut_behind n rest) (open_passed first rest o) ∙ behind_all rest in
    ap (λ (l : List Packet). l ++ cut (first ∷ (rest ++ ys))) (sym none)
cut_at false first rest ys e ih =
    let s = same_front first rest ys e in
    ap (λ (l : List Packet). l ++ cut_behind (passed first (rest ++ ys)) (rest ++ ys)) s.packets
    ∙ ap (λ (n : ℕ). packets_at first rest ++ cut_behind n (rest ++ ys)) s.pass
    ∙ ap (λ (l : List Packet). packets_at first rest ++ l) (ih (passed first rest) (few_passed first rest))
    ∙ sym (append_assoc (packets_at first rest) (cut_behind (passed first rest) rest) (cut (unfinished_behind (passed first rest) rest ++ ys)))

cut_on : (xs ys : List Received) (k : ℕ) → k ≤ length xs → cut_behind k (xs ++ ys) ≡ cut_behind k xs ++ cut (unfinished_behind k xs ++ ys)
unfolding cut_behind unfinished_behind
cut_on [] ys zero le = refl
cut_on [] ys (suc k) le = absurd (omega arith)
cut_on (first ∷ rest) ys (suc k) le = cut_on rest ys k (omega arith)
cut_on (first ∷ rest) ys zero le = cut_at (is_open first rest) first rest ys refl (λ k few. cut_on rest ys k few)

pub shut_behind : (o : Bool) (xs ys : List Received) → o ≡ false → (if o then xs else ys) ≡ ys
shut_behind false xs ys e = refl
shut_behind true xs ys e = absurd (let f = e in cc)

unfinished_at : (o : Bool) (first : Received) (rest ys : List Received) → is_open first rest ≡ o
    → ((k : ℕ) → k ≤ length rest → unfinished_behind k (rest ++ ys) ≡ unfinished (unfinished_behind k rest ++ ys))
    → unfinished (first ∷ (rest ++ ys)) ≡ unfinished ((if o then first ∷ rest else unfinished_behind (passed first rest) rest) ++ ys)
unfolding unfinished_behind
unfinished_at true first rest ys e ih = refl
unfinished_at false first rest ys e ih =
    let s = same_front first rest ys e in
    shut_behind (is_open first (rest ++ ys)) (first ∷ (rest ++ ys)) (unfinished_behind (passed first (rest ++ ys)) (rest ++ ys)) s.shut
    ∙ ap (λ (n : ℕ). unfinished_behind n (rest ++ ys)) s.pass
    ∙ ih (passed first rest) (few_passed first rest)

unfinished_on : (xs ys : List Received) (k : ℕ) → k ≤ length xs → unfinished_behind k (xs ++ ys) ≡ unfinished (unfinished_behind k xs ++ ys)
unfolding unfinished_behind
unfinished_on [] ys zero le = refl
unfinished_on [] ys (suc k) le = absurd (omega arith)
unfinished_on (first ∷ rest) ys (suc k) le = unfinished_on rest ys k (omega arith)
unfinished_on (first ∷ rest) ys zero le = unfinished_at (is_open first rest) first rest ys refl (λ k few. unfinished_on rest ys k few)

-- the packets in all bytes are those in the first ones, and those behind the packet that they have begun
pub cut-append : (xs ys : List Received) → cut (xs ++ ys) ≡ cut xs ++ cut (unfinished xs ++ ys)
cut-append xs ys = cut_on xs ys 0 (omega arith)

pub unfinished-append : (xs ys : List Received) → unfinished (xs ++ ys) ≡ unfinished (unfinished xs ++ ys)
unfinished-append xs ys = unfinished_on xs ys 0 (omega arith)

-- ---- what has begun is open

unfoldable pub IsOpen : List Received → Type 0
IsOpen [] = Unit {0}
IsOpen (first ∷ rest) = Open first rest

unfinished_open_at : (o : Bool) (first : Received) (rest : List Received) (n : ℕ) → is_open first rest ≡ o → ((k : ℕ) → IsOpen (unfinished_behind k rest))
    → IsOpen (if o then first ∷ rest else unfinished_behind n rest)
unfolding IsOpen
unfinished_open_at true first rest n e ih = opened first rest e
unfinished_open_at false first rest n e ih = ih n

pub unfinished_open : (xs : List Received) (k : ℕ) → IsOpen (unfinished_behind k xs)
unfolding IsOpen unfinished_behind
unfinished_open [] k = tt
unfinished_open (first ∷ rest) (suc k) = unfinished_open rest k
unfinished_open (first ∷ rest) zero = unfinished_open_at (is_open first rest) first rest (passed first rest) refl (λ k. unfinished_open rest k)
