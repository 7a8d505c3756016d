-- A request's bytes are read as that request.
use Rattle.std.proofs.Common.{◌≡◌, ◌≤◌, ◌<◌, ℕ, ◌+◌, ◌-◌, ◌%◌, Bool, true, ◌==◌, List, [], ◌∷◌, ◌++◌, length, length-append, take, drop, refl, sym, ◌∙◌, ap, arith}
use Rattle.std.proofs.Math.Seq.{take-append_seam}
use Rattle.std.proofs.lemmas.Bool.{eq-eqb, le-leb}
use Rattle.std.proofs.lemmas.Bool.Decides.{nat_tests}
use Rattle.byteorder.specs.Endian.{big_bytes, big_number}
use Rattle.fourway_packet.specs.declared.packet.Packet.TheVariants.{Whole}
use Rattle.fourway_packet.specs.Command.{count_of}
use Rattle.fourway_packet.specs.Crc.{crc_of}
use Rattle.fourway_packet.specs.Cut.{covered_of, len_of, packet_by, packet_of}
use Rattle.am32trace.specs.Request.{body_of, request_of, IsRequest}

count_back : (n : ℕ) → 1 ≤ n → n ≤ 256 → count_of (n % 256) ≡ n
count_back n some most = grind (arith, nat_tests)

number_back : (n : ℕ) (rest : List ℕ) → n < 65536 → big_number 2 (big_bytes 2 n ++ rest) ≡ n
number_back n rest small = omega arith

drop_seam : (xs ys : List ℕ) → drop (length xs) (xs ++ ys) ≡ ys
drop_seam [] ys = refl
drop_seam (x ∷ xs) ys = drop_seam xs ys

module _ (cmd addr : ℕ) (params : List ℕ) (some : 1 ≤ length params) (most : length params ≤ 256) where
  body : List ℕ
  body = body_of cmd addr params

  length_body : length body ≡ 5 + length params
  unfolding body
  length_body = omega arith

  covered : (sum : List ℕ) → covered_of (body ++ sum) ≡ length body
  unfolding body
  covered sum = ap (λ (n : ℕ). 5 + n) (count_back (length params) some most) ∙ sym length_body

  pub is_request : addr < 65536 → crc_of (body_of cmd addr params) < 65536 → IsRequest cmd addr params (request_of cmd addr params)
  unfolding body packet_of
  is_request small below =
      let crc : ℕ = crc_of body in
      let sum : List ℕ = big_bytes 2 crc in
      let c = covered sum in
      let len = length-append body sum in
      let sum_len : length sum ≡ 2 = refl in
      let right : (crc_of (take (covered_of (body ++ sum)) (body ++ sum)) == big_number 2 (drop (covered_of (body ++ sum)) (body ++ sum))) ≡ true =
      rw (c, take-append_seam body sum, drop_seam body sum) (eq-eqb crc (big_number 2 sum) (sym (number_back crc [] below))) in
      let count : covered_of (body ++ sum) - 5 ≡ length params = ap (λ (n : ℕ). n - 5) c ∙ (let l = length_body in omega arith) in
      record {
        complete = le-leb (len_of (body ++ sum)) (length (body ++ sum)) (let e = ap (λ (n : ℕ). n + 2) c in omega arith);
        no_more = let e = ap (λ (n : ℕ). n + 2) c in omega arith;
        whole =
            ap (λ (b : Bool). packet_by b (body ++ sum)) right
            ∙ ap (λ (l : List ℕ). Whole cmd (big_number 2 (big_bytes 2 addr ++ (length params % 256 ∷ params ++ sum))) l)
            (ap (λ (n : ℕ). take n (params ++ sum)) count ∙ take-append_seam params sum)
            ∙ ap (λ (n : ℕ). Whole cmd n params) (number_back addr (length params % 256 ∷ params ++ sum) small);
      }
