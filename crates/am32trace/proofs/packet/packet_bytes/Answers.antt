use Rattle.std.proofs.Common.{◌≡◌, ◌<◌, ◌^◌, ◌++◌, ℕ, List, sym, ◌∙◌, ap, subst, arith}
use Rattle.byteorder.specs.Endian.{big_bytes}
use Rattle.fourway_packet.specs.Crc.{crc_of}
use Rattle.am32trace.specs.Request.{body_of, request_of, IsRequest}
use Rattle.am32trace.proofs.Requests.{is_request}
use Rattle.am32trace.proofs.packet.packet_bytes.Goals as goal

pub returns : goal.returns
returns c =
    let cmd = c.args.cmd in
    let addr = c.args.addr in
    let params : List ℕ = c.args.params.now in
    let body_is : c.append.new.bytes.items ≡ body_of cmd addr params = c.append.ensures ∙ ap (λ (l : List ℕ). l ++ params) c.head-bytes.ensures in
    let sum : c.crc16-crc.result ≡ crc_of (body_of cmd addr params) = c.crc16-crc.ensures.crc ∙ ap crc_of (c.as_slice.ensures.value ∙ body_is) in
    let whole : c.append_number.new.bytes.items ≡ request_of cmd addr params =
    c.append_number.ensures ∙ ap (λ (l : List ℕ). l ++ big_bytes 2 c.crc16-crc.result) body_is
    ∙ ap (λ (n : ℕ). body_of cmd addr params ++ big_bytes 2 n) sum in
    let below : c.crc16-crc.result < 2 ^ 16 = c.crc16-crc.ensures.remainder.below in
    subst (λ (l : List ℕ). IsRequest cmd addr params l) (sym whole)
    (is_request cmd addr params (omega arith) (omega arith) (omega arith) (omega arith))
