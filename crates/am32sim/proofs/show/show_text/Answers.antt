use Rattle.std.proofs.Common.{◌≡◌, ◌∙◌, ◌++◌, [], ◌+◌, ◌*◌, List, ℕ, codes, ap, rules}
use Rattle.am32sim.specs.Show.{fault_text}
use Rattle.settings_block.specs.Settings.{input_number}
use Rattle.esc_base.specs.Numbers.{bit_of}
use Rattle.am32sim.proofs.Shows.{line_more}
use Rattle.am32sim.proofs.show.show_text.Goals as goal

pub returns : goal.returns
returns c =
    let s = c.args.loaded.now.settings in
    let t0 : c.push_fault.new.text.bytes ≡ fault_text c.args.loaded.now.fault =
    let none : c.new-text.result.bytes ≡ [] = search rules in
    c.push_fault.ensures.bytes ∙ ap (λ (xs : List ℕ). xs ++ fault_text c.args.loaded.now.fault) none in
    let t1 = line_more c.push_fault.new.text.bytes c.push_field.new.text.bytes
    (codes "direction") c.from.result s.direction _ c.push_field.ensures.bytes t0 (search rules) in
    let t2 = line_more c.push_field.new.text.bytes c.push_field-2.new.text.bytes (codes "three_d") c.from-2.result
    (bit_of s.three_d) _ c.push_field-2.ensures.bytes t1 (search rules) in
    let t3 = line_more c.push_field-2.new.text.bytes c.push_field-3.new.text.bytes (codes "complementary") c.from-3.result
    (bit_of s.complementary) _ c.push_field-3.ensures.bytes t2 (search rules) in
    let t4 = line_more c.push_field-3.new.text.bytes c.push_field-4.new.text.bytes
    (codes "advance") c.from-4.result s.advance _ c.push_field-4.ensures.bytes t3 (search rules) in
    let t5 = line_more c.push_field-4.new.text.bytes c.push_field-5.new.text.bytes
    (codes "poles") c.from-5.result s.poles _ c.push_field-5.ensures.bytes t4 (search rules) in
    let t6 = line_more c.push_field-5.new.text.bytes c.push_field-6.new.text.bytes (codes "servo_low") (2 * c.from-6.result + 750)
    (2 * s.low + 750) _ c.push_field-6.ensures.bytes t5 (search rules) in
    let t7 = line_more c.push_field-6.new.text.bytes c.push_field-7.new.text.bytes (codes "servo_high") (2 * c.from-7.result + 1750)
    (2 * s.high + 1750) _ c.push_field-7.ensures.bytes t6 (search rules) in
    let t8 = line_more c.push_field-7.new.text.bytes c.push_field-8.new.text.bytes (codes "neutral") (c.from-8.result + 1374)
    (s.neutral + 1374) _ c.push_field-8.ensures.bytes t7 (search rules) in
    let t9 = line_more c.push_field-8.new.text.bytes c.push_field-9.new.text.bytes
    (codes "dead_band") c.from-9.result s.dead_band _ c.push_field-9.ensures.bytes t8 (search rules) in
    line_more c.push_field-9.new.text.bytes c.push_field-10.new.text.bytes (codes "input") c.input_number.result
    (input_number s.input) _ c.push_field-10.ensures.bytes t9 (search rules)
