use Rattle.std.proofs.Common.{◌≡◌, ◌∙◌, ◌++◌, ℕ, codes, ap, sym, rules}
use Rattle.settings_block.specs.declared.block.BlockFault.{BlockFault}
use Rattle.am32sim.specs.Show.{field_line, block_fault_text}
use Rattle.am32sim.proofs.show.push_block_fault.Goals as goal

pub returns-in-Range-clause-bytes : goal.returns-in-Range-clause-bytes
returns-in-Range-clause-bytes c =
    let same : c.from.result ≡ c.in-Range.offset = search rules in
    c.push_field.ensures.bytes ∙ ap (λ (n : ℕ). c.args.text.now.bytes ++ field_line (codes "block range") n) same
    ∙ ap (λ (f : BlockFault). c.args.text.now.bytes ++ block_fault_text f) (sym c.in-Range.is)
