use Rattle.std.proofs.Common.{◌∙◌}
use Rattle.dshot_frame.proofs.Numbers.{digit-from_bool}
use Rattle.dshot_frame.proofs.Encoded.{verdict_of-encoded}
use Rattle.dshot_frame.proofs.word.encode.Goals as goal

pub returns : goal.returns
returns c = λ m s h i.
    verdict_of-encoded m s c.args.inverted c.args.frame.value c.from.result c.args.frame.telemetry c.checksum.result
    h i c.requires (c.from.ensures ∙ digit-from_bool c.args.frame.telemetry) c.checksum.ensures.small c.checksum.ensures.value
