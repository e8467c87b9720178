use Rattle.ts_command.proofs.Encoded.{one_encoding_of}
use Rattle.ts_command.proofs.codec.CommandCodec.one_encoding.Goals as goal

pub returns : goal.returns
returns c = one_encoding_of
