use Rattle.std.proofs.Common.{◌≤◌, length, ap, arith}
use Rattle.ts_command.specs.Commands.{command_encoding}
use Rattle.ts_command.proofs.Encoded.{encoding_short}
use Rattle.ts_wire.proofs.writing.push_command.Goals as goal

pub push_blob32-requires : goal.push_blob32-requires
push_blob32-requires c =
    let short : length (command_encoding c.args.command.now) ≤ 4194325 = encoding_short c.args.command.now c.in_ok-octets.ensures.fits in
    omega (arith, short, ap length c.as_slice.ensures.value, ap length c.in_ok-octets.ensures.encoded)
