use Rattle.ts_rsa.proofs.BitLemmas.{bits-of-number}
use Rattle.ts_rsa.proofs.laws.bits_of_numbers.Goals as goal

pub returns : goal.returns
returns c = λ octets fit leading. bits-of-number octets fit leading
