-- What a mapping is refused as.
use Rattle.ts_script.proofs.extension_words.ExtensionWord.read_value.Goals as goal

pub returns-in-PolicyMapping-clause-fault : goal.returns-in-PolicyMapping-clause-fault
returns-in-PolicyMapping-clause-fault c = rw c.in-PolicyMapping.is c.mapping_in.ensures.fault
