use Rattle.ts_der.specs.View.{now}
use Rattle.ts_ext.specs.NameViews.{authority_key_in}
use Rattle.ts_ext.proofs.Formats.{is_found, is_read, is_fault}
use Rattle.ts_ext.proofs.KeyAndConstraints.{authority_key-format}
use Rattle.ts_ext.proofs.authority_key_identifier.AuthorityKeyIdentifier.read.Goals as goal

pub returns-clause-found : goal.returns-clause-found
returns-clause-found c = is_found authority_key-format (now c.args.element) c.read_authority_key.result authority_key_in c.args.element.octets c.read_authority_key.ensures

pub returns-clause-only : goal.returns-clause-only
returns-clause-only c = is_read authority_key-format (now c.args.element) c.read_authority_key.result authority_key_in c.read_authority_key.ensures

pub returns-clause-fault : goal.returns-clause-fault
returns-clause-fault c = is_fault authority_key-format (now c.args.element) c.read_authority_key.result authority_key_in c.read_authority_key.ensures
