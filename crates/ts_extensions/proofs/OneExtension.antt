-- No two lists of octets are one extension, or one list of extensions: an extension as it stands, whose value is octets.
use Rattle.std.proofs.Common.{◌≡◌, ℕ, Bool, true, false, List, refl, sym, ◌∙◌}
use Rattle.ts_shape.specs.Fields.{Within, IsOid}
use Rattle.ts_shape.proofs.OneEncoding.{One, one-within, one-items}
use Rattle.ts_ext.specs.AuthorityKey.{AreOctetsOf}
use Rattle.ts_extensions.specs.Extension.{IsExtension, AreExtensions, AreExplicit}
use Rattle.ts_ext.specs.Encoding.{IfTrue}

one-flag : (b : Bool) (c d : List ℕ) → IfTrue 0x01 c b → IfTrue 0x01 d b → c ≡ d
one-flag false c d a b = a ∙ sym b
one-flag true c d a b = a ∙ sym b

pub one-extension : One IsExtension
one-extension c d x a b =
    let id = one-within 0x06 IsOid (λ v w n is other. is.0 ∙ sym other.0) a.id b.id x.extnID a.extnID b.extnID in
    let flag = one-flag x.critical a.flag b.flag a.critical b.critical in
    let value = one-within 0x04 AreOctetsOf (λ v w n is other. is ∙ sym other) a.value b.value x.extnValue a.extnValue b.extnValue in
    a.fields ∙ (rw (id, flag, value) refl ∙ sym b.fields)

pub one-extensions : One AreExtensions
one-extensions c d xs a b = one-items (Within 0x30 IsExtension) (one-within 0x30 IsExtension one-extension) xs c d a.1 b.1

pub one-explicit : One AreExplicit
one-explicit c d xs a b = one-within 0x30 AreExtensions one-extensions c d xs a b
