-- What contracts see of words of a list that were decoded, and of the fields that they gather in.
use Rattle.std.specs.Prelude.{List, map}
use Rattle.ts_script.specs.declared.crl_words.CrlWord.{CrlWord}
use Rattle.ts_script.specs.declared.crl_words.CrlWord.TheVariants as word
use Rattle.ts_script.specs.declared.crl_fields.CrlFields.{CrlFields}
use Rattle.ts_script.specs.CrlLineWords.{CrlPart, revoked, numbered, based, some_reasons, at_uri}
use Rattle.ts_script.specs.CrlLineWords.{critical_unknown, Fields}

abbrev pub crl_part : CrlWord → CrlPart
crl_part (word.Entry entry) = revoked entry
crl_part (word.Number n) = numbered n
crl_part (word.Base n) = based n
crl_part (word.Reasons numbers) = some_reasons numbers.items
crl_part (word.Uri uri) = at_uri uri.now
crl_part (word.Critical oid) = critical_unknown oid

abbrev pub crl_parts : List CrlWord → List CrlPart
crl_parts words = map crl_part words

abbrev pub fields_in : CrlFields → Fields
fields_in f = record {
  entries = f.entries.items;
  number = f.number;
  base = f.base;
  reasons = f.reasons.items;
  uris = map (λ uri. uri.now) f.uris.items;
  critical = map (λ oid. oid.content.now) f.critical.items;
}
