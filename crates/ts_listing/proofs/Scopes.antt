-- The octets of the extension that says what a list covers.
use Rattle.std.proofs.Common.{◌≡◌, ◌∙◌, ℕ, List, Option, ap}
use Rattle.std.specs.Prelude.{map, option_map}
use Rattle.std.specs.List.{find}
use Rattle.std.specs.Str.{bytes_eq}
use Rattle.ts_extensions.specs.declared.extension.Extension.{Extension as Borrowed}
use Rattle.ts_ext.specs.declared.known.Known.TheVariants.{IssuingDistributionPoint}
use Rattle.ts_extensions.specs.Extension.{Extension, Located, unlocated}
use Rattle.ts_extensions.specs.ExtensionView.{located_as}
use Rattle.ts_ext.specs.Known.{identifier_of}
use Rattle.ts_crl.specs.EntryView.{extension_as}
use Rattle.ts_crl.proofs.Finds.{seen-twice, unlocated-find}
use Rattle.ts_listing.specs.Listing.{scope_among}

abbrev pub value_in : Borrowed → List ℕ
value_in x = (extension_as x).extnValue

abbrev value_of : Extension → List ℕ
value_of x = x.extnValue

-- that of the extension that is found
pub scope_is : (r : Option Borrowed) (xs : List Located)
    → option_map located_as r ≡ find
    (λ x. bytes_eq x.extnID (identifier_of IssuingDistributionPoint)) xs
    → option_map value_in r ≡ scope_among (map unlocated xs)
scope_is r xs e =
    seen-twice extension_as value_of r
    ∙ ap (option_map value_of) (seen-twice located_as unlocated r ∙ ap (option_map unlocated) e ∙ unlocated-find IssuingDistributionPoint xs)
