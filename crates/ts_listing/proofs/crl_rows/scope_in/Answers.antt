use Rattle.std.proofs.Common.{◌∙◌, Option, List, ℕ, [], sym, ap}
use Rattle.std.specs.Prelude.{option_map, unwrap_or}
use Rattle.ts_extensions.specs.declared.extension.Extension.{Extension as Borrowed}
use Rattle.ts_extensions.specs.ExtensionView.{all_located_in}
use Rattle.ts_listing.specs.Listing.{first_octets}
use Rattle.ts_listing.proofs.Scopes.{scope_is, value_in}
use Rattle.ts_listing.proofs.crl_rows.scope_in.Goals as goal

pub returns-in-Some-clause-front : goal.returns-in-Some-clause-front
returns-in-Some-clause-front c =
    let e = scope_is c.find.result (all_located_in c.args.extensions) c.find.ensures in
    c.cut.ensures.front
    ∙ ap first_octets (ap (λ (o : Option Borrowed). unwrap_or (option_map value_in o) []) (sym c.in-Some.is) ∙ ap (λ (o : Option (List ℕ)). unwrap_or o []) e)

pub returns-in-None-clause-front : goal.returns-in-None-clause-front
returns-in-None-clause-front c =
    let e = scope_is c.find.result (all_located_in c.args.extensions) c.find.ensures in
    ap first_octets (ap (λ (o : Option Borrowed). unwrap_or (option_map value_in o) []) (sym c.in-None.is) ∙ ap (λ (o : Option (List ℕ)). unwrap_or o []) e)
