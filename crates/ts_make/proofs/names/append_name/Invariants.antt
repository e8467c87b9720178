use Rattle.std.proofs.Common.{◌≡◌, take}
use Rattle.std.specs.List.{flat_map}
use Rattle.ts_name.specs.NameEncoding.{encoded_rdn}
use Rattle.ts_make.specs.Description.{rdns_in}
use Rattle.ts_make.specs.Sayable.{AreTexts}
use Rattle.ts_make.proofs.names.append_name.Given as goal

-- the names that stand are those so far, and their texts are UTF-8
abbrev pub invariant-loop-rdn : goal.invariant-loop-rdn
invariant-loop-rdn l =
    record {
      written : l.names.items ≡ flat_map encoded_rdn (rdns_in (take l.rdn-index l.rdns));
      texts : AreTexts (take l.rdn-index l.rdns);
    }
