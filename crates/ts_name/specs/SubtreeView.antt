-- What contracts see of a general subtree that is borrowed.
use Rattle.std.specs.Prelude.{[], ◌∷◌, unwrap_or, option_map}
use Rattle.ts_name.specs.declared.subtree.Subtree.{Subtree}
use Rattle.ts_name.specs.GeneralView.{general_in}
use Rattle.ts_name.specs.Subtree.{GeneralSubtree}

-- its fields as octets, without where they lie in memory; a minimum that is absent is 0
abbrev pub subtree_in : Subtree → GeneralSubtree
subtree_in s =
    record {
      base = general_in s.base;
      minimum = unwrap_or (option_map (λ i. i.octets.now) s.minimum) (0 ∷ []);
      maximum = option_map (λ i. i.octets.now) s.maximum;
    }
