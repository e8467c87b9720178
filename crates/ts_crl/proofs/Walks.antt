-- Items that were not refused are those of a walk.
use Rattle.std.proofs.Common.{◌≡◌, List, None, Result, Ok, Err, refl, sym, ap}
use Rattle.ts_der.specs.declared.fault.Fault.{Fault}
use Rattle.ts_der.specs.Answer.{refusal}
use Rattle.ts_der.specs.Element.{Place, Tlv}
use Rattle.ts_der.specs.Reading.{many}
use Rattle.ts_shape.specs.Items.{each, items_at}
use Rattle.ts_shape.proofs.ItemParts.{walk-all}

pub many-walked : {A : Type 0} (value : Tlv → Result A Fault) (here : Place) → None ≡ refusal (many (each value) here) → many (each value) here ≡ Ok (items_at value here)
many-walked {A} value here ok = by_items (many (each value) here) refl ok
  where
    by_items : (r : Result (List A) Fault) → many (each value) here ≡ r → None ≡ refusal r → r ≡ Ok (items_at value here)
    by_items (Ok xs) e ok = ap (λ (ys : List A). Ok ys) (sym (walk-all value here xs e))
    by_items (Err f) e ok = absurd cc
