-- An algorithm identifier that has the octets of one that was read.
use Rattle.std.proofs.Common.{◌≡◌, ℕ, List, [], ◌++◌, Ok, sym, ap, subst, ◌∙◌}
use Rattle.ts_der.specs.Element.{Tlv, Fits, encode}
use Rattle.ts_der.proofs.Unique.{one-element}
use Rattle.ts_shape.specs.Fields.{Within}
use Rattle.ts_field.specs.Algorithm.{Algorithm, algorithm_of, IsAlgorithm}
use Rattle.ts_field.proofs.Algorithms.{algorithm-value}

pub beside : (e : Tlv) (a : Algorithm) (octets : List ℕ) → Fits 0x30 e.content → e.whole ≡ encode 0x30 e.content → Within 0x30 IsAlgorithm octets a → e.whole ≡ a.whole → algorithm_of e ≡ Ok a
beside e a octets fits encoded within same =
    let is : IsAlgorithm within.content a = within.value in
    let both : encode 0x30 e.content ++ [] ≡ encode 0x30 within.content ++ [] = ap (λ (w : List ℕ). w ++ []) (sym encoded ∙ (same ∙ is.whole)) in
    let content : e.content ≡ within.content = (one-element 0x30 0x30 e.content within.content [] [] fits within.fits both).1 in
    algorithm-value.again e a encoded (subst (λ (c : List ℕ). IsAlgorithm c a) (sym content) is)
