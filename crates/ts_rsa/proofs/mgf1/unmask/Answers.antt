use Rattle.std.proofs.Common.{◌≡◌, ◌+◌, ◌-◌, ◌*◌, ◌/◌, ◌<◌, [], ◌∷◌, ◌++◌, length, get_or, bit_xor, sym, ap, ◌∙◌, arith, inl, inr}
use Rattle.std.proofs.lemmas.Bool.{cases_lt}
use Rattle.std.proofs.lemmas.List.{ext_get_or}
use Rattle.ts_rsa.specs.Pss.{mask_octet, unmasked_from}
use Rattle.ts_digest.specs.Hash.{hash_size, hash_of}
use Rattle.ts_rsa.proofs.PssLemmas.{block-small, all-covered, length-unmasked, octet-unmasked, mask-octet}
use Rattle.ts_rsa.proofs.mgf1.unmask.Goals as goal

pub loop-block-preserved : goal.loop-block-preserved
loop-block-preserved c =
    let l = c.loop-block in
    let hash = c.args.hash in
    let seed = c.args.seed.now in
    let old = c.args.octets.now in
    let b = l.block in
    let s = c.size_of_hash-size.result in
    let at = b * s in
    let mask = c.as_slice.result.now in
    let new = c.xor_block.new.octets in
    let size : s ≡ hash_size hash = c.size_of_hash-size.ensures.value in
    let items : mask ≡ hash_of hash (seed ++ (0 ∷ 0 ∷ 0 ∷ b ∷ []) ++ []) =
    c.as_slice.ensures.value ∙ c.hash_of_parts-mask.ensures.items in
    let long : length mask ≡ s =
    ap length c.as_slice.ensures.value ∙ c.hash_of_parts-mask.ensures.len ∙ sym size in
    let few : b < 256 =
    block-small b (length old) s
    (omega arith) c.size_of_hash-size.ensures.at_least c.requires in (
      (λ i h k. elim (cases_lt i at) [
        | inl p ↦ c.xor_block.ensures.below i p ∙ l.invariant.0 i p k
        | inr p ↦
            let j = i - at in
            let e : at + j ≡ i = omega arith in
            let inside : j < s = omega arith in
            let w = c.xor_block.ensures.within j (omega arith) (omega arith) in
            let o : get_or l.octets (at + j) 0 ≡ get_or old (at + j) 0 =
            l.invariant.1 (at + j) (omega arith) in
            let m : get_or mask j 0 ≡ mask_octet hash seed (at + j) =
            mask-octet hash seed mask b s j size inside few items in
            ap (λ z. get_or new z 0) (sym e) ∙ w ∙ (λ k. bit_xor (o k) (m k))
            ∙ ap (λ z. bit_xor (get_or old z 0) (mask_octet hash seed z)) e
      ]),
      (λ i h. c.xor_block.ensures.above i (omega arith) ∙ l.invariant.1 i (omega arith)),
    )

pub returns : goal.returns
returns c =
    let l = c.loop-block in
    let hash = c.args.hash in
    let seed = c.args.seed.now in
    let old = c.args.octets.now in
    let s = c.size_of_hash-size.result in
    let at_end : l.block ≡ length old / s + 1 = omega arith in
    let all : length old < l.block * s =
    omega (
      arith,
      all-covered (length old) s
          (omega (arith, c.size_of_hash-size.ensures.at_least)),
      ap (λ z. z * s) at_end,
    ) in
    ext_get_or 0 l.octets (unmasked_from hash seed 0 old)
    (omega (arith, length-unmasked hash seed 0 old))
    (λ i h.
    let within : i < length old = omega arith in
    let zero_more : 0 + i ≡ i = omega arith in
    l.invariant.0 i (omega arith) within
    ∙ sym (octet-unmasked hash seed 0 old i within
    ∙ ap (λ z. bit_xor (get_or old i 0) (mask_octet hash seed z)) zero_more))
