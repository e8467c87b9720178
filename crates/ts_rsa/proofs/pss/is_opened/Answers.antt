use Rattle.std.proofs.Common.{◌≡◌, ◌+◌, ◌-◌, ◌*◌, ◌++◌, true, length, drop, replicate, sym, ap, ◌∙◌, arith}
use Rattle.ts_digest.specs.Hash.{hash_of}
use Rattle.ts_rsa.specs.Pss.{hash_in, zeros_in}
use Rattle.ts_rsa.proofs.DataLemmas.{zeros-then-one, zeros-before, one-after, placed}
use Rattle.ts_rsa.proofs.pss.is_opened.Goals as goal

pub returns-then-not-are_zero : goal.returns-then-not-are_zero
returns-then-not-are_zero c =
    let xs = c.args.block.now in
    let place = length c.args.em.now - 2 * c.size_of_hash.result - 2 in
    let zeros = zeros_in c.args.hash c.args.em.now in
    let spot : place ≡ zeros = omega (arith, c.size_of_hash.ensures.value) in (
      (λ t. absurd (cc)),
      (λ p.
          let all = zeros-before xs c.split_at.result.0.now (drop (place + 1) xs) place
          c.split_at.ensures.front c.split_at.ensures.front_len (placed xs place zeros spot p.0) in
          let r : c.are_zero.result ≡ true = c.are_zero.ensures.1 all in
          absurd (cc)),
    )

pub returns-then-block-place-ne1 : goal.returns-then-block-place-ne1
returns-then-block-place-ne1 c =
    let xs = c.args.block.now in
    let place = length c.args.em.now - 2 * c.size_of_hash.result - 2 in
    let zeros = zeros_in c.args.hash c.args.em.now in
    let spot : place ≡ zeros = omega (arith, c.size_of_hash.ensures.value) in (
      (λ t. absurd (cc)),
      (λ p. absurd (c.if-block-place-ne1.true (one-after xs (drop (place + 1) xs) place
          (placed xs place zeros spot p.0)))),
    )

pub returns : goal.returns
returns c =
    let hash = c.args.hash in
    let em = c.args.em.now in
    let message = c.args.message.now.octets.now in
    let xs = c.args.block.now in
    let place = length em - 2 * c.size_of_hash.result - 2 in
    let zeros = zeros_in hash em in
    let spot : place ≡ zeros = omega (arith, c.size_of_hash.ensures.value) in
    let parts = placed xs zeros place (sym spot)
    (zeros-then-one xs c.split_at.result.0.now place (omega arith) c.split_at.ensures.front
    c.split_at.ensures.front_len (c.are_zero.ensures.0 c.if-not-are_zero.false)
    c.if-block-place-ne1.false) in
    let salt : c.split_at-2.result.1.now ≡ drop (zeros + 1) xs =
    c.split_at-2.ensures.back ∙ ap (λ z. drop (z + 1) xs) spot in
    let inner : c.as_slice.result.now ≡ hash_of hash message =
    c.as_slice.ensures.value ∙ c.hash_by-inner.ensures.items in
    let outer : c.as_slice-2.result.now
    ≡ hash_of hash (replicate 8 0 ++ hash_of hash message ++ drop (zeros + 1) xs) =
    c.as_slice-2.ensures.value ∙ c.hash_of_parts-outer.ensures.items
    ∙ (λ j. hash_of hash (replicate 8 0 ++ inner j ++ salt j)) in
    let found : c.hash_part.result.now ≡ hash_in hash em = c.hash_part.ensures in (
      (λ t. (parts, sym found ∙ c.are_same.ensures.0 t ∙ outer)),
      (λ p. c.are_same.ensures.1 (found ∙ p.1 ∙ sym outer)),
    )
