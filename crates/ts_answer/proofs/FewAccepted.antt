-- Fewer than 2^32 policies are accepted: those of a question, and those that the certificates of a
-- chain name.
use Rattle.std.proofs.Common.{◌≡◌, ◌≤◌, ◌<◌, ◌^◌, ℕ, suc, zero, List, [], ◌∷◌, ◌++◌, length, Option, Some, None, refl, sym, subst, arith, length-append}
use Rattle.std.specs.Prelude.{slice_get}
use Rattle.std.specs.List.{AllByRecursion}
use Rattle.ts_cert.specs.Certificate.{Certificate}
use Rattle.ts_policy.specs.Labels.{Label}
use Rattle.ts_path.specs.Chain.{ChainQuestion, Link, Stands, chained, is_last}
use Rattle.ts_path.specs.Conditions.{policies_to}
use Rattle.ts_path.specs.State.{policies_at, policies_above, state_at}
use Rattle.ts_path.specs.Verdict.{AreAccepted, site_of}
use Rattle.ts_path.proofs.Positions.{here, last_here}
use Rattle.ts_search.specs.Search.{with_certificate, certificates_at}
use Rattle.ts_answer.proofs.Ascending.{no_longer}
use Rattle.ts_answer.proofs.FewNamed.{NamesFew, named_few, above_few}
use Rattle.ts_answer.proofs.Named.{named, all_named, accepted_is_named}

-- ---- the last certificate

last_of : (chain above rest : List Certificate) (c : Certificate) → chain ≡ chained above (c ∷ rest) → (l : Link) × Stands chain (length chain) l
last_of chain above [] c is =
    let l : Link = record { above = above; certificate = c; below = [] } in
    (l, subst (λ (n : ℕ). Stands chain n l) (sym (last_here chain above (c ∷ []) c is refl)) (here chain above (c ∷ []) [] c is refl))
last_of chain above (d ∷ rest) c is = last_of chain (c ∷ above) rest d is

last_link : (chain : List Certificate) → 1 ≤ length chain → (l : Link) × Stands chain (length chain) l
last_link [] some = absurd (omega (arith, some))
last_link (c ∷ rest) some = last_of (c ∷ rest) [] rest c refl

all_chained : (P : Certificate → Type 0) (above others : List Certificate) → AllByRecursion P (chained above others) → AllByRecursion P above × AllByRecursion P others
all_chained P [] others h = (tt, h)
all_chained P (c ∷ above) others h = let r = all_chained P above (c ∷ others) h in ((r.1.0, r.0), r.1.1)

-- ---- the policies of a valid chain

pub accepted_few : (q : ChainQuestion) (policies : List Label) → 1 ≤ length q.chain → length q.chain ≤ 16 → length q.asked.user_policies ≤ 32
    → AllByRecursion NamesFew q.chain → AreAccepted q policies → length policies < 2 ^ 32
accepted_few q policies some short user few are =
    let last = last_link q.chain some in
    let l = last.0 in
    let parts = all_chained NamesFew l.above (l.certificate ∷ l.below) (subst (AllByRecursion NamesFew) last.1.chain_is few) in
    let state = state_at q.asked (length q.chain) l.above in
    let above = policies_above q.asked (length q.chain) l.above in
    let one = named_few state l.certificate (is_last l) parts.1.0 in
    let others = above_few q.asked (length q.chain) l.above parts.0 in
    let all = policies_to (site_of q l) in
    let counted = no_longer policies (q.asked.user_policies ++ all_named all) are.ascending
    (λ p i. accepted_is_named all q.asked.user_policies p ((are.accepted l last.1 p).0 i)) in
    omega (
      arith,
      counted,
      one,
      others,
      user,
      short,
      last.1.position_is,
      length-append q.asked.user_policies (all_named all),
      length-append (named (policies_at state l.certificate (is_last l))) (all_named above),
    )

-- ---- certificates at places

got : (P : Certificate → Type 0) (cs : List Certificate) (i : ℕ) (c : Certificate) → slice_get cs i ≡ Some c → AllByRecursion P cs → P c
got P [] i c e h = absurd cc
got P (d ∷ cs) zero c e h = subst P (is_one e) h.0
  where
    is_one : {a b : Certificate} → Some a ≡ Some b → a ≡ b
    is_one h = cc
got P (d ∷ cs) (suc i) c e h = got P cs i c e h.1

pub all_at : (P : Certificate → Type 0) (cs : List Certificate) → AllByRecursion P cs → (places : List ℕ) → AllByRecursion P (certificates_at cs places)
all_at P cs h [] = tt
all_at P cs h (i ∷ below) = by (slice_get cs i) refl (all_at P cs h below)
  where
    by : (o : Option Certificate) → slice_get cs i ≡ o → AllByRecursion P (certificates_at cs below) → AllByRecursion P (with_certificate o (certificates_at cs below))
    by None e others = others
    by (Some c) e others = (got P cs i c e h, others)
