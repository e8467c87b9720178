-- The verdict on the chain that is judged.
use Rattle.std.proofs.Common.{◌≡◌, ℕ, List, ◌∷◌, ◌++◌, slice_get, refl, sym, ap, ◌∙◌, subst}
use Rattle.std.specs.Prelude.{Vec}
use Rattle.std.specs.declared.alloc.Global.{Global}
use Rattle.ts_der.specs.declared.oid.OidRef.{OidRef}
use Rattle.ts_cert.specs.Certificate.{Certificate}
use Rattle.ts_path.specs.Asked.{TrustAnchor}
use Rattle.ts_path.specs.Verdict.{IsVerdict}
use Rattle.ts_path.specs.declared.verdict.Verdict.{Verdict}
use Rattle.ts_path.specs.declared.verdict.Verdict.TheVariants.{Valid}
use Rattle.ts_search.specs.Search.{Search, IsSearchAnswer, certificates_at, question}
use Rattle.ts_search.specs.declared.answer.SearchAnswer.{SearchAnswer}
use Rattle.ts_search.specs.declared.answer.SearchAnswer.TheVariants.{Found}
use Rattle.ts_verify.specs.Judged.{AreChosen, IsJudged}
use Rattle.ts_verify.specs.Lines.{IsLine}
use Rattle.ts_verify.specs.inside.Judging.{IsExplained}
use Rattle.ts_verify.proofs.Places.{at_middle}

pub found_is : (s : Search) (number : ℕ) (places : Vec ℕ Global) (policies : Vec OidRef Global)
    (chain : List Certificate) → IsSearchAnswer s (Found number places policies)
    → chain ≡ certificates_at s.certificates places.items
    → IsJudged s number chain (Valid policies)
found_is s number places policies chain h e =
    let u = h.answers.under in
    record {
      answer = Found number places policies;
      is_answer = h;
      chosen = (refl, e);
      anchor = u.anchor;
      anchor_is = ap (λ (anchors : List TrustAnchor). slice_get anchors number) u.anchors_are
          ∙ ap (λ (n : ℕ). slice_get (u.earlier ++ u.anchor ∷ u.later) n) u.number_is
          ∙ at_middle u.earlier u.later u.anchor;
      verdict_is = subst
          (λ (cs : List Certificate). IsVerdict (question s.asked cs u.anchor) (Valid policies))
          (sym e) (u.valid, u.accepted);
    }

-- where the search found none, the chain by names is judged
pub explained_is : (s : Search) (answer : SearchAnswer) (place : ℕ) (chain : List Certificate) (verdict : Verdict)
    → IsSearchAnswer s answer
    → ((anchor : TrustAnchor) → IsLine (s.asked anchor).good s.anchors s.certificates place chain → AreChosen s anchor answer place chain)
    → IsExplained s place chain verdict → IsJudged s place chain verdict
explained_is s answer place chain verdict h chosen e = record {
  answer = answer;
  is_answer = h;
  chosen = chosen e.anchor e.line;
  anchor = e.anchor;
  anchor_is = e.anchor_is;
  verdict_is = e.verdict_is;
}
