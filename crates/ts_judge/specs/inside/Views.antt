-- What private clauses see of what was read.
use Rattle.std.specs.Prelude.{◌≡◌, ◌≤◌, ℕ, Bool, List, map, Option, option_map, length}
use Rattle.ts_cert.specs.CertView.{cert_in, certificate_in}
use Rattle.ts_crl.specs.ListView.{crl_in}
use Rattle.ts_check.specs.Native.{native_accepts}
use Rattle.ts_path.specs.Asked.{TrustAnchor}
use Rattle.ts_path.specs.View.{anchor_in, asked_under}
use Rattle.ts_path.specs.declared.inputs.Inputs.{Inputs}
use Rattle.ts_revoke.specs.declared.crls.Crls.{Crls}
use Rattle.ts_given.specs.Given.{deltas_of, lists_of, octets_of}
use Rattle.ts_judge.specs.Given.{anchors_of, asked_with}
use Rattle.ts_judge.specs.declared.given.VerifyOptions.{VerifyOptions}
use Rattle.ts_judge.specs.declared.given.GivenChain.{GivenChain}
use Rattle.ts_judge.specs.declared.reading.Views.{Views}

-- the views are of what is given
pub record AreViews (given : GivenChain) (views : Views) : Type 0 where
  pub anchors : map anchor_in views.anchors.items ≡ anchors_of (octets_of given.anchors.items)
  pub anchored : 1 ≤ length views.anchors.items
  pub certificates : map cert_in views.certificates.items
      ≡ map certificate_in (octets_of given.certificates.items)
  pub some : 1 ≤ length views.certificates.items
  pub few : length views.certificates.items ≤ 33
  pub lists : map crl_in views.crls.lists.items ≡ lists_of (octets_of given.crls.items)
  pub deltas : map crl_in views.crls.deltas.items ≡ deltas_of (octets_of given.crls.items)
  pub policies : map (λ p. p.content.now) views.policies.items ≡ given.policies.items
  pub purpose : option_map (λ p. p.now) views.purpose
      ≡ option_map (λ p. p.items) given.purpose

-- the inputs ask what the options do
abbrev pub AreInputs : VerifyOptions → Bool → Option (List ℕ) → List (List ℕ) → Inputs → Type 0
AreInputs options hard purpose policies inputs = (crls : Crls) (anchor : TrustAnchor)
    → asked_under inputs crls native_accepts anchor
    ≡ asked_with options purpose policies hard (map crl_in crls.lists.now)
    (map crl_in crls.deltas.now) anchor
