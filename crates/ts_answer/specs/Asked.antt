-- What a question asks of path validation (RFC 5280 6.1.1), over the tables of a store.
use Rattle.std.specs.Prelude.{ℕ, List, map}
use Rattle.ts_cert.specs.Certificate.{Certificate}
use Rattle.ts_cert.specs.CertView.{certificate_in}
use Rattle.ts_crl.specs.List.{CertificateList}
use Rattle.ts_path.specs.Asked.{TrustAnchor, ValidationInputs}
use Rattle.ts_path.specs.Chain.{ChainQuestion}
use Rattle.ts_search.specs.Search.{Search}
use Rattle.ts_revoke.specs.Question.{Check}
use Rattle.ts_question.specs.declared.terms.Terms.{Terms}
use Rattle.ts_store.specs.Lists.{list_in}
use Rattle.ts_store.specs.Tables.{Tables}
use Rattle.ts_store.specs.declared.anchor.TrustAnchor.{TrustAnchor as StoredAnchor}
use Rattle.ts_store.specs.declared.stored.StoredCrl.{StoredCrl}
use Rattle.ts_answer.specs.Parts.{subtree_base}

-- name and key of a trust anchor are those of its certificate (6.1.1 (d))
abbrev pub trust_anchor : StoredAnchor → TrustAnchor
trust_anchor stored =
    let certificate = (certificate_in stored.certificate).tbsCertificate in
    record {
      name = certificate.subject;
      key = certificate.subjectPublicKeyInfo;
      purposes = stored.purposes;
    }

abbrev pub lists_in : List StoredCrl → List CertificateList
lists_in stored = map list_in stored

-- what is asked of a chain under a trust anchor, by these terms, with these complete lists and
-- these deltas
abbrev pub asked_with : Check → List CertificateList → List CertificateList → Terms → TrustAnchor
    → ValidationInputs
asked_with good lists deltas terms anchor = record {
  anchor = anchor;
  moment = terms.moment;
  purpose = terms.purpose;
  user_policies = terms.user_policies;
  explicit_policy = terms.flags.explicit_policy;
  inhibit_policy_mapping = terms.flags.inhibit_policy_mapping;
  inhibit_any_policy = terms.flags.inhibit_any_policy;
  subtrees = record {
    permitted = map subtree_base terms.permitted_subtrees;
    excluded = map subtree_base terms.excluded_subtrees;
  };
  hard = terms.flags.hard;
  lists = lists;
  deltas = deltas;
  use_deltas = terms.flags.use_deltas;
  good = good;
}

-- over a store's lists
abbrev pub asked_of : Check → Tables → Terms → TrustAnchor → ValidationInputs
asked_of good tables terms anchor =
    asked_with good (lists_in tables.complete) (lists_in tables.deltas) terms anchor

abbrev pub chain_of : List (List ℕ) → List Certificate
chain_of certificates = map certificate_in certificates

-- whether a chain is valid under a trust anchor of the store
abbrev pub question_of : Check → Tables → Terms → StoredAnchor → List (List ℕ) → ChainQuestion
question_of good tables terms stored certificates = record
    { asked = asked_of good tables terms (trust_anchor stored); chain = chain_of certificates }

-- the search for a chain to the first certificate, through the others, under the trust anchors of
-- the store
abbrev pub search_of : Check → Tables → Terms → List (List ℕ) → Search
search_of good tables terms certificates = record {
  certificates = chain_of certificates;
  anchors = map trust_anchor tables.anchors;
  asked = asked_of good tables terms;
}
