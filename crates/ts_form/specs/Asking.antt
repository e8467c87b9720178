-- The question that fields say.
use Rattle.std.specs.Prelude.{ℕ, ℤ, List, [], reverse, Option, Some, None}
use Rattle.std.specs.declared.vec.Vec.{Vec}
use Rattle.std.specs.declared.alloc.Global.{Global}
use Rattle.ts_question.specs.Question.{StoreQuestion}
use Rattle.ts_question.specs.declared.terms.Terms.{Terms}
use Rattle.ts_question.specs.declared.question.Target.{Target}
use Rattle.ts_question.specs.declared.question.Target.TheVariants as target
use Rattle.ts_form.specs.Fields.{octets_of}
use Rattle.ts_form.specs.declared.wanted.WantedFields.{WantedFields}

-- the moment that is given, or now
abbrev pub moment_in : Option ℤ → ℤ → ℤ
moment_in None now = now
moment_in (Some moment) now = moment

-- what is asked beside the certificates, without initial subtrees
abbrev pub terms_in : WantedFields → ℤ → Terms
terms_in wanted now = record {
  moment = moment_in wanted.at now;
  flags = wanted.flags;
  k = wanted.k;
  purpose = wanted.purpose;
  user_policies = wanted.policies.items;
  permitted_subtrees = [];
  excluded_subtrees = [];
}

-- Under an anchor that is given: is this chain valid? A question names its certificates from the
-- anchor's side. Else: is there a valid chain to the first through the others?
abbrev pub target_in : Option (List ℕ) → List (Vec ℕ Global) → Target
target_in None chain = target.Search (octets_of chain)
target_in (Some anchor) chain = target.Chain anchor (octets_of (reverse chain))

abbrev pub asked_in : WantedFields → ℤ → StoreQuestion
asked_in wanted now = record
    { terms = terms_in wanted now; target = target_in wanted.anchor wanted.chain.items }
