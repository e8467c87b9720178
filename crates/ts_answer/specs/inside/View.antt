-- What private clauses see of the parts of a question that were read, and of what path validation
-- borrows.
use Rattle.std.specs.Prelude.{◌≡◌, ℕ, List, map, Option, Some}
use Rattle.ts_cert.specs.CertView.{cert_in, certificate_in}
use Rattle.ts_constraint.specs.View.{bases_in}
use Rattle.ts_crl.specs.ListView.{crl_in}
use Rattle.ts_path.specs.Asked.{TrustAnchor}
use Rattle.ts_path.specs.View.{asked_under}
use Rattle.ts_path.specs.declared.inputs.Inputs.{Inputs}
use Rattle.ts_revoke.specs.declared.crls.Crls.{Crls}
use Rattle.ts_revoke.specs.Question.{Check}
use Rattle.ts_question.specs.declared.question.Target.{Target}
use Rattle.ts_question.specs.declared.question.Target.TheVariants.{Store, Log}
use Rattle.ts_question.specs.declared.terms.Terms.{Terms}
use Rattle.ts_command.specs.declared.command.Command.{Command}
use Rattle.ts_listing.specs.Log.{log_of}
use Rattle.ts_listing.specs.View.{line_in}
use Rattle.ts_listing.specs.declared.log.Entry.{Entry}
use Rattle.ts_answer.specs.declared.parts.Parts.{Parts}
use Rattle.ts_answer.specs.declared.fault.PartFault.{PartFault}
use Rattle.ts_answer.specs.declared.fault.PartFault.TheVariants as faults
use Rattle.ts_answer.specs.Asked.{asked_with}
use Rattle.ts_answer.specs.Parts.{Unreadable, subtree_base}

-- the parts are those of the question
pub record AreParts (terms : Terms) (octets : List (List ℕ)) (parts : Parts) : Type 0 where
  pub permitted : bases_in parts.permitted.items ≡ map subtree_base terms.permitted_subtrees
  pub excluded : bases_in parts.excluded.items ≡ map subtree_base terms.excluded_subtrees
  pub certificates : map cert_in parts.certificates.items ≡ map certificate_in octets
  pub policies : map (λ p. p.content.now) parts.policies.items ≡ terms.user_policies

-- a part can't be read, unless memory was refused
abbrev pub Says : PartFault → Option Unreadable → Type 0
Says faults.Memory found = Unit {0}
Says (faults.Unreadable index fault) found = found ≡ Some (record { index = index; fault = fault })

-- the inputs ask what the terms do
abbrev pub AreInputs : Terms → Inputs → Type 0
AreInputs terms inputs = (good : Check) (crls : Crls) (anchor : TrustAnchor)
    → asked_under inputs crls good anchor
    ≡ asked_with good (map crl_in crls.lists.now) (map crl_in crls.deltas.now) terms anchor

-- a question that path validation or the search answers, and one that the tables of a store answer
abbrev pub IsJudged : Target → Type 0
IsJudged (Store from) = ⊥
IsJudged (Log from) = ⊥
IsJudged other = Unit {0}

abbrev pub IsOfTables : Target → Type 0
IsOfTables (Log from) = ⊥
IsOfTables other = Unit {0}

-- the entries are the commands with what each came to
abbrev pub AreEntries : List Entry → List Command → Type 0
AreEntries entries commands = map line_in entries ≡ log_of commands
