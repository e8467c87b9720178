-- The words are read in their places, or they do not stand there.
use Rattle.std.proofs.Common.{◌∷◌, List, ℕ, codes}
use Rattle.ts_script.specs.declared.crl_line.CrlWords.{CrlWords}
use Rattle.ts_script.specs.CrlLine.{crl_line, crl_words}
use Rattle.ts_script.proofs.Cutting.{behind_two}
use Rattle.ts_script.proofs.crl_line.CrlWords.of.Goals as goal

abbrev from_signer : CrlWords → List (List ℕ)
from_signer w = codes "signer" ∷ w.signer.now ∷ crl_words w

pub returns-in_err-next_update : goal.returns-in_err-next_update
unfolding crl_line
returns-in_err-next_update c =
    rw c.from_residual-in_err-next_update.ensures (λ w is.
    let issuer = behind_two c.in_ok-name.ensures is.0 in
    let this = behind_two c.in_ok-issuer.ensures issuer in
    c.in_err-next_update.ensures w.next_update.now (from_signer w) (behind_two c.in_ok-this_update.ensures this))

pub returns-in_err-signer : goal.returns-in_err-signer
unfolding crl_line
returns-in_err-signer c =
    rw c.from_residual-in_err-signer.ensures (λ w is.
    let issuer = behind_two c.in_ok-name.ensures is.0 in
    let this = behind_two c.in_ok-issuer.ensures issuer in
    let next = behind_two c.in_ok-this_update.ensures this in
    c.in_err-signer.ensures w.signer.now (crl_words w) (behind_two c.in_ok-next_update.ensures next))
