-- Values that are numbers, reasons and dates: each as it is read, encoded and refused.
use Rattle.std.proofs.Common.{◌≡◌, ℕ, ◌<◌, ◌^◌, Bool, true, false, cond, not, ltb, List, [], ◌∷◌, Some, None, refl, sym, ap, subst, ◌∙◌, arith}
use Rattle.std.specs.Prelude.{◌==◌}
use Rattle.std.specs.List.{find}
use Rattle.std.proofs.lemmas.Bool.{eqb-true, ltb-false, le-ltb}
use Rattle.ts_der.specs.declared.fault.DerFault.TheVariants.{IntegerForm, TooLarge, TimeForm}
use Rattle.ts_der.specs.Octets.{AreOctets}
use Rattle.ts_der.specs.Rules.{first_broken}
use Rattle.ts_der.specs.Element.{number}
use Rattle.ts_der.specs.Integer.{is_shortest, is_negative, integer_rules, small_rules}
use Rattle.ts_time.specs.Reading.{generalized_time_in}
use Rattle.ts_time.proofs.ReadingLemmas.{general_in-found, general_in-only}
use Rattle.ts_shape.specs.Shape.{plain}
use Rattle.ts_ext.specs.declared.reason_code.ReasonCode.{ReasonCode}
use Rattle.ts_ext.specs.declared.reason_code.ReasonCode.TheVariants.{Unspecified, KeyCompromise}
use Rattle.ts_ext.specs.declared.reason_code.ReasonCode.TheVariants.{CaCompromise}
use Rattle.ts_ext.specs.declared.reason_code.ReasonCode.TheVariants.{AffiliationChanged, Superseded}
use Rattle.ts_ext.specs.declared.reason_code.ReasonCode.TheVariants.{CessationOfOperation}
use Rattle.ts_ext.specs.declared.reason_code.ReasonCode.TheVariants.{CertificateHold, RemoveFromCrl}
use Rattle.ts_ext.specs.declared.reason_code.ReasonCode.TheVariants.{PrivilegeWithdrawn}
use Rattle.ts_ext.specs.declared.reason_code.ReasonCode.TheVariants.{AaCompromise}
use Rattle.ts_ext.specs.Encoding.{IsSmall, IsCrlNumber, IsBaseCrlNumber, reason_number, IsReasonCode, IsInvalidityDate}
use Rattle.ts_ext.specs.Table.{natural_rules, crl_number_rules, base_crl_number_rules, small_integer_rules, reasons, reason_of_number, reason_in, reason_code_rules, invalidity_date_rules}
use Rattle.ts_ext.specs.Reading.{crl_number_of, base_crl_number_of, small_of, reason_code_of, invalidity_date_of}
use Rattle.ts_ext.proofs.Formats.{Format, by_der_rules, by_name}

-- ---- numbers

natural-kept : (b c : Bool) → cond (not b) (Some IntegerForm) (cond c (Some IntegerForm) None) ≡ None → (b ≡ true) × (c ≡ false)
natural-kept true false e = (refl, refl)
natural-kept true true e = absurd cc
natural-kept false c e = absurd cc

pub crl_number-format : Format crl_number_of IsCrlNumber plain crl_number_rules
unfolding crl_number_of
crl_number-format =
    by_der_rules natural_rules (λ c. c) IsCrlNumber
    (λ c fits kept. let t = natural-kept (is_shortest c) (is_negative c) kept in record { whole = refl; shortest = t.0; natural = t.1 })
    (λ c x is. (rw (is.whole, is.shortest, is.natural) refl, is.whole))

shortest-kept : (b : Bool) → cond (not b) (Some IntegerForm) None ≡ None → b ≡ true
shortest-kept true e = refl
shortest-kept false e = absurd cc

pub base_crl_number-format : Format base_crl_number_of IsBaseCrlNumber plain base_crl_number_rules
unfolding base_crl_number_of
base_crl_number-format =
    by_der_rules integer_rules (λ c. c) IsBaseCrlNumber (λ c fits kept. (refl, shortest-kept (is_shortest c) kept)) (λ c x is. (rw (is.0, is.1) refl, is.0))

small-kept : (b c d : Bool) → cond (not b) (Some IntegerForm) (cond c (Some IntegerForm) (cond d (Some TooLarge) None)) ≡ None → (b ≡ true) × (c ≡ false) × (d ≡ false)
small-kept true false false e = (refl, refl, refl)
small-kept true false true e = absurd cc
small-kept true true d e = absurd cc
small-kept false c d e = absurd cc

pub small-format : Format small_of IsSmall plain small_integer_rules
unfolding small_of small_rules
small-format = by_der_rules small_rules number IsSmall found again
  where
    found : (c : List ℕ) → AreOctets c → first_broken small_rules c ≡ None → IsSmall c (number c)
    found c fits kept =
        let t = small-kept (is_shortest c) (is_negative c) (ltb 0xffff_ffff (number c)) kept in
        let limit : number c < 2 ^ 32 = omega (arith, ltb-false 0xffff_ffff (number c) t.2) in
        record { shortest = t.0; natural = t.1; value = refl; limit = limit }

    again : (c : List ℕ) (n : ℕ) → IsSmall c n → (first_broken small_rules c ≡ None) × (number c ≡ n)
    again c n is =
        let test : ltb 0xffff_ffff (number c) ≡ false = le-ltb 0xffff_ffff (number c) (omega (arith, is.value, is.limit)) in
        (rw (is.shortest, is.natural, test) refl, is.value)

-- ---- reasons and dates

-- what a search finds passes its test
finds : {A : Type 0} (p : A → Bool) (xs : List A) (x : A) → find p xs ≡ Some x → p x ≡ true
finds {A} p [] x e = absurd cc
finds {A} p (y ∷ ys) x e = by_test (p y) refl (finds p ys x) e
  where
    by_test : (b : Bool) → p y ≡ b → (find p ys ≡ Some x → p x ≡ true) → cond b (Some y) (find p ys) ≡ Some x → p x ≡ true
    by_test true t later e = let same : y ≡ x = cc in subst (λ (z : A). p z ≡ true) same t
    by_test false t later e = later e

reason-found : (content : List ℕ) (r : ReasonCode) → reason_in content ≡ Some r → IsReasonCode content r
unfolding reason_of_number
reason-found [] r e = absurd cc
reason-found (octet ∷ []) r e = ap (λ (n : ℕ). n ∷ []) (sym (eqb-true (reason_number r) octet (finds (λ (s : ReasonCode). reason_number s == octet) reasons r e)))
reason-found (a ∷ b ∷ octets) r e = absurd cc

reason-again : (r : ReasonCode) → reason_of_number (reason_number r) ≡ Some r
unfolding reason_of_number
reason-again Unspecified = refl
reason-again KeyCompromise = refl
reason-again CaCompromise = refl
reason-again AffiliationChanged = refl
reason-again Superseded = refl
reason-again CessationOfOperation = refl
reason-again CertificateHold = refl
reason-again RemoveFromCrl = refl
reason-again PrivilegeWithdrawn = refl
reason-again AaCompromise = refl

pub reason_code-format : Format reason_code_of IsReasonCode plain reason_code_rules
unfolding reason_code_of
reason_code-format = by_name IntegerForm reason_in IsReasonCode reason-found (λ c r is. ap reason_in is ∙ reason-again r)

pub invalidity_date-format : Format invalidity_date_of IsInvalidityDate plain invalidity_date_rules
unfolding invalidity_date_of
invalidity_date-format = by_name TimeForm generalized_time_in IsInvalidityDate general_in-found general_in-only
