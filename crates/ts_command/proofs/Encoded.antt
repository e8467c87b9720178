-- Each command of a store has the octets of its encoding.
use Rattle.std.proofs.Common.{◌≡◌, ◌≤◌, ◌==◌, ℕ, Bool, true, false, List, [], length, Option, Some, None, refl, sym, ap, subst, ◌∙◌, arith, length-append, if◌then◌else◌}
use Rattle.std.specs.Prelude.{nat_le, Result, Ok, Err, IfOk, IfSome, IfNone}
use Rattle.std.specs.List.{list_all}
use Rattle.std.specs.Int.{to_be_bytes, w32}
use Rattle.std.proofs.lemmas.Bool.{eqb-true, eq-eqb, leb-true, le-leb}
use Rattle.ts_der.specs.ObjectIdentifier.{is_oid}
use Rattle.ts_command.specs.Commands.{purposes_encoding, command_fields, id_of, command_encoding, CommandFieldsFit, CommandFits}
use Rattle.ts_command.specs.Purposes.{is_ascending, is_listed, ArePurposes}
use Rattle.ts_command.specs.declared.command.Command.{Command}
use Rattle.ts_command.specs.declared.command.Command.TheVariants.{AddAnchor, WithdrawAnchor, LoadCrl, DropCrl, SetPurposes, Noop}
use Rattle.ts_command.proofs.OneEncoding.{one_command}
use Rattle.ts_codec.proofs.Truths.{first_true, second_true, both_true}
use Rattle.ts_codec.proofs.Lengths.{oids_short}
use Rattle.ts_command.specs.Octets.{are_purposes, are_fields, is_command, octets_of}

eq_true : (m n : ℕ) → m ≡ n → (m == n) ≡ true
eq_true m n is = eq-eqb m n is

purposes_test : (p : Option (List (List ℕ))) → ArePurposes p → are_purposes p ≡ true
purposes_test None fit = refl
purposes_test (Some oids) fit = both_true (is_listed oids) (list_all is_oid oids) fit.0 fit.1

test_purposes : (p : Option (List (List ℕ))) → are_purposes p ≡ true → ArePurposes p
test_purposes None is = tt
test_purposes (Some oids) is = (first_true (is_listed oids) (list_all is_oid oids) is, second_true (is_listed oids) (list_all is_oid oids) is)

fields_test : (c : Command) → CommandFieldsFit c → are_fields c ≡ true
fields_test (AddAnchor id certificate) fit = le-leb _ _ fit
fields_test (WithdrawAnchor id anchor) fit = eq_true _ _ fit
fields_test (LoadCrl id crl) fit = le-leb _ _ fit
fields_test (DropCrl id crl) fit = eq_true _ _ fit
fields_test (SetPurposes id anchor purposes) fit = both_true _ _ (eq_true _ _ fit.0) (purposes_test purposes fit.1)
fields_test (Noop id) fit = refl

test_fields : (c : Command) → are_fields c ≡ true → CommandFieldsFit c
test_fields (AddAnchor id certificate) is = leb-true _ _ is
test_fields (WithdrawAnchor id anchor) is = eqb-true _ _ is
test_fields (LoadCrl id crl) is = leb-true _ _ is
test_fields (DropCrl id crl) is = eqb-true _ _ is
test_fields (SetPurposes id anchor purposes) is = (eqb-true _ _ (first_true _ _ is), test_purposes purposes (second_true _ _ is))
test_fields (Noop id) is = tt

pub fits_test : (c : Command) → CommandFits c → is_command c ≡ true
fits_test c fit = both_true _ _ (eq_true _ _ fit.id) (fields_test c fit.fields)

pub test_fits : (c : Command) → is_command c ≡ true → CommandFits c
test_fits c is = record { id = eqb-true _ _ (first_true _ _ is); fields = test_fields c (second_true _ _ is) }

-- a command that fits has its encoding
pub octets_are : (c : Command) → CommandFits c → octets_of c ≡ command_encoding c
unfolding octets_of
octets_are c fit = rw (fits_test c fit) refl

choose : {P : Type 0} (b : Bool) (xs : List ℕ) → (b ≡ true → P) → 1 ≤ length (if b then xs else []) → P
choose true xs f some = f refl
choose false xs f some = absurd (omega (arith, some))

-- what has octets fits
pub has_octets : (c : Command) → 1 ≤ length (octets_of c) → CommandFits c
unfolding octets_of
has_octets c some = test_fits c (choose (is_command c) (command_encoding c) (λ is. is) some)

pub one_encoding_of : (command other : Command) → 1 ≤ length (octets_of command) → octets_of command ≡ octets_of other → command ≡ other
one_encoding_of command other some is =
    let fit = has_octets command some in
    let also = has_octets other (subst (λ (o : List ℕ). 1 ≤ length o) is some) in
    one_command command other fit also (sym (octets_are command fit) ∙ is ∙ octets_are other also)

-- a command's octets are 17 to 4,194,325
pub at_least : (c : Command) → CommandFits c → 1 ≤ length (octets_of c)
at_least c fit = let e = ap length (octets_are c fit) in let i = fit.id in omega (arith, length-append (id_of c) (command_fields c))

pub found_octets : {E : Type 0} (source : List ℕ) (r : Result (Option Command) E)
    → IfOk r (λ read. IfSome read (λ c. CommandFits c × (source ≡ command_encoding c)))
    → IfOk r (λ read. IfSome read (λ c. (1 ≤ length (octets_of c)) × (source ≡ octets_of c)))
found_octets source (Ok None) h = h
found_octets source (Ok (Some c)) h = (at_least c h.0, h.1 ∙ sym (octets_are c h.0))
found_octets source (Err e) h = h

pub no_octets : {E : Type 0} (source : List ℕ) (r : Result (Option Command) E) → ((c : Command) → CommandFits c → source ≡ command_encoding c → IfOk r (λ read. read ≡ Some c))
    → IfOk r (λ read. IfNone read ((c : Command) → 1 ≤ length (octets_of c) → source ≡ octets_of c → ⊥))
no_octets source (Ok None) only = λ c some is.
    let e = only c (has_octets c some) (is ∙ octets_are c (has_octets c some)) in absurd (cc e)
no_octets source (Ok (Some x)) only = tt
no_octets source (Err e) only = tt

purposes_short : (p : Option (List (List ℕ))) → ArePurposes p → length (purposes_encoding p) ≤ 2066
purposes_short None are = omega arith
purposes_short (Some oids) are =
    let all = oids_short oids are.1 in
    let few = leb-true (length oids) 16 (first_true (nat_le (length oids) 16) (is_ascending oids) are.0) in
    omega (arith, all, few)

fields_short : (c : Command) → CommandFieldsFit c → length (command_fields c) ≤ 4194309
fields_short (AddAnchor id certificate) fit = let e = length-append (to_be_bytes w32 (length certificate)) certificate in omega (arith, e, fit)
fields_short (WithdrawAnchor id anchor) fit = omega (arith, fit)
fields_short (LoadCrl id crl) fit = let e = length-append (to_be_bytes w32 (length crl)) crl in omega (arith, e, fit)
fields_short (DropCrl id crl) fit = omega (arith, fit)
fields_short (SetPurposes id anchor purposes) fit = let e = length-append anchor (purposes_encoding purposes) in let f = purposes_short purposes fit.1 in omega (arith, e, f, fit.0)
fields_short (Noop id) fit = omega arith

pub encoding_short : (c : Command) → CommandFits c → length (command_encoding c) ≤ 4194325
encoding_short c fit = let f = fields_short c fit.fields in omega (arith, length-append (id_of c) (command_fields c), fit.id, f)

pub at_most : (c : Command) → CommandFits c → length (octets_of c) ≤ 4194325
at_most c fit = subst (λ (o : List ℕ). length o ≤ 4194325) (sym (octets_are c fit)) (encoding_short c fit)
