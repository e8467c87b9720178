-- A command is read in one way.
use Rattle.std.proofs.Common.{◌≡◌, ℕ, ◌<◌, ◌≤◌, true, List, [], ◌∷◌, ◌++◌, length, Option, Some, None, refl, subst, arith}
use Rattle.std.specs.Prelude.{nat_le}
use Rattle.std.specs.List.{flat_map, list_all, AllByRecursion}
use Rattle.std.proofs.lemmas.Bool.{leb-true, le-leb}
use Rattle.ts_der.specs.ObjectIdentifier.{is_oid}
use Rattle.ts_codec.specs.Parts.{blob8, blob32}
use Rattle.ts_codec.specs.Reading.{◌>>=◌, ◌into◌, lookup, short_blob_at}
use Rattle.ts_codec.proofs.Truths.{first_true, all_true, each_true}
use Rattle.ts_codec.proofs.Laws.{Part, one}
use Rattle.ts_codec.proofs.Numbers.{octet_part, octets_part}
use Rattle.ts_codec.proofs.Rows.{that_part, fitting, recoded, and_part, then_part, parts_again, case, bare_case, ◌also◌, Kinds, kind_part}
use Rattle.ts_codec.proofs.Lists.{counted_part}
use Rattle.ts_codec.proofs.Values.{oid_part, short_blob}
use Rattle.ts_command.specs.Purposes.{is_ascending, is_listed, ArePurposes}
use Rattle.ts_command.specs.Commands.{purposes_encoding, command_kind, content, id_of, command_encoding, CommandFieldsFit, CommandFits}
use Rattle.ts_command.specs.Reading.{listed_at, purposes_at, rows, command_at}
use Rattle.ts_command.specs.declared.command.Command.{Command}
use Rattle.ts_command.specs.declared.command.Command.TheVariants.{AddAnchor, WithdrawAnchor, LoadCrl, DropCrl, SetPurposes, Noop}

-- ---- purposes

listed_part : Part (λ xs. length xs ∷ flat_map blob8 xs) (λ xs. ArePurposes (Some xs)) listed_at
unfolding listed_at
listed_part = fitting (that_part (counted_part octet_part oid_part) is_listed) (λ xs. ArePurposes (Some xs)) to from
  where
    to : (xs : List (List ℕ)) → ((length xs < 256) × AllByRecursion (λ c. is_oid c ≡ true) xs) × (is_listed xs ≡ true) → (is_listed xs ≡ true) × (list_all is_oid xs ≡ true)
    to xs fit = (fit.1, all_true is_oid (λ c. is_oid c ≡ true) (λ c good. good) xs fit.0.1)

    from : (xs : List (List ℕ)) → (is_listed xs ≡ true) × (list_all is_oid xs ≡ true) → ((length xs < 256) × AllByRecursion (λ c. is_oid c ≡ true) xs) × (is_listed xs ≡ true)
    from xs fit =
        let few : length xs ≤ 16 = leb-true (length xs) 16 (first_true (nat_le (length xs) 16) (is_ascending xs) fit.0) in
        ((omega (arith, few), each_true is_oid (λ c. is_oid c ≡ true) (λ c good. good) xs fit.1), fit.0)

abbrev form : Option (List (List ℕ)) → ℕ
form None = 0
form (Some xs) = 1

abbrev listing : Option (List (List ℕ)) → List ℕ
listing None = []
listing (Some xs) = length xs ∷ flat_map blob8 xs

purposes_part : Part purposes_encoding ArePurposes purposes_at
unfolding purposes_at
purposes_part = recoded (kind_part (record { cases = (bare_case None 0 refl tt refl, (case listed_part Some 1 (λ xs fit. (fit, refl, refl)), tt)); again = again })) purposes_encoding same
  where
    again : (p : Option (List (List ℕ))) (rest : List ℕ) → ArePurposes p
        → (lookup (form p) ((0, λ o. Some (None, o)) ∷ (1, listed_at into Some) ∷ []) >>= λ fields.
        fields (listing p ++ rest)) ≡ Some (p, rest)
    again None rest fit = refl
    again (Some xs) rest fit = parts_again listed_part Some xs rest fit

    same : (p : Option (List (List ℕ))) → purposes_encoding p ≡ form p ∷ listing p
    same None = refl
    same (Some xs) = refl

-- ---- commands

certificate_part : Part blob32 (λ c. length c ≤ 65536) (short_blob_at 65536)
certificate_part = fitting (short_blob 65536 (omega arith)) (λ c. length c ≤ 65536) (λ c good. leb-true (length c) 65536 good) (λ c fit. le-leb (length c) 65536 fit)

crl_part : Part blob32 (λ c. length c ≤ 4194304) (short_blob_at 4194304)
crl_part = fitting (short_blob 4194304 (omega arith)) (λ c. length c ≤ 4194304) (λ c good. leb-true (length c) 4194304 good) (λ c fit. le-leb (length c) 4194304 fit)

abbrev HasId : List ℕ → Command → Type 0
HasId id c = CommandFieldsFit c × (id_of c ≡ id)

again : (c : Command) (rest : List ℕ) → CommandFieldsFit c → (lookup (command_kind c) (rows (id_of c)) >>= λ fields. fields (content c ++ rest)) ≡ Some (c, rest)
again (AddAnchor id x) rest fit = parts_again certificate_part (AddAnchor id) x rest fit
again (WithdrawAnchor id x) rest fit = parts_again (octets_part 32) (WithdrawAnchor id) x rest fit
again (LoadCrl id x) rest fit = parts_again crl_part (LoadCrl id) x rest fit
again (DropCrl id x) rest fit = parts_again (octets_part 32) (DropCrl id) x rest fit
again (SetPurposes id x p) rest fit = parts_again (and_part (octets_part 32) purposes_part) (λ y. SetPurposes id y.0 y.1) (x, p) rest fit
again (Noop id) rest fit = refl

kinds : (id : List ℕ) → Kinds command_kind content (HasId id) (rows id)
kinds id = record {
  cases = case certificate_part (AddAnchor id) 1 (λ x fit. ((fit, refl), refl, refl))
      also case (octets_part 32) (WithdrawAnchor id) 2 (λ x fit. ((fit, refl), refl, refl))
      also case crl_part (LoadCrl id) 3 (λ x fit. ((fit, refl), refl, refl))
      also case (octets_part 32) (DropCrl id) 4 (λ x fit. ((fit, refl), refl, refl))
      also case (and_part (octets_part 32) purposes_part) (λ y. SetPurposes id y.0 y.1) 5 (λ y fit. ((fit, refl), refl, refl))
      also bare_case (Noop id) 6 refl (tt, refl) refl
      also tt;
  again = λ c rest fit. subst (λ (i : List ℕ). (lookup (command_kind c) (rows i) >>= λ fields. fields (content c ++ rest)) ≡ Some (c, rest)) fit.1 (again c rest fit.0);
}

pub command_part : Part command_encoding CommandFits command_at
unfolding command_at
command_part = fitting (then_part (octets_part 16) id_of (λ id sixteen. kind_part (kinds id))) CommandFits (λ c fit. record { id = fit.0; fields = fit.1 }) (λ c fit. (fit.id, fit.fields))

-- no two commands have one encoding
pub one_command : (command other : Command) → CommandFits command → CommandFits other → command_encoding command ≡ command_encoding other → command ≡ other
one_command = one command_part
