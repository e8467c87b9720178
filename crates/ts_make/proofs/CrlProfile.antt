-- The scope of what is made is that of the list's issuer, and has no relative name.
use Rattle.std.proofs.Common.{◌≡◌, ℕ, ◌+◌, ◌≤◌, Bool, false, eqb, List, [], ◌∷◌, ◌++◌, length, Option, Some, Result, Ok, Err, refl, sym, ap, ◌∙◌, arith, length-append}
use Rattle.std.specs.List.{flat_map}
use Rattle.std.specs.Borrow.{Bor}
use Rattle.std.proofs.lemmas.List.{append-nil}
use Rattle.ts_der.specs.declared.fault.Fault.{Fault}
use Rattle.ts_der.specs.Answer.{◌>>=◌}
use Rattle.ts_der.specs.Default.{flag_at}
use Rattle.ts_der.specs.Element.{Place, Tlv, Fits, encode, inside, encoded_at}
use Rattle.ts_der.specs.Reading.{begins_with, end_at, optional_at}
use Rattle.ts_der.proofs.Laws.{element-only, next-only}
use Rattle.ts_shape.specs.Fields.{optional_of}
use Rattle.ts_name.specs.General.{GeneralName}
use Rattle.ts_shape.specs.Items.{each, alone}
use Rattle.ts_ext.specs.GeneralNames.{general_names_of}
use Rattle.ts_ext.specs.Points.{PointName, fullName, point_name_of, wrapped_name_of, ListScope, issuing_point_of}
use Rattle.ts_ext.specs.Reading.{reason_flags_of}
use Rattle.ts_crl.specs.Profile.{is_relative_name}
use Rattle.ts_make.specs.KeyUsage.{usage_content}
use Rattle.ts_make.specs.CrlExtensions.{uri_octets, full_name, some_reasons}
use Rattle.ts_make.proofs.StandIns.{content-short}

-- ---- the scope

-- reading a name gives none that is relative
abbrev pub NotRelative : {A : Type 0} → (A → Bool) → Result A Fault → Type 0
NotRelative test (Ok x) = test x ≡ false
NotRelative test (Err f) = Unit {0}

full-read : (here : Place) (content rest : List ℕ) → length content ≤ 4194304 → here.rest ≡ encode 0xA0 content ++ rest → NotRelative (λ x. is_relative_name (Some x.0)) (each point_name_of here)
unfolding each point_name_of
full-read here content rest le e =
    let fits : Fits 0xA0 content = record { octet = omega arith; low = omega arith; short = omega arith } in
    let one = next-only here 0xA0 content rest fits e in
    rw one (by_names (general_names_of (encoded_at here.at 0xA0 content)))
  where
    by_names : (r : Result (List GeneralName) Fault)
        → NotRelative {A = PointName × Place} (λ x. is_relative_name (Some x.0))
        ((r >>= λ names. Ok (fullName names)) >>= λ x. Ok
        (x, record { rest = rest; at = here.at + length (encode 0xA0 content) }))
    by_names (Ok names) = refl
    by_names (Err f) = tt

wrapped-read : (e : Tlv) (content : List ℕ) → length content ≤ 4194304 → e.content ≡ encode 0xA0 content → NotRelative (λ x. is_relative_name (Some x)) (wrapped_name_of e)
unfolding alone
wrapped-read e content le is = by_each (each point_name_of (inside e)) (full-read (inside e) content [] le (is ∙ sym (append-nil (encode 0xA0 content))))
  where
    by_done : (x : PointName) (r : Result (Unit {0}) Fault) → is_relative_name (Some x) ≡ false → NotRelative (λ x. is_relative_name (Some x)) (r >>= λ done. Ok x)
    by_done x (Ok done) not = not
    by_done x (Err f) not = tt

    by_each : (r : Result (PointName × Place) Fault) → NotRelative (λ x. is_relative_name (Some x.0)) r → NotRelative (λ x. is_relative_name (Some x)) (r >>= λ x. end_at x.1 >>= λ done. Ok x.0)
    by_each (Ok x) not = by_done x.0 (end_at x.1) not
    by_each (Err f) not = tt

-- a field is read, and what is behind it is left, or reading breaks off
abbrev pub Leaves : {A : Type 0} → (A → Bool) → List ℕ → Result (A × Place) Fault → Type 0
Leaves test rest (Ok x) = (test x.0 ≡ false) × (x.1.rest ≡ rest)
Leaves test rest (Err f) = Unit {0}

name-read : (here : Place) (uris : List (Bor (List ℕ))) (reasons : List ℕ) → length (full_name uris) ≤ 4194304 → here.rest ≡ full_name uris ++ some_reasons reasons
    → Leaves is_relative_name (some_reasons reasons) (optional_of 0xA0 wrapped_name_of here)
unfolding optional_of
name-read here [] [] le e = rw (ap (begins_with 0xA0) e) (refl, e)
name-read here [] (n ∷ ns) le e = rw (ap (begins_with 0xA0) e) (refl, e)
name-read here (u ∷ us) reasons le e =
    let names = flat_map uri_octets (u ∷ us) in
    let inner = content-short 0xA0 names in
    let outer = content-short 0xA0 (encode 0xA0 names) in
    let fits : Fits 0xA0 (encode 0xA0 names) = record { octet = omega arith; low = omega arith; short = omega arith } in
    let one = element-only here 0xA0 (encode 0xA0 names) (some_reasons reasons) fits e in
    let tlv = encoded_at here.at 0xA0 (encode 0xA0 names) in
    rw (ap (begins_with 0xA0) e, one) (by_name (wrapped_name_of tlv) (wrapped-read tlv names (omega arith) refl))
  where
    by_name : (r : Result PointName Fault) → NotRelative (λ x. is_relative_name (Some x)) r
        → Leaves is_relative_name (some_reasons reasons)
        (r >>= λ x. Ok (
          Some x,
          record {
            rest = some_reasons reasons;
            at =
                here.at + length (encode 0xA0 (encode 0xA0 (flat_map uri_octets (u ∷ us))));
          },
        ))
    by_name (Ok x) not = (not, refl)
    by_name (Err f) not = tt

reasons-read : (here : Place) (reasons : List ℕ) → length (some_reasons reasons) ≤ 4194304 → here.rest ≡ some_reasons reasons → Leaves (λ x. false) [] (optional_of 0x83 reason_flags_of here)
unfolding optional_of
reasons-read here [] le e = rw (ap (begins_with 0x83) e) (refl, e)
reasons-read here (n ∷ ns) le e =
    let content = usage_content (n ∷ ns) in
    let short = content-short 0x83 content in
    let fits : Fits 0x83 content = record { octet = omega arith; low = omega arith; short = omega arith } in
    let one = element-only here 0x83 content [] fits (e ∙ sym (append-nil (encode 0x83 content))) in
    rw (ap (begins_with 0x83) e, one) (by_flags (reason_flags_of (encoded_at here.at 0x83 content)))
  where
    by_flags : (r : Result (List Bool) Fault) → Leaves (λ x. false) [] (r >>= λ x. Ok (Some x, record { rest = []; at = here.at + length (encode 0x83 (usage_content (n ∷ ns))) }))
    by_flags (Ok x) = (refl, refl)
    by_flags (Err f) = tt

flag-read : (tag : ℕ) (here : Place) → begins_with tag here.rest ≡ false → flag_at tag here ≡ Ok (false, here)
unfolding flag_at optional_at
flag-read tag here absent = rw absent refl

-- reading gives a scope of the list's issuer, whose name is not relative
abbrev pub IsPlain : Result ListScope Fault → Type 0
IsPlain (Ok p) = (p.indirectCRL ≡ false) × (is_relative_name p.distributionPoint ≡ false)
IsPlain (Err f) = Unit {0}

no-flag : (tag : ℕ) (reasons : List ℕ) → eqb 0x83 tag ≡ false → begins_with tag (some_reasons reasons) ≡ false
no-flag tag [] e = refl
no-flag tag (n ∷ ns) e = e

pub scope-read : (e : Tlv) (uris : List (Bor (List ℕ))) (reasons : List ℕ)
    → length (full_name uris ++ some_reasons reasons) ≤ 4194304 → e.content ≡ full_name uris
    ++ some_reasons reasons → IsPlain (issuing_point_of e)
unfolding issuing_point_of
scope-read e uris reasons le is =
    let both = length-append (full_name uris) (some_reasons reasons) in
    by_name (optional_of 0xA0 wrapped_name_of (inside e)) (name-read (inside e) uris reasons (omega arith) is) (omega arith)
  where
    by_end : (name : Option PointName) (flags : Option (List Bool)) (r : Result (Unit {0}) Fault) → is_relative_name name ≡ false
        → IsPlain (r >>= λ done. Ok
        (record {
          distributionPoint = name;
          onlyContainsUserCerts = false;
          onlyContainsCACerts =
              false;
          onlySomeReasons = flags;
          indirectCRL = false;
          onlyContainsAttributeCerts =
              false;
        }))
    by_end name flags (Ok done) not = (refl, not)
    by_end name flags (Err f) not = tt

    by_reasons : (name : Option PointName) (r : Result (Option (List Bool) × Place) Fault) → is_relative_name name ≡ false → Leaves (λ x. false) [] r
        → IsPlain (r >>= λ reasons. flag_at 0x84 reasons.1 >>= λ indirect. flag_at 0x85 indirect.1
        >>= λ attribute. end_at attribute.1 >>= λ done. Ok
        (record {
          distributionPoint = name;
          onlyContainsUserCerts = false;
          onlyContainsCACerts =
              false;
          onlySomeReasons = reasons.0;
          indirectCRL =
              indirect.0;
          onlyContainsAttributeCerts = attribute.0;
        }))
    by_reasons name (Ok x) not left =
        rw (flag-read 0x84 x.1 (ap (begins_with 0x84) left.1), flag-read 0x85 x.1 (ap (begins_with 0x85) left.1)) (by_end name x.0 (end_at x.1) not)
    by_reasons name (Err f) not left = tt

    by_name : (r : Result (Option PointName × Place) Fault) → Leaves is_relative_name (some_reasons reasons) r → length (some_reasons reasons) ≤ 4194304
        → IsPlain (r >>= λ name. flag_at 0x81 name.1 >>= λ user. flag_at 0x82 user.1 >>= λ ca.
        optional_of 0x83 reason_flags_of ca.1 >>= λ reasons. flag_at 0x84 reasons.1 >>=
        λ indirect. flag_at 0x85 indirect.1 >>= λ attribute. end_at attribute.1 >>= λ done. Ok
        (record {
          distributionPoint = name.0;
          onlyContainsUserCerts =
              user.0;
          onlyContainsCACerts = ca.0;
          onlySomeReasons = reasons.0;
          indirectCRL =
              indirect.0;
          onlyContainsAttributeCerts = attribute.0;
        }))
    by_name (Ok x) left short =
        let user = flag-read 0x81 x.1 (ap (begins_with 0x81) left.1 ∙ no-flag 0x81 reasons refl) in
        let ca = flag-read 0x82 x.1 (ap (begins_with 0x82) left.1 ∙ no-flag 0x82 reasons refl) in
        rw (user, ca) (by_reasons x.0 (optional_of 0x83 reason_flags_of x.1) left.0 (reasons-read x.1 reasons short left.1))
    by_name (Err f) left short = tt
