-- Extensions as most certificates have them.
use Rattle.std.proofs.Common.{◌≡◌, ℕ, ◌%◌, ◌/◌, ◌<◌, ◌≤◌, Bool, true, false, eqb, List, [], ◌∷◌, ◌++◌, length, drop, get_or, Option, Some, None, Ok, refl, sym, ap, subst, arith}
use Rattle.std.specs.Prelude.{IfSome, is_some}
use Rattle.std.proofs.lemmas.Bool.{eq-eqb, ne_eqb, le-ltb}
use Rattle.std.proofs.lemmas.List.{append-nil}
use Rattle.ts_der.specs.BitString.{bits_of, bits_rules, last_octet, named_bits_rules}
use Rattle.ts_der.specs.declared.fault.Fault.{Fault}
use Rattle.ts_der.specs.Boolean.{boolean_content}
use Rattle.ts_der.specs.Element.{number, Tlv, Fits, encode}
use Rattle.ts_der.proofs.BitStrings.{named-found}
use Rattle.ts_der.proofs.FewOctets.{three_go}
use Rattle.ts_der.proofs.Laws.{bind_ok, ok_is}
use Rattle.ts_der.proofs.Lengths.{length_octets-short}
use Rattle.ts_ext.specs.declared.known.Known.{Known}
use Rattle.ts_ext.specs.declared.known.Holder.{Holder}
use Rattle.ts_ext.specs.AuthorityKey.{IsAuthorityKey}
use Rattle.ts_ext.specs.Ext.{ExtValue, layout_of, IsContent}
use Rattle.ts_extensions.specs.Extension.{Extension, Located, unlocated, located_of, IsExtension}
use Rattle.ts_ext.specs.Known.{known_at, extension_of}
use Rattle.ts_ext.specs.Rules.{broken_rule}
use Rattle.ts_ext.specs.Encoding.{IfTrue, IsBasicConstraints, IsKeyUsage}
use Rattle.ts_extensions.specs.ValueRules.{value_fault, IsValidValue, IsValid}
use Rattle.ts_extensions.proofs.ExtensionParts.{extension-again}
use Rattle.ts_extensions.proofs.ValidExtensions.{sound-then}

pub some-of : {A : Type 0} (P : A → Type 0) (o : Option A) → IfSome o P → is_some o ≡ true → (x : A) × P x
some-of P (Some x) p e = (x, p)
some-of P None p e = absurd cc

pub of-authority : (content : List ℕ) → length content ≡ 3 → get_or content 0 0 ≡ 0x01
    → get_or content 1 0 ≡ 1 → get_or content 2 0 ≡ 0xFF
    → IsBasicConstraints content (record { ca = true; path_len_constraint = None })
of-authority (a ∷ b ∷ c ∷ []) three x y z =
    record {
      authority = a ∷ b ∷ c ∷ [];
      length = [];
      cA = rw (length_octets-short 1 (omega arith), x, y, z) refl;
      pathLenConstraint = refl;
      fields = refl;
    }
of-authority [] three x y z = absurd cc
of-authority (a ∷ []) three x y z = absurd cc
of-authority (a ∷ b ∷ []) three x y z = absurd cc
of-authority (a ∷ b ∷ c ∷ d ∷ more) three x y z = absurd cc

-- and with a bound in one octet
pub bounded-authority : (content : List ℕ) → length (drop 3 content) ≡ 3 → get_or content 0 0 ≡ 0x01
    → get_or content 1 0 ≡ 1 → get_or content 2 0 ≡ 0xFF → get_or (drop 3 content) 0 0 ≡ 0x02
    → get_or (drop 3 content) 1 0 ≡ 1 → get_or (drop 3 content) 2 0 < 128
    → IsBasicConstraints content (record { ca = true; path_len_constraint = Some (get_or (drop 3 content) 2 0) })
unfolding number
bounded-authority (a ∷ b ∷ c ∷ d ∷ e ∷ f ∷ []) six x y z t one few =
    record {
      authority = a ∷ b ∷ c ∷ [];
      length = d ∷ e ∷ f ∷ [];
      cA = rw (length_octets-short 1 (omega arith), x, y, z) refl;
      pathLenConstraint = record {
        content = f ∷ [];
        fits = record { octet = omega arith; low = λ h. omega arith; short = omega arith };
        encoded = rw (length_octets-short 1 (omega arith), t, one) refl;
        value = record { shortest = refl; natural = le-ltb _ _ (omega arith); value = omega arith; limit = omega arith };
      };
      fields = refl;
    }
bounded-authority [] six x y z t one few = absurd cc
bounded-authority (a ∷ []) six x y z t one few = absurd cc
bounded-authority (a ∷ b ∷ []) six x y z t one few = absurd cc
bounded-authority (a ∷ b ∷ c ∷ []) six x y z t one few = absurd cc
bounded-authority (a ∷ b ∷ c ∷ d ∷ []) six x y z t one few = absurd cc
bounded-authority (a ∷ b ∷ c ∷ d ∷ e ∷ []) six x y z t one few = absurd cc
bounded-authority (a ∷ b ∷ c ∷ d ∷ e ∷ f ∷ g ∷ more) six x y z t one few = absurd cc

pub crl-sign-last : (content : List ℕ) → length content ≡ 2 → get_or content 0 0 ≡ 1 → get_or content 1 0 % 4 ≡ 2 → (bits : List Bool) × IsKeyUsage content bits
unfolding named_bits_rules bits_rules last_octet
crl-sign-last (u ∷ o ∷ []) two x y =
    let unused : eqb (o % 2) 0 ≡ true = eq-eqb (o % 2) 0 (omega (arith, y)) in
    let last : eqb (o / 2 % 2) 0 ≡ false = ne_eqb (o / 2 % 2) 0 (λ e. omega (arith, y, e)) in
    let n = named-found (u ∷ o ∷ []) (1, o ∷ []) (rw x (rw (unused, last) refl)) in
    (bits_of 1 (o ∷ []), record { encoded = n.0; shortest = n.1 })
crl-sign-last [] two x y = absurd cc
crl-sign-last (u ∷ []) two x y = absurd cc
crl-sign-last (u ∷ o ∷ p ∷ more) two x y = absurd cc

-- the identifier of a key, and nothing else
pub key-alone : (content identifier : List ℕ) → Fits 0x80 identifier
    → content ≡ encode 0x80 identifier
    → IsAuthorityKey content
    (record {
      keyIdentifier = Some identifier;
      authorityCertIssuer =
          None;
      authorityCertSerialNumber = None;
    })
key-alone content identifier fits encoded =
    record {
      key = content;
      issuer = [];
      serial = [];
      keyIdentifier = record { content = identifier; fits = fits; encoded = encoded; value = refl };
      authorityCertIssuer = refl;
      authorityCertSerialNumber = refl;
      fields = sym (append-nil content);
    }

pub sound-value : (known : Known) (octets content : List ℕ) (x : ExtValue)
    → Fits (layout_of known).tag content → octets ≡ encode (layout_of known).tag content
    → IsContent known content x → broken_rule x ≡ None
    → IsValidValue (Some known) octets
sound-value known octets content x fits encoded is none = (x, record { content = content; fits = fits; encoded = encoded; value = is }, none)

pub true-flag : (fields : List ℕ) → 3 ≤ length fields → get_or fields 0 0 ≡ 0x01 → get_or fields 1 0 ≡ 1 → get_or fields 2 0 ≡ 0xFF → fields ≡ encode 0x01 (boolean_content true) ++ drop 3 fields
true-flag (a ∷ b ∷ c ∷ more) three x y z = rw (length_octets-short 1 (omega arith), x, y, z) refl
true-flag [] three x y z = absurd (omega arith)
true-flag (a ∷ []) three x y z = absurd (omega arith)
true-flag (a ∷ b ∷ []) three x y z = absurd (omega arith)

pub short-extension : (content flag behind value : List ℕ) (critical : Bool) → 5 ≤ length content
    → get_or content 0 0 ≡ 0x06 → get_or content 1 0 ≡ 3 → get_or content 2 0 ≡ 0x55
    → get_or content 3 0 ≡ 0x1D → get_or content 4 0 < 128
    → IfTrue 0x01 flag critical → drop 5 content ≡ flag ++ behind → Fits 0x04 value → behind ≡ encode 0x04 value
    → IsExtension content (record { extnID = 0x55 ∷ 0x1D ∷ get_or content 4 0 ∷ []; critical = critical; extnValue = value })
short-extension (t ∷ l ∷ j ∷ k ∷ a ∷ fields) flag behind value critical five tag size joint ce small is split fits encoded =
    record {
      id = 0x06 ∷ 3 ∷ 0x55 ∷ 0x1D ∷ a ∷ [];
      flag = flag;
      value = behind;
      extnID = record {
        content = 0x55 ∷ 0x1D ∷ a ∷ [];
        fits = record { octet = omega arith; low = λ e. omega arith; short = omega arith };
        encoded = rw (length_octets-short 3 (omega arith)) refl;
        value = (refl, three_go (0x55 ∷ 0x1D ∷ a ∷ []) refl (omega arith) (omega arith) small);
      };
      critical = is;
      extnValue = record { content = value; fits = fits; encoded = encoded; value = refl };
      fields = rw (tag, size, joint, ce) (ap (λ (o : List ℕ). 0x06 ∷ 3 ∷ 0x55 ∷ 0x1D ∷ a ∷ o) split);
    }
short-extension [] flag behind value critical five tag size joint ce small is split fits encoded = absurd (omega arith)
short-extension (t ∷ []) flag behind value critical five tag size joint ce small is split fits encoded = absurd (omega arith)
short-extension (t ∷ l ∷ []) flag behind value critical five tag size joint ce small is split fits encoded = absurd (omega arith)
short-extension (t ∷ l ∷ j ∷ []) flag behind value critical five tag size joint ce small is split fits encoded = absurd (omega arith)
short-extension (t ∷ l ∷ j ∷ k ∷ []) flag behind value critical five tag size joint ce small is split fits encoded = absurd (omega arith)

-- an element that encodes an extension with a sound value is one
pub sound-extension : (holder : Holder) (e : Tlv) (arc : ℕ) (critical : Bool) (value : List ℕ)
    → IsExtension e.content
    (record { extnID = 0x55 ∷ 0x1D ∷ arc ∷ []; critical = critical; extnValue = value })
    → IsValidValue (extension_of holder arc) value → (x : Located) × (located_of e ≡ Ok x) × (x.extnID ≡ 0x55 ∷ 0x1D ∷ arc ∷ []) × (value_fault holder x ≡ None)
unfolding known_at
sound-extension holder e arc critical value is sound =
    let y : Extension = record { extnID = 0x55 ∷ 0x1D ∷ arc ∷ []; critical = critical; extnValue = value } in
    let s = bind_ok (located_of e) (λ x. Ok (unlocated x)) y (extension-again e y is) in
    let same : unlocated s.0 ≡ y = ok_is {A = Extension} {E = Fault} (unlocated s.0) y s.2 in
    (s.0, s.1, ap (λ (z : Extension). z.extnID) same, sound-then holder s.0 (subst (λ (z : Extension). IsValid holder z) (sym same) sound))
