-- The stand-in's algorithm, and a key of it, are encoded so.
use Rattle.std.proofs.Common.{◌≡◌, ℕ, ◌≤◌, true, List, ◌∷◌, ◌++◌, length, refl, sym, arith, length-append}
use Rattle.std.proofs.lemmas.List.{append-nil}
use Rattle.ts_der.specs.Element.{Fits, encode, length_octets}
use Rattle.ts_der.specs.ObjectIdentifier.{series_of, subidentifier, is_oid}
use Rattle.ts_field.specs.Algorithm.{IsAlgorithm}
use Rattle.ts_sig.specs.StandIn.{identifier, algorithm_identifier}
use Rattle.ts_shape.specs.Fields.{Within, IsBits}
use Rattle.ts_cert.specs.Encoding.{IsKeyInfo}
use Rattle.ts_make.specs.Description.{stand_in}
use Rattle.ts_make.specs.Made.{bit_octets, key_octets}

-- what is no longer than a certificate may be has an encoding
pub fits-sequence : (content : List ℕ) → length content ≤ 4194304 → Fits 0x30 content
fits-sequence content le = record { octet = omega arith; low = omega arith; short = omega arith }

pub fits-bits : (content : List ℕ) → length content ≤ 4194304 → Fits 0x03 content
fits-bits content le = record { octet = omega arith; low = omega arith; short = omega arith }

-- the content of an element is shorter than the element
pub content-short : (tag : ℕ) (content : List ℕ) → length content ≤ length (encode tag content)
content-short tag content = omega (arith, length-append (length_octets (length content)) content)

identifier-is : is_oid identifier ≡ true
unfolding is_oid series_of subidentifier
identifier-is = refl

encoded-identifier : algorithm_identifier ≡ encode 0x30 (encode 0x06 identifier)
unfolding length_octets
encoded-identifier = refl

fits-identifier : Fits 0x30 (encode 0x06 identifier)
unfolding length_octets
fits-identifier = record { octet = omega arith; low = omega arith; short = omega arith }

pub algorithm-is : Within 0x30 IsAlgorithm algorithm_identifier stand_in
algorithm-is =
    record {
      content = encode 0x06 identifier;
      fits = fits-identifier;
      encoded = encoded-identifier;
      value = record {
        oid = encode 0x06 identifier;
        algorithm = record {
          content = identifier;
          fits = record { octet = omega arith; low = omega arith; short = omega arith };
          encoded = refl;
          value = (refl, identifier-is);
        };
        parameters = tt;
        fields = sym (append-nil (encode 0x06 identifier));
        whole = encoded-identifier;
      };
    }

-- a BIT STRING of whole octets
pub bits-are : (bits : List ℕ) → length (bit_octets bits) ≤ 4194304 → Within 0x03 IsBits (bit_octets bits) bits
bits-are bits le =
    let short = content-short 0x03 (0 ∷ bits) in
    record { content = 0 ∷ bits; fits = fits-bits (0 ∷ bits) (omega arith); encoded = refl; value = refl }

-- a key of the stand-in's algorithm
pub key-is : (key : List ℕ) → length (key_octets key) ≤ 4194304 → Within 0x30 IsKeyInfo (key_octets key) (record { algorithm = stand_in; subjectPublicKey = key })
unfolding key_octets
key-is key le =
    let content = algorithm_identifier ++ bit_octets key in
    let short = content-short 0x30 content in
    record {
      content = content;
      fits = fits-sequence content (omega arith);
      encoded = refl;
      value = record {
        identifier = algorithm_identifier;
        key = bit_octets key;
        algorithm = algorithm-is;
        subjectPublicKey = bits-are key (omega (arith, length-append algorithm_identifier (bit_octets key)));
        fields = refl;
      };
    }
