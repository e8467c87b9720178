-- What a CRL covers (RFC 5280 5.2.5), as a line shows it.
use Rattle.std.specs.Prelude.{◌≡◌, ℕ, Bool, List, [], ◌∷◌, ◌++◌, map, Option, Some, None, codes}
use Rattle.std.specs.Prelude.{if◌then◌else◌}
use Rattle.std.specs.List.{flat_map, join_by}
use Rattle.ts_ext.specs.NamedBits.{bit}
use Rattle.ts_der.specs.Element.{Fits, encode}
use Rattle.ts_ext.specs.Points.{IsIssuingPoint, ListScope, PointName, fullName}
use Rattle.ts_ext.specs.Points.{nameRelativeToCRLIssuer}
use Rattle.ts_line.specs.Lines.{hex}
use Rattle.ts_line.specs.Names.{general_text}

-- a word, where it is to be written
abbrev pub word_if : Bool → List ℕ → List (List ℕ)
word_if is_there word = if is_there then word ∷ [] else []

-- the names of the distribution point; of one that is relative to its issuer, that it is relative
abbrev pub point_items : Option PointName → List (List ℕ)
point_items None = []
point_items (Some (fullName names)) = map general_text names
point_items (Some (nameRelativeToCRLIssuer rdn)) = codes "relative" ∷ []

-- the reasons that it is for, by their names (RFC 5280 4.2.1.13)
abbrev pub first_reasons : List Bool → List (List ℕ)
first_reasons bits = word_if (bit 1 bits) (codes "keyCompromise")
    ++ (word_if (bit 2 bits) (codes "cACompromise")
    ++ (word_if (bit 3 bits) (codes "affiliationChanged")
    ++ word_if (bit 4 bits) (codes "superseded")))

abbrev pub last_reasons : List Bool → List (List ℕ)
last_reasons bits = word_if (bit 5 bits) (codes "cessationOfOperation")
    ++ (word_if (bit 6 bits) (codes "certificateHold")
    ++ (word_if (bit 7 bits) (codes "privilegeWithdrawn")
    ++ word_if (bit 8 bits) (codes "aACompromise")))

abbrev pub reason_items : Option (List Bool) → List (List ℕ)
reason_items None = []
reason_items (Some bits) = first_reasons bits ++ last_reasons bits

abbrev pub scope_items : ListScope → List (List ℕ)
scope_items p = point_items p.distributionPoint
    ++ (word_if p.onlyContainsUserCerts (codes "users")
    ++ (word_if p.onlyContainsCACerts (codes "authorities")
    ++ (word_if p.onlyContainsAttributeCerts (codes "attributes")
    ++ (word_if p.indirectCRL (codes "indirect") ++ reason_items p.onlySomeReasons))))

-- items, each behind a comma
abbrev pub behind_commas : List (List ℕ) → List ℕ
behind_commas items = flat_map (λ item. codes "," ++ item) items

-- items with a comma between each two; a hyphen where there are none
abbrev pub listed : List (List ℕ) → List ℕ
listed [] = codes "-"
listed (first ∷ others) = join_by (λ item. item) (codes ",") (first ∷ others)

abbrev pub scope_text : ListScope → List ℕ
scope_text p = listed (scope_items p)

-- octets that begin with the encoding of an issuingDistributionPoint
pub record IsScope (octets : List ℕ) (p : ListScope) : Type 0 where
  pub content : List ℕ
  pub more : List ℕ
  pub fits : Fits 0x30 content
  pub encoded : octets ≡ encode 0x30 content ++ more
  pub point : IsIssuingPoint content p

-- what is written of octets: the scope that they begin with; of others their hexadecimal digits
pub record IsScopeText (octets : List ℕ) (text : List ℕ) : Type 0 where
  pub scope : (p : ListScope) → IsScope octets p → text ≡ scope_text p
  pub other : ((p : ListScope) → ¬ (IsScope octets p)) → text ≡ hex octets
