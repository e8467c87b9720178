-- What reading a name refuses is the first rule of its table that is broken.
use Rattle.std.proofs.Common.{◌≡◌, ℕ, zero, suc, Bool, true, false, not, ◌||◌, cond, eqb, List, [], ◌∷◌, length, drop, Some, None, Option, Result, Ok, Err, refl, sym, ap, subst}
use Rattle.std.specs.Prelude.{map, option_map}
use Rattle.std.proofs.lemmas.Bool.{eqb-true}
use Rattle.ts_der.specs.declared.fault.DerFault.{DerFault}
use Rattle.ts_der.specs.declared.fault.DerFault.TheVariants.{WrongTag, Empty, SetOrder}
use Rattle.ts_der.specs.declared.fault.Fault.{Fault}
use Rattle.ts_der.specs.Answer.{◌>>=◌, Answers, refusal}
use Rattle.ts_der.specs.Rules.{Rule, first_broken, value_unless}
use Rattle.ts_der.specs.Element.{Place, Tlv, inside}
use Rattle.ts_der.specs.Header.{header_rules}
use Rattle.ts_der.specs.Reading.{unless, fault_at, is_end, element_of, behind, next_at, element_at, value_at, end_at, many_from, many, at_element}
use Rattle.ts_der.specs.Text.{utf8_rules, ascii_rules}
use Rattle.ts_der.specs.SetOf.{ascends, order_at, set_of_at}
use Rattle.ts_der.specs.Integer.{integer_rules}
use Rattle.ts_der.specs.BitString.{whole_octets_rules}
use Rattle.ts_der.specs.ObjectIdentifier.{oid_rules}
use Rattle.ts_shape.specs.declared.fault.CertRule.TheVariants.{Der}
use Rattle.ts_shape.specs.declared.fault.CertFault.{CertFault}
use Rattle.ts_name.specs.Canon.{Attr}
use Rattle.ts_shape.specs.Fields.{within, oid_at, integer_at, bits_at}
use Rattle.ts_name.specs.Names.{text_rules, attribute_of, attribute_at, rdn_of, rdn_at, name_of, name_at}
use Rattle.ts_shape.specs.Items.{some_rules}
use Rattle.ts_shape.specs.Fault.{about, der, breaks}
use Rattle.ts_shape.specs.Rows.{object_identifier, integer, bit_string, set_rules, elements_of}
use Rattle.ts_name.specs.NameRows.{attribute_value, attribute_type_and_value, relative_distinguished_name, name}
use Rattle.ts_shape.specs.Shape.{Row, tagged, no_other, Shape, items, nothing, plain, ◌then◌, ◌or_else◌, is_absent, header_fault, each_fault, row_fault, judge, ContentRules, der_rules, no_rules}
use Rattle.ts_shape.proofs.Judging.{Judged, weaker, bind-der, no_more, Reads, Whatever, within-reads, element-judged, next-judged, der-bind-two, ends, value-judged, AreElements, items-judged}

-- an attribute's value, whatever its tag
pub text-judged : (e : Tlv) → Judged (der (value_at (text_rules e.tag) (λ c. c) e)) (row_fault attribute_value e) (λ c. Unit {0})
text-judged e = by_tag (eqb e.tag 0x0C) (eqb e.tag 0x13) (eqb e.tag 0x16)
  where
    by_rules : (rules : List Rule) → Judged (der (value_at rules (λ c. c) e)) (option_map (breaks e.at) (der_rules rules e.content)) (λ (c : List ℕ). Unit {0})
    by_rules rules = weaker _ _ _ _ (λ x p. tt) (value-judged rules (λ c. c) e)

    by_tag : (a b c : Bool)
        → Judged (der (value_at (cond a utf8_rules (cond (b || c) ascii_rules [])) (λ c. c) e))
        (cond a (option_map (breaks e.at) (der_rules utf8_rules e.content))
        (cond b (option_map (breaks e.at) (der_rules ascii_rules e.content))
        (cond c (option_map (breaks e.at) (der_rules ascii_rules e.content)) None)))
        (λ (c : List ℕ). Unit {0})
    by_tag true b c = by_rules utf8_rules
    by_tag false true c = by_rules ascii_rules
    by_tag false false true = by_rules ascii_rules
    by_tag false false false = by_rules []

pub attribute-judged : (e : Tlv) → Judged (der (attribute_of e)) (judge (object_identifier then attribute_value then nothing) (inside e) or_else None) (λ a. Unit {0})
unfolding attribute_of
attribute-judged e =
    no_more _ _ _
    (subst (λ r. Judged r (judge (object_identifier then attribute_value then nothing) (inside e))
    (λ a. Unit {0})) (sym
    (der-bind-two (element_at 0x06 (inside e)) (λ kind. value_at oid_rules (λ c. c) kind.0) _))
    (element-judged 0x06 plain (der_rules oid_rules) (inside e)
    (λ kind. der (value_at oid_rules (λ c. c) kind)) _ _ _ (λ a. Unit {0})
    (value-judged oid_rules (λ c. c) (element_of (inside e))) (λ oid h t p.
    subst (λ r. Judged r (judge (attribute_value then nothing) (behind (inside e))) (λ a. Unit {0}))
    (sym (der-bind-two (next_at (behind (inside e)))
    (λ value. value_at (text_rules value.0.tag) (λ c. c) value.0) _))
    (next-judged attribute_value (behind (inside e))
    (λ value. der (value_at (text_rules value.tag) (λ c. c) value)) _ _ (λ c. Unit {0})
    (λ a. Unit {0}) (text-judged (element_of (behind (inside e)))) (λ text g q.
    ends (behind (behind (inside e))) _ _ (λ r. tt))))))

pub attribute-reads : Reads attribute_type_and_value (λ here. der (attribute_at here)) Whatever
attribute-reads = within-reads 0x30 (object_identifier then attribute_value then nothing) no_rules attribute_of Whatever attribute-judged

-- a set: there is an element, and they are in order
pub order-judged : (e : Tlv) (attributes : List Attr) → AreElements (length e.content) (inside e)
    → Judged (der (value_at some_rules (λ c. c) e >>= λ some. set_of_at e >>= λ ordered. Ok attributes)) (option_map (breaks e.at) (der_rules set_rules e.content)) (λ a. Unit {0})
unfolding set_of_at order_at many
order-judged e attributes es = rw (es.1, es.2) (by_tests (is_end e.content) (ascends (elements_of (length e.content) e.content)))
  where
    by_tests : (b c : Bool)
        → Judged (der (at_element e.at (value_unless (cond b (Some Empty) None) e.content) >>=
        λ some. cond {A = Result (Unit {0}) Fault} c (Ok tt) (Err (fault_at e.at SetOrder)) >>=
        λ ordered. Ok attributes))
        (option_map (breaks e.at) (option_map Der (cond b (Some Empty) (cond (not c) (Some SetOrder) None)))) (λ (a : List Attr). Unit {0})
    by_tests true c = refl
    by_tests false true = (refl, tt)
    by_tests false false = refl

pub rdn-judged : (e : Tlv) → Judged (der (rdn_of e)) (judge (items attribute_type_and_value) (inside e) or_else option_map (breaks e.at) (der_rules set_rules e.content)) (λ a. Unit {0})
unfolding rdn_of many
rdn-judged e =
    bind-der (many_from (length e.content) attribute_at (inside e)) _ _ _ _ _
    (items-judged attribute_type_and_value attribute_at Whatever attribute-reads (length e.content)
    (inside e)) (λ attributes es. order-judged e attributes es)

pub rdn-reads : Reads relative_distinguished_name (λ here. der (rdn_at here)) Whatever
rdn-reads = within-reads 0x31 (items attribute_type_and_value) (der_rules set_rules) rdn_of Whatever rdn-judged

pub name-judged : (e : Tlv) → Judged (der (name_of e)) (judge (items relative_distinguished_name) (inside e) or_else None) (λ n. Unit {0})
unfolding name_of many
name-judged e = no_more _ _ _ (weaker _ _ _ _ (λ x p. tt) (items-judged relative_distinguished_name rdn_at Whatever rdn-reads (length e.content) (inside e)))

pub name-reads : Reads name (λ here. der (name_at here)) Whatever
unfolding name_at
name-reads = within-reads 0x30 (items relative_distinguished_name) no_rules name_of Whatever name-judged
