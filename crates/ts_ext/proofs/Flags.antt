-- A BOOLEAN DEFAULT FALSE, as it is read, encoded and refused.
use Rattle.std.proofs.Common.{◌≡◌, ◌≢◌, ℕ, ◌+◌, ◌%◌, ◌<◌, Bool, true, false, cond, not, ◌||◌, List, [], ◌++◌, length, Option, Some, None, Result, Ok, Err, refl, sym, ap, subst, ◌∙◌, arith}
use Rattle.std.specs.Prelude.{option_map}
use Rattle.ts_der.specs.declared.fault.DerFault.{DerFault}
use Rattle.ts_der.specs.declared.fault.DerFault.TheVariants.{DefaultEncoded}
use Rattle.ts_der.specs.declared.fault.Fault.{Fault}
use Rattle.ts_der.specs.Octets.{AreOctets}
use Rattle.ts_der.specs.Answer.{◌>>=◌}
use Rattle.ts_der.specs.Rules.{first_broken, value_unless}
use Rattle.ts_der.specs.Element.{Place, Tlv, encode}
use Rattle.ts_der.specs.Boolean.{boolean_content, boolean_rules, boolean_value}
use Rattle.ts_der.specs.Default.{flag_of, flag_at, IsFlag}
use Rattle.ts_der.specs.Reading.{fault_at, at_element, begins_with, value_at, element_at, optional_at, element_of, behind}
use Rattle.ts_der.proofs.OctetLists.{AreOctets-back}
use Rattle.ts_der.proofs.Flags.{flag-found, flag-absent, flag-present}
use Rattle.ts_shape.specs.declared.fault.CertRule.TheVariants.{Der}
use Rattle.ts_shape.specs.declared.fault.CertFault.{CertFault}
use Rattle.ts_shape.specs.Fault.{der, breaks}
use Rattle.ts_shape.specs.Shape.{Shape, optional, plain, ◌then◌, ◌or_else◌, header_fault, row_fault, judge}
use Rattle.ts_shape.proofs.Judging.{Judged, element-judged}
use Rattle.ts_ext.specs.Encoding.{IfTrue}
use Rattle.ts_ext.specs.Table.{flag, flag_rules}

-- what is read is encoded so
pub flag-encoded : (tag : ℕ) (here : Place) (b : Bool) (after : Place) → AreOctets here.rest → flag_at tag here ≡ Ok (b, after)
    → (w : List ℕ) × IfTrue tag w b × (here.rest ≡ w ++ after.rest) × AreOctets after.rest
flag-encoded tag here b after fits read = by_value b (flag-found tag here b after fits read)
  where
    by_value : (b : Bool) → IsFlag tag here b after → (w : List ℕ) × IfTrue tag w b × (here.rest ≡ w ++ after.rest) × AreOctets after.rest
    by_value false is = ([], refl, ap (λ (p : Place). p.rest) (sym is), subst (λ (p : Place). AreOctets p.rest) (sym is) fits)
    by_value true is =
        let stands = is.1 in
        let encoded : is.0.whole ≡ encode tag (boolean_content true) =
        stands.encoded ∙ (ap (λ (t : ℕ). encode t is.0.content) is.2 ∙ ap (λ (c : List ℕ). encode tag c) is.3) in
        (is.0.whole, encoded, stands.whole, AreOctets-back is.0.whole after.rest (subst AreOctets stands.whole fits))

there : (here : Place) (w rest : List ℕ) → here.rest ≡ rest → w ≡ [] → here ≡ record { rest = rest; at = here.at + length w }
there here w rest same none =
    subst (λ (o : List ℕ). here ≡ record { rest = o; at = here.at + length w }) same
    (subst (λ (o : List ℕ). here ≡ record { rest = here.rest; at = here.at + length o }) (sym none) (ap (λ (n : ℕ). record { rest = here.rest; at = n }) (no_more here.at)))
  where
    no_more : (n : ℕ) → n ≡ n + 0
    no_more n = omega arith

-- what is encoded so, before octets that do not begin with the tag, is read
pub flag-again : (tag : ℕ) → tag % 32 ≢ 31 → tag < 256 → (here : Place) (b : Bool) (w rest : List ℕ) → IfTrue tag w b → begins_with tag rest ≡ false → here.rest ≡ w ++ rest
    → flag_at tag here ≡ Ok (b, record { rest = rest; at = here.at + length w })
flag-again tag low octet here false w rest is absent e =
    let whole : here.rest ≡ rest = e ∙ ap (λ (o : List ℕ). o ++ rest) is in
    flag-absent tag here (ap (begins_with tag) whole ∙ absent) ∙ ap (λ (p : Place). Ok (false, p)) (there here w rest whole is)
flag-again tag low octet here true w rest is absent e =
    flag-present tag here rest low octet (e ∙ ap (λ (o : List ℕ). o ++ rest) is) ∙ ap (λ (o : List ℕ). Ok (true, record { rest = rest; at = here.at + length o })) (sym is)

-- the value of one that is present
abbrev present : Tlv → Result Bool Fault
present e = value_at boolean_rules boolean_value e >>= λ b. cond b (Ok true) (Err (fault_at e.at DefaultEncoded))

abbrev that_stands : Tlv × Place → Result (Option Tlv × Place) Fault
that_stands x = Ok (Some x.0, x.1)

abbrev flagged : Option Tlv × Place → Result (Bool × Place) Fault
flagged x = flag_of x.0 x.1

-- the first rule that is broken: of the flag where it is, then of the others
pub flag-judged : {B : Type 0} (tag : ℕ) (others : Shape) (here : Place) (f : Bool × Place → Result B CertFault) (Q : B → Type 0)
    → ((b : Bool) (after : Place) → Judged (f (b, after)) (judge others after) Q)
    → Judged (der (flag_at tag here) >>= f) (judge (optional (flag tag) then others) here) Q
unfolding flag_at optional_at
flag-judged {B} tag others here f Q k = by_start (begins_with tag here.rest)
  where
    flat : (r : Result (Tlv × Place) Fault)
        → (der ((r >>= that_stands) >>= flagged) >>= f) ≡ (der r >>= λ x. der (present x.0) >>= λ v. f (v, x.1))
    flat (Ok x) = by_value (value_at boolean_rules boolean_value x.0)
      where
        by_value : (q : Result Bool Fault)
            → (der (q >>= λ b. cond {A = Result (Bool × Place) Fault} b (Ok (true, x.1)) (Err (fault_at x.0.at DefaultEncoded))) >>= f)
            ≡ (der (q >>= λ b. cond {A = Result Bool Fault} b (Ok true) (Err (fault_at x.0.at DefaultEncoded))) >>= λ v. f (v, x.1))
        by_value (Ok true) = refl
        by_value (Ok false) = refl
        by_value (Err d) = refl
    flat (Err d) = refl

    by_rules : (at : ℕ) (o : Option DerFault) (b : Bool)
        → Judged (der (at_element at (value_unless o b) >>= λ v. cond {A = Result Bool Fault} v (Ok true) (Err (fault_at at DefaultEncoded))))
        (option_map (breaks at) (option_map Der o or_else cond (not b) (Some (Der DefaultEncoded)) None)) (λ (v : Bool). Unit {0})
    by_rules at None true = (refl, tt)
    by_rules at None false = refl
    by_rules at (Some k) b = refl

    by_start : (b : Bool)
        → Judged (der (cond {A = Result (Option Tlv × Place) Fault} b (element_at tag here >>= that_stands) (Ok (None, here)) >>= flagged) >>= f)
        (cond (not (b || false)) (judge others here) (header_fault here or_else row_fault (flag tag) (element_of here) or_else judge others (behind here))) Q
    by_start true =
        subst (λ r. Judged r (header_fault here or_else row_fault (flag tag) (element_of here) or_else judge others (behind here)) Q) (sym (flat (element_at tag here)))
        (element-judged tag plain flag_rules here (λ e. der (present e)) (λ x v. f (v, x.1)) (judge others (behind here)) (λ v. Unit {0}) Q
        (by_rules (element_of here).at (first_broken boolean_rules (element_of here).content) (boolean_value (element_of here).content)) (λ v h t p. k v (behind here)))
    by_start false = k false here
