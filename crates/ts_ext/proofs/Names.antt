-- General names, names of distribution points and subtrees, as they are read, encoded and refused.
use Rattle.std.proofs.Common.{◌≡◌, ℕ, false, eqb, List, [], Option, Result, Ok, Err, refl, sym, ap, subst, ◌∙◌}
use Rattle.std.proofs.lemmas.List.{append-nil}
use Rattle.ts_der.specs.declared.fault.Fault.{Fault}
use Rattle.ts_der.specs.Octets.{AreOctets}
use Rattle.ts_der.specs.Answer.{◌>>=◌}
use Rattle.ts_der.specs.Element.{Tlv}
use Rattle.ts_der.specs.Reading.{begins_with}
use Rattle.ts_der.proofs.Laws.{bind_ok, ok_is}
use Rattle.ts_shape.specs.Items.{some_rules, each}
use Rattle.ts_name.specs.Names.{rdn_of}
use Rattle.ts_shape.specs.Fields.{IfAny}
use Rattle.ts_shape.specs.Rows.{set_rules}
use Rattle.ts_name.specs.NameRows.{attribute_type_and_value}
use Rattle.ts_shape.specs.declared.fault.CertFault.{CertFault}
use Rattle.ts_shape.specs.Fault.{der}
use Rattle.ts_shape.specs.Shape.{items, nothing, ◌then◌, row_fault, der_rules, no_rules}
use Rattle.ts_name.specs.General.{IsGeneralName, general_of}
use Rattle.ts_name.specs.GeneralTable.{general_name}
use Rattle.ts_name.specs.Subtree.{IsSubtree, subtree_of}
use Rattle.ts_name.specs.SubtreeTable.{general_subtree, subtree_fields}
use Rattle.ts_shape.proofs.Parts.{Part}
use Rattle.ts_shape.proofs.Judging.{Judged, weaker, Whatever}
use Rattle.ts_name.proofs.NameJudging.{rdn-judged}
use Rattle.ts_name.proofs.Shapes.{rdn-codec}
use Rattle.ts_shape.proofs.ItemParts.{choice-found, choice-judged, form-part, each-reads, some-found, some-again, some-judged, alone-found, alone-again, alone-judged}
use Rattle.ts_name.proofs.Generals.{general-part, general-reads}
use Rattle.ts_name.proofs.Subtrees.{subtree-found, subtree-again, subtree-judged}
use Rattle.ts_shape.proofs.OptionalParts.{begins-if-any}
use Rattle.ts_ext.specs.GeneralNames.{AreGeneralNames, general_names_of, general_names_items}
use Rattle.ts_ext.specs.Points.{PointName, fullName, nameRelativeToCRLIssuer, IsPointForm, IsPointName, point_name_of, wrapped_name_of, point_name}
use Rattle.ts_ext.specs.NameConstraints.{AreSubtrees, subtrees_of}
use Rattle.ts_ext.proofs.Formats.{Format}
use Rattle.ts_ext.proofs.Lists.{list-format}

-- octets of the last field do not begin with another tag
pub begins-last : {A : Type 0} (tag : ℕ) (Encodes : List ℕ → A → Type 0) (other : ℕ) (w : List ℕ) (x : Option A) → IfAny tag Encodes w x → eqb tag other ≡ false → begins_with other w ≡ false
begins-last tag Encodes other w x is differs = ap (begins_with other) (sym (append-nil w)) ∙ begins-if-any tag Encodes w x is other differs [] refl

-- ---- general names

pub general_names-format : Format general_names_of AreGeneralNames general_names_items (der_rules some_rules)
general_names-format =
    record {
      found = some-found general_of IsGeneralName general-part;
      again = some-again general_of IsGeneralName general-part;
      judged = some-judged general_name general_of Whatever general-reads;
    }

-- ---- subtrees

subtree-format : Format subtree_of IsSubtree subtree_fields no_rules
subtree-format =
    record {
      found = subtree-found;
      again = subtree-again;
      judged = λ e. weaker _ _ _ _ (λ x p. tt) (subtree-judged e);
    }

pub subtrees-format : Format subtrees_of AreSubtrees (items general_subtree) (der_rules some_rules)
subtrees-format = list-format 0x30 subtree-format

-- ---- names of distribution points

name-found : (e : Tlv) (x : PointName) → AreOctets e.content → point_name_of e ≡ Ok x → IsPointForm e.tag e.content x
unfolding point_name_of
name-found e x fits read =
    let P : PointName → Type 0 = λ x. IsPointForm e.tag e.content x in
    choice-found 0xA0 e _ _ P
    (λ t x r. let b = bind_ok (general_names_of e) (λ names. Ok (fullName names)) x r in subst P (ok_is {E = Fault} (fullName b.0) x b.2) (t, general_names-format.found e b.0 fits b.1))
    (choice-found 0xA1 e _ _ P
    (λ t x r. let b = bind_ok (rdn_of e) (λ rdn. Ok (nameRelativeToCRLIssuer rdn)) x r in subst P (ok_is {E = Fault} (nameRelativeToCRLIssuer b.0) x b.2) (t, rdn-codec.found e b.0 fits b.1))
    (λ x r. absurd cc)) x read

name-again : (e : Tlv) (x : PointName) → IsPointForm e.tag e.content x → point_name_of e ≡ Ok x
unfolding point_name_of
name-again e (fullName names) is = rw (general_names-format.again e names is.1, is.0) refl
name-again e (nameRelativeToCRLIssuer rdn) is = rw (rdn-codec.again e rdn is.1.1 is.1.0, is.0) refl

pub name-part : Part (each point_name_of) IsPointName
name-part = form-part point_name_of IsPointForm name-found name-again

-- a value that is one form of a name
formed : {A B : Type 0} (r : Result A Fault) (form : A → B) (o : Option CertFault) → Judged (der r) o (λ x. Unit {0}) → Judged (der (r >>= λ x. Ok (form x))) o (λ x. Unit {0})
formed (Ok x) form o j = (j.0, tt)
formed (Err f) form o j = j

name-judged : (e : Tlv) → Judged (der (point_name_of e)) (row_fault point_name e) (λ x. Unit {0})
unfolding point_name_of
name-judged e =
    choice-judged 0xA0 general_names_items (der_rules some_rules) e _ _ _ (formed (general_names_of e) (λ names. fullName names) _ (general_names-format.judged e))
    (choice-judged 0xA1 (items attribute_type_and_value) (der_rules set_rules) e _ _ _ (formed (rdn_of e) (λ rdn. nameRelativeToCRLIssuer rdn) _ (rdn-judged e)) refl)

pub wrapped_name-format : Format wrapped_name_of IsPointName (point_name then nothing) no_rules
wrapped_name-format =
    record {
      found = alone-found point_name_of IsPointName name-part;
      again = alone-again point_name_of IsPointName name-part;
      judged = alone-judged point_name point_name_of Whatever (λ octets. refl) (each-reads point_name point_name_of Whatever name-judged);
    }
