-- What a certificate says by an extension: wherever the octets stand, they are one value.
use Rattle.std.proofs.Common.{◌≡◌, ℕ, Bool, true, false, cond, List, [], ◌∷◌, Option, Some, None, Result, Ok, Err, refl, sym, ap, subst, ◌∙◌}
use Rattle.std.specs.Prelude.{map, option_map}
use Rattle.std.specs.List.{find}
use Rattle.std.specs.Option.{option_and_then}
use Rattle.std.specs.Result.{result_ok}
use Rattle.std.specs.Str.{bytes_eq}
use Rattle.std.proofs.lemmas.Slice.Eq.{bytes_eq-Decides}
use Rattle.ts_der.specs.declared.fault.Fault.{Fault}
use Rattle.ts_der.specs.declared.reader.Element.{Element}
use Rattle.ts_der.specs.Octets.{AreOctets}
use Rattle.ts_der.specs.Answer.{◌>>=◌, Answers}
use Rattle.ts_der.specs.Element.{Place, Tlv, inside, encoded_at}
use Rattle.ts_der.specs.Reading.{next_at, end_at}
use Rattle.ts_der.specs.View.{now}
use Rattle.ts_shape.specs.Items.{each, alone, tagged_as, of_tag}
use Rattle.ts_shape.specs.Shape.{Shape, ContentRules}
use Rattle.ts_shape.specs.Fields.{Within}
use Rattle.ts_shape.proofs.ItemParts.{tag-part, alone-found, alone-again}
use Rattle.ts_extensions.specs.declared.extension.Extension.{Extension as Borrowed}
use Rattle.ts_ext.specs.declared.known.Holder.{Holder}
use Rattle.ts_ext.specs.declared.known.Holder.TheVariants.{Certificate as CertificateHolder}
use Rattle.ts_ext.specs.declared.known.Known.{Known}
use Rattle.ts_ext.specs.AuthorityKey.{content_octets_of}
use Rattle.ts_ext.specs.Ext.{ExtValue, IsExt, layout_of, read_as, content_of, ext_of}
use Rattle.ts_extensions.specs.Extension.{Extension, Located, unlocated}
use Rattle.ts_extensions.specs.ExtensionView.{located_as}
use Rattle.ts_ext.specs.Known.{known_at, identifier_of}
use Rattle.ts_ext.specs.Rules.{broken_rule}
use Rattle.ts_extensions.specs.ValueRules.{IsValid, AreValid}
use Rattle.ts_ext.proofs.Formats.{Format, value_of}
use Rattle.ts_ext.proofs.Exts.{ext-again}
use Rattle.ts_ext.proofs.KeyAndConstraints.{octets-format}
use Rattle.ts_cert.specs.Certificate.{Tbs, all_extensions, Certificate}
use Rattle.ts_cert.specs.Encoding.{IsCertificate}
use Rattle.ts_cert.specs.Stated.{known_extension, value_of_octets, stated_value}

-- ---- elements with one content

-- what is read of one element is read of each other that has its content
one-content : {A : Type 0} (value : Tlv → Result A Fault) (Encodes : List ℕ → A → Type 0)
    → ((e : Tlv) (x : A) → AreOctets e.content → value e ≡ Ok x → Encodes e.content x) → ((e : Tlv) (x : A) → Encodes e.content x → value e ≡ Ok x)
    → (e f : Tlv) → AreOctets e.content → e.content ≡ f.content → result_ok (value e) ≡ result_ok (value f)
one-content {A} value Encodes found again e f fits same = by_both (value e) (value f) refl refl
  where
    other : (e f : Tlv) (x : A) → AreOctets e.content → e.content ≡ f.content → value e ≡ Ok x → value f ≡ Ok x
    other e f x fits same read = again f x (subst (λ (c : List ℕ). Encodes c x) same (found e x fits read))

    no : {x : A} {d : Fault} → (let r : Result A Fault = Ok x in r ≡ Err d) → ⊥
    no h = cc

    by_both : (r s : Result A Fault) → value e ≡ r → value f ≡ s → result_ok r ≡ result_ok s
    by_both (Ok x) s one two = ap (λ (t : Result A Fault). result_ok t) (sym (other e f x fits same one) ∙ two)
    by_both (Err d) (Ok y) one two = absurd (no (sym (other f e y (subst AreOctets same fits) (sym same) two) ∙ one))
    by_both (Err d) (Err g) one two = refl

format-content : {A : Type 0} {value : Tlv → Result A Fault} {Is : List ℕ → A → Type 0} {shape : Shape} {rules : ContentRules} → Format value Is shape rules
    → (e f : Tlv) → AreOctets e.content → e.content ≡ f.content → result_ok (value e) ≡ result_ok (value f)
format-content {A} {value} {Is} format = one-content value Is format.found format.again

alone-content : {A : Type 0} {value : Tlv → Result A Fault} {Is : List ℕ → A → Type 0} {shape : Shape} {rules : ContentRules} → Format value Is shape rules
    → (tag : ℕ) (e f : Tlv) → AreOctets e.content → e.content ≡ f.content → result_ok (alone (of_tag tag value) e) ≡ result_ok (alone (of_tag tag value) f)
alone-content {A} {value} {Is} format tag =
    let part = tag-part tag value Is (value_of format tag) in
    one-content (alone (of_tag tag value)) (Within tag Is) (alone-found (of_tag tag value) (Within tag Is) part) (alone-again (of_tag tag value) (Within tag Is) part)

-- ---- the element first, and then what it is read as

-- a value beside the place after it
abbrev beside : {A : Type 0} → Place → A → Result (A × Place) Fault
beside after x = Ok (x, after)

-- and nothing after it
abbrev sole : {A : Type 0} → A × Place → Result A Fault
sole x = end_at x.1 >>= λ done. Ok x.0

alone-then : {A : Type 0} (tag : ℕ) (reading : Tlv → Result A Fault) (e : Tlv) → result_ok (alone (of_tag tag reading) e) ≡ result_ok (alone (tagged_as tag) e >>= reading)
unfolding alone each of_tag
alone-then {A} tag reading e = by_next (next_at (inside e))
  where
    by_end : (t : Tlv) (r : Result A Fault) → reading t ≡ r → (s : Result (Unit {0}) Fault)
        → result_ok (r >>= λ x. s >>= λ done. Ok x) ≡ result_ok ((s >>= λ done. Ok t) >>= reading)
    by_end t (Ok x) is (Ok done) = ap (λ (r : Result A Fault). result_ok r) (sym is)
    by_end t (Err d) is (Ok done) = ap (λ (r : Result A Fault). result_ok r) (sym is)
    by_end t (Ok x) is (Err f) = refl
    by_end t (Err d) is (Err f) = refl

    by_value : (after : Place) (t : Tlv) (r : Result A Fault) → reading t ≡ r → result_ok ((r >>= beside after) >>= sole) ≡ result_ok ((end_at after >>= λ done. Ok t) >>= reading)
    by_value after t (Ok x) is = by_end t (Ok x) is (end_at after)
    by_value after t (Err d) is = by_end t (Err d) is (end_at after)

    by_tag : (after : Place) (r : Result Tlv Fault) → result_ok (((r >>= reading) >>= beside after) >>= sole) ≡ result_ok (((r >>= beside after) >>= sole) >>= reading)
    by_tag after (Ok t) = by_value after t (reading t) refl
    by_tag after (Err d) = refl

    by_next : (r : Result (Tlv × Place) Fault)
        → result_ok ((r >>= λ n. (tagged_as tag n.0 >>= reading) >>= beside n.1) >>= sole) ≡ result_ok (((r >>= λ n. tagged_as tag n.0 >>= beside n.1) >>= sole) >>= reading)
    by_next (Ok n) = by_tag n.1 (tagged_as tag n.0)
    by_next (Err d) = refl

-- ---- the extension that stands

find-unlocated : (p : Extension → Bool) (xs : List Located) → find p (map unlocated xs) ≡ option_map unlocated (find (λ x. p (unlocated x)) xs)
find-unlocated p [] = refl
find-unlocated p (x ∷ xs) = by_test (p (unlocated x)) (find-unlocated p xs)
  where
    by_test : (b : Bool) → find p (map unlocated xs) ≡ option_map unlocated (find (λ y. p (unlocated y)) xs)
        → cond b (Some (unlocated x)) (find p (map unlocated xs)) ≡ option_map unlocated (cond b (Some x) (find (λ y. p (unlocated y)) xs))
    by_test true more = refl
    by_test false more = more

-- ---- what the content of a value is

-- the octets of an extension, where they are, are one value
octets-stated : {A : Type 0} {value : Tlv → Result A Fault} {Is : List ℕ → A → Type 0} {shape : Shape} {rules : ContentRules} → Format value Is shape rules
    → (known : Known) (x : Element) → result_ok (alone (of_tag (layout_of known).tag value) (now x)) ≡ value_of_octets known value x.content.now
octets-stated format known x = alone-content format (layout_of known).tag (now x) (encoded_at 0 0x04 x.content.now) x.octets refl

-- where no element stands nothing is read
pub stated_none : {A : Type 0} (known : Known) (value : Tlv → Result A Fault) (t : Tbs) → stated_value known content_octets_of t ≡ None → stated_value known value t ≡ None
unfolding stated_value
stated_none {A} known value t none = sym (by_extension (known_extension known t) (sym none))
  where
    by_octets : (s : Tlv) (r : Result Tlv Fault) → alone (tagged_as (layout_of known).tag) s ≡ r → None ≡ result_ok (r >>= content_octets_of) → None ≡ result_ok (r >>= value)
    by_octets s (Ok y) is e = absurd cc
    by_octets s (Err d) is e = refl

    by_extension : (o : Option Extension)
        → None ≡ option_and_then (λ x. value_of_octets known content_octets_of x.extnValue) o
        → None ≡ option_and_then (λ x. value_of_octets known value x.extnValue) o
    by_extension None e = refl
    by_extension (Some x) e =
        let s = encoded_at 0 0x04 x.extnValue in
        by_octets s (alone (tagged_as (layout_of known).tag) s) refl (e ∙ alone-then (layout_of known).tag content_octets_of s) ∙ sym (alone-then (layout_of known).tag value s)

-- else what is read of its element, wherever that stands
stated-some : {A : Type 0} {value : Tlv → Result A Fault} {Is : List ℕ → A → Type 0} {shape : Shape} {rules : ContentRules} → Format value Is shape rules
    → (known : Known) (t : Tbs) (e : Tlv) → AreOctets e.content → Some e.content ≡ stated_value known content_octets_of t → result_ok (value e) ≡ stated_value known value t
unfolding stated_value
stated-some {A} {value} format known t e fits some = by_extension (known_extension known t) some
  where
    by_octets : (r : Result Tlv Fault) → Some e.content ≡ result_ok (r >>= content_octets_of) → result_ok (value e) ≡ result_ok (r >>= value)
    by_octets (Ok y) is = format-content format e y fits (some_is is)
      where
        some_is : {c d : List ℕ} → Some c ≡ Some d → c ≡ d
        some_is h = cc
    by_octets (Err d) is = absurd cc

    by_extension : (o : Option Extension)
        → Some e.content ≡ option_and_then
        (λ x. value_of_octets known content_octets_of x.extnValue) o
        → result_ok (value e) ≡ option_and_then (λ x. value_of_octets known value x.extnValue) o
    by_extension None is = absurd cc
    by_extension (Some x) is =
        let s = encoded_at 0 0x04 x.extnValue in
        by_octets (alone (tagged_as (layout_of known).tag) s) (is ∙ alone-then (layout_of known).tag content_octets_of s) ∙ sym (alone-then (layout_of known).tag value s)

-- ---- what readers answer

-- where no extension stands nothing is stated
pub none-stands : (known : Known) (t : Tbs) → t.extensions ≡ None → None ≡ stated_value known content_octets_of t
unfolding stated_value
none-stands known t none = rw none refl

-- whether an extension that stands is this one
abbrev pub is_known : Known → Located → Bool
is_known known x = bytes_eq x.extnID (identifier_of known)

known-unlocated : (known : Known) (t : Tbs) (xs : List Located) → t.extensions ≡ Some (map unlocated xs) → known_extension known t ≡ option_map unlocated (find (is_known known) xs)
known-unlocated known t xs some = rw some (find-unlocated (λ x. bytes_eq x.extnID (identifier_of known)) xs)

-- nor where none of those that stand is this one
pub none-found : (known : Known) (t : Tbs) (xs : List Located) → t.extensions ≡ Some (map unlocated xs) → None ≡ find (is_known known) xs → None ≡ stated_value known content_octets_of t
unfolding stated_value
none-found known t xs some none = rw (known-unlocated known t xs some, sym none) refl

-- else the content of the one element within its octets is
pub one-found : (known : Known) (t : Tbs) (xs : List Located) → t.extensions ≡ Some (map unlocated xs) → (x : Borrowed) → Some (located_as x) ≡ find (is_known known) xs
    → (r : Result Element Fault) → Answers now r (alone (tagged_as (layout_of known).tag) (now x.value)) → option_map (λ e. e.content.now) (result_ok r) ≡ stated_value known content_octets_of t
unfolding stated_value
one-found known t xs some x found r answers = by_answer r answers
    ∙ sym (alone-then (layout_of known).tag content_octets_of (now x.value))
    ∙ octets-stated octets-format known x.value
    ∙ rw (known-unlocated known t xs some, sym found) refl
  where
    by_answer : (r : Result Element Fault) → Answers now r (alone (tagged_as (layout_of known).tag) (now x.value))
        → option_map (λ e. e.content.now) (result_ok r) ≡ result_ok (alone (tagged_as (layout_of known).tag) (now x.value) >>= content_octets_of)
    by_answer (Ok e) a = ap (λ (s : Result Tlv Fault). result_ok (s >>= content_octets_of)) (sym a)
    by_answer (Err f) a = ap (λ (s : Result Tlv Fault). result_ok (s >>= content_octets_of)) (sym a)

-- what a reader answers of an element that has the content of an extension's value is what is stated by that extension
abbrev pub AnswersStated : {X A : Type 0} → Known → (Tlv → Result A Fault) → (X → A) → Type 0
AnswersStated {X} known value view =
    (t : Tbs) (e : Element) (r : Result X Fault)
    → Some e.content.now ≡ stated_value known content_octets_of t
    → Answers view r (value (now e))
    → option_map view (result_ok r) ≡ stated_value known value t

pub answers-stated : {X A : Type 0} {value : Tlv → Result A Fault} {Is : List ℕ → A → Type 0} {shape : Shape} {rules : ContentRules} → Format value Is shape rules
    → (known : Known) (view : X → A) → AnswersStated known value view
answers-stated {X} {A} {value} format known view t e r some answers = by_answer r answers ∙ stated-some format known t (now e) e.octets some
  where
    by_answer : (r : Result X Fault) → Answers view r (value (now e)) → option_map view (result_ok r) ≡ result_ok (value (now e))
    by_answer (Ok x) a = ap (λ (s : Result A Fault). result_ok s) (sym a)
    by_answer (Err f) a = ap (λ (s : Result A Fault). result_ok s) (sym a)

-- the same for a reader that answers the value itself
abbrev pub AnswersItself : {A : Type 0} → Known → (Tlv → Result A Fault) → Type 0
AnswersItself {A} known value =
    (t : Tbs) (e : Element) (r : Result A Fault) → Some e.content.now ≡ stated_value known content_octets_of t → Answers (λ x. x) r (value (now e)) → result_ok r ≡ stated_value known value t

pub answers-itself : {A : Type 0} {value : Tlv → Result A Fault} {Is : List ℕ → A → Type 0} {shape : Shape} {rules : ContentRules} → Format value Is shape rules
    → (known : Known) → AnswersItself known value
answers-itself {A} format known t e r some answers = alike (result_ok r) ∙ answers-stated format known (λ x. x) t e r some answers
  where
    alike : (o : Option A) → o ≡ option_map (λ x. x) o
    alike None = refl
    alike (Some x) = refl

-- ---- certificates

-- what is found among extensions whose values break no rule is one of them
pub find-sound : (holder : Holder) (p : Extension → Bool) (xs : List Extension) (x : Extension) → AreValid holder xs → find p xs ≡ Some x → IsValid holder x × (p x ≡ true)
find-sound holder p [] x are e = absurd cc
find-sound holder p (y ∷ ys) x are e = by_test (p y) refl (find-sound holder p ys x are.1) e
  where
    by_test : (b : Bool) → p y ≡ b → (find p ys ≡ Some x → IsValid holder x × (p x ≡ true)) → cond b (Some y) (find p ys) ≡ Some x → IsValid holder x × (p x ≡ true)
    by_test true t more e = subst (λ (z : Extension). IsValid holder z × (p z ≡ true)) (some_is e) (are.0, t)
      where
        some_is : {a b : Extension} → Some a ≡ Some b → a ≡ b
        some_is h = cc
    by_test false t more e = more e

-- an extension that stands has a value, which breaks no rule
value-stated : (known : Known) (t : Tbs) → AreValid CertificateHolder (all_extensions t)
    → known_at CertificateHolder (identifier_of known) ≡ Some known → (x : Extension)
    → known_extension known t ≡ Some x
    → (v : ExtValue) × (stated_value known (content_of known) t ≡ Some v) × (broken_rule v ≡ None)
unfolding stated_value ext_of
value-stated known t sound here x stands =
    let f = find-sound CertificateHolder (λ y. bytes_eq y.extnID (identifier_of known)) (all_extensions t) x sound stands in
    let same : x.extnID ≡ identifier_of known = (bytes_eq-Decides x.extnID (identifier_of known)).0 f.1 in
    let is : IsExt (Some known) x.extnValue f.0.0 = subst (λ (o : Option Known). IsExt o x.extnValue f.0.0) (ap (λ (id : List ℕ). known_at CertificateHolder id) same ∙ here) f.0.1 in
    let read = ext-again (Some known) (encoded_at 0 0x04 x.extnValue) f.0.0 is in
    (f.0.0, rw stands (ap (λ (r : Result ExtValue Fault). result_ok r) read), f.0.2)

pub has-value : (octets : List ℕ) (c : Certificate) → IsCertificate octets c → (known : Known) → known_at CertificateHolder (identifier_of known) ≡ Some known
    → (x : Extension) → known_extension known c.tbsCertificate ≡ Some x → (v : ExtValue) × (stated_value known (content_of known) c.tbsCertificate ≡ Some v)
has-value octets c is known here x stands = let v = value-stated known c.tbsCertificate is.sound here x stands in (v.0, v.1)

pub keeps-rules : (octets : List ℕ) (c : Certificate) → IsCertificate octets c → (known : Known) → known_at CertificateHolder (identifier_of known) ≡ Some known
    → (v : ExtValue) → stated_value known (content_of known) c.tbsCertificate ≡ Some v → broken_rule v ≡ None
unfolding stated_value
keeps-rules octets c is known here v says = by_extension (known_extension known c.tbsCertificate) refl says
  where
    some_is : {a b : ExtValue} → Some a ≡ Some b → a ≡ b
    some_is h = cc

    by_extension : (o : Option Extension) → known_extension known c.tbsCertificate ≡ o → option_and_then (λ x. value_of_octets known (content_of known) x.extnValue) o ≡ Some v → broken_rule v ≡ None
    by_extension None stands e = absurd cc
    by_extension (Some x) stands e =
        let w = value-stated known c.tbsCertificate is.sound here x stands in
        ap (λ (y : ExtValue). broken_rule y) (some_is (sym says ∙ w.1)) ∙ w.2

-- ---- what a certificate says in the form of one extension

-- it is what the certificate says without the form
pub stated-as : {A : Type 0} (known : Known) (value : Tlv → Result A Fault) (form : A → ExtValue) (t : Tbs) → stated_value known (read_as value form) t ≡ option_map form (stated_value known value t)
unfolding stated_value
stated-as {A} known value form t = by_extension (known_extension known t)
  where
    tag : ℕ
    tag = (layout_of known).tag

    by_value : (r : Result A Fault) → result_ok (r >>= λ x. Ok (form x)) ≡ option_map form (result_ok r)
    by_value (Ok x) = refl
    by_value (Err d) = refl

    by_element : (r : Result Tlv Fault) → result_ok (r >>= read_as value form) ≡ option_map form (result_ok (r >>= value))
    by_element (Ok e) = by_value (value e)
    by_element (Err d) = refl

    by_extension : (o : Option Extension)
        → option_and_then (λ x. value_of_octets known (read_as value form) x.extnValue) o ≡
        option_map form (option_and_then (λ x. value_of_octets known value x.extnValue) o)
    by_extension None = refl
    by_extension (Some x) =
        let s = encoded_at 0 0x04 x.extnValue in
        alone-then tag (read_as value form) s ∙ by_element (alone (tagged_as tag) s) ∙ ap (λ (o : Option A). option_map form o) (sym (alone-then tag value s))

-- so of a certificate an extension that stands has a value that its own reading gives
pub has-own-value : {A : Type 0} (octets : List ℕ) (c : Certificate) → IsCertificate octets c → (known : Known) → known_at CertificateHolder (identifier_of known) ≡ Some known
    → (value : Tlv → Result A Fault) (form : A → ExtValue) → content_of known ≡ read_as value form
    → (x : Extension) → known_extension known c.tbsCertificate ≡ Some x → (v : A) × (stated_value known value c.tbsCertificate ≡ Some v)
has-own-value {A} octets c is known here value form same x stands =
    let v = has-value octets c is known here x stands in
    by_option (stated_value known value c.tbsCertificate) refl
    (sym (stated-as known value form c.tbsCertificate)
    ∙ ap (λ (r : Tlv → Result ExtValue Fault). stated_value known r c.tbsCertificate) (sym same)
    ∙ v.1)
  where
    by_option : {w : ExtValue} (o : Option A) → stated_value known value c.tbsCertificate ≡ o → option_map form o ≡ Some w → (v : A) × (stated_value known value c.tbsCertificate ≡ Some v)
    by_option None e says = absurd cc
    by_option (Some v) e says = (v, e)
