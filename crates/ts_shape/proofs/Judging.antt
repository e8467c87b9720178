-- What reading refuses is the first rule of a table that is broken: a step lemma for each kind of row.
use Rattle.std.proofs.Common.{◌≡◌, ℕ, zero, suc, Bool, true, false, cond, eqb, List, [], ◌∷◌, drop, Some, None, Option, Result, Ok, Err, refl, sym, ap, subst}
use Rattle.std.specs.Prelude.{map, option_map}
use Rattle.std.proofs.lemmas.Bool.{eqb-true}
use Rattle.ts_der.specs.declared.fault.DerFault.{DerFault}
use Rattle.ts_der.specs.declared.fault.DerFault.TheVariants.{WrongTag}
use Rattle.ts_der.specs.declared.fault.Fault.{Fault}
use Rattle.ts_der.specs.Answer.{◌>>=◌, Answers, refusal}
use Rattle.ts_der.specs.Rules.{Rule, first_broken, value_unless}
use Rattle.ts_der.specs.Element.{Place, Tlv, inside}
use Rattle.ts_der.specs.Header.{header_rules}
use Rattle.ts_der.specs.Reading.{unless, fault_at, is_end, element_of, behind, next_at, element_at, value_at, end_at, many_from, at_element}
use Rattle.ts_der.specs.Integer.{integer_rules}
use Rattle.ts_der.specs.BitString.{whole_octets_rules}
use Rattle.ts_der.specs.ObjectIdentifier.{oid_rules}
use Rattle.ts_shape.specs.declared.fault.CertRule.TheVariants.{Der}
use Rattle.ts_shape.specs.declared.fault.CertFault.{CertFault}
use Rattle.ts_shape.specs.Fields.{within, oid_at, integer_at, bits_at}
use Rattle.ts_shape.specs.Fault.{about, der, breaks}
use Rattle.ts_shape.specs.Rows.{object_identifier, integer, bit_string, elements_of}
use Rattle.ts_shape.specs.Shape.{Row, tagged, no_other, Shape, nothing, plain, ◌then◌, ◌or_else◌, is_absent, header_fault, each_fault, row_fault, judge, ContentRules, der_rules}

-- ---- a reading and the first rule that is broken

-- reading gives a value where no rule is broken, and the value has a property; else it gives the rule
abbrev pub Judged : {A : Type 0} → Result A CertFault → Option CertFault → (A → Type 0) → Type 0
Judged (Ok x) o P = (o ≡ None) × P x
Judged (Err f) o P = o ≡ Some f

pub refusal-judged : {A : Type 0} (r : Result A CertFault) (o : Option CertFault) (P : A → Type 0) → Judged r o P → refusal r ≡ o
refusal-judged (Ok x) o P j = sym j.0
refusal-judged (Err f) o P j = sym j

pub weaker : {A : Type 0} (r : Result A CertFault) (o : Option CertFault) (P Q : A → Type 0) → ((x : A) → P x → Q x) → Judged r o P → Judged r o Q
weaker (Ok x) o P Q f j = (j.0, f x j.1)
weaker (Err d) o P Q f j = j

-- one step after another
pub bind : {A B : Type 0} (r : Result A CertFault) (f : A → Result B CertFault) (o p : Option CertFault) (P : A → Type 0) (Q : B → Type 0)
    → Judged r o P → ((x : A) → P x → Judged (f x) p Q) → Judged (r >>= f) (o or_else p) Q
bind (Ok x) f o p P Q j k = subst (λ (q : Option CertFault). Judged (f x) (q or_else p) Q) (sym j.0) (k x j.1)
bind (Err d) f o p P Q j k = ap (λ (q : Option CertFault). q or_else p) j

pub bind-der : {A B : Type 0} (r : Result A Fault) (f : A → Result B Fault) (o p : Option CertFault) (P : A → Type 0) (Q : B → Type 0)
    → Judged (der r) o P → ((x : A) → P x → Judged (der (f x)) p Q) → Judged (der (r >>= f)) (o or_else p) Q
bind-der (Ok x) f o p P Q j k = subst (λ (q : Option CertFault). Judged (der (f x)) (q or_else p) Q) (sym j.0) (k x j.1)
bind-der (Err d) f o p P Q j k = ap (λ (q : Option CertFault). q or_else p) j

pub or_nothing : (o : Option CertFault) → (o or_else None) ≡ o
or_nothing (Some f) = refl
or_nothing None = refl

pub no_more : {A : Type 0} (r : Result A CertFault) (o : Option CertFault) (P : A → Type 0) → Judged r o P → Judged r (o or_else None) P
no_more r o P j = subst (λ (q : Option CertFault). Judged r q P) (sym (or_nothing o)) j

pub no_less : {A : Type 0} (r : Result A CertFault) (o : Option CertFault) (P : A → Type 0) → Judged r (o or_else None) P → Judged r o P
no_less r o P j = subst (λ (q : Option CertFault). Judged r q P) (or_nothing o) j

-- ---- one row

-- the header of the element at a place breaks no rule
abbrev pub Headed : Place → Type 0
Headed here = first_broken header_rules here.rest ≡ None

-- any element: its header, and then what it is
pub next-judged : {A B : Type 0} (row : Row) (here : Place) (value : Tlv → Result A CertFault) (g : Tlv × Place → A → Result B CertFault) (p : Option CertFault) (P : A → Type 0) (Q : B → Type 0)
    → Judged (value (element_of here)) (row_fault row (element_of here)) P
    → ((v : A) → Headed here → P v → Judged (g (element_of here, behind here) v) p Q)
    → Judged (der (next_at here) >>= λ x. value x.0 >>= λ v. g x v) (header_fault here or_else row_fault row (element_of here) or_else p) Q
unfolding next_at
next-judged {A} {B} row here value g p P Q j k = by_header (first_broken header_rules here.rest) refl
  where
    by_header : (o : Option DerFault) → first_broken header_rules here.rest ≡ o
        → Judged (der (unless {A = Tlv × Place} o here.at (element_of here, behind here)) >>= λ x. value x.0 >>= λ v. g x v)
        (option_map (λ kind. breaks here.at (Der kind)) o or_else row_fault row (element_of here) or_else p) Q
    by_header None e = bind (value (element_of here)) (λ v. g (element_of here, behind here) v) (row_fault row (element_of here)) p P Q j (λ v q. k v e q)
    by_header (Some kind) e = refl

-- what is read within an element of one tag
abbrev pub only : {A : Type 0} → ℕ → (Tlv → Result A CertFault) → Tlv → Result A CertFault
only tag value e = cond (eqb e.tag tag) (value e) (Err (breaks e.at (Der WrongTag)))

pub only-judged : {A : Type 0} (tag : ℕ) (shape : Shape) (rules : ContentRules) (value : Tlv → Result A CertFault) (e : Tlv) (P : A → Type 0)
    → Judged (value e) (judge shape (inside e) or_else option_map (breaks e.at) (rules e.content)) P
    → Judged (only tag value e) (row_fault (tagged tag shape rules no_other) e) (λ v. (e.tag ≡ tag) × P v)
only-judged {A} tag shape rules value e P j = by_tag (eqb e.tag tag) refl
  where
    by_tag : (b : Bool) → eqb e.tag tag ≡ b
        → Judged (cond {A = Result A CertFault} b (value e) (Err (breaks e.at (Der WrongTag))))
        (cond b (judge shape (inside e) or_else option_map (breaks e.at) (rules e.content))
        (Some (breaks e.at (Der WrongTag)))) (λ v. (e.tag ≡ tag) × P v)
    by_tag true same = weaker (value e) _ P _ (λ v p. (eqb-true e.tag tag same, p)) j
    by_tag false same = refl

pub element-only : {A B : Type 0} (tag : ℕ) (here : Place) (value : Tlv → Result A CertFault) (g : Tlv × Place → A → Result B CertFault)
    → (der (element_at tag here) >>= λ x. value x.0 >>= λ v. g x v) ≡ (der (next_at here) >>= λ x. only tag value x.0 >>= λ v. g x v)
unfolding element_at
element-only {A} {B} tag here value g = by_next (next_at here)
  where
    by_tag : (x : Tlv × Place) (b : Bool) → (der (cond {A = Result (Tlv × Place) Fault} b (Ok x) (Err (fault_at x.0.at WrongTag))) >>= λ x. value x.0 >>= λ v. g x v)
        ≡ (cond {A = Result A CertFault} b (value x.0) (Err (breaks x.0.at (Der WrongTag))) >>= λ v. g x v)
    by_tag x true = refl
    by_tag x false = refl

    by_next : (r : Result (Tlv × Place) Fault) → (der (r >>= λ x. cond (eqb x.0.tag tag) (Ok x) (Err (fault_at x.0.at WrongTag))) >>= λ x. value x.0 >>= λ v. g x v)
        ≡ (der r >>= λ x. only tag value x.0 >>= λ v. g x v)
    by_next (Ok x) = by_tag x (eqb x.0.tag tag)
    by_next (Err f) = refl

-- an element of one tag
pub element-judged : {A B : Type 0} (tag : ℕ) (shape : Shape) (rules : ContentRules) (here : Place)
    (value : Tlv → Result A CertFault) (g : Tlv × Place → A → Result B CertFault)
    (p : Option CertFault) (P : A → Type 0) (Q : B → Type 0)
    → Judged (value (element_of here)) (judge shape (inside (element_of here)) or_else option_map (breaks (element_of here).at) (rules (element_of here).content)) P
    → ((v : A) → Headed here → (element_of here).tag ≡ tag → P v → Judged (g (element_of here, behind here) v) p Q)
    → Judged (der (element_at tag here) >>= λ x. value x.0 >>= λ v. g x v) (header_fault here or_else row_fault (tagged tag shape rules no_other) (element_of here) or_else p) Q
element-judged tag shape rules here value g p P Q j k =
    subst (λ r. Judged r (header_fault here or_else row_fault (tagged tag shape rules no_other) (element_of here) or_else p) Q) (sym (element-only tag here value g))
    (next-judged (tagged tag shape rules no_other) here (only tag value) g p _ Q (only-judged tag shape rules value (element_of here) P j) (λ v h t. k v h t.0 t.1))

-- steps under der
pub der-bind : {A B : Type 0} (r : Result A Fault) (f : A → Result B Fault) → der (r >>= f) ≡ (der r >>= λ x. der (f x))
der-bind (Ok x) f = refl
der-bind (Err d) f = refl

pub der-bind-two : {A B C : Type 0} (r : Result A Fault) (value : A → Result B Fault) (g : A → B → Result C Fault)
    → der (r >>= λ x. value x >>= λ v. g x v) ≡ (der r >>= λ x. der (value x) >>= λ v. der (g x v))
der-bind-two (Ok x) value g = der-bind (value x) (g x)
der-bind-two (Err d) value g = refl

-- ---- rows one after another

-- what a row reads: an element that keeps its rules, and the place after it
abbrev pub Reads : {A : Type 0} → Row → (Place → Result (A × Place) CertFault) → (Tlv → A → Type 0) → Type 0
Reads {A} row item P = (here : Place) → Judged (item here) (header_fault here or_else row_fault row (element_of here))
    (λ x. Headed here × (x.1 ≡ behind here) × P (element_of here) x.0)

-- an element of one tag
pub within-reads : {A : Type 0} (tag : ℕ) (shape : Shape) (rules : ContentRules) (value : Tlv → Result A Fault) (P : Tlv → A → Type 0)
    → ((e : Tlv) → Judged (der (value e)) (judge shape (inside e) or_else option_map (breaks e.at) (rules e.content)) (P e))
    → Reads (tagged tag shape rules no_other) (λ here. der (within tag value here)) P
unfolding within
within-reads {A} tag shape rules value P j here =
    no_less _ _ _
    (subst (λ r. Judged r (header_fault here or_else row_fault (tagged tag shape rules no_other) (element_of here) or_else None) (λ x. Headed here × (x.1 ≡ behind here) × P (element_of here) x.0))
    (sym (der-bind-two (element_at tag here) (λ x. value x.0) (λ x v. Ok (v, x.1))))
    (element-judged tag shape rules here (λ e. der (value e)) (λ x v. Ok (v, x.1)) None (P (element_of here)) _ (j (element_of here)) (λ v h t p. (refl, (h, refl, p)))))

-- any row, and then others
pub then-judged : {A B : Type 0} (row : Row) (others : Shape) (here : Place) (item : Place → Result (A × Place) CertFault) (f : A × Place → Result B CertFault) (P : Tlv → A → Type 0) (Q : B → Type 0)
    → is_absent row here.rest ≡ false → Reads row item P
    → ((x : A) → P (element_of here) x → Judged (f (x, behind here)) (judge others (behind here)) Q)
    → Judged (item here >>= f) (judge (row then others) here) Q
then-judged {A} {B} row others here item f P Q e j k =
    subst (λ b. Judged (item here >>= f) (cond b (judge others here) (header_fault here or_else row_fault row (element_of here) or_else judge others (behind here))) Q) (sym e)
    (bind (item here) f (header_fault here or_else row_fault row (element_of here)) (judge others (behind here)) _ Q (j here)
    (λ x p. subst (λ (after : Place). Judged (f (x.0, after)) (judge others (behind here)) Q) (sym p.1) (k x.0 p.2)))

-- nothing more
pub end-judged : {B : Type 0} (here : Place) (f : Unit {0} → Result B CertFault) (p : Option CertFault) (Q : B → Type 0)
    → (here.rest ≡ [] → Judged (f tt) p Q) → Judged (der (end_at here) >>= f) (judge nothing here or_else p) Q
unfolding end_at
end-judged {B} here f p Q k = by_rest here.rest here.at k
  where
    by_rest : (rest : List ℕ) (at : ℕ) → (rest ≡ [] → Judged (f tt) p Q)
        → Judged (der (end_at (record { rest = rest; at = at })) >>= f) (judge nothing (record { rest = rest; at = at }) or_else p) Q
    by_rest [] at k = k refl
    by_rest (o ∷ rest) at k = refl

-- one step under der
pub under : {A B : Type 0} (r : Result A Fault) (f : A → Result B Fault) (o : Option CertFault) (Q : B → Type 0)
    → Judged (der r >>= λ x. der (f x)) o Q → Judged (der (r >>= f)) o Q
under r f o Q j = subst (λ q. Judged q o Q) (sym (der-bind r f)) j

-- nothing more, and then what was read
pub ends : {B : Type 0} (here : Place) (y : B) (Q : B → Type 0) → (here.rest ≡ [] → Q y) → Judged (der (end_at here >>= λ done. Ok y)) (judge nothing here) Q
ends here y Q q =
    no_less _ _ Q (under (end_at here) (λ done. Ok y) (judge nothing here or_else None) Q (end-judged here (λ done. Ok y) None Q (λ e. (refl, q e))))

-- octets by rules of DER
pub value-judged : {A : Type 0} (rules : List Rule) (value : List ℕ → A) (e : Tlv)
    → Judged (der (value_at rules value e)) (option_map (breaks e.at) (der_rules rules e.content)) (λ x. (x ≡ value e.content) × (first_broken rules e.content ≡ None))
value-judged {A} rules value e = by_rules (first_broken rules e.content) refl
  where
    by_rules : (o : Option DerFault) → first_broken rules e.content ≡ o
        → Judged (der (at_element e.at (value_unless o (value e.content)))) (option_map (breaks e.at) (option_map Der o)) (λ x. (x ≡ value e.content) × (first_broken rules e.content ≡ None))
    by_rules None h = (refl, (refl, h))
    by_rules (Some k) h = refl

-- what says nothing of a value
abbrev pub Whatever : {A : Type 0} → Tlv → A → Type 0
Whatever e x = Unit {0}

pub oid-reads : Reads object_identifier (λ here. der (oid_at here)) Whatever
unfolding oid_at
oid-reads = within-reads 0x06 plain (der_rules oid_rules) (value_at oid_rules (λ c. c)) Whatever (λ e. weaker _ _ _ _ (λ x p. tt) (value-judged oid_rules (λ c. c) e))

pub integer-reads : Reads integer (λ here. der (integer_at here)) Whatever
unfolding integer_at
integer-reads = within-reads 0x02 plain (der_rules integer_rules) (value_at integer_rules (λ c. c)) Whatever (λ e. weaker _ _ _ _ (λ x p. tt) (value-judged integer_rules (λ c. c) e))

pub bits-reads : Reads bit_string (λ here. der (bits_at here)) Whatever
unfolding bits_at
bits-reads = within-reads 0x03 plain (der_rules whole_octets_rules)
    (value_at whole_octets_rules (λ c. drop 1 c)) Whatever
    (λ e. weaker _ _ _ _ (λ x p. tt) (value-judged whole_octets_rules (λ c. drop 1 c) e))

-- an element of any tag
pub next-reads : {A : Type 0} (row : Row) (value : Tlv → Result A Fault) (P : Tlv → A → Type 0) → ((e : Tlv) → Judged (der (value e)) (row_fault row e) (P e))
    → Reads row (λ here. der (next_at here >>= λ x. value x.0 >>= λ v. Ok (v, x.1))) P
next-reads {A} row value P j here =
    no_less _ _ _
    (subst (λ r. Judged r (header_fault here or_else row_fault row (element_of here) or_else None) (λ x. Headed here × (x.1 ≡ behind here) × P (element_of here) x.0))
    (sym (der-bind-two (next_at here) (λ x. value x.0) (λ x v. Ok (v, x.1))))
    (next-judged row here (λ e. der (value e)) (λ x v. Ok (v, x.1)) None (P (element_of here)) _ (j (element_of here)) (λ v h p. (refl, (h, refl, p)))))

-- three steps
pub regroup : (a b c : Option CertFault) → (a or_else b or_else c) ≡ (a or_else (b or_else c))
regroup (Some f) b c = refl
regroup None b c = refl

-- ---- items

-- the elements of octets were read
abbrev pub AreElements : ℕ → Place → Type 0
AreElements n here = (es : List Tlv) × (many_from n next_at here ≡ Ok es) × (map (λ m. m.whole) es ≡ elements_of n here.rest)

pub next-headed : (here : Place) → Headed here → next_at here ≡ Ok (element_of here, behind here)
unfolding next_at
next-headed here e = rw e refl

pub one_more : (n : ℕ) (here : Place) → is_end here.rest ≡ false → Headed here → AreElements n (behind here) → AreElements (suc n) here
unfolding element_of behind
one_more n here e h more = (element_of here ∷ more.0, rw (e, next-headed here h, more.1) refl, rw (e, more.2) refl)

pub items-judged : {A : Type 0} (row : Row) (item : Place → Result (A × Place) Fault) (P : Tlv → A → Type 0) → Reads row (λ here. der (item here)) P
    → (n : ℕ) (here : Place) → Judged (der (many_from n item here)) (each_fault (row_fault row) n here) (λ xs. AreElements n here)
items-judged row item P j zero here = (refl, ([], refl, refl))
items-judged {A} row item P j (suc n) here = by_end (items-judged row item P j n (behind here)) (is_end here.rest) refl
  where
    by_end : Judged (der (many_from n item (behind here))) (each_fault (row_fault row) n (behind here)) (λ xs. AreElements n (behind here))
        → (b : Bool) → is_end here.rest ≡ b
        → Judged (der (cond {A = Result (List A) Fault} b (Ok []) (item here >>= λ x. many_from n item x.1 >>= λ xs. Ok (x.0 ∷ xs))))
        (cond b None (header_fault here or_else row_fault row (element_of here) or_else each_fault (row_fault row) n (behind here))) (λ xs. AreElements (suc n) here)
    by_end more true e = (refl, ([], rw e refl, rw e refl))
    by_end more false e =
        bind-der (item here) (λ x. many_from n item x.1 >>= λ xs. Ok (x.0 ∷ xs))
        (header_fault here or_else row_fault row (element_of here))
        (each_fault (row_fault row) n (behind here)) _ (λ xs. AreElements (suc n) here) (j here)
        (λ x p. no_less _ _ _
        (bind-der (many_from n item x.1) (λ xs. Ok (x.0 ∷ xs)) (each_fault (row_fault row) n (behind here)) None (λ xs. AreElements n (behind here)) (λ xs. AreElements (suc n) here)
        (subst (λ (after : Place). Judged (der (many_from n item after)) (each_fault (row_fault row) n (behind here)) (λ xs. AreElements n (behind here))) (sym p.1) more)
        (λ xs q. (refl, one_more n here e p.0 q))))

-- what a call refuses, as a fault of a certificate
pub about-judged : {X Y : Type 0} (view : X → Y) (result : Result X Fault) (reading : Result Y Fault) (o : Option CertFault) (P : Y → Type 0)
    → Answers view result reading → Judged (der reading) o P → option_map about (refusal result) ≡ o
about-judged {X} {Y} view (Ok x) reading o P a j = sym ((subst (λ (r : Result Y Fault). Judged (der r) o P) a j).0)
about-judged {X} {Y} view (Err f) reading o P a j = sym (subst (λ (r : Result Y Fault). Judged (der r) o P) a j)
