-- Parts in a row, and kinds, are read in one way: one lemma for each form of a row.
use Rattle.std.proofs.Common.{◌≡◌, ℕ, ◌<◌, ◌==◌, Bool, true, false, cond, eqb, List, [], ◌∷◌, ◌++◌, length, Option, Some, None, refl, sym, ap, subst, ◌∙◌, append_assoc, arith}
use Rattle.std.specs.List.{AllByRecursion}
use Rattle.std.proofs.lemmas.Bool.{eqb-true}
use Rattle.ts_codec.specs.Reading.{Reader, ◌>>=◌, value_if, lookup, ◌that◌, ◌and◌, ◌then◌, ◌into◌, bare, octet_at, of_kind, by_kind, code_at}
use Rattle.ts_codec.proofs.Laws.{IsBytes, Takes, Part, answer, step, provided_is, some_is, made}
use Rattle.ts_codec.proofs.Numbers.{octet_part}

-- ---- a part whose value meets a test

pub that_part : {A : Type 0} {encode : A → List ℕ} {Fit : A → Type 0} {read : Reader A} (part : Part encode Fit read) (holds : A → Bool)
    → Part encode (λ x. Fit x × (holds x ≡ true)) (read that holds)
that_part {A} {encode} {Fit} {read} part holds = record { takes = takes; again = again }
  where
    takes : (octets : List ℕ) (x : A) (rest : List ℕ) → IsBytes octets → (read that holds) octets ≡ Some (x, rest) → Takes octets (encode x) rest × (Fit x × (holds x ≡ true))
    takes octets x rest bytes is =
        step part octets (λ y. value_if (holds y.0) y) (x, rest) bytes is
        (λ y after first more fit e. provided_is (holds y) (y, after) (x, rest) e
        (λ good same. subst (λ (p : A × List ℕ). Takes octets (encode p.0) p.1 × (Fit p.0 × (holds p.0 ≡ true))) same (record { is = first; more = more }, (fit, good))))

    again : (x : A) (rest : List ℕ) → Fit x × (holds x ≡ true) → (read that holds) (encode x ++ rest) ≡ Some (x, rest)
    again x rest fit = ap (λ r. r >>= λ y. value_if (holds y.0) y) (part.again x rest fit.0) ∙ rw fit.1 refl

-- the same values, named otherwise
pub fitting : {A : Type 0} {encode : A → List ℕ} {Fit : A → Type 0} {read : Reader A}
    → Part encode Fit read → (Other : A → Type 0) → ((x : A) → Fit x → Other x)
    → ((x : A) → Other x → Fit x) → Part encode Other read
fitting part Other to from = record {
  takes = λ octets x rest bytes is. let t = part.takes octets x rest bytes is in (t.0, to x t.1);
  again = λ x rest fit. part.again x rest (from x fit);
}

-- the same octets, described otherwise
pub recoded : {A : Type 0} {encode : A → List ℕ} {Fit : A → Type 0} {read : Reader A} → Part encode Fit read → (other : A → List ℕ) → ((x : A) → other x ≡ encode x) → Part other Fit read
recoded {encode = encode} {Fit = Fit} {read = read} part other same = record {
  takes = λ octets x rest bytes is. let t = part.takes octets x rest bytes is in (record { is = t.0.is ∙ ap (λ l. l ++ rest) (sym (same x)); more = t.0.more }, t.1);
  again = λ x rest fit. ap (λ l. read (l ++ rest)) (same x) ∙ part.again x rest fit;
}

-- a test that no value fails which has no octets
pub test_part : {A : Type 0} {encode : A → List ℕ} {Fit : A → Type 0} {read : Reader A}
    → Part encode Fit read → (holds : A → Bool) → ((x : A) → holds x ≡ true → Fit x)
    → Part encode (λ x. holds x ≡ true) (read that holds)
test_part part holds enough = fitting (that_part part holds) (λ x. holds x ≡ true) (λ x fit. fit.1) (λ x good. (enough x good, good))

-- ---- a part, and others

pub and_part : {A B : Type 0} {ea : A → List ℕ} {FitA : A → Type 0} {ra : Reader A} {eb : B → List ℕ} {FitB : B → Type 0} {rb : Reader B} → Part ea FitA ra → Part eb FitB rb
    → Part {A = A × B} (λ p. ea p.0 ++ eb p.1) (λ p. FitA p.0 × FitB p.1) (ra and rb)
and_part {A} {B} {ea} {FitA} {ra} {eb} {FitB} {rb} part others = record { takes = takes; again = again }
  where
    takes : (octets : List ℕ) (p : A × B) (rest : List ℕ) → IsBytes octets → (ra and rb) octets ≡ Some (p, rest) → Takes octets (ea p.0 ++ eb p.1) rest × (FitA p.0 × FitB p.1)
    takes octets p rest bytes is =
        step part octets (λ a. rb a.1 >>= λ b. answer (a.0, b.0) b.1) (p, rest) bytes is
        (λ a o1 e0 b1 f0 h0. step others o1 (λ b. answer (a, b.0) b.1) (p, rest) b1 h0
        (λ b o2 e1 b2 f1 h1. made {A = A × B} (λ p. ea p.0 ++ eb p.1) (λ p. FitA p.0 × FitB p.1) octets o2 (a, b) p rest h1
        (e0 ∙ ap (λ l. ea a ++ l) e1 ∙ sym (append_assoc (ea a) (eb b) o2)) b2 (f0, f1)))

    again : (p : A × B) (rest : List ℕ) → FitA p.0 × FitB p.1 → (ra and rb) ((ea p.0 ++ eb p.1) ++ rest) ≡ Some (p, rest)
    again p rest fit =
        ap (ra and rb) (append_assoc (ea p.0) (eb p.1) rest)
        ∙ ap (λ r. r >>= λ a. rb a.1 >>= λ b. answer (a.0, b.0) b.1) (part.again p.0 (eb p.1 ++ rest) fit.0)
        ∙ ap (λ r. r >>= λ b. answer (p.0, b.0) b.1) (others.again p.1 rest fit.1)

-- a part, and others that it decides; view finds it in the whole
pub then_part : {A B : Type 0} {ea : A → List ℕ} {FitA : A → Type 0} {ra : Reader A} {eb : B → List ℕ} {FitB : B → Type 0} {rb : A → Reader B} → Part ea FitA ra → (view : B → A)
    → ((a : A) → FitA a → Part eb (λ b. FitB b × (view b ≡ a)) (rb a)) → Part (λ b. ea (view b) ++ eb b) (λ b. FitA (view b) × FitB b) (ra then rb)
then_part {A} {B} {ea} {FitA} {ra} {eb} {FitB} {rb} part view others = record { takes = takes; again = again }
  where
    takes : (octets : List ℕ) (b : B) (rest : List ℕ) → IsBytes octets → (ra then rb) octets ≡ Some (b, rest) → Takes octets (ea (view b) ++ eb b) rest × (FitA (view b) × FitB b)
    takes octets b rest bytes is =
        step part octets (λ a. rb a.0 a.1) (b, rest) bytes is
        (λ a o1 e0 b1 f0 h0.
        let t = (others a f0).takes o1 b rest b1 h0 in
        let all : octets ≡ (ea a ++ eb b) ++ rest = e0 ∙ ap (λ l. ea a ++ l) t.0.is ∙ sym (append_assoc (ea a) (eb b) rest) in
        subst (λ (x : A). Takes octets (ea x ++ eb b) rest × (FitA x × FitB b)) (sym t.1.1) (record { is = all; more = t.0.more }, (f0, t.1.0)))

    again : (b : B) (rest : List ℕ) → FitA (view b) × FitB b → (ra then rb) ((ea (view b) ++ eb b) ++ rest) ≡ Some (b, rest)
    again b rest fit =
        ap (ra then rb) (append_assoc (ea (view b)) (eb b) rest)
        ∙ ap (λ r. r >>= λ a. rb a.0 a.1) (part.again (view b) (eb b ++ rest) fit.0)
        ∙ (others (view b) fit.0).again b rest (fit.1, refl)

-- ---- the value that parts make up

-- what a value's parts are, and which values the parts make up
pub record Made {A B : Type 0} (encode_parts : A → List ℕ) (PartsFit : A → Type 0) (make : A → B) (encode : B → List ℕ) (Fit : B → Type 0) : Type 0 where
  pub parts : B → A
  pub same : (b : B) → Fit b → make (parts b) ≡ b
  pub fit : (b : B) → Fit b → PartsFit (parts b)
  pub fits : (a : A) → PartsFit a → Fit (make a)
  pub octets : (a : A) → PartsFit a → encode (make a) ≡ encode_parts a

pub into_part : {A B : Type 0} {ea : A → List ℕ} {FitA : A → Type 0} {ra : Reader A}
    (part : Part ea FitA ra) (make : A → B) {encode : B → List ℕ} {Fit : B → Type 0}
    → Made ea FitA make encode Fit → Part encode Fit (ra into make)
into_part {A} {B} {ea} {FitA} {ra} part make {encode} {Fit} m = record { takes = takes; again = again }
  where
    takes : (octets : List ℕ) (b : B) (rest : List ℕ) → IsBytes octets → (ra into make) octets ≡ Some (b, rest) → Takes octets (encode b) rest × Fit b
    takes octets b rest bytes is =
        step part octets (λ a. answer (make a.0) a.1) (b, rest) bytes is
        (λ a o1 e0 b1 f0 h0. made encode Fit octets o1 (make a) b rest h0 (e0 ∙ ap (λ l. l ++ o1) (sym (m.octets a f0))) b1 (m.fits a f0))

    again : (b : B) (rest : List ℕ) → Fit b → (ra into make) (encode b ++ rest) ≡ Some (b, rest)
    again b rest fit =
        let same = m.same b fit in
        let e : encode b ≡ ea (m.parts b) = ap encode (sym same) ∙ m.octets (m.parts b) (m.fit b fit) in
        ap (λ l. (ra into make) (l ++ rest)) e
        ∙ ap (λ r. r >>= λ a. answer (make a.0) a.1) (part.again (m.parts b) rest (m.fit b fit))
        ∙ ap (λ x. answer x rest) same

-- a value is read again from its parts
pub parts_again : {A B : Type 0} {ea : A → List ℕ} {FitA : A → Type 0} {ra : Reader A}
    (part : Part ea FitA ra) (make : A → B) (a : A) (rest : List ℕ) → FitA a
    → (ra into make) (ea a ++ rest) ≡ Some (make a, rest)
parts_again part make a rest fit = ap (λ r. r >>= λ a. answer (make a.0) a.1) (part.again a rest fit)

-- ---- kinds

-- what the reader of a kind reads: values of this kind
pub record Case {B : Type 0} (kind_of : B → ℕ) (encode : B → List ℕ) (Fit : B → Type 0) (kind : ℕ) (read : Reader B) : Type 0 where
  pub takes : (octets : List ℕ) (b : B) (rest : List ℕ) → IsBytes octets → read octets ≡ Some (b, rest) → Takes octets (encode b) rest × (Fit b × (kind_of b ≡ kind))

pub case : {A B : Type 0} {ea : A → List ℕ} {FitA : A → Type 0} {ra : Reader A} (part : Part ea FitA ra) (make : A → B) {kind_of : B → ℕ} {encode : B → List ℕ} {Fit : B → Type 0} (kind : ℕ)
    → ((a : A) → FitA a → Fit (make a) × (encode (make a) ≡ ea a) × (kind_of (make a) ≡ kind)) → Case kind_of encode Fit kind (ra into make)
case {A} {B} {ea} {FitA} {ra} part make {kind_of} {encode} {Fit} kind is = record { takes = takes }
  where
    takes : (octets : List ℕ) (b : B) (rest : List ℕ) → IsBytes octets → (ra into make) octets ≡ Some (b, rest) → Takes octets (encode b) rest × (Fit b × (kind_of b ≡ kind))
    takes octets b rest bytes read =
        step part octets (λ a. answer (make a.0) a.1) (b, rest) bytes read
        (λ a o1 e0 b1 f0 h0.
        let s = is a f0 in
        made encode (λ b. Fit b × (kind_of b ≡ kind)) octets o1 (make a) b rest h0 (e0 ∙ ap (λ l. l ++ o1) (sym s.1)) b1 (s.0, s.2))

pub bare_case : {B : Type 0} {kind_of : B → ℕ} {encode : B → List ℕ} {Fit : B → Type 0} (x : B) (kind : ℕ) → encode x ≡ [] → Fit x → kind_of x ≡ kind → Case kind_of encode Fit kind (bare x)
bare_case {B} {kind_of} {encode} {Fit} x kind none fit is = record {
  takes = λ octets b rest bytes read. made encode (λ b. Fit b × (kind_of b ≡ kind)) octets octets x b rest read (ap (λ l. l ++ octets) (sym none)) bytes (fit, is);
}

pub choose : {A P : Type 0} (n m : ℕ) (a b : Option A) (y : A) → cond (eqb n m) a b ≡ Some y → (n ≡ m → a ≡ Some y → P) → (b ≡ Some y → P) → P
choose {A} {P} n m a b y is here other = by (eqb n m) refl is
  where
    by : (t : Bool) → eqb n m ≡ t → cond t a b ≡ Some y → P
    by true e h = here (eqb-true n m e) h
    by false e h = other h

lookup_found : {A : Type 0} (n : ℕ) (rows : List (ℕ × A)) (x : A) (P : ℕ → A → Type 0) → lookup n rows ≡ Some x → AllByRecursion (λ row. P row.0 row.1) rows → P n x
lookup_found n [] x P is all = absurd (cc is)
lookup_found n (row ∷ rows) x P is all =
    choose n row.0 (Some row.1) (lookup n rows) x is
    (λ same e. subst (λ m. P m x) (sym same) (subst (λ y. P row.0 y) (some_is row.1 x e) all.0))
    (λ e. lookup_found n rows x P e all.1)

-- a step of a reading of which no octets are read
pub look : {A B P : Type 0} (n : ℕ) (rows : List (ℕ × A)) (Q : ℕ → A → Type 0) (f : A → Option B)
    (y : B) → AllByRecursion (λ row. Q row.0 row.1) rows → (lookup n rows >>= f) ≡ Some y
    → ((x : A) → Q n x → f x ≡ Some y → P) → P
look {A} {B} {P} n rows Q f y all is go = by (lookup n rows) refl is
  where
    by : (r : Option A) → lookup n rows ≡ r → (r >>= f) ≡ Some y → P
    by None e h = absurd (cc h)
    by (Some x) e h = go x (lookup_found n rows x Q e all) h

-- one case, and the others
infixr 10 ◌also◌
abbrev pub ◌also◌ : {A B : Type 0} → A → B → A × B
one also others = (one, others)

-- the rows of a table are cases, and each value is read by the row of its kind
pub record Kinds {B : Type 0} (kind_of : B → ℕ) (encode : B → List ℕ) (Fit : B → Type 0) (rows : List (ℕ × Reader B)) : Type 0 where
  pub cases : AllByRecursion (λ row. Case kind_of encode Fit row.0 row.1) rows
  pub again : (b : B) (rest : List ℕ) → Fit b → (lookup (kind_of b) rows >>= λ fields. fields (encode b ++ rest)) ≡ Some (b, rest)

-- the fields of one kind
pub fields_part : {B : Type 0} {kind_of : B → ℕ} {encode : B → List ℕ} {Fit : B → Type 0}
    {rows : List (ℕ × Reader B)} → Kinds kind_of encode Fit rows → (kind : ℕ)
    → Part encode (λ b. Fit b × (kind_of b ≡ kind)) (of_kind rows kind)
unfolding of_kind
fields_part {B} {kind_of} {encode} {Fit} {rows} kinds kind = record {
  takes = λ octets b rest bytes is. look kind rows (Case kind_of encode Fit) (λ fields. fields octets) (b, rest) kinds.cases is (λ read row e. row.takes octets b rest bytes e);
  again = λ b rest fit. ap (λ k. lookup k rows >>= λ fields. fields (encode b ++ rest)) (sym fit.1) ∙ kinds.again b rest fit.0;
}

-- an octet of the kind, and its fields
pub kind_part : {B : Type 0} {kind_of : B → ℕ} {encode : B → List ℕ} {Fit : B → Type 0}
    {rows : List (ℕ × Reader B)} → Kinds kind_of encode Fit rows
    → Part (λ b. kind_of b ∷ encode b) Fit (by_kind rows)
kind_part {B} {kind_of} {encode} {Fit} {rows} kinds = record { takes = takes; again = λ b rest fit. (fields_part kinds (kind_of b)).again b rest (fit, refl) }
  where
    takes : (octets : List ℕ) (b : B) (rest : List ℕ) → IsBytes octets → by_kind rows octets ≡ Some (b, rest) → Takes octets (kind_of b ∷ encode b) rest × Fit b
    takes octets b rest bytes is =
        step octet_part octets (λ k. of_kind rows k.0 k.1) (b, rest) bytes is
        (λ k o1 e0 b1 f0 h0.
        let t = (fields_part kinds k).takes o1 b rest b1 h0 in
        (record { is = e0 ∙ ap (λ l. k ∷ l) t.0.is ∙ ap (λ n. n ∷ (encode b ++ rest)) (sym t.1.1); more = t.0.more }, t.1.0))

-- an octet that stands for a value
pub code_part : {A : Type 0} (code_of : A → ℕ) (values : List (ℕ × A))
    → AllByRecursion (λ row. code_of row.1 ≡ row.0) values
    → ((x : A) → lookup (code_of x) values ≡ Some x)
    → Part (λ x. code_of x ∷ []) (λ x. Unit {0}) (code_at values)
unfolding code_at
code_part {A} code_of values are each = record { takes = takes; again = λ x rest fit. ap (λ r. r >>= λ y. answer y rest) (each x) }
  where
    takes : (octets : List ℕ) (x : A) (rest : List ℕ) → IsBytes octets
        → (octet_at octets >>= λ code. lookup code.0 values >>= λ y. answer y code.1) ≡ Some
        (x, rest) → Takes octets (code_of x ∷ []) rest × Unit {0}
    takes octets x rest bytes is =
        step octet_part octets (λ code. lookup code.0 values >>= λ y. answer y code.1) (x, rest) bytes is
        (λ code o1 e0 b1 f0 h0. look code values (λ n y. code_of y ≡ n) (λ y. answer y o1) (x, rest) are h0
        (λ y same h1. made (λ x. code_of x ∷ []) (λ x. Unit {0}) octets o1 y x rest h1 (e0 ∙ ap (λ n. n ∷ o1) (sym same)) b1 tt))
