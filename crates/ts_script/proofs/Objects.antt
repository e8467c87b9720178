-- What the words of a line describe is one thing; the line is answered, or refused with one word.
use Rattle.std.proofs.Common.{◌≡◌, ◌≢◌, ◌∙◌, refl, sym, ap, subst, ℕ, ◌<◌, ◌≤◌, List, Bool, true, false, None, Result, Ok, Err, is_ok, length, arith}
use Rattle.std.specs.Global.{Vec}
use Rattle.ts_shape.specs.declared.fault.CertFault.{CertFault}
use Rattle.ts_crl.specs.Fault.{ListFault}
use Rattle.ts_crl.specs.List.{CertificateList}
use Rattle.ts_make.specs.declared.fault.MakeFault.{MakeFault}
use Rattle.ts_make.specs.declared.fault.MakeFault.TheVariants as make
use Rattle.ts_make.specs.Making.{AnswersMade}
use Rattle.ts_make.specs.CrlMaking.{AnswersCrl, IsTaken}
use Rattle.ts_script.specs.declared.script.LineFault.{LineFault}
use Rattle.ts_script.specs.declared.script.LineFault.TheVariants.{Unknown, Form, Name, Limit, Message, Memory}
use Rattle.ts_script.specs.Known.{Entry, thing_named}
use Rattle.ts_script.specs.CertLine.{cert_line}
use Rattle.ts_script.specs.CrlLine.{crl_line}
use Rattle.ts_script.specs.Objects.{Object, a_certificate, a_crl, WordsOf, line_of, name_in, most, IsMade, Reads, IsUnreadable, IsLine, IsSaid, RefusesWords, Refuses}
use Rattle.ts_script.specs.inside.Making.{unless_taken, AnswersWords}
use Rattle.ts_script.proofs.Answering.{made_again}
use Rattle.ts_script.proofs.OneCertificate.{one_made}
use Rattle.ts_script.proofs.OneList.{crl_made_again, one_crl_made}

-- ---- each of the two

same_name : (o : Object) (v w : WordsOf o) → line_of o v ≡ line_of o w → name_in o v ≡ name_in o w
unfolding cert_line crl_line
same_name a_certificate v w same = cc
same_name a_crl v w same = cc

-- what the one words describe, the others do
again : (o : Object) (v w : WordsOf o) (octets : List ℕ) → line_of o v ≡ line_of o w → IsMade o v octets → IsMade o w octets
again a_certificate v w octets same is = made_again v w octets same is
again a_crl v w octets same is = crl_made_again v w octets same is

-- words describe one list of octets
one : (o : Object) (c : WordsOf o) (octets others : List ℕ) → IsMade o c octets → IsMade o c others → octets ≡ others
one a_certificate c octets others is also = one_made c octets others is also
one a_crl c octets others is also = one_crl_made c octets others is also

-- what can be read is not unreadable
read_stands : (o : Object) (octets : List ℕ) → Reads o octets → ¬ (IsUnreadable o octets)
read_stands a_certificate octets reads is = cc (sym reads ∙ is.1)
read_stands a_crl octets reads is = subst (λ (r : Result CertificateList ListFault). IsTaken r) is.1.1 reads

-- what making answers
abbrev pub Answers : Object → Result (Vec ℕ) MakeFault → List ℕ → Type 0
Answers a_certificate made octets = AnswersMade made octets
Answers a_crl made octets = AnswersCrl IsTaken made octets

too_long : (o : Object) (octets : List ℕ) → Answers o (Err make.TooLong) octets → most o < length octets
too_long a_certificate octets answers = answers
too_long a_crl octets answers = answers

unreadable : (o : Object) (fault : CertFault) (octets : List ℕ) → Answers o (Err (make.Unreadable fault)) octets → IsUnreadable o octets
unreadable a_certificate fault octets answers = (answers.0, ap is_ok answers.1)
unreadable a_crl fault octets answers = (answers.0, (fault, answers.1))

made_of : (o : Object) (v : Vec ℕ) (octets : List ℕ) → Answers o (Ok v) octets → (v.items ≡ octets) × (length octets ≤ most o) × Reads o octets
made_of a_certificate v octets answers = answers
made_of a_crl v octets answers = answers

-- ---- both

long_stands : (o : Object) (octets : List ℕ) → most o < length octets → ¬ (IsUnreadable o octets)
long_stands o octets long is = let short = is.0 in omega arith

-- words are answered as what is made of them, unless their name is taken
pub words_answered : (o : Object) (known : List Entry) (c : WordsOf o) (octets : List ℕ) (made : Result (Vec ℕ) MakeFault) (is_taken : Bool) → IsMade o c octets → Answers o made octets
    → (is_taken ≡ true → thing_named known (name_in o c) ≢ None) → (is_taken ≡ false → thing_named known (name_in o c) ≡ None) → AnswersWords o known c (unless_taken made is_taken)
words_answered o known c octets (Err make.Memory) is_taken is answers taken free = tt
words_answered o known c octets (Err (make.Unreadable fault)) is_taken is answers taken free = λ others also.
    subst (IsUnreadable o) (one o c octets others is also) (unreadable o fault octets answers)
words_answered o known c octets (Err make.TooLong) true is answers taken free = (octets, is, long_stands o octets (too_long o octets answers), taken refl)
words_answered o known c octets (Err make.TooLong) false is answers taken free = (octets, is, free refl, too_long o octets answers)
words_answered o known c octets (Ok v) true is answers taken free = (octets, is, read_stands o octets (made_of o v octets answers).2, taken refl)
words_answered o known c octets (Ok v) false is answers taken free =
    let found = made_of o v octets answers in
    rw found.0 (is, found.1, found.2, free refl)

-- a line is refused as its words are
pub words_refused : (o : Object) (known : List Entry) (line : List ℕ) (c : WordsOf o) (fault : LineFault) → IsLine o line c → RefusesWords o known c fault → Refuses o known line fault
words_refused o known line c Form is refused = λ d stands octets made. refused octets (again o d c octets (sym stands.0 ∙ is.0) made)
words_refused o known line c Name is refused = (c, is, refused)
words_refused o known line c Limit is refused = (c, is, refused)
words_refused o known line c Memory is refused = tt
words_refused o known line c Message is refused = refused
words_refused o known line c Unknown is refused = refused

free_again : (o : Object) (known : List Entry) (v w : WordsOf o) → line_of o v ≡ line_of o w → thing_named known (name_in o v) ≡ None → thing_named known (name_in o w) ≡ None
free_again o known v w same free = subst (λ (name : List ℕ). thing_named known name ≡ None) (same_name o v w same) free

-- the words of a line describe one list of octets
one_of_line : (o : Object) (line : List ℕ) (v w : WordsOf o) (octets others : List ℕ) → IsLine o line v → IsLine o line w → IsMade o v octets → IsMade o w others → octets ≡ others
one_of_line o line v w octets others stands also made other = one o w octets others (again o v w octets (sym stands.0 ∙ also.0) made) other

pub answered : (o : Object) (known after : List Entry) (line text : List ℕ) (fault : LineFault) → IsSaid o known line text after → Refuses o known line fault → fault ≡ Memory
answered o known after line text Form said refused = absurd (read_stands o said.2.0 said.2.3 (refused said.0 said.1 said.2.0 said.2.1))
answered o known after line text Name said refused = absurd (refused.2.3 (free_again o known said.0 refused.0 (sym said.1.0 ∙ refused.1.0) said.2.4))
answered o known after line text Limit said refused =
    let same : length said.2.0 ≡ length refused.2.0 = ap length (one_of_line o line said.0 refused.0 said.2.0 refused.2.0 said.1 refused.1 said.2.1 refused.2.1) in
    absurd (omega (arith, same, said.2.2, refused.2.3))
answered o known after line text Memory said refused = refl
answered o known after line text Message said refused = absurd refused
answered o known after line text Unknown said refused = absurd refused

pub refused : (o : Object) (known : List Entry) (line : List ℕ) (fault other : LineFault) → Refuses o known line fault → Refuses o known line other
    → fault ≢ Memory → other ≢ Memory → fault ≡ other
refused o known line Memory other r s some more = absurd (some refl)
refused o known line Message other r s some more = absurd r
refused o known line Unknown other r s some more = absurd r
refused o known line Form Form r s some more = refl
refused o known line Form Name r s some more = absurd (s.2.2 (r s.0 s.1 s.2.0 s.2.1))
refused o known line Form Limit r s some more = absurd (long_stands o s.2.0 s.2.3 (r s.0 s.1 s.2.0 s.2.1))
refused o known line Form Memory r s some more = absurd (more refl)
refused o known line Form Message r s some more = absurd s
refused o known line Form Unknown r s some more = absurd s
refused o known line Name Form r s some more = absurd (r.2.2 (s r.0 r.1 r.2.0 r.2.1))
refused o known line Name Name r s some more = refl
refused o known line Name Limit r s some more = absurd (r.2.3 (free_again o known s.0 r.0 (sym s.1.0 ∙ r.1.0) s.2.2))
refused o known line Name Memory r s some more = absurd (more refl)
refused o known line Name Message r s some more = absurd s
refused o known line Name Unknown r s some more = absurd s
refused o known line Limit Form r s some more = absurd (long_stands o r.2.0 r.2.3 (s r.0 r.1 r.2.0 r.2.1))
refused o known line Limit Name r s some more = absurd (s.2.3 (free_again o known r.0 s.0 (sym r.1.0 ∙ s.1.0) r.2.2))
refused o known line Limit Limit r s some more = refl
refused o known line Limit Memory r s some more = absurd (more refl)
refused o known line Limit Message r s some more = absurd s
refused o known line Limit Unknown r s some more = absurd s
