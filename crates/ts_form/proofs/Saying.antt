-- What is said one after another.
use Rattle.std.proofs.Common.{◌≡◌, ◌≤◌, ◌<◌, ◌+◌, ◌∙◌, arith, refl, sym, ap, subst, ℕ, Bool, true, false, nat_le, nat_lt}
use Rattle.std.proofs.Common.{List, [], ◌∷◌, ◌++◌, length, length-append, append_assoc, Option, Some, None, codes}
use Rattle.std.specs.Prelude.{fold, if◌then◌else◌}
use Rattle.std.specs.Fmt.{decimal}
use Rattle.std.proofs.lemmas.Bool.Decides.{nat_tests}
use Rattle.std.proofs.lemmas.List.{append-nil}
use Rattle.serde_json.specs.Data.{Data, null, boolean, number, string, array, Num, unsigned, negative, float, Items, no_items, item, Members, no_members, member, object}
use Rattle.serde_json.specs.Find.{as_str, as_u64}
use Rattle.ts_form.specs.Pairs.{AreFew, AreMany, NamedValue, with_pair}
use Rattle.ts_form.specs.Said.{both, has_long_name, items_said, members_said, text_said, value_said, IsNotTaken, IsUnsaid, AppendsPairs}
use Rattle.ts_form.specs.declared.fault.FormFault.{FormFault}
use Rattle.ts_form.specs.declared.fault.FormFault.TheVariants as faults

-- nothing before
pub both_front : (o : Option (List NamedValue)) → both (Some []) o ≡ o
both_front (Some xs) = refl
both_front None = refl

-- nothing behind
pub both_end : (done : List NamedValue) → both (Some done) (Some []) ≡ Some done
both_end done = ap Some (append-nil done)

both_assoc : (done more : List NamedValue) (o : Option (List NamedValue)) → both (Some done) (both (Some more) o) ≡ both (Some (done ++ more)) o
both_assoc done more (Some xs) = ap Some (sym (append_assoc done more xs))
both_assoc done more None = refl

-- what is taken of some pairs, and then of others
taken_append : (before done more : List NamedValue) → fold with_pair (fold with_pair before done) more ≡ fold with_pair before (done ++ more)
taken_append before [] more = refl
taken_append before (pair ∷ done) more = taken_append (with_pair before pair) done more

-- what was said so far, of which this was taken, and what is left
pub record IsSoFar (whole : Option (List NamedValue)) (taken : List NamedValue) (rest : Option (List NamedValue)) : Type 0 where
  pub done : List NamedValue
  pub taken_is : taken ≡ fold with_pair [] done
  pub whole_is : whole ≡ both (Some done) rest

-- one more is said
joined : (whole said rest : Option (List NamedValue)) (taken after : List NamedValue) → IsSoFar whole taken (both said rest) → AppendsPairs said taken after → IsSoFar whole after rest
joined whole said rest taken after so s =
    record {
      done = so.done ++ s.more;
      taken_is = s.behind ∙ (ap (λ (xs : List NamedValue). fold with_pair xs s.more) so.taken_is ∙ taken_append [] so.done s.more);
      whole_is = so.whole_is ∙ (ap (λ o. both (Some so.done) (both o rest)) s.is ∙ both_assoc so.done s.more rest);
    }

pub next_member : (whole : Option (List NamedValue)) (taken after : List NamedValue) (name other : List ℕ) (value : Data) (rest : Members)
    → IsSoFar whole taken (members_said (member name value rest)) → other ≡ name → AppendsPairs (value_said other value) taken after → IsSoFar whole after (members_said rest)
unfolding members_said
next_member whole taken after name other value rest so same s =
    joined whole (value_said name value) (members_said rest) taken after so (subst (λ (n : List ℕ). AppendsPairs (value_said n value) taken after) same s)

-- ---- how many are taken

taken_grow : (b : Bool) (before : List NamedValue) (pair : NamedValue) → length before ≤ length (if b then before ++ pair ∷ [] else before)
taken_grow true before pair = omega (arith, length-append before (pair ∷ []))
taken_grow false before pair = omega arith

taken_least : (before more : List NamedValue) → length before ≤ length (fold with_pair before more)
taken_least before [] = omega arith
taken_least before (pair ∷ more) =
    omega (arith, taken_grow (nat_le (length before) 256) before pair, taken_least (with_pair before pair) more)

taken_one : (b : Bool) (before : List NamedValue) (pair : NamedValue) → length (if b then before ++ pair ∷ [] else before) ≤ length before + 1
taken_one true before pair = omega (arith, length-append before (pair ∷ []))
taken_one false before pair = omega arith

taken_most : (before more : List NamedValue) → length (fold with_pair before more) ≤ length before + length more
taken_most before [] = omega arith
taken_most before (pair ∷ more) =
    omega (arith, taken_one (nat_le (length before) 256) before pair, taken_most (with_pair before pair) more)

-- few are all that was said
taken_few : (before more : List NamedValue) → AreFew (fold with_pair before more) → fold with_pair before more ≡ before ++ more
taken_few before [] few = sym (append-nil before)
taken_few before (pair ∷ more) few = by (taken_few (with_pair before pair) more few) (nat_le (length before) 256) refl
  where
    by : fold with_pair (with_pair before pair) more ≡ with_pair before pair ++ more → (b : Bool) → nat_le (length before) 256 ≡ b → fold with_pair (with_pair before pair) more ≡ before ++ pair ∷ more
    by others true e =
        others
        ∙ (ap (λ (b : Bool). (if b then before ++ pair ∷ [] else before) ++ more) e ∙ append_assoc before (pair ∷ []) more)
    by others false e =
        let long : 256 < length before = grind (arith, nat_tests, e) in
        absurd (omega (arith, long, few, taken_grow (nat_le (length before) 256) before pair, taken_least (with_pair before pair) more))

-- there are no more: few are all that was said, and where more are taken more were said
pub said_few : (whole : Option (List NamedValue)) (taken : List NamedValue) → IsSoFar whole taken (members_said no_members) → AreFew taken → whole ≡ Some taken
unfolding members_said
said_few whole taken so few =
    so.whole_is ∙ (both_end so.done ∙ ap Some (sym (so.taken_is ∙ taken_few [] so.done (subst AreFew so.taken_is few))))

pub said_many : (whole : Option (List NamedValue)) (taken : List NamedValue) → IsSoFar whole taken (members_said no_members) → AreMany taken → IsNotTaken whole faults.Many
unfolding members_said
said_many whole taken so many =
    let all = taken_most [] so.done in
    let more : AreMany (fold with_pair [] so.done) = subst AreMany so.taken_is many in
    (so.done, so.whole_is ∙ both_end so.done, omega (arith, all, more))

pub next_item : (whole : Option (List NamedValue)) (done : List NamedValue) (name text : List ℕ) (value : Data) (rest : Items)
    → whole ≡ both (Some done) (items_said name (item value rest)) → value ≡ string text → whole ≡ both (Some (done ++ (name, text) ∷ [])) (items_said name rest)
unfolding items_said
next_item whole done name text value rest is seen =
    is ∙ (ap (λ v. both (Some done) (both (text_said name v) (items_said name rest))) seen ∙ both_assoc done ((name, text) ∷ []) (items_said name rest))

pub no_more_items : (whole : Option (List NamedValue)) (done : List NamedValue) (name : List ℕ) → whole ≡ both (Some done) (items_said name no_items) → whole ≡ Some done
unfolding items_said
no_more_items whole done name is = is ∙ both_end done

-- ---- one value

pub said_null : (name : List ℕ) (value : Data) (before : List NamedValue) → value ≡ null → AppendsPairs (value_said name value) before before
unfolding value_said
said_null name value before seen = record { more = []; is = ap (value_said name) seen; behind = refl }

pub said_true : (name : List ℕ) (value : Data) (before after : List NamedValue)
    → value ≡ boolean true → after ≡ with_pair before (name, codes "true")
    → AppendsPairs (value_said name value) before after
unfolding value_said
said_true name value before after seen behind = record { more = (name, codes "true") ∷ []; is = ap (value_said name) seen; behind = behind }

pub said_false : (name : List ℕ) (value : Data) (before after : List NamedValue)
    → value ≡ boolean false → after ≡ with_pair before (name, codes "false")
    → AppendsPairs (value_said name value) before after
unfolding value_said
said_false name value before after seen behind = record { more = (name, codes "false") ∷ []; is = ap (value_said name) seen; behind = behind }

pub said_text : (name text other : List ℕ) (value : Data) (before after : List NamedValue)
    → value ≡ string text → other ≡ text → after ≡ with_pair before (name, other)
    → AppendsPairs (value_said name value) before after
unfolding value_said
said_text name text other value before after seen same behind =
    record { more = (name, text) ∷ []; is = ap (value_said name) seen; behind = behind ∙ ap (λ (t : List ℕ). with_pair before (name, t)) same }

pub said_number : (name other : List ℕ) (n : ℕ) (x : Num) (value : Data) (before after : List NamedValue)
    → value ≡ number x → as_u64 x ≡ Some n → other ≡ decimal n → after ≡ with_pair before (name, other) → AppendsPairs (value_said name value) before after
unfolding value_said
said_number name other n (unsigned m) value before after seen whole same behind =
    let is_n : m ≡ n = cc in
    record {
      more = (name, decimal n) ∷ [];
      is = ap (value_said name) (seen ∙ ap (λ (k : ℕ). number (unsigned k)) is_n);
      behind = behind ∙ ap (λ (t : List ℕ). with_pair before (name, t)) same;
    }
said_number name other n (negative z) value before after seen whole same behind = cc
said_number name other n (float f) value before after seen whole same behind = cc

pub listed : (name : List ℕ) (value : Data) (items : Items) → value ≡ array items → items_said name items ≡ value_said name value
unfolding value_said
listed name value items seen = ap (value_said name) (sym seen)

-- one more pair behind those of a list
pub behind_all : (first done now after : List NamedValue) (pair : NamedValue) → now ≡ fold with_pair first done → after ≡ with_pair now pair → after ≡ fold with_pair first (done ++ pair ∷ [])
behind_all first done now after pair is new = new ∙ (ap (λ (xs : List NamedValue). with_pair xs pair) is ∙ taken_append first done (pair ∷ []))

-- ---- what says nothing

no_front : (done : List NamedValue) (rest : Option (List NamedValue)) → both (Some done) (both None rest) ≡ None
no_front done rest = refl

pub no_text : (name : List ℕ) (value : Data) → as_str value ≡ None → text_said name value ≡ None
no_text name null none = refl
no_text name (boolean b) none = refl
no_text name (number n) none = refl
no_text name (string s) none = cc
no_text name (array items) none = refl
no_text name (object ms) none = refl

pub text_is : (value : Data) (text : List ℕ) → as_str value ≡ Some text → value ≡ string text
text_is null text is = cc
text_is (boolean b) text is = cc
text_is (number n) text is = cc
text_is (string s) text is = cc
text_is (array items) text is = cc
text_is (object ms) text is = cc

pub unsaid_item : (whole : Option (List NamedValue)) (done : List NamedValue) (name : List ℕ) (value : Data) (rest : Items)
    → whole ≡ both (Some done) (items_said name (item value rest)) → text_said name value ≡ None → whole ≡ None
unfolding items_said
unsaid_item whole done name value rest is none = is ∙ (ap (λ o. both (Some done) (both o (items_said name rest))) none ∙ no_front done (items_said name rest))

unsaid_front : (whole said rest : Option (List NamedValue)) (done : List NamedValue) (fault : FormFault) → whole ≡ both (Some done) (both said rest) → IsUnsaid said fault → IsNotTaken whole fault
unsaid_front whole said rest done faults.Memory is none = none
unsaid_front whole said rest done faults.Many is none = absurd none
unsaid_front whole said rest done faults.Json is none = is ∙ (ap (λ o. both (Some done) (both o rest)) none ∙ no_front done rest)
unsaid_front whole said rest done faults.Name is none = none
unsaid_front whole said rest done (faults.Value f) is none = none
unsaid_front whole said rest done (faults.Twice f) is none = none

pub unsaid_member : (whole : Option (List NamedValue)) (taken : List NamedValue) (name other : List ℕ) (value : Data) (rest : Members) (fault : FormFault)
    → IsSoFar whole taken (members_said (member name value rest)) → other ≡ name → IsUnsaid (value_said other value) fault → IsNotTaken whole fault
unfolding members_said
unsaid_member whole taken name other value rest fault so same none =
    unsaid_front whole (value_said name value) (members_said rest) so.done fault so.whole_is (subst (λ (n : List ℕ). IsUnsaid (value_said n value) fault) same none)

pub unsaid_object : (name : List ℕ) (value : Data) (ms : Members) → value ≡ object ms → value_said name value ≡ None
unfolding value_said
unsaid_object name value ms seen = ap (value_said name) seen

pub unsaid_number : (name : List ℕ) (value : Data) (x : Num) → value ≡ number x → as_u64 x ≡ None → value_said name value ≡ None
unfolding value_said
unsaid_number name value (unsigned m) seen none = cc
unsaid_number name value (negative z) seen none = ap (value_said name) seen
unsaid_number name value (float f) seen none = ap (value_said name) seen

-- ---- names

pub long_name : (name : List ℕ) (value : Data) (rest : Members) → nat_lt 64 (length name) ≡ true → has_long_name (member name value rest) ≡ true
unfolding has_long_name
long_name name value rest is = rw is refl

pub next_name : (name : List ℕ) (value : Data) (rest : Members) → nat_lt 64 (length name) ≡ false → has_long_name (member name value rest) ≡ has_long_name rest
unfolding has_long_name
next_name name value rest is = rw is refl

pub no_name : has_long_name no_members ≡ false
unfolding has_long_name
no_name = refl
