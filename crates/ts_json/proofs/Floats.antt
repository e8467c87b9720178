-- The object has no number that is a fraction.
use Rattle.std.proofs.Common.{◌≡◌, refl, ℕ, List, [], ◌∷◌, Bool, true, false, ◌||◌, Option, Some, None, map, codes, string_bytes, option_map}
use Rattle.std.specs.Ordering.{match_ordering, nat_cmp}
use Rattle.std.specs.declared.cmp.Ordering.{Ordering}
use Rattle.std.specs.declared.cmp.Ordering.TheVariants.{Less, Equal, Greater}
use Rattle.std.specs.Cmp.Lexicographic.{slice_cmp}
use Rattle.serde_json.specs.Data.{Data, boolean, number, unsigned, string, object, Items, item, Members, no_members, member, put}
use Rattle.serde_json.specs.View.{items_of}
use Rattle.serde_json.specs.Written.{has_float, items_have_float, members_have_float}
use Rattle.ts_json.specs.Object.{text_or_null, number_or_null, texts, array_of, failing_in, members_in, object_in}
use Rattle.ts_json.specs.declared.verdict.VerdictFields.{VerdictFields}

chosen : (o : Ordering) (a b c : Members) → members_have_float a ≡ false → members_have_float b ≡ false → members_have_float c ≡ false → members_have_float (match_ordering o a b c) ≡ false
chosen Less a b c x y z = x
chosen Equal a b c x y z = y
chosen Greater a b c x y z = z

joined : (d : Data) (k : List ℕ) (ms : Members) → has_float d ≡ false → members_have_float ms ≡ false → members_have_float (member k d ms) ≡ false
joined d k ms x y = rw (x, y) refl

pub joined_items : (d : Data) (ds : Items) → has_float d ≡ false → items_have_float ds ≡ false → items_have_float (item d ds) ≡ false
joined_items d ds x y = rw (x, y) refl

or_front : (a b : Bool) → (a || b) ≡ false → a ≡ false
or_front true b x = x
or_front false b x = refl

or_behind : (a b : Bool) → (a || b) ≡ false → b ≡ false
or_behind true b x = cc
or_behind false b x = x

front : (d : Data) (k : List ℕ) (ms : Members) → members_have_float (member k d ms) ≡ false → has_float d ≡ false
front d k ms x = or_front (has_float d) (members_have_float ms) x

behind : (d : Data) (k : List ℕ) (ms : Members) → members_have_float (member k d ms) ≡ false → members_have_float ms ≡ false
behind d k ms x = or_behind (has_float d) (members_have_float ms) x

pub put_none : (k : List ℕ) (d : Data) (ms : Members) → has_float d ≡ false → members_have_float ms ≡ false → members_have_float (put k d ms) ≡ false
put_none k d no_members x y = joined d k no_members x refl
put_none k d (member l e ms) x y =
    chosen (slice_cmp nat_cmp k l) (member k d (member l e ms)) (member l d ms) (member l e (put k d ms))
    (joined d k (member l e ms) x y) (joined d l ms x (behind e l ms y)) (joined e l (put k d ms) (front e l ms y) (put_none k d ms x (behind e l ms y)))

pub of_text : (t : Option (List ℕ)) → has_float (text_or_null t) ≡ false
of_text None = refl
of_text (Some t) = refl

pub of_number : (n : Option ℕ) → has_float (number_or_null n) ≡ false
of_number None = refl
of_number (Some n) = refl

pub of_texts : (ts : List (List ℕ)) → items_have_float (items_of (texts ts)) ≡ false
of_texts [] = refl
of_texts (t ∷ ts) = of_texts ts

-- the members so far
abbrev to_position : VerdictFields → Members
to_position f = put (codes "position") (number_or_null f.position) no_members

abbrev to_reason : VerdictFields → Members
to_reason f = put (codes "reason") (text_or_null (option_map string_bytes f.reason)) (to_position f)

abbrev to_section : VerdictFields → Members
to_section f = put (codes "section") (text_or_null (option_map string_bytes f.section)) (to_reason f)

none_to_position : (f : VerdictFields) → members_have_float (to_position f) ≡ false
none_to_position f = put_none (codes "position") (number_or_null f.position) no_members (of_number f.position) refl

none_to_reason : (f : VerdictFields) → members_have_float (to_reason f) ≡ false
none_to_reason f = put_none (codes "reason") (text_or_null (option_map string_bytes f.reason)) (to_position f) (of_text (option_map string_bytes f.reason)) (none_to_position f)

none_to_section : (f : VerdictFields) → members_have_float (to_section f) ≡ false
none_to_section f = put_none (codes "section") (text_or_null (option_map string_bytes f.section)) (to_reason f) (of_text (option_map string_bytes f.section)) (none_to_reason f)

failing : (f : VerdictFields) → members_have_float (failing_in f) ≡ false
unfolding failing_in
failing f = put_none (codes "subject") (text_or_null (option_map string_bytes f.subject)) (to_section f) (of_text (option_map string_bytes f.subject)) (none_to_section f)

abbrev to_valid : VerdictFields → Members
to_valid f = put (codes "valid") (boolean f.valid) (failing_in f)

abbrev to_of : VerdictFields → Members
to_of f = put (codes "of") (number (unsigned f.of)) (to_valid f)

abbrev to_explanation : VerdictFields → Members
to_explanation f = put (codes "explanation") (string (string_bytes f.explanation)) (to_of f)

abbrev to_policies : VerdictFields → Members
to_policies f = put (codes "policies") (array_of (map string_bytes f.policies.items)) (to_explanation f)

abbrev to_anchor : VerdictFields → Members
to_anchor f = put (codes "anchor") (string (string_bytes f.anchor)) (to_policies f)

none_to_of : (f : VerdictFields) → members_have_float (to_of f) ≡ false
none_to_of f = put_none (codes "of") (number (unsigned f.of)) (to_valid f) refl (put_none (codes "valid") (boolean f.valid) (failing_in f) refl (failing f))

none_to_policies : (f : VerdictFields) → members_have_float (to_policies f) ≡ false
none_to_policies f = put_none (codes "policies") (array_of (map string_bytes f.policies.items))
    (to_explanation f) (of_texts (map string_bytes f.policies.items))
    (put_none (codes "explanation") (string (string_bytes f.explanation)) (to_of f) refl
    (none_to_of f))

none_to_anchor : (f : VerdictFields) → members_have_float (to_anchor f) ≡ false
none_to_anchor f = put_none (codes "anchor") (string (string_bytes f.anchor)) (to_policies f) refl (none_to_policies f)

all : (f : VerdictFields) → members_have_float (members_in f) ≡ false
unfolding members_in
all f = put_none (codes "revocation_checked") (boolean f.revocation_checked) (to_anchor f) refl (none_to_anchor f)

pub no_float : (f : VerdictFields) → has_float (object_in f) ≡ false
no_float f = all f
