-- What was written is a text, or a front of one.
use Rattle.std.proofs.Common.{◌≡◌, ◌∙◌, refl, sym, ap, subst, ℕ, List, [], ◌∷◌, ◌++◌, Option, Some, None, append_assoc, length, take, drop, get_or, ◌+◌, ◌<◌, take-append-drop}
use Rattle.std.proofs.lemmas.List.{append-nil, drop_more}
use Rattle.std.proofs.lemmas.Grind.{flat_map-append}
use Rattle.std.proofs.KnownBytes.{Appends-nil, Appends-trans}
use Rattle.std.specs.Io.KnownBytes.{Appends, Keeps}
use Rattle.ts_wire.specs.declared.frame.Frame.{Frame}
use Rattle.ts_serve.specs.Text.{AppendsFront, text, frame_text}

pub text-append : (answers more : List Frame) → text (answers ++ more) ≡ text answers ++ text more
text-append answers more = flat_map-append frame_text answers more

pub text-nil : (answers : List Frame) → text (answers ++ []) ≡ text answers
text-nil answers = ap text (append-nil answers)

pub appends_kept : (a b c : Option (List ℕ)) (octets : List ℕ) → Appends a b octets → Keeps b c → Appends a c octets
appends_kept None b c octets p k = tt
appends_kept (Some x) None c octets p k = absurd p
appends_kept (Some x) (Some y) None octets p k = absurd k
appends_kept (Some x) (Some y) (Some z) octets p k = k ∙ p

pub kept_nil : (a b : Option (List ℕ)) → Keeps a b → Appends a b []
kept_nil a b k = appends_kept a a b [] (Appends-nil a) k

-- all of it is a front of it
pub front_whole : (a b : Option (List ℕ)) (octets : List ℕ) → Appends a b octets → AppendsFront a b octets
front_whole a b octets p = record { front = octets; others = []; is = sym (append-nil octets); written = p }

pub front_none : (a b : Option (List ℕ)) (octets : List ℕ) → Keeps a b → AppendsFront a b octets
front_none a b octets k = record { front = []; others = octets; is = refl; written = kept_nil a b k }

-- what was written, and a front of what follows
pub front_then : (a b c : Option (List ℕ)) (octets more : List ℕ) → Appends a b octets → AppendsFront b c more → AppendsFront a c (octets ++ more)
front_then a b c octets more p f = record {
  front = octets ++ f.front;
  others = f.others;
  is = ap (λ l. octets ++ l) f.is ∙ sym (append_assoc octets f.front f.others);
  written = Appends-trans a b c octets f.front p f.written;
}

-- a front of a text is a front of a longer one
pub front_longer : (a b : Option (List ℕ)) (octets more : List ℕ) → AppendsFront a b octets → AppendsFront a b (octets ++ more)
front_longer a b octets more f = record {
  front = f.front;
  others = f.others ++ more;
  is = ap (λ l. l ++ more) f.is ∙ append_assoc f.front f.others more;
  written = f.written;
}

-- ---- octets that are written in parts

-- some of the octets were written, and others are left
pub record HasWritten (a b : Option (List ℕ)) (octets rest : List ℕ) : Type 0 where
  pub said : List ℕ
  pub is : octets ≡ said ++ rest
  pub appends : Appends a b said

pub written_none : (a : Option (List ℕ)) (octets : List ℕ) → HasWritten a a octets octets
written_none a octets = record { said = []; is = refl; appends = Appends-nil a }

pub written_all : (a b : Option (List ℕ)) (octets rest : List ℕ) → HasWritten a b octets rest → rest ≡ [] → Appends a b octets
written_all a b octets rest h none = subst (Appends a b) (sym (h.is ∙ ap (λ l. h.said ++ l) none ∙ append-nil h.said)) h.appends

pub written_part : (a b : Option (List ℕ)) (octets rest : List ℕ) → HasWritten a b octets rest → AppendsFront a b octets
written_part a b octets rest h = record { front = h.said; others = rest; is = h.is; written = h.appends }

pub written_kept : (a b c : Option (List ℕ)) (octets rest : List ℕ) → HasWritten a b octets rest → Keeps b c → HasWritten a c octets rest
written_kept a b c octets rest h k = record { said = h.said; is = h.is; appends = appends_kept a b c h.said h.appends k }

pub written_more : (a b c : Option (List ℕ)) (octets rest : List ℕ) (n : ℕ) → HasWritten a b octets rest → Appends b c (take n rest) → HasWritten a c octets (drop n rest)
written_more a b c octets rest n h p = record {
  said = h.said ++ take n rest;
  is = h.is ∙ ap (λ l. h.said ++ l) (sym (take-append-drop n rest)) ∙ sym (append_assoc h.said (take n rest) (drop n rest));
  appends = Appends-trans a b c h.said (take n rest) h.appends p;
}

-- ---- frames that are written one after another

-- the frames before one were written, and a front of it
pub front_at : (a b c : Option (List ℕ)) (frames : List Frame) (i : ℕ) (frame : Frame) → i < length frames → frame ≡ get_or frames i frame
    → Appends a b (text (take i frames)) → AppendsFront b c (text (frame ∷ [])) → AppendsFront a c (text frames)
front_at a b c frames i frame within is p f =
    let all : text frames ≡ (text (take i frames) ++ text (frame ∷ [])) ++ text (drop (i + 1) frames) =
    ap text (sym (take-append-drop i frames) ∙ ap (λ l. take i frames ++ l) (drop_more frames i frame within ∙ ap (λ (x : Frame). x ∷ drop (i + 1) frames) (sym is)))
    ∙ text-append (take i frames) (frame ∷ drop (i + 1) frames) ∙ ap (λ l. text (take i frames) ++ l) (text-append (frame ∷ []) (drop (i + 1) frames))
    ∙ sym (append_assoc (text (take i frames)) (text (frame ∷ [])) (text (drop (i + 1) frames))) in
    subst (AppendsFront a c) (sym all) (front_longer a c (text (take i frames) ++ text (frame ∷ [])) (text (drop (i + 1) frames)) (front_then a b c (text (take i frames)) (text (frame ∷ [])) p f))
