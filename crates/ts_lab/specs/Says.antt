-- What one line of a script says: the text that answers it and what it makes known, or why it is
-- refused.
use Rattle.std.specs.Prelude.{◌≡◌, ◌⊎◌, ℕ, Bool, ◌||◌, ◌==◌, if◌then◌else◌, List, [], ◌∷◌, Result}
use Rattle.std.specs.Prelude.{Ok, Err, codes, string_bytes}
use Rattle.std.specs.Str.{bytes_eq}
use Rattle.std.specs.declared.string.String.{String}
use Rattle.std.specs.declared.alloc.Global.{Global}
use Rattle.ts_script.specs.declared.script.LineFault.{LineFault}
use Rattle.ts_script.specs.declared.script.LineFault.TheVariants.{Unknown, Form, Name, Limit}
use Rattle.ts_script.specs.declared.script.LineFault.TheVariants.{Message, Memory}
use Rattle.ts_script.specs.declared.script.TheConstants.{COMMENT}
use Rattle.ts_script.specs.Words.{words_of, first_of}
use Rattle.ts_script.specs.Known.{Entry}
use Rattle.ts_script.specs.CheckLine.{IsVerdictText, RefusesCheck}
use Rattle.ts_script.specs.Objects.{a_certificate, a_crl, IsSaid, Refuses as RefusesObject}

-- what a line is by its first word
pub data Kind : Type 0 where
  skipped : Kind
  cert_kind : Kind
  crl_kind : Kind
  check_kind : Kind
  node_kind : Kind
  unknown_kind : Kind

-- the first words of the lines that begin nodes, and let messages and restarts reach them
abbrev pub is_running_word : List ℕ → Bool
is_running_word word =
    bytes_eq word (codes "nodes") || bytes_eq word (codes "restart")
    || bytes_eq word (codes "deliver") || bytes_eq word (codes "settle")

-- those that have nodes do something
abbrev pub is_sending_word : List ℕ → Bool
is_sending_word word = bytes_eq word (codes "submit") || bytes_eq word (codes "catchup")
    || bytes_eq word (codes "compact")

-- those that ask nodes
abbrev pub is_asking_word : List ℕ → Bool
is_asking_word word =
    bytes_eq word (codes "outcome") || bytes_eq word (codes "ask")
    || bytes_eq word (codes "search") || bytes_eq word (codes "show")

abbrev pub is_node_word : List ℕ → Bool
is_node_word word = is_running_word word || is_sending_word word || is_asking_word word

abbrev pub kind_of_word : List ℕ → Kind
kind_of_word word =
    if bytes_eq word (codes "cert") then cert_kind
    else (if bytes_eq word (codes "crl") then crl_kind
    else (if bytes_eq word (codes "check") then check_kind
    else (if is_node_word word then node_kind
    else unknown_kind)))

-- empty lines and comments are skipped
abbrev pub kind_of : List ℕ → Kind
kind_of [] = skipped
kind_of (x ∷ xs) = if x == COMMENT then skipped else kind_of_word (first_of (words_of (x ∷ xs)))

-- a line about nodes is refused with any word but that of an unknown one
abbrev pub RefusesNodes : LineFault → Type 0
RefusesNodes Unknown = ⊥
RefusesNodes Form = Unit {0}
RefusesNodes Name = Unit {0}
RefusesNodes Limit = Unit {0}
RefusesNodes Message = Unit {0}
RefusesNodes Memory = Unit {0}

-- a line of a kind is answered with the text, and what is known after it is this
abbrev pub SaysAs : Kind → List Entry → List ℕ → List ℕ → List Entry → Type 0
SaysAs skipped known line text after = (text ≡ []) × (after ≡ known)
SaysAs cert_kind known line text after = IsSaid a_certificate known line text after
SaysAs crl_kind known line text after = IsSaid a_crl known line text after
SaysAs check_kind known line text after = IsVerdictText text × (after ≡ known)
SaysAs node_kind known line text after = after ≡ known
SaysAs unknown_kind known line text after = ⊥

-- a line of a kind is refused with the fault: each when out of memory, and a skipped one for
-- nothing else
abbrev pub RefusesAs : Kind → List Entry → List ℕ → LineFault → Type 0
RefusesAs skipped known line fault = fault ≡ Memory
RefusesAs cert_kind known line fault = RefusesObject a_certificate known line fault
RefusesAs crl_kind known line fault = RefusesObject a_crl known line fault
RefusesAs check_kind known line fault = RefusesCheck fault
RefusesAs node_kind known line fault = RefusesNodes fault
RefusesAs unknown_kind known line fault = (fault ≡ Unknown) ⊎ (fault ≡ Memory)

abbrev pub Says : List Entry → List ℕ → List ℕ → List Entry → Type 0
Says known line text after = SaysAs (kind_of line) known line text after

abbrev pub Refuses : List Entry → List ℕ → LineFault → Type 0
Refuses known line fault = RefusesAs (kind_of line) known line fault

-- what answering a line returned; a line that is refused makes nothing known
abbrev pub Answers : List Entry → List ℕ → Result (String Global) LineFault → List Entry → Type 0
Answers known line (Ok text) after = Says known line (string_bytes text) after
Answers known line (Err fault) after = Refuses known line fault × (after ≡ known)
