-- The value of an extension is the same wherever it stands.
use Rattle.std.proofs.Common.{◌≡◌, List, Option, Result, Ok, Err, ℕ, refl, sym, ap, subst, ◌∙◌}
use Rattle.std.specs.Prelude.{option_map}
use Rattle.std.specs.Result.{result_ok}
use Rattle.ts_der.specs.declared.fault.Fault.{Fault}
use Rattle.ts_der.specs.Octets.{AreOctets}
use Rattle.ts_der.specs.Answer.{Answers}
use Rattle.ts_der.specs.Element.{Tlv, encoded_at}
use Rattle.ts_ext.specs.declared.ext.Ext.{Ext}
use Rattle.ts_ext.specs.declared.known.Known.{Known}
use Rattle.ts_ext.specs.Ext.{ExtValue, IsExt, ext_of}
use Rattle.ts_ext.specs.ExtView.{ext_in}
use Rattle.ts_ext.proofs.Exts.{ext-found, ext-again}
use Rattle.ts_crl.specs.Values.{ok_of, value_in_octets}

-- what is read at one place is read at another
moved : (known : Option Known) (e other : Tlv) (x : ExtValue) → e.content ≡ other.content → AreOctets e.content → ext_of known e ≡ Ok x → ext_of known other ≡ Ok x
moved known e other x same fits read = ext-again known other x (subst (λ (o : List ℕ). IsExt known o x) same (ext-found known e x fits read))

anywhere : (known : Option Known) (e : Tlv) → AreOctets e.content → ok_of (ext_of known e) ≡ value_in_octets known e.content
unfolding value_in_octets
anywhere known e fits = by_value (ext_of known e) refl (ext_of known front) refl
  where
    front : Tlv
    front = encoded_at 0 0x04 e.content

    by_value : (r : Result ExtValue Fault) → ext_of known e ≡ r → (s : Result ExtValue Fault) → ext_of known front ≡ s → ok_of r ≡ ok_of s
    by_value (Ok x) a s b = ap (λ (q : Result ExtValue Fault). ok_of q) (sym (moved known e front x refl fits a) ∙ b)
    by_value (Err f) a (Ok y) b = ap (λ (q : Result ExtValue Fault). ok_of q) (sym a ∙ moved known front e y refl fits b)
    by_value (Err f) a (Err g) b = refl

pub borrowed-anywhere : (known : Option Known) (e : Tlv) → AreOctets e.content → (r : Result Ext Fault) (o : Option Ext) → Answers ext_in r (ext_of known e) → o ≡ result_ok r
    → option_map ext_in o ≡ value_in_octets known e.content
borrowed-anywhere known e fits r o read is = ap (λ (q : Option Ext). option_map ext_in q) is ∙ (by_result r read ∙ anywhere known e fits)
  where
    by_result : (r : Result Ext Fault) → Answers ext_in r (ext_of known e) → option_map ext_in (result_ok r) ≡ ok_of (ext_of known e)
    by_result (Ok x) a = ap (λ (q : Result ExtValue Fault). ok_of q) (sym a)
    by_result (Err f) a = ap (λ (q : Result ExtValue Fault). ok_of q) (sym a)
