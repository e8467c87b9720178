-- A line is answered, or refused with one word.
use Rattle.std.proofs.Common.{◌≡◌, ◌≢◌, ◌∙◌, refl, sym, ap, subst, ℕ, List, None, length, inl, inr, arith}
use Rattle.ts_script.specs.declared.script.LineFault.{LineFault}
use Rattle.ts_script.specs.declared.script.LineFault.TheVariants.{Unknown, Form, Name, Limit, Message, Memory}
use Rattle.ts_script.specs.Known.{Entry}
use Rattle.ts_lab.specs.Says.{Kind, skipped, cert_kind, crl_kind, check_kind, node_kind, unknown_kind, SaysAs, RefusesAs}
use Rattle.ts_script.specs.Objects.{a_certificate, a_crl}
use Rattle.ts_script.proofs.Objects.{answered, refused}

-- by the kinds of lines
pub answered_as : (kind : Kind) (known after : List Entry) (line text : List ℕ) (fault : LineFault) → kind ≢ check_kind → kind ≢ node_kind → SaysAs kind known line text after
    → RefusesAs kind known line fault → fault ≡ Memory
answered_as skipped known after line text fault other_kind no_node says refuses = refuses
answered_as cert_kind known after line text fault other_kind no_node says refuses = answered a_certificate known after line text fault says refuses
answered_as crl_kind known after line text fault other_kind no_node says refuses = answered a_crl known after line text fault says refuses
answered_as check_kind known after line text fault other_kind no_node says refuses = absurd (other_kind refl)
answered_as node_kind known after line text fault other_kind no_node says refuses = absurd (no_node refl)
answered_as unknown_kind known after line text fault other_kind no_node says refuses = absurd says

pub refused_as : (kind : Kind) (known : List Entry) (line : List ℕ) (fault other : LineFault) → kind ≢ check_kind → kind ≢ node_kind → RefusesAs kind known line fault
    → RefusesAs kind known line other → fault ≢ Memory → other ≢ Memory → fault ≡ other
refused_as skipped known line fault other other_kind no_node refuses again some more = absurd (some refuses)
refused_as cert_kind known line fault other other_kind no_node refuses again some more = refused a_certificate known line fault other refuses again some more
refused_as crl_kind known line fault other other_kind no_node refuses again some more = refused a_crl known line fault other refuses again some more
refused_as check_kind known line fault other other_kind no_node refuses again some more = absurd (other_kind refl)
refused_as node_kind known line fault other other_kind no_node refuses again some more = absurd (no_node refl)
refused_as unknown_kind known line fault other other_kind no_node (inl is) (inl also) some more = is ∙ sym also
refused_as unknown_kind known line fault other other_kind no_node (inl is) (inr also) some more = absurd (more also)
refused_as unknown_kind known line fault other other_kind no_node (inr is) again some more = absurd (some is)
