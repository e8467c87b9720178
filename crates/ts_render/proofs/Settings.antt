-- The purposes in the octets of a command that sets them.
use Rattle.std.proofs.Common.{◌≡◌, ◌∙◌, ◌∷◌, ◌++◌, ℕ, List, Option, None, Some, Result, Ok, Err, IfOk, ap, sym, subst, refl, length, drop}
use Rattle.std.specs.Prelude.{replicate}
use Rattle.std.proofs.Math.Seq.{drop-append_seam}
use Rattle.ts_command.specs.Commands.{CommandFits, command_encoding, purposes_encoding}
use Rattle.ts_command.specs.Purposes.{ArePurposes as MayBeSet}
use Rattle.ts_command.specs.declared.command.Command.{Command}
use Rattle.ts_command.specs.declared.command.Command.TheVariants.{AddAnchor, LoadCrl, DropCrl, WithdrawAnchor, SetPurposes, Noop}
use Rattle.ts_render.specs.Purposes.{ArePurposes, AreTold, AreToldBy, setting}
use Rattle.ts_render.specs.declared.rows.PurposeFields.{PurposeFields}
use Rattle.ts_render.specs.declared.rows.PurposeFields.TheVariants.{Any, These, Unknown}

-- behind fronts of one length the same is left
same_rest : (a b x y : List ℕ) → length a ≡ length b → a ++ x ≡ b ++ y → x ≡ y
same_rest a b x y long is =
    sym (drop-append_seam a x) ∙ (ap (λ n. drop n (a ++ x)) long ∙ (ap (drop (length b)) is ∙ drop-append_seam b y))

pub set_octets : (octets id anchor set : List ℕ) → length id ≡ 16 → length anchor ≡ 32 → setting octets ≡ id ++ (5 ∷ (anchor ++ set)) → octets ≡ set
set_octets octets id anchor set long_id long_anchor is =
    let rest = same_rest (replicate 16 0) id (5 ∷ (replicate 32 0 ++ octets)) (5 ∷ (anchor ++ set)) (sym long_id) is in
    same_rest (replicate 32 0) anchor octets set (sym long_anchor) (ap (drop 1) rest)

-- what is told of purposes is told of their octets
of_octets : (octets : List ℕ) (purposes : Option (List (List ℕ))) (fields : PurposeFields) → octets ≡ purposes_encoding purposes → AreTold purposes fields → ArePurposes octets fields
of_octets octets purposes Any is told = (purposes, is, told)
of_octets octets purposes (These texts) is told = (purposes, is, told)
of_octets octets None Unknown is told = absurd told
of_octets octets (Some oids) Unknown is told = absurd told

-- the octets of a command that sets these
abbrev set_by : Option (List (List ℕ)) → Command
set_by purposes = SetPurposes (replicate 16 0) (replicate 32 0) purposes

-- such octets are read as it
abbrev pub IsReadAs : List ℕ → Option Command → Type 0
IsReadAs octets read = (purposes : Option (List (List ℕ))) → MayBeSet purposes → octets ≡ purposes_encoding purposes → read ≡ Some (set_by purposes)

pub read_as : (octets command : List ℕ) (read : Option Command) → command ≡ setting octets
    → ((c : Command) → CommandFits c → command ≡ command_encoding c → read ≡ Some c)
    → IsReadAs octets read
read_as octets command read is only = λ purposes may are.
    only (set_by purposes) (record { id = refl; fields = (refl, may) }) (is ∙ ap setting are)

-- where nothing is read there are no purposes
pub none_read : (octets : List ℕ) → IsReadAs octets None → ArePurposes octets Unknown
none_read octets read = λ purposes may are. absurd (cc (read purposes may are))

-- what is told of a command that is read is told of the octets
told_by : (octets : List ℕ) (command : Command) (fields : PurposeFields) → CommandFits command → setting octets ≡ command_encoding command
    → IsReadAs octets (Some command) → AreToldBy command fields → ArePurposes octets fields
told_by octets (SetPurposes id anchor purposes) fields fit is read told =
    of_octets octets purposes fields (set_octets octets id anchor (purposes_encoding purposes) fit.id fit.fields.0 is) told
told_by octets (AddAnchor id certificate) fields fit is read told = subst (ArePurposes octets) (sym told) (λ p may are. absurd (cc (read p may are)))
told_by octets (WithdrawAnchor id anchor) fields fit is read told = subst (ArePurposes octets) (sym told) (λ p may are. absurd (cc (read p may are)))
told_by octets (LoadCrl id crl) fields fit is read told = subst (ArePurposes octets) (sym told) (λ p may are. absurd (cc (read p may are)))
told_by octets (DropCrl id crl) fields fit is read told = subst (ArePurposes octets) (sym told) (λ p may are. absurd (cc (read p may are)))
told_by octets (Noop id) fields fit is read told = subst (ArePurposes octets) (sym told) (λ p may are. absurd (cc (read p may are)))

pub all_told_by : {E : Type 0} (r : Result PurposeFields E) (octets : List ℕ) (command : Command) → CommandFits command → setting octets ≡ command_encoding command
    → IsReadAs octets (Some command) → IfOk r (AreToldBy command) → IfOk r (ArePurposes octets)
all_told_by (Ok fields) octets command fit is read told = told_by octets command fields fit is read told
all_told_by (Err e) octets command fit is read told = told
