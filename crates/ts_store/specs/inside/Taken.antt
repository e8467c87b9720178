-- What private clauses see of a command that was taken: the command, and what it changes in the
-- contents of tables.
use Rattle.std.specs.Prelude.{ℕ, List, [], ◌∷◌, ◌++◌, slice_set}
use Rattle.std.specs.List.{remove}
use Rattle.ts_store.specs.Anchors.{with_purposes}
use Rattle.ts_store.specs.declared.anchor.TrustAnchor.{TrustAnchor}
use Rattle.ts_command.specs.declared.command.Command.{Command}
use Rattle.ts_command.specs.declared.command.Command.TheVariants.{AddAnchor, LoadCrl, SetPurposes}
use Rattle.ts_store.specs.declared.stored.StoredCrl.{StoredCrl}
use Rattle.ts_store.specs.declared.taken.KeptCommand.{KeptCommand}
use Rattle.ts_store.specs.declared.taken.KeptCommand.TheVariants.{Anchor, Crl, Other}
use Rattle.ts_store.specs.declared.taken.Kind.TheVariants.{Complete, Delta}
use Rattle.ts_store.specs.declared.taken.TableChange.{TableChange}
use Rattle.ts_store.specs.declared.taken.TableChange.TheVariants.{Nothing, AddsAnchor}
use Rattle.ts_store.specs.declared.taken.TableChange.TheVariants.{RemovesAnchor}
use Rattle.ts_store.specs.declared.taken.TableChange.TheVariants.{SetsPurposes, AddsCrl, PutsCrl}
use Rattle.ts_store.specs.declared.taken.TableChange.TheVariants.{RemovesCrl}
use Rattle.ts_store.specs.Contents.{Contents}

-- the command, as the store takes it
abbrev pub command_in : KeptCommand → Command
command_in (Anchor id anchor) = AddAnchor id anchor.certificate
command_in (Crl id crl) = LoadCrl id crl.crl
command_in (Other command) = command

-- ---- one table after a change; a change that does not fit its command leaves it as it is

-- the command's anchor is the last one
abbrev pub with_anchor : KeptCommand → List TrustAnchor → List TrustAnchor
with_anchor (Anchor id anchor) anchors = anchors ++ anchor ∷ []
with_anchor (Crl id crl) anchors = anchors
with_anchor (Other command) anchors = anchors

-- the anchor at a place has the command's purposes
abbrev pub with_purposes_of : Command → ℕ → List TrustAnchor → List TrustAnchor
with_purposes_of (SetPurposes id anchor purposes) at' anchors = with_purposes anchors at' purposes
with_purposes_of other at' anchors = anchors

abbrev pub with_purposes_in : KeptCommand → ℕ → List TrustAnchor → List TrustAnchor
with_purposes_in (Anchor id anchor) at' anchors = anchors
with_purposes_in (Crl id crl) at' anchors = anchors
with_purposes_in (Other command) at' anchors = with_purposes_of command at' anchors

-- the command's list is the last one
abbrev pub with_last : KeptCommand → List StoredCrl → List StoredCrl
with_last (Anchor id anchor) lists = lists
with_last (Crl id crl) lists = lists ++ crl ∷ []
with_last (Other command) lists = lists

-- the command's list is at a place
abbrev pub with_crl_at : KeptCommand → ℕ → List StoredCrl → List StoredCrl
with_crl_at (Anchor id anchor) at' lists = lists
with_crl_at (Crl id crl) at' lists = slice_set lists at' crl
with_crl_at (Other command) at' lists = lists

-- ---- the contents after a change

abbrev pub apply_change : TableChange → KeptCommand → Contents → Contents
apply_change Nothing kept c = c
apply_change AddsAnchor kept c = record c { anchors = with_anchor kept c.anchors }
apply_change (RemovesAnchor at') kept c = record c { anchors = remove c.anchors at' }
apply_change (SetsPurposes at') kept c = record c { anchors = with_purposes_in kept at' c.anchors }
apply_change (AddsCrl Complete) kept c = record c { complete = with_last kept c.complete }
apply_change (AddsCrl Delta) kept c = record c { deltas = with_last kept c.deltas }
apply_change (PutsCrl Complete at') kept c = record c { complete = with_crl_at kept at' c.complete }
apply_change (PutsCrl Delta at') kept c = record c { deltas = with_crl_at kept at' c.deltas }
apply_change (RemovesCrl Complete at') kept c = record c { complete = remove c.complete at' }
apply_change (RemovesCrl Delta at') kept c = record c { deltas = remove c.deltas at' }
