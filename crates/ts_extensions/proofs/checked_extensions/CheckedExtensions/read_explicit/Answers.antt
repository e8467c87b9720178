use Rattle.std.proofs.Common.{List}
use Rattle.ts_der.specs.View.{now}
use Rattle.ts_extensions.specs.declared.checked_extensions.CheckedExtensions.{CheckedExtensions}
use Rattle.ts_extensions.specs.Extension.{Extension}
use Rattle.ts_extensions.specs.ExtensionView.{extensions_in}
use Rattle.ts_extensions.proofs.ExtensionParts.{explicit_extensions-format}
use Rattle.ts_ext.proofs.Formats.{is_found, is_read, is_fault}
use Rattle.ts_extensions.proofs.Unlocated.{say-explicit}
use Rattle.ts_extensions.proofs.checked_extensions.CheckedExtensions.read_explicit.Goals as goal

-- what the extensions of a judged list say
abbrev unlocated : CheckedExtensions → List Extension
unlocated j = extensions_in j.extensions

pub returns-clause-found : goal.returns-clause-found
returns-clause-found c =
    is_found explicit_extensions-format (now c.args.element) c.judge_explicit.result unlocated
    c.args.element.octets
    (say-explicit (λ j. j.extensions) (now c.args.element) c.judge_explicit.result
    c.judge_explicit.ensures.placed)

pub returns-clause-only : goal.returns-clause-only
returns-clause-only c =
    is_read explicit_extensions-format (now c.args.element) c.judge_explicit.result unlocated
    (say-explicit (λ j. j.extensions) (now c.args.element) c.judge_explicit.result
    c.judge_explicit.ensures.placed)

pub returns-clause-fault : goal.returns-clause-fault
returns-clause-fault c =
    is_fault explicit_extensions-format (now c.args.element) c.judge_explicit.result unlocated
    (say-explicit (λ j. j.extensions) (now c.args.element) c.judge_explicit.result
    c.judge_explicit.ensures.placed)
