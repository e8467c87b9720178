-- The lines that say what a node answered.
use Rattle.std.specs.Prelude.{◌≡◌, ◌==◌, ℕ, List, [], ◌++◌, codes, Option, Some, None}
use Rattle.std.specs.Prelude.{if◌then◌else◌}
use Rattle.std.specs.Fmt.{decimal}
use Rattle.std.specs.Str.{is_utf8}
use Rattle.ts_command.specs.Outcomes.{outcome_words}
use Rattle.ts_command.specs.declared.outcome.Outcome.{Outcome}
use Rattle.ts_question.specs.Reply.{NumberedReply}
use Rattle.ts_show.specs.Words.{reply_words}
use Rattle.ts_wire.specs.declared.fault.FrameFault.TheVariants.{Kind}
use Rattle.ts_wire.specs.declared.frame.Frame.{Frame}
use Rattle.ts_wire.specs.declared.frame.Frame.TheVariants.{Done, Identity, Prefix, Reported}
use Rattle.ts_wire.specs.declared.frame.Frame.TheVariants.{Settled, Started}
use Rattle.ts_wire.specs.declared.frame.Frame.TheVariants as frames
use Rattle.ts_exchange.specs.Endings.{ending_of}
use Rattle.ts_exchange.specs.declared.ending.Ending.{Ending}
use Rattle.ts_exchange.specs.declared.ending.Ending.TheVariants.{Well}
use Rattle.ts_exchange.specs.declared.fault.ExchangeFault.{ExchangeFault}
use Rattle.ts_exchange.specs.declared.fault.ExchangeFault.TheVariants.{Memory, Frame as Wrong}
use Rattle.ts_exchange.specs.declared.upkeep.Upkeep.{Upkeep}
use Rattle.ts_exchange.specs.declared.upkeep.Upkeep.TheVariants.{Status, Identify, Report}
use Rattle.ts_exchange.specs.declared.upkeep.Upkeep.TheVariants.{CatchUp, Compact}

-- ---- a command

abbrev pub started_words : ℕ → ℕ → List ℕ
started_words position ballot = codes "submit started "
    ++ (decimal position ++ (codes " " ++ (decimal ballot ++ codes "\n")))

abbrev pub settled_words : ℕ → Outcome → List ℕ
settled_words position outcome = codes "submit settled "
    ++ (decimal position ++ (codes " " ++ (outcome_words outcome ++ codes "\n")))

-- the position and the ballot of a round that began; or the position and the outcome
abbrev pub submit_line : Frame → Option (List ℕ)
submit_line (Started position ballot) =
    Some (started_words position ballot)
submit_line (Settled position outcome) =
    Some (settled_words position outcome)
submit_line frame = None

abbrev pub submit_ending : Frame → Option Ending
submit_ending (Started position ballot) = Some Well
submit_ending (Settled position outcome) = Some (ending_of outcome)
submit_ending frame = None

-- there is no such line, unless memory is refused
abbrev pub IsUnsaid : Option (List ℕ) → ExchangeFault → Type 0
IsUnsaid line Memory = Unit {0}
IsUnsaid line e = (e ≡ Wrong Kind) × (line ≡ None)

-- ---- a question

-- how many commands the store took, and the reply
abbrev pub ask_words : NumberedReply → List ℕ
ask_words answer = codes "ask "
    ++ (decimal answer.k ++ (codes " " ++ (reply_words answer.reply ++ codes "\n")))

-- ---- what keeps a node in order

abbrev pub request_of : Upkeep → Frame
request_of Status = frames.Status
request_of Identify = frames.Identify
request_of Report = frames.Report
request_of CatchUp = frames.CatchUp
request_of Compact = frames.Compact

-- how many commands a node knows
abbrev pub prefix_line : Frame → Option (List ℕ)
prefix_line (Prefix prefix) = Some (codes "prefix " ++ decimal prefix ++ codes "\n")
prefix_line frame = None

abbrev pub identity_words : ℕ → ℕ → ℕ → List ℕ
identity_words node nodes group = codes "node " ++ (decimal node ++ (codes " of "
    ++ (decimal nodes ++ (codes " group " ++ (decimal group ++ codes "\n")))))

-- which node it is, of how many, of which group
abbrev pub identity_line : Frame → Option (List ℕ)
identity_line (Identity node nodes group) =
    Some (identity_words node nodes group)
identity_line frame = None

-- its report, if that is a text
abbrev pub report_text : Frame → Option (List ℕ)
report_text (Reported text) = Some (if is_utf8 text then text else [])
report_text frame = None

-- that it asks the others
abbrev pub catch_up_line : Frame → Option (List ℕ)
catch_up_line (Done count) = Some (codes "catchup\n")
catch_up_line frame = None

-- whether it still rewrites its record
abbrev pub compact_line : Frame → Option (List ℕ)
compact_line (Done count) =
    Some (if count == 0 then codes "compact working\n" else codes "compact switched\n")
compact_line frame = None

abbrev pub upkeep_line : Upkeep → Frame → Option (List ℕ)
upkeep_line Status frame = prefix_line frame
upkeep_line Identify frame = identity_line frame
upkeep_line Report frame = report_text frame
upkeep_line CatchUp frame = catch_up_line frame
upkeep_line Compact frame = compact_line frame
