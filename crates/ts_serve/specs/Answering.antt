-- What a server answers to one frame, as octets.
use Rattle.std.specs.Prelude.{◌≡◌, ℕ, true, false, List, Result, Ok, Err}
use Rattle.std.specs.Global.{Vec}
use Rattle.ts_wire.specs.declared.frame.Frame.{Frame}
use Rattle.ts_serve.specs.declared.answering.AnswerFault.{AnswerFault}
use Rattle.ts_serve.specs.declared.answering.AnswerFault.TheVariants.{NoRequest, Memory}
use Rattle.ts_serve.specs.Requests.{is_request}
use Rattle.ts_serve.specs.Text.{text}

-- One turn says what a server answers to a request, and the server then.
module _ {S : Type 0} (turn : S → Frame → List Frame → S → Type 0) where
  -- a request was answered by a turn, with these answers
  pub record HasAnswered (old : S) (frame : Frame) (answers : List Frame) (new : S) : Type 0 where
    pub request : is_request frame ≡ true
    pub turned : turn old frame answers new

  -- A request was answered by a turn, and these octets are the answers' text; or the answers found
  -- no memory, and are lost. A frame that is no request changes nothing.
  abbrev pub AnswersFrame : S → Frame → Result (Vec ℕ) AnswerFault → S → Type 0
  AnswersFrame old frame (Ok octets) new = (answers : List Frame)
      × HasAnswered old frame answers new × (octets.items ≡ text answers)
  AnswersFrame old frame (Err NoRequest) new = (is_request frame ≡ false) × (new ≡ old)
  AnswersFrame old frame (Err Memory) new = (answers : List Frame)
      × HasAnswered old frame answers new
