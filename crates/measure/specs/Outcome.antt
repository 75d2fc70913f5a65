-- What `text_length_with` and `text_length` answer, for every layout number and tape. Assumes nothing: these are definitions.
use Rattle.std.specs.Prelude.{ℕ, ◌*◌, List, Bool, false, length}
use Rattle.tape.specs.Tape.{nodes_of}
use Rattle.tape.specs.Answer.{Outcome, counted}
use Rattle.writer.specs.Text.{stream_text}
use Rattle.writer.specs.Outcome.{refusal, answered}

-- "the exact number of bytes the text will have"; "a tape that the writer would turn down gives the number the writer gives, except that 6 cannot occur";
-- "A1 counts its bytes under the same setting"
unfoldable pub text_length_with : Bool → ℕ → List ℕ → Outcome
text_length_with quoted y t = answered (refusal y t) (counted (length (stream_text quoted y (nodes_of t))))

-- with the setting off
abbrev pub text_length : ℕ → List ℕ → Outcome
text_length = text_length_with false

-- how long the text of a tape of n bytes is at most, in layouts 0 and 1: "at most nine times the tape's length, trailer included"
abbrev pub longest : ℕ → ℕ
longest n = 9 * n
