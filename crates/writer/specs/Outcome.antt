-- What `write_stream_with` and `write_stream` answer and what they leave in the buffer, for every layout number, tape and buffer. Assumes nothing: these
-- are definitions.
use Rattle.std.specs.Prelude.{ℕ, zero, suc, List, ◌++◌, Bool, false, length, take, drop, leb, ltb}
use Rattle.output.specs.Logic.{if}
use Rattle.tape.specs.Bytes.{first}
use Rattle.tape.specs.Tape.{nodes_of}
use Rattle.tape.specs.Verdict.{verdict}
use Rattle.tape.specs.Refusal.{noteds}
use Rattle.tape.specs.Answer.{Outcome, counted, refused}
use Rattle.writer.specs.Text.{stream_text}

-- a text laid at the start of a buffer: cut where the buffer ends, and what it does not reach is kept
unfoldable pub laid : List ℕ → List ℕ → List ℕ
laid s b = take (length b) (s ++ drop (length s) b)

-- the refusal that comes before measuring, or 0. Order: 7, 1, nodes in tape order, top-level count, 5
unfoldable pub refusal : ℕ → List ℕ → ℕ
refusal y t = if (ltb 2 y) 7 (first (verdict t) (if (noteds (nodes_of t)) 5 0))

-- the text's length, or 6 where it is longer than the buffer
unfoldable pub measured : List ℕ → ℕ → Outcome
measured s n = if (leb (length s) n) (counted (length s)) (refused 6)

abbrev pub answered : ℕ → Outcome → Outcome
answered zero o = o
answered (suc n) o = refused (suc n)

abbrev pub left : ℕ → List ℕ → List ℕ → List ℕ
left zero b' b = b'
left (suc n) b' b = b

-- "A setting … under which every symbol text is quoted"
module _ (quoted : Bool) where
  -- the answer, for a buffer of n bytes
  unfoldable pub streamed_with : ℕ → List ℕ → ℕ → Outcome
  streamed_with y t n = answered (refusal y t) (measured (stream_text quoted y (nodes_of t)) n)

  -- the whole buffer after the call: untouched where a refusal comes before measuring, else the text laid at its start
  unfoldable pub leaves_with : ℕ → List ℕ → List ℕ → List ℕ
  leaves_with y t b = left (refusal y t) (laid (stream_text quoted y (nodes_of t)) b) b

-- "with the setting off the bytes are those of before"
abbrev pub streamed : ℕ → List ℕ → ℕ → Outcome
streamed = streamed_with false

abbrev pub leaves : ℕ → List ℕ → List ℕ → List ℕ
leaves = leaves_with false
