-- What `read_text` answers and leaves in its buffer, for every text and buffer. Assumes nothing: these are definitions.
use Rattle.std.specs.Prelude.{ℕ, min, List, ◌++◌, Bool, length, drop, replicate, leb}
use Rattle.output.specs.Logic.{if, on}
use Rattle.tokens.specs.Quoted.{strict_raw}
use Rattle.tape.specs.Tree.{tape}
use Rattle.tape.specs.Answer.{Outcome, counted, refused}
use Rattle.reader.specs.Grammar.{meaning}

-- a tape is no longer than the lesser of a buffer of n bytes and 1,048,576
unfoldable pub fits : List ℕ → ℕ → Bool
fits t n = leb (length t) (min n 1_048_576)

unfoldable pub zeros : List ℕ → List ℕ
zeros b = replicate (length b) 0

-- a tape that was read: its length, or 9
unfoldable pub tape_answer : List ℕ → ℕ → Outcome
tape_answer t n = if (fits t n) (counted (length t)) (refused 9)

-- a tape at the buffer's start, the rest kept; or all zero
unfoldable pub tape_leaves : List ℕ → List ℕ → List ℕ
tape_leaves t b = if (fits t (length b)) (t ++ drop (length t) b) (zeros b)

-- the answer for a text and a buffer's length: 8 where the text is outside the grammar, which has Ion's raw rule (02, A6)
unfoldable pub answer : List ℕ → ℕ → Outcome
answer t n = on (meaning strict_raw t) (λ ns. tape_answer (tape ns) n) (refused 8)

-- the whole buffer after the call
unfoldable pub leaves : List ℕ → List ℕ → List ℕ
leaves t b = on (meaning strict_raw t) (λ ns. tape_leaves (tape ns) b) (zeros b)
