-- What `convert` answers and leaves in its buffer, for every text and buffer. Assumes nothing: these are definitions.
use Rattle.std.specs.Prelude.{ℕ, Bool, true, false, List, ◌++◌, leb, length, drop}
use Rattle.output.specs.Logic.{if, on}
use Rattle.tokens.specs.Quoted.{old_raw}
use Rattle.tape.specs.Answer.{Outcome, counted, refused}
use Rattle.reader.specs.Grammar.{meaning}
use Rattle.converter.specs.Convert.{converted}

-- the text is in the old grammar: the reader's, but with 01's raw rule
unfoldable pub is_old : List ℕ → Bool
is_old t = on (meaning old_raw t) (λ ns. true) false

-- the output is no longer than a buffer of n bytes
unfoldable pub has_room : List ℕ → ℕ → Bool
has_room t n = leb (length (converted t)) n

-- "13 where the converter's text is outside the old grammar; then 14 where the output is longer than the buffer"
unfoldable pub answer : List ℕ → ℕ → Outcome
answer t n = if (is_old t) (if (has_room t n) (counted (length (converted t))) (refused 14)) (refused 13)

-- the output at the buffer's start, the rest kept; "both leave the buffer untouched"
unfoldable pub leaves : List ℕ → List ℕ → List ℕ
leaves t b = if (is_old t) (if (has_room t (length b)) (converted t ++ drop (length (converted t)) b) b) b
