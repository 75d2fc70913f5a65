-- The refusal of a tape that both writers share, or 0: 1, then nodes in tape order, then the top-level count.
-- Assumes nothing: these are definitions.
use Rattle.std.specs.Prelude.{ℕ, ◌+◌, ◌-◌, List, Bool, ◌||◌, not, length, drop, ltb, eqb}
use Rattle.output.specs.Logic.{if}
use Rattle.tape.specs.Bytes.{le_number, first}
use Rattle.tape.specs.Tree.{size}
use Rattle.tape.specs.Tape.{body_of}

-- tape under 8 or over 1,048,576 bytes, or body length plus 8 not its length
unfoldable pub misfit : List ℕ → Bool
misfit t = ltb (length t) 8 || ltb 1_048_576 (length t) || not (eqb (le_number 4 (drop (length t - 8) t) + 8) (length t))

-- wrong top-level count
unfoldable pub count_fault : List ℕ → ℕ
count_fault t = if (eqb (le_number 4 (drop (length t - 4) t)) (size (body_of t).0)) 0 2

unfoldable pub verdict : List ℕ → ℕ
verdict t = if (misfit t) 1 (first (body_of t).1 (count_fault t))
