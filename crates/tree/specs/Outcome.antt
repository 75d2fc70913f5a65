-- What `write_tree_with`, `write_tree`, `tree_length_with` and `tree_length` answer, and what the first two leave in the buffer, for every tape and
-- buffer. Assumes nothing: these are definitions.
use Rattle.std.specs.Prelude.{ℕ, List, length, Bool, true, false, ◌||◌}
use Rattle.output.specs.Logic.{if}
use Rattle.tape.specs.Bytes.{first}
use Rattle.tape.specs.Tree.{Node, Nodes, scalar, nest, marker, nil, more}
use Rattle.tape.specs.Tape.{nodes_of}
use Rattle.tape.specs.Verdict.{verdict}
use Rattle.tape.specs.Refusal.{numbereds}
use Rattle.tape.specs.Answer.{Outcome, counted}
use Rattle.writer.specs.Outcome.{laid, measured, answered, left}
use Rattle.tree.specs.Text.{tree_text}

abbrev pub is_marker : Node → Bool
is_marker (scalar s) = false
is_marker (nest k ns) = false
is_marker marker = true

-- "not one top-level node, a marker, or an identifier but 0"
unfoldable pub unsuited : Nodes → Bool
unsuited nil = true
unsuited (more h n nil) = is_marker n || numbereds (more h n nil)
unsuited (more h n (more h' n' ns)) = true

-- the refusal that comes before measuring, or 0. Order: 1, nodes in tape order, top-level count, 5
unfoldable pub refusal : List ℕ → ℕ
refusal t = first (verdict t) (if (unsuited (nodes_of t)) 5 0)

-- "A setting … under which every symbol text is quoted"
module _ (quoted : Bool) where
  -- the answer, for a buffer of n bytes: the text's length, or 6 where it is longer than the buffer
  unfoldable pub written_with : List ℕ → ℕ → Outcome
  written_with t n = answered (refusal t) (measured (tree_text quoted (nodes_of t)) n)

  -- the whole buffer after the call: untouched where a refusal comes before measuring, else the text laid at its start
  unfoldable pub leaves_with : List ℕ → List ℕ → List ℕ
  leaves_with t b = left (refusal t) (laid (tree_text quoted (nodes_of t)) b) b

  -- "the exact number of bytes the text will have"; "a tape that the writer would turn down gives the number the writer gives, except that 6 cannot occur"
  unfoldable pub tree_length_with : List ℕ → Outcome
  tree_length_with t = answered (refusal t) (counted (length (tree_text quoted (nodes_of t))))

-- "with the setting off the bytes are those of before"
abbrev pub written : List ℕ → ℕ → Outcome
written = written_with false

abbrev pub leaves : List ℕ → List ℕ → List ℕ
leaves = leaves_with false

abbrev pub tree_length : List ℕ → Outcome
tree_length = tree_length_with false
