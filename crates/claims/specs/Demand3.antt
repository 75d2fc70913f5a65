-- Which values a Lines text was written from, line by line: what demand 3 calls "as written". Assumes nothing: these are definitions.
use Rattle.std.specs.Prelude.{ℕ, Bool, List, [], ◌∷◌}
use Rattle.tape.specs.Tree.{Nodes, nil, more, tape}
use Rattle.line_reader.specs.Damage.{Written}
use Rattle.writer.specs.Text.{stream_text}

-- "one line for each top-level node": the first line is the first node's, and so on; with it, that "node and a trailer counting 1 node"
unfoldable pub written_as : List (List ℕ) → Nodes → List Written
written_as [] ns = []
written_as (l ∷ ls) nil = []
written_as (l ∷ ls) (more h n ns) = record { line = l; tape = tape (more h n nil) } ∷ written_as ls ns

-- each top-level node's own Lines text, under a setting of the writer
unfoldable pub lines_each : Bool → Nodes → List (List ℕ)
lines_each quoted nil = []
lines_each quoted (more h n ns) = stream_text quoted 1 (more h n nil) ∷ lines_each quoted ns
