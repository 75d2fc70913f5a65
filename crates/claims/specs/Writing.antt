-- What it means that a writer writes a text, and which bytes are a tape. Assumes nothing: these are definitions.
use Rattle.std.specs.Prelude.{ℕ, ◌≤◌, ◌≡◌, List, length}
use Rattle.tape.specs.Tree.{Nodes, tape}
use Rattle.tape.specs.Fine.{Fines}
use Rattle.tape.specs.Answer.{Outcome}
use Rattle.tape.specs.declared.Frame.TheVariants.{Top}
use Rattle.writer.specs.Outcome.{laid, measured}

-- A writer, by its answer for a buffer of n bytes and by what it leaves of a buffer, writes the text s: it answers the text's length, or 6 where the
-- text is longer than the buffer; and the text lies at the buffer's start, cut where the buffer ends, "bytes past the count keep their values".
pub record WritesText (s : List ℕ) (answer : ℕ → Outcome) (leaves : List ℕ → List ℕ) : Type 0 where
  pub answers : (n : ℕ) → answer n ≡ measured s n
  pub lays : (b : List ℕ) → leaves b ≡ laid s b

-- a tape of well-formed nodes, at most 64 containers deep, that is not too long
pub record TapeOf (t : List ℕ) : Type 0 where
  pub nodes : Nodes
  pub fine : Fines 64 Top nodes
  pub is : t ≡ tape nodes
  pub short : length t ≤ 1_048_576
