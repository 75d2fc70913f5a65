-- DEMAND 3: what the calls answer on a written text of which one run of bytes is replaced. Assumes nothing: these are definitions. The grammar
-- alone is cited, and not the writer: that the Lines text of a tape is written in this sense is a theorem (claims).
use Rattle.std.specs.Prelude.{ℕ, suc, take, drop}
use mathlib.Core.List.{List, [], ◌∷◌, ◌++◌, map, flatten}
use Rattle.output.specs.Logic.{ascii}
use Rattle.line_reader.specs.Cut.{lines_of, lfs, to_first, from_last}
use Rattle.line_reader.specs.Book.{Turn, success, by_book}

-- a written value: its line, and its tape, that is its node and a trailer counting 1 node
pub record Written : Type 0 where
  pub line : List ℕ
  pub tape : List ℕ

-- the text of written values: their lines joined
abbrev pub joined_text : List Written → List ℕ
joined_text ws = flatten (map (λ (w : Written). w.line) ws)

-- "As written: the call lays the written tape's node and a trailer counting 1 node, and answers their length."
unfoldable pub as_written : Written → Turn
as_written w = success w.line w.tape

-- "Before the run are its lines that lie, LF included, in the head": as many as the head has LFs
unfoldable pub before : List Written → List ℕ → List Written
before ws head = take (lfs head) ws

-- "Between are the bytes from behind the head's last LF (or the start) through the tail's first (or the end), cut into lines by themselves."
unfoldable pub between : List ℕ → List ℕ → List ℕ → List (List ℕ)
between head new tail = lines_of (from_last head ++ new ++ to_first tail)

-- "behind it those that start right after an LF of the tail": all but those that end before it, and the line in which the tail begins
unfoldable pub behind_run : List Written → List ℕ → List ℕ → List Written
behind_run ws head run = drop (suc (lfs (head ++ run))) ws

-- the turns of a text that was head, run and tail, with `new` in the run's place: before as written, between by the book on their own bytes,
-- behind as written
unfoldable pub damaged : List Written → List ℕ → List ℕ → List ℕ → List ℕ → List Turn
damaged ws head run new tail = map as_written (before ws head) ++ map by_book (between head new tail) ++ map as_written (behind_run ws head run)

-- the text of 01's two examples, 1 LF 2 LF 3 LF, with any tapes
abbrev pub three_lines : List ℕ → List ℕ → List ℕ → List Written
three_lines a b c = record { line = ascii "1\n"; tape = a } ∷ record { line = ascii "2\n"; tape = b } ∷ record { line = ascii "3\n"; tape = c } ∷ []
