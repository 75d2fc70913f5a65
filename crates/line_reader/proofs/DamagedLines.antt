-- What `damaged` says of three lines, 1 LF 2 LF 3 LF, by computation. The first two are 01's examples: bytes 2 and 3 (from 0) replaced by one `x`, and byte
-- 2 alone; in the third the head ends inside a line: bytes 1 and 2. Assumes nothing.
use Prim.Native.Nat.{ℕ}
use mathlib.Core.Path.{◌≡◌, refl}
use mathlib.Core.List.{List, [], ◌∷◌}
use Rattle.output.specs.Logic.{ascii}
use Rattle.line_reader.specs.Cut.{grow, lines_of, lfs, to_first, from_last}
use Rattle.line_reader.specs.Book.{success, by_book}
use Rattle.line_reader.specs.Damage.{as_written, before, between, behind_run, damaged, three_lines}

module _ (a b c : List ℕ) where
  pub two_bytes : damaged (three_lines a b c) (ascii "1\n") (ascii "2\n") (ascii "x") (ascii "3\n") ≡ success (ascii "1\n") a ∷ by_book (ascii "x3\n") ∷ []
  unfolding damaged before between behind_run as_written lines_of grow lfs to_first from_last
  two_bytes = refl

  pub one_byte : damaged (three_lines a b c) (ascii "1\n") (ascii "2") (ascii "x") (ascii "\n3\n") ≡ success (ascii "1\n") a ∷ by_book (ascii "x\n") ∷ success (ascii "3\n") c ∷ []
  unfolding damaged before between behind_run as_written lines_of grow lfs to_first from_last
  one_byte = refl

  pub inside-a-line : damaged (three_lines a b c) (ascii "1") (ascii "\n2") (ascii "x") (ascii "\n3\n") ≡ by_book (ascii "1x\n") ∷ success (ascii "3\n") c ∷ []
  unfolding damaged before between behind_run as_written lines_of grow lfs to_first from_last
  inside-a-line = refl
