-- What the lines of `ion show` and `ion split` are put together from. Assumes nothing: these are definitions.
use Rattle.std.specs.Prelude.{ℕ, zero, suc, ◌+◌, ◌-◌, List, ◌++◌, length, take, drop, replicate, leb}
use Rattle.output.specs.Logic.{if, byte, ascii}
use Rattle.text_rules.specs.Digits.{count, digits}
use Rattle.text_rules.specs.Text.{clob_text}
use Rattle.program_io.specs.Framed.{distance}

-- plain decimal at the right of seven columns, or of as many as it takes
unfoldable pub column : ℕ → List ℕ
column n = replicate (7 - count 19 n) (byte " ") ++ digits n

-- the k-th word of l, from 0, where blanks part the words
unfoldable pub nth : ℕ → List ℕ → List ℕ
nth zero l = take (distance (byte " ") l) l
nth (suc k) l = nth k (drop (distance (byte " ") l + 1) l)

-- the names of the kinds 0 to 15, then of a symbol that is a name and of one that is an annotation
unfoldable pub kind_name : ℕ → List ℕ
kind_name k =
    nth k (ascii "null bool int float decimal timestamp symbol identifier string clob list sexp struct annotated marker blob name annotation")

-- the number, the offset and the length of a line
unfoldable pub place_text : ℕ → ℕ → ℕ → List ℕ
place_text number offset n = column number ++ ascii " " ++ column offset ++ ascii " " ++ column n ++ ascii "  "

-- bytes as a clob's text has them: a thousand at most
unfoldable pub clipped_text : List ℕ → List ℕ
clipped_text s = if (leb (length s) 1000) (clob_text s) (clob_text (take 1000 s) ++ ascii " and more")
