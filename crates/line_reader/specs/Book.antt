-- THE LINE BOOK of document 01: what each line call answers, and the offset and the whole buffer that it leaves. Assumes nothing: these are
-- definitions.
use Rattle.std.specs.Prelude.{ℕ, zero, suc, ◌+◌, ◌-◌, List, [], ◌∷◌, ◌++◌, map, Bool, length, take, drop, get_or, eqb}
use Rattle.std.proofs.Math.Option.{Option, none, some}
use Rattle.output.specs.Logic.{if, on, then}
use Rattle.tape.specs.Tree.{Nodes, nil, more, tape}
use Rattle.tape.specs.Answer.{Outcome, counted, ended, refused}
use Rattle.tokens.specs.Quoted.{strict_raw}
use Rattle.reader.specs.Grammar.{meaning}
use Rattle.reader.specs.Outcome.{fits, zeros}
use Rattle.line_reader.specs.Cut.{lf, lines_of}

-- what a call answers, and the offset and the whole buffer that it leaves
pub record Call : Type 0 where
  pub answer : Outcome
  pub at : ℕ
  pub buf : List ℕ

-- a turn: a call, from the offset and the buffer that the last one left
abbrev pub Turn : Type 0
Turn = ℕ → List ℕ → Call

-- "the call answers the tape's length and lays the tape at the buffer's start, the rest kept"; it "adds [the line's] length to the offset"
unfoldable pub success : List ℕ → List ℕ → Turn
success line t at buf = record { answer = counted (length t); at = at + length line; buf = t ++ drop (length t) buf }

-- "8 and 9 zero the buffer", and pass the line too
unfoldable pub failure : ℕ → List ℕ → Turn
failure why line at buf = record { answer = refused why; at = at + length line; buf = zeros buf }

-- "With no line left, a call answers the end mark and changes nothing."
unfoldable pub end_mark : Turn
end_mark at buf = record { answer = ended; at = at; buf = buf }

-- a line's last byte is LF
unfoldable pub ends_in_lf : List ℕ → Bool
ends_in_lf line = eqb (get_or line (length line - 1) 0) lf

-- exactly one value or marker: "its tape is that node and a trailer counting 1 node"
unfoldable pub single : Nodes → Option (List ℕ)
single nil = none
single (more h n nil) = some (tape (more h n nil))
single (more h n (more h' n' ns)) = none

-- the tape of a line that "is one value or marker by the grammar, blanks around it allowed, then LF"; the grammar has Ion's raw rule (02, A6)
unfoldable pub line_tape : List ℕ → Option (List ℕ)
line_tape line = if (ends_in_lf line) (then (meaning strict_raw (take (length line - 1) line)) single) none

-- a tape that was read is laid, "or [the call] answers 9 if that row holds": it is longer than the lesser of buffer and 1,048,576
unfoldable pub room : List ℕ → List ℕ → Turn
room line t at buf = if (fits t (length buf)) (success line t at buf) (failure 9 line at buf)

-- the book's turn for a line: "Any other line answers 8."
unfoldable pub by_book : List ℕ → Turn
by_book line at buf = on (line_tape line) (λ t. room line t at buf) (failure 8 line at buf)

-- n calls: a turn each, and behind the last the end mark, each call given what the last one left
unfoldable pub play : ℕ → List Turn → ℕ → List ℕ → List Call
play zero ts at buf = []
play (suc n) [] at buf = end_mark at buf ∷ play n [] at buf
play (suc n) (t ∷ ts) at buf = t at buf ∷ play n ts (t at buf).at (t at buf).buf

-- THE BOOK: n calls on a text, from a fresh session
unfoldable pub book : ℕ → List ℕ → List ℕ → List Call
book n text buf = play n (map by_book (lines_of text)) 0 buf
