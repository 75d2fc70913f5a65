-- What one call does from any offset, and what the functions hand out, in the book's terms. Assumes nothing: these are definitions.
use Rattle.std.specs.Prelude.{ℕ, zero, suc, ◌≡◌, List, [], ◌∷◌, map, length, drop, leb, ltb, eqb}
use Rattle.output.specs.Logic.{if}
use Rattle.tape.specs.Answer.{Outcome, refused, outcome}
use Rattle.tape.specs.declared.answer.Answer.{Answer}
use Rattle.line_reader.specs.Cut.{to_first}
use Rattle.line_reader.specs.Book.{Call, Turn, end_mark, by_book, book}
use Rattle.line_reader.specs.declared.Called.{Called}

-- "A call at an offset past the text gives 10", which keeps the offset and the buffer
unfoldable pub past_text : Turn
past_text at buf = record { answer = refused 10; at = at; buf = buf }

-- one call on a text, at any offset: 10, end mark, then the bytes through the next LF by the book
unfoldable pub step : List ℕ → Turn
step text at buf = if (ltb (length text) at) (past_text at buf) (if (eqb at (length text)) (end_mark at buf) (by_book (to_first (drop at text)) at buf))

-- n calls, each from what the last one left
unfoldable pub calls : ℕ → List ℕ → ℕ → List ℕ → List Call
calls zero text at buf = []
calls (suc n) text at buf = step text at buf ∷ calls n text (step text at buf).at (step text at buf).buf

-- an answer, an offset and a buffer, as a call of the book
unfoldable pub called : Answer → ℕ → List ℕ → Call
called a at buf = record { answer = outcome a; at = at; buf = buf }

-- the answer and the offset of a call, and those that a function hands out of it
abbrev pub answer_and_offset : Call → Outcome × ℕ
answer_and_offset c = (c.answer, c.at)

abbrev pub handed_out : Called → Outcome × ℕ
handed_out c = (outcome c.answer, c.at)

-- the last of some calls; c where there are none
unfoldable pub last_call : Call → List Call → Call
last_call c [] = c
last_call c (d ∷ ds) = last_call d ds

-- What a list of calls hands out, of the calls cs, which began at offset 0 with the buffer buf: every answer and offset, the last offset and the
-- whole last buffer. With k calls the last buffer is the k-th call's, so the same for each k tells the buffer after every call.
pub record Ran (cs : List Call) (buf : List ℕ) (entries : List Called) (at : ℕ) (last : List ℕ) : Type 0 where
  pub calls_are : map handed_out entries ≡ map answer_and_offset cs
  pub at-is : at ≡ (last_call (end_mark 0 buf) cs).at
  pub buf_is : last ≡ (last_call (end_mark 0 buf) cs).buf

-- call number n of the book, from 1 to 32. For any other number no call is made: the end mark, offset 0, and the buffer as it was
unfoldable pub nth_call : ℕ → List ℕ → List ℕ → Call
nth_call n text buf = last_call (end_mark 0 buf) (book (if (leb n 32) n 0) text buf)
