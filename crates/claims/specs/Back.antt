-- What is answered and left when a tape's text is written and read back: the tape itself. Assumes nothing: these are definitions.
use Rattle.std.specs.Prelude.{ℕ, List}
use Rattle.tape.specs.Answer.{Outcome, counted, ended, refused}
use Rattle.reader.specs.Outcome.{tape_answer, tape_leaves}

-- where the writer finished its text, the reader's answer for that very tape; else the writer's refusal
abbrev pub back_answer : Outcome → List ℕ → ℕ → Outcome
back_answer (counted k) t n = tape_answer t n
back_answer ended t n = ended
back_answer (refused f) t n = refused f

-- where the writer finished its text, that very tape at the buffer's start; else the buffer as it was
abbrev pub back_leaves : Outcome → List ℕ → List ℕ → List ℕ
back_leaves (counted k) t b = tape_leaves t b
back_leaves ended t b = b
back_leaves (refused f) t b = b
