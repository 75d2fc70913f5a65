-- What the programs print of bytes and of refusals. Assumes nothing: these are definitions.
use Rattle.std.specs.Prelude.{ℕ, ◌/◌, ◌%◌, List, [], ◌∷◌, ◌++◌, take}
use Rattle.output.specs.Logic.{ascii}
use Rattle.text_rules.specs.Digits.{digits}
use Rattle.text_rules.specs.Escapes.{hex_digit}
use Rattle.tape.specs.Answer.{Outcome, counted, ended, refused}

-- every byte as two lower-case hex digits
unfoldable pub hex_text : List ℕ → List ℕ
hex_text [] = []
hex_text (b ∷ s) = hex_digit (b / 16) ∷ hex_digit (b % 16) ∷ hex_text s

-- `refused`, a blank and the number
unfoldable pub refusal_text : ℕ → List ℕ
refusal_text n = ascii "refused " ++ digits n

-- what a reader answered: the tape at the start of its buffer, `end`, or the refusal
abbrev pub answer_text : Outcome → List ℕ → List ℕ
answer_text (counted n) out = hex_text (take n out)
answer_text ended out = ascii "end"
answer_text (refused n) out = refusal_text n
