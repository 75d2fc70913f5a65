-- What is answered and left when a tape's text is measured and then written in as many bytes as it has, or in one byte less. Assumes nothing: these are
-- definitions.
use Rattle.std.specs.Prelude.{ℕ, zero, suc, ◌-◌, List, ◌++◌, Bool, true, false, length, take, drop, leb}
use Rattle.output.specs.Logic.{if}
use Rattle.tape.specs.Answer.{Outcome, counted, ended, refused}

-- how many bytes a writer gets for a text of k bytes: as many, or one less, where there is one
abbrev pub room_for : Bool → ℕ → ℕ
room_for less k = if less (k - 1) k

-- The text was measured, o, and n bytes are at hand. "A writer given exactly this much buffer succeeds", and with a byte less gives 6; 6 too where fewer are
-- at hand than were measured. A refusal is handed on.
abbrev pub reserved_answer : Bool → Outcome → ℕ → Outcome
reserved_answer false (counted k) n = if (leb k n) (counted k) (refused 6)
reserved_answer true (counted zero) n = counted 0
reserved_answer true (counted (suc k)) n = refused 6
reserved_answer less ended n = ended
reserved_answer less (refused f) n = refused f

-- the text s, or its first bytes, and the rest of the buffer kept; nothing written where fewer bytes are at hand than were measured
abbrev pub reserved_leaves : Bool → Outcome → List ℕ → List ℕ → List ℕ
reserved_leaves less (counted k) s b = if (leb k (length b)) (take (room_for less k) s ++ drop (room_for less k) b) b
reserved_leaves less ended s b = b
reserved_leaves less (refused f) s b = b
