-- What it means that a text's length is told before the text is written. Assumes nothing: these are definitions.
use Rattle.std.specs.Prelude.{ℕ, zero, suc, ◌≡◌, List, [], length}
use Rattle.std.proofs.Math.Option.{none}
use Rattle.tape.specs.Tree.{Nodes, marker, nil, more}
use Rattle.tape.specs.Answer.{Outcome, counted, ended, refused}
use Rattle.claims.specs.Writing.{WritesText}

-- `told` of a writer, which is known by its answer for a buffer of n bytes and by what it leaves of a buffer. A count is the length of the text s that the
-- writer writes; "a writer given exactly this much buffer succeeds", and one byte less gives 6. "A tape that the writer would turn down gives the number
-- the writer gives, except that 6 cannot occur", whatever the buffer, which the writer then leaves alone.
pub record TellsLength (told : Outcome) (s : List ℕ) (answer : ℕ → Outcome) (leaves : List ℕ → List ℕ) : Type 0 where
  pub counts : (n : ℕ) → told ≡ counted n → (n ≡ length s) × WritesText s answer leaves
  pub exact : (n : ℕ) → told ≡ counted n → answer n ≡ counted n
  pub one_less : (n : ℕ) → told ≡ counted (suc n) → answer n ≡ refused 6
  pub agrees : (n : ℕ) → (answer n ≡ refused 6 → ⊥) → told ≡ answer n
  pub refuses : (f : ℕ) → told ≡ refused f → ((n : ℕ) → answer n ≡ refused f) × ((b : List ℕ) → leaves b ≡ b)
  pub no_six : told ≡ refused 6 → ⊥
  pub no_end : told ≡ ended → ⊥

-- c version markers
unfoldable pub markers : ℕ → Nodes
markers zero = nil
markers (suc c) = more (none, []) marker (markers c)
