-- What is due of an answer and of a whole buffer: what `vectors` calls no difference. Assumes nothing: these are definitions.
use Rattle.std.specs.Prelude.{ℕ, ◌≡◌, List, ◌++◌, Bool, true, length, take, replicate, Option, Some, None}
use Rattle.tape.specs.Answer.{Outcome, counted, refused}

-- r says whether P holds
pub record Decides (r : Bool) (P : Type 0) : Type 0 where
  pub yes : r ≡ true → P
  pub no : P → r ≡ true

-- the refusal or, where there is none, the count
abbrev pub due : Option ℕ → ℕ → Outcome
due None n = counted n
due (Some k) n = refused k

-- a buffer of n bytes: the bytes s, or as many of them as it has room for, and then `rest` to its end
abbrev pub filled : ℕ → List ℕ → ℕ → List ℕ
filled n s rest = take n (s ++ replicate n rest)

-- an answer and a whole buffer are as due
pub record AsDue (o : Outcome) (b : List ℕ) (refusal : Option ℕ) (s : List ℕ) (rest : ℕ) : Type 0 where
  pub answer : o ≡ due refusal (length s)
  pub buffer : b ≡ filled (length b) s rest
