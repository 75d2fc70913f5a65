-- What every definition above is put together from: a choice, steps that may fail, and bytes written as characters.
-- Assumes nothing: these are definitions.
use Rattle.std.specs.Prelude.{ℕ, Bool, true, false, List, [], ◌∷◌}
use Prim.Native.Char.{Char, code}
use Prim.Native.String.{String, [] as empty, ◌∷◌ as ◌then-char◌}
use Rattle.std.proofs.Math.Option.{Option, none, some}

abbrev pub if : {A : Type 0} → Bool → A → A → A
if true a b = a
if false a b = b

-- goes on with what was read, if anything was
abbrev pub then : {A B : Type 0} → Option A → (A → Option B) → Option B
then none g = none
then (some a) g = g a

-- goes on with what was found, or else gives what comes last
abbrev pub on : {A B : Type 0} → Option A → (A → B) → B → B
on none g b = b
on (some a) g b = g a

-- the first that reads something
abbrev pub or : {A : Type 0} → Option A → Option A → Option A
or none b = b
or (some a) b = some a

-- the byte that an ASCII character is
abbrev pub byte : Char → ℕ
byte c = code c

-- the bytes of a text in ASCII
abbrev pub ascii : String → List ℕ
ascii empty = []
ascii (c then-char s) = code c ∷ ascii s
