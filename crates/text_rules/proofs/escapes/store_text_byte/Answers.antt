-- `escapes::store_text_byte` meets its contract. Assumes nothing.
-- what is written by a letter, and raw
use Prim.Native.Nat.{suc, ◌+◌, ◌≤◌}
use mathlib.Core.Path.{◌≡◌, refl, sym, ap, ◌∙◌}
use mathlib.Core.List.{[], ◌∷◌}
use native.Mathlib.Omega.{arith}
use lib.ListN.{length, length-set}
use Rattle.output.specs.Logic.{byte}
use Rattle.text_rules.specs.Escapes.{letter_of, text_escape}
use borrow.Author.Rules.{rules}
use Rattle.text_rules.proofs.escapes.store_text_byte.Goals as goal

letter : (c : goal.Then-takes_letter) → let b = c.args.b in text_escape b ≡ byte "\\" ∷ letter_of b ∷ []
unfolding text_escape
letter c = rw (sym c.takes_letter.ensures ∙ c.if-takes_letter.true)

raw : (c : goal.Else-takes_hex) → let b = c.args.b in text_escape b ≡ b ∷ []
unfolding text_escape
raw c = rw (sym c.takes_letter.ensures ∙ c.if-takes_letter.false, sym c.takes_hex.ensures ∙ c.if-takes_hex.false)

-- so there is room for two bytes, and for one
two : (c : goal.Then-takes_letter) → let a = c.args in a.pos + 2 ≤ length a.buf.now
two c = omega (arith, ap length (letter c), c.requires)

one : (c : goal.Else-takes_hex) → let a = c.args in a.pos + 1 ≤ length a.buf.now
one c = omega (arith, ap length (raw c), c.requires)

pub bounds-buf-pos : goal.bounds-buf-pos
bounds-buf-pos c = omega (arith, two c)

pub overflow_add-buf : goal.overflow_add-buf
overflow_add-buf c = record { fits = omega (arith, two c.before, c.well_formed) }

pub bounds-buf-pos-then-takes_letter : goal.bounds-buf-pos-then-takes_letter
bounds-buf-pos-then-takes_letter c = simp length-set (omega (arith, two c.before))

pub overflow_add-result : goal.overflow_add-result
overflow_add-result c = record { fits = omega (arith, two c.before, c.well_formed) }

pub returns-then-takes_letter : goal.returns-then-takes_letter
returns-then-takes_letter c =
    let p1 : c.args.pos + 1 ≡ suc c.args.pos = omega arith in
    rw (letter c.before, sym c.letter_of.ensures) (record { bytes = rw p1; count = omega (arith, two c.before); room = search rules })

pub put_hex-requires : goal.put_hex-requires
put_hex-requires c = omega (arith, c.requires, c.well_formed)

pub returns-then-takes_hex : goal.returns-then-takes_hex
unfolding text_escape
returns-then-takes_hex c =
    rw (sym c.takes_letter.ensures ∙ c.if-takes_letter.false, sym c.takes_hex.ensures ∙ c.if-takes_hex.true) c.put_hex.ensures

pub bounds-buf-pos-2 : goal.bounds-buf-pos-2
bounds-buf-pos-2 c = omega (arith, one c)

pub overflow_add-result-2 : goal.overflow_add-result-2
overflow_add-result-2 c = record { fits = omega (arith, one c, c.well_formed) }

pub returns : goal.returns
returns c = rw (raw c) (record { bytes = refl; count = omega (arith, one c); room = search rules })
