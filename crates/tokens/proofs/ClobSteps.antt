-- The parts of a clob that is read. Assumes nothing.
use Prim.Native.Nat.{ℕ, suc, ◌+◌, ◌≤◌}
use mathlib.Core.Path.{◌≡◌, ◌∙◌}
use mathlib.Core.Bool.{Bool, true, false}
use mathlib.Core.List.{List}
use mathlib.Core.Option.{none, some}
use lib.ListN.{length, drop}
use Rattle.output.specs.Logic.{ascii}
use Rattle.text_rules.specs.Texts.{strip}
use Rattle.tokens.specs.Quoted.{clob_bytes, clob}
use Rattle.text_rules.specs.WordSteps.{WordStands}

module _ (t : List ℕ) where
  pub clob_unopened : strip (ascii "{{\"") t ≡ none → clob t ≡ none
  unfolding clob
  clob_unopened e = rw e

  pub clob-broken : (u : List ℕ) → strip (ascii "{{\"") t ≡ some u → clob_bytes (suc (length u)) u ≡ none → clob t ≡ none
  unfolding clob
  clob-broken u e g = rw (e, g)

  pub clob_unclosed : (u x v : List ℕ) → strip (ascii "{{\"") t ≡ some u → clob_bytes (suc (length u)) u ≡ some (x, v) → strip (ascii "}}") v ≡ none → clob t ≡ none
  unfolding clob
  clob_unclosed u x v e g k = rw (e, g, k)

  pub clob-whole : (u x v r : List ℕ) → strip (ascii "{{\"") t ≡ some u → clob_bytes (suc (length u)) u ≡ some (x, v) → strip (ascii "}}") v ≡ some r → clob t ≡ some (x, r)
  unfolding clob
  clob-whole u x v r e g k = rw (e, g, k)

pub stripped_no : {text : List ℕ} {at : ℕ} {w : List ℕ} {r : Bool} → WordStands text at w r → r ≡ false → strip w (drop at text) ≡ none
stripped_no s e = s.is ∙ rw e

pub stripped_yes : {text : List ℕ} {at : ℕ} {w : List ℕ} {r : Bool} → WordStands text at w r → r ≡ true → (strip w (drop at text) ≡ some (drop (at + length w) text)) × (at + length w ≤ length text)
stripped_yes s e = (s.is ∙ rw e, rw e at s.inside)
