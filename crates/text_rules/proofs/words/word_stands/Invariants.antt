-- `words::word_stands` meets its contract. What is left of the word is looked for in what is left of the text. Assumes nothing.
use Prim.Native.Nat.{◌+◌, ◌≤◌}
use mathlib.Core.Path.{◌≡◌}
use lib.ListN.{length, drop}
use Rattle.text_rules.specs.Texts.{strip}
use Rattle.text_rules.proofs.words.word_stands.Given as goal

abbrev pub invariant-loop-i : goal.invariant-loop-i
invariant-loop-i l = (l.i ≤ length l.word) × (l.at + length l.word ≤ length l.text) × (strip (drop l.i l.word) (drop (l.at + l.i) l.text) ≡ strip l.word (drop l.at l.text))
