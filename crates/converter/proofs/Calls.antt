-- What a call of `convert` leaves, by what its text means: the strict reader reads it to the tape that the old text meant, and a text of the strict grammar is
-- unchanged. Assumes nothing.
use Prim.Native.Nat.{ℕ, ◌≤◌}
use mathlib.Core.Path.{◌≡◌, refl, sym, ap, subst, ◌∙◌}
use mathlib.Core.Bool.{true}
use mathlib.Core.List.{List, ◌++◌}
use mathlib.Core.Option.{some}
use lib.ListN.{length, take, drop}
use lib.Seq.{take_at}
use Rattle.tokens.specs.Quoted.{old_raw, strict_raw}
use Rattle.tape.specs.Answer.{counted}
use Rattle.tape.specs.Tree.{Nodes, tape}
use Rattle.reader.specs.Grammar.{meaning}
use Rattle.reader.specs.Outcome as read
use Rattle.converter.specs.Convert.{converted}
use Rattle.converter.specs.Outcome.{is_old, answer, leaves}
use Rattle.converter.proofs.Meaning.{converted_means, strict_old}
use Rattle.converter.proofs.Strict.{strict_same}
use Rattle.converter.proofs.Answers.{finished}

module _ (t b : List ℕ) (ns : Nodes) where
  old : meaning old_raw t ≡ some ns → is_old t ≡ true
  unfolding is_old
  old e = rw e

  -- a text of the strict grammar, where there is room for it
  pub unchanged : meaning strict_raw t ≡ some ns → length t ≤ length b → (answer t (length b) ≡ counted (length t)) × (leaves t b ≡ t ++ drop (length t) b)
  unchanged e l =
      let s = strict_same t ns e in
      let f = finished t b (old (strict_old t ns e)) (subst (λ (u : List ℕ). length u ≤ length b) (sym s) l) in
      (sym f.0 ∙ ap (λ (u : List ℕ). counted (length u)) s, sym f.1 ∙ ap (λ (u : List ℕ). u ++ drop (length u) b) s)

  module _ (e : meaning old_raw t ≡ some ns) (l : length (converted t) ≤ length b) where
    output : take (length (converted t)) (leaves t b) ≡ converted t
    output = ap (take (length (converted t))) (sym (finished t b (old e) l).1) ∙ take_at (converted t) (drop (length (converted t)) b) (length (converted t)) refl

    -- what the reader answers to the bytes that were counted, for a buffer of n bytes, and what it leaves in a buffer c
    pub read_answer : (n : ℕ) → read.answer (take (length (converted t)) (leaves t b)) n ≡ read.tape_answer (tape ns) n
    unfolding read.answer
    read_answer n = ap (λ (u : List ℕ). read.answer u n) output ∙ rw (converted_means t ns e)

    pub read_leaves : (c : List ℕ) → read.leaves (take (length (converted t)) (leaves t b)) c ≡ read.tape_leaves (tape ns) c
    unfolding read.leaves
    read_leaves c = ap (λ (u : List ℕ). read.leaves u c) output ∙ rw (converted_means t ns e)
