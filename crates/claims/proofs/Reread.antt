-- Writing and then reading: what the writer finished is its text, and that text reads as the tape. Assumes nothing.
use Prim.Native.Nat.{ℕ, zero, suc, ◌≤◌, min}
use mathlib.Core.Path.{◌≡◌, refl, ap, sym, ◌∙◌}
use mathlib.Core.List.{List, ◌++◌}
use mathlib.Core.Bool.{Bool, true, false}
use mathlib.Core.Option.{Option, none, some}
use native.Mathlib.Omega.{arith}
use lib.Dec.{leb}
use lib.ListN.{length, take, drop}
use lib.Seq.{take-take, take_at, take-append_seam}
use borrow.Author.Tests.{leb-true}
use Rattle.output.specs.Logic.{if, on}
use Rattle.tape.specs.Tree.{Nodes, tape}
use Rattle.tape.specs.Tape.{nodes_of}
use Rattle.tape.specs.Verdict.{verdict}
use Rattle.tape.specs.Fine.{Bytes}
use Rattle.tape.specs.Answer.{Outcome, counted, ended, refused, outcome}
use Rattle.tape.specs.declared.answer.Answer.{Answer}
use Rattle.tape.specs.declared.answer.Answer.TheVariants as A
use Rattle.tokens.specs.Quoted.{strict_raw, raw_rule}
use Rattle.reader.specs.Grammar.{meaning}
use Rattle.reader.specs.Outcome.{fits, zeros, tape_answer, tape_leaves, answer}
use Rattle.reader.specs.Outcome as read
use Rattle.writer.specs.Outcome.{laid, refusal, measured, answered, streamed_with, leaves_with}
use Rattle.writer.specs.Text.{stream_text}
use Rattle.tape.proofs.Walking.{tape_back}
use Rattle.claims.specs.Back.{back_answer, back_leaves}
use Rattle.claims.proofs.TapeBack.{through, written_means, read_accepted}

abbrev count : Outcome → ℕ
count (counted n) = suc n
count ended = 0
count (refused n) = 0

-- where the writer counts n bytes, nothing was refused and the buffer's first n bytes are the text
pub record Finished (quoted : Bool) (y : ℕ) (t b : List ℕ) (n : ℕ) : Type 0 where
  pub let_through : refusal y t ≡ 0
  pub room : n ≤ length b
  pub is_text : take n (leaves_with quoted y t b) ≡ stream_text quoted y (nodes_of t)

pub finished : (quoted : Bool) (y : ℕ) (t b : List ℕ) (n : ℕ) → streamed_with quoted y t (length b) ≡ counted n → Finished quoted y t b n
unfolding streamed_with measured leaves_with laid
finished quoted y t b n e = refused_or (refusal y t) refl (ap count e)
  where
    s : List ℕ
    s = stream_text quoted y (nodes_of t)

    text : length s ≡ n → length s ≤ length b → take n (take (length b) (s ++ drop (length s) b)) ≡ s
    text k l = sym (ap (λ (i : ℕ). take i (take (length b) (s ++ drop (length s) b))) k) ∙ take-take (length s) (length b) (s ++ drop (length s) b) l ∙ take-append_seam s (drop (length s) b)

    in_room : (g : Bool) → leb (length s) (length b) ≡ g → count (if g (counted (length s)) (refused 6)) ≡ suc n → (n ≤ length b) × (take n (take (length b) (s ++ drop (length s) b)) ≡ s)
    in_room true q h = let l = leb-true (length s) (length b) q in (omega arith, text (omega arith) l)
    in_room false q h = absurd (omega arith)

    refused_or : (f : ℕ) → refusal y t ≡ f → count (answered f (if (leb (length s) (length b)) (counted (length s)) (refused 6))) ≡ suc n → Finished quoted y t b n
    refused_or zero r h = let z = in_room (leb (length s) (length b)) refl h in record { let_through = r; room = z.0; is_text = rw r z.1 }
    refused_or (suc f) r h = absurd (omega arith)

-- by the reader's rule
means : (quoted : Bool) (y : ℕ) (t : List ℕ) → Bytes t → refusal y t ≡ 0 → meaning strict_raw (stream_text quoted y (nodes_of t)) ≡ some (nodes_of t)
unfolding raw_rule
means quoted y t b e = written_means quoted false y t b e

-- what the reader answers and leaves for the text of a tape is what it does for that very tape
pub text_answer : (quoted : Bool) (y : ℕ) (t : List ℕ) (n : ℕ) → Bytes t → refusal y t ≡ 0 → answer (stream_text quoted y (nodes_of t)) n ≡ tape_answer t n
unfolding answer
text_answer quoted y t n b e = rw (means quoted y t b e) (ap (λ (x : List ℕ). tape_answer x n) (tape_back t b (through y t e).0))

pub text_leaves : (quoted : Bool) (y : ℕ) (t o : List ℕ) → Bytes t → refusal y t ≡ 0 → read.leaves (stream_text quoted y (nodes_of t)) o ≡ tape_leaves t o
unfolding read.leaves
text_leaves quoted y t o b e = rw (means quoted y t b e) (ap (λ (x : List ℕ). tape_leaves x o) (tape_back t b (through y t e).0))

-- an answer that is no count is handed on
pub handed_on : (a : Answer) → ((n : ℕ) → a ≡ A.Count n → ⊥) → (t o : List ℕ) → (back_answer (outcome a) t (length o) ≡ outcome a) × (back_leaves (outcome a) t o ≡ o)
handed_on (A.Count n) h t o = absurd (h n refl)
handed_on A.End h t o = (refl, refl)
handed_on A.Misfit h t o = (refl, refl)
handed_on A.BadNode h t o = (refl, refl)
handed_on A.TooDeep h t o = (refl, refl)
handed_on A.FiniteFloat h t o = (refl, refl)
handed_on A.Unsuited h t o = (refl, refl)
handed_on A.TextTooLong h t o = (refl, refl)
handed_on A.NoLayout h t o = (refl, refl)
handed_on A.OutsideGrammar h t o = (refl, refl)
handed_on A.TapeTooLong h t o = (refl, refl)
handed_on A.PastText h t o = (refl, refl)
handed_on A.OutsideOldGrammar h t o = (refl, refl)
handed_on A.OutputTooLong h t o = (refl, refl)

-- What the reader counts is a tape that the writers let through: its limit is the tape's own.
pub counted_accepted : (s b : List ℕ) (n : ℕ) → answer s (length b) ≡ counted n → verdict (take n (read.leaves s b)) ≡ 0
unfolding answer read.leaves tape_answer tape_leaves fits
counted_accepted s b n e = by-meaning (meaning strict_raw s) refl (ap count e)
  where
    by-room : (ns : Nodes) → meaning strict_raw s ≡ some ns → (g : Bool) → leb (length (tape ns)) (min (length b) 1_048_576) ≡ g → count (if g (counted (length (tape ns))) (refused 9)) ≡ suc n
        → verdict (take n (if g (tape ns ++ drop (length (tape ns)) b) (zeros b))) ≡ 0
    by-room ns m true q h =
        let l = leb-true (length (tape ns)) (min (length b) 1_048_576) q in
        let k : length (tape ns) ≡ n = omega arith in
        ap verdict (take_at (tape ns) (drop (length (tape ns)) b) n k) ∙ (read_accepted strict_raw s ns m (omega arith)).0
    by-room ns m false q h = absurd (omega arith)

    by-meaning : (o : Option Nodes) → meaning strict_raw s ≡ o → count (on o (λ ns. if (leb (length (tape ns)) (min (length b) 1_048_576)) (counted (length (tape ns))) (refused 9)) (refused 8)) ≡ suc n
        → verdict (take n (on o (λ ns. if (leb (length (tape ns)) (min (length b) 1_048_576)) (tape ns ++ drop (length (tape ns)) b) (zeros b)) (zeros b))) ≡ 0
    by-meaning none m h = absurd (omega arith)
    by-meaning (some ns) m h = by-room ns m (leb (length (tape ns)) (min (length b) 1_048_576)) refl h
