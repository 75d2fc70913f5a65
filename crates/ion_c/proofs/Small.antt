-- A count fits across the border. Assumes nothing.
use mathlib.Core.Bool.{Bool, true, false}
use mathlib.Core.List.{List}
use mathlib.Core.Option.{Option, none, some}
use Prim.Native.Nat.{ℕ, zero, suc, ◌-◌, ◌^◌, ◌<◌, min}
use mathlib.Core.Path.{◌≡◌, refl, sym, subst}
use native.Mathlib.Omega.{arith}
use lib.Dec.{leb, ltb, eqb}
use lib.ListN.{length, take, drop}
use lib.Seq.{take-length}
use borrow.Author.Tests.{leb-true}
use Rattle.output.specs.Logic.{if, on}
use Rattle.text_rules.specs.Text.{Sym}
use Rattle.tape.specs.Answer.{Outcome, counted, refused}
use Rattle.tape.specs.Fine.{Bytes}
use Rattle.tape.specs.Tree.{Nodes, tape}
use Rattle.reader.specs.Grammar.{meaning}
use Rattle.reader.specs.Outcome.{fits, tape_answer, answer}
use Rattle.converter.specs.Convert.{converted}
use Rattle.converter.specs.Outcome as convert
use Rattle.writer.specs.Text.{stream_text}
use Rattle.writer.specs.Outcome.{refusal, measured, answered, streamed_with}
use Rattle.measure.specs.Outcome.{text_length_with}
use Rattle.measure.proofs.Verdicts.{length-small}
use Rattle.tree.specs.Text.{tree_text}
use Rattle.tree.specs.Outcome.{written_with}
use Rattle.tree.specs.Outcome as tree
use Rattle.tree.proofs.Verdicts as told
use Rattle.tape.specs.Tape.{nodes_of}
use Rattle.line_reader.specs.Cut.{to_first}
use Rattle.line_reader.specs.Book.{success, failure, end_mark, line_tape, room, by_book}
use Rattle.line_reader.specs.Calls.{past_text, step}
use Rattle.field_index.specs.Index as index
use Rattle.field_index.specs.Lookup.{Within, Finds}
use Rattle.field_index.specs.declared.Entry.{Entry}
use Rattle.field_index.specs.declared.Refusal.{Refusal}
use Rattle.std.specs.Prelude as std
use Rattle.field_index.proofs.IndexLaws.{fields_few}
use Rattle.ion_c.specs.Code.{Small, Near}

-- a list cut at its own ends
pub cut-whole : (l : List ℕ) → take (length l - 0) (drop 0 l) ≡ l
cut-whole l = let e : length l - 0 ≡ length l = omega arith in rw e (take-length l)

measured-small : (s : List ℕ) (n : ℕ) → n < 2 ^ 63 → Small (measured s n)
unfolding measured
measured-small s n h = go (leb (length s) n) refl
  where
    go : (b : Bool) → leb (length s) n ≡ b → Small (if b (counted (length s)) (refused 6))
    go true e = omega (arith, leb-true (length s) n e)
    go false e = tt

-- a refusal is small, so the rest matters only without one
answered-small : (k : ℕ) (o : Outcome) → (k ≡ 0 → Small o) → Small (answered k o)
answered-small zero o h = h refl
answered-small (suc k) o h = tt

pub streamed-small : (quoted : Bool) (y : ℕ) (t : List ℕ) (n : ℕ) → n < 2 ^ 63 → Small (streamed_with quoted y t n)
unfolding streamed_with
streamed-small quoted y t n h = answered-small (refusal y t) (measured (stream_text quoted y (nodes_of t)) n) (λ _. measured-small (stream_text quoted y (nodes_of t)) n h)

pub written_small : (quoted : Bool) (t : List ℕ) (n : ℕ) → n < 2 ^ 63 → Small (written_with quoted t n)
unfolding written_with
written_small quoted t n h = answered-small (tree.refusal t) (measured (tree_text quoted (nodes_of t)) n) (λ _. measured-small (tree_text quoted (nodes_of t)) n h)

-- ---- lengths

pub text_length-small : (quoted : Bool) (y : ℕ) (t : List ℕ) → Bytes t → Small (text_length_with quoted y t)
unfolding text_length_with
text_length-small quoted y t b = answered-small (refusal y t) (counted (length (stream_text quoted y (nodes_of t)))) (length-small quoted y t b)

pub tree_length-small : (quoted : Bool) (t : List ℕ) → Bytes t → Small (tree.tree_length_with quoted t)
unfolding tree.tree_length_with
tree_length-small quoted t b = answered-small (tree.refusal t) (counted (length (tree_text quoted (nodes_of t)))) (told.length-small quoted t b)

-- ---- reading

tape-small : (t : List ℕ) (n : ℕ) → Small (tape_answer t n)
unfolding tape_answer fits
tape-small t n = go (leb (length t) (min n 1_048_576)) refl
  where
    go : (b : Bool) → leb (length t) (min n 1_048_576) ≡ b → Small (if b (counted (length t)) (refused 9))
    go true e = omega (arith, leb-true (length t) (min n 1_048_576) e)
    go false e = tt

pub answer-small : (t : List ℕ) (n : ℕ) → Small (answer t n)
unfolding answer
answer-small t n = go (meaning _ t)
  where
    go : (m : Option Nodes) → Small (on m (λ ns. tape_answer (tape ns) n) (refused 8))
    go none = tt
    go (some ns) = tape-small (tape ns) n

-- ---- converting

pub convert_small : (t : List ℕ) (n : ℕ) → n < 2 ^ 63 → Small (convert.answer t n)
unfolding convert.answer convert.has_room
convert_small t n h = go (convert.is_old t) (leb (length (converted t)) n) refl
  where
    go : (o b : Bool) → leb (length (converted t)) n ≡ b → Small (if o (if b (counted (length (converted t))) (refused 14)) (refused 13))
    go false b e = tt
    go true true e = omega (arith, leb-true (length (converted t)) n e)
    go true false e = tt

-- ---- line calls

line_small : (line : List ℕ) (at : ℕ) (buf : List ℕ) → Small (by_book line at buf).answer
unfolding by_book room success failure fits
line_small line at buf = go (line_tape line)
  where
    held : (t : List ℕ) (b : Bool) → leb (length t) (min (length buf) 1_048_576) ≡ b → Small (if b (success line t at buf) (failure 9 line at buf)).answer
    held t true e = omega (arith, leb-true (length t) (min (length buf) 1_048_576) e)
    held t false e = tt

    go : (o : Option (List ℕ)) → Small (on o (λ t. room line t at buf) (failure 8 line at buf)).answer
    go none = tt
    go (some t) = held t (leb (length t) (min (length buf) 1_048_576)) refl

pub step_small : (text : List ℕ) (at : ℕ) (buf : List ℕ) → Small (step text at buf).answer
unfolding step past_text end_mark
step_small text at buf = go (ltb (length text) at) (eqb at (length text))
  where
    go : (a b : Bool) → Small (if a (past_text at buf) (if b (end_mark at buf) (by_book (to_first (drop at text)) at buf))).answer
    go true b = tt
    go false true = tt
    go false false = line_small (to_first (drop at text)) at buf

-- ---- indexes and places

-- a count is at most the number of the entries
pub indexed-small : (t : List ℕ) (at : ℕ) (l l' : List Entry) (i : std.Result ℕ Refusal) → index.IndexOf t at l l' i → length l < 2 ^ 63 → Small (index.indexed i)
indexed-small t at l l' i f h = subst Small (sym f.answer) (go (index.refusal t at (length l)) refl)
  where
    go : (k : ℕ) → index.refusal t at (length l) ≡ k → Small (index.answered k (length (index.fields_at t at)))
    go zero e = omega (arith, fields_few t at (length l) e)
    go (suc k) e = tt

pub found_near : (t : List ℕ) (name : Sym) (l : List Entry) (p : std.Option ℕ) → Finds t name l p → length l < 2 ^ 63 → Near p
found_near t name l p f h = go p f.within
  where
    go : (p : std.Option ℕ) → Within (length l) p → Near p
    go std.None w = tt
    go (std.Some k) w = omega arith
