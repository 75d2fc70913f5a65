-- The length before the writing: it is that of the text written, and for the layouts 0 and 1 at most nine times the tape's. Assumes nothing.
use Prim.Native.Nat.{ℕ, zero, suc, ◌+◌, ◌*◌, ◌≤◌}
use mathlib.Core.Path.{◌≡◌, refl, ap, subst, ◌∙◌}
use mathlib.Core.List.{List}
use mathlib.Core.Bool.{Bool, true, false}
use native.Mathlib.Omega.{arith}
use lib.Dec.{leb, ltb}
use lib.ListN.{length}
use borrow.Author.Tests.{le-leb, lt-leb, le-ltb}
use Rattle.output.specs.Logic.{if}
use Rattle.tape.specs.Bytes.{first}
use Rattle.tape.specs.Tree.{Nodes, encode_head, encode_name, encode_notes, encode, encodes, tape}
use Rattle.tape.specs.Tape.{nodes_of}
use Rattle.tape.specs.Verdict.{verdict}
use Rattle.tape.specs.Refusal.{noted, noteds, scalar_numbered, syms_numbered, head_numbered, numbered}
use Rattle.tape.specs.Answer.{Outcome, counted, ended, refused}
use Rattle.tape.specs.Fine.{Bytes, Fine, Fines}
use Rattle.tape.specs.declared.Frame.TheVariants.{Top}
use Rattle.tape.proofs.Accepted.{tape-length, tape_accepted, tape_nodes}
use Rattle.text_rules.specs.Digits as Digits
use Rattle.text_rules.specs.Digits.{pad, digits}
use Rattle.numbers.specs.Decimal.{int_text}
use Rattle.writer.specs.Text.{scalar_text, name_text, notes_text, opening, closing, separator, text, stream_text}
use Rattle.writer.specs.Outcome.{laid, refusal, measured, answered, left, streamed_with, leaves_with}
use Rattle.tape.proofs.Verdicts.{verdict_most}
use Rattle.tree.specs.Text.{lead, element, tree_text}
use Rattle.tree.specs.Outcome as tree
use Rattle.measure.specs.Outcome.{text_length, text_length_with, longest}
use Rattle.measure.proofs.Bound.{length_bound}
use Rattle.claims.specs.Lengths.{TellsLength, markers}
use Rattle.claims.specs.Examples.{list, list_tape}
use Rattle.claims.proofs.Marked.{list-tape, list_fine, marked}

-- ---- of any text

abbrev count : Outcome → ℕ
count (counted n) = suc n
count ended = 0
count (refused n) = 0

abbrev number : Outcome → ℕ
number (counted n) = 0
number ended = 0
number (refused n) = suc n

-- The text s behind the refusal f that comes before measuring, which is not 6: what is told goes with what a writer does.
tells : (f : ℕ) (s : List ℕ) → (f ≡ 6 → ⊥) → TellsLength (answered f (counted (length s))) s (λ n. answered f (measured s n)) (λ b. left f (laid s b) b)
unfolding measured
tells zero s h = record {
  counts = λ n e. (let q = ap count e in omega arith, record { answers = λ m. refl; lays = λ b. refl });
  exact = λ n e. let q = ap count e in let l : length s ≡ n = omega arith in rw (le-leb (length s) n (omega arith)) (ap counted l);
  one_less = λ n e. let q = ap count e in rw (lt-leb (length s) n (omega arith));
  agrees = λ n e. no_cut n (leb (length s) n) refl e;
  refuses = λ g e. let q = ap count e in absurd (omega arith);
  no_six = λ e. let q = ap count e in absurd (omega arith);
  no_end = λ e. let q = ap count e in absurd (omega arith);
}
  where
    no_cut : (n : ℕ) (b : Bool) → leb (length s) n ≡ b → (if b (counted (length s)) (refused 6) ≡ refused 6 → ⊥) → counted (length s) ≡ if b (counted (length s)) (refused 6)
    no_cut n true q e = refl
    no_cut n false q e = absurd (e refl)
tells (suc f) s h = record {
  counts = λ n e. let q = ap count e in absurd (omega arith);
  exact = λ n e. let q = ap count e in absurd (omega arith);
  one_less = λ n e. let q = ap count e in absurd (omega arith);
  agrees = λ n e. refl;
  refuses = λ g e. (λ n. e, λ b. refl);
  no_six = λ e. let q = ap number e in h (omega arith);
  no_end = λ e. let q = ap number e in absurd (omega arith);
}

-- a refusal before measuring is not 6
first_no_six : (a : ℕ) (b : Bool) → a ≤ 4 → first a (if b 5 0) ≡ 6 → ⊥
first_no_six zero true h e = absurd (omega arith)
first_no_six zero false h e = absurd (omega arith)
first_no_six (suc a) b h e = absurd (omega arith)

stream_no_six : (y : ℕ) (t : List ℕ) → refusal y t ≡ 6 → ⊥
unfolding refusal
stream_no_six y t = layout (ltb 2 y)
  where
    layout : (b : Bool) → if b 7 (first (verdict t) (if (noteds (nodes_of t)) 5 0)) ≡ 6 → ⊥
    layout true e = absurd (omega arith)
    layout false e = first_no_six (verdict t) (noteds (nodes_of t)) (verdict_most t) e

tree_no_six : (t : List ℕ) → tree.refusal t ≡ 6 → ⊥
unfolding tree.refusal
tree_no_six t = first_no_six (verdict t) (tree.unsuited (nodes_of t)) (verdict_most t)

-- ---- of a tape

-- FOR EVERY SETTING, LAYOUT AND TAPE, AND FOR THE TREE TEXT: the length told before is that of the text written, or the writer's refusal.
pub stream_length : (quoted : Bool) (y : ℕ) (t : List ℕ) → TellsLength (text_length_with quoted y t) (stream_text quoted y (nodes_of t)) (streamed_with quoted y t) (leaves_with quoted y t)
unfolding text_length_with streamed_with leaves_with
stream_length quoted y t = tells (refusal y t) (stream_text quoted y (nodes_of t)) (stream_no_six y t)

pub tree-length : (quoted : Bool) (t : List ℕ) → TellsLength (tree.tree_length_with quoted t) (tree_text quoted (nodes_of t)) (tree.written_with quoted t) (tree.leaves_with quoted t)
unfolding tree.tree_length_with tree.written_with tree.leaves_with
tree-length quoted t = tells (tree.refusal t) (tree_text quoted (nodes_of t)) (tree_no_six t)

-- FOR LAYOUTS 0 AND 1, every setting and every tape that 1 to 5 let through, "the count is at most nine times the tape's length, trailer included".
pub nine_times : (quoted : Bool) (y : ℕ) (t : List ℕ) (n : ℕ) → Bytes t → y ≤ 1 → text_length_with quoted y t ≡ counted n → n ≤ longest (length t)
nine_times = length_bound

-- ---- of well-formed nodes

-- the tape of well-formed nodes without annotations tells the length of their text
pub nodes_length : (quoted : Bool) (y : ℕ) (ns : Nodes) → y ≤ 2 → Fines 64 Top ns → noteds ns ≡ false → length (tape ns) ≤ 1048576 → text_length_with quoted y (tape ns) ≡ counted (length (stream_text quoted y ns))
unfolding text_length_with refusal
nodes_length quoted y ns l f q m = rw (le-ltb 2 y l, tape_accepted ns f m, tape_nodes ns f, q)

-- ---- examples

-- the tree text of 01's list is not refused
tree_told : tree.tree_length (tape list) ≡ counted 6
unfolding tree.tree_length_with tree.refusal tree.unsuited numbered head_numbered syms_numbered scalar_numbered tree_text element lead notes_text scalar_text name_text opening closing separator int_text digits Digits.count pad
tree_told = rw (tape_accepted list list_fine (rw list-tape (omega arith)), tape_nodes list list_fine) refl

markers_fine : (c : ℕ) → Fines 64 Top (markers c)
unfolding markers Fine
markers_fine zero = tt
markers_fine (suc c) = (record { name = tt; notes = tt; few = omega arith }, tt, markers_fine c)

markers-plain : (c : ℕ) → noteds (markers c) ≡ false
unfolding markers noted
markers-plain zero = refl
markers-plain (suc c) = markers-plain c

markers_encoded : (c : ℕ) → length (encodes (markers c)) ≡ c
unfolding markers encode encode_head encode_name encode_notes
markers_encoded zero = refl
markers_encoded (suc c) = ap suc (markers_encoded c)

markers_text : (quoted : Bool) (c : ℕ) → length (stream_text quoted 1 (markers c)) ≡ 9 * c
unfolding stream_text markers text name_text separator
markers_text quoted zero = refl
markers_text quoted (suc c) = let h = markers_text quoted c in omega arith

-- 01's list of 1 and 2 has 9 bytes in Compact, and 6 as tree text
pub list_length : (text_length 0 list_tape ≡ counted 9) × (tree.tree_length list_tape ≡ counted 6)
unfolding noted
list_length = (
  subst (λ (t : List ℕ). text_length 0 t ≡ counted 9) list-tape (nodes_length false 0 list (omega arith) list_fine refl (rw list-tape (omega arith)) ∙ ap (λ (s : List ℕ). counted (length s)) marked.compact_list),
  subst (λ (t : List ℕ). tree.tree_length t ≡ counted 6) list-tape tree_told,
)

-- The nine is tight: a marker of one byte takes nine in Lines, so that only the trailer's eight bytes are left over, whatever their number.
pub markers-length : (quoted : Bool) (c : ℕ) → c + 8 ≤ 1048576 → (text_length_with quoted 1 (tape (markers c)) ≡ counted (9 * c)) × (length (tape (markers c)) ≡ c + 8)
markers-length quoted c h =
    let n = tape-length (markers c) in
    let e = markers_encoded c in
    (nodes_length quoted 1 (markers c) (omega arith) (markers_fine c) (markers-plain c) (omega arith) ∙ ap counted (markers_text quoted c), omega arith)
