-- The round trip from tape to tape: the text of a tape that is let through, read back with room, is that tape again; and what is read is a
-- tape that is let through. Assumes nothing.
use Prim.Native.Nat.{ℕ, ◌≤◌, ◌<◌, min}
use mathlib.Core.Path.{◌≡◌, refl, ap, sym, ◌∙◌}
use mathlib.Core.List.{List, [], ◌++◌}
use mathlib.Core.Bool.{Bool, true, false}
use mathlib.Core.Option.{some}
use native.Mathlib.Omega.{arith}
use lib.Dec.{ltb}
use lib.ListN.{length, take, drop, length-append, length-drop}
use lib.Seq.{take_all, take-append-le}
use borrow.Author.Tests.{le-leb, lt-leb, le-ltb}
use Rattle.output.specs.Logic.{if}
use Rattle.tape.specs.Bytes.{first}
use Rattle.tape.specs.Tree.{Head, Node, Nodes, nil, more, encode_head, encode, encodes, tape}
use Rattle.tape.specs.Tape.{nodes_of}
use Rattle.tape.specs.Verdict.{verdict}
use Rattle.tape.specs.Refusal.{noteds}
use Rattle.tape.specs.Answer.{Outcome, counted, refused}
use Rattle.tape.specs.Fine.{Bytes, Fines}
use Rattle.tape.specs.declared.Frame.TheVariants.{Top}
use Rattle.tokens.specs.Quoted.{strict_raw, raw_rule}
use Rattle.reader.specs.Grammar.{meaning}
use Rattle.reader.specs.Outcome.{fits, tape_answer, tape_leaves, answer, leaves}
use Rattle.writer.specs.Outcome.{laid, refusal, measured, streamed_with}
use Rattle.writer.specs.Outcome as writer
use Rattle.writer.specs.Text.{stream_text}
use Rattle.tape.proofs.Walking.{first-zero, verdict-told, tape_back}
use Rattle.tape.proofs.FineBack.{tape_fine}
use Rattle.tape.proofs.Accepted.{tape-length, tape_accepted, tape_nodes}
use Rattle.claims.specs.Writing.{WritesText, TapeOf}
use Rattle.claims.proofs.StreamBack.{stream_back}
use Rattle.claims.proofs.WellRead.{well_read}

-- ---- from a tape to its text and back

-- a tape that is refused neither by 1 to 4 and the count nor by 5, which looks for b
pub suited : (t : List ℕ) (b : Bool) → first (verdict t) (if b 5 0) ≡ 0 → (verdict t ≡ 0) × (b ≡ false)
suited t b e = let z = first-zero (verdict t) (if b 5 0) e in (z.0, flag b z.1)
  where
    flag : (b : Bool) → if {A = ℕ} b 5 0 ≡ 0 → b ≡ false
    flag true h = absurd (omega arith)
    flag false h = refl

-- a tape that is not refused before measuring is accepted and has no annotations
pub through : (y : ℕ) (t : List ℕ) → refusal y t ≡ 0 → (verdict t ≡ 0) × (noteds (nodes_of t) ≡ false)
unfolding refusal
through y t e = layout (ltb 2 y) e
  where
    layout : (b : Bool) → if b 7 (first (verdict t) (if (noteds (nodes_of t)) 5 0)) ≡ 0 → (verdict t ≡ 0) × (noteds (nodes_of t) ≡ false)
    layout true h = absurd (omega arith)
    layout false h = suited t (noteds (nodes_of t)) h

-- For every layout and every tape that is let through: its text means its nodes, under either setting and by either raw rule.
pub written_means : (quoted old : Bool) (y : ℕ) (t : List ℕ) → Bytes t → refusal y t ≡ 0 → meaning (raw_rule old) (stream_text quoted y (nodes_of t)) ≡ some (nodes_of t)
written_means quoted old y t b e = let z = through y t e in stream_back quoted old y (nodes_of t) (tape_fine t b z.0) z.1

-- what the reader answers and leaves for a text, by its meaning
answer-some : (s : List ℕ) (n : ℕ) (ns : Nodes) → meaning strict_raw s ≡ some ns → length (tape ns) ≤ n → length (tape ns) ≤ 1048576 → answer s n ≡ counted (length (tape ns))
unfolding answer tape_answer fits
answer-some s n ns e l m = rw (e, le-leb (length (tape ns)) (min n 1048576) (omega arith))

leaves-some : (s b : List ℕ) (ns : Nodes) → meaning strict_raw s ≡ some ns → length (tape ns) ≤ length b → length (tape ns) ≤ 1048576 → leaves s b ≡ tape ns ++ drop (length (tape ns)) b
unfolding leaves tape_leaves fits
leaves-some s b ns e l m = rw (e, le-leb (length (tape ns)) (min (length b) 1048576) (omega arith))

-- a text that means an accepted tape's nodes, read with room, gives the tape itself
pub means_tape : (s t b : List ℕ) → Bytes t → verdict t ≡ 0 → meaning strict_raw s ≡ some (nodes_of t) → length t ≤ length b → (answer s (length b) ≡ counted (length t)) × (leaves s b ≡ t ++ drop (length t) b)
means_tape s t b h v m l =
    let same : tape (nodes_of t) ≡ t = tape_back t h v in
    let most = (verdict-told t v).most in
    let n : length (tape (nodes_of t)) ≡ length t = ap length same in (
      answer-some s (length b) (nodes_of t) m (omega arith) (omega arith) ∙ ap counted n,
      leaves-some s b (nodes_of t) m (omega arith) (omega arith) ∙ ap (λ (x : List ℕ). x ++ drop (length x) b) same,
    )

-- Reading it back with room gives the tape itself: its length is answered, and it lies at the buffer's start, the rest kept.
pub round_trip : (quoted : Bool) (y : ℕ) (t b : List ℕ) → Bytes t → refusal y t ≡ 0 → length t ≤ length b
    → (answer (stream_text quoted y (nodes_of t)) (length b) ≡ counted (length t)) × (leaves (stream_text quoted y (nodes_of t)) b ≡ t ++ drop (length t) b)
round_trip quoted y t b h e l = means_tape (stream_text quoted y (nodes_of t)) t b h (through y t e).0 (unfold raw_rule in written_means quoted false y t h e) l

-- ---- which tapes are let through

-- Bytes pass 1 to 4 and the count exactly where they are such a tape.
pub accepted_exactly : (t : List ℕ) → Bytes t → (verdict t ≡ 0 → TapeOf t) × (TapeOf t → verdict t ≡ 0)
accepted_exactly t b = (
  λ e. record { nodes = nodes_of t; fine = tape_fine t b e; is = sym (tape_back t b e); short = (verdict-told t e).most },
  λ o. let s = o.short in let m = ap length o.is in ap verdict o.is ∙ tape_accepted o.nodes o.fine (omega arith),
)

-- The tape of well-formed nodes without annotations is written as the text of these nodes: the answer and the whole buffer.
pub tree_written : (quoted : Bool) (y : ℕ) (ns : Nodes) → y ≤ 2 → Fines 64 Top ns → noteds ns ≡ false → length (tape ns) ≤ 1048576
    → WritesText (stream_text quoted y ns) (streamed_with quoted y (tape ns)) (writer.leaves_with quoted y (tape ns))
unfolding streamed_with writer.leaves_with refusal
tree_written quoted y ns l f q m =
    let fits = le-ltb 2 y l in
    let accepted = tape_accepted ns f m in
    let nodes = tape_nodes ns f in
    record { answers = λ n. rw (fits, accepted, nodes, q); lays = λ b. rw (fits, accepted, nodes, q) }

-- ---- a text in a buffer

-- a text that the buffer holds: its length is answered, and it stands at the start, the rest kept
pub writes_whole : {s : List ℕ} {a : ℕ → Outcome} {l : List ℕ → List ℕ} → WritesText s a l → (b : List ℕ) → length s ≤ length b → (a (length b) ≡ counted (length s)) × (l b ≡ s ++ drop (length s) b)
unfolding measured laid
writes_whole {s} w b h = (
  w.answers (length b) ∙ rw (le-leb (length s) (length b) h),
  w.lays b ∙ take_all (length b) (s ++ drop (length s) b) (omega (arith, length-append s (drop (length s) b), length-drop (length s) b)),
)

-- a longer one: 6, and its first bytes fill the buffer
pub writes_cut : {s : List ℕ} {a : ℕ → Outcome} {l : List ℕ → List ℕ} → WritesText s a l → (b : List ℕ) → length b < length s → (a (length b) ≡ refused 6) × (l b ≡ take (length b) s)
unfolding measured laid
writes_cut {s} w b h = (
  w.answers (length b) ∙ rw (lt-leb (length s) (length b) h),
  w.lays b ∙ take-append-le (length b) s (drop (length s) b) (omega arith),
)

-- ---- from a text to its tape

-- What is read is let through by the writers' check, and is the tape of what the text means.
pub read_accepted : (is_raw : ℕ → Bool) (s : List ℕ) (ns : Nodes) → meaning is_raw s ≡ some ns → length (tape ns) ≤ 1048576 → (verdict (tape ns) ≡ 0) × (nodes_of (tape ns) ≡ ns)
read_accepted is_raw s ns e l =
    let n = tape-length ns in
    let f : Fines 64 Top ns = well_read is_raw s ns e (omega arith) in
    (tape_accepted ns f l, tape_nodes ns f)

-- ---- a node by itself

-- a node's own tape is no longer than the whole
pub first_shorter : (h : Head) (n : Node) (ns : Nodes) → (length (tape (more h n nil)) ≤ length (tape (more h n ns))) × (length (tape ns) ≤ length (tape (more h n ns)))
unfolding encode
first_shorter h n ns =
    let a = tape-length (more h n nil) in
    let b = tape-length (more h n ns) in
    let c = tape-length ns in
    let d = length-append (encode_head h ++ encode n) [] in
    let e = length-append (encode_head h ++ encode n) (encodes ns) in
    (omega arith, omega arith)
