-- DEMAND 3: `demand-3`, of the book; `demand-3-calls`, of the calls by offsets; `demand-3-ran`, of what `read_lines` hands out. Assumes nothing.
use Prim.Native.Nat.{ℕ, suc, ◌≤◌, min}
use mathlib.Core.Path.{◌≡◌, refl, sym, ◌∙◌, ap}
use mathlib.Core.List.{List, [], ◌∷◌, ◌++◌, map, append_assoc, flatten}
use mathlib.Core.Bool.{Bool, true, false}
use mathlib.Core.Option.{some}
use native.Mathlib.Omega.{arith}
use lib.ListN.{length}
use borrow.Author.Tests.{le-leb}
use Rattle.tape.specs.Tree.{Head, Node, Nodes, nil, more, size, tape}
use Rattle.tape.specs.Tape.{nodes_of}
use Rattle.tape.specs.Refusal.{noteds}
use Rattle.tape.specs.Fine.{Bytes, Fines}
use Rattle.tape.specs.declared.Frame.TheVariants.{Top}
use Rattle.tokens.specs.Quoted.{raw_rule}
use Rattle.reader.specs.Outcome.{fits}
use Rattle.line_reader.specs.Cut.{lf, lines_of, lfs, to_first, from_last}
use Rattle.line_reader.specs.Book.{single, line_tape, play, book}
use Rattle.line_reader.specs.Damage.{Written, joined_text, as_written, before, behind_run, damaged}
use Rattle.line_reader.specs.Calls.{calls, Ran}
use Rattle.line_reader.specs.declared.Called.{Called}
use Rattle.writer.specs.Outcome.{refusal}
use Rattle.writer.specs.Text.{stream_text}
use Rattle.tape.proofs.Walking.{verdict-told, tape_back}
use Rattle.tape.proofs.FineBack.{tape_fine}
use Rattle.line_reader.proofs.CutLaws.{cut_line, lfs-last}
use Rattle.line_reader.proofs.BookLaws.{line-tape, calls-book}
use Rattle.line_reader.proofs.Demand.{Reads, All, before-behind, undamaged, demand}
use Rattle.claims.specs.Demand3.{written_as, lines_each}
use Rattle.claims.proofs.LineBack.{line_body, line, lines_more, lines_none, line_alone, alone_first, alone_rest, line-body, line_body_back}
use Rattle.claims.proofs.TapeBack.{through, first_shorter}

pub tape-fits : (t : List ℕ) (n : ℕ) → length t ≤ n → length t ≤ 1048576 → fits t n ≡ true
unfolding fits
tape-fits t n l m = le-leb (length t) (min n 1048576) (omega arith)

-- Under either setting of the writer: "a quoted list … is a written text in demand 3".
module _ (quoted : Bool) where
  -- ---- what nodes are written as

  -- each node's line and its own tape
  unfoldable written : Nodes → List Written
  written nil = []
  written (more h n ns) = record { line = line quoted h n; tape = tape (more h n nil) } ∷ written ns

  -- these lines joined are the Lines text
  written_text : (ns : Nodes) → joined_text (written ns) ≡ stream_text quoted 1 ns
  unfolding written flatten
  written_text nil = sym (lines_none quoted)
  written_text (more h n ns) = ap (λ (t : List ℕ). line quoted h n ++ t) (written_text ns) ∙ sym (lines_more quoted h n ns)

  -- A node's own Lines text is a line that the grammar reads to that node's tape.
  pub line_reads : (h : Head) (n : Node) → Fines 64 Top (more h n nil) → noteds (more h n nil) ≡ false → line_tape (stream_text quoted 1 (more h n nil)) ≡ some (tape (more h n nil))
  unfolding line single raw_rule
  line_reads h n f q = ap line_tape (line_alone quoted h n) ∙ line-tape (line_body quoted h n) ∙ rw (line_body_back quoted false h n f q)

  written_reads : (ns : Nodes) (room : ℕ) → Fines 64 Top ns → noteds ns ≡ false → length (tape ns) ≤ room → length (tape ns) ≤ 1048576 → All (Reads room) (written ns)
  unfolding written line
  written_reads nil room f q l m = tt
  written_reads (more h n ns) room f q l m =
      let a = alone_first h n ns f q in
      let r = alone_rest h n ns f q in
      let s = first_shorter h n ns in (
        record {
          body = line_body quoted h n;
          is = refl;
          only = line-body quoted h n a.0;
          reads = ap line_tape (sym (line_alone quoted h n)) ∙ line_reads h n a.0 a.1;
          holds = tape-fits (tape (more h n nil)) room (omega arith) (omega arith);
        },
        written_reads ns room r.0 r.1 (omega arith) (omega arith),
      )

  -- ---- one line for each node

  -- a well-formed node's line in front of a text is its first line
  line_first : (h : Head) (n : Node) (t : List ℕ) → Fines 64 Top (more h n nil) → lines_of (line quoted h n ++ t) ≡ line quoted h n ∷ lines_of t
  unfolding line
  line_first h n t f = ap lines_of (append_assoc (line_body quoted h n) (lf ∷ []) t) ∙ cut_line (line_body quoted h n) t (line-body quoted h n f)

  -- The lines of the Lines text are the nodes' own Lines texts.
  pub lines-each : (ns : Nodes) → Fines 64 Top ns → noteds ns ≡ false → lines_of (stream_text quoted 1 ns) ≡ lines_each quoted ns
  unfolding lines_each lines_of
  lines-each nil f q = ap lines_of (lines_none quoted)
  lines-each (more h n ns) f q =
      let r = alone_rest h n ns f q in
      rw (lines_more quoted h n ns, line_alone quoted h n, line_first h n (stream_text quoted 1 ns) (alone_first h n ns f q).0) (ap (λ (ls : List (List ℕ)). line quoted h n ∷ ls) (lines-each ns r.0 r.1))

  lines_size : (ns : Nodes) → length (lines_each quoted ns) ≡ size ns
  unfolding lines_each size
  lines_size nil = refl
  lines_size (more h n ns) = ap suc (lines_size ns)

  written_as_lem : (ns : Nodes) → written_as (lines_each quoted ns) ns ≡ written ns
  unfolding written_as lines_each written
  written_as_lem nil = refl
  written_as_lem (more h n ns) = rw (line_alone quoted h n) (ap (λ (ws : List Written). record { line = line quoted h n; tape = tape (more h n nil) } ∷ ws) (written_as_lem ns))

  -- ---- the theorem

  -- what a tape that is let through is written as
  record Lines (t : List ℕ) (room : ℕ) : Type 0 where
    text : joined_text (written (nodes_of t)) ≡ stream_text quoted 1 (nodes_of t)
    reads : All (Reads room) (written (nodes_of t))
    each : written_as (lines_of (stream_text quoted 1 (nodes_of t))) (nodes_of t) ≡ written (nodes_of t)

  lines-of : (t : List ℕ) (room : ℕ) → Bytes t → refusal 1 t ≡ 0 → length t ≤ room → Lines t room
  lines-of t room b e l =
      let z = through 1 t e in
      let ns : Nodes = nodes_of t in
      let f = tape_fine t b z.0 in
      let most = (verdict-told t z.0).most in
      let same : length (tape ns) ≡ length t = ap length (tape_back t b z.0) in
      record {
        text = written_text ns;
        reads = written_reads ns room f z.1 (omega arith) (omega arith);
        each = ap (λ (ls : List (List ℕ)). written_as ls ns) (lines-each ns f z.1) ∙ written_as_lem ns;
      }

  -- DEMAND 3. Take the Lines text of any tape that 1 to 5 let through, as head, run and tail, and let any bytes replace the run. With a buffer
  -- at least as long as the tape, every list of calls is answered: before the run as written, between by the book on their own bytes, behind it
  -- as written, then end marks.
  pub demand-3 : (t head run new tail buf : List ℕ) (n : ℕ) → Bytes t → refusal 1 t ≡ 0 → stream_text quoted 1 (nodes_of t) ≡ head ++ run ++ tail → length t ≤ length buf
      → book n (head ++ new ++ tail) buf ≡ play n (damaged (written_as (lines_of (head ++ run ++ tail)) (nodes_of t)) head run new tail) 0 buf
  demand-3 t head run new tail buf n b e s l =
      let w = lines-of t (length buf) b e l in
      rw (← s, w.each) (demand (written (nodes_of t)) buf w.reads head run new tail (w.text ∙ s) n)

  -- The same of the calls by offsets: each is one call of the code (`line_at`, `next`).
  pub demand-3-calls : (t head run new tail buf : List ℕ) (n : ℕ) → Bytes t → refusal 1 t ≡ 0 → stream_text quoted 1 (nodes_of t) ≡ head ++ run ++ tail → length t ≤ length buf
      → calls n (head ++ new ++ tail) 0 buf ≡ play n (damaged (written_as (lines_of (head ++ run ++ tail)) (nodes_of t)) head run new tail) 0 buf
  demand-3-calls t head run new tail buf n b e s l = calls-book n (head ++ new ++ tail) buf ∙ demand-3 t head run new tail buf n b e s l

  -- The same of running code. The last hypothesis is what `read_lines` ensures of its n entries on the damaged text: every answer and offset, the
  -- last offset and the last buffer are then these. The buffer after the k-th call is the last one for n = k.
  pub demand-3-ran : (t head run new tail buf : List ℕ) (n : ℕ) (last : List ℕ) (entries : List Called) (at : ℕ) → Bytes t → refusal 1 t ≡ 0 → stream_text quoted 1 (nodes_of t) ≡ head ++ run ++ tail → length t ≤ length buf
      → Ran (book n (head ++ new ++ tail) buf) buf entries at last
      → Ran (play n (damaged (written_as (lines_of (head ++ run ++ tail)) (nodes_of t)) head run new tail) 0 buf) buf entries at last
  demand-3-ran t head run new tail buf n last entries at b e s l r = rw (← demand-3 t head run new tail buf n b e s l) r

  -- Which lines these are: before, joined, the head up to its last LF; behind, joined, the tail from behind its first.
  pub before-and-behind : (t head run tail : List ℕ) → Bytes t → refusal 1 t ≡ 0 → stream_text quoted 1 (nodes_of t) ≡ head ++ run ++ tail
      → (joined_text (before (written_as (lines_of (head ++ run ++ tail)) (nodes_of t)) head) ++ from_last head ≡ head)
      × (lfs (from_last head) ≡ 0)
      × (to_first tail ++ joined_text (behind_run (written_as (lines_of (head ++ run ++ tail)) (nodes_of t)) head run) ≡ tail)
  before-and-behind t head run tail b e s =
      let w = lines-of t (length t) b e (omega arith) in
      let p = before-behind (length t) (written (nodes_of t)) w.reads head run tail (w.text ∙ s) in
      rw (← s, w.each) (p.0, lfs-last head, p.1)

  -- One line for each top-level node: the lines are the nodes' own Lines texts, and as many.
  pub one_line_each : (t : List ℕ) → Bytes t → refusal 1 t ≡ 0
      → (lines_of (stream_text quoted 1 (nodes_of t)) ≡ lines_each quoted (nodes_of t)) × (length (lines_of (stream_text quoted 1 (nodes_of t))) ≡ size (nodes_of t))
  one_line_each t b e =
      let z = through 1 t e in
      let l = lines-each (nodes_of t) (tape_fine t b z.0) z.1 in
      (l, ap length l ∙ lines_size (nodes_of t))

  -- With nothing replaced, each call gives its value as written, then come end marks.
  pub lines_read : (t buf : List ℕ) (n : ℕ) → Bytes t → refusal 1 t ≡ 0 → length t ≤ length buf
      → calls n (stream_text quoted 1 (nodes_of t)) 0 buf ≡ play n (map as_written (written_as (lines_of (stream_text quoted 1 (nodes_of t))) (nodes_of t))) 0 buf
  lines_read t buf n b e l =
      let w = lines-of t (length buf) b e l in
      calls-book n (stream_text quoted 1 (nodes_of t)) buf ∙ rw (w.each, ← w.text) (undamaged (written (nodes_of t)) buf w.reads n)
