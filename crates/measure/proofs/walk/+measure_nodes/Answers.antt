-- `walk::measure_nodes` meets its contract. The invariant: the nodes from `at` on are left, and what was summed up and met of those before. Assumes nothing.
use Prim.Native.Nat.{ℕ, ◌+◌, ◌*◌, ◌<◌, ◌≤◌}
use mathlib.Core.Path.{◌≡◌, refl, sym, ap, subst, ◌∙◌}
use mathlib.Core.List.{List}
use mathlib.Core.Bool.{Bool, false}
use native.Mathlib.Omega.{arith}
use lib.ListN.{length, get_or, replicate}
use Rattle.tape.specs.Bytes.{part}
use Rattle.tape.specs.Fine.{Bytes}
use Rattle.tape.specs.Tape.{kind, name_of, notes_of, scalar_of, name_fault, walk}
use Rattle.tape.specs.CheckSteps.{end_of, scalar_code, name_number_in, frame_of, span_of}
use Rattle.tape.specs.declared.Frame.{Frame}
use Rattle.tape.proofs.Parts.{part-first, trailed}
use Rattle.tape.proofs.CodeFacts.{end_read}
use Rattle.tape.proofs.CodeWalk.{fault_some}
use Rattle.tape.proofs.Turns.{Refused, TreeTurn, name-refused, notes-refused, end_refused, size-refused, span-turn, blob-refused, other-refused, marker_refused}
use Rattle.tape.proofs.check.behind_name.Reads as behind-name
use Rattle.tape.proofs.check.frame_of.Reads as frame-of
use Rattle.tape.proofs.check.is_free.Reads as is_free
use Rattle.tape.proofs.check.is_number.Reads as is_number
use Rattle.tape.proofs.check.name_number.Reads as name-number
use Rattle.tape.proofs.check.size_fault.Reads as size-fault
use Rattle.tape.proofs.check.span.Reads as span
use Rattle.measure.specs.Sums.{leaf_length}
use Rattle.measure.specs.Steps.{quoting, flagged, Grown}
use Rattle.measure.proofs.PartLaws.{blob-told}
use Rattle.measure.proofs.SumSteps.{Flags, flags_are, note-set, number-set, number-left, Noted, notes-told, notes_bad, Fronted, Named, name_there, name-within, name_short, notes_short, head-seen, fronted, noted_here, bare_fronted, Body, Walking, walk_start, walk_deep, sums_fit, ended, Child, end_most, texts_most, children_most, sums_most, refuse, front_most, scalar-within, scalar_short, told_most, scalar_on, span-room, span_missed, sized-code, sized_two, sized_most, sized_on, marker_on, container_refused, container_most, container_on}
use Rattle.measure.proofs.blobs.blob_length.Reads as blob-length
use Rattle.measure.proofs.parts.field_name_length.Reads as field-name-length
use Rattle.measure.proofs.parts.leaf_at.Reads as leaf-at
use Rattle.measure.proofs.parts.notes_at.Reads as notes-at
use Rattle.measure.proofs.parts.untold_length.Reads as untold-length
use Rattle.measure.proofs.walk.add_body.Reads as add_body
use Rattle.measure.proofs.walk.measure_nodes.Reads as own
use Rattle.measure.proofs.walk.+measure_nodes.Lts-measure_nodes as lts
use Rattle.measure.proofs.walk.+measure_nodes.Goals as goal
use Rattle.measure.proofs.walk.+measure_nodes.Goals.{then-name_number, else-name_number, then-tape-q-eq13+in-Some+else-notes-end+then-notes, then-tape-q-eq13+in-Some+else-notes-end+else-notes, else-tape-q-eq13, then-l-eq0, else-l-eq0, then-is_number, else-is_number, then-k-eq9, else-k-eq9+in-Ok}

abbrev callees : ℕ → lts.Claims
callees t = (
  behind-name.Asked,
  behind-name.Learnt,
  field-name-length.Asked,
  field-name-length.Learnt,
  name-number.Asked,
  name-number.Learnt,
  notes-at.Asked,
  notes-at.Learnt,
  leaf-at.Asked,
  leaf-at.Learnt,
  size-fault.Asked,
  size-fault.Learnt,
  untold-length.Asked,
  untold-length.Learnt,
  is_number.Asked,
  is_number.Learnt,
  span.Asked,
  span.Learnt,
  frame-of.Asked,
  frame-of.Learnt,
  goal.measure_nodes-below t,
  own.Post,
  blob-length.Asked,
  blob-length.Learnt,
  is_free.Asked,
  is_free.Learnt,
  add_body.Asked,
  add_body.Learnt,
)

-- ---- a body, a child, a child behind its name or where there is none

module _ {quoted : Bool} {s : List ℕ} {from e : ℕ} {k : Frame} {d : ℕ} {sums₀ seen₀ sums seen : List ℕ} {at n c : ℕ} (w : Walking quoted s from e k d sums₀ seen₀ sums seen at n c)
    (b : Bytes s) (t : e + 8 ≤ length s) (m : length s ≤ 1048576) (o : d ≡ 0 → ⊥) (l : d ≤ 65) (g : Grown from (replicate 4 0) sums₀) where
  body : Body s from e d sums₀
  body = record { bytes = b; trails = t; most = m; opened = o; low = l; before = g }

  child : at < e → Child quoted s from e k d sums₀ seen₀ sums seen at n c
  child h = record { body = body; walking = w; left = h }

module _ {quoted : Bool} {s : List ℕ} {from e : ℕ} {k : Frame} {d : ℕ} {sums₀ seen₀ sums seen : List ℕ} {at n c : ℕ} (v : Child quoted s from e k d sums₀ seen₀ sums seen at n c) where
  named : (q : ℕ) → q ≡ end_of name_fault at e (name_of k (part s at e)) → (q ≡ e → ⊥) → Named d k s at e q
  named q z n = record { opened = v.body.opened; left = v.left; inside = trailed v.body.trails; bytes = v.body.bytes; name = end_read name_fault at e _ q z n }

  -- an answer that is a problem
  fails : {r g : ℕ} → r ≡ g → Refused d k s at e g → r ≡ (walk d k (part s from e)).1
  fails q u = refuse v q u

before-end : {d : ℕ} {k : Frame} {s : List ℕ} {at e q : ℕ} → Named d k s at e q → (q ≡ e → ⊥) → q < e
before-end u n = let w = (name-within u).1 in omega arith

-- ---- a child behind its front

abbrev At-Joined-tape-q-eq13 : ℕ → Type 0
At-Joined-tape-q-eq13 t = lts.Joined4 (callees t) (goal.measure_nodes-at t) own.Post goal.the-measure_nodes-invariant-loop-at goal.the-measure_nodes-decreases-loop-at (goal.the-clauses-measure_nodes t)

module _ (t : ℕ) (c : At-Joined-tape-q-eq13 t) (b : Bytes c.args.tape.now) where
  abbrev quoted : Bool
  quoted = quoting c.args.quotes

  abbrev tape : List ℕ
  tape = c.args.tape.now

  abbrev end : ℕ
  end = c.args.end

  abbrev frame : Frame
  frame = c.args.frame

  abbrev depth : ℕ
  depth = c.args.depth

  abbrev place : ℕ
  place = c.loop-at.at

  abbrev seen : List ℕ
  seen = c.loop-at.seen

  abbrev behind : ℕ
  behind = c.behind_name-q.result

  abbrev value : ℕ
  value = c.if-tape-q-eq13.p

  abbrev value-part : List ℕ
  value-part = part tape value end

  this : Child quoted tape c.args.from end frame depth c.args.sums.now c.args.seen.now c.loop-at.sums seen place c.loop-at.n c.loop-at.count
  this = child c.loop-at.invariant b c.requires.end_in_bounds c.requires.tape_len_bound c.if-depth-eq0.false c.requires.depth_bound c.requires.grown_2 c.loop-at-test.true

  with-name : Named depth frame tape place end behind
  with-name = named this behind c.behind_name-q.ensures c.if-q-end.false

  -- what is met with the name
  name-met : Flags c.if-name_number.seen (get_or seen 0 0) (flagged (get_or seen 1 0) (name_number_in frame (part tape place end)))
  name-met =
      let f = flags_are c.loop-at.invariant.met.long in
      let n = c.name_number.ensures in
      elim c.if-name_number.branch [
        | then-name_number w ↦ number-set f (sym n ∙ w.if-name_number.true) w.seen-is
        | else-name_number w ↦ number-left f (sym n ∙ w.if-name_number.false) w.seen-is
      ]

  headed : Fronted quoted frame tape place end c.loop-at.n seen value c.if-tape-q-eq13.n c.if-tape-q-eq13.seen
  headed =
      let a = c.field_name_length-n.ensures in
      let l = with-name in
      let more = before-end l c.if-q-end.false in
      elim c.if-tape-q-eq13.branch [
        | then-tape-q-eq13+in-Some+else-notes-end+then-notes w ↦ (
            let o : Noted (part tape behind end) behind w.in-Some.notes.end w.in-Some.notes.numbered = notes-told _ _ _ _ w.in-Some.ensures.front in
            let x = w.n-is in
            let y = w.in-Some.ensures.length in
            let g = note-set c.if-name_number.seen name-met.long (noted_here l o more w.if-tape-q-eq13.true) in
            fronted l o quoted w.p-is w.if-notes-end.false a (omega arith) name-met (number-set g w.if-notes.true w.seen-is))
        | then-tape-q-eq13+in-Some+else-notes-end+else-notes w ↦ (
            let o : Noted (part tape behind end) behind w.in-Some.notes.end w.in-Some.notes.numbered = notes-told _ _ _ _ w.in-Some.ensures.front in
            let x = w.n-is in
            let y = w.in-Some.ensures.length in
            let g = note-set c.if-name_number.seen name-met.long (noted_here l o more w.if-tape-q-eq13.true) in
            fronted l o quoted w.p-is w.if-notes-end.false a (omega arith) name-met (number-left g w.if-notes.false w.seen-is))
        | else-tape-q-eq13 w ↦ bare_fronted l quoted w.p-is more w.if-tape-q-eq13.false a w.n-is name-met w.seen-is
      ]

  kind-is : kind value-part ≡ get_or tape value 0
  kind-is = part-first tape value end headed.more

  -- ---- a scalar

  module _ (size n : ℕ) (told : size ≡ scalar_code (scalar_of value-part)) (text : 2 ≤ size → 0 < n → n ≡ leaf_length quoted value-part) (two : 2 ≤ size) where
    leaf_most : (n + c.if-tape-q-eq13.n ≤ 200 * (value + size)) × (value + size ≤ end)
    leaf_most = let m = told_most this headed told two n text in (omega arith, scalar-within this headed told two)

  -- ---- a container

  module _ (size : ℕ) (nine : 9 ≤ get_or tape value 0) (low : get_or tape value 0 < 13) (tall : get_or tape value 0 ≡ 9 → ⊥) (told : size ≡ span_of value-part) (some : size ≡ 0 → ⊥) where
    tree : TreeTurn depth frame tape place end (frame_of (kind value-part)) (value + 5) (value + size)
    tree =
        let f = kind-is in
        span-turn depth frame tape place end this.body.opened this.left (trailed this.body.trails) headed.head (omega arith) (omega arith) size told some

    opens : (k : Frame) → k ≡ frame_of (get_or tape value 0) → TreeTurn depth frame tape place end k (value + 5) (value + size)
    opens k e = subst (λ (k : Frame). TreeTurn depth frame tape place end k (value + 5) (value + size)) (ap frame_of kind-is ∙ sym e) tree

-- ---- the needs

pub returns-then-depth-eq0-clause-fault : goal.returns-then-depth-eq0-clause-fault
returns-then-depth-eq0-clause-fault t c =
    let a = c.args in
    rw c.if-depth-eq0.true (sym (walk_deep a.frame (part a.tape.now a.from a.end)))

pub loop-at-init : goal.loop-at-init
loop-at-init t c =
    walk_start c.requires.from_le_end c.requires.sums_len c.requires.seen_len

pub returns-then-q-end-clause-fault : goal.returns-then-q-end-clause-fault
returns-then-q-end-clause-fault t c =
    let a = c.args in
    let v = child c.loop-at.invariant (λ i. (c.type_inv.tape i).fits) c.requires.end_in_bounds c.requires.tape_len_bound c.if-depth-eq0.false c.requires.depth_bound c.requires.grown_2 c.loop-at-test.true in
    fails v refl (name-refused a.depth a.frame a.tape.now c.loop-at.at a.end v.body.opened v.left (trailed v.body.trails) false false _ c.behind_name-q.ensures c.if-q-end.true)

pub field_name_length-n-requires-clause-end_value : goal.field_name_length-n-requires-clause-end_value
field_name_length-n-requires-clause-end_value t c =
    let v = child c.loop-at.invariant (λ i. (c.type_inv.tape i).fits) c.requires.end_in_bounds c.requires.tape_len_bound c.if-depth-eq0.false c.requires.depth_bound c.requires.grown_2 c.loop-at-test.true in
    let u = named v _ c.behind_name-q.ensures c.if-q-end.false in
    name_there u

pub overflow_add-n : goal.overflow_add-n
overflow_add-n t c =
    let q = quoting c.args.quotes in
    let v = child c.loop-at.invariant (λ i. (c.type_inv.tape i).fits) c.requires.end_in_bounds c.requires.tape_len_bound c.if-depth-eq0.false c.requires.depth_bound c.requires.grown_2 c.loop-at-test.true in
    let u = named v _ c.behind_name-q.ensures c.if-q-end.false in
    record { fits = omega (arith, texts_most v, end_most v, name_short u q, name-within u, c.field_name_length-n.ensures) }

pub bounds-tape-q : goal.bounds-tape-q
bounds-tape-q t c =
    let v = child c.loop-at.invariant (λ i. (c.type_inv.tape i).fits) c.requires.end_in_bounds c.requires.tape_len_bound c.if-depth-eq0.false c.requires.depth_bound c.requires.grown_2 c.loop-at-test.true in
    let u = named v _ c.behind_name-q.ensures c.if-q-end.false in
    let m = before-end u c.if-q-end.false in
    omega arith

pub notes_at-requires-clause-at_lt_end : goal.notes_at-requires-clause-at_lt_end
notes_at-requires-clause-at_lt_end t c =
    let v = child c.loop-at.invariant (λ i. (c.type_inv.tape i).fits) c.requires.end_in_bounds c.requires.tape_len_bound c.if-depth-eq0.false c.requires.depth_bound c.requires.grown_2 c.loop-at-test.true in
    let u = named v _ c.behind_name-q.ensures c.if-q-end.false in
    before-end u c.if-q-end.false

pub returns-in_default-clause-fault : goal.returns-in_default-clause-fault
returns-in_default-clause-fault t c =
    let a = c.args in
    let v = child c.loop-at.invariant (λ i. (c.type_inv.tape i).fits) c.requires.end_in_bounds c.requires.tape_len_bound c.if-depth-eq0.false c.requires.depth_bound c.requires.grown_2 c.loop-at-test.true in
    let u = named v _ c.behind_name-q.ensures c.if-q-end.false in
    let q = c.behind_name-q.result in
    fails v refl (notes-refused a.depth a.frame a.tape.now c.loop-at.at a.end v.body.opened v.left (trailed v.body.trails) false false q u.name
    (notes_bad q false (name_number_in a.frame (part a.tape.now c.loop-at.at a.end)) (notes_of (part a.tape.now q a.end)) c.in_default.ensures.front))

pub returns-then-notes-end-clause-fault : goal.returns-then-notes-end-clause-fault
returns-then-notes-end-clause-fault t c =
    let a = c.args in
    let v = child c.loop-at.invariant (λ i. (c.type_inv.tape i).fits) c.requires.end_in_bounds c.requires.tape_len_bound c.if-depth-eq0.false c.requires.depth_bound c.requires.grown_2 c.loop-at-test.true in
    let u = named v _ c.behind_name-q.ensures c.if-q-end.false in
    let o = notes-told _ _ _ _ c.in-Some.ensures.front in
    fails v refl (end_refused a.depth a.frame a.tape.now c.loop-at.at a.end v.body.opened v.left (trailed v.body.trails) (head-seen u o) c.if-notes-end.true)

pub overflow_add-n-then-tape-q-eq13 : goal.overflow_add-n-then-tape-q-eq13
overflow_add-n-then-tape-q-eq13 t c =
    let q = quoting c.args.quotes in
    let v = child c.loop-at.invariant (λ i. (c.type_inv.tape i).fits) c.requires.end_in_bounds c.requires.tape_len_bound c.if-depth-eq0.false c.requires.depth_bound c.requires.grown_2 c.loop-at-test.true in
    let u = named v _ c.behind_name-q.ensures c.if-q-end.false in
    let o = notes-told _ _ _ _ c.in-Some.ensures.front in
    let y = c.in-Some.ensures.length in
    record { fits = omega (arith, texts_most v, end_most v, name_short u q, name-within u, notes_short u o q, o.read.place, (head-seen u o).within, c.field_name_length-n.ensures, y) }

pub overflow_add-count : goal.overflow_add-count
overflow_add-count t c =
    let v = child c.loop-at.invariant (λ i. (c.type_inv.tape i).fits) c.requires.end_in_bounds c.requires.tape_len_bound c.if-depth-eq0.false c.requires.depth_bound c.requires.grown_2 c.loop-at-test.true in
    record { fits = omega (arith, children_most v, end_most v, v.left) }

pub bounds-tape-p : goal.bounds-tape-p
bounds-tape-p t c =
    let b : Bytes c.args.tape.now = (λ i. (c.type_inv.tape i).fits) in
    let j : At-Joined-tape-q-eq13 t = c.before.before in
    let h = headed t j b in
    let m = h.more in
    omega arith

pub leaf_at-l-requires-clause-at_lt_end : goal.leaf_at-l-requires-clause-at_lt_end
leaf_at-l-requires-clause-at_lt_end t c =
    let b : Bytes c.args.tape.now = (λ i. (c.type_inv.tape i).fits) in
    let j : At-Joined-tape-q-eq13 t = c.before.before.before in
    let h = headed t j b in
    h.more

pub returns-then-l-lt2-clause-fault : goal.returns-then-l-lt2-clause-fault
returns-then-l-lt2-clause-fault t c =
    let b : Bytes c.args.tape.now = (λ i. (c.type_inv.tape i).fits) in
    let j : At-Joined-tape-q-eq13 t = c.before.before.before.before.before.before.before in
    let a = c.args in
    let v = this t j b in
    let h = headed t j b in
    let f = kind-is t j b in
    let k = c.if-k-lt9.true in
    fails v c.size_fault.ensures (size-refused a.depth a.frame a.tape.now c.loop-at.at a.end v.body.opened v.left (trailed v.body.trails) h.head (omega arith) _ c.leaf_at-l.ensures.size c.if-l-lt2.true)

pub overflow_add-n-then-k-lt9 : goal.overflow_add-n-then-k-lt9
overflow_add-n-then-k-lt9 t c =
    let b : Bytes c.args.tape.now = (λ i. (c.type_inv.tape i).fits) in
    let j : At-Joined-tape-q-eq13 t = c.before.before.before.before.before.before.before.before in
    let v = this t j b in
    let m = leaf_most t j b c.leaf_at-l.result.size c.leaf_at-l.result.length c.leaf_at-l.ensures.size c.leaf_at-l.ensures.length c.if-l-lt2.false in
    record { fits = omega (arith, m.0, m.1, end_most v) }

pub untold_length-n-requires-clause-at_le_end : goal.untold_length-n-requires-clause-at_le_end
untold_length-n-requires-clause-at_le_end t c =
    let b : Bytes c.args.tape.now = (λ i. (c.type_inv.tape i).fits) in
    let j : At-Joined-tape-q-eq13 t = c.before.before.before.before.before.before.before.before.before.before in
    let h = headed t j b in
    omega (arith, h.more)

pub overflow_add-n-then-l-eq0 : goal.overflow_add-n-then-l-eq0
overflow_add-n-then-l-eq0 t c =
    let b : Bytes c.args.tape.now = (λ i. (c.type_inv.tape i).fits) in
    let j : At-Joined-tape-q-eq13 t = c.before.before.before.before.before.before.before.before.before.before.before in
    let v = this t j b in
    let h = headed t j b in
    let l = c.leaf_at-l.ensures.size in
    record { fits = omega (arith, front_most v h, scalar_short v h l c.if-l-lt2.false, scalar-within v h l c.if-l-lt2.false, end_most v, c.if-l-eq0.true, c.untold_length-n.ensures) }

pub is_number-requires-clause-at_lt_end : goal.is_number-requires-clause-at_lt_end
is_number-requires-clause-at_lt_end t c =
    let b : Bytes c.args.tape.now = (λ i. (c.type_inv.tape i).fits) in
    let j : At-Joined-tape-q-eq13 t = c.before.before.before.before.before.before.before.before.before.before in
    let h = headed t j b in
    h.more

pub overflow_add-at : goal.overflow_add-at
overflow_add-at t c =
    let b : Bytes c.args.tape.now = (λ i. (c.type_inv.tape i).fits) in
    let j : At-Joined-tape-q-eq13 t = c.before.before.before.before.before.before.before.before.before.before.before.before.before.before in
    let v = this t j b in
    let m = leaf_most t j b c.leaf_at-l.result.size c.leaf_at-l.result.length c.leaf_at-l.ensures.size c.leaf_at-l.ensures.length c.if-l-lt2.false in
    record { fits = omega (arith, m.1, end_most v) }

pub loop-at-smaller-then-k-lt9 : goal.loop-at-smaller-then-k-lt9
loop-at-smaller-then-k-lt9 t c =
    let b : Bytes c.args.tape.now = (λ i. (c.type_inv.tape i).fits) in
    let j : At-Joined-tape-q-eq13 t = c.before.before.before.before.before.before.before.before.before.before.before.before.before.before in
    let h = headed t j b in
    let m = leaf_most t j b c.leaf_at-l.result.size c.leaf_at-l.result.length c.leaf_at-l.ensures.size c.leaf_at-l.ensures.length c.if-l-lt2.false in
    omega (arith, m.1, h.head.behind, c.if-l-lt2.false)

pub loop-at-preserved-then-k-lt9 : goal.loop-at-preserved-then-k-lt9
loop-at-preserved-then-k-lt9 t c =
    let b : Bytes c.args.tape.now = (λ i. (c.type_inv.tape i).fits) in
    let j : At-Joined-tape-q-eq13 t = c.before.before.before.before.before.before.before.before.before.before.before.before.before.before in
    let v = this t j b in
    let h = headed t j b in
    let e = c.leaf_at-l.ensures in
    let x : c.if-l-eq0.n ≡ c.if-tape-q-eq13.n + leaf_length (quoted t j b) (value-part t j b) =
    elim c.if-l-eq0.branch [
      | then-l-eq0 w ↦ (let z = w.if-l-eq0.true in let r = w.untold_length-n.ensures in let n = w.n-is in omega arith)
      | else-l-eq0 w ↦ (let z = w.if-l-eq0.false in let l = e.length c.if-l-lt2.false (omega arith) in let n = w.n-is in omega arith)
    ] in
    let g = flags_are h.flags.long in
    let n = c.is_number.ensures in
    scalar_on v h e.size c.if-l-lt2.false (λ i. let k = c.if-k-lt9.true in omega arith) x
    (elim c.if-is_number.branch [
      | then-is_number w ↦ number-set g (sym n ∙ w.if-is_number.true) w.seen-is
      | else-is_number w ↦ number-left g (sym n ∙ w.if-is_number.false) w.seen-is
    ])

pub span-size-requires-clause-at_le_end : goal.span-size-requires-clause-at_le_end
span-size-requires-clause-at_le_end t c =
    let b : Bytes c.args.tape.now = (λ i. (c.type_inv.tape i).fits) in
    let j : At-Joined-tape-q-eq13 t = c.before.before.before.before in
    let h = headed t j b in
    omega (arith, h.more)

pub returns-then-size-eq0-clause-fault : goal.returns-then-size-eq0-clause-fault
returns-then-size-eq0-clause-fault t c =
    let b : Bytes c.args.tape.now = (λ i. (c.type_inv.tape i).fits) in
    let j : At-Joined-tape-q-eq13 t = c.before.before.before.before.before.before in
    let v = this t j b in
    let h = headed t j b in
    fails v refl (span_missed v h c.if-k-lt9.false c.if-k-lt13.true (sym c.if-size-eq0.true ∙ c.span-size.ensures))

pub untold_length-n-requires-then-k-eq9-clause-at_le_end : goal.untold_length-n-requires-then-k-eq9-clause-at_le_end
untold_length-n-requires-then-k-eq9-clause-at_le_end t c =
    let b : Bytes c.args.tape.now = (λ i. (c.type_inv.tape i).fits) in
    let j : At-Joined-tape-q-eq13 t = c.before.before.before.before.before.before.before in
    let h = headed t j b in
    omega (arith, h.more)

pub untold_length-n-requires-then-k-eq9-clause-bound : goal.untold_length-n-requires-then-k-eq9-clause-bound
untold_length-n-requires-then-k-eq9-clause-bound t c =
    let b : Bytes c.args.tape.now = (λ i. (c.type_inv.tape i).fits) in
    let j : At-Joined-tape-q-eq13 t = c.before.before.before.before.before.before.before in
    let v = this t j b in
    let h = headed t j b in
    let z = c.if-k-eq9.true in
    let s = sized-code v h (omega arith) (λ i. omega arith) c.span-size.ensures c.if-size-eq0.false in
    let y = sized_two v h (omega arith) (λ i. omega arith) c.span-size.ensures c.if-size-eq0.false in
    omega arith

pub untold_length-n-requires-then-k-eq9-clause-at_value : goal.untold_length-n-requires-then-k-eq9-clause-at_value
untold_length-n-requires-then-k-eq9-clause-at_value t c =
    rw c.if-k-eq9.true refl

pub overflow_add-n-then-k-eq9 : goal.overflow_add-n-then-k-eq9
overflow_add-n-then-k-eq9 t c =
    let b : Bytes c.args.tape.now = (λ i. (c.type_inv.tape i).fits) in
    let j : At-Joined-tape-q-eq13 t = c.before.before.before.before.before.before.before.before.before in
    let v = this t j b in
    let h = headed t j b in
    let z = c.if-k-eq9.true in
    let m = sized_most v h (omega arith) (λ i. omega arith) c.span-size.ensures c.if-size-eq0.false in
    record { fits = omega (arith, m, (span-room v h c.span-size.ensures c.if-size-eq0.false).0, (span-room v h c.span-size.ensures c.if-size-eq0.false).1, end_most v, c.untold_length-n-then-k-eq9.ensures) }

pub overflow_add-p : goal.overflow_add-p
overflow_add-p t c =
    let b : Bytes c.args.tape.now = (λ i. (c.type_inv.tape i).fits) in
    let j : At-Joined-tape-q-eq13 t = c.before.before.before.before.before.before.before.before in
    let v = this t j b in
    let u = tree t j b c.span-size.result c.if-k-lt9.false c.if-k-lt13.true c.if-k-eq9.false c.span-size.ensures c.if-size-eq0.false in
    record { fits = omega (arith, u.inner, u.within, end_most v) }

pub overflow_add-p-else-k-eq9 : goal.overflow_add-p-else-k-eq9
overflow_add-p-else-k-eq9 t c =
    let b : Bytes c.args.tape.now = (λ i. (c.type_inv.tape i).fits) in
    let j : At-Joined-tape-q-eq13 t = c.before.before.before.before.before.before.before.before in
    let v = this t j b in
    let u = tree t j b c.span-size.result c.if-k-lt9.false c.if-k-lt13.true c.if-k-eq9.false c.span-size.ensures c.if-size-eq0.false in
    record { fits = omega (arith, u.within, end_most v) }

pub overflow_sub-depth : goal.overflow_sub-depth
overflow_sub-depth t c =
    let o = c.if-depth-eq0.false in omega arith

pub measure_nodes-requires : goal.measure_nodes-requires
measure_nodes-requires t c =
    let b : Bytes c.args.tape.now = (λ i. (c.type_inv.tape i).fits) in
    let j : At-Joined-tape-q-eq13 t = c.before.before.before.before.before.before.before.before.before.before.before in
    let v = this t j b in
    let h = headed t j b in
    let u = opens t j b c.span-size.result c.if-k-lt9.false c.if-k-lt13.true c.if-k-eq9.false c.span-size.ensures c.if-size-eq0.false _ c.frame_of.ensures in
    let w = u.within in
    let z = c.decreases in
    let o = v.body.opened in
    let d = v.body.low in
    let r = v.body.trails in
    let i = h.head.behind in
    (omega arith, (u.inner, (omega arith, (v.body.most, (omega arith, (v.walking.left.long, (h.flags.long, (c.requires.quotes_value, sums_most v (omega arith)))))))))

pub returns-in-Err-clause-fault : goal.returns-in-Err-clause-fault
returns-in-Err-clause-fault t c =
    let b : Bytes c.args.tape.now = (λ i. (c.type_inv.tape i).fits) in
    let j : At-Joined-tape-q-eq13 t = c.before.before.before.before.before.before.before.before.before.before.before.before.before in
    let v = this t j b in
    let h = headed t j b in
    let r = c.in-Err.ensures.fault in
    fails v r (container_refused v h (opens t j b c.span-size.result c.if-k-lt9.false c.if-k-lt13.true c.if-k-eq9.false c.span-size.ensures c.if-size-eq0.false _ c.frame_of.ensures) (λ z. fault_some c.in-Err.fault (r ∙ z)))

pub overflow_add-n-else-k-eq9 : goal.overflow_add-n-else-k-eq9
overflow_add-n-else-k-eq9 t c =
    let b : Bytes c.args.tape.now = (λ i. (c.type_inv.tape i).fits) in
    let j : At-Joined-tape-q-eq13 t = c.before.before.before.before.before.before.before.before.before.before.before.before.before.before in
    let v = this t j b in
    let h = headed t j b in
    record { fits = omega (arith, front_most v h, end_most v, h.more) }

pub overflow_add-sums : goal.overflow_add-sums
overflow_add-sums t c =
    let d = c.requires.depth_bound in record { fits = omega arith }

pub overflow_add-sums-else-k-eq9 : goal.overflow_add-sums-else-k-eq9
overflow_add-sums-else-k-eq9 t c =
    let b : Bytes c.args.tape.now = (λ i. (c.type_inv.tape i).fits) in
    let j : At-Joined-tape-q-eq13 t = c.before.before.before.before.before.before.before.before.before.before.before.before.before.before.before.before in
    let v = this t j b in
    let h = headed t j b in
    let u = opens t j b c.span-size.result c.if-k-lt9.false c.if-k-lt13.true c.if-k-eq9.false c.span-size.ensures c.if-size-eq0.false _ c.frame_of.ensures in
    let g = container_most v h u (c.in-Ok.ensures.grown) in
    record { fits = omega (arith, g, u.within, end_most v, v.body.low) }

pub overflow_add-at-then-k-lt13 : goal.overflow_add-at-then-k-lt13
overflow_add-at-then-k-lt13 t c =
    let b : Bytes c.args.tape.now = (λ i. (c.type_inv.tape i).fits) in
    let j : At-Joined-tape-q-eq13 t = c.before.before.before.before.before.before.before.before in
    let v = this t j b in
    let h = headed t j b in
    let r = span-room v h c.span-size.ensures c.if-size-eq0.false in
    record { fits = omega (arith, r.1, end_most v) }

pub loop-at-smaller-then-k-lt13 : goal.loop-at-smaller-then-k-lt13
loop-at-smaller-then-k-lt13 t c =
    let b : Bytes c.args.tape.now = (λ i. (c.type_inv.tape i).fits) in
    let j : At-Joined-tape-q-eq13 t = c.before.before.before.before.before.before.before.before in
    let v = this t j b in
    let h = headed t j b in
    let r = span-room v h c.span-size.ensures c.if-size-eq0.false in
    omega (arith, r.0, r.1, h.head.behind)

pub loop-at-preserved-then-k-lt13 : goal.loop-at-preserved-then-k-lt13
loop-at-preserved-then-k-lt13 t c =
    let b : Bytes c.args.tape.now = (λ i. (c.type_inv.tape i).fits) in
    let j : At-Joined-tape-q-eq13 t = c.before.before.before.before.before.before.before.before in
    let v = this t j b in
    let h = headed t j b in
    elim c.if-k-eq9.branch [
      | then-k-eq9 w ↦ (
          let g = w.if-k-eq9.true in
          let r = w.untold_length-n-then-k-eq9.ensures in
          let n = w.n-is in
          rw (w.seen-is, w.sums-is) (sized_on v h (omega arith) (λ i. omega arith) c.span-size.ensures c.if-size-eq0.false (omega arith)))
      | else-k-eq9+in-Ok w ↦ (
          let u = opens t j b c.span-size.result c.if-k-lt9.false c.if-k-lt13.true w.if-k-eq9.false c.span-size.ensures c.if-size-eq0.false _ w.frame_of.ensures in
          let r = w.in-Ok.ensures in
          rw (w.n-is, w.seen-is, w.sums-is) (container_on v h u w.frame_of.ensures (sym r.fault) r.sums r.seen r.grown))
    ]

pub span-size-requires-then-k-eq15-clause-at_le_end : goal.span-size-requires-then-k-eq15-clause-at_le_end
span-size-requires-then-k-eq15-clause-at_le_end t c =
    let b : Bytes c.args.tape.now = (λ i. (c.type_inv.tape i).fits) in
    let j : At-Joined-tape-q-eq13 t = c.before.before.before.before.before in
    let h = headed t j b in
    omega (arith, h.more)

pub returns-then-size-eq0-2-clause-fault : goal.returns-then-size-eq0-2-clause-fault
returns-then-size-eq0-2-clause-fault t c =
    let b : Bytes c.args.tape.now = (λ i. (c.type_inv.tape i).fits) in
    let j : At-Joined-tape-q-eq13 t = c.before.before.before.before.before.before.before in
    let a = c.args in
    let v = this t j b in
    let h = headed t j b in
    fails v refl (blob-refused a.depth a.frame a.tape.now c.loop-at.at a.end v.body.opened v.left (trailed v.body.trails) h.head (kind-is t j b ∙ c.if-k-eq15.true) (sym c.if-size-eq0-2.true ∙ c.span-size-then-k-eq15.ensures))

pub overflow_sub-size : goal.overflow_sub-size
overflow_sub-size t c =
    let b : Bytes c.args.tape.now = (λ i. (c.type_inv.tape i).fits) in
    let j : At-Joined-tape-q-eq13 t = c.before.before.before.before.before.before.before in
    let v = this t j b in
    let h = headed t j b in
    let r = span-room v h c.span-size-then-k-eq15.ensures c.if-size-eq0-2.false in
    r.0

pub blob_length-n-requires : goal.blob_length-n-requires
blob_length-n-requires t c =
    let b : Bytes c.args.tape.now = (λ i. (c.type_inv.tape i).fits) in
    let j : At-Joined-tape-q-eq13 t = c.before.before.before.before.before.before.before in
    let v = this t j b in
    let h = headed t j b in
    let r = span-room v h c.span-size-then-k-eq15.ensures c.if-size-eq0-2.false in
    omega (arith, r.1, end_most v)

pub overflow_add-n-then-k-eq15 : goal.overflow_add-n-then-k-eq15
overflow_add-n-then-k-eq15 t c =
    let b : Bytes c.args.tape.now = (λ i. (c.type_inv.tape i).fits) in
    let j : At-Joined-tape-q-eq13 t = c.before.before.before.before.before.before.before.before.before in
    let v = this t j b in
    let h = headed t j b in
    let r = span-room v h c.span-size-then-k-eq15.ensures c.if-size-eq0-2.false in
    let i = c.if-k-eq15.true in
    let x = blob-told (quoted t j b) (value-part t j b) (kind-is t j b ∙ i) _ _ c.span-size-then-k-eq15.ensures c.if-size-eq0-2.false c.blob_length-n.ensures in
    let m = sized_most v h (omega arith) (λ y. i) c.span-size-then-k-eq15.ensures c.if-size-eq0-2.false in
    record { fits = omega (arith, m, r.1, end_most v, x) }

pub overflow_add-at-then-k-eq15 : goal.overflow_add-at-then-k-eq15
overflow_add-at-then-k-eq15 t c =
    let b : Bytes c.args.tape.now = (λ i. (c.type_inv.tape i).fits) in
    let j : At-Joined-tape-q-eq13 t = c.before.before.before.before.before.before.before.before.before.before in
    let v = this t j b in
    let h = headed t j b in
    let r = span-room v h c.span-size-then-k-eq15.ensures c.if-size-eq0-2.false in
    record { fits = omega (arith, r.1, end_most v) }

pub loop-at-smaller-then-k-eq15 : goal.loop-at-smaller-then-k-eq15
loop-at-smaller-then-k-eq15 t c =
    let b : Bytes c.args.tape.now = (λ i. (c.type_inv.tape i).fits) in
    let j : At-Joined-tape-q-eq13 t = c.before.before.before.before.before.before.before.before.before.before in
    let v = this t j b in
    let h = headed t j b in
    let r = span-room v h c.span-size-then-k-eq15.ensures c.if-size-eq0-2.false in
    omega (arith, r.0, r.1, h.head.behind)

pub loop-at-preserved-then-k-eq15 : goal.loop-at-preserved-then-k-eq15
loop-at-preserved-then-k-eq15 t c =
    let b : Bytes c.args.tape.now = (λ i. (c.type_inv.tape i).fits) in
    let j : At-Joined-tape-q-eq13 t = c.before.before.before.before.before.before.before.before.before.before in
    let v = this t j b in
    let h = headed t j b in
    let i = c.if-k-eq15.true in
    let x = blob-told (quoted t j b) (value-part t j b) (kind-is t j b ∙ i) _ _ c.span-size-then-k-eq15.ensures c.if-size-eq0-2.false c.blob_length-n.ensures in
    sized_on v h (omega arith) (λ y. i) c.span-size-then-k-eq15.ensures c.if-size-eq0-2.false (omega arith)

pub returns-then-k-ne14-clause-fault : goal.returns-then-k-ne14-clause-fault
returns-then-k-ne14-clause-fault t c =
    let b : Bytes c.args.tape.now = (λ i. (c.type_inv.tape i).fits) in
    let j : At-Joined-tape-q-eq13 t = c.before.before.before.before.before.before in
    let a = c.args in
    let v = this t j b in
    let h = headed t j b in
    let f = kind-is t j b in
    let k = c.if-k-lt13.false in
    fails v refl (other-refused a.depth a.frame a.tape.now c.loop-at.at a.end v.body.opened v.left (trailed v.body.trails) h.head (omega arith) (λ e. c.if-k-ne14.true (sym f ∙ e)) (λ e. c.if-k-eq15.false (sym f ∙ e)))

pub overflow_add-n-then-is_free : goal.overflow_add-n-then-is_free
overflow_add-n-then-is_free t c =
    let b : Bytes c.args.tape.now = (λ i. (c.type_inv.tape i).fits) in
    let j : At-Joined-tape-q-eq13 t = c.before.before.before.before.before.before.before.before.before in
    let v = this t j b in
    let h = headed t j b in
    record { fits = omega (arith, front_most v h, end_most v, h.more) }

pub overflow_add-at-then-is_free : goal.overflow_add-at-then-is_free
overflow_add-at-then-is_free t c =
    let b : Bytes c.args.tape.now = (λ i. (c.type_inv.tape i).fits) in
    let j : At-Joined-tape-q-eq13 t = c.before.before.before.before.before.before.before.before.before.before in
    let v = this t j b in
    let h = headed t j b in
    record { fits = omega (arith, end_most v, h.more) }

pub loop-at-smaller : goal.loop-at-smaller
loop-at-smaller t c =
    let b : Bytes c.args.tape.now = (λ i. (c.type_inv.tape i).fits) in
    let j : At-Joined-tape-q-eq13 t = c.before.before.before.before.before.before.before.before.before.before in
    let h = headed t j b in
    omega (arith, h.more, h.head.behind)

pub loop-at-preserved : goal.loop-at-preserved
loop-at-preserved t c =
    let b : Bytes c.args.tape.now = (λ i. (c.type_inv.tape i).fits) in
    let j : At-Joined-tape-q-eq13 t = c.before.before.before.before.before.before.before.before.before.before in
    let v = this t j b in
    let h = headed t j b in
    marker_on v h c.if-k-ne14.false (sym c.is_free.ensures ∙ c.if-is_free.true)

pub returns-else-is_free-clause-fault : goal.returns-else-is_free-clause-fault
returns-else-is_free-clause-fault t c =
    let b : Bytes c.args.tape.now = (λ i. (c.type_inv.tape i).fits) in
    let j : At-Joined-tape-q-eq13 t = c.before.before.before.before.before.before.before.before in
    let a = c.args in
    let v = this t j b in
    let h = headed t j b in
    fails v refl (marker_refused a.depth a.frame a.tape.now c.loop-at.at a.end v.body.opened v.left (trailed v.body.trails) h.head (kind-is t j b ∙ c.if-k-ne14.false) (sym c.is_free.ensures ∙ c.if-is_free.false))

pub add_body-requires-clause-sums_fit : goal.add_body-requires-clause-sums_fit
add_body-requires-clause-sums_fit t c =
    sums_fit (body c.loop-at.invariant (λ i. (c.type_inv.tape i).fits) c.requires.end_in_bounds c.requires.tape_len_bound c.if-depth-eq0.false c.requires.depth_bound c.requires.grown_2) c.loop-at.invariant

pub add_body-requires-clause-sums_len : goal.add_body-requires-clause-sums_len
add_body-requires-clause-sums_len t c =
    c.loop-at.invariant.left.long

pub returns : goal.returns
returns t c =
    let e = ended (body c.loop-at.invariant (λ i. (c.type_inv.tape i).fits) c.requires.end_in_bounds c.requires.tape_len_bound c.if-depth-eq0.false c.requires.depth_bound c.requires.grown_2) c.loop-at.invariant c.loop-at-test.false _ c.add_body.ensures in
    record { fault = e.0; sums = e.1; seen = e.2; grown = e.3 }
