-- `value_writer::write_nodes`, `value_writer::write_value` and `value_writer::write_container` meet their contracts. Assumes nothing.
use mathlib.Core.Path.{refl, ap}
use native.Mathlib.Omega.{arith}
use Prim.Native.Nat.{◌-◌}
use Rattle.output.proofs.Laws.{more, finish, wrote_none, wrote_then, wrote-bound}
use Rattle.tape.specs.Tree.{nil}
use Rattle.tape.specs.Tape.{Walked, walk}
use Rattle.tape.proofs.Walking.{walk_end}
use Rattle.tape.proofs.Parts.{part_length, trailed}
use Rattle.tape.proofs.Turning.{head_here, turn_here}
use Rattle.writer.specs.Steps.{ending, items}
use Rattle.writer.proofs.Layouts.{deeper_most}
use Rattle.writer.proofs.Indented.{wrote_moved}
use Rattle.writer.proofs.Items.{last_child, items_turn, value-place, scalar-text, scalar_size, scalar-some, marker_text, marker_length, header_room, container}
use borrow.Author.Rules.{rules}
use Rattle.writer.proofs.value_writer.+write_container_write_nodes_write_value.Goals as goal

-- ---- the nodes of a body

pub write_nodes-returns-then-depth-eq0 : goal.write_nodes-returns-then-depth-eq0
unfolding items walk
write_nodes-returns-then-depth-eq0 t c =
    let a = c.args in
    let w = wrote_none a.buf.now a.pos c.requires.pos_le_limit (search rules) in
    rw c.if-depth-eq0.true (record { text = w; moved = wrote_moved a.quoted a.layout a.width a.frame nil w })

pub write_nodes-write_front-f-requires : goal.write_nodes-write_front-f-requires
write_nodes-write_front-f-requires t c =
    let a = c.args in
    let l = c.loop-at in
    let nz = c.if-depth-eq0.false in
    let lt = c.loop-at-test.true in
    let i = trailed c.requires.end_in_bounds in
    let u = turn_here a.depth a.frame a.tape.now l.at a.end nz lt i l.invariant.1 in
    let v = value-place a.quoted a.layout a.width (a.depth - 1) a.tape.now _ a.end i u.value in
    record {
      pos_le_limit = wrote-bound l.invariant.2.wrote;
      at_le_end = l.invariant.0;
      end_in_bounds = c.requires.end_in_bounds;
      end_value = head_here a.depth a.frame a.tape.now l.at a.end nz lt i l.invariant.1;
      end_bound = v;
    }

pub write_nodes-write_value-v-requires : goal.write_nodes-write_value-v-requires
write_nodes-write_value-v-requires t c =
    let a = c.args in
    let l = c.loop-at in
    let nz = c.if-depth-eq0.false in
    let u = turn_here a.depth a.frame a.tape.now l.at a.end nz c.loop-at-test.true (trailed c.requires.end_in_bounds) l.invariant.1 in
    let f = c.write_front-f.ensures in
    let z = c.decreases in
    let m = c.requires.width_bound in (omega arith, (rw f.place u.within, (c.requires.end_in_bounds, (omega arith, rw f.place u.value))))

pub write_nodes-loop-at-smaller : goal.write_nodes-loop-at-smaller
write_nodes-loop-at-smaller t c =
    let a = c.args in
    let l = c.loop-at in
    let u = turn_here a.depth a.frame a.tape.now l.at a.end c.if-depth-eq0.false c.loop-at-test.true (trailed c.requires.end_in_bounds) l.invariant.1 in
    let f = c.write_front-f.ensures.place in
    let v = rw f at c.write_value-v.ensures.place in
    let g = u.forth in
    let b = u.behind in
    omega arith

pub write_nodes-loop-at-preserved : goal.write_nodes-loop-at-preserved
unfolding ending
write_nodes-loop-at-preserved t c =
    let a = c.args in
    let l = c.loop-at in
    let nz = c.if-depth-eq0.false in
    let lt = c.loop-at-test.true in
    let i = trailed c.requires.end_in_bounds in
    let u = turn_here a.depth a.frame a.tape.now l.at a.end nz lt i l.invariant.1 in
    let f = c.write_front-f.ensures in
    let v = rw f.place at c.write_value-v.ensures in
    let e = rw (v.place, c.separator_of-s.ensures, last_child _ _ u.behind) at c.write_ending-p.ensures in (
      rw v.place u.behind,
      rw v.place u.fine,
      rw v.place (more l.invariant.2 (wrote_then f.text (wrote_then v.text e)) (items_turn a.quoted a.layout a.width a.depth a.frame a.tape.now l.at a.end nz lt i l.invariant.1)),
    )

pub write_nodes-returns : goal.write_nodes-returns
unfolding items
write_nodes-returns t c =
    let a = c.args in
    let l = c.loop-at in
    let n = part_length a.tape.now l.at a.end (trailed c.requires.end_in_bounds) in
    let z = c.loop-at-test.false in
    let w = finish l.invariant.2 (ap (λ (w : Walked). items a.quoted a.layout a.frame a.width w.0) (walk_end a.frame a.depth _ c.if-depth-eq0.false (omega arith))) in
    record { text = w; moved = wrote_moved a.quoted a.layout a.width a.frame _ w }

-- ---- a value

pub write_value-write_leaf-requires : goal.write_value-write_leaf-requires
write_value-write_leaf-requires t c =
    let a = c.args in
    let i = c.requires.end_in_bounds in
    let h = c.if-k-lt10.true in
    record {
      at_le_end = c.requires.at_le_end;
      end_in_bounds = i;
      nonzero = scalar-some a.quoted a.layout a.width a.depth a.tape.now a.at a.end (trailed i) c.requires.end_value (λ j b d q. omega arith);
    }

pub write_value-returns-then-k-lt10 : goal.write_value-returns-then-k-lt10
write_value-returns-then-k-lt10 t c =
    let a = c.args in
    let i = trailed c.requires.end_in_bounds in
    let z = c.requires.end_value in
    let h = c.if-k-lt10.true in
    record {
      text = rw (scalar-text a.quoted a.layout a.width a.depth a.tape.now a.at a.end i z (λ j b d q. omega arith)) c.write_leaf.ensures.text;
      place = rw (scalar_size a.quoted a.layout a.width a.depth a.tape.now a.at a.end i z (λ j b d q. omega arith)) c.write_leaf.ensures.place;
    }

pub write_value-returns-then-k-eq14 : goal.write_value-returns-then-k-eq14
write_value-returns-then-k-eq14 t c =
    let a = c.args in
    let i = trailed c.requires.end_in_bounds in
    let z = c.requires.end_value in
    let h = c.if-k-eq14.true in
    record {
      text = rw (marker_text a.quoted a.layout a.width a.depth a.tape.now a.at a.end i z h) c.write_marker-p.ensures;
      place = rw (marker_length a.quoted a.layout a.width a.depth a.tape.now a.at a.end i z h) refl;
    }

pub write_value-write_blob_node-requires : goal.write_value-write_blob_node-requires
write_value-write_blob_node-requires t c =
    let a = c.args in
    let i = c.requires.end_in_bounds in
    let h = c.if-k-eq15.true in
    record {
      at_le_end = c.requires.at_le_end;
      end_in_bounds = i;
      nonzero = scalar-some a.quoted a.layout a.width a.depth a.tape.now a.at a.end (trailed i) c.requires.end_value (λ j b d q. omega arith);
      at_value = h;
    }

pub write_value-returns-then-k-eq15 : goal.write_value-returns-then-k-eq15
write_value-returns-then-k-eq15 t c =
    let a = c.args in
    let i = trailed c.requires.end_in_bounds in
    let z = c.requires.end_value in
    let h = c.if-k-eq15.true in
    record {
      text = rw (scalar-text a.quoted a.layout a.width a.depth a.tape.now a.at a.end i z (λ j b d q. omega arith)) (c.write_blob_node.ensures.text a.quoted);
      place = rw (scalar_size a.quoted a.layout a.width a.depth a.tape.now a.at a.end i z (λ j b d q. omega arith)) c.write_blob_node.ensures.place;
    }

-- ---- a container

pub write_container-write_nodes-q-requires : goal.write_container-write_nodes-q-requires
write_container-write_nodes-q-requires t c =
    let a = c.args in
    let b = c.requires.bound in
    let i = trailed c.requires.end_in_bounds in
    let z = c.requires.end_value in
    let r = header_room a.quoted a.layout a.width a.depth a.tape.now a.at a.end i z b.0 b.1 b.2 in
    let q = container a.quoted a.layout a.width a.depth a.tape.now a.at a.end i z b.0 b.1 b.2 _ c.frame_of-inner.ensures _ c.u32_at.ensures.0 in
    let y = c.decreases in
    let o = q.room in
    let w = c.requires.width_bound in
    let d = deeper_most a.layout a.width in
    let j = c.indentation-deeper.ensures in (omega arith, (omega arith, (omega arith, (wrote-bound c.write_start-p.ensures, (omega arith, q.fine)))))

pub write_container-returns : goal.write_container-returns
write_container-returns t c =
    let a = c.args in
    let b = c.requires.bound in
    let i = trailed c.requires.end_in_bounds in
    let z = c.requires.end_value in
    let r = header_room a.quoted a.layout a.width a.depth a.tape.now a.at a.end i z b.0 b.1 b.2 in
    let q = container a.quoted a.layout a.width a.depth a.tape.now a.at a.end i z b.0 b.1 b.2 _ c.frame_of-inner.ensures _ c.u32_at.ensures.0 in
    let n = rw c.indentation-deeper.ensures at c.write_nodes-q.ensures.text in
    record {
      text = rw q.written (wrote_then (wrote_then c.write_start-p.ensures n) c.write_close-r.ensures);
      place = q.place;
    }
