-- `order::compare_fronts` meets its contract. Assumes nothing.
use Rattle.std.specs.Ordering.{nat_cmp, ordering_then}
use Rattle.std.specs.declared.cmp.Ordering.{Ordering}
use mathlib.Core.Path.{sym, ap, ◌∙◌}
use native.Mathlib.Omega.{arith}
use Prim.Native.Nat.{ℕ, ◌+◌}
use Rattle.tape.specs.Bytes.{part}
use lib.ListN.{get_or}
use Rattle.tape.specs.Tape.{name_of}
use Rattle.tape.specs.Steps.{head_at, size_taken}
use Rattle.order.specs.Order.{options, syms}
use Rattle.order.proofs.Combine.{both_equal}
use Rattle.order.proofs.HeadLaws.{head_parts}
use Rattle.order.proofs.compare_fronts.Goals as goal

pub compare_names-n-requires : goal.compare_names-n-requires
compare_names-n-requires c =
    record { named = (head_parts c.args.frame c.args.a.now c.args.i c.args.ea c.requires.headed).named; named_2 = (head_parts c.args.frame c.args.b.now c.args.j c.args.eb c.requires.headed_2).named }

pub name_place-p-requires : goal.name_place-p-requires
name_place-p-requires c = (head_parts c.args.frame c.args.a.now c.args.i c.args.ea c.requires.headed).named

pub name_place-q-requires : goal.name_place-q-requires
name_place-q-requires c = (head_parts c.args.frame c.args.b.now c.args.j c.args.eb c.requires.headed_2).named

pub bounds-a-p : goal.bounds-a-p
bounds-a-p c =
    let n = (head_parts c.args.frame c.args.a.now c.args.i c.args.ea c.requires.headed).notes in let w = n.within in let r = n.room in let p = c.name_place-p.ensures in omega arith

pub bounds-b-q : goal.bounds-b-q
bounds-b-q c =
    let n = (head_parts c.args.frame c.args.b.now c.args.j c.args.eb c.requires.headed_2).notes in let w = n.within in let r = n.room in let p = c.name_place-q.ensures in omega arith

pub compare_notes-s-requires : goal.compare_notes-s-requires
compare_notes-s-requires c =
    rw (c.name_place-p.ensures, c.name_place-q.ensures) (record { notes = (head_parts c.args.frame c.args.a.now c.args.i c.args.ea c.requires.headed).notes; notes_2 = (head_parts c.args.frame c.args.b.now c.args.j c.args.eb c.requires.headed_2).notes })

pub returns : goal.returns
returns c =
    let a = c.args in
    let s = a.a.now in
    let t = a.b.now in
    let u = head_parts c.args.frame c.args.a.now c.args.i c.args.ea c.requires.headed in
    let v = head_parts c.args.frame c.args.b.now c.args.j c.args.eb c.requires.headed_2 in
    let p = c.name_place-p.ensures in
    let q = c.name_place-q.ensures in
    let notes = rw (u.list, v.list, u.ends, v.ends) at (rw (p, q) at c.compare_notes-s.ensures) in
    let names = rw (u.name, v.name) at c.compare_names-n.ensures in
    let bytes = c.cmp-k.ensures ∙ ap (λ (i : ℕ). nat_cmp (get_or s i 0) (get_or t c.name_place-q.result 0)) p ∙ ap (λ (i : ℕ). nat_cmp (get_or s (a.i + size_taken (name_of a.frame (part s a.i a.ea))) 0) (get_or t i 0)) q in
    let A = options syms (head_at a.frame (part s a.i a.ea)).0 (head_at a.frame (part t a.j a.eb)).0 in
    let B = nat_cmp (get_or s (a.i + size_taken (name_of a.frame (part s a.i a.ea))) 0) (get_or t (a.j + size_taken (name_of a.frame (part t a.j a.eb))) 0) in
    record {
      order =
          c.then-2.ensures
          ∙ ap (λ (w : Ordering). ordering_then w c.then.result) names
          ∙ ap (ordering_then A) (c.then.ensures ∙ ap (λ (w : Ordering). ordering_then w c.compare_notes-s.result.order) bytes ∙ ap (ordering_then B) notes.order);
      places = λ z. notes.places (both_equal _ _ (sym c.then.ensures ∙ (both_equal _ _ (sym c.then-2.ensures ∙ z)).1)).1;
    }
