-- `order::scalar_end` meets its contract. Assumes nothing.
use mathlib.Core.Path.{sym, ap}
use native.Mathlib.Omega.{arith}
use Prim.Native.Nat.{ℕ, ◌+◌}
use Rattle.tape.specs.Bytes.{part}
use Rattle.tape.specs.Tree.{encode_scalar}
use Rattle.tape.specs.Tape.{scalar_of}
use Rattle.tape.specs.Steps.{place_of}
use Rattle.tape.proofs.Reading.{scalar_sound}
use Rattle.tape.proofs.CodeReading.{place-within}
use Rattle.order.proofs.scalar_end.Goals as goal

pub size_of-requires : goal.size_of-requires
size_of-requires c =
    let a = c.args in
    let e = sym (rw c.in-Some.is at c.scalar_at.ensures) in
    let r = (place-within encode_scalar a.tape.now a.at a.end _ (scalar_of (part a.tape.now a.at a.end)) c.requires.within c.requires.room (scalar_sound _) (ap (place_of a.at) e)).1 in
    let k = c.requires.room in
    let l = c.shared_slice_known-1.given in
    omega arith

pub overflow_add-result : goal.overflow_add-result
overflow_add-result c =
    let a = c.args in
    let e = sym (rw c.in-Some.is at c.scalar_at.ensures) in
    let r = (place-within encode_scalar a.tape.now a.at a.end _ (scalar_of (part a.tape.now a.at a.end)) c.requires.within c.requires.room (scalar_sound _) (ap (place_of a.at) e)).1 in
    let k = c.requires.room in
    let l = c.shared_slice_known-1.given in
    let z = c.size_of.ensures in
    omega arith

pub returns : goal.returns
returns c =
    let a = c.args in
    let e = sym (rw c.in-Some.is at c.scalar_at.ensures) in
    let r = (place-within encode_scalar a.tape.now a.at a.end _ (scalar_of (part a.tape.now a.at a.end)) c.requires.within c.requires.room (scalar_sound _) (ap (place_of a.at) e)).1 in
    let k = c.requires.room in
    let l = c.shared_slice_known-1.given in
    rw e (ap (λ (i : ℕ). a.at + i) c.size_of.ensures)
