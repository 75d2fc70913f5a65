-- `digits::pow10` meets its contract. Assumes nothing.
use mathlib.Core.Path.{◌≡◌, refl}
use Prim.Native.Nat.{ℕ, suc, ◌^◌, ◌≤◌, ◌<◌}
use native.Mathlib.Omega.{arith}
use lib.Dec.{lit<}
use Rattle.text_rules.proofs.digits.pow10.Goals as goal

next : (k j : ℕ) → j ≤ k → (k ≡ j → ⊥) → suc j ≤ k
next k j l n = omega arith

nineteen : (k : ℕ) → 19 ≤ k → k < 20 → (10 ^ 19 ≡ 10 ^ k) × (0 < 10 ^ 19)
nineteen k l h = let e : k ≡ 19 = omega arith in rw e (refl, lit< tt)

pub returns-in-0 : goal.returns-in-0
returns-in-0 c = let e : c.args.k ≡ 0 = omega arith in rw e (refl, lit< tt)

pub returns-in-1 : goal.returns-in-1
returns-in-1 c = let e : c.args.k ≡ 1 = omega arith in rw e (refl, lit< tt)

pub returns-in-2 : goal.returns-in-2
returns-in-2 c = let e : c.args.k ≡ 2 = omega arith in rw e (refl, lit< tt)

pub returns-in-3 : goal.returns-in-3
returns-in-3 c = let e : c.args.k ≡ 3 = omega arith in rw e (refl, lit< tt)

pub returns-in-4 : goal.returns-in-4
returns-in-4 c = let e : c.args.k ≡ 4 = omega arith in rw e (refl, lit< tt)

pub returns-in-5 : goal.returns-in-5
returns-in-5 c = let e : c.args.k ≡ 5 = omega arith in rw e (refl, lit< tt)

pub returns-in-6 : goal.returns-in-6
returns-in-6 c = let e : c.args.k ≡ 6 = omega arith in rw e (refl, lit< tt)

pub returns-in-7 : goal.returns-in-7
returns-in-7 c = let e : c.args.k ≡ 7 = omega arith in rw e (refl, lit< tt)

pub returns-in-8 : goal.returns-in-8
returns-in-8 c = let e : c.args.k ≡ 8 = omega arith in rw e (refl, lit< tt)

pub returns-in-9 : goal.returns-in-9
returns-in-9 c = let e : c.args.k ≡ 9 = omega arith in rw e (refl, lit< tt)

pub returns-in-10 : goal.returns-in-10
returns-in-10 c = let e : c.args.k ≡ 10 = omega arith in rw e (refl, lit< tt)

pub returns-in-11 : goal.returns-in-11
returns-in-11 c = let e : c.args.k ≡ 11 = omega arith in rw e (refl, lit< tt)

pub returns-in-12 : goal.returns-in-12
returns-in-12 c = let e : c.args.k ≡ 12 = omega arith in rw e (refl, lit< tt)

pub returns-in-13 : goal.returns-in-13
returns-in-13 c = let e : c.args.k ≡ 13 = omega arith in rw e (refl, lit< tt)

pub returns-in-14 : goal.returns-in-14
returns-in-14 c = let e : c.args.k ≡ 14 = omega arith in rw e (refl, lit< tt)

pub returns-in-15 : goal.returns-in-15
returns-in-15 c = let e : c.args.k ≡ 15 = omega arith in rw e (refl, lit< tt)

pub returns-in-16 : goal.returns-in-16
returns-in-16 c = let e : c.args.k ≡ 16 = omega arith in rw e (refl, lit< tt)

pub returns-in-17 : goal.returns-in-17
returns-in-17 c = let e : c.args.k ≡ 17 = omega arith in rw e (refl, lit< tt)

pub returns-in-18 : goal.returns-in-18
returns-in-18 c = let e : c.args.k ≡ 18 = omega arith in rw e (refl, lit< tt)

pub returns-in_default : goal.returns-in_default
returns-in_default c =
    let k = c.args.k in
    let r18 = c.in_default.in_default-own.rest in
    let r17 = r18.0 in
    let r16 = r17.0 in
    let r15 = r16.0 in
    let r14 = r15.0 in
    let r13 = r14.0 in
    let r12 = r13.0 in
    let r11 = r12.0 in
    let r10 = r11.0 in
    let r9 = r10.0 in
    let r8 = r9.0 in
    let r7 = r8.0 in
    let r6 = r7.0 in
    let r5 = r6.0 in
    let r4 = r5.0 in
    let r3 = r4.0 in
    let r2 = r3.0 in
    let r1 = r2.0 in
    let r0 = r1.0 in
    let l : 19 ≤ k = next k 18 (next k 17 (next k 16 (next k 15 (next k 14 (next k 13 (next k 12 (next k 11 (next k 10 (next k 9 (next k 8 (next k 7 (next k 6 (next k 5 (next k 4 (next k 3 (next k 2 (next k 1 (next k 0 (omega arith) r0.1) r1.1) r2.1) r3.1) r4.1) r5.1) r6.1) r7.1) r8.1) r9.1) r10.1) r11.1) r12.1) r13.1) r14.1) r15.1) r16.1) r17.1) r18.1 in
    nineteen k l c.requires
