-- `listing::decode::pair_at` meets its contract. Assumes nothing.
use lib.ListN.{get_or}
use Prim.Native.Nat.{◌+◌}
use mathlib.Core.Path.{◌≡◌}
use native.Mathlib.Omega.{arith}
use Rattle.std.proofs.Math.Option.{some}
use Rattle.text_rules.specs.Escapes.{hex_value}
use Rattle.listing.proofs.Spelled.{a_digit, no_digit, pair_short, pair_first, pair_second, pair_both}
use borrow.Author.Rules.{rules}
use Rattle.listing.proofs.decode.pair_at.Goals as goal

pub returns-then-said-at-lt2 : goal.returns-then-said-at-lt2
returns-then-said-at-lt2 c = let a = c.args in record { told = pair_short a.said.now a.at c.if-said-at-lt2.true }

pub returns-in_err-h : goal.returns-in_err-h
returns-in_err-h c =
    let a = c.args in
    let h = no_digit _ (rw c.from.ensures at c.in_err-h.ensures.value) in
    rw c.from_residual.ensures (record { told = pair_first a.said.now a.at (omega arith) h })

pub returns-in_err-l : goal.returns-in_err-l
returns-in_err-l c =
    let a = c.args in
    let g = rw c.from.ensures at c.in_ok-h.ensures.value in
    let h : hex_value (get_or a.said.now a.at 0) ≡ some c.in_ok-h.h = rw g.1 (a_digit _ g.0) in
    let l = no_digit _ (rw c.from-2.ensures at c.in_err-l.ensures.value) in
    rw c.from_residual-in_err-l.ensures (record { told = pair_second a.said.now a.at (omega arith) _ h l })

pub returns : goal.returns
returns c =
    let a = c.args in
    let g = rw c.from.ensures at c.in_ok-h.ensures.value in
    let h : hex_value (get_or a.said.now a.at 0) ≡ some c.in_ok-h.h = rw g.1 (a_digit _ g.0) in
    let k = rw c.from-2.ensures at c.in_ok-l.ensures.value in
    let l : hex_value (get_or a.said.now (a.at + 1) 0) ≡ some c.in_ok-l.l = rw k.1 (a_digit _ k.0) in
    record { told = (pair_both a.said.now a.at (omega arith) _ _ h l, search rules, omega arith) }
