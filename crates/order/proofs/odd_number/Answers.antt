-- `order::odd_number` meets its contract. Assumes nothing.
use mathlib.Core.Path.{◌∙◌}
use mathlib.Core.Bool.{true, false}
use borrow.Author.Tests.{le-leb, lt-leb}
use native.Mathlib.Omega.{arith}
use Rattle.order.proofs.FloatLaws.{nan-told, inf-told, fin-told}
use Rattle.order.proofs.odd_number.Goals as goal

pub returns-then-m-lt9218868437227405312 : goal.returns-then-m-lt9218868437227405312
returns-then-m-lt9218868437227405312 c = c.signed_number.ensures ∙ fin-told c.args.b c.ranges.b.fits c.requires c.if-m-lt9218868437227405312.true

pub returns-then-m-gt9218868437227405312 : goal.returns-then-m-gt9218868437227405312
returns-then-m-gt9218868437227405312 c = nan-told c.args.b c.ranges.b.fits c.requires c.if-m-gt9218868437227405312.true

pub returns-then-b-ge9223372036854775808 : goal.returns-then-b-ge9223372036854775808
returns-then-b-ge9223372036854775808 c =
    let m = c.if-m-lt9218868437227405312.false in
    let k = c.if-m-gt9218868437227405312.false in
    inf-told c.args.b c.ranges.b.fits c.requires (omega arith) true (le-leb 0x8000_0000_0000_0000 c.args.b c.if-b-ge9223372036854775808.true)

pub returns : goal.returns
returns c =
    let m = c.if-m-lt9218868437227405312.false in
    let k = c.if-m-gt9218868437227405312.false in
    inf-told c.args.b c.ranges.b.fits c.requires (omega arith) false (lt-leb 0x8000_0000_0000_0000 c.args.b c.if-b-ge9223372036854775808.false)
