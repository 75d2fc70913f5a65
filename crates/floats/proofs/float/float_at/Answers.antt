-- `floats::float::float_at` meets its contract. Assumes nothing.
use mathlib.Core.Path.{◌∙◌}
use mathlib.Core.Bool.{true, false}
use native.Mathlib.Omega.{arith}
use Prim.Native.Nat.{◌<◌}
use lib.ListN.{length}
use lib.Ieee.{of_fields, of_bits}
use Rattle.text_rules.proofs.Places.{end-at}
use Rattle.text_rules.proofs.ReadingLaws.{refused, reads_from}
use Rattle.floats.proofs.FloatsBits.{no_nan}
use Rattle.floats.proofs.FloatLaws.{float-nothing, at_above, at-digit, at-minus, at_other, spelled_here, spelled-other}
use Rattle.floats.proofs.float.float_at.Goals as goal

pub returns-then-at-text : goal.returns-then-at-text
returns-then-at-text c =
    let x = c.args in
    refused (rw (end-at x.text.now x.at c.if-at-text.true) float-nothing)

pub returns-then-b-gt57 : goal.returns-then-b-gt57
returns-then-b-gt57 c =
    let x = c.args in
    let l : x.at < length x.text.now = omega (arith, c.requires, c.if-at-text.false) in
    rw (at_above x.text.now x.at l c.if-b-gt57.true) c.nan_at.ensures

pub returns-then-b-ge48 : goal.returns-then-b-ge48
returns-then-b-ge48 c =
    let x = c.args in
    let l : x.at < length x.text.now = omega (arith, c.requires, c.if-at-text.false) in
    rw (at-digit x.text.now x.at l c.if-b-ge48.true c.if-b-gt57.false) c.signed_at.ensures

pub float_from_bits-result : goal.float_from_bits-result
float_from_bits-result c = no_nan 0xFFF0_0000_0000_0000 (omega arith)

pub returns-then-word_stands : goal.returns-then-word_stands
unfolding of_bits of_fields
returns-then-word_stands c =
    let x = c.args in
    let l : x.at < length x.text.now = omega (arith, c.requires, c.if-at-text.false) in
    let s = rw c.if-word_stands.true at c.word_stands.ensures in
    record { is = at-minus x.text.now x.at l c.if-b-eq45.true ∙ rw (spelled_here true s); place = (omega arith, s.inside) }

pub returns-then-b-eq45 : goal.returns-then-b-eq45
returns-then-b-eq45 c =
    let x = c.args in
    let l : x.at < length x.text.now = omega (arith, c.requires, c.if-at-text.false) in
    let s = rw c.if-word_stands.false at c.word_stands.ensures in
    rw (at-minus x.text.now x.at l c.if-b-eq45.true, spelled-other true s) (reads_from c.signed_at-then-b-eq45.ensures (omega arith))

pub float_from_bits-result-then-word_stands-2 : goal.float_from_bits-result-then-word_stands-2
float_from_bits-result-then-word_stands-2 c = no_nan 0x7FF0_0000_0000_0000 (omega arith)

pub returns-then-word_stands-2 : goal.returns-then-word_stands-2
unfolding of_bits of_fields
returns-then-word_stands-2 c =
    let x = c.args in
    let l : x.at < length x.text.now = omega (arith, c.requires, c.if-at-text.false) in
    let s = rw c.if-word_stands-2.true at c.word_stands-2.ensures in
    record { is = at_other x.text.now x.at l (omega (arith, c.if-b-ge48.false)) c.if-b-eq45.false ∙ rw (spelled_here false s); place = (omega arith, s.inside) }

pub returns : goal.returns
returns c =
    let x = c.args in
    let l : x.at < length x.text.now = omega (arith, c.requires, c.if-at-text.false) in
    let s = rw c.if-word_stands-2.false at c.word_stands-2.ensures in
    refused (at_other x.text.now x.at l (omega (arith, c.if-b-ge48.false)) c.if-b-eq45.false ∙ spelled-other false s)
