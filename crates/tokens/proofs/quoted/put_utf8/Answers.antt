-- `quoted::put_utf8` meets its contract. Assumes nothing.
use borrow.Author.Tests.{lt-ltb, le-ltb}
use Rattle.output.proofs.Laws.{wrote_then}
use Rattle.text_rules.specs.Utf8.{utf8}
use Rattle.tokens.proofs.quoted.put_utf8.Goals as goal

pub returns-then-v-lt128 : goal.returns-then-v-lt128
unfolding utf8
returns-then-v-lt128 c = rw (lt-ltb _ _ c.if-v-lt128.true) c.put.ensures

pub returns-then-v-lt2048 : goal.returns-then-v-lt2048
unfolding utf8
returns-then-v-lt2048 c =
    rw (le-ltb _ _ c.if-v-lt128.false, lt-ltb _ _ c.if-v-lt2048.true) (wrote_then c.put-a.ensures c.put-then-v-lt2048.ensures)

pub returns-then-v-lt65536 : goal.returns-then-v-lt65536
unfolding utf8
returns-then-v-lt65536 c =
    rw (le-ltb _ _ c.if-v-lt128.false, le-ltb _ _ c.if-v-lt2048.false, lt-ltb _ _ c.if-v-lt65536.true) (wrote_then (wrote_then c.put-a-then-v-lt65536.ensures c.put-b.ensures) c.put-then-v-lt65536.ensures)

pub returns : goal.returns
unfolding utf8
returns c =
    rw (le-ltb _ _ c.if-v-lt128.false, le-ltb _ _ c.if-v-lt2048.false, le-ltb _ _ c.if-v-lt65536.false) (wrote_then (wrote_then (wrote_then c.put-a-2.ensures c.put-b-2.ensures) c.put-c.ensures) c.put-2.ensures)
