-- `scalars::word_at` meets its contract: each arm is told which kind it has. Assumes nothing.
use mathlib.Core.Path.{refl}
use mathlib.Core.Bool.{true, false}
use lib.Ieee.{nan}
use lib.ListN.{drop}
use Rattle.text_rules.specs.Text.{Sym}
use Rattle.text_rules.specs.Words.{word}
use Rattle.tokens.proofs.Keeping.{kept_all}
use Rattle.tape.specs.Tree.{Scalar, Node, encode, encode_scalar, encode_sym}
use Rattle.tape.proofs.Numbers.{float-bits-nan}
use Rattle.reader.proofs.ScalarSteps.{word_none, word_here, word-null}
use Rattle.reader.proofs.scalars.word_at.Goals as goal

pub returns-in-Null : goal.returns-in-Null
returns-in-Null c =
    let x = c.args in
    word-null c.word_at-w.ensures x.m x.pos x.buf.now c.null_at.new.buf c.null_at.result c.in-Null.is c.null_at.ensures

pub returns-in-True : goal.returns-in-True
unfolding encode encode_scalar
returns-in-True c = word_here c.word_at-w.ensures c.args.m _ (Node.scalar (Scalar.bool true)) c.in-True.is refl refl c.put2-p.ensures

pub returns-in-False : goal.returns-in-False
unfolding encode encode_scalar
returns-in-False c =
    word_here c.word_at-w.ensures c.args.m _ (Node.scalar (Scalar.bool false)) c.in-False.is refl refl c.put2-p-in-False.ensures

pub returns-in-Nan : goal.returns-in-Nan
unfolding encode encode_scalar
returns-in-Nan c =
    word_here c.word_at-w.ensures c.args.m _ (Node.scalar (Scalar.float nan)) c.in-Nan.is refl refl (rw float-bits-nan c.put_wide-p.ensures)

pub returns-else-not-m : goal.returns-else-not-m
unfolding encode encode_scalar
returns-else-not-m c = word_here c.word_at-w.ensures c.args.m _ Node.marker c.in-Marker.is refl (rw c.if-not-m.false) c.put-p.ensures

pub returns-then-not-m : goal.returns-then-not-m
returns-then-not-m c = (word_none c.word_at-w.ensures c.args.m _ c.in-Marker.is (rw c.if-not-m.true), kept_all)

pub returns-in-Number : goal.returns-in-Number
unfolding encode encode_scalar encode_sym
returns-in-Number c =
    word_here c.word_at-w.ensures c.args.m _ (Node.scalar (Scalar.symbol (Sym.id _))) c.in-Number.is refl refl c.put_header-p.ensures

pub returns-in-Text : goal.returns-in-Text
unfolding encode encode_scalar encode_sym
returns-in-Text c =
    let x = c.args in
    let w = c.word_at-w.ensures in
    word_here w x.m _ (Node.scalar (Scalar.symbol (Sym.text (word (drop x.at x.text.now))))) c.in-Text.is refl refl (rw w.bytes at c.put_text-p.ensures)

pub returns-in-Refused : goal.returns-in-Refused
returns-in-Refused c = (word_none c.word_at-w.ensures c.args.m _ c.in-Refused.is refl, kept_all)
