-- `text_formatter::null_length` meets its contract: the text of each number computes. Assumes nothing.
use Rattle.text_rules.specs.Text.{null_text, type_name}
use Rattle.text_rules.proofs.NullsText.{no_type}
use Rattle.measure.proofs.text_formatter.null_length.Goals as goal

pub returns-in-0 : goal.returns-in-0
unfolding null_text type_name
returns-in-0 c = rw c.in-0.is

pub returns-in-1 : goal.returns-in-1
unfolding null_text type_name
returns-in-1 c = rw c.in-1.is

pub returns-in-2 : goal.returns-in-2
unfolding null_text type_name
returns-in-2 c = rw c.in-2.is

pub returns-in-3 : goal.returns-in-3
unfolding null_text type_name
returns-in-3 c = rw c.in-3.is

pub returns-in-4 : goal.returns-in-4
unfolding null_text type_name
returns-in-4 c = rw c.in-4.is

pub returns-in-5 : goal.returns-in-5
unfolding null_text type_name
returns-in-5 c = rw c.in-5.is

pub returns-in-6 : goal.returns-in-6
unfolding null_text type_name
returns-in-6 c = rw c.in-6.is

pub returns-in-7 : goal.returns-in-7
unfolding null_text type_name
returns-in-7 c = rw c.in-7.is

pub returns-in-8 : goal.returns-in-8
unfolding null_text type_name
returns-in-8 c = rw c.in-8.is

pub returns-in-9 : goal.returns-in-9
unfolding null_text type_name
returns-in-9 c = rw c.in-9.is

pub returns-in-10 : goal.returns-in-10
unfolding null_text type_name
returns-in-10 c = rw c.in-10.is

pub returns-in-11 : goal.returns-in-11
unfolding null_text type_name
returns-in-11 c = rw c.in-11.is

pub returns-in-12 : goal.returns-in-12
unfolding null_text type_name
returns-in-12 c = rw c.in-12.is

pub returns-in_default : goal.returns-in_default
returns-in_default c =
    let r = c.in_default.in_default-own.rest in
    rw (no_type c.args.t r.0.0.0.0.0.0.0.0.0.0.0.0.1 r.0.0.0.0.0.0.0.0.0.0.0.1 r.0.0.0.0.0.0.0.0.0.0.1 r.0.0.0.0.0.0.0.0.0.1 r.0.0.0.0.0.0.0.0.1 r.0.0.0.0.0.0.0.1 r.0.0.0.0.0.0.1 r.0.0.0.0.0.1 r.0.0.0.0.1 r.0.0.0.1 r.0.0.1 r.0.1 r.1)
