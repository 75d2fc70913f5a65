-- `value_writer::write_text_name` meets its contract. Assumes nothing.
use mathlib.Core.Path.{◌≡◌, refl}
use native.Mathlib.Omega.{arith}
use Prim.Native.Nat.{ℕ, ◌+◌, ◌<◌, ◌≤◌}
use mathlib.Core.List.{List}
use mathlib.Core.Option.{some}
use lib.ListN.{length, get_or, take, drop}
use Rattle.text_rules.specs.Text.{Sym}
use Rattle.tape.specs.Bytes.{part, le_number}
use Rattle.tape.specs.Tape.{name_of}
use Rattle.tape.specs.Steps.{size_taken}
use Rattle.tape.specs.declared.Frame.TheVariants.{Struct}
use Rattle.writer.specs.Steps.{name_in}
use Rattle.output.proofs.Laws.{wrote_then}
use Rattle.writer.specs.Text.{sym_text, name_text}
use Rattle.writer.proofs.Texts.{plain_text}
use Rattle.writer.proofs.Leaves.{NameAt, name_header, text_name}
use Rattle.tape.proofs.Parts.{trailed}
use Rattle.writer.proofs.value_writer.write_text_name.Goals as goal

pub u32_at-n-requires : goal.u32_at-n-requires
u32_at-n-requires c =
    let a = c.args in
    let h = name_header a.tape.now a.at a.end c.requires.at_le_end (trailed c.requires.end_in_bounds) c.requires.end_value in
    let k = c.requires.end_in_bounds in
    omega arith

-- what the node is
name : (s : List ℕ) (at e n : ℕ) → at ≤ e → e + 8 ≤ length s → name_of Struct (part s at e) ≡ some (name_in Struct (part s at e), size_taken (name_of Struct (part s at e))) → get_or s at 0 < 7
    → n ≡ le_number 4 (drop (at + 1) s) → NameAt s at e (Sym.text (take n (drop 5 (part s at e)))) (5 + n)
name s at e n h i z k f = text_name s at e h (trailed i) z n f (λ (q : get_or s at 0 ≡ 7). omega arith)

pub plain_at-requires : goal.plain_at-requires
plain_at-requires c =
    let r = (name c.args.tape.now c.args.at c.args.end _ c.requires.at_le_end c.requires.end_in_bounds c.requires.end_value c.requires.at_bound c.u32_at-n.ensures.0).room in
    let k = c.requires.end_in_bounds in
    omega arith

pub word_at-requires : goal.word_at-requires
word_at-requires c = (c.plain_at.ensures c.if-plain_at.true).room

pub returns-then-plain_at : goal.returns-then-plain_at
unfolding name_text sym_text
returns-then-plain_at c =
    let a = c.args in
    let q = name c.args.tape.now c.args.at c.args.end _ c.requires.at_le_end c.requires.end_in_bounds c.requires.end_value c.requires.at_bound c.u32_at-n.ensures.0 in
    let p = plain_text a.tape.now (a.at + 5) _ _ c.word_at.ensures a.quoted a.at a.end refl q.room (c.plain_at.ensures c.if-plain_at.true) in
    record { text = rw (q.read, p) (wrote_then c.put_le-p.ensures c.write_colon-q.ensures); place = rw q.read (omega arith) }

pub write_symbol_text-p-requires : goal.write_symbol_text-p-requires
write_symbol_text-p-requires c =
    record { n_bound = (name c.args.tape.now c.args.at c.args.end _ c.requires.at_le_end c.requires.end_in_bounds c.requires.end_value c.requires.at_bound c.u32_at-n.ensures.0).room; end_in_bounds = trailed c.requires.end_in_bounds }

pub returns : goal.returns
unfolding name_text sym_text
returns c =
    let q = name c.args.tape.now c.args.at c.args.end _ c.requires.at_le_end c.requires.end_in_bounds c.requires.end_value c.requires.at_bound c.u32_at-n.ensures.0 in
    record { text = rw q.read (wrote_then c.write_symbol_text-p.ensures c.write_colon-q-2.ensures); place = rw q.read (omega arith) }
