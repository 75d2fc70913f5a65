-- `text_formatter::first_symbol_length` meets its contract. Assumes nothing.
use mathlib.Core.Path.{◌≡◌, sym, ap, ◌∙◌}
use mathlib.Core.Bool.{true, false}
use native.Mathlib.Omega.{arith}
use lib.ListN.{take, length-take}
use lib.Seq.{get_or-take, length-take-le}
use Rattle.text_rules.specs.Words.{is_start}
use Rattle.text_rules.specs.WordSteps.{is_bare, all_part}
use Rattle.text_rules.proofs.EscapesLaws.{text_body_most}
use Rattle.text_rules.proofs.LaneTests.{other-marked}
use Rattle.measure.specs.Steps.{quoting}
use Rattle.measure.proofs.SymbolLengths.{quotes_most, nothing-length, start-marked, plain-quoted, open_length, quoted-length}
use Rattle.measure.proofs.text_formatter.first_symbol_length.Goals as goal
use Rattle.measure.proofs.text_formatter.first_symbol_length.Goals.{then-is_start+else-is_word, else-is_start}

pub returns-then-n-eq0 : goal.returns-then-n-eq0
returns-then-n-eq0 c = rw c.if-n-eq0.true (sym (nothing-length _))

pub slice_bounds-stands_bare-end : goal.slice_bounds-stands_bare-end
slice_bounds-stands_bare-end c = sym (length-take-le _ _ (omega (arith, c.requires)))

pub stands_bare-requires : goal.stands_bare-requires
stands_bare-requires c = omega (arith, length-take c.args.n c.args.s.now, c.requires, c.if-n-eq0.false)

pub overflow_add-result : goal.overflow_add-result
overflow_add-result c = record { fits = omega (arith, quotes_most (quoting c.args.quotes), c.requires) }

pub returns-then-stands_bare : goal.returns-then-stands_bare
returns-then-stands_bare c =
    let a = c.args in
    let z = c.if-n-eq0.false in
    -- the bytes are an identifier's, and the first starts one, so it is known whether they are bare
    let p : all_part (take a.n a.s.now) ≡ true = sym c.is_word.ensures ∙ c.if-is_word.true in
    let h = ap is_start (get_or-take a.n a.s.now 0 0 (omega arith)) ∙ sym c.is_start.ensures ∙ c.if-is_start.true in
    let b : c.stands_bare.result ≡ is_bare (take a.n a.s.now) = c.stands_bare.ensures p h in
    omega (arith, open_length (quoting c.args.quotes) _ (sym b ∙ c.if-stands_bare.true), length-take c.args.n c.args.s.now, c.requires)

pub returns-then-is_word : goal.returns-then-is_word
returns-then-is_word c =
    let a = c.args in
    let z = c.if-n-eq0.false in
    -- the bytes are an identifier's, and the first starts one, so it is known whether they are bare
    let p : all_part (take a.n a.s.now) ≡ true = sym c.is_word.ensures ∙ c.if-is_word.true in
    let h = ap is_start (get_or-take a.n a.s.now 0 0 (omega arith)) ∙ sym c.is_start.ensures ∙ c.if-is_start.true in
    let b : c.stands_bare.result ≡ is_bare (take a.n a.s.now) = c.stands_bare.ensures p h in
    omega (arith, plain-quoted (quoting c.args.quotes) _ (sym b ∙ c.if-stands_bare.false) p, length-take c.args.n c.args.s.now, c.requires)

pub overflow_add-result-2 : goal.overflow_add-result-2
overflow_add-result-2 c =
    let l = take c.args.n c.args.s.now in
    record { fits = omega (arith, c.escaped_text_body_length.ensures, text_body_most l, length-take c.args.n c.args.s.now, c.requires, c.well_formed) }

pub returns : goal.returns
returns c =
    let a = c.args in
    let l = take a.n a.s.now in
    let z = c.if-n-eq0.false in
    -- not all bytes are an identifier's, or the first starts none
    let b : is_bare l ≡ false =
    elim c.if-is_start.branch [
      | then-is_start+else-is_word w ↦ other-marked l (sym w.is_word.ensures ∙ w.if-is_word.false)
      | else-is_start w ↦ start-marked l (omega (arith, length-take a.n a.s.now, c.requires)) (ap is_start (get_or-take a.n a.s.now 0 0 (omega arith)) ∙ sym c.is_start.ensures ∙ w.if-is_start.false)
    ] in
    omega (arith, c.escaped_text_body_length.ensures, quoted-length (quoting a.quotes) l b)
