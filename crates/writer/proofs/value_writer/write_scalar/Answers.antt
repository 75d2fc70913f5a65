-- `value_writer::write_scalar` meets its contract: each kind has its own text. Assumes nothing.
-- the last arm is for the scalars that are not rare
use mathlib.Core.Path.{◌≡◌, refl, ap}
use mathlib.Core.Bool.{Bool}
use lib.Ieee.{Float}
use Prim.Native.Nat.{ℕ, ◌+◌}
use native.Mathlib.Omega.{arith}
use Rattle.tape.specs.Steps.{size_of}
use Rattle.tape.specs.declared.Scalar.{Scalar}
use Rattle.tape.specs.declared.Scalar.TheVariants as C
use Rattle.writer.specs.Text.{sym_text, scalar_text}
use Rattle.writer.specs.Steps.{Rare}
use Rattle.writer.proofs.value_writer.write_scalar.Goals as goal

-- what is rare is one of six
unreached : (s : Scalar) → Rare s → ((t : ℕ) → s ≡ C.Null t → ⊥) → ((b : Bool) → s ≡ C.«Bool» b → ⊥) → ((x : Float) → s ≡ C.«Float» x → ⊥) → ((n : ℕ) → s ≡ C.Id n → ⊥) → ((n : ℕ) → s ≡ C.Clob n → ⊥)
    → ((n : ℕ) → s ≡ C.Blob n → ⊥) → ⊥
unreached (C.Null t) r h1 h2 h3 h4 h5 h6 = h1 t refl
unreached (C.«Bool» b) r h1 h2 h3 h4 h5 h6 = h2 b refl
unreached (C.Int n) r h1 h2 h3 h4 h5 h6 = r
unreached (C.«Float» x) r h1 h2 h3 h4 h5 h6 = h3 x refl
unreached (C.Decimal neg m e) r h1 h2 h3 h4 h5 h6 = r
unreached (C.Timestamp x) r h1 h2 h3 h4 h5 h6 = r
unreached (C.Symbol n) r h1 h2 h3 h4 h5 h6 = r
unreached (C.Id i) r h1 h2 h3 h4 h5 h6 = h4 i refl
unreached (C.«String» n) r h1 h2 h3 h4 h5 h6 = r
unreached (C.Clob n) r h1 h2 h3 h4 h5 h6 = h5 n refl
unreached (C.Blob n) r h1 h2 h3 h4 h5 h6 = h6 n refl

pub write_clob-requires : goal.write_clob-requires
write_clob-requires c =
    let e : size_of c.args.s ≡ 5 + c.in-Clob.n = ap size_of c.in-Clob.is in
    record { n_bound = omega arith; end_in_bounds = c.requires.end_in_bounds }

pub overflow_add-result-in-Clob : goal.overflow_add-result-in-Clob
overflow_add-result-in-Clob c =
    let e : size_of c.args.s ≡ 5 + c.in-Clob.n = ap size_of c.in-Clob.is in
    let h = c.requires.s_bound in
    let k = c.requires.end_in_bounds in
    record { fits = omega arith }

pub overflow_add-result-in-Clob-2 : goal.overflow_add-result-in-Clob-2
overflow_add-result-in-Clob-2 c =
    let e : size_of c.args.s ≡ 5 + c.in-Clob.n = ap size_of c.in-Clob.is in
    let h = c.requires.s_bound in
    let k = c.requires.end_in_bounds in
    record { fits = omega arith }

pub write_blob-requires : goal.write_blob-requires
write_blob-requires c =
    let e : size_of c.args.s ≡ 5 + c.in-Blob.n = ap size_of c.in-Blob.is in
    record { n_bound = omega arith; end_in_bounds = c.requires.end_in_bounds }

pub overflow_add-result-in-Blob : goal.overflow_add-result-in-Blob
overflow_add-result-in-Blob c =
    let e : size_of c.args.s ≡ 5 + c.in-Blob.n = ap size_of c.in-Blob.is in
    let h = c.requires.s_bound in
    let k = c.requires.end_in_bounds in
    record { fits = omega arith }

pub overflow_add-result-in-Blob-2 : goal.overflow_add-result-in-Blob-2
overflow_add-result-in-Blob-2 c =
    let e : size_of c.args.s ≡ 5 + c.in-Blob.n = ap size_of c.in-Blob.is in
    let h = c.requires.s_bound in
    let k = c.requires.end_in_bounds in
    record { fits = omega arith }

pub returns-in-Null : goal.returns-in-Null
unfolding scalar_text
returns-in-Null c = let g = c.in-Null.is in record { text = (λ quoted. rw g c.format_null.ensures); place = rw g }

pub returns-in-Bool : goal.returns-in-Bool
unfolding scalar_text
returns-in-Bool c = let g = c.in-Bool.is in record { text = (λ quoted. rw g c.format_bool.ensures); place = rw g }

pub returns-in-Float : goal.returns-in-Float
unfolding scalar_text
returns-in-Float c = let g = c.in-Float.is in record { text = (λ quoted. rw g c.format_float.ensures); place = rw g }

pub returns-in-Id : goal.returns-in-Id
unfolding scalar_text sym_text
returns-in-Id c = let g = c.in-Id.is in record { text = (λ quoted. rw g c.format_symbol_id.ensures); place = rw g }

pub returns-in-Clob : goal.returns-in-Clob
unfolding scalar_text
returns-in-Clob c = let g = c.in-Clob.is in record { text = (λ quoted. rw g c.write_clob.ensures); place = rw g }

pub returns-in-Blob : goal.returns-in-Blob
unfolding scalar_text
returns-in-Blob c = let g = c.in-Blob.is in record { text = (λ quoted. rw g c.write_blob.ensures); place = rw g }

pub returns-in_default : goal.returns-in_default
returns-in_default c =
    let d = c.in_default in
    absurd (unreached c.args.s c.requires.rare d.not-Null d.not-Bool d.not-Float d.not-Id d.not-Clob d.not-Blob)
