-- What the readers of nulls, bools and symbols say of their answers. Assumes nothing: these are definitions.
use Rattle.std.specs.Prelude.{ℕ, ◌≤◌, ◌≡◌, List, eqb, length, drop, Some, None}
use Rattle.std.specs.Prelude as std
use Rattle.std.proofs.Math.Option.{Option, none, some}
use Rattle.output.specs.Wrote.{Wrote}
use Rattle.text_rules.specs.Text.{Sym}
use Rattle.tokens.specs.Steps.{Kept}
use Rattle.tokens.specs.declared.values.SymbolRead.{SymbolRead}
use Rattle.tokens.specs.declared.values.SymbolRead.TheVariants as S

-- A symbol was read up to a place that is lo at least and its text written at p; or it is a number, and the buffer is as it was; or there is none,
-- and the buffer is kept before p.
abbrev pub SymbolTold : List ℕ → ℕ → List ℕ → List ℕ → ℕ → Option (Sym × List ℕ) → std.Option SymbolRead → Type 0
SymbolTold text lo b b' p o (Some (S.Text at pos)) = (w : List ℕ) × (o ≡ some (Sym.text w, drop at text)) × (lo ≤ at) × (at ≤ length text) × Wrote b b' p pos w
SymbolTold text lo b b' p o (Some (S.Id n at)) = (o ≡ some (Sym.id n, drop at text)) × (lo ≤ at) × (at ≤ length text) × (b' ≡ b)
SymbolTold text lo b b' p o None = (o ≡ none) × Kept p b b'

pub record SymbolAt (text : List ℕ) (lo : ℕ) (b b' : List ℕ) (p : ℕ) (o : Option (Sym × List ℕ)) (r : std.Option SymbolRead) : Type 0 where
  pub told : SymbolTold text lo b b' p o r
