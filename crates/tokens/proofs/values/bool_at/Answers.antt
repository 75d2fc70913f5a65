-- `values::bool_at` meets its contract: each arm is told which kind it has. Assumes nothing.
use mathlib.Core.Path.{refl}
use mathlib.Core.Bool.{true, false}
use Rattle.tokens.proofs.TokensLaws.{bool_here, bool-none, no_bool}
use Rattle.tokens.proofs.values.bool_at.Goals as goal

pub returns-in-True : goal.returns-in-True
returns-in-True c = bool_here c.word_at-w.ensures _ true c.in-True.is refl

pub returns-in-False : goal.returns-in-False
returns-in-False c = bool_here c.word_at-w.ensures _ false c.in-False.is refl

pub returns-in_default : goal.returns-in_default
returns-in_default c = bool-none c.word_at-w.ensures _ refl (no_bool _ c.in_default.not-True c.in_default.not-False)
