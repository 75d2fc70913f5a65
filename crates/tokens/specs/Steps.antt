-- What the contracts of token readers say. Assumes nothing: these are definitions.
use Rattle.std.specs.Prelude.{ℕ, ◌+◌, ◌^◌, ◌≤◌, ◌<◌, ◌≡◌, Bool, true, not, ◌&&◌, List, eqb, leb, ltb, length, take, drop, get_or, Some, None}
use Rattle.std.specs.Prelude as std
use Rattle.std.proofs.Math.Option.{Option, none, some}
use Rattle.output.specs.Logic.{byte}
use Rattle.output.specs.Wrote.{Wrote}
use Rattle.text_rules.specs.Escapes.{hex}
use Rattle.tokens.specs.Quoted.{strict_raw}
use Rattle.tokens.specs.declared.quoted.Step.{Step}

-- The buffer went from b to b', and keeps its length and the bytes before p: so much is said of a reader that fails, which may have written from
-- p on.
pub record Kept (p : ℕ) (b b' : List ℕ) : Type 0 where
  pub as_long : length b' ≡ length b
  pub as_before : take p b' ≡ take p b

-- A reader read up to a place that is lo at least, and wrote the bytes that it read at p; or nothing is read there, and the buffer is kept before p.
abbrev pub Copied : List ℕ → ℕ → List ℕ → List ℕ → ℕ → Option (List ℕ × List ℕ) → std.Option Step → Type 0
Copied text lo b b' p o (Some s) = (x : List ℕ) × (o ≡ some (x, drop s.at text)) × (lo ≤ s.at) × (s.at ≤ length text) × Wrote b b' p s.pos x
Copied text lo b b' p o None = (o ≡ none) × Kept p b b'

pub record Copies (text : List ℕ) (lo : ℕ) (b b' : List ℕ) (p : ℕ) (o : Option (List ℕ × List ℕ)) (r : std.Option Step) : Type 0 where
  pub told : Copied text lo b b' p o r

-- ---- inner functions of quoted text and clobs

-- w hex digits at a place, and their number
abbrev pub HexRead : List ℕ → ℕ → ℕ → std.Option ℕ → Type 0
HexRead text at w (Some v) = (hex w 0 (drop at text) ≡ some (v, drop (at + w) text)) × (at + w ≤ length text) × (v < 16 ^ w)
HexRead text at w None = hex w 0 (drop at text) ≡ none

pub record HexAt (text : List ℕ) (at w : ℕ) (r : std.Option ℕ) : Type 0 where
  pub told : HexRead text at w r

-- a byte that is a character of quoted text as it stands, where the mark is q: by both raw rules, for what Ion's takes 01's takes
unfoldable pub is_plain : ℕ → ℕ → Bool
is_plain q c = strict_raw c && ltb c 0x80 && not (eqb c (byte "\\")) && not (eqb c q)

-- a byte that stands for itself in a clob
unfoldable pub is_plain_byte : ℕ → Bool
is_plain_byte c = leb 0x20 c && leb c 0x7E && not (eqb c (byte "\\")) && not (eqb c (byte "\""))

-- every byte from a place up to r is of the kind p
pub record RunTo (p : ℕ → Bool) (text : List ℕ) (at r : ℕ) : Type 0 where
  pub ahead : at ≤ r
  pub inside : r ≤ length text
  pub each : (k : ℕ) → at ≤ k → k < r → p (get_or text k 0) ≡ true
