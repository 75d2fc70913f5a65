-- Blobs, read. Assumes nothing: these are definitions.
use Rattle.std.specs.Prelude.{ℕ, List, [], ◌∷◌, eqb, length, drop}
use Rattle.std.proofs.Math.Option.{Option, some}
use Rattle.output.specs.Logic.{if, then, byte, ascii}
use Rattle.text_rules.specs.Texts.{strip}
use Rattle.text_rules.specs.Base64.{base64_bytes}

-- the text before its first `}`, or all of it where there is none
unfoldable pub until_brace : List ℕ → List ℕ
until_brace [] = []
until_brace (c ∷ t) = if (eqb c (byte "}")) [] (c ∷ until_brace t)

-- base64 through `}}`
unfoldable pub blob_rest : List ℕ → Option (List ℕ × List ℕ)
blob_rest t =
    then (base64_bytes (until_brace t)) (λ s.
    then (strip (ascii "}}") (drop (length (until_brace t)) t)) (λ r. some (s, r)))

-- one token: `{{`, base64, `}}`. No blanks stand inside: they are no characters of base64
unfoldable pub blob : List ℕ → Option (List ℕ × List ℕ)
blob t = then (strip (ascii "{{") t) blob_rest
