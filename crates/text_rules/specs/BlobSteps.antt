-- What the inner functions on blobs say of their answers. Assumes nothing: these are definitions.
use Rattle.std.specs.Prelude.{ℕ, ◌%◌, List, map}
use Rattle.text_rules.specs.Base64.{base64_character}

-- numbers, of which the six low bits count, as characters
unfoldable pub printed : List ℕ → List ℕ
printed s = map (λ v. base64_character (v % 64)) s
