-- Clobs are read back: what is written for any bytes is read as those bytes. Assumes nothing.
use Prim.Native.Nat.{ℕ, suc, ◌≤◌, ◌<◌}
use mathlib.Core.Path.{◌≡◌, refl, sym, subst, ◌∙◌}
use mathlib.Core.Bool.{true}
use mathlib.Core.List.{List, [], ◌∷◌, ◌++◌, append_assoc}
use mathlib.Core.Option.{none, some}
use native.Mathlib.Omega.{arith}
use lib.Dec.{ltb}
use lib.ListN.{length, get_or, length-append}
use borrow.Author.Tests.{ltb-true}
use Rattle.output.specs.Logic.{byte, ascii}
use Rattle.text_rules.specs.Texts.{starts, strip}
use Rattle.text_rules.specs.Escapes.{letter_of, has_letter, hex_digit, clob_escape, clob_body, letter, hex_value, hex}
use Rattle.tokens.specs.Quoted.{quote, letter_escape, byte_escape, raw_byte, clob_byte, clob_bytes, clob}
use Rattle.text_rules.specs.Text.{clob_text}
use Rattle.text_rules.proofs.Table.{same}
use Rattle.tokens.proofs.QuotedMany.{clob-many}
use Rattle.tokens.proofs.QuotedBack.{All, all_mark, all_piece}

-- ---- one byte: one test over all of them

quote_byte : (t : List ℕ) (c : ℕ) → c < 256 → quote (byte "\"") (clob_escape c ++ t) ≡ none
unfolding quote clob_escape has_letter letter_of
quote_byte t = same (λ c. quote (byte "\"") (clob_escape c ++ t)) (λ c. none) 256 refl

read_byte : (t : List ℕ) (c : ℕ) → c < 256 → clob_byte (clob_escape c ++ t) ≡ some (c ∷ [], t)
unfolding clob_byte starts byte_escape letter_escape letter hex hex_value raw_byte clob_escape has_letter letter_of hex_digit
read_byte t = same (λ c. clob_byte (clob_escape c ++ t)) (λ c. some (c ∷ [], t)) 256 refl

some_byte : (c : ℕ) → c < 256 → ltb 0 (length (clob_escape c)) ≡ true
unfolding clob_escape has_letter letter_of
some_byte = same (λ c. ltb 0 (length (clob_escape c))) (λ c. true) 256 refl

longer : (t : List ℕ) (c : ℕ) → c < 256 → length t < length (clob_escape c ++ t)
longer t c h = go (clob_escape c) (ltb-true 0 _ (some_byte c h))
  where
    go : (w : List ℕ) → 1 ≤ length w → length t < length (w ++ t)
    go w l = omega (arith, length-append w t)

-- ---- all of them

bytes_back : (r s : List ℕ) → ((k : ℕ) → get_or s k 0 < 256) → All clob_byte (byte "\"") (clob_body s ++ (byte "\"" ∷ r)) s r
unfolding clob_body
bytes_back r [] b = all_mark (byte "\"") r
bytes_back r (c ∷ s) b =
    let t = clob_body s ++ (byte "\"" ∷ r) in
    subst (λ (y : List ℕ). All clob_byte (byte "\"") y (c ∷ s) r) (sym (append_assoc (clob_escape c) (clob_body s) (byte "\"" ∷ r)))
    (all_piece (quote_byte t c (b 0)) (read_byte t c (b 0)) (longer t c (b 0)) (bytes_back r s (λ k. b (suc k))))

pub clob_back : (s r : List ℕ) → ((k : ℕ) → get_or s k 0 < 256) → clob (clob_text s ++ r) ≡ some (s, r)
unfolding clob clob_text strip
clob_back s r b =
    let t = clob_body s ++ (byte "\"" ∷ byte "}" ∷ byte "}" ∷ r) in
    let e : (clob_body s ++ ascii "\"}}") ++ r ≡ t = append_assoc (clob_body s) (ascii "\"}}") r in
    let g : clob_bytes (suc (length t)) t ≡ some (s, byte "}" ∷ byte "}" ∷ r) =
    clob-many (suc (length t)) t ∙ (bytes_back (byte "}" ∷ byte "}" ∷ r) s b).told (suc (length t)) (omega arith)
    in
    rw (e, g)
