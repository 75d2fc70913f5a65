-- The words of the command line. Assumes nothing: these are definitions.
use Rattle.std.specs.Prelude.{ℕ, List, Option, Some, None}
use Rattle.output.specs.Logic.{if, ascii}
use Rattle.text_rules.specs.Texts.{same}
use Rattle.ion.specs.declared.words.Word.{Word}
use Rattle.ion.specs.declared.words.Word.TheVariants.{Compact, Lines, Pretty, Tree, Length, Check, Show, Find, Read, Split, Convert, Help, Quoted}

-- the command that a word is, if it is one
unfoldable pub command_of : List ℕ → Option Word
command_of s =
    if (same (ascii "compact") s) (Some Compact)
    (if (same (ascii "lines") s) (Some Lines)
    (if (same (ascii "pretty") s) (Some Pretty)
    (if (same (ascii "tree") s) (Some Tree)
    (if (same (ascii "length") s) (Some Length)
    (if (same (ascii "check") s) (Some Check)
    (if (same (ascii "show") s) (Some Show)
    (if (same (ascii "find") s) (Some Find)
    (if (same (ascii "read") s) (Some Read)
    (if (same (ascii "split") s) (Some Split)
    (if (same (ascii "convert") s) (Some Convert)
    (if (same (ascii "help") s) (Some Help)
    (if (same (ascii "--quoted") s) (Some Quoted) None))))))))))))
