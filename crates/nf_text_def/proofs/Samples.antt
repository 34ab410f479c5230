-- The definitions at some texts, by computation.
use Rattle.std.specs.Prelude.{◌≡◌, ℕ, true, false, List, [], ◌∷◌, ◌++◌, map, None, Some, codes, refl, replicate}
use Rattle.nf_text_def.specs.Words.{read_lines, content_lines, words}
use Rattle.nf_text_def.specs.Faults.{first_fault, NotAscii, LongLine}

-- a comment with CR LF, an empty line, a plain one, one with a tab and two spaces, one with a comment, and a last one with no LF
abbrev text : List ℕ
text = codes "# demo" ++ 13 ∷ 10 ∷ 10 ∷ codes "sink t" ++ 10 ∷ codes "link" ++ 9 ∷ codes "a  s" ++ 10 ∷ codes "end # x" ++ 10 ∷ codes "end"

pub text_read : read_lines text ≡
    record { number = 1; plain = false; words = [] }
    ∷ record { number = 2; plain = true; words = [] }
    ∷ record { number = 3; plain = true; words = codes "sink" ∷ codes "t" ∷ [] }
    ∷ record { number = 4; plain = false; words = codes "link" ∷ codes "a" ∷ codes "s" ∷ [] }
    ∷ record { number = 5; plain = false; words = codes "end" ∷ [] }
    ∷ record { number = 6; plain = false; words = codes "end" ∷ [] } ∷ []
text_read = refl

pub content_numbers : map (λ line. line.number) (content_lines (read_lines text)) ≡ 3 ∷ 4 ∷ 5 ∷ 6 ∷ []
content_numbers = refl

pub no_line : read_lines [] ≡ []
no_line = refl

pub blanks : words (codes "  a #b") ≡ codes "a" ∷ []
blanks = refl

-- a CR is allowed in an ending alone, and 127 nowhere; the first line counts
pub carriage_return : first_fault (codes "a" ++ 13 ∷ 10 ∷ codes "b" ++ 13 ∷ codes "c" ++ 10 ∷ 127 ∷ []) ≡ Some (NotAscii 2)
carriage_return = refl

pub last_carriage_return : first_fault (codes "a" ++ 13 ∷ []) ≡ Some (NotAscii 1)
last_carriage_return = refl

pub double_carriage_return : first_fault (codes "a" ++ 13 ∷ 13 ∷ 10 ∷ []) ≡ Some (NotAscii 1)
double_carriage_return = refl

-- 1,000 bytes and CR LF are no fault; one more is, unless a byte isn't ASCII
pub long_enough : first_fault (replicate 1000 97 ++ 13 ∷ 10 ∷ []) ≡ None
long_enough = refl

pub too_long : first_fault (replicate 1001 97 ++ 10 ∷ 128 ∷ []) ≡ Some (LongLine 1)
too_long = refl

pub not_ascii_first : first_fault (replicate 1001 97 ++ 128 ∷ []) ≡ Some (NotAscii 1)
not_ascii_first = refl
