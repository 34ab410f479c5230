-- What is read of a line.
use Rattle.std.proofs.Common.{◌≡◌, ℕ, ◌+◌, ◌-◌, ◌≤◌, ◌==◌, Bool, List, ◌++◌, length, take, arith, ◌∙◌, sym, ap, length-take, take-take}
use Rattle.nf_text.proofs.Common.{slice_split, position_or_len, bytes_eq, read_line, is_blank, parts_with_bytes, words, line_of_words, bytes_len, whole_len}
use Rattle.nf_text.proofs.Common.{first_line}
use Rattle.nf_text.proofs.Positions.{position_or_len_within}
use Rattle.nf_text.proofs.Extents.{whole_bytes}

abbrev is_hash : ℕ → Bool
is_hash b = b == 35

abbrev parts : List ℕ → List (List ℕ)
parts bytes = parts_with_bytes (slice_split is_blank bytes)

-- the words before the comment are those of the line; the lengths stand as a difference of places
pub words_of_line : (rest : List ℕ) (start len comment : ℕ) → comment ≡ position_or_len is_hash (take (start + len - start) rest) → len ≡ bytes_len rest
    → parts (take (start + comment - start) rest) ≡ words (take (bytes_len rest) rest)
words_of_line rest start len comment e h =
    let bytes : ℕ = start + len - start in
    let within : comment ≤ bytes = omega (arith, e, position_or_len_within is_hash (take bytes rest), length-take bytes rest) in
    let same : start + comment - start ≡ comment = omega arith in
    let all : bytes ≡ bytes_len rest = omega (arith, h) in
    ap (λ n. parts (take n rest)) same ∙ ap parts (sym (take-take comment bytes rest within)) ∙ ap (λ n. parts (take n (take bytes rest))) e
    ∙ ap (λ n. words (take n rest)) all

pub line_is_read : (number : ℕ) (rest : List ℕ) (plain : Bool) (read : List (List ℕ)) (start whole : ℕ) → read ≡ words (take (bytes_len rest) rest) → whole ≡ whole_len rest
    → plain ≡ bytes_eq (take (start + whole - start) rest) (line_of_words read)
    → record { number = number; plain = plain; words = read } ≡ read_line (first_line number rest)
line_is_read number rest plain read start whole e h p =
    let all : List (List ℕ) = words (take (bytes_len rest) rest) in
    let same : start + whole - start ≡ whole_len rest = omega (arith, h) in
    let line : take (start + whole - start) rest ≡ (first_line number rest).bytes ++ (first_line number rest).ending = ap (λ n. take n rest) same ∙ sym (whole_bytes number rest) in
    let q : plain ≡ bytes_eq ((first_line number rest).bytes ++ (first_line number rest).ending) (line_of_words all) = p
    ∙ ap (λ t. bytes_eq t (line_of_words read)) line ∙ ap (λ ws. bytes_eq ((first_line number rest).bytes ++ (first_line number rest).ending)
    (line_of_words ws)) e in
    at q
  where
    at : plain ≡ bytes_eq ((first_line number rest).bytes ++ (first_line number rest).ending) (line_of_words (words (take (bytes_len rest) rest)))
        → record { number = number; plain = plain; words = read } ≡ read_line (first_line number rest)
    at q = ap (λ ws. record { number = number; plain = plain; words = ws }) e ∙ ap (λ b. record { number = number; plain = b; words = words (take (bytes_len rest) rest) }) q

-- what stands before the comment ends before the line does
pub comment_within : (rest : List ℕ) (start len comment whole : ℕ) → comment ≤ length (take (start + len - start) rest) → len ≤ whole → comment ≤ whole
comment_within rest start len comment whole h k = omega (arith, h, k, length-take (start + len - start) rest)
