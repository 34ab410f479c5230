-- Names are text.
use Rattle.std.proofs.Common.{◌≡◌, ℕ, ◌<◌, true, List, Result, Ok, Err, MatchResult, arith, IsOk, [], ◌∷◌, ◌++◌, ◌∙◌, ◌≤◌, ◌&&◌, refl, ap, take, nat_le}
use Rattle.std.proofs.Common.{length}
use Rattle.nf_net_file.proofs.Common.{list_all, IsAscii, IsUtf8, nat_tests, is_name, is_name_byte, longest_name, take_at, and_parts}
use Rattle.std.proofs.lemmas.Str.{IsUtf8-from_ascii}
use Rattle.std.proofs.lemmas.Str.Ascii.{IsAscii-nil, IsAscii-cons}
use Rattle.nf_net_file.specs.Names.{IsKeptName}

small_byte : (b : ℕ) → is_name_byte b ≡ true → b < 128
small_byte b e = grind (arith, nat_tests)

ascii : (bytes : List ℕ) → list_all is_name_byte bytes ≡ true → IsAscii bytes
ascii [] e = IsAscii-nil
ascii (b ∷ rest) e = let p = and_parts (is_name_byte b) (list_all is_name_byte rest) e in IsAscii-cons b rest (small_byte b p.0) (ascii rest p.1)

pub name_is_text : (name : List ℕ) → is_name name ≡ true → IsUtf8 name
name_is_text name e =
    let p = and_parts (nat_le 1 (length name)) (nat_le (length name) 24 && list_all is_name_byte name) e in
    let q = and_parts (nat_le (length name) 24) (list_all is_name_byte name) p.1 in
    IsUtf8-from_ascii name (ascii name q.1)

pub ok_by_cases : {X Y : Type 0} (r : Result X Y) (P : X → Type 0) (Q : Y → Type 0) → MatchResult r P Q → ((y : Y) → Q y → ⊥) → IsOk r
ok_by_cases (Ok x) P Q h never = refl
ok_by_cases (Err y) P Q h never = absurd (never y h)

-- ---- a name that is kept
pub name_fits : (word : List ℕ) → is_name word ≡ true → length word ≤ longest_name
name_fits word e =
    let p = and_parts (nat_le 1 (length word)) (nat_le (length word) longest_name && list_all is_name_byte word) e in
    let fits : nat_le (length word) longest_name ≡ true = (and_parts (nat_le (length word) longest_name) (list_all is_name_byte word) p.1).0 in
    grind (arith, nat_tests)

pub name_front : (word bytes rest : List ℕ) → bytes ≡ word → take (length word) (bytes ++ rest) ≡ word
name_front word bytes rest e = take_at bytes rest (length word) (ap length e) ∙ e

pub kept_name : (word bytes rest : List ℕ) → bytes ≡ word → is_name word ≡ true → IsKeptName (bytes ++ rest) (length word)
kept_name word bytes rest e name = record { fits = name_fits word name; is_name = ap is_name (name_front word bytes rest e) ∙ name }
