-- The pieces that are read from a loads file.
use Rattle.std.proofs.Common.{◌≡◌, ℕ, zero, suc, List, [], ◌∷◌, ◌++◌, length, map, set, None, slice_get, unwrap_or, Ok, refl, ap, subst, ◌∙◌}
use Rattle.nf_report_laws.proofs.Common.{length-set, AllByRecursion, ◌>>=◌, read_lines, content_lines, Piece, ArePieces, Name, Named, unless_rule, same_Ok}
use Rattle.nf_report_def.specs.declared.LoadRule.TheVariants.{L4, L9, L10, L11, L12}
use Rattle.nf_report_def.specs.LoadsFile.{LoadEntry, Rate, End, LoadsDraft, most_lines_of_a_link, pieces_at, load_entry, load_rule_of, load_after, add_load}
use Rattle.nf_report_def.specs.LoadsFile.{if_ended, loads_frame, loads_in}
use Rattle.nf_report_laws.proofs.FrameKept.{no_rule, draft_kept, file_is}
use Rattle.nf_report_laws.proofs.Outcomes.{both_ok, where_true, where_false}
use Rattle.nf_report_laws.proofs.PiecesKept.{GoOn, go_on_pieces, piece_kept}

-- ---- of each link
all_set : {X : Type 0} (P : X → Type 0) (xs : List X) (i : ℕ) (x : X) → AllByRecursion P xs → P x → AllByRecursion P (set xs i x)
all_set P [] i x w p = tt
all_set P (y ∷ xs) zero x w p = (p, w.1)
all_set P (y ∷ xs) (suc i) x w p = (w.0, all_set P xs i x w.1 p)

all_there : {X : Type 0} (P : X → Type 0) (xs : List X) (i : ℕ) (d : X) → AllByRecursion P xs → P d → P (unwrap_or (slice_get xs i) d)
all_there P [] i d w p = p
all_there P (y ∷ xs) zero d w p = w.0
all_there P (y ∷ xs) (suc i) d w p = all_there P xs i d w.1 p

record IsGood (n : ℕ) (draft : LoadsDraft) : Type 0 where
  pub all : AllByRecursion (λ pieces. GoOn None pieces) draft.pieces
  pub many : length draft.pieces ≡ n

-- ---- a line
entry_kept : (n : ℕ) (draft : LoadsDraft) (entry : LoadEntry) (next : LoadsDraft) → IsGood n draft
    → unless_rule (load_rule_of draft entry) (load_after draft entry) ≡ Ok next → IsGood n next
entry_kept n draft End next g e = subst (λ (d : LoadsDraft). IsGood n d) (same_Ok _ _ e) (record { all = g.all; many = g.many })
entry_kept n draft (Rate link piece) next g e =
    let w = no_rule (load_rule_of draft (Rate link piece)) (load_after draft (Rate link piece)) next e in
    let before = pieces_at draft.pieces link in
    let k = piece_kept most_lines_of_a_link L9 L10 L11 before piece (all_there (λ pieces. GoOn None pieces) draft.pieces link [] g.all tt) w.0 in
    subst (λ (d : LoadsDraft). IsGood n d) w.1 (record {
      all = all_set (λ pieces. GoOn None pieces) draft.pieces link (before ++ piece ∷ []) g.all k.0;
      many = length-set draft.pieces link (before ++ piece ∷ []) ∙ g.many;
    })

line_kept : (n : ℕ) (names : List Name) (draft : LoadsDraft) (words : List (List ℕ)) (next : LoadsDraft) → IsGood n draft → add_load names draft words ≡ Ok next → IsGood n next
line_kept n names draft words next g e =
    let w = both_ok (load_entry names words) (λ entry. unless_rule (load_rule_of draft entry) (load_after draft entry)) next
    (where_false draft.ended L4 (load_entry names words >>= λ entry. unless_rule (load_rule_of draft entry) (load_after draft entry)) next e).1 in
    entry_kept n draft w.between next g w.next

-- ---- the file
none_yet : (names : List Name) → AllByRecursion (λ pieces. GoOn None pieces) (map (λ _. []) names) × (length (map {B = List Piece} (λ _. []) names) ≡ length names)
none_yet [] = (tt, refl)
none_yet (name ∷ names) = let w = none_yet names in ((tt, w.0), ap suc w.1)

ended_is : (draft : LoadsDraft) (pieces : List (List Piece)) → if_ended draft ≡ Ok pieces → draft.pieces ≡ pieces
ended_is draft pieces e = same_Ok _ _ (where_true draft.ended (record { rule = L12; line = 0 }) (Ok draft.pieces) pieces e).1

pub loads-pieces : (n : Named) (text : List ℕ) (pieces : List (List Piece)) → loads_in n text ≡ Ok pieces
    → (length pieces ≡ length n.link_names) × ((e : ℕ) → ArePieces (pieces_at pieces e))
unfolding loads_in
loads-pieces n text pieces e =
    let w = file_is (loads_frame n) text pieces e in
    let none = none_yet n.link_names in
    let g = draft_kept (loads_frame n) (IsGood (length n.link_names)) (line_kept (length n.link_names) n.link_names) (record { all = none.0; many = none.1 })
    (content_lines (read_lines text)) w.between w.first in
    let same = ended_is w.between pieces w.next in
    subst (λ (l : List (List Piece)). (length l ≡ length n.link_names) × ((e : ℕ) → ArePieces (pieces_at l e))) same
    (g.many, λ e. go_on_pieces (pieces_at w.between.pieces e) (all_there (λ pieces. GoOn None pieces) w.between.pieces e [] g.all tt))
