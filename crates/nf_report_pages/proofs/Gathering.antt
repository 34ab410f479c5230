-- What a sink took of a text that is written page by page, part by part.
use Rattle.std.proofs.Common.{◌≡◌, ℕ, List, [], ◌++◌, refl, sym, ap, ◌∙◌, subst, append_assoc, append-nil, arith, flat_map, Option, Some, None, Result, Ok}
use Rattle.std.proofs.Common.{Err, IsErr}
use Rattle.nf_report_pages.proofs.Common.{flat_map-append, SinkState, Wrote, Wrote-append, Wrote-longer, line_of_words, Line, Kept, Gathered, GatheredLines}
use Rattle.nf_edge.specs.Taken.{with_more}
use Rattle.nf_report_pages.proofs.Written.{wrote_front}

-- ---- what is kept
-- what the sink took of it
pub kept_wrote : {E : Type 0} {old now : SinkState} {text page : List ℕ} {u : Unit {0}} (k : Kept old now text page)
    → Wrote {E = E} old now k.written (Ok u)
kept_wrote {E} {old} {now} {text} {page} {u} k = record {
  whole = k.took;
  no_fault = k.no_fault;
  front = tt;
  cause = tt;
  never_falls = let same : now.faults ≡ old.faults = k.no_fault in omega (arith, same);
}

-- nothing more taken
pub nothing_more : (took : Option (List ℕ)) → took ≡ with_more took []
nothing_more None = refl
nothing_more (Some bytes) = ap Some (sym (append-nil bytes))

-- ---- bytes on a page
-- there was room
pub put_there : {E : Type 0} {sink : SinkState} {u : Unit {0}} (before now bytes : List ℕ) → now ≡ before ++ bytes
    → Gathered {E = E} sink sink before now bytes (Ok u)
put_there {E} {sink} before now bytes e = record { kept = record { written = []; all = e; took = nothing_more sink.took; no_fault = refl }; refused = tt; emptied = tt }

-- nothing is put yet
pub gathered_nil : {E : Type 0} {sink : SinkState} {page : List ℕ} → Gathered {E = E} sink sink page page [] (Ok tt)
gathered_nil {E} {sink} {page} = put_there page page [] (sym (append-nil page))

-- the page was written, and the bytes are on it then
pub put_on_next : {E F : Type 0} {old now : SinkState} {u v : Unit {0}} (page empty end bytes : List ℕ) → empty ≡ [] → end ≡ empty ++ bytes
    → Wrote {E = E} old now page (Ok u) → Gathered {E = F} old now page end bytes (Ok v)
put_on_next page empty end bytes e s w = record {
  kept = record {
    written = page;
    all = ap (λ (l : List ℕ). page ++ l) (s ∙ ap (λ (l : List ℕ). l ++ bytes) e);
    took = w.whole;
    no_fault = w.no_fault;
  };
  refused = tt;
  emptied = tt;
}

-- the page was written, and then the bytes
pub put_behind : {E F : Type 0} {old before now : SinkState} {u : Unit {0}} (page end bytes : List ℕ) (r : Result (Unit {0}) E) → end ≡ []
    → Wrote {E = F} old before page (Ok u) → Wrote before now bytes r → Gathered old now page end bytes r
put_behind {E} {F} {old} {before} {now} page end bytes (Ok v) e w x = let both = Wrote-append old before now page bytes (Ok v) w x in record {
  kept = record {
    written = page ++ bytes;
    all = ap (λ (l : List ℕ). (page ++ bytes) ++ l) e ∙ append-nil (page ++ bytes);
    took = both.whole;
    no_fault = both.no_fault;
  };
  refused = tt;
  emptied = tt;
}
put_behind {E} {F} {old} {before} {now} page end bytes (Err d) e w x = record { kept = tt; refused = Wrote-append old before now page bytes (Err d) w x; emptied = e }

-- the page was refused
pub page_refused : {E F : Type 0} {old now : SinkState} {e : E} (page end bytes : List ℕ) (r : Result (Unit {0}) F) → IsErr r
    → end ≡ [] → Wrote old now page (Err e) → Gathered old now page end bytes r
page_refused page end bytes (Ok u) fails empty w = cc
page_refused {E} {F} {old} {now} {e} page end bytes (Err d) fails empty w =
    record { kept = tt; refused = Wrote-longer old now page bytes e d w; emptied = empty }

-- the same page at the start
pub same_start : {E : Type 0} {old now : SinkState} {end text : List ℕ} {r : Result (Unit {0}) E} (first page : List ℕ) → first ≡ page
    → Gathered old now first end text r → Gathered old now page end text r
same_start {E} {old} {now} {end} {text} {r} first page e w = subst (λ (p : List ℕ). Gathered old now p end text r) e w

-- ---- texts
module _ {E F : Type 0} {old before now : SinkState} {page middle end first next : List ℕ} {u : Unit {0}} where
  both_for : (r : Result (Unit {0}) E) (text : List ℕ) → first ++ next ≡ text → Gathered {E = F} old before page middle first (Ok u)
      → Gathered before now middle end next r → Gathered old now page end text r
  both_for (Ok v) text e x y = let k = x.kept in let m = y.kept in record {
    kept = record {
      written = k.written ++ m.written;
      all = append_assoc k.written m.written end ∙ ap (λ (l : List ℕ). k.written ++ l) m.all ∙ sym (append_assoc k.written middle next)
          ∙ ap (λ (l : List ℕ). l ++ next) k.all ∙ append_assoc page first next ∙ ap (λ (l : List ℕ). page ++ l) e;
      took = (Wrote-append old before now k.written m.written (Ok v) (kept_wrote {E = F} k) (kept_wrote {E = E} m)).whole;
      no_fault = m.no_fault ∙ k.no_fault;
    };
    refused = tt;
    emptied = tt;
  }
  both_for (Err d) text e x y = let k = x.kept in record {
    kept = tt;
    refused = subst (λ (t : List ℕ). Wrote old now t (Err d))
        (sym (append_assoc k.written middle next) ∙ ap (λ (l : List ℕ). l ++ next) k.all ∙ append_assoc page first next ∙ ap (λ (l : List ℕ). page ++ l) e)
        (Wrote-append old before now k.written (middle ++ next) (Err d) (kept_wrote {E = F} k) y.refused);
    emptied = y.emptied;
  }

  -- the next part follows the first
  pub gathered_both : {r : Result (Unit {0}) E} (text : List ℕ) → first ++ next ≡ text → Gathered {E = F} old before page middle first (Ok u)
      → Gathered before now middle end next r → Gathered old now page end text r
  gathered_both {r} text e v w = both_for r text e v w

-- the text goes on after what failed
pub gathered_front : {E F : Type 0} {old now : SinkState} {page end first : List ℕ} {e : E} (rest text : List ℕ) (r : Result (Unit {0}) F)
    → first ++ rest ≡ text → IsErr r → Gathered old now page end first (Err e) → Gathered old now page end text r
gathered_front rest text (Ok u) s fails w = cc
gathered_front {E} {F} {old} {now} {page} {end} {first} {e} rest text (Err d) s fails w = record {
  kept = tt;
  refused = subst (λ (t : List ℕ). Wrote {E = F} old now t (Err d)) (append_assoc page first rest ∙ ap (λ (l : List ℕ). page ++ l) s)
      (Wrote-longer old now (page ++ first) rest e d w.refused);
  emptied = w.emptied;
}

-- ---- lines
module _ {E F : Type 0} {old before now : SinkState} {page middle end : List ℕ} where
  pub gathered_next : {u : Unit {0}} {r : Result (Unit {0}) E} (first next lines : List Line) → first ++ next ≡ lines
      → GatheredLines {E = F} old before page middle first (Ok u) → GatheredLines before now middle end next r → GatheredLines old now page end lines r
  gathered_next first next lines e v w = gathered_both _ (sym (flat_map-append line_of_words first next) ∙ ap (λ l. flat_map line_of_words l) e) v w

pub gathered_failed : {E F : Type 0} {old now : SinkState} {page end : List ℕ} {e : E} (first rest lines : List Line) (r : Result (Unit {0}) F)
    → first ++ rest ≡ lines → IsErr r → GatheredLines old now page end first (Err e) → GatheredLines old now page end lines r
gathered_failed first rest lines r s fails w =
    gathered_front (flat_map line_of_words rest) (flat_map line_of_words lines) r (sym (flat_map-append line_of_words first rest) ∙ ap (λ l. flat_map line_of_words l) s) fails w

-- the same lines, put in another way
pub same_gathered : {E : Type 0} {old now : SinkState} {page end : List ℕ} {r : Result (Unit {0}) E} (first lines : List Line) → first ≡ lines
    → GatheredLines old now page end first r → GatheredLines old now page end lines r
same_gathered {E} {old} {now} {page} {end} {r} first lines e w = subst (λ (l : List Line). GatheredLines old now page end l r) e w

-- a later part fails
pub gathered_then_failed : {E F G : Type 0} {old before now : SinkState} {page middle end : List ℕ} {u : Unit {0}} {e : E} (first next rest lines : List Line)
    (r : Result (Unit {0}) F) → (first ++ next) ++ rest ≡ lines → IsErr r → GatheredLines {E = G} old before page middle first (Ok u)
    → GatheredLines before now middle end next (Err e) → GatheredLines old now page end lines r
gathered_then_failed first next rest lines r s fails v w = gathered_failed (first ++ next) rest lines r s fails (gathered_next first next (first ++ next) refl v w)

-- three parts, the last two of them first
pub right_first : {A : Type 0} (first second third : List A) → first ++ (second ++ third) ≡ first ++ second ++ third
right_first first second third = sym (append_assoc first second third)

-- ---- the last page
-- it was written, or refused
pub gathered_written : {E F : Type 0} {old now end : SinkState} {u : Unit {0}} {r : Result (Unit {0}) E} (start page text bytes : List ℕ) → start ≡ [] → bytes ≡ page
    → Gathered {E = F} old now start page text (Ok u) → Wrote now end bytes r → Wrote old end text r
gathered_written {E} {F} {old} {now} {end} {u} {r} start page text bytes e s x w =
    let k = x.kept in
    subst (λ (t : List ℕ). Wrote old end t r) (ap (λ (l : List ℕ). k.written ++ l) s ∙ k.all ∙ ap (λ (l : List ℕ). l ++ text) e)
    (Wrote-append old now end k.written bytes r (kept_wrote {E = F} k) w)

-- an earlier one was refused
pub gathered_refused : {E F : Type 0} {old now : SinkState} {e : E} (start page text : List ℕ) (r : Result (Unit {0}) F) → start ≡ [] → IsErr r
    → Gathered old now start page text (Err e) → Wrote old now text r
gathered_refused start page text r e fails w = wrote_front [] text r (append-nil (start ++ text) ∙ ap (λ (l : List ℕ). l ++ text) e) fails w.refused

-- of several parts one was refused
pub parts_refused : {E : Type 0} {old now : SinkState} (start page text : List ℕ) (r : Result (Unit {0}) E) → start ≡ [] → IsErr r
    → Gathered old now start page text r → Wrote old now text r
parts_refused start page text (Ok u) e fails w = cc
parts_refused start page text (Err d) e fails w = gathered_refused start page text (Err d) e fails w
