-- What a sink took of a text that is written page by page.
use Rattle.std.specs.Prelude.{◌≡◌, ℕ, List, [], ◌++◌, flat_map, Result, OnOk, OnErr}
use Rattle.nf_edge.specs.Taken.{with_more}
use Rattle.nf_edge.specs.Writing.{SinkState, Wrote}
use Rattle.nf_text_def.specs.Words.{line_of_words}
use Rattle.nf_report_pages.specs.Written.{Line}

-- without a fault the sink took a prefix of the text, and the remainder is on the page
pub record Kept (before now : SinkState) (text page : List ℕ) : Type 0 where
  pub written : List ℕ
  pub all : written ++ page ≡ text
  pub took : now.took ≡ with_more before.took written
  pub no_fault : now.faults ≡ before.faults

-- A text was put behind the bytes of the page. Either the sink took a prefix of both and the remainder is on the page; or one fault ended
-- the writing, the sink took a proper prefix of both, and the page is empty.
pub record Gathered {E : Type 0} (before now : SinkState) (page_before page_now text : List ℕ) (result : Result (Unit {0}) E) : Type 0 where
  pub kept : OnOk result (Kept before now (page_before ++ text) page_now)
  pub refused : OnErr result (Wrote before now (page_before ++ text) result)
  pub emptied : OnErr result (page_now ≡ [])

-- lines were put on the page
abbrev pub GatheredLines : {E : Type 0} → SinkState → SinkState → List ℕ → List ℕ → List Line → Result (Unit {0}) E → Type 0
GatheredLines before now page_before page_now lines result =
    Gathered before now page_before page_now (flat_map line_of_words lines) result
