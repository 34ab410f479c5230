-- The rules of bytes and of the first line, for one kind of side file.
use Rattle.std.specs.Prelude.{◌≡◌}
use Rattle.nf_side_def.specs.Frame.{Frame}
use Rattle.nf_side.specs.declared.head.FileHead.{FileHead}

-- the rules and the keyword are those of a frame
pub record IsHeadOf {Rule Draft Given : Type 0} (frame : Frame Rule Draft Given) (head : FileHead Rule) : Type 0 where
  pub not_ascii : head.not_ascii ≡ frame.not_ascii
  pub long_line : head.long_line ≡ frame.long_line
  pub no_head : head.no_head ≡ frame.no_head
  pub keyword : head.keyword.now ≡ frame.keyword
