use Rattle.std.proofs.Common.{ap, sym, refl, length}
use Rattle.nf_app_words.proofs.Common.{slice_get_read, slice_get_past, text_in}
use Rattle.nf_app_words.proofs.given.file_at.Goals as goal

pub returns-in-Some : goal.returns-in-Some
returns-in-Some c =
    ap text_in (sym (slice_get_read c.args.files.now (length c.args.files.now) c.args.place c.in-Some.file.now refl c.in-Some.ensures.lookup.3.0
    c.in-Some.ensures.lookup.1))

pub returns-in-None : goal.returns-in-None
returns-in-None c = ap text_in (sym (slice_get_past c.args.files.now c.args.place c.in-None.ensures.lookup.3))
