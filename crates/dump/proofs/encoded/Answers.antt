-- `encoded` meets its contract: by the reading, and by what the encoding answers.
use Rattle.std.proofs.Common.{arith}
use Rattle.std.proofs.lemmas.Result.{err_from_is_err_and}
use Rattle.dump.specs.Dump.{printed_of}
use Rattle.dump.proofs.Whole.{bad_pieces, words_pieces, refused_printed}
use Rattle.dump.proofs.encoded.Goals as goal

pub returns-in_err-read : goal.returns-in_err-read
returns-in_err-read c =
    let p = err_from_is_err_and c.from_residual.result c.from_residual.ensures.1 in
    rw (p.1, p.2, c.in_err-read.was) (bad_pieces _ (omega arith))

pub returns-in_err-encode_at : goal.returns-in_err-encode_at
unfolding printed_of
returns-in_err-encode_at c =
    let p = err_from_is_err_and c.from_residual-in_err-encode_at.result c.from_residual-in_err-encode_at.ensures.1 in
    rw (p.1, p.2, c.in_ok-read.was) (refused_printed _ _ _ _ _ (rw (c.layout_of-l.ensures, c.requires) at c.in_err-encode_at.ensures))

pub returns : goal.returns
unfolding printed_of
returns c = rw c.in_ok-read.was (words_pieces _ _ _ _ (rw (c.layout_of-l.ensures, c.requires) at c.in_ok-encode_at.ensures))
