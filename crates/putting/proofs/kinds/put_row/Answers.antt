-- `put_row` meets its contract: the head, and the content behind it.
use Rattle.std.proofs.Common.{◌+◌, ◌*◌, length, arith}
use Rattle.written.specs.Values.{RowEntry}
use Rattle.written.specs.Written.{words, tag_of, content_of}
use Rattle.written.proofs.EntryFields.{words_length}
use Rattle.putting.proofs.BehindHead.{put_behind_head}
use Rattle.putting.proofs.kinds.put_row.Goals as goal

pub returns-clause-put : goal.returns-clause-put
unfolding words tag_of content_of
returns-clause-put c =
    let row = c.args.row in
    let gaps = c.args.gaps.now in
    put_behind_head 3 (8 + 2 * length gaps) (content_of (RowEntry row.speed row.deadline row.followers gaps)) _ _ _
    (omega (arith, words_length gaps)) c.put_head.ensures c.put_row_content.ensures
