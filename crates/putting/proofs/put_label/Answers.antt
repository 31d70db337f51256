-- `put_label` meets its contract: the head, and the text behind it.
use Rattle.std.proofs.Common.{length, refl}
use Rattle.written.specs.Written.{tag_of, content_of}
use Rattle.putting.proofs.BehindHead.{put_behind_head}
use Rattle.putting.proofs.put_label.Goals as goal

pub returns-clause-put : goal.returns-clause-put
unfolding tag_of content_of
returns-clause-put c =
    let label = c.args.label.now in
    put_behind_head 1 (length label) label _ _ _ refl c.put_head.ensures c.put_text.ensures
