-- `put_field` meets its contract: the head, and the numbers behind it.
use Rattle.std.proofs.Common.{◌*◌, length, sym}
use Rattle.fields.specs.Fields.{tag_of}
use Rattle.written.specs.Written.{words}
use Rattle.written.proofs.EntryFields.{words_length}
use Rattle.putting.proofs.BehindHead.{put_behind_head}
use Rattle.putting.proofs.pieces.put_field.Goals as goal

pub returns-clause-put : goal.returns-clause-put
returns-clause-put c =
    let numbers = c.args.numbers.now in
    put_behind_head (tag_of c.args.kind) (2 * length numbers) (words numbers) _ _ _ (sym (words_length numbers)) c.put_head.ensures c.put_numbers.ensures
