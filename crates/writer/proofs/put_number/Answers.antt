-- The bytes that are copied are the last of the number's.
use Rattle.writer.proofs.Kit.{◌∙◌, arith, bytes}
use Rattle.writer.proofs.Bytes.{length-bytes, part_put, last_bytes}
use Rattle.writer.proofs.put_number.Goals as goal

pub returns : goal.returns
returns c =
    let a = c.args in
    let size = length-bytes a.width a.n in
    part_put a.out.now (bytes a.width a.n) a.at _ (omega (arith, size)) (omega (arith, size, c.requires)) (c.copy_from_slice.ensures.after ∙ last_bytes a.width a.n c.requires.0 c.to_be_bytes-bytes.ensures)
