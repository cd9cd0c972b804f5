use Rattle.ffv1_splice.proofs.FirstSlices.{put_size}
use Rattle.ffv1_splice.proofs.sized.set_size.Goals as goal

pub returns : goal.returns
returns c = put_size c.args.bytes.now c.write_u24.new.buf c.requires.footer c.write_u24.ensures
