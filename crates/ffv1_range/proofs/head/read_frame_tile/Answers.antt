use Rattle.std.proofs.Common.{rules}
use Rattle.ffv1_range.proofs.TileHeaderFound.{given}
use Rattle.ffv1_range.proofs.head.read_frame_tile.Goals as goal

pub returns-in_err-decoder : goal.returns-in_err-decoder
returns-in_err-decoder c = given _ _ _ _ (search rules)

pub returns-in_err-header : goal.returns-in_err-header
returns-in_err-header c = given _ _ _ _ (search rules)

pub returns-in_err-end_header : goal.returns-in_err-end_header
returns-in_err-end_header c = given _ _ _ _ (search rules)

pub returns : goal.returns
returns c = given _ _ _ _ (search rules)
