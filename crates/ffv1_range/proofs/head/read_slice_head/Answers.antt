use Rattle.std.proofs.Common.{rules}
use Rattle.ffv1_range.proofs.SliceHeaderFound.{given}
use Rattle.ffv1_range.proofs.head.read_slice_head.Goals as goal

pub returns-in_err-decoder : goal.returns-in_err-decoder
returns-in_err-decoder c = given _ _ _ _ (search rules)

pub returns-in_err-header : goal.returns-in_err-header
returns-in_err-header c = given _ _ _ _ (search rules)

pub returns-in_err-start : goal.returns-in_err-start
returns-in_err-start c = given _ _ _ _ (search rules)

pub returns-in_err-header-2 : goal.returns-in_err-header-2
returns-in_err-header-2 c = given _ _ _ _ (search rules)

pub returns : goal.returns
returns c = given _ _ _ _ (search rules)
