use Rattle.std.proofs.Common.{◌∙◌}
use Rattle.ffv1_range.specs.Header.{header_limits}
use Rattle.ffv1_range.proofs.HeaderFound.{head_is_found, head_run}
use Rattle.ffv1_range.proofs.head.read_head.Goals as goal

pub returns-clause-found : goal.returns-clause-found
returns-clause-found c =
    head_is_found (header_limits c.args.setup.now) c.args.content.now c.args.first c.read_head_within.result
    c.read_head_within.ensures

pub returns-clause-only : goal.returns-clause-only
returns-clause-only c =
    λ head place h. c.read_head_within.ensures
    ∙ head_run (header_limits c.args.setup.now) c.args.content.now c.args.first head place h
