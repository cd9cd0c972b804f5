use Rattle.ffv1_commands.proofs.holdings.write_filed.Goals as goal

pub returns : goal.returns
returns g c = record { reported = c.write_holding.ensures.reported c.args.holding c.as_filed-filed.ensures; untouched = c.write_holding.ensures.untouched }

pub write_holding-requires : goal.write_holding-requires
write_holding-requires g c = record { filed = (c.args.holding, c.as_filed-filed.ensures) }
