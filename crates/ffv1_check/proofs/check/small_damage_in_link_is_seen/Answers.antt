use Rattle.ffv1_check.proofs.LinkDamage.{small_damage_in_link_is_seen}
use Rattle.ffv1_check.proofs.check.small_damage_in_link_is_seen.Goals as goal

pub returns : goal.returns
returns c = small_damage_in_link_is_seen
