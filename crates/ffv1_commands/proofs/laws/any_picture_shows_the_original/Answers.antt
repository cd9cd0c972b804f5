use Rattle.ffv1_commands.proofs.AnyPictureLaws.{any_picture_shows_the_original, any_picture_shows_near_copies, any_picture_shows_the_keyframe}
use Rattle.ffv1_commands.proofs.laws.any_picture_shows_the_original.Goals as goal

pub returns-clause-original : goal.returns-clause-original
returns-clause-original c = any_picture_shows_the_original

pub returns-clause-near : goal.returns-clause-near
returns-clause-near c = any_picture_shows_near_copies

pub returns-clause-keyframe : goal.returns-clause-keyframe
returns-clause-keyframe c = any_picture_shows_the_keyframe
